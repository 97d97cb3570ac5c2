-- A row that remains at a pivot: its script with the value is that of a reach, and gives what is fresh behind the pivot.
use Rattle.std.proofs.Common.{◌≡◌, ℕ, ◌<◌, List, length, Result, Ok, Err, refl, sym, ap, ◌∙◌, subst}
use Rattle.pami_algebra.specs.Fraction.{Fraction}
use Rattle.pami_algebra.specs.Operations.{◌-ᶠ◌, ◌*ᶠ◌}
use Rattle.pami_frac.specs.Arithmetic.{sub_outcome, div_outcome}
use Rattle.pami_frac.specs.declared.arithmetic.Refused.{Refused}
use Rattle.pami_frac.proofs.Outcomes.{sub_value}
use Rattle.pami_linear.specs.Lists.{get}
use Rattle.pami_linear.specs.Sums.{dot}
use Rattle.pami_script.specs.Script.{then, each_member, sub_product, add_dot}
use Rattle.pami_script.proofs.Scripts.{then_ok, then_go}
use Rattle.pami_script.proofs.Members.{length_members}
use Rattle.pami_script.proofs.Values.{sub_product_value}
use Rattle.pami_theory.specs.Form.{Form, coefficient, zero_f}
use Rattle.pami_theory.specs.Basis.{Basis}
use Rattle.pami_theory.specs.Fresh.{Fresh, row_at, value_at_place}
use Rattle.pami_theory.specs.Ratio.{row_entry}
use Rattle.pami_theory.specs.Step.{Step, flips_change, theta}
use Rattle.pami_theory.proofs.NextRows as rows
use Rattle.pami_theory.proofs.NextValues.{place_value_other}
use Rattle.pami_method.specs.Task.{refusal}
use Rattle.pami_method.specs.Scripts.{reach_script}
use Rattle.pami_method.specs.Batch.{Reached, Minor}
use Rattle.pami_method.proofs.Values.{dot_value, reach_value}
use Rattle.pami_deferral.specs.Factored.{ReachedRow, reached_script}
use Rattle.pami_deferral.proofs.CollectedValues.{same_below}
use Rattle.pami_deferral.proofs.Chains.{Links, next_fresh}

-- ---- the same operations
refusal_then : {A B C : Type 0} (r : Result A Refused) (g : A → Result B Refused) (h : A → Result C Refused)
    → ((x : A) → refusal (g x) ≡ refusal (h x)) → refusal (then r g) ≡ refusal (then r h)
refusal_then (Ok x) g h e = e x
refusal_then (Err r) g h e = refl

refusal_done : {A B : Type 0} (r : Result A Refused) (g : A → B) → refusal (then r (λ x. Ok (g x))) ≡ refusal r
refusal_done (Ok x) g = refl
refusal_done (Err r) g = refl

pub reached_refusal : (f : Form) (b : Basis) (s : Fresh) (t : Step) (step : Fraction) (i : ℕ)
    → refusal (reached_script f b s t step i) ≡ refusal (reach_script f b s t step i)
reached_refusal f b s t step i =
    refusal_then (add_dot f.rows (get (row_at s i)) (coefficient f t.entering) zero_f) _ _ (λ alpha.
    refusal_then (add_dot f.rows (get (row_at s i)) (flips_change f b t.flips) zero_f) _ _ (λ phi.
    refusal_then (sub_outcome (value_at_place b s i) phi) _ _ (λ x.
    refusal_then (sub_product x step alpha) _ _ (λ y.
    refusal_then (div_outcome alpha (row_entry f (row_at s t.place) t.entering)) _ _ (λ k.
    refusal_done (each_member (λ h u. sub_product u k (get (row_at s t.place) h)) 0 (row_at s i))
    (λ rho. record { value = y; rho = rho }))))))

-- ---- its parts
record Parts (f : Form) (b : Basis) (s : Fresh) (t : Step) (step : Fraction) (i : ℕ) (r : ReachedRow) : Type 0 where
  value : r.value ≡ (value_at_place b s i -ᶠ dot f.rows (get (row_at s i)) (flips_change f b t.flips)) -ᶠ step *ᶠ row_entry f
      (row_at s i) t.entering
  rho : reach_script f b s t step i ≡ Ok r.rho

value_by : (x u step entry phi alpha z y : Fraction) → phi ≡ u → alpha ≡ entry → sub_outcome x phi ≡ Ok z → sub_product z step alpha ≡ Ok y
    → y ≡ (x -ᶠ u) -ᶠ step *ᶠ entry
value_by x u step entry phi alpha z y e h k m =
    sub_product_value z step alpha y m
    ∙ ap (λ w. w -ᶠ step *ᶠ alpha) (sub_value x phi z k ∙ ap (λ w. x -ᶠ w) e)
    ∙ ap (λ w. (x -ᶠ u) -ᶠ step *ᶠ w) h

parts : (f : Form) (b : Basis) (s : Fresh) (t : Step) (step : Fraction) (i : ℕ) (r : ReachedRow) → reached_script f b s t step i ≡ Ok r
    → Parts f b s t step i r
parts f b s t step i r e =
    let pivot : Fraction = row_entry f (row_at s t.place) t.entering in
    let a = then_ok (add_dot f.rows (get (row_at s i)) (coefficient f t.entering) zero_f) _ r e in
    let c = then_ok (add_dot f.rows (get (row_at s i)) (flips_change f b t.flips) zero_f) _ r a.1.1 in
    let d = then_ok (sub_outcome (value_at_place b s i) c.0) _ r c.1.1 in
    let g = then_ok (sub_product d.0 step a.0) _ r d.1.1 in
    let k = then_ok (div_outcome a.0 pivot) _ r g.1.1 in
    let rho = then_ok (each_member (λ h u. sub_product u k.0 (get (row_at s t.place) h)) 0 (row_at s i))
    (λ (rho : List Fraction). Ok (record { value = g.0; rho = rho })) r k.1.1 in
    let same : record { value = g.0; rho = rho.0 } ≡ r = cc (rho.1.1) in
    record {
      value = ap (λ (z : ReachedRow). z.value) (sym same)
          ∙ value_by (value_at_place b s i) (dot f.rows (get (row_at s i)) (flips_change f b t.flips)) step
          (row_entry f (row_at s i) t.entering) c.0 a.0 d.0 g.0
          (dot_value f.rows (get (row_at s i)) (flips_change f b t.flips) c.0 c.1.0)
          (dot_value f.rows (get (row_at s i)) (coefficient f t.entering) a.0 a.1.0) d.1.0 g.1.0;
      rho = then_go (add_dot f.rows (get (row_at s i)) (coefficient f t.entering) zero_f) _ a.0 a.1.0
          ∙ then_go (add_dot f.rows (get (row_at s i)) (flips_change f b t.flips) zero_f) _ c.0 c.1.0
          ∙ then_go (sub_outcome (value_at_place b s i) c.0) _ d.0 d.1.0
          ∙ then_go (sub_product d.0 step a.0) _ g.0 g.1.0
          ∙ then_go (div_outcome a.0 pivot) _ k.0 k.1.0
          ∙ rho.1.0 ∙ ap (λ (z : ReachedRow). Ok z.rho) same;
    }

-- ---- fresh behind the pivot
pub reached_fresh : (f : Form) (m : Minor) (next : Reached) (i : ℕ) (r : ReachedRow) → Links f m next → i < f.rows → ¬ (i ≡ m.step.place)
    → reached_script f m.reached.basis m.reached.fresh m.step (theta f m.reached.basis m.reached.fresh m.step) i ≡ Ok r
    → (r.value ≡ value_at_place next.basis next.fresh i) × (r.rho ≡ row_at next.fresh i)
reached_fresh f m next i r k l n e =
    let b : Basis = m.reached.basis in
    let s : Fresh = m.reached.fresh in
    let t : Step = m.step in
    let fresh = next_fresh f m next k in
    let p = parts f b s t (theta f b s t) i r e in
    let tall : length (row_at s i) ≡ f.rows = k.step.fresh.row_by_row i l in
    let long : length r.rho ≡ f.rows = reach_length f b s t (theta f b s t) i r.rho p.rho ∙ tall in (
      p.value ∙ sym (place_value_other f b s m.row.place m.row.violation t next.fresh i k.step fresh l n)
          ∙ ap (λ c. value_at_place c next.fresh i) (sym k.reaches.basis),
      same_below f.rows r.rho (row_at next.fresh i) long (fresh.row_by_row i l)
          (λ h j. reach_value f b s t (theta f b s t) i r.rho h p.rho (subst (λ c. h < c) (sym tall) j)
          ∙ sym (rows.row_behind f b s m.row.place m.row.violation t next.fresh i h k.step fresh l j n)),
    )
  where
    reach_length : (f : Form) (b : Basis) (s : Fresh) (t : Step) (step : Fraction) (i : ℕ) (xs : List Fraction)
        → reach_script f b s t step i ≡ Ok xs → length xs ≡ length (row_at s i)
    reach_length f b s t step i xs e =
        let a = then_ok (add_dot f.rows (get (row_at s i)) (coefficient f t.entering) zero_f) _ xs e in
        let c = then_ok (add_dot f.rows (get (row_at s i)) (flips_change f b t.flips) zero_f) _ xs a.1.1 in
        let d = then_ok (sub_outcome (value_at_place b s i) c.0) _ xs c.1.1 in
        let g = then_ok (sub_product d.0 step a.0) _ xs d.1.1 in
        let k = then_ok (div_outcome a.0 (row_entry f (row_at s t.place) t.entering))
        (λ k. each_member (λ h u. sub_product u k (get (row_at s t.place) h)) 0 (row_at s i)) xs g.1.1 in
        length_members (λ h u. sub_product u k.0 (get (row_at s t.place) h)) 0 (row_at s i) xs k.1.1
