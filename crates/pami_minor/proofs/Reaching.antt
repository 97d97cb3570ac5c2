-- A row that remains is brought behind a step: what is worked out is what is solved at the next basis.
use Rattle.std.proofs.Common.{◌≡◌, ℕ, ◌-◌, ◌*◌, ◌/◌, ◌<◌, ◌≤◌, ⊎_elim, true, not, cond, nat_eq, List, length, None, Some, Result, Ok, Err, refl, sym, ap, ◌∙◌, subst, arith, true≢false}
use Rattle.std.proofs.lemmas.Option.{same_Some}
use Rattle.std.proofs.lemmas.Bool.{cases_lt, lt-ltb, le-ltb, eq-eqb}
use Rattle.pami_algebra.specs.Fraction.{Fraction}
use Rattle.pami_frac.specs.Answers.{FollowsBy}
use Rattle.pami_frac.specs.Arithmetic.{sub_outcome, div_outcome}
use Rattle.pami_frac.specs.declared.arithmetic.Refused.{Refused}
use Rattle.pami_frac.specs.declared.fault.Fault.{Fault}
use Rattle.pami_frac.specs.declared.fault.Fault.TheVariants as faults
use Rattle.pami_linear.specs.Lists.{get}
use Rattle.pami_script.specs.Script.{then, each_member, add_product, sub_product, add_dot}
use Rattle.pami_script.proofs.Scripts.{then_ok, then_same, each_same}
use Rattle.pami_script.specs.Dense.{at}
use Rattle.pami_vec.specs.Scripts.{dot_script, take_times_script}
use Rattle.pami_vec.specs.declared.step.Step.{Step}
use Rattle.pami_theory.specs.Form as theory
use Rattle.pami_theory.specs.Form.{variables, coefficient, zero_f}
use Rattle.pami_theory.specs.Basis.{Basis, stand_at}
use Rattle.pami_theory.specs.Fresh.{Fresh, IsFresh, row_at, value_at_place}
use Rattle.pami_theory.specs.Ratio.{row_entry}
use Rattle.pami_theory.specs.Step as theory_step
use Rattle.pami_theory.specs.Step.{flips_change, theta}
use Rattle.pami_theory.specs.Weights.{weight_at, lesser}
use Rattle.pami_theory.specs.Choice.{InfeasibleRow}
use Rattle.pami_theory.proofs.Members.{Has, has_from, contains_from, filter_has}
use Rattle.pami_method.specs.Batch as batch
use Rattle.pami_method.specs.Batch.{Reached, places, staying}
use Rattle.pami_method.specs.Task.{refusal}
use Rattle.pami_method.specs.Scripts.{reach_script, is_nonbasic, nonbasic_in}
use Rattle.pami_method.proofs.Values.{dot_value}
use Rattle.pami_devex.specs.Weights.{weight_beside}
use Rattle.pami_price.specs.Agreement.{nonzero_entries}
use Rattle.pami_price.proofs.Rows.{kept_value}
use Rattle.pami_deferral.specs.Inside.{IsPlaced}
use Rattle.pami_deferral.specs.Factored.{ReachedRow, reached_script}
use Rattle.pami_deferral.proofs.Chains.{Links, pivot_links}
use Rattle.pami_deferral.proofs.KeptTurns.{row_is, weight_is}
use Rattle.pami_deferral.proofs.Pivots.{weight_there, next_placed}
use Rattle.pami_deferral.proofs.ReachScripts.{reached_refusal, reached_fresh}
use Rattle.pami_minor.specs.declared.row.Reached as program
use Rattle.pami_minor.specs.Reach.{reach_by}
use Rattle.pami_minor.specs.Steps.{IsStepOf}
use Rattle.pami_minor.specs.Behind.{IsReachedRow, IsBeforeReach, FollowsReach}
use Rattle.pami_minor.proofs.Places.{place_of_has}

-- ---- the same operations
dot_is : (f : theory.Form) (row column : List Fraction) (v : ℕ → Fraction) → length row ≡ f.rows → ((h : ℕ) → h < f.rows → get column h ≡ v h)
    → dot_script row column ≡ add_dot f.rows (get row) v zero_f
unfolding dot_script
dot_is f row column v l e =
    ap (λ n. add_dot n (get row) (get column) zero_f) l
    ∙ each_same f.rows 0 (λ i t. add_product t (get row i) (get column i)) (λ i t. add_product t (get row i) (v i)) zero_f
    (λ p a b t. ap (add_product t (get row p)) (e p (omega (arith, b))))

take_is : (row pivot : List Fraction) (k : Fraction) → take_times_script row k pivot ≡ each_member (λ h u. sub_product u k (get pivot h)) 0 row
unfolding take_times_script
take_is row pivot k = refl

then_then : {A B C : Type 0} (r : Result A Refused) (g : A → Result B Refused) (h : B → Result C Refused) → then (then r g) h ≡ then r (λ x. then (g x) h)
then_then (Ok x) g h = refl
then_then (Err d) g h = refl

abbrev row_seen : program.Reached → ReachedRow
row_seen row = record { value = row.value; rho = row.rho }

-- the lists of the program are those of the basis
record AreReach (f : theory.Form) (b : Basis) (s : Fresh) (t : theory_step.Step) (i : ℕ) (column : List Fraction) (step : Step) (pivot : Fraction)
    (rho_p : List Fraction) (row : program.Reached) : Type 0 where
  fresh : IsFresh f b s
  low : i < f.rows
  column_is : (h : ℕ) → h < f.rows → get column h ≡ coefficient f t.entering h
  flips : (h : ℕ) → h < f.rows → get step.flip_column h ≡ flips_change f b t.flips h
  theta_is : step.theta ≡ theta f b s t
  pivot_is : pivot ≡ row_entry f (row_at s t.place) t.entering
  rho_p_is : rho_p ≡ row_at s t.place
  rho : row.rho ≡ row_at s i
  value : row.value ≡ value_at_place b s i

reach_is : (f : theory.Form) (b : Basis) (s : Fresh) (t : theory_step.Step) (i : ℕ) (column : List Fraction) (step : Step) (pivot : Fraction)
    (rho_p : List Fraction) (weight_p : ℕ) (row : program.Reached) → AreReach f b s t i column step pivot rho_p row
    → then (reach_by column step pivot rho_p weight_p row) (λ (r : program.Reached). Ok (row_seen r)) ≡ reached_script f b s t (theta f b s t) i
reach_is f b s t i column step pivot rho_p weight_p row a =
    let rho : List Fraction = row_at s i in
    let x : Fraction = value_at_place b s i in
    let n : length rho ≡ f.rows = a.fresh.row_by_row i a.low in
    let last : Fraction → Fraction → Fraction → Result program.Reached Refused = λ alpha y share.
    then (take_times_script row.rho share rho_p) (λ next.
    Ok (record { place = row.place; value = y; weight = weight_beside row.weight alpha pivot weight_p; rho = next })) in
    then_then (dot_script row.rho column) _ _
    ∙ ap (λ r. then r (λ alpha. then (then (dot_script row.rho step.flip_column) (λ change. then (sub_outcome row.value change) (λ z.
    then (sub_product z step.theta alpha) (λ y. then (div_outcome alpha pivot) (λ share. last alpha y share))))) (λ (w : program.Reached). Ok (row_seen w))))
    (ap (λ rs. dot_script rs column) a.rho ∙ dot_is f rho column (coefficient f t.entering) n a.column_is)
    ∙ then_same (add_dot f.rows (get rho) (coefficient f t.entering) zero_f) _ _ (λ alpha.
    then_then (dot_script row.rho step.flip_column) _ _
    ∙ ap (λ r. then r (λ change. then (then (sub_outcome row.value change) (λ z. then (sub_product z step.theta alpha) (λ y.
    then (div_outcome alpha pivot) (λ share. last alpha y share)))) (λ (w : program.Reached). Ok (row_seen w))))
    (ap (λ rs. dot_script rs step.flip_column) a.rho ∙ dot_is f rho step.flip_column (flips_change f b t.flips) n a.flips)
    ∙ then_same (add_dot f.rows (get rho) (flips_change f b t.flips) zero_f) _ _ (λ change.
    then_then (sub_outcome row.value change) _ _
    ∙ ap (λ v. then (sub_outcome v change) (λ z. then (then (sub_product z step.theta alpha) (λ y. then (div_outcome alpha pivot) (λ share. last alpha y share)))
    (λ (w : program.Reached). Ok (row_seen w)))) a.value
    ∙ then_same (sub_outcome x change) _ _ (λ z.
    then_then (sub_product z step.theta alpha) _ _
    ∙ ap (λ th. then (sub_product z th alpha) (λ y. then (then (div_outcome alpha pivot) (λ share. last alpha y share)) (λ (w : program.Reached). Ok (row_seen w)))) a.theta_is
    ∙ then_same (sub_product z (theta f b s t) alpha) _ _ (λ y.
    then_then (div_outcome alpha pivot) _ _
    ∙ ap (λ q. then (div_outcome alpha q) (λ share. then (last alpha y share) (λ (w : program.Reached). Ok (row_seen w)))) a.pivot_is
    ∙ then_same (div_outcome alpha (row_entry f (row_at s t.place) t.entering)) _ _ (λ share.
    then_then (take_times_script row.rho share rho_p) _ _
    ∙ ap (λ r. then r (λ next. Ok (record { value = y; rho = next })))
    (ap (λ rs. take_times_script rs share rho_p) a.rho ∙ ap (take_times_script rho share) a.rho_p_is ∙ take_is rho (row_at s t.place) share))))))

-- ---- its place and weight
reach_rest : (f : theory.Form) (b : Basis) (s : Fresh) (t : theory_step.Step) (i : ℕ) (column : List Fraction) (step : Step) (pivot : Fraction)
    (rho_p : List Fraction) (weight_p : ℕ) (row next : program.Reached) → AreReach f b s t i column step pivot rho_p row
    → reach_by column step pivot rho_p weight_p row ≡ Ok next
    → (next.place ≡ row.place) × (next.weight ≡ weight_beside row.weight (row_entry f (row_at s i) t.entering) pivot weight_p)
reach_rest f b s t i column step pivot rho_p weight_p row next a e =
    let p = then_ok (dot_script row.rho column) _ next e in
    let q = then_ok (dot_script row.rho step.flip_column) _ next p.1.1 in
    let u = then_ok (sub_outcome row.value q.0) _ next q.1.1 in
    let v = then_ok (sub_product u.0 step.theta p.0) _ next u.1.1 in
    let w = then_ok (div_outcome p.0 pivot) _ next v.1.1 in
    let z = then_ok (take_times_script row.rho w.0 rho_p) _ next w.1.1 in
    let same : record { place = row.place; value = v.0; weight = weight_beside row.weight p.0 pivot weight_p; rho = z.0 } ≡ next = cc (z.1.1) in
    let n : length (row_at s i) ≡ f.rows = a.fresh.row_by_row i a.low in
    let alpha : p.0 ≡ row_entry f (row_at s i) t.entering =
    dot_value f.rows (get (row_at s i)) (coefficient f t.entering) p.0
    (sym (ap (λ rs. dot_script rs column) a.rho ∙ dot_is f (row_at s i) column (coefficient f t.entering) n a.column_is) ∙ p.1.0) in (
      sym (ap (λ (r : program.Reached). r.place) same),
      sym (ap (λ (r : program.Reached). r.weight) same) ∙ ap (λ al. weight_beside row.weight al pivot weight_p) alpha,
    )

-- ---- a row that remains behind the step
pub left_out : (f : theory.Form) (limit : ℕ) (m : batch.Minor) (next : Reached) (x : InfeasibleRow) → Links f m next → Has next.rows x → ¬ (x.place ≡ m.step.place)
left_out f limit m next x k h e =
    let kept = (filter_has (λ (y : InfeasibleRow). not (nat_eq y.place m.step.place)) (staying f m.reached) x
    (subst (λ xs. Has xs x) k.reaches.rows h)).1 in
    true≢false (sym kept ∙ ap not (eq-eqb x.place m.step.place e))

err_of : {A : Type 0} (s : Result A Refused) (d : Refused) → refusal s ≡ Some d → s ≡ Err d
err_of (Ok x) d e = absurd (cc)
err_of (Err r) d e = ap Err (same_Some r d e)

-- with the row that remains there
reach_behind : (f : theory.Form) (limit : ℕ) (m : batch.Minor) (next : Reached) (x : InfeasibleRow) (place : ℕ) (column : List Fraction) (step : Step)
    (pivot : Fraction) (rho_p : List Fraction) (weight_p : ℕ) (row : program.Reached) (result : Result program.Reached (Fault Refused)) → Links f m next
    → IsPlaced f m.reached → Has next.rows x → x.place ≡ place → ((h : ℕ) → h < f.rows → get column h ≡ coefficient f m.step.entering h)
    → IsStepOf f m.reached.basis m.reached.fresh m.step step → pivot ≡ row_entry f (row_at m.reached.fresh m.step.place) m.step.entering
    → rho_p ≡ row_at m.reached.fresh m.step.place → weight_p ≡ weight_at m.reached.weights m.step.place → IsReachedRow m.reached x.place row
    → FollowsBy (λ r. r) (reach_by column step pivot rho_p weight_p row) result → FollowsReach f m next place result
reach_behind f limit m next x place column step pivot rho_p weight_p row result links placed here e col st pv rp wp fresh o =
    let r : Reached = m.reached in
    let low : x.place < f.rows = (next_placed f m next links placed).rows x (contains_from next.rows x here) in
    let a : AreReach f r.basis r.fresh m.step x.place column step pivot rho_p row = record {
      fresh = links.step.fresh;
      low = low;
      column_is = col;
      flips = st.flips;
      theta_is = st.theta_is;
      pivot_is = pv;
      rho_p_is = rp;
      rho = fresh.rho;
      value = fresh.value;
    } in
    go result a low o
  where
    go : (res : Result program.Reached (Fault Refused)) → AreReach f m.reached.basis m.reached.fresh m.step x.place column step pivot rho_p row
        → x.place < f.rows → FollowsBy (λ r. r) (reach_by column step pivot rho_p weight_p row) res → FollowsReach f m next place res
    go (Ok reached) a low h =
        let r : Reached = m.reached in
        let script = sym (reach_is f r.basis r.fresh m.step x.place column step pivot rho_p weight_p row a)
        ∙ ap (λ s. then s (λ (w : program.Reached). Ok (row_seen w))) h in
        let there = reached_fresh f m next x.place (row_seen reached) links low (left_out f limit m next x links here) script in
        let rest = reach_rest f r.basis r.fresh m.step x.place column step pivot rho_p weight_p row reached a h in
        let weight : reached.weight ≡ weight_at next.weights x.place =
        rest.1
        ∙ ap (λ w. weight_beside w (row_entry f (row_at r.fresh x.place) m.step.entering) pivot weight_p) fresh.weight
        ∙ ap (λ q. weight_beside (weight_at r.weights x.place) (row_entry f (row_at r.fresh x.place) m.step.entering) q weight_p)
        (pv ∙ ap (λ rs. row_entry f rs m.step.entering) (sym (row_is r m.step.place links.place)))
        ∙ ap (weight_beside (weight_at r.weights x.place) (row_entry f (row_at r.fresh x.place) m.step.entering) _)
        (wp ∙ sym (weight_is r m.step.place links.place))
        ∙ weight_there f m next x links placed low (left_out f limit m next x links here) in (
          record {
            place_is = rest.0 ∙ fresh.place_is ∙ e;
            value = there.0 ∙ ap (value_at_place next.basis next.fresh) e;
            weight = weight ∙ ap (weight_at next.weights) e;
            rho = there.1 ∙ ap (row_at next.fresh) e;
          },
          subst (λ q. refusal (reach_script f r.basis r.fresh m.step (theta f r.basis r.fresh m.step) q) ≡ None) e
              (sym (reached_refusal f r.basis r.fresh m.step (theta f r.basis r.fresh m.step) x.place) ∙ ap refusal script),
        )
    go (Err (faults.Named d)) a low h =
        let r : Reached = m.reached in
        let script = sym (reach_is f r.basis r.fresh m.step x.place column step pivot rho_p weight_p row a)
        ∙ ap (λ s. then s (λ (w : program.Reached). Ok (row_seen w))) h in
        subst (λ q. reach_script f r.basis r.fresh m.step (theta f r.basis r.fresh m.step) q ≡ Err d) e
        (err_of (reach_script f r.basis r.fresh m.step (theta f r.basis r.fresh m.step) x.place) d
        (sym (reached_refusal f r.basis r.fresh m.step (theta f r.basis r.fresh m.step) x.place) ∙ ap refusal script))
    go (Err faults.OutOfMemory) a low h = tt

pub reach_follows : (f : theory.Form) (limit : ℕ) (m : batch.Minor) (next : Reached) (column : List Fraction) (step : Step) (pivot : Fraction)
    (rho_p : List Fraction) (weight_p : ℕ) (row : program.Reached) (result : Result program.Reached (Fault Refused))
    → IsBeforeReach f limit m next step pivot rho_p weight_p row → ((h : ℕ) → h < f.rows → get column h ≡ coefficient f m.step.entering h)
    → FollowsBy (λ r. r) (reach_by column step pivot rho_p weight_p row) result → FollowsReach f m next row.place result
reach_follows f limit m next column step pivot rho_p weight_p row result b col o =
    let x = place_of_has next.rows row.place (has_from (places next.rows) row.place b.remains) in
    reach_behind f limit m next x.0 row.place column step pivot rho_p weight_p row result (pivot_links f limit m next b.pivot) b.placed x.1 x.2 col b.step_is
    b.alpha_pq_is b.rho_p_is b.weight_p_is (subst (λ p. IsReachedRow m.reached p row) (sym x.2) b.row_is) o

-- ---- the pivot, in its slice
above : (a b x : ℕ) → x < a → x < b → x < lesser a b
above a b x l m = ⊎_elim
    (λ (h : a < b). let e : lesser a b ≡ a = ap (λ t. cond t a b) (lt-ltb a b h) in omega arith)
    (λ (h : b ≤ a). let e : lesser a b ≡ b = ap (λ t. cond t a b) (le-ltb a b h) in omega arith)
    (cases_lt a b)

pub in_slice : (f : theory.Form) (b : Basis) (row : ℕ → Fraction) (q : ℕ) → q < variables f → is_nonbasic (stand_at b q) ≡ true
    → at (nonzero_entries row (nonbasic_in f b (q / 64))) q ≡ row q
in_slice f b row q l n =
    let u = above 64 (variables f - 64 * (q / 64)) (q - 64 * (q / 64)) (omega arith) (omega arith) in
    kept_value (λ v. is_nonbasic (stand_at b v)) row (64 * (q / 64)) (lesser 64 (variables f - 64 * (q / 64))) q (omega arith) (omega (arith, u))
    ∙ ap (λ t. cond t (row q) zero_f) n
