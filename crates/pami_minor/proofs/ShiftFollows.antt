-- A slice of the reduced costs behind a step: they are brought to the next basis by the method's operations.
use Rattle.std.proofs.Common.{◌≡◌, ℕ, zero, suc, ◌+◌, ◌-◌, ◌*◌, ◌<◌, ◌≤◌, ⊎_elim, Bool, true, false, cond, not, nat_eq, List, [], ◌∷◌, length, get_or, Result, Ok, Err, refl, sym, ap, ◌∙◌, subst, arith, true≢false}
use Rattle.std.specs.Global.{Vec}
use Rattle.std.specs.List.{filter, range_with_len}
use Rattle.std.proofs.lemmas.Bool.{cases_eq, cases_lt, eq-eqb, ne_eqb, le-ltb, lt-ltb}
use Rattle.std.proofs.lemmas.List.{get_or_default}
use Rattle.pami_algebra.specs.Fraction.{Fraction}
use Rattle.pami_frac.specs.Answers.{FollowsBy}
use Rattle.pami_frac.specs.declared.arithmetic.Refused.{Refused}
use Rattle.pami_frac.specs.declared.fault.Fault.{Fault}
use Rattle.pami_frac.specs.declared.fault.Fault.TheVariants as faults
use Rattle.pami_frac.specs.declared.list.Entry.{Entry}
use Rattle.pami_linear.specs.Lists.{get}
use Rattle.pami_script.specs.Script.{then, sub_product}
use Rattle.pami_script.specs.Dense.{at}
use Rattle.pami_script.proofs.Values.{sub_product_value}
use Rattle.pami_theory.specs.Form.{Form, variables, zero_f}
use Rattle.pami_theory.specs.Basis.{Basis, head_at, stand_at}
use Rattle.pami_theory.specs.Fresh.{row_at}
use Rattle.pami_theory.specs.Ratio.{toward, turned_entry, row_entry}
use Rattle.pami_theory.specs.Step as theory
use Rattle.pami_theory.specs.Step.{leaving_at, stand_after, stand_on, flipped, is_among}
use Rattle.pami_theory.specs.Weights.{lesser}
use Rattle.pami_theory.specs.declared.words.Side.{Side}
use Rattle.pami_theory.specs.declared.words.Stand.{Stand}
use Rattle.pami_theory.specs.declared.words.Stand.TheVariants.{Basic, Lower, Upper, Zero}
use Rattle.pami_theory.proofs.Tables.{tabled_at}
use Rattle.pami_theory.proofs.NextCosts.{step_reduced}
use Rattle.pami_method.specs.Batch as batch
use Rattle.pami_method.specs.Batch.{Reached}
use Rattle.pami_method.specs.Scripts.{is_nonbasic, nonbasic_in, slice_variables}
use Rattle.pami_price.specs.Agreement.{nonzero_entries}
use Rattle.pami_price.proofs.Rows.{kept_value}
use Rattle.pami_price.specs.Slices.{slices}
use Rattle.pami_deferral.specs.SolvedBatch.{IsSolvedPivot}
use Rattle.pami_deferral.proofs.Chains.{pivot_links, next_fresh, next_basis}
use Rattle.pami_vec.specs.declared.step.Step.{Step}
use Rattle.pami_minor.specs.declared.minor.Minor.{Minor}
use Rattle.pami_minor.specs.Costs.{costs, had_cost}
use Rattle.pami_minor.specs.Shift.{shift_by}
use Rattle.pami_minor.specs.Shifts.{is_shifted, IsBeforeShift, FollowsShift}
use Rattle.pami_minor.specs.Steps.{IsStepOf}
use Rattle.pami_minor.specs.Fresh.{IsStepping}
use Rattle.pami_minor.proofs.Shifting.{IsShiftOf, IsShifting, shifting, answered, refused}
use Rattle.pami_minor.proofs.WalkedRow.{entering_nonbasic}
use Rattle.pami_minor.proofs.ReachReady.{walk_of}
use Rattle.pami_minor.proofs.Nth.{pivot_low}

-- ---- stands behind the step
flips_stay : (b : Bool) (s : Stand) → is_nonbasic (cond b (flipped s) s) ≡ is_nonbasic s
flips_stay false s = refl
flips_stay true Basic = refl
flips_stay true Lower = refl
flips_stay true Upper = refl
flips_stay true Zero = refl

false_both : (b : Bool) → cond b false false ≡ false
false_both true = refl
false_both false = refl

true_else : (b : Bool) → cond b true false ≡ b
true_else true = refl
true_else false = refl

-- which variables were nonbasic before it, by the stands behind it
stood_before : (b : Basis) (t : theory.Step) (now : Stand) (u : ℕ) → now ≡ stand_after b t u → (u ≡ t.leaving → stand_at b u ≡ Basic)
    → (u ≡ t.entering → is_nonbasic (stand_at b u) ≡ true)
    → cond (is_nonbasic now) (not (nat_eq u t.leaving)) (nat_eq u t.entering) ≡ is_nonbasic (stand_at b u)
stood_before b t now u e out enters =
    let kept : Stand = cond (is_among u t.flips) (flipped (stand_at b u)) (stand_at b u) in
    ap (λ s. cond (is_nonbasic s) (not (nat_eq u t.leaving)) (nat_eq u t.entering)) e
    ∙ ⊎_elim
    (λ (h : u ≡ t.entering).
    ap (λ c. cond (is_nonbasic (cond c Basic (cond (nat_eq u t.leaving) (stand_on t.side) kept))) (not (nat_eq u t.leaving)) c) (eq-eqb u t.entering h)
    ∙ sym (enters h))
    (λ (n : ¬ (u ≡ t.entering)).
    ap (λ c. cond (is_nonbasic (cond c Basic (cond (nat_eq u t.leaving) (stand_on t.side) kept))) (not (nat_eq u t.leaving)) c) (ne_eqb u t.entering n)
    ∙ ⊎_elim
    (λ (h : u ≡ t.leaving).
    ap (λ c. cond (is_nonbasic (cond c (stand_on t.side) kept)) (not c) false) (eq-eqb u t.leaving h)
    ∙ false_both (is_nonbasic (stand_on t.side))
    ∙ sym (ap is_nonbasic (out h)))
    (λ (m : ¬ (u ≡ t.leaving)).
    ap (λ c. cond (is_nonbasic (cond c (stand_on t.side) kept)) (not c) false) (ne_eqb u t.leaving m)
    ∙ ap (λ c. cond c true false) (flips_stay (is_among u t.flips) (stand_at b u))
    ∙ true_else (is_nonbasic (stand_at b u)))
    (cases_eq u t.leaving))
    (cases_eq u t.entering)

both_true : (b c : Bool) → cond b c false ≡ true → (b ≡ true) × (c ≡ true)
both_true true c e = (refl, e)
both_true false c e = absurd (true≢false (sym e))

not_equal : (b : Bool) → not b ≡ true → b ≡ false
not_equal true e = sym e
not_equal false e = refl

above : (a b x : ℕ) → x < lesser a b → x < b
above a b x l = ⊎_elim
    (λ (h : a < b). let e : lesser a b ≡ a = ap (λ t. cond t a b) (lt-ltb a b h) in omega arith)
    (λ (h : b ≤ a). let e : lesser a b ≡ b = ap (λ t. cond t a b) (le-ltb a b h) in omega arith)
    (cases_lt a b)

-- a variable of a slice exists
slice_low : (n slice u : ℕ) → 64 * slice ≤ u → u < 64 * slice + lesser 64 (n - 64 * slice) → u < n
slice_low n slice u from upto =
    let up : u - 64 * slice < n - 64 * slice = above 64 (n - 64 * slice) (u - 64 * slice) (omega (arith, from, upto)) in
    omega (arith, up, from)

-- ---- a variable of the slice
shift_of : (f : Form) (limit : ℕ) (m : batch.Minor) (next : Reached) (slice : ℕ) (alpha : List Entry) (step : Step) (side : Side) (u : ℕ)
    → IsSolvedPivot f limit m next → IsStepOf f m.reached.basis m.reached.fresh m.step step → side ≡ m.row.violation.side
    → alpha ≡ nonzero_entries (row_entry f (row_at m.reached.fresh m.row.place)) (nonbasic_in f m.reached.basis slice)
    → 64 * slice ≤ u → u < 64 * slice + lesser 64 (variables f - 64 * slice) →
    IsShiftOf (λ v. sub_product (get m.reached.fresh.reduced v) m.step.tau (turned_entry f (leaving_at m.reached.fresh m.row.place m.row.violation) v))
    alpha step side (is_shifted m) (λ v. is_nonbasic (stand_at m.reached.basis v)) (λ v. not (nat_eq v m.step.entering)) (get m.reached.fresh.reduced)
    (get next.fresh.reduced) u
shift_of f limit m next slice alpha step side u pivot st es ea from upto =
    let b : Basis = m.reached.basis in
    let t : theory.Step = m.step in
    let links = pivot_links f limit m next pivot in
    let low : u < variables f = slice_low (variables f) slice u from upto in
    record {
      test = refl;
      apart = λ p. ap (nat_eq u) st.entering ∙ not_equal (nat_eq u t.entering) (both_true (is_nonbasic (stand_at b u)) (not (nat_eq u t.entering)) p).1;
      script = λ p.
          let nonbasic = (both_true (is_nonbasic (stand_at b u)) (not (nat_eq u t.entering)) p).0 in
          ap (λ x. sub_product (get m.reached.fresh.reduced u) x (toward side (at alpha u))) st.tau
          ∙ ap (λ x. sub_product (get m.reached.fresh.reduced u) t.tau (toward x (at alpha u))) es
          ∙ ap (λ x. sub_product (get m.reached.fresh.reduced u) t.tau (toward m.row.violation.side x))
          (ap (λ xs. at xs u) ea
          ∙ kept_value (λ v. is_nonbasic (stand_at b v)) (row_entry f (row_at m.reached.fresh m.row.place)) (64 * slice) (lesser 64 (variables f - 64 * slice)) u from upto
          ∙ ap (λ c. cond c (row_entry f (row_at m.reached.fresh m.row.place) u) zero_f) nonbasic);
      value = λ y p e.
          sub_product_value (get m.reached.fresh.reduced u) t.tau (turned_entry f (leaving_at m.reached.fresh m.row.place m.row.violation) u) y e
          ∙ sym (step_reduced f b m.reached.fresh m.row.place m.row.violation t next.fresh u links.step (next_fresh f m next links) low);
    }

-- ---- the entering variable is passed over
passed_more : (alpha : List Entry) (step : Step) (side : Side) (g : ℕ → Fraction) (v : ℕ) (all left : List Entry) (a b : Bool) → nat_eq v step.entering ≡ b
    → shift_by alpha step side all ≡ shift_by alpha step side left
    → shift_by alpha step side (cond a (record { place = v; value = g v } ∷ all) all)
    ≡ shift_by alpha step side (cond (cond a (not b) false) (record { place = v; value = g v } ∷ left) left)
passed_more alpha step side g v all left false b e h = h
passed_more alpha step side g v all left true true e h =
    ap (λ c. cond c (shift_by alpha step side all)
    (then (sub_product (g v) step.tau (toward side (at alpha v))) (λ cost.
    then (shift_by alpha step side all) (λ es. Ok (record { place = v; value = cost } ∷ es))))) e
    ∙ h
passed_more alpha step side g v all left true false e h =
    ap (λ o. cond (nat_eq v step.entering) o
    (then (sub_product (g v) step.tau (toward side (at alpha v))) (λ cost. then o (λ es. Ok (record { place = v; value = cost } ∷ es))))) h

passed_over : (alpha : List Entry) (step : Step) (side : Side) (r : ℕ → Bool) (g : ℕ → Fraction) (vs : List ℕ)
    → shift_by alpha step side (costs r g vs) ≡ shift_by alpha step side (costs (λ v. cond (r v) (not (nat_eq v step.entering)) false) g vs)
passed_over alpha step side r g [] = refl
passed_over alpha step side r g (v ∷ vs) =
    passed_more alpha step side g v (costs r g vs) (costs (λ u. cond (r u) (not (nat_eq u step.entering)) false) g vs) (r v) (nat_eq v step.entering) refl
    (passed_over alpha step side r g vs)

-- ---- a slice, over what is solved at the basis before the pivot
slice_shifts : (f : Form) (limit : ℕ) (m : batch.Minor) (next : Reached) (slice : ℕ) (reduced alpha : List Entry) (step : Step) (side : Side)
    → IsBeforeShift f limit m next slice reduced alpha step side →
    IsShifting (λ v. sub_product (get m.reached.fresh.reduced v) m.step.tau (turned_entry f (leaving_at m.reached.fresh m.row.place m.row.violation) v))
    (is_shifted m) (get next.fresh.reduced) (slice_variables (variables f) slice)
    (filter (λ v. not (nat_eq v m.step.entering)) (nonbasic_in f m.reached.basis slice)) 0 (shift_by alpha step side reduced)
slice_shifts f limit m next slice reduced alpha step side b =
    let before : ℕ → Bool = λ v. is_nonbasic (stand_at m.reached.basis v) in
    let g : ℕ → Fraction = get m.reached.fresh.reduced in
    let vs : List ℕ = slice_variables (variables f) slice in
    let here : shift_by alpha step side (costs (is_shifted m) g vs) ≡ shift_by alpha step side reduced =
    ap (λ q. shift_by alpha step side (costs (λ v. cond (before v) (not (nat_eq v q)) false) g vs)) (sym b.step_is.entering)
    ∙ sym (passed_over alpha step side before g vs) ∙ ap (shift_by alpha step side) (sym b.reduced_are) in
    subst (IsShifting (λ v. sub_product (g v) m.step.tau (turned_entry f (leaving_at m.reached.fresh m.row.place m.row.violation) v))
    (is_shifted m) (get next.fresh.reduced) vs (filter (λ v. not (nat_eq v m.step.entering)) (nonbasic_in f m.reached.basis slice)) 0) here
    (shifting (λ v. sub_product (g v) m.step.tau (turned_entry f (leaving_at m.reached.fresh m.row.place m.row.violation) v))
    alpha step side (is_shifted m) before (λ v. not (nat_eq v m.step.entering)) g (get next.fresh.reduced) (lesser 64 (variables f - 64 * slice)) (64 * slice) 0
    (λ u l k. shift_of f limit m next slice alpha step side u b.pivot b.step_is b.side_is b.alpha_are l k))

pub shift_follows : (f : Form) (limit : ℕ) (m : batch.Minor) (next : Reached) (slice : ℕ) (reduced alpha : List Entry) (step : Step) (side : Side)
    (result : Result (Vec Entry) (Fault Refused)) → IsBeforeShift f limit m next slice reduced alpha step side
    → FollowsBy (λ (es : Vec Entry). es.items) (shift_by alpha step side reduced) result → FollowsShift f m next slice result
shift_follows f limit m next slice reduced alpha step side (Ok es) b o =
    answered (λ v. sub_product (get m.reached.fresh.reduced v) m.step.tau (turned_entry f (leaving_at m.reached.fresh m.row.place m.row.violation) v))
    (is_shifted m) (get next.fresh.reduced) (slice_variables (variables f) slice)
    (filter (λ v. not (nat_eq v m.step.entering)) (nonbasic_in f m.reached.basis slice)) (shift_by alpha step side reduced) es.items
    (slice_shifts f limit m next slice reduced alpha step side b) o
shift_follows f limit m next slice reduced alpha step side (Err (faults.Named d)) b o =
    refused (λ v. sub_product (get m.reached.fresh.reduced v) m.step.tau (turned_entry f (leaving_at m.reached.fresh m.row.place m.row.violation) v))
    (is_shifted m) (get next.fresh.reduced) (slice_variables (variables f) slice)
    (filter (λ v. not (nat_eq v m.step.entering)) (nonbasic_in f m.reached.basis slice)) (shift_by alpha step side reduced) d
    (slice_shifts f limit m next slice reduced alpha step side b) o
shift_follows f limit m next slice reduced alpha step side (Err faults.OutOfMemory) b o = tt

-- ---- the slice of a Minor
costs_same : (p q : ℕ → Bool) (g h : ℕ → Fraction) (v n : ℕ) → ((u : ℕ) → v ≤ u → u < v + n → (p u ≡ q u) × (g u ≡ h u))
    → costs p g (range_with_len v n) ≡ costs q h (range_with_len v n)
costs_same p q g h v zero e = refl
costs_same p q g h v (suc n) e =
    let here = e v (omega arith) (omega arith) in
    ap (λ b. cond b (record { place = v; value = g v } ∷ costs p g (range_with_len (v + 1) n)) (costs p g (range_with_len (v + 1) n))) here.0
    ∙ ap (λ x. cond (q v) (record { place = v; value = x } ∷ costs p g (range_with_len (v + 1) n)) (costs p g (range_with_len (v + 1) n))) here.1
    ∙ ap (λ es. cond (q v) (record { place = v; value = h v } ∷ es) es) (costs_same p q g h (v + 1) n (λ u l k. e u (omega arith) (omega arith)))

-- one variable of it
cost_before : (f : Form) (limit : ℕ) (m : batch.Minor) (next : Reached) (i slice : ℕ) (minor : Minor) (step : Step) (u : ℕ)
    → IsStepping f limit m next i slice minor → IsStepOf f m.reached.basis m.reached.fresh m.step step
    → 64 * slice ≤ u → u < 64 * slice + lesser 64 (variables f - 64 * slice)
    → (had_cost minor.stands.items step u ≡ is_nonbasic (stand_at m.reached.basis u)) × (get minor.reduced.items u ≡ get m.reached.fresh.reduced u)
cost_before f limit m next i slice minor step u h st from upto =
    let b : Basis = m.reached.basis in
    let t : theory.Step = m.step in
    let w = walk_of f limit m next h.pivot in
    let many : length b.stands ≡ variables f = h.reached.basis.variables_stand in
    let low : u < variables f = slice_low (variables f) slice u from upto in
    let next_many : length next.basis.stands ≡ variables f = (next_basis f m next (pivot_links f limit m next h.pivot)).variables_stand in
    let now : get_or minor.stands.items u Basic ≡ stand_after b t u =
    ap (λ ss. get_or ss u Basic) h.stands ∙ get_or_default next.basis.stands u Basic Zero (omega (arith, low, next_many))
    ∙ ap (λ (x : Basis). stand_at x u) h.pivot.behind.basis ∙ tabled_at (length b.stands) (stand_after b t) u Zero (omega (arith, low, many)) in
    let leaves : t.leaving ≡ head_at b m.row.place = ap (λ (x : theory.Step). x.leaving) w.by in
    let enters : t.entering ≡ w.entering.variable = ap (λ (x : theory.Step). x.entering) w.by in (
      ap (λ l. cond (is_nonbasic (get_or minor.stands.items u Basic)) (not (nat_eq u l)) (nat_eq u step.entering)) st.leaving
          ∙ ap (λ q. cond (is_nonbasic (get_or minor.stands.items u Basic)) (not (nat_eq u t.leaving)) (nat_eq u q)) st.entering
          ∙ stood_before b t (get_or minor.stands.items u Basic) u now
          (λ e. ap (stand_at b) (e ∙ leaves) ∙ h.reached.basis.basic m.row.place (pivot_low f limit m next h.pivot))
          (λ e. ap (λ v. is_nonbasic (stand_at b v)) (e ∙ enters)
          ∙ (entering_nonbasic f b (leaving_at m.reached.fresh m.row.place m.row.violation) w.entering w.walks).1),
      h.shifted.at u low ∙ ap (λ c. cond c (get next.fresh.reduced u) (get m.reached.fresh.reduced u)) (le-ltb u (64 * slice) from),
    )

pub before_shift : (f : Form) (limit : ℕ) (m : batch.Minor) (next : Reached) (i slice : ℕ) (minor : Minor) (step : Step) (side : Side)
    (kept alpha : List Entry) → IsStepping f limit m next i slice minor → IsStepOf f m.reached.basis m.reached.fresh m.step step
    → side ≡ m.row.violation.side → slice < slices (variables f)
    → kept ≡ costs (had_cost minor.stands.items step) (get minor.reduced.items) (slice_variables (variables f) slice)
    → alpha ≡ get_or minor.alpha.items slice [] → IsBeforeShift f limit m next slice kept alpha step side
before_shift f limit m next i slice minor step side kept alpha h st es l ek ea = record {
  pivot = h.pivot;
  step_is = st;
  side_is = es;
  reduced_are = ek
      ∙ costs_same (had_cost minor.stands.items step) (λ v. is_nonbasic (stand_at m.reached.basis v)) (get minor.reduced.items) (get m.reached.fresh.reduced)
      (64 * slice) (lesser 64 (variables f - 64 * slice)) (λ u a b. cost_before f limit m next i slice minor step u h st a b);
  alpha_are = ea ∙ h.priced.at slice l;
}
