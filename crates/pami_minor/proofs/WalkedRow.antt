-- A walk whose lists are solved at a basis: it follows the scripts of the walk and of the step there.
use Rattle.std.proofs.Common.{◌≡◌, ℕ, ◌+◌, ◌<◌, ◌⊎◌, inl, inr, List, length, get_or, Option, None, Some, Result, Ok, Err, refl, sym, ap, ◌∙◌, subst, arith, Bool, true, false, cond, true≢false}
use Rattle.std.specs.Option.{option_map}
use Rattle.std.proofs.lemmas.List.{get_or-map, get_or_default, length-replicate}
use Rattle.pami_algebra.specs.Fraction.{Fraction}
use Rattle.pami_frac.specs.Answers.{FollowsBy}
use Rattle.pami_frac.specs.declared.arithmetic.Refused.{Refused}
use Rattle.pami_frac.specs.declared.fault.Fault.{Fault}
use Rattle.pami_frac.specs.declared.fault.Fault.TheVariants as faults
use Rattle.pami_frac.specs.declared.list.Entry.{Entry}
use Rattle.pami_linear.specs.Lists.{get}
use Rattle.pami_frac.specs.Arithmetic.{sub_outcome, div_outcome}
use Rattle.pami_script.specs.Script.{then, add_dot}
use Rattle.pami_script.proofs.Scripts.{then_stop}
use Rattle.pami_script.specs.Dense.{at, Rising}
use Rattle.pami_theory.specs.Form as theory
use Rattle.pami_theory.specs.Form.{variables, limits, coefficient, zero_f}
use Rattle.pami_theory.specs.Basis.{Basis, IsBasis, stand_at, head_at}
use Rattle.pami_theory.specs.Fresh.{Fresh, IsFresh, row_at, value_at_place, standing_value}
use Rattle.pami_theory.specs.declared.words.Stand.{Stand}
use Rattle.pami_theory.specs.declared.words.Stand.TheVariants as stands
use Rattle.pami_theory.specs.declared.words.Violation.{Violation}
use Rattle.pami_theory.specs.Violation as outside
use Rattle.pami_theory.specs.Ratio.{Leaving, Entering, row_entry, turned_entry, may_enter, ratio_walk}
use Rattle.pami_theory.specs.Step as theory_step
use Rattle.pami_theory.specs.Step.{step_at, step_by, leaving_at, flip_change, flips_change, change_by, is_among, theta}
use Rattle.pami_method.specs.Task.{refusal}
use Rattle.pami_method.specs.Scripts as method
use Rattle.pami_method.specs.Scripts.{ratio_script, step_script, flips_script, ascending, zeros}
use Rattle.pami_method.proofs.Flips.{step_value}
use Rattle.pami_form.specs.Form.{KeepsForm}
use Rattle.pami_form.specs.declared.form.Form.{Form}
use Rattle.pami_state.proofs.Formed.{variables_are, coefficient_is}
use Rattle.pami_price.specs.Agreement.{nonzero_entries, all_nonbasic}
use Rattle.pami_price.proofs.Rows.{kept_rise, kept_value}
use Rattle.pami_bfrt.specs.Agreement.{IsTable, AreRowEntries}
use Rattle.pami_bfrt.specs.Walks.{walk_script, found_by}
use Rattle.pami_bfrt.specs.declared.walk.Walk.{Walk}
use Rattle.pami_bfrt.proofs.Ended.{walk_is}
use Rattle.pami_vec.specs.declared.step.Step.{Step}
use Rattle.pami_minor.specs.declared.walk.Leaving as program
use Rattle.pami_theory.proofs.Candidates.{entered_by_walk}
use Rattle.pami_theory.proofs.Places.{nonbasic_standing}
use Rattle.pami_minor.specs.Flips.{flip_at, flips_by, ascending_to, length_by}
use Rattle.pami_minor.specs.Walked.{Moved, Walked, table_of, bound_of, step_with, step_behind, walk_by, walked}
use Rattle.pami_form.specs.FormOf.{form_of}
use Rattle.pami_minor.specs.Steps.{IsStepOf, IsStepFor, StepFits, AreWalked, FollowsWalk, FollowsRatio}
use Rattle.pami_minor.proofs.StepScripts.{flips_tied, rows_length, rows_value, step_is_length}

-- ---- the lists of the walk
pub entries_are : (f : theory.Form) (b : Basis) (l : Leaving) → AreRowEntries f b l (nonzero_entries (row_entry f l.row) (all_nonbasic f b))
entries_are f b l =
    let z : 0 + variables f ≡ variables f = omega arith in
    record {
      rising = subst (λ high. Rising 0 high (nonzero_entries (row_entry f l.row) (all_nonbasic f b))) z
          (kept_rise (λ v. method.is_nonbasic (stand_at b v)) (row_entry f l.row) 0 (variables f));
      value = λ v m. kept_value (λ v. method.is_nonbasic (stand_at b v)) (row_entry f l.row) 0 (variables f) v (omega arith) (omega arith);
    }

abbrev pub Kept : Form → Type 0
Kept form = KeepsForm form.rows form.columns form.bounds form.costs form.widths

pub widths_are : (form : Form) (v : ℕ) → Kept form → v < length form.bounds → get_or form.widths v None ≡ outside.width (limits (form_of form) v)
widths_are form v k l =
    ap (λ ws. get_or ws v None) k.wide
    ∙ get_or-map (λ b. outside.width b) form.bounds v (record { low = None; high = None }) None l

pub table_is : (form : Form) (b : Basis) (s : Fresh) (l : Leaving) → Kept form → IsBasis (form_of form) b → l.reduced ≡ s.reduced
    → IsTable (form_of form) b l (table_of form b.stands s.reduced)
table_is form b s l k is e =
    let n : variables (form_of form) ≡ length form.columns = variables_are form.columns form.bounds form.costs k.form in
    let m = k.form.as_many_bounds in
    let stood : length b.stands ≡ variables (form_of form) = is.variables_stand in
    record {
      stand = λ v a. get_or_default b.stands v stands.Zero stands.Basic (omega arith);
      bounds = λ v a. refl;
      uncrossed = λ v a. k.form.uncrossed v (omega arith);
      width = λ v a. widths_are form v k (omega arith);
      reduced = λ v a. ap (λ xs. get xs v) (sym e);
    }

-- ---- the pivot
nonbasic_by : (fixed : Bool) (s : Stand) (a : Fraction) → cond fixed false (may_enter s a) ≡ true → method.is_nonbasic s ≡ true
nonbasic_by true s a e = absurd (true≢false (sym e))
nonbasic_by false stands.Basic a e = absurd (true≢false (sym e))
nonbasic_by false stands.Lower a e = refl
nonbasic_by false stands.Upper a e = refl
nonbasic_by false stands.Zero a e = refl

not_basic : (s : Stand) → method.is_nonbasic s ≡ true → ¬ (s ≡ stands.Basic)
not_basic s e h = true≢false (sym e ∙ ap method.is_nonbasic h)

pub entering_nonbasic : (f : theory.Form) (b : Basis) (l : Leaving) (e : Entering) → ratio_walk f b l ≡ Some e
    → (e.variable < variables f) × (method.is_nonbasic (stand_at b e.variable) ≡ true)
entering_nonbasic f b l e h =
    let k = (entered_by_walk f b l e h).0 in
    (k.within, nonbasic_by (outside.is_fixed (limits f e.variable)) (stand_at b e.variable) (turned_entry f l e.variable) k.candidate)

pivot_is : (f : theory.Form) (b : Basis) (l : Leaving) (e : Entering) → ratio_walk f b l ≡ Some e
    → at (nonzero_entries (row_entry f l.row) (all_nonbasic f b)) e.variable ≡ row_entry f l.row e.variable
pivot_is f b l e h =
    let k = entering_nonbasic f b l e h in
    (entries_are f b l).value e.variable k.0 ∙ ap (λ t. cond t (row_entry f l.row e.variable) zero_f) k.1

-- ---- what the walk comes to
abbrev IsOutcome : theory.Form → Basis → Fresh → ℕ → Violation → Result Walked Refused → Type 0
IsOutcome f b s p v (Ok w) =
    (w.found ≡ ratio_walk f b (leaving_at s p v)) × IsStepFor f b s (step_at f b s p v) w.step
    × (refusal (ratio_script f b (leaving_at s p v)) ≡ None) × StepFits f b s (step_at f b s p v)
IsOutcome f b s p v (Err refused) =
    (ratio_script f b (leaving_at s p v) ≡ Err refused)
    ⊎ ((slope : Fraction) × (t : theory_step.Step) × (ratio_script f b (leaving_at s p v) ≡ Ok slope) × (step_at f b s p v ≡ Some t)
    × (step_script f b s t ≡ Err refused))

-- a row whose lists are those of the basis
record IsHere (form : Form) (b : Basis) (s : Fresh) (row : program.Leaving) : Type 0 where
  kept : Kept form
  basis : IsBasis (form_of form) b
  fresh : IsFresh (form_of form) b s
  place : row.place < (form_of form).rows
  variable : row.variable ≡ head_at b row.place
  value : row.value ≡ value_at_place b s row.place

abbrev entries_at : Form → Basis → Fresh → program.Leaving → List Entry
entries_at form b s row = nonzero_entries (row_entry (form_of form) (row_at s row.place)) (all_nonbasic (form_of form) b)

abbrev step_here : Basis → program.Leaving → Entering → theory_step.Step
step_here b row e = step_by b row.place row.violation.side e

-- behind the flips
outcome_length : (form : Form) (b : Basis) (s : Fresh) (row : program.Leaving) (e : Entering) (slope : Fraction) (changes : List Fraction)
    (x : Result Fraction Refused) → IsHere form b s row → ratio_script (form_of form) b (leaving_at s row.place row.violation) ≡ Ok slope
    → ratio_walk (form_of form) b (leaving_at s row.place row.violation) ≡ Some e
    → flips_script (form_of form) b (ascending (form_of form) e.flips) (zeros (form_of form).rows) ≡ Ok changes
    → step_script (form_of form) b s (step_here b row e) ≡ x
    → IsOutcome (form_of form) b s row.place row.violation
    (then (then x (λ theta. Ok (record { theta = theta; flips = changes }))) (λ (moved : Moved).
    Ok (record { found = Some e; step = Some (step_with form b.stands row e moved) })))
outcome_length form b s row e slope changes (Err d) h r w c x =
    inr (slope, step_here b row e, r, ap (option_map (step_by b row.place row.violation.side)) w, x)
outcome_length form b s row e slope changes (Ok theta) h r w c x =
    let f = form_of form in
    let t = step_here b row e in
    let taken : step_at f b s row.place row.violation ≡ Some t = ap (option_map (step_by b row.place row.violation.side)) w in
    let k = entering_nonbasic f b (leaving_at s row.place row.violation) e w in
    let stood : length b.stands ≡ variables f = h.basis.variables_stand in
    let l = k.0 in
    let read : stand_at b e.variable ≡ get_or b.stands e.variable stands.Basic = get_or_default b.stands e.variable stands.Zero stands.Basic (omega (arith, l, stood)) in
    let old : standing_value (limits f e.variable) (get_or b.stands e.variable stands.Basic) ≡ get s.values e.variable =
    sym (nonbasic_standing f b (get s.values) e.variable h.fresh.values l (not_basic (stand_at b e.variable) k.1)
    ∙ ap (standing_value (limits f e.variable)) read) in
    let step : IsStepOf f b s t (step_with form b.stands row e (record { theta = theta; flips = changes })) = record {
      place = refl;
      leaving = h.variable;
      entering = refl;
      tau = refl;
      theta_is = step_value f b s row.place row.violation t theta taken x;
      bound = ap (λ u. outside.passed_bound (limits f u) row.violation.side) h.variable;
      old_value = old;
      flips_by_row = rows_length f b (ascending f e.flips) changes c;
      flips = λ i m. rows_value f b s row.place row.violation t changes i taken c m;
    } in (
      sym w,
      subst (λ o. IsStepFor f b s o (Some (step_with form b.stands row e (record { theta = theta; flips = changes })))) (sym taken) step,
      ap refusal r,
      subst (StepFits f b s) (sym taken) (ap refusal x),
    )

outcome_flips : (form : Form) (b : Basis) (s : Fresh) (row : program.Leaving) (e : Entering) (slope : Fraction) (c : Result (List Fraction) Refused)
    → IsHere form b s row → ratio_script (form_of form) b (leaving_at s row.place row.violation) ≡ Ok slope
    → ratio_walk (form_of form) b (leaving_at s row.place row.violation) ≡ Some e
    → flips_script (form_of form) b (ascending (form_of form) e.flips) (zeros (form_of form).rows) ≡ c
    → IsOutcome (form_of form) b s row.place row.violation
    (then (then c (λ changes. then (length_by (row_at s row.place) changes row.value (bound_of form row) (at (entries_at form b s row) e.variable))
    (λ theta. Ok (record { theta = theta; flips = changes })))) (λ (moved : Moved).
    Ok (record { found = Some e; step = Some (step_with form b.stands row e moved) })))
outcome_flips form b s row e slope (Err d) h r w c =
    let f = form_of form in
    let t = step_here b row e in
    inr (
      slope,
      t,
      r,
      ap (option_map (step_by b row.place row.violation.side)) w,
      then_stop (flips_script f b (ascending f e.flips) (zeros f.rows)) (λ rows.
          then (add_dot f.rows (get (row_at s t.place)) (get rows) zero_f) (λ u.
          then (sub_outcome (value_at_place b s t.place) u) (λ x.
          then (sub_outcome x (outside.passed_bound (limits f t.leaving) t.side)) (λ y.
          div_outcome y (row_entry f (row_at s t.place) t.entering))))) d c,
    )
outcome_flips form b s row e slope (Ok changes) h r w c =
    let f = form_of form in
    let t = step_here b row e in
    let same : step_script f b s t ≡ length_by (row_at s row.place) changes row.value (bound_of form row) (at (entries_at form b s row) e.variable) =
    step_is_length f b s t changes c (h.fresh.row_by_row row.place h.place)
    ∙ ap (λ z. length_by (row_at s row.place) changes z (outside.passed_bound (limits f (head_at b row.place)) row.violation.side)
    (row_entry f (row_at s row.place) e.variable)) (sym h.value)
    ∙ ap (λ u. length_by (row_at s row.place) changes row.value (outside.passed_bound (limits f u) row.violation.side)
    (row_entry f (row_at s row.place) e.variable)) (sym h.variable)
    ∙ ap (length_by (row_at s row.place) changes row.value (bound_of form row)) (sym (pivot_is f b (leaving_at s row.place row.violation) e w)) in
    outcome_length form b s row e slope changes
    (length_by (row_at s row.place) changes row.value (bound_of form row) (at (entries_at form b s row) e.variable)) h r w c same

pub flips_are : (form : Form) (b : Basis) (vs : List ℕ) → Kept form → IsBasis (form_of form) b
    → flips_by form.columns (flip_at b.stands form.widths) (ascending_to (length form.columns) vs) (zeros form.rows)
    ≡ flips_script (form_of form) b (ascending (form_of form) vs) (zeros (form_of form).rows)
flips_are form b vs k is =
    let f = form_of form in
    let n : variables f ≡ length form.columns = variables_are form.columns form.bounds form.costs k.form in
    let stood : length b.stands ≡ variables f = is.variables_stand in
    let many = k.form.as_many_bounds in
    ap (λ c. flips_by form.columns (flip_at b.stands form.widths) (ascending_to c vs) (zeros form.rows)) (sym n)
    ∙ ap (λ c. flips_by form.columns (flip_at b.stands form.widths) (ascending_to (variables f) vs) (zeros c)) k.tall
    ∙ flips_tied f b form.columns (flip_at b.stands form.widths) f.rows (λ v. is_among v vs) (variables f) 0 (zeros f.rows)
    (length-replicate f.rows zero_f)
    (λ v l. ap (λ z. change_by z (outside.value_or_zero (get_or form.widths v None))) (sym (get_or_default b.stands v stands.Zero stands.Basic (omega arith)))
    ∙ ap (λ z. change_by (stand_at b v) (outside.value_or_zero z)) (widths_are form v k (omega arith)))
    (λ v i l m. sym (coefficient_is form.columns form.bounds form.costs v i k.form (omega arith) m))

outcome_found : (form : Form) (b : Basis) (s : Fresh) (row : program.Leaving) (slope : Fraction) (o : Option Entering) → IsHere form b s row
    → ratio_script (form_of form) b (leaving_at s row.place row.violation) ≡ Ok slope → ratio_walk (form_of form) b (leaving_at s row.place row.violation) ≡ o
    → IsOutcome (form_of form) b s row.place row.violation (step_behind form b.stands (entries_at form b s row) (row_at s row.place) row o)
outcome_found form b s row slope None h r w = (
  sym w,
  subst (λ z. IsStepFor (form_of form) b s (option_map (step_by b row.place row.violation.side) z) None) (sym w) refl,
  ap refusal r,
  subst (λ z. StepFits (form_of form) b s (option_map (step_by b row.place row.violation.side) z)) (sym w) tt,
)
outcome_found form b s row slope (Some e) h r w =
    subst (λ c. IsOutcome (form_of form) b s row.place row.violation
    (then (then c (λ changes. then (length_by (row_at s row.place) changes row.value (bound_of form row) (at (entries_at form b s row) e.variable))
    (λ theta. Ok (record { theta = theta; flips = changes })))) (λ (moved : Moved).
    Ok (record { found = Some e; step = Some (step_with form b.stands row e moved) }))))
    (sym (flips_are form b e.flips h.kept h.basis))
    (outcome_flips form b s row e slope (flips_script (form_of form) b (ascending (form_of form) e.flips) (zeros (form_of form).rows)) h r w refl)

outcome_ratio : (form : Form) (b : Basis) (s : Fresh) (row : program.Leaving) (x : Result Fraction Refused) → IsHere form b s row
    → ratio_script (form_of form) b (leaving_at s row.place row.violation) ≡ x
    → IsOutcome (form_of form) b s row.place row.violation
    (then (then x (λ slope. Ok (ratio_walk (form_of form) b (leaving_at s row.place row.violation))))
    (step_behind form b.stands (entries_at form b s row) (row_at s row.place) row))
outcome_ratio form b s row (Err d) h r = inl r
outcome_ratio form b s row (Ok slope) h r =
    outcome_found form b s row slope (ratio_walk (form_of form) b (leaving_at s row.place row.violation)) h r refl

outcome : (form : Form) (b : Basis) (s : Fresh) (row : program.Leaving) → IsHere form b s row
    → IsOutcome (form_of form) b s row.place row.violation (walk_by form b.stands s.reduced (entries_at form b s row) (row_at s row.place) row)
outcome form b s row h =
    let f = form_of form in
    let l = leaving_at s row.place row.violation in
    subst (λ c. IsOutcome f b s row.place row.violation (then c (step_behind form b.stands (entries_at form b s row) (row_at s row.place) row)))
    (sym (walk_is f b l (table_of form b.stands s.reduced) (entries_at form b s row) row.violation
    (table_is form b s l h.kept h.basis refl) (entries_are f b l) refl))
    (outcome_ratio form b s row (ratio_script f b l) h refl)

answered : (f : theory.Form) (b : Basis) (s : Fresh) (p : ℕ) (v : Violation) (o : Result Walked Refused) (result : Result (Walk × Option Step) (Fault Refused))
    → IsOutcome f b s p v o → FollowsBy walked o result → FollowsWalk f b s p v result
answered f b s p v o (Ok a) h e = subst (IsOutcome f b s p v) e h
answered f b s p v o (Err (faults.Named d)) h e = subst (IsOutcome f b s p v) e h
answered f b s p v o (Err faults.OutOfMemory) h e = tt

pub walk_follows : (form : Form) (b : Basis) (s : Fresh) (stands : List Stand) (reduced : List Fraction) (alpha : List Entry) (rho : List Fraction)
    (row : program.Leaving) (result : Result (Walk × Option Step) (Fault Refused)) → Kept form → AreWalked (form_of form) b s stands reduced alpha rho row
    → FollowsBy walked (walk_by form stands reduced alpha rho row) result → FollowsWalk (form_of form) b s row.place row.violation result
walk_follows form b s stands reduced alpha rho row result k h e =
    let same : walk_by form stands reduced alpha rho row ≡ walk_by form b.stands s.reduced (entries_at form b s row) (row_at s row.place) row =
    ap (λ z. walk_by form z reduced alpha rho row) h.stands_are
    ∙ ap (λ z. walk_by form b.stands z alpha rho row) h.reduced_are
    ∙ ap (λ z. walk_by form b.stands s.reduced z rho row) h.alpha_is
    ∙ ap (λ z. walk_by form b.stands s.reduced (entries_at form b s row) z row) h.rho_is in
    answered (form_of form) b s row.place row.violation (walk_by form stands reduced alpha rho row) result
    (subst (IsOutcome (form_of form) b s row.place row.violation) (sym same)
    (outcome form b s row (record { kept = k; basis = h.basis; fresh = h.fresh; place = h.place; variable = h.variable; value = h.value }))) e

-- ---- the walk alone
ratio_answered : (f : theory.Form) (b : Basis) (s : Fresh) (p : ℕ) (v : Violation) (o : Result Fraction Refused) (w : Option Entering)
    (result : Result Walk (Fault Refused)) → o ≡ ratio_script f b (leaving_at s p v) → w ≡ ratio_walk f b (leaving_at s p v)
    → FollowsBy found_by (then o (λ slope. Ok w)) result → FollowsRatio f b s p v result
ratio_answered f b s p v (Ok slope) w (Ok walk) e h k = (let same : w ≡ found_by walk = cc in sym same ∙ h, ap refusal (sym e))
ratio_answered f b s p v (Err d) w (Ok walk) e h k = absurd (cc)
ratio_answered f b s p v (Ok slope) w (Err (faults.Named d)) e h k = absurd (cc)
ratio_answered f b s p v (Err c) w (Err (faults.Named d)) e h k =
    let same : ◌≡◌ {A = Result Fraction Refused} (Err c) (Err d) = (let e : c ≡ d = cc in ap Err e) in sym e ∙ same
ratio_answered f b s p v o w (Err faults.OutOfMemory) e h k = tt

pub ratio_follows : (form : Form) (b : Basis) (s : Fresh) (stands : List Stand) (reduced : List Fraction) (alpha : List Entry) (rho : List Fraction)
    (row : program.Leaving) (result : Result Walk (Fault Refused)) → Kept form → AreWalked (form_of form) b s stands reduced alpha rho row
    → FollowsBy found_by (walk_script (table_of form stands reduced) alpha row.violation) result
    → FollowsRatio (form_of form) b s row.place row.violation result
ratio_follows form b s stands reduced alpha rho row result k h e =
    let f = form_of form in
    let l = leaving_at s row.place row.violation in
    let same : walk_script (table_of form stands reduced) alpha row.violation ≡ then (ratio_script f b l) (λ slope. Ok (ratio_walk f b l)) =
    ap (λ z. walk_script (table_of form z reduced) alpha row.violation) h.stands_are
    ∙ ap (λ z. walk_script (table_of form b.stands z) alpha row.violation) h.reduced_are
    ∙ ap (λ z. walk_script (table_of form b.stands s.reduced) z row.violation) h.alpha_is
    ∙ walk_is f b l (table_of form b.stands s.reduced) (entries_at form b s row) row.violation
    (table_is form b s l k h.basis refl) (entries_are f b l) refl in
    ratio_answered f b s row.place row.violation (ratio_script f b l) (ratio_walk f b l) result refl refl
    (subst (λ (o : Result (Option Entering) Refused). FollowsBy found_by o result) same e)

-- ---- what a walk asks of its lists
pub walked_rises : (form : Form) (b : Basis) (s : Fresh) (stands : List Stand) (reduced : List Fraction) (alpha : List Entry) (rho : List Fraction)
    (row : program.Leaving) → Kept form → AreWalked (form_of form) b s stands reduced alpha rho row → Rising 0 (length form.columns) alpha
walked_rises form b s stands reduced alpha rho row k h =
    let n : variables (form_of form) ≡ length form.columns = variables_are form.columns form.bounds form.costs k.form in
    subst (λ high. Rising 0 high alpha) n
    (subst (λ (es : List Entry). Rising 0 (variables (form_of form)) es) (sym h.alpha_is)
    (entries_are (form_of form) b (leaving_at s row.place row.violation)).rising)

pub walked_row : (form : Form) (b : Basis) (s : Fresh) (stands : List Stand) (reduced : List Fraction) (alpha : List Entry) (rho : List Fraction)
    (row : program.Leaving) → Kept form → AreWalked (form_of form) b s stands reduced alpha rho row → length rho ≡ form.rows
walked_row form b s stands reduced alpha rho row k h = ap length h.rho_is ∙ h.fresh.row_by_row row.place h.place ∙ sym k.tall

pub walked_variable : (form : Form) (b : Basis) (s : Fresh) (stands : List Stand) (reduced : List Fraction) (alpha : List Entry) (rho : List Fraction)
    (row : program.Leaving) → Kept form → AreWalked (form_of form) b s stands reduced alpha rho row → row.variable < length form.columns
walked_variable form b s stands reduced alpha rho row k h =
    let n : variables (form_of form) ≡ length form.columns = variables_are form.columns form.bounds form.costs k.form in
    let w = h.basis.within row.place h.place in
    let e = h.variable in
    omega (arith, n, w, e)
