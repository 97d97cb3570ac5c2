-- The values behind the switch are those of its basis, and what is refused is the script's first refusal.
use Rattle.std.proofs.Common.{◌≡◌, ℕ, ◌<◌, List, [], length, refl, sym, ap, ◌∙◌, subst, arith, None, Result, Ok, Err}
use Rattle.std.specs.Prelude.{All}
use Rattle.pami_algebra.specs.Fraction.{Fraction}
use Rattle.pami_algebra.specs.Operations.{neg_f}
use Rattle.pami_linear.specs.Lists.{get}
use Rattle.pami_linear.specs.Systems.{Solves, IsRegular}
use Rattle.pami_linear.proofs.Lists.{same_list}
use Rattle.pami_linear.proofs.Systems.{solves_same}
use Rattle.pami_frac.specs.declared.list.Bounds.{Bounds}
use Rattle.pami_frac.specs.declared.arithmetic.Refused.{Refused}
use Rattle.pami_frac.specs.declared.fault.Fault.{Fault}
use Rattle.pami_frac.specs.declared.fault.Fault.TheVariants as faults
use Rattle.pami_frac.specs.Answers.{Follows}
use Rattle.pami_script.specs.Script.{then}
use Rattle.pami_frac.specs.Answers.{FollowsBy}
use Rattle.pami_script.proofs.Scripts.{then_ok, then_go, then_stop}
use Rattle.pami_factoring.specs.declared.kept.Kept.{Kept}
use Rattle.pami_factoring.specs.declared.kept.LuFault.{LuFault}
use Rattle.pami_factoring.specs.declared.kept.LuFault.TheVariants.{Singular, Refused as Unfit}
use Rattle.pami_factoring.specs.Factor.{matrix_of, elimination_script, basis_columns}
use Rattle.pami_factoring.specs.Solve.{forward_script, ColumnPivot}
use Rattle.pami_factoring.specs.Steps.{columns_of}
use Rattle.pami_factoring.proofs.Matrices.{head_singular, matrix_count, matrix_square, matrix_entry}
use Rattle.pami_factoring.proofs.Programs.{step_count}
use Rattle.pami_factoring.proofs.Solves.{forward_solution, forward_length}
use Rattle.pami_factoring.specs.History.{IsColumnPivot}
use Rattle.pami_theory.specs.Form.{zero_f}
use Rattle.pami_theory.specs.Basis.{Basis, head_at, IsBasis, IsRegularBasis, basis_column}
use Rattle.pami_theory.specs.Fresh.{Fresh, IsFresh, nonbasic_sum, value_at_place}
use Rattle.pami_theory.proofs.Places.{spread, spread_basic, spread_values, values_only}
use Rattle.pami_theory.proofs.Solved.{has_fresh, fresh_regular}
use Rattle.pami_theory.proofs.Tables.{tabled_length, tabled_at}
use Rattle.pami_method.specs.Task.{refusal}
use Rattle.pami_method.specs.Factor.{elimination, unfit, refusal_by}
use Rattle.pami_method.specs.Phases.{switch_refused, first_of}
use Rattle.pami_state.specs.Columns.{rows_of, form_by, IsForm}
use Rattle.pami_state.specs.State.{basis_of, values_by_place, IsSolvedAfresh}
use Rattle.pami_state.specs.declared.state.State.{State}
use Rattle.pami_phase.specs.declared.switch.SolvedValues.{SolvedValues}
use Rattle.pami_phase.specs.declared.switch.SwitchedState.{SwitchedState}
use Rattle.pami_deferral.proofs.Histories.{history_new}
use Rattle.pami_factor.specs.Value.{Product}
use Rattle.pami_batch.specs.Factors.{IsFactorOf}
use Rattle.pami_major.proofs.Laid.{matrix_is, basis_columns_are, regular_columns}
use Rattle.pami_phase.specs.Switches.{with_steps, side_script, switch_script, FollowsSteps}
use Rattle.pami_phase.proofs.Sides.{side_value, side_length}

-- ---- the elimination
pub elimination_is : (columns : List (List Fraction)) (bounds : List Bounds) (costs : List Fraction) (b : Basis) → IsForm columns bounds costs → IsBasis (form_by columns bounds costs) b → elimination (form_by columns bounds costs) b.head ≡ elimination_script (matrix_of columns b.head)
elimination_is columns bounds costs b form is = ap elimination_script (matrix_is columns bounds costs b form is)

pub regular_head : (columns : List (List Fraction)) (bounds : List Bounds) (costs : List Fraction) (b : Basis) → IsForm columns bounds costs → IsBasis (form_by columns bounds costs) b → IsRegularBasis (form_by columns bounds costs) b → IsRegular (length b.head) (basis_columns columns b.head)
regular_head columns bounds costs b form is r =
    let s = has_fresh (form_by columns bounds costs) b is r in
    regular_columns columns bounds costs b s.0 form is s.1

not_singular : (columns : List (List Fraction)) (bounds : List Bounds) (costs : List Fraction) (b : Basis) (q : ℕ) → IsForm columns bounds costs → IsBasis (form_by columns bounds costs) b → IsRegularBasis (form_by columns bounds costs) b → ¬ (elimination (form_by columns bounds costs) b.head ≡ Err (Singular q))
not_singular columns bounds costs b q form is r e = head_singular columns b.head q (sym (elimination_is columns bounds costs b form is) ∙ e) (regular_head columns bounds costs b form is r)

-- ---- the script
pub steps_unfit : {A : Type 0} (e : Result (List Kept) LuFault) (g : List Kept → Result A Refused) (r : Refused) → e ≡ Err (Unfit r) → with_steps e g ≡ Err r
steps_unfit e g r h = ap (λ z. with_steps z g) h

pub steps_go : {A : Type 0} (e : Result (List Kept) LuFault) (g : List Kept → Result A Refused) (ks : List Kept) → e ≡ Ok ks → with_steps e g ≡ g ks
steps_go e g ks h = ap (λ z. with_steps z g) h

refused_by : (e : Result (List Kept) LuFault) (s : Result (List Fraction) Refused) → ((q : ℕ) → ¬ (e ≡ Err (Singular q)))
    → first_of (unfit e) (refusal_by e (λ ks. then s (λ rows. forward_script ks [] rows))) ≡ refusal (with_steps e (λ ks. then s (λ rows. forward_script ks [] rows)))
refused_by (Ok ks) s n = refl
refused_by (Err (Unfit r)) s n = refl
refused_by (Err (Singular q)) s n = absurd (n q refl)

-- the definition's first refusal is that of the script
pub refused_is : (columns : List (List Fraction)) (bounds : List Bounds) (costs : List Fraction) (b : Basis) (t : Fresh) → IsForm columns bounds costs → IsBasis (form_by columns bounds costs) b → IsRegularBasis (form_by columns bounds costs) b
    → switch_refused (form_by columns bounds costs) b t ≡ refusal (switch_script (form_by columns bounds costs) b t)
refused_is columns bounds costs b t form is r = refused_by (elimination (form_by columns bounds costs) b.head) (side_script (form_by columns bounds costs) b t) (λ q. not_singular columns bounds costs b q form is r)

switch_parts : (e : Result (List Kept) LuFault) (s : Result (List Fraction) Refused) (x : List Fraction) → ((q : ℕ) → ¬ (e ≡ Err (Singular q))) → with_steps e (λ ks. then s (λ rows. forward_script ks [] rows)) ≡ Ok x
    → (ks : List Kept) × (e ≡ Ok ks) × (rows : List Fraction) × (s ≡ Ok rows) × (forward_script ks [] rows ≡ Ok x)
switch_parts (Ok ks) s x n h = let a = then_ok s (λ rows. forward_script ks [] rows) x h in (ks, refl, a.0, a.1.0, a.1.1)
switch_parts (Err (Unfit r)) s x n h = absurd (cc)
switch_parts (Err (Singular q)) s x n h = absurd (n q refl)

no_pivots : (m : ℕ) → All (IsColumnPivot m) []
no_pivots m = λ i d l. absurd (omega arith)

-- what an elimination solves
forward_solves : (columns : List (List Fraction)) (bounds : List Bounds) (costs : List Fraction) (b : Basis) (ks : List Kept) (right x : List Fraction) → IsForm columns bounds costs → IsBasis (form_by columns bounds costs) b
    → elimination (form_by columns bounds costs) b.head ≡ Ok ks → length right ≡ rows_of columns → forward_script ks [] right ≡ Ok x
    → (length x ≡ rows_of columns) × Solves (rows_of columns) (basis_column (form_by columns bounds costs) b) (get x) (get right)
forward_solves columns bounds costs b ks right x form is e l h =
    let f = form_by columns bounds costs in
    let rows = matrix_of columns b.head in
    let p : length b.head ≡ rows_of columns = is.places in
    let n : length rows ≡ length b.head = matrix_count columns b.head in
    let k : elimination_script rows ≡ Ok ks = ap elimination_script (sym (matrix_is columns bounds costs b form is)) ∙ e in
    let solved : Solves (length rows) (columns_of rows) (get x) (get right) = forward_solution rows ks [] right x (matrix_square columns b.head) k (no_pivots (length rows)) (omega arith) h in (
      forward_length ks [] right x h ∙ l,
      solves_same (rows_of columns) (columns_of rows) (basis_column f b) (get x) (get x) (get right) (get right)
          (λ q i a c. matrix_entry columns b.head q i (omega arith) (omega arith) ∙ basis_columns_are columns bounds costs b q i form is a c) (λ q a. refl) (λ i a. refl)
          (subst (λ m. Solves m (columns_of rows) (get x) (get right)) (n ∙ p) solved),
    )

-- an elimination has a step for each place
pub head_steps : (columns : List (List Fraction)) (head : List ℕ) (ks kept : List Kept) → elimination_script (matrix_of columns head) ≡ Ok ks → kept ≡ ks → length kept ≡ length head
head_steps columns head ks kept e h = ap length h ∙ step_count (matrix_of columns head) ks (matrix_square columns head) e ∙ matrix_count columns head

-- ---- the values
pub values_are : (columns : List (List Fraction)) (bounds : List Bounds) (costs : List Fraction) (b : Basis) (t : Fresh) (x : List Fraction) → IsForm columns bounds costs → IsBasis (form_by columns bounds costs) b → IsFresh (form_by columns bounds costs) b t
    → switch_script (form_by columns bounds costs) b t ≡ Ok x → x ≡ values_by_place (form_by columns bounds costs) b t
values_are columns bounds costs b t x form is fresh h =
    let f = form_by columns bounds costs in
    let r = fresh_regular f b t fresh in
    let k = switch_parts (elimination f b.head) (side_script f b t) x (λ q. not_singular columns bounds costs b q form is r) h in
    let rows = k.2 in
    let s = forward_solves columns bounds costs b k.0 rows x form is k.1 (side_length f b t rows k.3) k.4 in
    let z : Solves f.rows (basis_column f b) (get x) (λ i. neg_f (nonbasic_sum f b i)) =
    solves_same f.rows (basis_column f b) (basis_column f b) (get x) (get x) (get rows) (λ i. neg_f (nonbasic_sum f b i)) (λ q i a c. refl) (λ q a. refl) (λ i l. side_value f b t rows i fresh k.3 l) s.1 in
    let each : (p : ℕ) → p < f.rows → get x p ≡ value_at_place b t p =
    λ p l. sym (spread_basic f b (get x) p is l) ∙ values_only f b (spread f b (get x)) (get t.values) is r (spread_values f b (get x) is z) fresh.values (head_at b p) (is.within p l) in
    same_list x (values_by_place f b t) (s.0 ∙ sym (tabled_length f.rows (value_at_place b t)))
    (λ i l. let m : i < f.rows = subst (λ n. i < n) s.0 l in each i m ∙ sym (tabled_at f.rows (value_at_place b t) i zero_f m))

-- ---- programs
pub script_by : {A : Type 0} (s u : Result A Refused) (r : Result A (Fault Refused)) → s ≡ u → FollowsBy (λ v. v) u r → FollowsBy (λ v. v) s r
script_by s u r e h = subst (λ z. FollowsBy (λ v. v) z r) (sym e) h

-- a refusal that is handed on
pub passed_on : (script : Result (List Fraction) Refused) (r : Result SolvedValues (Fault Refused)) (y e : Fault Refused) → r ≡ Err y → y ≡ e
    → FollowsBy {A = List Fraction} {B = SolvedValues} (λ s. s.values) script (Err e) → FollowsBy {A = List Fraction} {B = SolvedValues} (λ s. s.values) script r
passed_on script r y e p q h = subst (λ (x : Result SolvedValues (Fault Refused)). FollowsBy (λ s. s.values) script x) (sym (p ∙ ap Err q)) h

fault_follows : (script : Result (List Fraction) Refused) (e : Fault Refused) → FollowsBy {A = List Fraction} {B = SolvedValues} (λ s. s.values) script (Err e) → Follows {A = SwitchedState} (refusal script) (Err e)
fault_follows script (faults.Named r) h = ap refusal h
fault_follows script faults.OutOfMemory h = tt

module _ (columns : List (List Fraction)) (bounds : List Bounds) (costs : List Fraction) (b : Basis) (form : IsForm columns bounds costs) (is : IsBasis (form_by columns bounds costs) b) (r : IsRegularBasis (form_by columns bounds costs) b) where
  pub fault_is : (t : Fresh) (e : Fault Refused) → FollowsBy {A = List Fraction} {B = SolvedValues} (λ s. s.values) (switch_script (form_by columns bounds costs) b t) (Err e) → Follows {A = SwitchedState} (switch_refused (form_by columns bounds costs) b t) (Err e)
  fault_is t e h = subst (λ z. Follows {A = SwitchedState} z (Err e)) (sym (refused_is columns bounds costs b t form is r)) (fault_follows (switch_script (form_by columns bounds costs) b t) e h)

  pub none_refused : (t : Fresh) (x : List Fraction) → switch_script (form_by columns bounds costs) b t ≡ Ok x → switch_refused (form_by columns bounds costs) b t ≡ None
  none_refused t x h = refused_is columns bounds costs b t form is r ∙ ap refusal h

  pub solved_is : (st : State) (x : List Fraction) → basis_of st ≡ b → ((t : Fresh) → IsFresh (form_by columns bounds costs) b t → switch_script (form_by columns bounds costs) b t ≡ Ok x) → st.values ≡ x
      → ((t : Fresh) → IsFresh (form_by columns bounds costs) b t → st.reduced ≡ t.reduced) → IsSolvedAfresh (form_by columns bounds costs) st
  solved_is st x e h v d =
      let f = form_by columns bounds costs in
      let s = has_fresh f b is r in
      record {
        fresh = s.0;
        solved = subst (λ c. IsFresh f c s.0) (sym e) s.1;
        values = v ∙ values_are columns bounds costs b s.0 x form is s.1 (h s.0 s.1) ∙ ap (λ c. values_by_place f c s.0) (sym e);
        reduced = d s.0 s.1;
      }

  pub unfit_follows : (t : Fresh) (e : Fault Refused) → FollowsSteps (elimination_script (matrix_of columns b.head)) (Err e) → FollowsBy {A = List Fraction} {B = SolvedValues} (λ s. s.values) (switch_script (form_by columns bounds costs) b t) (Err e)
  unfit_follows t (faults.Named r) h =
      steps_unfit (elimination (form_by columns bounds costs) b.head) (λ ks. then (side_script (form_by columns bounds costs) b t) (λ rows. forward_script ks [] rows)) r
      (elimination_is columns bounds costs b form is ∙ h)
  unfit_follows t faults.OutOfMemory h = tt

  pub side_follows : (t : Fresh) (ks : List Kept) (e : Fault Refused) → elimination_script (matrix_of columns b.head) ≡ Ok ks → FollowsBy {A = List Fraction} {B = List Fraction} (λ v. v) (side_script (form_by columns bounds costs) b t) (Err e)
      → FollowsBy {A = List Fraction} {B = SolvedValues} (λ s. s.values) (switch_script (form_by columns bounds costs) b t) (Err e)
  side_follows t ks (faults.Named r) h k =
      steps_go (elimination (form_by columns bounds costs) b.head) (λ ks. then (side_script (form_by columns bounds costs) b t) (λ rows. forward_script ks [] rows)) ks (elimination_is columns bounds costs b form is ∙ h)
      ∙ then_stop (side_script (form_by columns bounds costs) b t) (λ rows. forward_script ks [] rows) r k
  side_follows t ks faults.OutOfMemory h k = tt

  pub solve_follows : (t : Fresh) (ks kept : List Kept) (qs : List ColumnPivot) (rows : List Fraction) (x : Result (List Fraction) (Fault Refused)) → elimination_script (matrix_of columns b.head) ≡ Ok ks → kept ≡ ks → qs ≡ [] → side_script (form_by columns bounds costs) b t ≡ Ok rows
      → FollowsBy (λ v. v) (forward_script kept qs rows) x → FollowsBy (λ v. v) (switch_script (form_by columns bounds costs) b t) x
  solve_follows t ks kept qs rows x h i j k m =
      script_by (switch_script (form_by columns bounds costs) b t) (forward_script kept qs rows) x
      (steps_go (elimination (form_by columns bounds costs) b.head) (λ ks. then (side_script (form_by columns bounds costs) b t) (λ rows. forward_script ks [] rows)) ks (elimination_is columns bounds costs b form is ∙ h)
      ∙ then_go (side_script (form_by columns bounds costs) b t) (λ rows. forward_script ks [] rows) rows k
      ∙ ap (λ (z : List Kept). forward_script z [] rows) (sym i) ∙ ap (λ (z : List ColumnPivot). forward_script kept z rows) (sym j)) m

  -- a refusal of the solve
  pub solve_fails : (t : Fresh) (e : Fault Refused) → FollowsBy {A = List Fraction} {B = List Fraction} (λ v. v) (switch_script (form_by columns bounds costs) b t) (Err e)
      → FollowsBy {A = List Fraction} {B = SolvedValues} (λ s. s.values) (switch_script (form_by columns bounds costs) b t) (Err e)
  solve_fails t (faults.Named r) h = h
  solve_fails t faults.OutOfMemory h = tt

  -- the factor that the elimination gave
  pub factor_is : (ks : List Kept) (factor : Product) → elimination_script (matrix_of columns b.head) ≡ Ok ks → factor.steps ≡ ks → factor.pivots ≡ []
      → IsFactorOf (form_by columns bounds costs) (record { head = b.head; pivots = [] }) b factor
  factor_is ks factor h i j = record {
    stands = history_new (form_by columns bounds costs) b is;
    steps = elimination_is columns bounds costs b form is ∙ h ∙ ap Ok (sym i);
    pivots = j;
  }

  pub any_fresh : (t : Fresh) × IsFresh (form_by columns bounds costs) b t
  any_fresh = has_fresh (form_by columns bounds costs) b is r
