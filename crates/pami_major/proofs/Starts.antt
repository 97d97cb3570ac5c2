-- The state at the start of a form is one from which a walk may begin.
use Rattle.std.proofs.Common.{◌≡◌, ℕ, List, length, replicate, refl, sym, ap, ◌∙◌, subst, arith}
use Rattle.std.proofs.lemmas.List.{length-replicate}
use Rattle.pami_algebra.specs.Fraction.{Fraction}
use Rattle.pami_frac.specs.declared.list.Bounds.{Bounds}
use Rattle.pami_theory.specs.Form as theory
use Rattle.pami_theory.specs.Basis.{IsBasis}
use Rattle.pami_theory.specs.Fresh.{IsDualFeasible}
use Rattle.pami_theory.specs.Start.{starting_basis}
use Rattle.pami_theory.proofs.Starts.{start_is_basis}
use Rattle.pami_devex.specs.Weights.{AreWeights}
use Rattle.pami_form.specs.declared.form.Form.{Form}
use Rattle.pami_state.specs.declared.state.State.{State}
use Rattle.pami_state.specs.Columns.{form_by, rows_of, IsForm}
use Rattle.pami_state.specs.State.{basis_of, IsSolvedAfresh}
use Rattle.pami_form.specs.FormOf.{form_of}
use Rattle.pami_batch.proofs.StartedStates.{ones_are}
use Rattle.pami_major.specs.Ready.{IsReady}

-- ---- lists that were lent
pub lent_form : (columns cs : List (List Fraction)) (bounds bs : List Bounds) (costs ds : List Fraction) (g : theory.Form) → cs ≡ columns → bs ≡ bounds → ds ≡ costs → form_by columns bounds costs ≡ g → form_by cs bs ds ≡ g
lent_form columns cs bounds bs costs ds g e h k is = ap (λ x. form_by x bs ds) e ∙ ap (λ x. form_by columns x ds) h ∙ ap (form_by columns bounds) k ∙ is

pub lent_kept : (columns cs : List (List Fraction)) (bounds bs : List Bounds) (costs ds : List Fraction) → cs ≡ columns → bs ≡ bounds → ds ≡ costs → IsForm columns bounds costs → IsForm cs bs ds
lent_kept columns cs bounds bs costs ds e h k is = subst (λ x. IsForm x bs ds) (sym e) (subst (λ x. IsForm columns x ds) (sym h) (subst (IsForm columns bounds) (sym k) is))

-- ---- the start
module _ (form : Form) (limit : ℕ) (st : State) (at : basis_of st ≡ starting_basis (form_of form)) where
  start_places : IsBasis (form_of form) (basis_of st)
  start_places = subst (IsBasis (form_of form)) (sym at) (start_is_basis (form_of form))

  pub start_ready : IsSolvedAfresh (form_of form) st → st.weights ≡ replicate (form_of form).rows 1 → st.pivots ≡ 0 → IsDualFeasible (form_of form) (starting_basis (form_of form)) → IsReady form limit st
  start_ready solved ones none d =
      let n : length st.head ≡ (form_of form).rows = start_places.places in
      let w : length st.weights ≡ (form_of form).rows = ap length ones ∙ length-replicate (form_of form).rows 1 in
      let p : st.pivots ≡ 0 = none in
      record {
        basis = start_places;
        feasible = subst (IsDualFeasible (form_of form)) (sym at) d;
        solved = solved;
        weights = w ∙ sym n;
        range = subst AreWeights (sym ones) (ones_are (form_of form).rows);
        within = omega arith;
      }

-- the same of lists that were lent
pub starts_at : (form : Form) (limit : ℕ) (g : theory.Form) (st : State) → g ≡ form_of form → basis_of st ≡ starting_basis g → IsSolvedAfresh g st → st.weights ≡ replicate g.rows 1 → st.pivots ≡ 0 → IsDualFeasible g (basis_of st) → IsReady form limit st
starts_at form limit g st is at solved ones none d =
    start_ready form limit st (subst (λ x. basis_of st ≡ starting_basis x) is at) (subst (λ x. IsSolvedAfresh x st) is solved)
    (subst (λ (x : theory.Form). st.weights ≡ replicate x.rows 1) is ones) none
    (subst (λ x. IsDualFeasible x (starting_basis x)) is (subst (IsDualFeasible g) at d))

pub starts_ready : (form : Form) (limit : ℕ) (cs : List (List Fraction)) (bs : List Bounds) (ds : List Fraction) → cs ≡ form.columns → bs ≡ form.bounds → ds ≡ form.costs → (st : State) → basis_of st ≡ starting_basis (form_by cs bs ds)
    → IsSolvedAfresh (form_by cs bs ds) st → st.weights ≡ replicate (rows_of cs) 1 → st.pivots ≡ 0 → IsDualFeasible (form_by cs bs ds) (basis_of st) → IsReady form limit st
starts_ready form limit cs bs ds e h k st = starts_at form limit (form_by cs bs ds) st (lent_form form.columns cs form.bounds bs form.costs ds (form_of form) e h k refl)
