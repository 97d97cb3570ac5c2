-- States that are optimal for a form, and what it means that spans are the ranges at a basis.
use Rattle.std.specs.Prelude.{◌≡◌, ◌↔◌, ℕ, ◌<◌, List, length, Option, None, slice_index_or}
use Rattle.pami_linear.specs.Lists.{get}
use Rattle.pami_theory.specs.Form as theory
use Rattle.pami_theory.specs.Form.{variables, limits, cost}
use Rattle.pami_theory.specs.Basis.{Basis, stand_at, IsBasis}
use Rattle.pami_theory.specs.Fresh.{standing_value, IsDualFeasible, HasInfeasible}
use Rattle.pami_state.specs.declared.state.State.{State}
use Rattle.pami_state.specs.State.{basis_of, IsSolvedAfresh}
use Rattle.pami_form.specs.declared.form.Form.{Form}
use Rattle.pami_form.specs.FormOf.{form_of}
use Rattle.pami_ranging.specs.Ranges.{KeepsDualFeasible, KeepsPrimalFeasible, IsAtBound}
use Rattle.pami_range.specs.declared.span.End.TheVariants.{Infinite}
use Rattle.pami_range.specs.declared.span.Span.{Span}
use Rattle.pami_range.specs.Exact.{IsSpanOf, IsSpanIfAny}

-- solved afresh, dual feasible, and no place is infeasible
pub record IsOptimal (form : Form) (st : State) : Type 0 where
  pub basis : IsBasis (form_of form) (basis_of st)
  pub solved : IsSolvedAfresh (form_of form) st
  pub dual : IsDualFeasible (form_of form) (basis_of st)
  pub primal : ¬ HasInfeasible (form_of form) (basis_of st) (get solved.fresh.values)

-- a span for each column: of the set of costs with which the basis with its stands stays dual feasible
pub record AreCostRanges (f : theory.Form) (b : Basis) (spans : List Span) : Type 0 where
  pub by_column : length spans ≡ f.columns
  pub range : (j : ℕ) → j < f.columns → IsSpanOf (KeepsDualFeasible f b j) (cost f j) (slice_index_or spans j (record { low = Infinite; high = Infinite }))

-- a member for each variable: where it stands at a bound, the span of the set of values of that bound with which all
-- basic variables are within theirs
pub record AreBoundRanges (f : theory.Form) (b : Basis) (spans : List (Option Span)) : Type 0 where
  pub by_variable : length spans ≡ variables f
  pub none : (v : ℕ) → v < variables f → (slice_index_or spans v None ≡ None) ↔ (¬ IsAtBound (stand_at b v))
  pub range : (v : ℕ) → v < variables f → IsSpanIfAny (KeepsPrimalFeasible f b v) (standing_value (limits f v) (stand_at b v)) (slice_index_or spans v None)
