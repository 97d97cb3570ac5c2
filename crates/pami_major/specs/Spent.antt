-- How many steps a walk counts, major by major.
use Rattle.std.specs.Prelude.{ℕ, ◌+◌, ◌≤◌, List, [], ◌∷◌, length, Option, None, Some}
use Rattle.std.specs.Result.{IfOk}
use Rattle.pami_theory.specs.Form as theory
use Rattle.pami_method.specs.declared.words.Mode.{Mode}
use Rattle.pami_method.specs.declared.words.Mode.TheVariants as modes
use Rattle.pami_method.specs.declared.words.Options.{Options}
use Rattle.pami_method.specs.declared.words.Place.{Place}
use Rattle.pami_method.specs.Factor.{History}
use Rattle.pami_method.specs.Walk as method
use Rattle.pami_state.specs.declared.state.State.{State}
use Rattle.pami_factor.specs.Value.{Product}
use Rattle.pami_major.specs.EndsMajor.{walk_state}
use Rattle.pami_major.specs.MostSteps.{attempt_steps}
use Rattle.pami_major.specs.Walks.{IsFactorFor}
use Rattle.pami_major.specs.declared.walk.Turned.{Turned}
use Rattle.pami_major.specs.declared.walk.Turned.TheVariants as turns

-- the pivots of a major, or as many as its rows where it is refused
abbrev pub pivots_by : method.Major → Option Place → ℕ
pivots_by g None = length g.minors
pivots_by g (Some refused) = length g.first.rows

-- the most steps of a major of the method, from this state
abbrev pub major_steps : theory.Form → Options → method.State → method.Major → ℕ
major_steps f o st g = attempt_steps (length g.first.rows) (pivots_by g (method.refused_in f o st g))

abbrev pub steps_after : method.After → (method.State → ℕ) → ℕ
steps_after (method.Ends end) later = 0
steps_after (method.GoesOn mode next) later = later next

-- and of all majors of a walk, those that are rolled back among them
abbrev pub walk_steps : theory.Form → Options → method.State → List method.Major → ℕ
walk_steps f o st [] = 0
walk_steps f o st (g ∷ gs) = major_steps f o st g + steps_after (method.after f o st g) (λ next. walk_steps f o next gs)

-- the majors of the walk from this state on count so many steps at most
pub record IsSpent (f : theory.Form) (o : Options) (tried : ℕ) (first : method.State) (steps steps_now : ℕ) : Type 0 where
  pub majors : List method.Major
  pub end : method.WalkEnd
  pub walk : method.IsWalk f o (tried + 1) modes.Full first majors end
  pub most : steps_now ≤ steps + walk_steps f o first majors

-- where the walk goes on, the majors so far count so many steps at most: whatever majors follow from there count the rest
pub record IsSpending (f : theory.Form) (o : Options) (tried : ℕ) (first : method.State) (steps : ℕ) (state : State) (factor : Option Product) (mode : Mode)
    (tried_now steps_now : ℕ) : Type 0 where
  pub history : Option History
  pub factor_is : IsFactorFor f mode history state factor
  pub rest : (gs : List method.Major) (end : method.WalkEnd) → method.IsWalk f o (tried_now + 1) mode (walk_state state history) gs end
      → (all : List method.Major) × method.IsWalk f o (tried + 1) modes.Full first all end
      × (steps_now + walk_steps f o (walk_state state history) gs ≤ steps + walk_steps f o first all)

-- behind one major the walk has ended, or goes on
abbrev pub FollowsSpending : theory.Form → Options → ℕ → method.State → ℕ → State → Option Product → ℕ → ℕ → Turned → Type 0
FollowsSpending f o tried first steps state factor tried_now steps_now (turns.Ends outcome) =
    IfOk outcome (λ end. IsSpent f o tried first steps steps_now)
FollowsSpending f o tried first steps state factor tried_now steps_now (turns.GoesOn mode) =
    IsSpending f o tried first steps state factor mode tried_now steps_now
