-- What taking a step makes of a Minor.
use Rattle.std.specs.Prelude.{◌≡◌, ℕ, ◌+◌, List, [], ◌∷◌, ◌++◌, set, Option, None, Some, slice_index_or, vec_len, vec_capacity}
use Rattle.pami_theory.specs.declared.words.Stand.{Stand}
use Rattle.pami_theory.specs.declared.words.Stand.TheVariants.{Basic, Zero}
use Rattle.pami_theory.specs.declared.words.Side.{Side}
use Rattle.pami_theory.specs.Ratio.{Entering}
use Rattle.pami_theory.specs.Step.{flipped, stand_on}
use Rattle.pami_vec.specs.declared.step.Step.{Step}
use Rattle.pami_minor.specs.declared.minor.Minor.{Minor}

-- stands with flipped variables turned to their other bounds, one after the other
abbrev pub all_turned : List Stand → List ℕ → List Stand
all_turned stands [] = stands
all_turned stands (v ∷ vs) = all_turned (set stands v (flipped (slice_index_or stands v Zero))) vs

-- the variables that a walk flips
abbrev pub flips_found : Option Entering → List ℕ
flips_found None = []
flips_found (Some e) = e.flips

-- the flips are turned, the leaving and the entering variable change, and the step is noted; all else is as before
pub record IsTaken (flips : List ℕ) (side : Side) (step : Step) (old new : Minor) : Type 0 where
  pub head : new.head.items ≡ set old.head.items step.place step.entering
  pub stands : new.stands.items ≡ set (set (all_turned old.stands.items flips) step.leaving (stand_on side)) step.entering Basic
  pub count : new.count ≡ old.count + 1
  pub steps : new.steps.items ≡ old.steps.items ++ step ∷ []
  pub steps_len : vec_len new.steps ≡ vec_len old.steps + 1
  pub steps_room : vec_capacity new.steps ≡ vec_capacity old.steps
  pub reduced : new.reduced ≡ old.reduced
  pub limit : new.limit ≡ old.limit
  pub rows : new.rows ≡ old.rows
  pub remaining : new.remaining ≡ old.remaining
  pub dropped : new.dropped ≡ old.dropped
  pub nows : new.nows ≡ old.nows
  pub picked : new.picked ≡ old.picked
  pub alpha : new.alpha ≡ old.alpha
