-- The state behind a batch, from the one before it.
use Rattle.std.specs.Prelude.{◌≡◌, ◌+◌, List, length}
use Rattle.pami_algebra.specs.Fraction.{Fraction}
use Rattle.pami_factoring.specs.Solve.{ColumnPivot}
use Rattle.pami_devex.specs.Weights.{AreWeights}
use Rattle.pami_state.specs.declared.state.State.{State}
use Rattle.pami_state.specs.declared.state.BatchEnd.{BatchEnd}
use Rattle.pami_deferral.specs.Collected.{reweighed}

-- what the batch leaves, with these values by place, all weights through its pivots, and the pivots counted
pub record IsCollectedState (before : State) (after : BatchEnd) (values : List Fraction) (pivots : List ColumnPivot) (new : State) : Type 0 where
  pub head : new.head ≡ after.head
  pub stands : new.stands ≡ after.stands
  pub values_are : new.values ≡ values
  pub reduced : new.reduced ≡ after.reduced
  pub weights : new.weights ≡ reweighed pivots before.weights
  pub range : AreWeights new.weights
  pub count : new.pivots ≡ before.pivots + length pivots
