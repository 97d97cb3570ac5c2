use Rattle.std.proofs.Common.{◌≡◌, length}
use Rattle.pami_deferral.specs.Collected.{reweighed}
use Rattle.pami_devex.specs.Weights.{AreWeights}
use Rattle.pami_vec.specs.Pivots.{column_pivots}
use Rattle.pami_collect.proofs.Weights.{weights_left}
use Rattle.pami_collect.proofs.state.reweigh_all.Given as goal

abbrev pub invariant-loop-pivot : goal.invariant-loop-pivot
invariant-loop-pivot l =
    (reweighed (column_pivots l.pivots) l.fn.weights ≡ weights_left l.pivots l.pivot-index l.weights) × (length l.weights ≡ length l.fn.weights)
    × (AreWeights l.fn.weights → AreWeights l.weights)
