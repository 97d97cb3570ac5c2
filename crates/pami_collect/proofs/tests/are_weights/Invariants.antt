use Rattle.std.proofs.Common.{◌≡◌, ◌<◌, length, take}
use Rattle.std.specs.List.{All}
use Rattle.pami_devex.specs.Weights.{IsWeight}
use Rattle.pami_collect.proofs.tests.are_weights.Given as goal

abbrev pub invariant-loop-k : goal.invariant-loop-k
invariant-loop-k l = All IsWeight (take l.k l.weights)
