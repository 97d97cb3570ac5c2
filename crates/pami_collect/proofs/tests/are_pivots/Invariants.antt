use Rattle.std.proofs.Common.{◌≡◌, ◌<◌, length, take}
use Rattle.std.specs.List.{All}
use Rattle.pami_vec.specs.Pivots.{IsPivot}
use Rattle.pami_collect.proofs.tests.are_pivots.Given as goal

abbrev pub invariant-loop-pivot : goal.invariant-loop-pivot
invariant-loop-pivot l = All (IsPivot l.rows) (take l.pivot-index l.pivots)
