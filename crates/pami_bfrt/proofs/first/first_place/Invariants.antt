use Rattle.std.proofs.Common.{◌<◌, length}
use Rattle.pami_bfrt.specs.Firsts.{IsFirst}
use Rattle.pami_bfrt.proofs.first.first_place.Given as goal

abbrev pub invariant-loop-k : goal.invariant-loop-k
invariant-loop-k l = IsFirst l.candidates l.best l.k × (l.best < length l.candidates)
