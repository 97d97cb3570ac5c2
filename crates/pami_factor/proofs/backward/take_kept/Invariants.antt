use Rattle.std.proofs.Common.{drop}
use Rattle.pami_factor.proofs.Taken.{IsTaking}
use Rattle.pami_factor.proofs.backward.take_kept.Given as goal

abbrev pub invariant-loop-entry : goal.invariant-loop-entry
invariant-loop-entry l = IsTaking l.factor l.own l.fn.rests l.kept (drop l.entry-index l.kept) l.rests
