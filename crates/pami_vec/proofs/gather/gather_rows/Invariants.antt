use Rattle.std.proofs.Common.{length}
use Rattle.pami_factoring.specs.Factor.{columns_at}
use Rattle.pami_vec.specs.Gathered.{AreGathered}
use Rattle.pami_vec.proofs.gather.gather_rows.Given as goal

abbrev pub invariant-loop-place : goal.invariant-loop-place
invariant-loop-place l = AreGathered (columns_at l.columns l.head) l.height l.place l.lists.items
