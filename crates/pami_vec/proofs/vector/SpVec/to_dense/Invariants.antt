use Rattle.std.proofs.Common.{drop}
use Rattle.pami_vec.proofs.Members.{Writing}
use Rattle.pami_vec.proofs.vector.SpVec.to_dense.Given as goal

abbrev pub invariant-loop-place : goal.invariant-loop-place
invariant-loop-place l = Writing l.self (drop l.next l.entries) l.place l.members.items
