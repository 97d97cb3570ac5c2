use Rattle.std.proofs.Common.{◌≡◌, ◌≤◌, ◌-◌, length}
use Rattle.pami_linear.specs.Active.{first_from}
use Rattle.pami_factoring.specs.Factor.{flag}
use Rattle.pami_dense.proofs.rest.first_active.Given as goal

abbrev pub invariant-loop-k : goal.invariant-loop-k
invariant-loop-k l = (first_from (length l.places) 0 (flag l.places) ≡ first_from (length l.places - l.k) l.k (flag l.places)) × (l.k ≤ length l.places)

abbrev pub decreases-loop-k : goal.decreases-loop-k
decreases-loop-k l = length l.places - l.k
