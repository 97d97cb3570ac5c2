use Rattle.std.proofs.Common.{◌≡◌, ◌≤◌, drop, length, Ok}
use Rattle.pami_factoring.specs.Solve.{backward_transform_script}
use Rattle.pami_vec.specs.Pivots.{column_pivots}
use Rattle.pami_factor.proofs.product.go_back_all.Given as goal

abbrev pub invariant-loop-k : goal.invariant-loop-k
invariant-loop-k l =
    (backward_transform_script (column_pivots (drop l.k l.pivots)) l.fn.right ≡ Ok l.right)
    × (length l.right ≡ length l.fn.right)
    × (l.k ≤ length l.pivots)

abbrev pub decreases-loop-k : goal.decreases-loop-k
decreases-loop-k l = l.k
