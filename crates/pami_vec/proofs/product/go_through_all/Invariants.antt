use Rattle.std.proofs.Common.{◌≡◌, length}
use Rattle.pami_factoring.specs.Solve.{transform_script}
use Rattle.pami_vec.specs.Pivots.{column_pivots}
use Rattle.pami_vec.proofs.ProductForm.{pivots_left}
use Rattle.pami_vec.proofs.product.go_through_all.Given as goal

abbrev pub invariant-loop-pivot : goal.invariant-loop-pivot
invariant-loop-pivot l =
    (transform_script (column_pivots l.pivots) l.fn.values ≡ pivots_left l.pivots l.pivot-index l.values)
    × (length l.values ≡ length l.fn.values)
