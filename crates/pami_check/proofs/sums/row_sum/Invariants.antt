use Rattle.std.proofs.Common.{◌≡◌, ◌-◌, length}
use Rattle.pami_algebra.specs.Fraction.{Fraction}
use Rattle.pami_linear.specs.Lists.{get}
use Rattle.pami_script.specs.Script.{add_product, add_dot, each}
use Rattle.pami_theory.specs.Form.{zero_f}
use Rattle.pami_check.specs.Lists.{entry_by}
use Rattle.pami_check.proofs.sums.row_sum.Given as goal

abbrev pub invariant-loop-j : goal.invariant-loop-j
invariant-loop-j l =
    add_dot (length l.columns) (entry_by l.columns l.row) (get l.values) zero_f
    ≡ each (length l.columns - l.j) l.j (λ j (t : Fraction). add_product t (entry_by l.columns l.row j) (get l.values j)) l.total
