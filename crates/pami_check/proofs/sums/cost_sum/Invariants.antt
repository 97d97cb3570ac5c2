use Rattle.std.proofs.Common.{◌≡◌, ◌-◌, length}
use Rattle.pami_algebra.specs.Fraction.{Fraction}
use Rattle.pami_linear.specs.Lists.{get}
use Rattle.pami_script.specs.Script.{add_product, add_dot, each}
use Rattle.pami_check.specs.Lists.{cost_by}
use Rattle.pami_check.proofs.sums.cost_sum.Given as goal

abbrev pub invariant-loop-j : goal.invariant-loop-j
invariant-loop-j l =
    add_dot (length l.columns) (cost_by l.sense l.columns) (get l.values) l.fn.start
    ≡ each (length l.columns - l.j) l.j (λ j (t : Fraction). add_product t (cost_by l.sense l.columns j) (get l.values j)) l.total
