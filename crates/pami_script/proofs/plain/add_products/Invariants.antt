use Rattle.std.proofs.Common.{◌≡◌, ◌-◌, length}
use Rattle.pami_linear.specs.Lists.{get}
use Rattle.pami_script.specs.Script.{add_product, add_dot, each}
use Rattle.pami_script.proofs.plain.add_products.Given as goal

abbrev pub invariant-loop-i : goal.invariant-loop-i
invariant-loop-i l = add_dot (length l.us) (get l.us) (get l.vs) l.fn.t ≡ each (length l.us - l.i) l.i (λ i t. add_product t (get l.us i) (get l.vs i)) l.total
