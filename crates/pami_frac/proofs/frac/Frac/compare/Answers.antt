use Rattle.std.proofs.Common.{sym}
use Rattle.pami_frac.proofs.Order.{both_above, both_below}
use Rattle.pami_frac.proofs.frac.Frac.compare.Goals as goal

pub returns-in-false-false : goal.returns-in-false-false
returns-in-false-false c =
    both_above c.args.self.now c.args.other.now c.magnitude-n.result c.magnitude-m.result c.below-b.result c.below-d.result c.compare_magnitudes-in-false-false.result
    c.magnitude-n.ensures.value c.magnitude-m.ensures.value c.below-b.ensures.value c.below-d.ensures.value
    (sym c.in-false-false.ensures.test) (sym c.in-false-false.ensures'.test) c.compare_magnitudes-in-false-false.ensures

pub returns-in-true-true : goal.returns-in-true-true
returns-in-true-true c =
    both_below c.args.self.now c.args.other.now c.magnitude-n.result c.magnitude-m.result c.below-b.result c.below-d.result c.compare_magnitudes.result
    c.magnitude-n.ensures.value c.magnitude-m.ensures.value c.below-b.ensures.value c.below-d.ensures.value
    (sym c.in-true-true.ensures.test) (sym c.in-true-true.ensures'.test) c.compare_magnitudes.ensures
