use Rattle.std.proofs.Common.{◌≡◌, ◌-◌, ap, arith}
use Rattle.std.proofs.lemmas.Int.{ints}
use lib.IntN.{pos, ◌-ℤ◌, ◌*ℤ◌}
use Rattle.pami_algebra.specs.Size.{bits, size}
use Rattle.pami_frac.proofs.Digits.{bits_by_log}
use Rattle.pami_devex.proofs.infeasible.merit.Goals as goal

pub returns-clause-value : goal.returns-clause-value
returns-clause-value c =
    let l = c.ilog2.result in
    let n : l ≡ bits c.args.weight - 1 = omega (arith, bits_by_log c.args.weight l c.requires c.ilog2.ensures.power_le c.ilog2.ensures.next_power_gt) in
    let s : pos 2 *ℤ size c.args.infeasibility.now -ℤ pos l ≡ pos 2 *ℤ size c.args.infeasibility.now -ℤ pos (bits c.args.weight - 1) = ap (λ k. pos 2 *ℤ size c.args.infeasibility.now -ℤ pos k) n in
    omega (arith, ints, s)
