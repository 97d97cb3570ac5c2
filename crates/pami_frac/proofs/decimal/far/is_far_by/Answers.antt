use Rattle.std.proofs.Common.{◌≡◌, arith, sym, subst, ◌++◌, length, pos, ◌-ℤ◌, ◌+ℤ◌, ◌≤ℤ◌, ◌<ℤ◌, to_z, of_z}
use Rattle.std.proofs.lemmas.Int.{to_z-of_z}
use mir.Syntax.{w128}
use Rattle.pami_frac.specs.Decimal.{number_after, power_of}
use Rattle.pami_frac.specs.DecimalDigits.{HasDigits}
use Rattle.pami_frac.proofs.Infinite.{far_is, zero_near, none_there}
use Rattle.pami_frac.proofs.decimal.far.is_far_by.Goals as goal

pub returns-then-count-eq0 : goal.returns-then-count-eq0
returns-then-count-eq0 c = λ s.
    let m = number_after 0 (c.args.whole.now ++ c.args.fraction.now) in
    sym (zero_near s m (power_of c.args.part.now -ℤ pos (length c.args.fraction.now)) (none_there m (subst (HasDigits m) c.if-count-eq0.true c.significant_of-count.ensures.digits)))

pub returns : goal.returns
returns c = λ s.
    let other = c.if-count-eq0.false in
    let k = c.significant_of-count.result in
    let places = length c.args.fraction.now in
    let back : to_z w128 (of_z w128 c.power.result) ≡ c.power.result = to_z-of_z w128 c.power.result (record { sfits = c.power.type_inv }) in
    far_is s (number_after 0 (c.args.whole.now ++ c.args.fraction.now)) k places c.power.result (power_of c.args.part.now) c.is_high.result
    c.significant_of-count.ensures.digits (omega (arith, other)) c.significant_of-count.ensures.size c.is_high.ensures.size c.power.ensures.same
    (λ e. subst (λ x. pos 20 ≤ℤ (((pos k -ℤ pos 1) -ℤ pos places) +ℤ x)) back (c.is_high.ensures.high e))
    (λ e. subst (λ x. (((pos k -ℤ pos 1) -ℤ pos places) +ℤ x) <ℤ pos 20) back (c.is_high.ensures.low e))
