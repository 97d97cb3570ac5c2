use Rattle.std.proofs.Common.{◌≡◌, sym, arith, length, get_or, true}
use Rattle.std.proofs.lemmas.Grind.{common_steps}
use Rattle.std.proofs.lemmas.List.Sums.{position_or_len_is}
use Rattle.pami_frac.specs.Decimal.{is_point}
use Rattle.pami_frac.proofs.decimal.point_place.Goals as goal

pub returns-then-is_point-clause-place : goal.returns-then-is_point-clause-place
returns-then-is_point-clause-place c =
    let there : is_point (get_or c.args.bytes.now c.loop-place.place 0) ≡ true = grind (arith, common_steps) in
    sym (position_or_len_is is_point c.args.bytes.now c.loop-place.place 0 (omega arith) c.loop-place.invariant (λ h. there))

pub returns-clause-place : goal.returns-clause-place
returns-clause-place c =
    sym (position_or_len_is is_point c.args.bytes.now (length c.args.bytes.now) 0 (omega arith) (λ k h. c.loop-place.invariant k (omega arith)) (λ h. absurd (omega arith)))
