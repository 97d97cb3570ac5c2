use Rattle.std.proofs.Common.{◌≡◌, sym, arith, length, get_or, true}
use Rattle.std.proofs.lemmas.Grind.{common_steps}
use Rattle.std.proofs.lemmas.List.Sums.{position_or_len_is}
use Rattle.pami_frac.specs.Printed.{is_slash}
use Rattle.pami_frac.proofs.fraction.slash_place.Goals as goal

pub returns-clause-place : goal.returns-clause-place
returns-clause-place c =
    sym (position_or_len_is is_slash c.args.bytes.now (length c.args.bytes.now) 0 (omega arith) (λ k h. c.loop-place.invariant k (omega arith)) (λ h. absurd (omega arith)))

pub returns-then-byte-eq47-clause-place : goal.returns-then-byte-eq47-clause-place
returns-then-byte-eq47-clause-place c =
    let there : is_slash (get_or c.args.bytes.now c.loop-place.place 0) ≡ true = grind (arith, common_steps) in
    sym (position_or_len_is is_slash c.args.bytes.now c.loop-place.place 0 (omega arith) c.loop-place.invariant (λ h. there))
