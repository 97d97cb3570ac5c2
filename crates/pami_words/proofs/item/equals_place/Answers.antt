use Rattle.std.proofs.Common.{◌≡◌, sym, arith, length, get_or, true}
use Rattle.std.proofs.lemmas.Grind.{common_steps}
use Rattle.std.proofs.lemmas.List.Sums.{position_or_len_is}
use Rattle.pami_words.specs.Items.{is_equals}
use Rattle.pami_words.proofs.item.equals_place.Goals as goal

pub returns-then-byte-eq61 : goal.returns-then-byte-eq61
returns-then-byte-eq61 c =
    let there : is_equals (get_or c.args.word.now c.loop-i.i 0) ≡ true = grind (arith, common_steps) in
    sym (position_or_len_is is_equals c.args.word.now c.loop-i.i 0 (omega arith) c.loop-i.invariant (λ h. there))

pub returns : goal.returns
returns c =
    sym (position_or_len_is is_equals c.args.word.now (length c.args.word.now) 0 (omega arith) (λ k h. c.loop-i.invariant k (omega arith))
    (λ h. absurd (omega arith)))
