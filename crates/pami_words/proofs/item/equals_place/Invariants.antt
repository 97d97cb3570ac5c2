use Rattle.std.proofs.Common.{◌≡◌, ◌<◌, ℕ, false, get_or}
use Rattle.pami_words.specs.Items.{is_equals}
use Rattle.pami_words.proofs.item.equals_place.Given as goal

abbrev pub invariant-loop-i : goal.invariant-loop-i
invariant-loop-i l = (k : ℕ) → k < l.i → is_equals (get_or l.word k 0) ≡ false
