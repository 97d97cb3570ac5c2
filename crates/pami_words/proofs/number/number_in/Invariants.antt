use Rattle.std.proofs.Common.{◌≡◌, ◌≤◌, drop}
use Rattle.pami_words.proofs.Digits.{with_digits}
use Rattle.pami_words.proofs.number.number_in.Given as goal

abbrev pub invariant-loop-byte : goal.invariant-loop-byte
invariant-loop-byte l =
    (l.number ≤ l.greatest) × (with_digits l.greatest 0 l.text ≡ with_digits l.greatest l.number (drop l.byte-index l.text))
