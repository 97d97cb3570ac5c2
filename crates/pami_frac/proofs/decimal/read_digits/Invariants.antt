use Rattle.std.proofs.Common.{ℕ, ◌≤◌, ◌+◌, take}
use Rattle.pami_frac.specs.Decimal.{number_after}
use Rattle.pami_frac.specs.DecimalDigits.{IsRead, zeros_of}
use Rattle.pami_frac.proofs.decimal.read_digits.Given as goal

abbrev pub invariant-loop-byte : goal.invariant-loop-byte
invariant-loop-byte l = record {
  read : (m : ℕ) → IsRead l.fn.start m → IsRead l.mantissa (number_after m (take l.byte-index l.digits));
  zeros : zeros_of l.mantissa ≤ zeros_of l.fn.start + l.byte-index;
}
