-- How large the numbers of a fraction are, in binary digits.
use Rattle.std.specs.Prelude.{ℕ, ◌*◌, ◌/◌, ◌^◌, ◌<◌, ◌≤◌, zero, suc, cond}
use lib.IntN.{ℤ, pos, negsuc, ◌-ℤ◌, nat_abs}
use Rattle.pami_algebra.specs.Fraction.{Fraction}
use Rattle.pami_algebra.specs.Operations.{is_zero}

-- how often a number can be halved before it is 0, with `k` halvings at most
abbrev pub halvings : ℕ → ℕ → ℕ
halvings zero n = 0
halvings (suc k) zero = 0
halvings (suc k) (suc n) = suc (halvings k (suc n / 2))

-- the count of a number's binary digits; none for 0
unfoldable pub bits : ℕ → ℕ
bits n = halvings n n

-- b binary digits are what the number needs
pub record NeedsDigits (n b : ℕ) : Type 0 where
  pub enough : n < 2 ^ b
  pub all : 2 ^ b ≤ 2 * n

-- the digits of the numerator less those of the denominator, and -127 for 0
unfoldable pub size : Fraction → ℤ
size p = cond (is_zero p) (negsuc 126) (pos (bits (nat_abs p.num)) -ℤ pos (bits p.den))
