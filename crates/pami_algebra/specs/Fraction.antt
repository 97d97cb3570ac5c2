-- A fraction: whole numbers without bound, in lowest terms, with a denominator of at least 1.
use Rattle.std.specs.Prelude.{ℕ, ◌/◌, ◌%◌, Bool, false, cond, zero, suc}
use lib.IntN.{ℤ, pos, negsuc, neg_ℤ, nat_abs}
use lib.Dec.{T, eqb, ltb}

-- Euclid's algorithm, with `k` steps at most
abbrev pub gcd_within : ℕ → ℕ → ℕ → ℕ
gcd_within zero a b = a
gcd_within (suc k) a zero = a
gcd_within (suc k) a (suc b) = gcd_within k (suc b) (a % suc b)

-- the greatest common divisor: `suc b` steps are enough
unfoldable pub gcd : ℕ → ℕ → ℕ
gcd a b = gcd_within (suc b) a b

-- the test for lowest terms: no common divisor but 1, over a denominator of at least 1
abbrev pub is_lowest : ℤ → ℕ → Bool
is_lowest n d = cond (eqb (gcd (nat_abs n) d) 1) (ltb 0 d) false

-- the proof is one of a test, so that equal numbers make equal fractions
pub record Fraction : Type 0 where
  pub num : ℤ
  pub den : ℕ
  pub lowest : T (is_lowest num den)

-- `n / g`, for a `g` that divides `n`
abbrev pub over_nat : ℤ → ℕ → ℤ
over_nat (pos n) g = pos (n / g)
over_nat (negsuc n) g = neg_ℤ (pos (suc n / g))
