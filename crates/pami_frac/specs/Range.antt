-- Which fractions the program can store, and which fraction two whole numbers make.
use Rattle.std.specs.Prelude.{ℕ, ◌^◌, suc, Bool, true, false, cond, nat_lt, Option, Some, None}
use lib.IntN.{ℤ, pos, negsuc, neg_ℤ, nat_abs}
use Rattle.pami_algebra.specs.Fraction.{Fraction}
use Rattle.pami_algebra.specs.Reduced.{over}

-- below 2^127
abbrev pub small : ℕ → Bool
small n = nat_lt n (2 ^ 127)

-- the numerator, without its sign, and the denominator are below 2^127
abbrev pub fits : Fraction → Bool
fits p = cond (small (nat_abs p.num)) (small p.den) false

-- the fraction where it fits
abbrev pub kept : Fraction → Option Fraction
kept p = cond (fits p) (Some p) None

-- a magnitude with a sign; `true` is below 0
abbrev pub signed_of : Bool → ℕ → ℤ
signed_of true n = neg_ℤ (pos n)
signed_of false n = pos n

-- n / d in lowest terms, where the sign of d goes to the numerator; 0 for d = 0
abbrev pub quotient : ℤ → ℤ → Fraction
quotient n (pos d) = over n d
quotient n (negsuc d) = over (neg_ℤ n) (suc d)
