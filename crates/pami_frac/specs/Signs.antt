-- Tests of a fraction's sign.
use Rattle.std.specs.Prelude.{Bool, true, false}
use lib.IntN.{ℤ, pos, negsuc}
use Rattle.pami_algebra.specs.Fraction.{Fraction}
pub use Rattle.pami_algebra.specs.Operations.{is_zero}

abbrev pub is_minus : ℤ → Bool
is_minus (pos n) = false
is_minus (negsuc n) = true

-- p is below 0
abbrev pub is_negative : Fraction → Bool
is_negative p = is_minus p.num
