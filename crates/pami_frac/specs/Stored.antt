-- A fraction as a value of the program.
use Rattle.std.specs.Prelude.{ℕ, ◌<◌, ◌^◌}
use Rattle.std.specs.Coded.{Coded, code_by, coded×, coded_ℕ, coded_ℤ}
use lib.IntN.{ℤ, nat_abs}
use lib.Dec.{T}
use Rattle.pami_algebra.specs.Fraction.{Fraction, is_lowest}
use Rattle.pami_algebra.specs.Reduced.{over, over_itself}

-- a fraction as a pair of numbers and back
abbrev pub fraction_code : Coded Fraction
fraction_code = code_by (ℤ × ℕ) (coded× coded_ℤ coded_ℕ) (λ p. (p.num, p.den)) (λ p. over p.0 p.1) over_itself

-- what every stored fraction keeps: lowest terms, both numbers below 2^127 in absolute value
pub record IsStored (n : ℤ) (d : ℕ) : Type 0 where
  pub lowest : T (is_lowest n d)
  pub num_small : nat_abs n < 2 ^ 127
  pub den_small : d < 2 ^ 127
