-- Whole numbers that are kept only where they are below 2^127 in absolute value.
use Rattle.std.specs.Prelude.{ℕ, ◌*◌, ◌/◌, cond, Option, Some, None}
use lib.IntN.{ℤ, pos, ◌+ℤ◌, ◌*ℤ◌, nat_abs}
use Rattle.pami_algebra.specs.Fraction.{Fraction, gcd}
use Rattle.pami_algebra.specs.Reduced.{over}
use Rattle.pami_algebra.specs.Operations.{◌+ᶠ◌, ◌*ᶠ◌}
use Rattle.pami_frac.specs.Range.{small}
use Rattle.pami_frac.specs.Arithmetic.{add_fits, mul_fits}

-- the number where it is small
abbrev pub small_int : ℤ → Option ℤ
small_int z = cond (small (nat_abs z)) (Some z) None

abbrev pub small_nat : ℕ → Option ℕ
small_nat n = cond (small n) (Some n) None

-- goes on with the number where there is one
abbrev pub then_int : {B : Type 0} → Option ℤ → (ℤ → Option B) → Option B
then_int None f = None
then_int (Some x) f = f x

abbrev pub then_nat : {B : Type 0} → Option ℕ → (ℕ → Option B) → Option B
then_nat None f = None
then_nat (Some x) f = f x

-- the sum of a / b and c / d over the least common multiple, where each number on the way is small
abbrev pub sum_parts_by : ℤ → ℕ → ℤ → ℕ → ℕ → Option (ℤ × ℕ)
sum_parts_by a b c d g =
    then_int (small_int (a *ℤ pos (d / g))) (λ left.
    then_int (small_int (c *ℤ pos (b / g))) (λ right.
    then_int (small_int (left +ℤ right)) (λ above.
    then_nat (small_nat (b * (d / g))) (λ below. Some (above, below)))))

abbrev pub sum_parts_of : ℤ → ℕ → ℤ → ℕ → Option (ℤ × ℕ)
sum_parts_of a b c d = sum_parts_by a b c d (gcd b d)

-- a number over a denominator, where the number fits
abbrev pub over_if : ℤ → ℕ → Option Fraction
over_if n d = then_int (small_int n) (λ n. Some (over n d))

-- the sum where it fits
abbrev pub sum_if : Fraction → Fraction → Option Fraction
sum_if p q = cond (add_fits p q) (Some (p +ᶠ q)) None

-- the product where it fits
abbrev pub product_if : Fraction → Fraction → Option Fraction
product_if p q = cond (mul_fits p q) (Some (p *ᶠ q)) None
