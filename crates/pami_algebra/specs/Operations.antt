-- The operations of fractions, their order, and tests that decide it.
use Rattle.std.specs.Prelude.{ℕ, ◌*◌, suc, Bool}
use Rattle.std.specs.Ordering.{int_eq}
use lib.IntN.{ℤ, pos, negsuc, neg_ℤ, ◌+ℤ◌, ◌*ℤ◌}
use lib.Signed.{◌≤ℤ◌, ◌<ℤ◌, le_z, lt_z}
use Rattle.pami_algebra.specs.Fraction.{Fraction}
use Rattle.pami_algebra.specs.Reduced.{over}

infixl 20 ◌+ᶠ◌
infixl 20 ◌-ᶠ◌
infixl 30 ◌*ᶠ◌
infixl 30 ◌/ᶠ◌
infix 10 ◌≤ᶠ◌
infix 10 ◌<ᶠ◌
-- the sum
unfoldable pub ◌+ᶠ◌ : Fraction → Fraction → Fraction
p +ᶠ q = over (p.num *ℤ pos q.den +ℤ q.num *ℤ pos p.den) (p.den * q.den)

-- the product
unfoldable pub ◌*ᶠ◌ : Fraction → Fraction → Fraction
p *ᶠ q = over (p.num *ℤ q.num) (p.den * q.den)

-- the negation
unfoldable pub neg_f : Fraction → Fraction
neg_f p = over (neg_ℤ p.num) p.den

-- a whole number as a fraction
unfoldable pub of_int : ℤ → Fraction
of_int n = over n 1

-- `d / n`, with the sign of `n` carried up
abbrev pub over_int : ℕ → ℤ → Fraction
over_int d (pos n) = over (pos d) n
over_int d (negsuc n) = over (neg_ℤ (pos d)) (suc n)

-- the inverse; 0 for 0
unfoldable pub inv_f : Fraction → Fraction
inv_f p = over_int p.den p.num

-- the difference, as a sum with the negation
abbrev pub ◌-ᶠ◌ : Fraction → Fraction → Fraction
p -ᶠ q = p +ᶠ neg_f q

-- the quotient, as a product with the inverse
abbrev pub ◌/ᶠ◌ : Fraction → Fraction → Fraction
p /ᶠ q = p *ᶠ inv_f q

-- at most, by cross products
pub record ◌≤ᶠ◌ (p q : Fraction) : Type 0 where
  pub le : (p.num *ℤ pos q.den) ≤ℤ (q.num *ℤ pos p.den)

-- below, by cross products
pub record ◌<ᶠ◌ (p q : Fraction) : Type 0 where
  pub lt : (p.num *ℤ pos q.den) <ℤ (q.num *ℤ pos p.den)

-- the test for 0
abbrev pub is_zero : Fraction → Bool
is_zero p = int_eq p.num (pos 0)

-- the test for p ≤ q
abbrev pub is_at_most : Fraction → Fraction → Bool
is_at_most p q = le_z (p.num *ℤ pos q.den) (q.num *ℤ pos p.den)

-- the test for p < q
abbrev pub is_below : Fraction → Fraction → Bool
is_below p q = lt_z (p.num *ℤ pos q.den) (q.num *ℤ pos p.den)
