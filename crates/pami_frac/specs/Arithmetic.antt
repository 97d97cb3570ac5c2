-- What sums, differences, products and quotients answer: the exact value, or the refusal with both operands.
use Rattle.std.specs.Prelude.{ℕ, ◌*◌, ◌/◌, Bool, true, false, cond, Result, Ok, Err}
use lib.IntN.{ℤ, pos, ◌+ℤ◌, ◌*ℤ◌, nat_abs}
use Rattle.pami_algebra.specs.Fraction.{Fraction, gcd}
use Rattle.pami_algebra.specs.Operations.{◌+ᶠ◌, ◌*ᶠ◌, of_int, neg_f, inv_f}
use Rattle.pami_frac.specs.Range.{small, fits}
use Rattle.pami_frac.specs.Signs.{is_zero}
use Rattle.pami_frac.specs.declared.arithmetic.Op.{Op}
use Rattle.pami_frac.specs.declared.arithmetic.Op.TheVariants.{Add, Sub, Mul, Div}
use Rattle.pami_frac.specs.declared.arithmetic.Refused.{Refused}

-- two summands, their sum and the denominator below them are below 2^127 in absolute value
abbrev pub all_small : ℤ → ℤ → ℕ → Bool
all_small left right below = cond (small (nat_abs left)) (cond (small (nat_abs right)) (cond (small (nat_abs (left +ℤ right))) (small below) false) false) false

-- a/b + c/d fits where a (d/g), c (b/g), their sum and b (d/g) are small; g is the greatest common divisor of b and d
unfoldable pub add_fits : Fraction → Fraction → Bool
add_fits p q = all_small (p.num *ℤ pos (q.den / gcd p.den q.den)) (q.num *ℤ pos (p.den / gcd p.den q.den)) (p.den * (q.den / gcd p.den q.den))

-- a product fits where its lowest terms do
unfoldable pub mul_fits : Fraction → Fraction → Bool
mul_fits p q = fits (p *ᶠ q)

-- the value where it fits, else the operation that doesn't fit
abbrev pub answer : Bool → Fraction → Op → Fraction → Fraction → Result Fraction Refused
answer true v op p q = Ok v
answer false v op p q = Err (record { op = op; left = p; right = q })

-- a sum with a zero operand fits whatever the other operand is
unfoldable pub add_outcome : Fraction → Fraction → Result Fraction Refused
add_outcome p q = cond (is_zero p) (Ok q) (cond (is_zero q) (Ok p) (answer (add_fits p q) (p +ᶠ q) Add p q))

-- and so does a product
unfoldable pub mul_outcome : Fraction → Fraction → Result Fraction Refused
mul_outcome p q = cond (is_zero p) (Ok (of_int (pos 0))) (cond (is_zero q) (Ok (of_int (pos 0))) (answer (mul_fits p q) (p *ᶠ q) Mul p q))

-- the same answer, where a refusal names this operation with these operands
abbrev pub refused_as : Op → Fraction → Fraction → Result Fraction Refused → Result Fraction Refused
refused_as op p q (Ok v) = Ok v
refused_as op p q (Err r) = Err (record { op = op; left = p; right = q })

-- a difference fits where the sum with the negation does
unfoldable pub sub_outcome : Fraction → Fraction → Result Fraction Refused
sub_outcome p q = refused_as Sub p q (add_outcome p (neg_f q))

-- a quotient fits where the product with the inverse does
unfoldable pub div_outcome : Fraction → Fraction → Result Fraction Refused
div_outcome p q = refused_as Div p q (mul_outcome p (inv_f q))
