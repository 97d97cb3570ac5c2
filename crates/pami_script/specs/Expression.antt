-- Any script as an expression: operands are worked out first, the left one before the right one.
use Rattle.std.specs.Prelude.{Result, Ok}
use Rattle.pami_algebra.specs.Fraction.{Fraction}
use Rattle.pami_algebra.specs.Operations.{◌+ᶠ◌, ◌-ᶠ◌, ◌*ᶠ◌, ◌/ᶠ◌}
use Rattle.pami_frac.specs.Arithmetic.{add_outcome, sub_outcome, mul_outcome, div_outcome}
use Rattle.pami_frac.specs.declared.arithmetic.Op.{Op}
use Rattle.pami_frac.specs.declared.arithmetic.Op.TheVariants.{Add, Sub, Mul, Div}
use Rattle.pami_frac.specs.declared.arithmetic.Refused.{Refused}
use Rattle.pami_script.specs.Script.{then}

-- one operation, exact
abbrev pub exact : Op → Fraction → Fraction → Fraction
exact Add p q = p +ᶠ q
exact Sub p q = p -ᶠ q
exact Mul p q = p *ᶠ q
exact Div p q = p /ᶠ q

-- one operation, where it fits
abbrev pub outcome : Op → Fraction → Fraction → Result Fraction Refused
outcome Add p q = add_outcome p q
outcome Sub p q = sub_outcome p q
outcome Mul p q = mul_outcome p q
outcome Div p q = div_outcome p q

-- a number, or an operation between two expressions
pub data Expression : Type 0 where
  number : Fraction → Expression
  apply : Op → Expression → Expression → Expression

-- its value without bound
abbrev pub value_of : Expression → Fraction
value_of (number p) = p
value_of (apply op a b) = exact op (value_of a) (value_of b)

-- its outcome as a script
abbrev pub run : Expression → Result Fraction Refused
run (number p) = Ok p
run (apply op a b) = then (run a) (λ p. then (run b) (λ q. outcome op p q))
