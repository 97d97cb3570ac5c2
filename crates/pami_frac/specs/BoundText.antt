-- What a text says of a bound: a decimal, or that there is no end in one direction.
use Rattle.std.specs.Prelude.{ℕ, ◌/◌, ◌^◌, not, Bool, true, false, cond, ◌&&◌, ◌||◌, List, Result, Ok, Err, nat_lt, codes}
use Rattle.std.specs.Str.{str_eq_ignore_ascii_case}
use lib.IntN.{nat_abs}
use Rattle.pami_algebra.specs.Fraction.{Fraction}
use Rattle.pami_frac.specs.declared.bound.BoundValue.{BoundValue}
use Rattle.pami_frac.specs.declared.bound.BoundValue.TheVariants as bounds
use Rattle.pami_frac.specs.declared.fault.DecimalFault.{DecimalFault}
use Rattle.pami_frac.specs.Decimal.{is_negative, unsigned, is_decimal, decimal_value, decimal_outcome}

-- the least size that counts as infinite
abbrev pub infinity : ℕ
infinity = 10 ^ 20

-- as large as that in absolute value
abbrev pub is_infinite : Fraction → Bool
is_infinite v = not (nat_lt (nat_abs v.num / v.den) infinity)

-- a sign that may be missing, and one of the two words, in letters of any case
abbrev pub is_infinity : List ℕ → Bool
is_infinity text = str_eq_ignore_ascii_case (unsigned text) (codes "inf") || str_eq_ignore_ascii_case (unsigned text) (codes "infinity")

-- no end in the direction of the sign; `true` is below 0
abbrev pub endless : Bool → BoundValue
endless true = bounds.Minus
endless false = bounds.Plus

-- a decimal as a bound
abbrev pub finite : Result Fraction DecimalFault → Result BoundValue DecimalFault
finite (Ok v) = Ok (bounds.Finite v)
finite (Err e) = Err e

-- what the text is read as; a decimal that large is infinite also where it is too wide
unfoldable pub bound_outcome : List ℕ → Result BoundValue DecimalFault
bound_outcome text =
    cond (is_infinity text || (is_decimal text && is_infinite (decimal_value text)))
    (Ok (endless (is_negative text)))
    (finite (decimal_outcome text))
