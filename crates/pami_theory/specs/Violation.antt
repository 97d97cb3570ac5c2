-- How far a value lies outside of its bounds, and widths.
use Rattle.std.specs.Prelude.{◌≡◌, Bool, false, Option, None, Some, if◌then◌else◌}
use Rattle.pami_algebra.specs.Fraction.{Fraction}
use Rattle.pami_algebra.specs.Operations.{◌-ᶠ◌, ◌<ᶠ◌, is_below}
use Rattle.pami_theory.specs.declared.words.Side.{Side}
use Rattle.pami_theory.specs.declared.words.Side.TheVariants.{Above, Below}
use Rattle.pami_frac.specs.declared.list.Bounds.{Bounds}
use Rattle.pami_theory.specs.declared.words.Violation.{Violation}
use Rattle.pami_theory.specs.Form.{zero_f}
use Rattle.pami_theory.specs.Start.{is_same}

abbrev pub below_low : Option Fraction → Fraction → Option Violation
below_low None value = None
below_low (Some low) value = if is_below value low then Some (record { side = Below; amount = low -ᶠ value }) else None

abbrev pub above_high : Option Fraction → Fraction → Option Violation → Option Violation
above_high None value otherwise = otherwise
above_high (Some high) value otherwise = if is_below high value then Some (record { side = Above; amount = value -ᶠ high }) else otherwise

-- how far a value is outside; None within the bounds
abbrev pub violation : Bounds → Fraction → Option Violation
violation l value = above_high l.high value (below_low l.low value)

-- the value is past its bound on this side, by this distance
abbrev pub IsPast : Side → Bounds → Fraction → Fraction → Type 0
IsPast Above l value amount = (high : Fraction) × (l.high ≡ Some high) × (high <ᶠ value) × (amount ≡ value -ᶠ high)
IsPast Below l value amount = (low : Fraction) × (l.low ≡ Some low) × (value <ᶠ low) × (amount ≡ low -ᶠ value)

-- the bound that is passed on this side, 0 where there is none
abbrev pub value_or_zero : Option Fraction → Fraction
value_or_zero None = zero_f
value_or_zero (Some value) = value

abbrev pub passed_bound : Bounds → Side → Fraction
passed_bound l Above = value_or_zero l.high
passed_bound l Below = value_or_zero l.low

-- the distance of two finite bounds of which the lower one is less; a variable that has them is boxed
abbrev pub width_by : Option Fraction → Option Fraction → Option Fraction
width_by None high = None
width_by (Some low) None = None
width_by (Some low) (Some high) = if is_below low high then Some (high -ᶠ low) else None

-- the width of a boxed variable; None for any other
abbrev pub width : Bounds → Option Fraction
width l = width_by l.low l.high

-- both bounds are finite and equal, as a test
abbrev pub fixed_by : Option Fraction → Option Fraction → Bool
fixed_by None high = false
fixed_by (Some low) None = false
fixed_by (Some low) (Some high) = is_same low high

abbrev pub is_fixed : Bounds → Bool
is_fixed l = fixed_by l.low l.high
