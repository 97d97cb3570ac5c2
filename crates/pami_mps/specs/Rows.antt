-- The bounds of a row of the model: a function of its type, its one right-hand side and its one range.
use Rattle.std.specs.Prelude.{ℕ, Bool, true, false, List, [], ◌∷◌, Option, None, Some, if◌then◌else◌}
use Rattle.pami_algebra.specs.Fraction.{Fraction}
use Rattle.pami_algebra.specs.Operations.{◌+ᶠ◌, neg_f}
use Rattle.pami_frac.specs.Signs.{is_negative}
use Rattle.pami_frac.specs.declared.list.Bounds.{Bounds}
use Rattle.pami_frac.specs.declared.bound.BoundValue.{BoundValue}
use Rattle.pami_frac.specs.declared.bound.BoundValue.TheVariants.{Finite, Plus, Minus}
use Rattle.pami_model.specs.declared.list.Row.{Row}
use Rattle.pami_model.specs.Draft.{zero, new_row}
use Rattle.pami_model.specs.Number.{limit_value}
use Rattle.pami_mps.specs.declared.kind.RowKind.{RowKind}
use Rattle.pami_mps.specs.declared.kind.RowKind.TheVariants.{Free, AtMost, AtLeast, Equal}
use Rattle.pami_mps.specs.declared.kind.Told.{Told}
use Rattle.pami_mps.specs.Gather.{Declared, Value, given_for, is_any}

-- a bound of this value
abbrev pub bound_by : BoundValue → Option Fraction
bound_by (Finite v) = Some v
bound_by Plus = None
bound_by Minus = None

-- the one right-hand side, which is 0 where none is given
abbrev pub right_by : List (List ℕ) → BoundValue
right_by [] = Finite zero
right_by (word ∷ words) = limit_value word

-- the one range
abbrev pub range_by : List (List ℕ) → Option BoundValue
range_by [] = None
range_by (word ∷ words) = Some (limit_value word)

-- what right-hand sides and ranges tell of a row
abbrev pub told_of : List Value → List Value → Declared → Told
told_of values ranges r = record {
  kind = r.kind;
  right = right_by (given_for values r.name);
  has_right = is_any (given_for values r.name);
  has_range = is_any (given_for ranges r.name);
}

-- the bounds by a type and a right-hand side
abbrev pub plain_bounds : RowKind → Option Fraction → Bounds
plain_bounds Free b = record { low = None; high = None }
plain_bounds AtMost b = record { low = None; high = b }
plain_bounds AtLeast b = record { low = b; high = None }
plain_bounds Equal b = record { low = b; high = b }

abbrev pub magnitude : Fraction → Fraction
magnitude r = if is_negative r then neg_f r else r

-- how far the side that a range computes is from the right-hand side: |R| below it on L, |R| above it on G, R on E
abbrev pub reach : RowKind → Fraction → Fraction
reach Free r = zero
reach AtMost r = neg_f (magnitude r)
reach AtLeast r = magnitude r
reach Equal r = r

-- that side; it is infinite where the range is
abbrev pub other_side : RowKind → Fraction → BoundValue → Option Fraction
other_side kind b (Finite r) = Some (b +ᶠ reach kind r)
other_side kind b Plus = None
other_side kind b Minus = None

-- a range below 0
abbrev pub is_below_zero : BoundValue → Bool
is_below_zero (Finite r) = is_negative r
is_below_zero Plus = false
is_below_zero Minus = true

-- the side that a range computes is the lower one
abbrev pub goes_down : RowKind → BoundValue → Bool
goes_down Free range = false
goes_down AtMost range = true
goes_down AtLeast range = false
goes_down Equal range = is_below_zero range

-- the bounds by a type, a right-hand side and a range: [b - |R|, b] on L, [b, b + |R|] on G, [b + R, b] or [b, b + R] on E
abbrev pub ranged_bounds : RowKind → Fraction → BoundValue → Bounds
ranged_bounds kind b range =
    if goes_down kind range then record { low = other_side kind b range; high = Some b } else record { low = Some b; high = other_side kind b range }

abbrev pub bounds_with : RowKind → BoundValue → Option BoundValue → Bounds
bounds_with kind right None = plain_bounds kind (bound_by right)
bounds_with kind (Finite b) (Some range) = ranged_bounds kind b range
bounds_with kind Plus (Some range) = plain_bounds kind None
bounds_with kind Minus (Some range) = plain_bounds kind None

-- the row of a declaration: bounds by the type, the one right-hand side and the one range
abbrev pub row_of : List Value → List Value → Declared → Row
row_of values ranges r = new_row r.name (bounds_with r.kind (right_by (given_for values r.name)) (range_by (given_for ranges r.name)))
