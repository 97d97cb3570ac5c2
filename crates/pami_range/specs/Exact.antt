-- What it means that spans are the sets of a range.
use Rattle.std.specs.Prelude.{◌≡◌, ◌⊎◌, Option, None, Some}
use Rattle.pami_algebra.specs.Fraction.{Fraction}
use Rattle.pami_algebra.specs.Operations.{◌≤ᶠ◌}
use Rattle.pami_frac.specs.declared.list.Bounds.{Bounds}
use Rattle.pami_range.specs.declared.span.End.{End}
use Rattle.pami_range.specs.declared.span.End.TheVariants.{Infinite, At, Wide}
use Rattle.pami_range.specs.declared.span.Span.{Span}

abbrev pub known_end : Option Fraction → End
known_end None = Infinite
known_end (Some v) = At v

abbrev pub IsWide : End → Type 0
IsWide Infinite = ⊥
IsWide (At v) = ⊥
IsWide (Wide r) = Unit {0}

-- the end, unless it is wide
abbrev pub IsEnd : End → Option Fraction → Type 0
IsEnd e end = IsWide e ⊎ (e ≡ known_end end)

-- the ends of an interval, but for those that are wide
pub record AreEnds (span : Span) (interval : Bounds) : Type 0 where
  pub low : IsEnd span.low interval.low
  pub high : IsEnd span.high interval.high

abbrev pub IsFrom : End → Fraction → Type 0
IsFrom Infinite c = Unit {0}
IsFrom (At v) c = v ≤ᶠ c
IsFrom (Wide r) c = Unit {0}

abbrev pub IsUpTo : End → Fraction → Type 0
IsUpTo Infinite c = Unit {0}
IsUpTo (At v) c = c ≤ᶠ v
IsUpTo (Wide r) c = Unit {0}

-- the set of values that one number may take, which has its own value now, is a span: its members are not past an end,
-- and towards an end that isn't wide there is nothing else
pub record IsSpanOf (P : Fraction → Type 0) (own : Fraction) (span : Span) : Type 0 where
  pub from : (c : Fraction) → P c → IsFrom span.low c
  pub up_to : (c : Fraction) → P c → IsUpTo span.high c
  pub below : (c : Fraction) → ¬ IsWide span.low → IsFrom span.low c → c ≤ᶠ own → P c
  pub above : (c : Fraction) → ¬ IsWide span.high → IsUpTo span.high c → own ≤ᶠ c → P c

-- the same of a number that may have no span
abbrev pub IsSpanIfAny : (Fraction → Type 0) → Fraction → Option Span → Type 0
IsSpanIfAny P own None = Unit {0}
IsSpanIfAny P own (Some span) = IsSpanOf P own span
