-- The ratio walk by a running slope: the distance that is left behind the flips that were made.
use Rattle.std.specs.Prelude.{ℕ, Bool, true, List, [], ◌∷◌, Option, None, Some, if◌then◌else◌}
use Rattle.pami_algebra.specs.Fraction.{Fraction}
use Rattle.pami_algebra.specs.Operations.{◌-ᶠ◌, is_at_most}
use Rattle.pami_theory.specs.Form.{Form, limits, zero_f}
use Rattle.pami_theory.specs.Violation.{width}
use Rattle.pami_theory.specs.Ratio.{Leaving, flip_lowers}

-- the slope behind the flips of these variables, one after the other
abbrev pub slope_after : Form → Leaving → Fraction → List ℕ → Fraction
slope_after f l slope [] = slope
slope_after f l slope (v ∷ vs) = slope_after f l (slope -ᶠ flip_lowers f l v) vs

-- a variable of this width isn't passed, where its flip would leave this slope
abbrev pub stops_with : Option Fraction → Fraction → Bool
stops_with None slope = true
stops_with (Some w) slope = is_at_most slope zero_f

-- the first of these variables that isn't passed
abbrev pub walk_down : Form → Leaving → Fraction → List ℕ → Option ℕ
walk_down f l slope [] = None
walk_down f l slope (v ∷ vs) =
    if stops_with (width (limits f v)) (slope -ᶠ flip_lowers f l v) then Some v else walk_down f l (slope -ᶠ flip_lowers f l v) vs
