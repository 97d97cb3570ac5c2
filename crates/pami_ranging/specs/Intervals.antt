-- The intervals of a range by the quotients of what is solved at the basis (Vanderbei 2020, section 7.1). An interval is
-- kept as limits: None is an end that is infinite.
use Rattle.std.specs.Prelude.{ℕ, zero, suc, Bool, true, false, Option, None, Some, if◌then◌else◌}
use Rattle.std.specs.Option.{option_map}
use Rattle.pami_algebra.specs.Fraction.{Fraction}
use Rattle.pami_algebra.specs.Operations.{◌+ᶠ◌, ◌-ᶠ◌, ◌/ᶠ◌, neg_f, is_below}
use Rattle.pami_linear.specs.Lists.{get}
use Rattle.pami_theory.specs.Form.{Form, variables, limits, cost, zero_f}
use Rattle.pami_frac.specs.declared.list.Bounds.{Bounds}
use Rattle.pami_theory.specs.Basis.{Basis, head_at, stand_at}
use Rattle.pami_theory.specs.declared.words.Stand.{Stand}
use Rattle.pami_theory.specs.declared.words.Stand.TheVariants.{Basic, Lower, Upper, Zero}
use Rattle.pami_theory.specs.Fresh.{Fresh, row_at, column_at, value_at_place, standing_value}
use Rattle.pami_theory.specs.Violation.{is_fixed}
use Rattle.pami_theory.specs.declared.words.Side.{Side}
use Rattle.pami_theory.specs.declared.words.Side.TheVariants.{Above, Below}
use Rattle.pami_theory.specs.Ratio.{row_entry, toward, may_enter}

-- ---- intervals

-- all fractions
abbrev pub all_fractions : Bounds
all_fractions = record { low = None; high = None }

abbrev pub greater_low : Option Fraction → Option Fraction → Option Fraction
greater_low None next = next
greater_low (Some p) None = Some p
greater_low (Some p) (Some q) = if is_below p q then Some q else Some p

abbrev pub lesser_high : Option Fraction → Option Fraction → Option Fraction
lesser_high None next = next
lesser_high (Some p) None = Some p
lesser_high (Some p) (Some q) = if is_below q p then Some q else Some p

-- what is within both
abbrev pub both : Bounds → Bounds → Bounds
both l m = record { low = greater_low l.low m.low; high = lesser_high l.high m.high }

-- what is within the first n of them: the greatest low end and the least high one
abbrev pub all_to : ℕ → (ℕ → Bounds) → Bounds
all_to zero l = all_fractions
all_to (suc n) l = both (all_to n l) (l n)

-- each member moved by c
abbrev pub moved_by : Fraction → Bounds → Bounds
moved_by c l = record { low = option_map (λ t. c +ᶠ t) l.low; high = option_map (λ t. c +ᶠ t) l.high }

-- each member negated: the ends change places
abbrev pub negated : Bounds → Bounds
negated l = record { low = option_map neg_f l.high; high = option_map neg_f l.low }

abbrev pub when : Bool → Fraction → Option Fraction
when true q = Some q
when false q = None

-- ---- the cost of a basic column

-- whether a variable bounds the change from this side: where it would be a candidate of the row's ratio test
abbrev pub bounds_from : Side → Bool → Stand → Fraction → Bool
bounds_from side fixed s a = if fixed then false else may_enter s (toward side a)

-- the change at which the reduced cost d, of which each unit takes a, would be 0
abbrev pub change_to_zero : Stand → Fraction → Fraction → Fraction
change_to_zero Basic d a = d /ᶠ a
change_to_zero Lower d a = d /ᶠ a
change_to_zero Upper d a = d /ᶠ a
change_to_zero Zero d a = zero_f

-- the changes with which d - change a has the sign of the stand
abbrev pub sign_limits : Bool → Stand → Fraction → Fraction → Bounds
sign_limits fixed s d a = record { low = when (bounds_from Below fixed s a) (change_to_zero s d a); high = when (bounds_from Above fixed s a) (change_to_zero s d a) }

abbrev pub limits_of_variable : Form → Basis → Fresh → ℕ → ℕ → Bounds
limits_of_variable f b s p k = sign_limits (is_fixed (limits f k)) (stand_at b k) (get s.reduced k) (row_entry f (row_at s p) k)

-- of the column that is basic at place p
abbrev pub basic_cost_interval : Form → Basis → Fresh → ℕ → Bounds
basic_cost_interval f b s p = moved_by (cost f (head_at b p)) (all_to (variables f) (limits_of_variable f b s p))

-- ---- the cost of a nonbasic column

abbrev pub cost_interval_by : Bool → Stand → Fraction → Fraction → Bounds
cost_interval_by true s c d = all_fractions
cost_interval_by false Basic c d = all_fractions
cost_interval_by false Lower c d = record { low = Some (c -ᶠ d); high = None }
cost_interval_by false Upper c d = record { low = None; high = Some (c -ᶠ d) }
cost_interval_by false Zero c d = record { low = Some c; high = Some c }

abbrev pub nonbasic_cost_interval : Form → Basis → Fresh → ℕ → Bounds
nonbasic_cost_interval f b s j = cost_interval_by (is_fixed (limits f j)) (stand_at b j) (cost f j) (get s.reduced j)

-- ---- bounds

-- the change at which x, of which each unit takes a, meets a bound
abbrev pub change_to_bound : Fraction → Fraction → Option Fraction → Option Fraction
change_to_bound x a bound = option_map (λ w. (x -ᶠ w) /ᶠ a) bound

-- the changes with which x - change a is within the limits
abbrev pub value_limits : Bounds → Fraction → Fraction → Bounds
value_limits l x a =
    if is_below zero_f a then record { low = change_to_bound x a l.high; high = change_to_bound x a l.low } else
    if is_below a zero_f then record { low = change_to_bound x a l.low; high = change_to_bound x a l.high } else all_fractions

abbrev pub limits_of_place : Form → Basis → Fresh → ℕ → ℕ → Bounds
limits_of_place f b s v p = value_limits (limits f (head_at b p)) (value_at_place b s p) (get (column_at s v) p)

-- of the bound at which v stands
abbrev pub bound_interval : Form → Basis → Fresh → ℕ → Bounds
bound_interval f b s v = moved_by (standing_value (limits f v) (stand_at b v)) (all_to f.rows (limits_of_place f b s v))
