-- The dual ratio test with bound flipping (Maros 2003; Koberstein 2005, section 6.2): which variable enters where a row
-- leaves, and which boxed variables go to their other bounds before. All indices are of variables.
use Rattle.std.specs.Prelude.{◌≡◌, ℕ, ◌<◌, Bool, true, false, not, List, Option, None, Some, if◌then◌else◌, nat_lt}
use Rattle.std.specs.List.{filter, find, range_with_len}
use Rattle.std.specs.Option.{option_map}
use Rattle.pami_algebra.specs.Fraction.{Fraction}
use Rattle.pami_algebra.specs.Operations.{◌+ᶠ◌, ◌*ᶠ◌, ◌/ᶠ◌, neg_f, is_zero, is_at_most, is_below}
use Rattle.pami_linear.specs.Lists.{get}
use Rattle.pami_linear.specs.Sums.{sum_to, dot}
use Rattle.pami_theory.specs.Form.{Form, limits, variables, coefficient, zero_f}
use Rattle.pami_theory.specs.declared.words.Stand.{Stand}
use Rattle.pami_theory.specs.declared.words.Stand.TheVariants.{Basic, Lower, Upper, Zero}
use Rattle.pami_theory.specs.Basis.{Basis, stand_at}
use Rattle.pami_theory.specs.Order.{ordered}
use Rattle.pami_theory.specs.declared.words.Side.{Side}
use Rattle.pami_theory.specs.declared.words.Side.TheVariants.{Above, Below}
use Rattle.pami_theory.specs.declared.words.Violation.{Violation}
use Rattle.pami_theory.specs.Violation.{width, is_fixed}

-- a place that leaves: how far its variable is outside, its row of the inverse (by row), the reduced costs (by variable)
pub record Leaving : Type 0 where
  pub violation : Violation
  pub row : List Fraction
  pub reduced : List Fraction

-- the entry of a variable in the pivot row: rho . a_v
abbrev pub row_entry : Form → List Fraction → ℕ → Fraction
row_entry f row v = dot f.rows (get row) (coefficient f v)

-- turned so that a positive one lowers the distance where its variable grows
abbrev pub toward : Side → Fraction → Fraction
toward Above a = a
toward Below a = neg_f a

abbrev pub turned_entry : Form → Leaving → ℕ → Fraction
turned_entry f l v = toward l.violation.side (row_entry f l.row v)

-- the stand lets the variable move so that the distance falls
abbrev pub may_enter : Stand → Fraction → Bool
may_enter Basic a = false
may_enter Lower a = is_below zero_f a
may_enter Upper a = is_below a zero_f
may_enter Zero a = not (is_zero a)

-- a nonbasic variable that isn't fixed and may enter
abbrev pub is_candidate : Form → Basis → Leaving → ℕ → Bool
is_candidate f b l v = if is_fixed (limits f v) then false else may_enter (stand_at b v) (turned_entry f l v)

-- the reduced cost by the entry: how far the step goes before the reduced cost is 0
abbrev pub ratio : Form → Leaving → ℕ → Fraction
ratio f l v = get l.reduced v /ᶠ turned_entry f l v

abbrev pub absolute : Fraction → Fraction
absolute p = if is_below p zero_f then neg_f p else p

-- the less ratio first, then the greater entry, then the smaller variable
abbrev pub walks_before : Form → Leaving → ℕ → ℕ → Bool
walks_before f l j k =
    if is_below (ratio f l j) (ratio f l k) then true else
    if is_below (ratio f l k) (ratio f l j) then false else
    if is_below (absolute (turned_entry f l k)) (absolute (turned_entry f l j)) then true else
    if is_below (absolute (turned_entry f l j)) (absolute (turned_entry f l k)) then false else nat_lt j k

-- the candidates in walk order
abbrev pub walk_order : Form → Basis → Leaving → List ℕ
walk_order f b l = ordered (walks_before f l) (filter (is_candidate f b l) (range_with_len 0 (variables f)))

-- by how much the flip of a boxed variable lowers the distance; other variables aren't flipped
abbrev pub lowered_by : Option Fraction → Fraction → Fraction
lowered_by None a = zero_f
lowered_by (Some w) a = absolute a *ᶠ w

abbrev pub flip_lowers : Form → Leaving → ℕ → Fraction
flip_lowers f l v = lowered_by (width (limits f v)) (turned_entry f l v)

-- by how much the flips of all candidates before k lower it
abbrev pub lowered_before : Form → Basis → Leaving → ℕ → Fraction
lowered_before f b l k =
    sum_to (variables f) (λ j. if is_candidate f b l j then (if walks_before f l j k then flip_lowers f l j else zero_f) else zero_f)

abbrev pub stops_at : Option Fraction → Fraction → Fraction → Bool
stops_at None lowered amount = true
stops_at (Some w) lowered amount = is_at_most amount lowered

-- the walk ends at k: k can't be flipped, or its flip after those before it would leave no distance
abbrev pub ends_at : Form → Basis → Leaving → ℕ → Bool
ends_at f b l k = stops_at (width (limits f k)) (lowered_before f b l k +ᶠ flip_lowers f l k) l.violation.amount

-- q is the first candidate at which the walk ends
pub record IsEntering (f : Form) (b : Basis) (l : Leaving) (q : ℕ) : Type 0 where
  pub within : q < variables f
  pub candidate : is_candidate f b l q ≡ true
  pub ends : ends_at f b l q ≡ true
  pub first : (k : ℕ) → k < variables f → is_candidate f b l k ≡ true → walks_before f l k q ≡ true → ends_at f b l k ≡ false

-- the variable that enters, the dual step length, and the variables that are flipped, in walk order
pub record Entering : Type 0 where
  pub variable : ℕ
  pub tau : Fraction
  pub flips : List ℕ

-- q with its ratio and the candidates before it
abbrev pub entering_at : Form → Basis → Leaving → ℕ → Entering
entering_at f b l q = record { variable = q; tau = ratio f l q; flips = filter (λ j. walks_before f l j q) (walk_order f b l) }

-- what the walk answers; None where no variable enters
abbrev pub ratio_walk : Form → Basis → Leaving → Option Entering
ratio_walk f b l = option_map (entering_at f b l) (find (ends_at f b l) (walk_order f b l))
