-- The scripts of ranging at a basis, where s is solved: the first operation that doesn't fit, for each end by itself.
-- Ranging begins with an elimination of the final head; solves go through its steps.
use Rattle.std.specs.Prelude.{ℕ, suc, Bool, true, false, List, [], ◌∷◌, map, Option, None, Some, Result, Ok, Err, cond, nat_eq}
use Rattle.std.specs.List.{range_with_len}
use Rattle.pami_algebra.specs.Fraction.{Fraction}
use Rattle.pami_algebra.specs.Operations.{is_below}
use Rattle.pami_linear.specs.Lists.{get}
use Rattle.pami_frac.specs.Arithmetic.{add_outcome, sub_outcome, div_outcome}
use Rattle.pami_frac.specs.declared.arithmetic.Refused.{Refused}
use Rattle.pami_script.specs.Script.{then, each, each_member, add_dot}
use Rattle.pami_factoring.specs.Solve.{forward_script, backward_script}
use Rattle.pami_theory.specs.Form.{Form, variables, limits, coefficient, cost, zero_f}
use Rattle.pami_frac.specs.declared.list.Bounds.{Bounds}
use Rattle.pami_theory.specs.Basis.{Basis, head_at, stand_at}
use Rattle.pami_theory.specs.declared.words.Stand.{Stand}
use Rattle.pami_theory.specs.declared.words.Stand.TheVariants.{Basic, Lower, Upper, Zero}
use Rattle.pami_theory.specs.Fresh.{Fresh, row_at, column_at, value_at_place, standing_value}
use Rattle.pami_theory.specs.Violation.{is_fixed}
use Rattle.pami_theory.specs.declared.words.Side.{Side}
use Rattle.pami_theory.specs.declared.words.Side.TheVariants.{Above, Below}
use Rattle.pami_theory.specs.Ratio.{row_entry, toward}
use Rattle.pami_method.specs.Task.{refusal}
use Rattle.pami_method.specs.Factor.{elimination, unfit, refusal_by}
use Rattle.pami_method.specs.Scripts.{is_nonbasic}
use Rattle.pami_method.specs.Work.{unit_at, column_of}
use Rattle.pami_price.specs.Agreement.{all_nonbasic}
use Rattle.pami_ranging.specs.Intervals.{greater_low, lesser_high, bounds_from}
use Rattle.pami_range.specs.declared.span.End.{End}
use Rattle.pami_range.specs.declared.span.End.TheVariants.{Infinite, At, Wide}
use Rattle.pami_range.specs.declared.span.Span.{Span}

-- ---- one end

-- the tighter of the bound so far and the next one
abbrev pub tighter : Side → Option Fraction → Option Fraction → Option Fraction
tighter Above so_far next = lesser_high so_far next
tighter Below so_far next = greater_low so_far next

-- the tightest bound of n, ascending; a quotient is None where it doesn't bound from this side
abbrev pub tightest_script : Side → ℕ → (ℕ → Result (Option Fraction) Refused) → Result (Option Fraction) Refused
tightest_script side n quotient = each n 0 (λ k so_far. then (quotient k) (λ next. Ok (tighter side so_far next))) None

-- what a change leads to
abbrev pub moved_script : Fraction → Option Fraction → Result (Option Fraction) Refused
moved_script c None = Ok None
moved_script c (Some t) = then (add_outcome c t) (λ v. Ok (Some v))

abbrev pub end_script : Side → Fraction → ℕ → (ℕ → Result (Option Fraction) Refused) → Result (Option Fraction) Refused
end_script side c n quotient = then (tightest_script side n quotient) (moved_script c)

-- ---- the cost of a basic column

abbrev pub change_script : Stand → Fraction → Fraction → Result Fraction Refused
change_script Basic d a = div_outcome d a
change_script Lower d a = div_outcome d a
change_script Upper d a = div_outcome d a
change_script Zero d a = Ok zero_f

abbrev pub when_script : Bool → Result Fraction Refused → Result (Option Fraction) Refused
when_script true quotient = then quotient (λ q. Ok (Some q))
when_script false quotient = Ok None

-- how far the change may go before the reduced cost of k would lose its sign
abbrev pub cost_quotient : Form → Basis → Fresh → ℕ → Side → ℕ → Result (Option Fraction) Refused
cost_quotient f b s p side k =
    when_script (bounds_from side (is_fixed (limits f k)) (stand_at b k) (row_entry f (row_at s p) k))
    (change_script (stand_at b k) (get s.reduced k) (row_entry f (row_at s p) k))

abbrev pub basic_cost_script : Form → Basis → Fresh → ℕ → Side → Result (Option Fraction) Refused
basic_cost_script f b s p side = end_script side (cost f (head_at b p)) (variables f) (cost_quotient f b s p side)

-- ---- the cost of a nonbasic column

abbrev pub own_difference : Fraction → Fraction → Result (Option Fraction) Refused
own_difference c d = then (sub_outcome c d) (λ v. Ok (Some v))

abbrev pub own_cost_script : Bool → Stand → Fraction → Fraction → Side → Result (Option Fraction) Refused
own_cost_script true stand c d side = Ok None
own_cost_script false Basic c d side = Ok None
own_cost_script false Lower c d Below = own_difference c d
own_cost_script false Lower c d Above = Ok None
own_cost_script false Upper c d Below = Ok None
own_cost_script false Upper c d Above = own_difference c d
own_cost_script false Zero c d side = Ok (Some c)

abbrev pub nonbasic_cost_script : Form → Basis → Fresh → ℕ → Side → Result (Option Fraction) Refused
nonbasic_cost_script f b s j side = own_cost_script (is_fixed (limits f j)) (stand_at b j) (cost f j) (get s.reduced j) side

-- ---- bounds

-- the bound that the value at a place meets where the other one's bound moves to this side
abbrev pub met_bound : Side → Bounds → Fraction → Option Fraction
met_bound side l a = cond (is_below zero_f (toward side a)) l.low (cond (is_below (toward side a) zero_f) l.high None)

abbrev pub meet_script : Fraction → Fraction → Option Fraction → Result (Option Fraction) Refused
meet_script x a None = Ok None
meet_script x a (Some bound) = then (sub_outcome x bound) (λ u. then (div_outcome u a) (λ q. Ok (Some q)))

abbrev pub bound_quotient : Form → Basis → Fresh → ℕ → Side → ℕ → Result (Option Fraction) Refused
bound_quotient f b s v side p =
    meet_script (value_at_place b s p) (get (column_at s v) p) (met_bound side (limits f (head_at b p)) (get (column_at s v) p))

abbrev pub bound_script : Form → Basis → Fresh → ℕ → Side → Result (Option Fraction) Refused
bound_script f b s v side = end_script side (standing_value (limits f v) (stand_at b v)) f.rows (bound_quotient f b s v side)

-- ---- what comes before the quotients

-- the first refusal of two
abbrev pub first_of : Option Refused → Option Refused → Option Refused
first_of None next = next
first_of (Some r) next = Some r

-- the entries of a row at the nonbasic variables, ascending
abbrev pub prices_script : Form → Basis → List Fraction → Result (List Fraction) Refused
prices_script f b rho = each_member (λ k v. add_dot f.rows (get rho) (coefficient f v) zero_f) 0 (all_nonbasic f b)

-- the elimination, the backward solve of the place, and the entries of its row
abbrev pub row_refused : Form → Basis → Fresh → ℕ → Option Refused
row_refused f b s p =
    first_of (unfit (elimination f b.head))
    (first_of (refusal_by (elimination f b.head) (λ steps. backward_script steps [] (unit_at f p))) (refusal (prices_script f b (row_at s p))))

-- the elimination, and the forward solve of the variable's column
abbrev pub column_refused : Form → Basis → ℕ → Option Refused
column_refused f b v = first_of (unfit (elimination f b.head)) (refusal_by (elimination f b.head) (λ steps. forward_script steps [] (column_of f v)))

-- ---- spans

abbrev pub end_of : Result (Option Fraction) Refused → End
end_of (Ok None) = Infinite
end_of (Ok (Some v)) = At v
end_of (Err r) = Wide r

abbrev pub end_after : Option Refused → Result (Option Fraction) Refused → End
end_after None script = end_of script
end_after (Some r) script = Wide r

abbrev pub span_after : Option Refused → (Side → Result (Option Fraction) Refused) → Span
span_after refused script = record { low = end_after refused (script Below); high = end_after refused (script Above) }

-- the place of a variable in a head
abbrev pub place_of : List ℕ → ℕ → ℕ
place_of [] v = 0
place_of (w ∷ ws) v = cond (nat_eq w v) 0 (suc (place_of ws v))

abbrev pub cost_span_by : Form → Basis → Fresh → ℕ → Bool → Span
cost_span_by f b s j true = span_after None (nonbasic_cost_script f b s j)
cost_span_by f b s j false = span_after (row_refused f b s (place_of b.head j)) (basic_cost_script f b s (place_of b.head j))

-- of a column's cost
abbrev pub cost_span : Form → Basis → Fresh → ℕ → Span
cost_span f b s j = cost_span_by f b s j (is_nonbasic (stand_at b j))

abbrev pub bound_span_by : Form → Basis → Fresh → ℕ → Stand → Option Span
bound_span_by f b s v Basic = None
bound_span_by f b s v Lower = Some (span_after (column_refused f b v) (bound_script f b s v))
bound_span_by f b s v Upper = Some (span_after (column_refused f b v) (bound_script f b s v))
bound_span_by f b s v Zero = None

-- of the bound at which a variable stands; None where it is basic or at 0
abbrev pub bound_span : Form → Basis → Fresh → ℕ → Option Span
bound_span f b s v = bound_span_by f b s v (stand_at b v)

abbrev pub cost_spans : Form → Basis → Fresh → List Span
cost_spans f b s = map (cost_span f b s) (range_with_len 0 f.columns)

abbrev pub bound_spans : Form → Basis → Fresh → List (Option Span)
bound_spans f b s = map (bound_span f b s) (range_with_len 0 (variables f))
