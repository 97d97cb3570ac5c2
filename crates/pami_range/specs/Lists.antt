-- The scripts of ranging over a program's lists: bounds, stands and reduced costs go by variable, values by place. Entries
-- of a row go by variable, those of a column by place; what has no entry is 0 and bounds nothing.
use Rattle.std.specs.Prelude.{ℕ, Bool, true, false, Option, None, Some, List, [], map, length, Result, Ok, Err, slice_index_or}
use Rattle.std.specs.List.{range_with_len}
use Rattle.pami_algebra.specs.Fraction.{Fraction}
use Rattle.pami_linear.specs.Lists.{get}
use Rattle.pami_frac.specs.declared.arithmetic.Refused.{Refused}
use Rattle.pami_frac.specs.declared.list.Bounds.{Bounds}
use Rattle.pami_frac.specs.declared.list.Entry.{Entry}
use Rattle.pami_script.specs.Script.{then, each, each_entry}
use Rattle.pami_factoring.specs.declared.kept.Kept.{Kept}
use Rattle.pami_factoring.specs.declared.kept.LuFault.{LuFault}
use Rattle.pami_factoring.specs.declared.kept.LuFault.TheVariants.{Singular, Refused as Unfit}
use Rattle.pami_factoring.specs.Solve.{forward_script, backward_script}
use Rattle.pami_factor.specs.Units.{unit_list}
use Rattle.pami_theory.specs.declared.words.Stand.{Stand}
use Rattle.pami_theory.specs.declared.words.Stand.TheVariants.{Basic, Lower, Upper, Zero}
use Rattle.pami_theory.specs.declared.words.Side.{Side}
use Rattle.pami_theory.specs.declared.words.Side.TheVariants.{Above, Below}
use Rattle.pami_theory.specs.Violation.{is_fixed, value_or_zero}
use Rattle.pami_method.specs.Scripts.{is_nonbasic}
use Rattle.pami_ranging.specs.Intervals.{bounds_from}
use Rattle.pami_range.specs.Scripts.{tighter, moved_script, change_script, when_script, met_bound, meet_script, own_cost_script, end_of, place_of}
use Rattle.pami_price.specs.Slices.{row_script}
use Rattle.pami_price.specs.declared.price.SliceRefused.{SliceRefused}
use Rattle.pami_range.specs.declared.span.End.{End}
use Rattle.pami_range.specs.declared.span.End.TheVariants.{Wide, Infinite}
use Rattle.pami_range.specs.declared.span.Span.{Span}

abbrev pub bounds_at : List Bounds → ℕ → Bounds
bounds_at bounds v = slice_index_or bounds v (record { low = None; high = None })

abbrev pub stand_at : List Stand → ℕ → Stand
stand_at xs v = slice_index_or xs v Basic

-- ---- costs

-- the tighter bound after one more variable
abbrev pub cost_step : Side → Bounds → Stand → Fraction → Fraction → Option Fraction → Result (Option Fraction) Refused
cost_step side l s d a so_far = then (when_script (bounds_from side (is_fixed l) s a) (change_script s d a)) (λ next. Ok (tighter side so_far next))

abbrev pub cost_step_at : Side → List Bounds → List Stand → List Fraction → Entry → Option Fraction → Result (Option Fraction) Refused
cost_step_at side bounds xs reduced e so_far = cost_step side (bounds_at bounds e.place) (stand_at xs e.place) (get reduced e.place) e.value so_far

abbrev pub tightest_cost : Side → List Bounds → List Stand → List Fraction → List Entry → Result (Option Fraction) Refused
tightest_cost side bounds xs reduced es = each_entry es (cost_step_at side bounds xs reduced) None

-- ---- bounds

-- the tighter bound after one more place
abbrev pub bound_step : Side → Bounds → Fraction → Fraction → Option Fraction → Result (Option Fraction) Refused
bound_step side l x a so_far = then (meet_script x a (met_bound side l a)) (λ next. Ok (tighter side so_far next))

abbrev pub bound_step_at : Side → List Bounds → List ℕ → List Fraction → Entry → Option Fraction → Result (Option Fraction) Refused
bound_step_at side bounds head values e so_far = bound_step side (bounds_at bounds (slice_index_or head e.place 0)) (get values e.place) e.value so_far

abbrev pub tightest_bound : Side → List Bounds → List ℕ → List Fraction → List Entry → Result (Option Fraction) Refused
tightest_bound side bounds head values es = each_entry es (bound_step_at side bounds head values) None

-- ---- ends
abbrev pub end_by : Fraction → Result (Option Fraction) Refused → End
end_by c tightest = end_of (then tightest (moved_script c))

-- ---- spans

-- the tightest bound over all members of a column
abbrev pub tightest_over : Side → List Bounds → List ℕ → List Fraction → List Fraction → Result (Option Fraction) Refused
tightest_over side bounds head values x =
    each (length x) 0 (λ p so_far. bound_step side (bounds_at bounds (slice_index_or head p 0)) (get values p) (get x p) so_far) None

abbrev pub wide : Refused → Span
wide r = record { low = Wide r; high = Wide r }

abbrev pub entries_span : List Bounds → List Stand → List Fraction → Fraction → List Entry → Span
entries_span bounds xs reduced own es = record {
  low = end_by own (tightest_cost Below bounds xs reduced es);
  high = end_by own (tightest_cost Above bounds xs reduced es);
}

abbrev pub members_span : List Bounds → List ℕ → List Fraction → Fraction → List Fraction → Span
members_span bounds head values own x = record {
  low = end_by own (tightest_over Below bounds head values x);
  high = end_by own (tightest_over Above bounds head values x);
}

-- by what was priced, and by what was solved; both ends are wide where that was refused
abbrev pub priced : (List Entry → Span) → Result (List Entry) SliceRefused → Span
priced span (Ok es) = span es
priced span (Err r) = wide r.refused

abbrev pub solved : (List Fraction → Span) → Result (List Fraction) Refused → Span
solved span (Ok x) = span x
solved span (Err r) = wide r

-- of the cost of the column that is basic at place p, by the steps of the elimination
abbrev pub row_span : List Kept → List (List Fraction) → List Bounds → List Stand → List Fraction → Fraction → ℕ → Span
row_span ks columns bounds xs reduced own p =
    solved (λ rho. priced (entries_span bounds xs reduced own) (row_script columns xs rho)) (backward_script ks [] (unit_list (length ks) p))

-- of a bound of the variable with this column
abbrev pub column_span : List Kept → List Bounds → List ℕ → List Fraction → Fraction → List Fraction → Span
column_span ks bounds head values own column = solved (members_span bounds head values own) (forward_script ks [] column)

-- by the elimination: where it is refused, the span is wide; that it is singular doesn't come
abbrev pub eliminated : (List Kept → Span) → Result (List Kept) LuFault → Span
eliminated span (Ok ks) = span ks
eliminated span (Err (Unfit r)) = wide r
eliminated span (Err (Singular place)) = record { low = Infinite; high = Infinite }

-- of the cost of a nonbasic column
abbrev pub own_span : Bool → Stand → Fraction → Fraction → Span
own_span fixed s c d = record { low = end_of (own_cost_script fixed s c d Below); high = end_of (own_cost_script fixed s c d Above) }

abbrev pub cost_span_at : Result (List Kept) LuFault → List (List Fraction) → List Bounds → List Fraction → List ℕ → List Stand → List Fraction → ℕ → Bool → Span
cost_span_at e columns bounds costs head xs reduced j true = own_span (is_fixed (bounds_at bounds j)) (stand_at xs j) (get costs j) (get reduced j)
cost_span_at e columns bounds costs head xs reduced j false = eliminated (λ ks. row_span ks columns bounds xs reduced (get costs j) (place_of head j)) e

-- of the first columns, ascending
abbrev pub cost_spans_at : Result (List Kept) LuFault → List (List Fraction) → List Bounds → List Fraction → List ℕ → List Stand → List Fraction → ℕ → List Span
cost_spans_at e columns bounds costs head xs reduced count =
    map (λ j. cost_span_at e columns bounds costs head xs reduced j (is_nonbasic (stand_at xs j))) (range_with_len 0 count)

abbrev pub bound_span_at : Result (List Kept) LuFault → List (List Fraction) → List Bounds → List ℕ → List Fraction → ℕ → Stand → Option Span
bound_span_at e columns bounds head values v Basic = None
bound_span_at e columns bounds head values v Lower =
    Some (eliminated (λ ks. column_span ks bounds head values (value_or_zero (bounds_at bounds v).low) (slice_index_or columns v [])) e)
bound_span_at e columns bounds head values v Upper =
    Some (eliminated (λ ks. column_span ks bounds head values (value_or_zero (bounds_at bounds v).high) (slice_index_or columns v [])) e)
bound_span_at e columns bounds head values v Zero = None

-- of all variables, ascending
abbrev pub bound_spans_at : Result (List Kept) LuFault → List (List Fraction) → List Bounds → List ℕ → List Stand → List Fraction → List (Option Span)
bound_spans_at e columns bounds head xs values = map (λ v. bound_span_at e columns bounds head values v (stand_at xs v)) (range_with_len 0 (length columns))
