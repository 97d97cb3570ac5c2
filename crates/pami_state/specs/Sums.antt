-- The sums of the rows while they are made: each the value so far, or the first operation of its row that didn't fit.
use Rattle.std.specs.Prelude.{◌≡◌, ℕ, ◌<◌, List, length, map, Result, Ok, slice_index_or, cond, nat_lt}
use Rattle.std.specs.List.{range_with_len}
use Rattle.pami_algebra.specs.Fraction.{Fraction}
use Rattle.pami_linear.specs.Lists.{get}
use Rattle.pami_frac.specs.declared.arithmetic.Refused.{Refused}
use Rattle.pami_script.specs.Script.{then, add_product, add_dot, each_member}
use Rattle.pami_frac.specs.declared.list.Bounds.{Bounds}
use Rattle.pami_theory.specs.declared.words.Stand.{Stand}
use Rattle.pami_theory.specs.Form.{limits, zero_f}
use Rattle.pami_theory.specs.declared.words.Stand.TheVariants.{Basic, Zero}
use Rattle.pami_theory.specs.Start.{stand_by}
use Rattle.pami_theory.specs.Fresh.{standing_value}
use Rattle.pami_state.specs.Columns.{column_of, bounds_form}

-- the sum of a row
abbrev pub sum_at : List (Result Fraction Refused) → ℕ → Result Fraction Refused
sum_at sums i = slice_index_or sums i (Ok zero_f)

-- a row's sum goes on with one product, unless it was refused before
abbrev pub sum_more : Result Fraction Refused → Fraction → Fraction → Result Fraction Refused
sum_more sum a x = then sum (λ t. add_product t a x)

-- each row's sum goes on with its entry of a column, which goes by row, times x
pub record AddsColumn (old : List (Result Fraction Refused)) (column : List Fraction) (x : Fraction) (new : List (Result Fraction Refused)) : Type 0 where
  pub as_many : length new ≡ length old
  pub at : (i : ℕ) → i < length old → sum_at new i ≡ sum_more (sum_at old i) (get column i) x

-- the sums of all rows over the first n columns, where x goes by column
pub record AreSums (columns : List (List Fraction)) (rows n : ℕ) (x : ℕ → Fraction) (sums : List (Result Fraction Refused)) : Type 0 where
  pub by_row : length sums ≡ rows
  pub at : (i : ℕ) → i < rows → sum_at sums i ≡ add_dot n (λ j. get (column_of columns j) i) x zero_f

-- where a variable stands by the lists, the columns first: the row variables are basic
abbrev pub stand_by_lists : ℕ → List Bounds → List Fraction → ℕ → Stand
stand_by_lists columns bounds costs v =
    cond (nat_lt v columns) (stand_by (limits (bounds_form 0 bounds) v).low (limits (bounds_form 0 bounds) v).high (get costs v)) Basic

-- the value of a variable where it stands
abbrev pub standing_at : List Bounds → List Stand → ℕ → Fraction
standing_at bounds stands v = standing_value (limits (bounds_form 0 bounds) v) (slice_index_or stands v Zero)

-- those of all variables, by variable
abbrev pub standing_values : List Bounds → List Stand → List Fraction
standing_values bounds stands = map (standing_at bounds stands) (range_with_len 0 (length bounds))

-- the sums as one script: rows ascending, so that the first row that was refused is the refusal
abbrev pub sums_script : List (Result Fraction Refused) → Result (List Fraction) Refused
sums_script sums = each_member (λ i sum. sum) 0 sums
