-- What the flips of a step change, and its primal length, over a program's lists. Columns go by variable and then by row,
-- stands and widths by variable.
use Rattle.std.specs.Prelude.{ℕ, List, [], ◌∷◌, Option, None, Result, Ok, slice_index_or}
use Rattle.std.specs.List.{filter, range_with_len}
use Rattle.pami_algebra.specs.Fraction.{Fraction}
use Rattle.pami_linear.specs.Lists.{get}
use Rattle.pami_frac.specs.Arithmetic.{sub_outcome, div_outcome}
use Rattle.pami_frac.specs.declared.arithmetic.Refused.{Refused}
use Rattle.pami_script.specs.Script.{then, each_member, add_product}
use Rattle.pami_theory.specs.declared.words.Stand.{Stand}
use Rattle.pami_theory.specs.declared.words.Stand.TheVariants.{Basic}
use Rattle.pami_theory.specs.Step.{is_among, change_by}
use Rattle.pami_theory.specs.Violation.{value_or_zero}
use Rattle.pami_vec.specs.Scripts.{dot_script}
use Rattle.pami_state.specs.Columns.{column_of}

-- by how much the value of a variable changes by its flip
abbrev pub flip_at : List Stand → List (Option Fraction) → ℕ → Fraction
flip_at stands widths v = change_by (slice_index_or stands v Basic) (value_or_zero (slice_index_or widths v None))

-- the column of each of these variables times its change, added to the rows
abbrev pub flips_by : List (List Fraction) → (ℕ → Fraction) → List ℕ → List Fraction → Result (List Fraction) Refused
flips_by columns change [] rows = Ok rows
flips_by columns change (v ∷ vs) rows =
    then (each_member (λ i t. add_product t (change v) (get (column_of columns v) i)) 0 rows) (λ next. flips_by columns change vs next)

-- those of a list of variables among the first n, ascending
abbrev pub ascending_to : ℕ → List ℕ → List ℕ
ascending_to n vs = filter (λ v. is_among v vs) (range_with_len 0 n)

-- the primal step length; rho and what the flips change go by row
abbrev pub length_by : List Fraction → List Fraction → Fraction → Fraction → Fraction → Result Fraction Refused
length_by rho flips value bound pivot =
    then (dot_script rho flips) (λ u. then (sub_outcome value u) (λ x. then (sub_outcome x bound) (λ y. div_outcome y pivot)))
