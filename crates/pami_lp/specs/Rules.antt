-- What a name, a complete row and a bound add to what is known of a file, or the first thing that is wrong with them.
use Rattle.std.specs.Prelude.{ℕ, ◌+◌, ◌&&◌, Bool, false, not, List, [], ◌∷◌, ◌++◌, length, Option, None, Some, Result, Ok, Err, if◌then◌else◌, nat_eq, codes, decimal}
use Rattle.std.specs.List.{list_any}
use Rattle.std.specs.Option.{is_some}
use Rattle.pami_algebra.specs.Fraction.{Fraction}
use Rattle.pami_algebra.specs.Operations.{is_below}
use Rattle.pami_frac.specs.declared.list.Bounds.{Bounds}
use Rattle.pami_frac.specs.declared.list.Entry.{Entry}
use Rattle.pami_frac.specs.Answers.{then as chain}
use Rattle.pami_model.specs.declared.fault.BuildFault.{BuildFault}
use Rattle.pami_model.specs.declared.fault.FileKind.{FileKind}
use Rattle.pami_model.specs.declared.fault.FileKind.TheVariants as kinds
use Rattle.pami_model.specs.Rules.{names_of_rows, names_of_columns}
use Rattle.pami_model.specs.Refusal.{judge_build}
use Rattle.pami_model.specs.Draft.{Draft, zero, is_zero, new_row, new_column, changed, stores, column_at, column_with_cost, column_with_bounds, is_crossed, place_of, row_fault, column_fault, entry_fault}
use Rattle.pami_lp_text.specs.declared.kind.Relation.{Relation}
use Rattle.pami_lp_text.specs.declared.kind.Relation.TheVariants as relations
use Rattle.pami_lp.specs.Values.{judged, sum_of, unbounded}

-- a value, unless a builder refuses
abbrev pub unless : {A : Type 0} → Option BuildFault → A → Result A FileKind
unless fault x = judged (judge_build fault) x

-- ---- columns

abbrev pub stand_at : Option ℕ → Draft → List ℕ → Result (Draft × ℕ) FileKind
stand_at (Some j) d name = Ok (d, j)
stand_at None d name = unless (column_fault d name) (record d { columns = d.columns ++ new_column name ∷ [] }, length d.columns)

-- the column of this name, which is added where it is new
abbrev pub stand : Draft → List ℕ → Result (Draft × ℕ) FileKind
stand d name = stand_at (place_of name (names_of_columns d.columns)) d name

-- ---- the sums of a row

abbrev pub entry : ℕ → Fraction → Entry
entry column value = record { place = column; value = value }

-- a term more of this column: it is added to the column's sum, or begins one behind the others
abbrev pub add_term : List Entry → ℕ → Fraction → Result (List Entry) FileKind
add_term [] column value = Ok (entry column value ∷ [])
add_term (e ∷ es) column value =
    if nat_eq e.place column then chain (sum_of e.value value) (λ t. Ok (entry column t ∷ es))
    else chain (add_term es column value) (λ rest. Ok (e ∷ rest))

-- ---- rows

-- a row without a name is R1, R2, .. by its place among all rows
abbrev pub name_by : ℕ → Option (List ℕ) → List ℕ
name_by row (Some name) = name
name_by row None = codes "R" ++ decimal (row + 1)

abbrev pub with_entry : Draft → ℕ → Entry → Draft
with_entry d row e = record d { pairs = d.pairs ++ (e.place, row) ∷ []; columns = changed e.place (stores row e.value) d.columns }

-- a sum of 0 stores nothing
abbrev pub add_one : Draft → ℕ → Entry → Result Draft FileKind
add_one d row e = if is_zero e.value then Ok d else unless (entry_fault d e.place row e.value) (with_entry d row e)

abbrev pub add_entries : Draft → ℕ → List Entry → Result Draft FileKind
add_entries d row [] = Ok d
add_entries d row (e ∷ es) = chain (add_one d row e) (λ d. add_entries d row es)

abbrev pub with_row : Draft → List ℕ → Bounds → Result Draft FileKind
with_row d name bounds = unless (row_fault d name) (record d { rows = d.rows ++ new_row name bounds ∷ [] })

-- a complete row: a name that stood before, then crossed sides, then what the builder refuses
abbrev pub end_row : Draft → List ℕ → Bounds → List Entry → Result Draft FileKind
end_row d name sides sums =
    if is_some (place_of name (names_of_rows d.rows)) then Err kinds.DuplicateRow else
    if is_crossed sides then Err kinds.Crossed else
    chain (with_row d name sides) (λ e. add_entries e (length d.rows) sums)

-- ---- the objective

-- a coefficient more of a column's cost
abbrev pub add_cost : Draft → ℕ → Fraction → Result Draft FileKind
add_cost d column value =
    chain (sum_of (column_at d.columns column).cost value) (λ t. Ok (record d { columns = changed column (column_with_cost t) d.columns }))

abbrev pub add_constant : Draft → Fraction → Result Draft FileKind
add_constant d value = chain (sum_of d.constant value) (λ t. Ok (record d { constant = t }))

-- ---- bounds

abbrev pub is_negative : Option Fraction → Bool
is_negative None = false
is_negative (Some v) = is_below v zero

abbrev pub with_lowered : ℕ → List ℕ → List ℕ
with_lowered column lowered = if list_any (nat_eq column) lowered then lowered else lowered ++ column ∷ []

abbrev pub with_bounds : ℕ → Bounds → Draft → Draft
with_bounds column b d = record d { columns = changed column (column_with_bounds b) d.columns }

-- an upper bound below 0 takes the lower one away where none was stated
abbrev pub with_high : Bool → Bounds → Option Fraction → Bounds
with_high stated old high = if is_negative high && not stated then record { low = None; high = high } else record { low = old.low; high = high }

-- a column's bounds behind what a relation sets of it
abbrev pub bounds_set : Relation → Bool → Bounds → Bounds → Bounds
bounds_set relations.AtMost stated old b = with_high stated old b.high
bounds_set relations.AtLeast stated old b = record { low = b.low; high = old.high }
bounds_set relations.Equal stated old b = b

-- the columns with a lower bound of their own, behind it
abbrev pub lowered_set : Relation → ℕ → List ℕ → List ℕ
lowered_set relations.AtMost column lowered = lowered
lowered_set relations.AtLeast column lowered = with_lowered column lowered
lowered_set relations.Equal column lowered = with_lowered column lowered

-- what bounds are set in: the columns, and which have a lower bound of their own
pub record Bounded : Type 0 where
  pub draft : Draft
  pub lowered : List ℕ

abbrev pub bounded : Draft → List ℕ → Bounded
bounded d lowered = record { draft = d; lowered = lowered }

abbrev pub set_bound : Relation → ℕ → Bounds → Bounded → Bounded
set_bound r j sides s = record {
  draft = with_bounds j (bounds_set r (list_any (nat_eq j) s.lowered) (column_at s.draft.columns j).bounds sides) s.draft;
  lowered = lowered_set r j s.lowered;
}

-- `free` takes both bounds away, and counts as a lower bound of its own
abbrev pub set_free : ℕ → Bounded → Bounded
set_free j s = record { draft = with_bounds j unbounded s.draft; lowered = with_lowered j s.lowered }
