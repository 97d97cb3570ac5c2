-- What is seen behind one more good line.
use Rattle.std.specs.Prelude.{ℕ, ◌+◌, Bool, true, false, List, [], ◌∷◌, ◌++◌, length, Option, None, Some, if◌then◌else◌, nat_eq, slice_index_or}
use Rattle.pami_algebra.specs.Fraction.{Fraction}
use Rattle.pami_algebra.specs.Operations.{neg_f}
use Rattle.pami_frac.specs.declared.list.Bounds.{Bounds}
use Rattle.pami_frac.specs.declared.bound.BoundValue.{BoundValue}
use Rattle.pami_frac.specs.declared.bound.BoundValue.TheVariants.{Finite}
use Rattle.pami_frac.specs.Decimal.{decimal_value}
use Rattle.pami_model.specs.declared.list.Column.{Column}
use Rattle.pami_model.specs.declared.model.Sense.{Sense}
use Rattle.pami_model.specs.Rules.{names_of_rows, names_of_columns}
use Rattle.pami_model.specs.Draft.{zero, new_row, new_column, changed, stores, row_with_bounds, column_with_bounds, column_with_cost, place_of}
use Rattle.pami_model.specs.Number.{limit_value}
use Rattle.pami_mps.specs.declared.kind.RowKind.{RowKind}
use Rattle.pami_mps.specs.declared.kind.RowKind.TheVariants.{Free}
use Rattle.pami_mps.specs.declared.kind.Section.{Section}
use Rattle.pami_mps.specs.declared.kind.Section.TheVariants.{Start, Name, SenseDue, SenseGiven, Rows, Columns, Rhs, Ranges, Limits, End}
use Rattle.pami_mps.specs.declared.kind.Told.{Told}
use Rattle.pami_mps.specs.declared.kind.Sides.{Sides}
use Rattle.pami_mps.specs.Line.{Line, section_of, is_end}
use Rattle.pami_mps.specs.Gather.{Role, Kept, Objective, Dropped, sense_of, role_of, kind_of, is_free, without_set}
use Rattle.pami_mps.specs.Rows.{plain_bounds, bounds_with, bound_by}
use Rattle.pami_mps.specs.Limits.{Limit, limits_in, effect, unstated}
use Rattle.pami_mps.specs.Seen.{Seen}

-- what a name stands for among the rows so far
abbrev pub role_for : Seen → List ℕ → Option Role
role_for s name = role_of (names_of_rows s.draft.rows) s.free name

-- section lines and OBJSENSE

abbrev pub in_section : Section → Seen → Seen
in_section section s = record s { section = section }

abbrev pub with_sense : Option Sense → Seen → Seen
with_sense None s = in_section SenseGiven s
with_sense (Some sense) s = record s { section = SenseGiven; draft = record s.draft { sense = sense } }

-- the words behind OBJSENSE, and those of the data line where the sense is due
abbrev pub after_goal : Seen → List (List ℕ) → Seen
after_goal s [] = in_section SenseDue s
after_goal s (word ∷ []) = with_sense (sense_of word) s
after_goal s (word ∷ other ∷ others) = in_section SenseGiven s

-- a section line that begins this section
abbrev pub after_section : Seen → Option Section → List (List ℕ) → Seen
after_section s None others = s
after_section s (Some SenseDue) others = after_goal s others
after_section s (Some t) others = in_section t s

abbrev pub after_head : Seen → List (List ℕ) → Seen
after_head s [] = s
after_head s (word ∷ others) = after_section s (section_of word) others

-- ROWS

-- of a new row only its type is known
abbrev pub new_told : RowKind → Told
new_told kind = record { kind = kind; right = Finite zero; has_right = false; has_range = false }

-- one row more
abbrev pub with_row : Option RowKind → List ℕ → Seen → Seen
with_row None name s = s
with_row (Some kind) name s =
    if is_free kind then record s { free = s.free ++ name ∷ [] } else
    record s {
      told = s.told ++ new_told kind ∷ [];
      draft = record s.draft { rows = s.draft.rows ++ new_row name (plain_bounds kind (Some zero)) ∷ [] };
    }

abbrev pub after_row : Seen → List (List ℕ) → Seen
after_row s (kind ∷ name ∷ []) = with_row (kind_of kind) name s
after_row s words = s

-- COLUMNS

-- the column stands last: its lines go on
abbrev pub is_last : Option ℕ → ℕ → Bool
is_last None count = false
is_last (Some place) count = nat_eq (place + 1) count

abbrev pub is_current : List Column → List ℕ → Bool
is_current columns name = is_last (place_of name (names_of_columns columns)) (length columns)

-- the column stands, without a cost where it is new
abbrev pub with_column : List ℕ → Seen → Seen
with_column name s =
    if is_current s.draft.columns name then s else
    record s {
      draft = record s.draft { columns = s.draft.columns ++ new_column name ∷ [] };
      sides = s.sides ++ unstated ∷ [];
      has_cost = false;
    }

-- the place of the last column
abbrev pub last_place : List Column → ℕ
last_place columns = Rattle.std.specs.Prelude.◌-◌ (length columns) 1

-- what a pair of the last column gives
abbrev pub with_entry : Option Role → Fraction → Seen → Seen
with_entry None value s = s
with_entry (Some (Kept row)) value s = record s {
  draft = record s.draft {
    columns = changed (last_place s.draft.columns) (stores row value) s.draft.columns;
    pairs = s.draft.pairs ++ (last_place s.draft.columns, row) ∷ [];
  };
}
with_entry (Some Objective) value s = record s {
  draft = record s.draft { columns = changed (last_place s.draft.columns) (column_with_cost value) s.draft.columns };
  has_cost = true;
}
with_entry (Some Dropped) value s = s

abbrev pub with_pair : List ℕ → List ℕ → Seen → Seen
with_pair row value s = with_entry (role_for s row) (decimal_value value) s

abbrev pub after_column : Seen → List (List ℕ) → Seen
after_column s (c ∷ r ∷ v ∷ []) = with_pair r v (with_column c s)
after_column s (c ∷ r ∷ v ∷ q ∷ w ∷ []) = with_pair q w (with_pair r v (with_column c s))
after_column s words = s

-- RHS and RANGES

-- a row of which nothing is told
abbrev pub untold : Told
untold = new_told Free

abbrev pub told_at : List Told → ℕ → Told
told_at told row = slice_index_or told row untold

-- the row at this place with these bounds, and with what is told of it
abbrev pub with_told : ℕ → Told → Bounds → Seen → Seen
with_told row t bounds s = record s {
  told = changed row (λ (u : Told). t) s.told;
  draft = record s.draft { rows = changed row (row_with_bounds bounds) s.draft.rows };
}

-- no range is given yet
abbrev pub with_right : ℕ → BoundValue → Seen → Seen
with_right row value s =
    let t = told_at s.told row in with_told row (record t { right = value; has_right = true }) (plain_bounds t.kind (bound_by value)) s

abbrev pub with_range : ℕ → BoundValue → Seen → Seen
with_range row value s =
    let t = told_at s.told row in with_told row (record t { has_range = true }) (bounds_with t.kind t.right (Some value)) s

abbrev pub with_constant : Fraction → Seen → Seen
with_constant value s = record s { draft = record s.draft { constant = neg_f value }; has_constant = true }

-- what a right-hand side gives, by what its name stands for
abbrev pub right_as : Option Role → List ℕ → Seen → Seen
right_as None value s = s
right_as (Some (Kept row)) value s = with_right row (limit_value value) s
right_as (Some Objective) value s = with_constant (decimal_value value) s
right_as (Some Dropped) value s = s

abbrev pub with_value : List ℕ → List ℕ → Seen → Seen
with_value row value s = right_as (role_for s row) value s

abbrev pub after_values : Seen → List (List ℕ) → Seen
after_values s (r ∷ v ∷ []) = with_value r v s
after_values s (r ∷ v ∷ q ∷ w ∷ []) = with_value q w (with_value r v s)
after_values s words = s

-- what a range gives, by what its name stands for
abbrev pub range_as : Option Role → List ℕ → Seen → Seen
range_as None value s = s
range_as (Some (Kept row)) value s = with_range row (limit_value value) s
range_as (Some Objective) value s = s
range_as (Some Dropped) value s = s

abbrev pub with_ranged : List ℕ → List ℕ → Seen → Seen
with_ranged row value s = range_as (role_for s row) value s

abbrev pub after_ranges : Seen → List (List ℕ) → Seen
after_ranges s (r ∷ v ∷ []) = with_ranged r v s
after_ranges s (r ∷ v ∷ q ∷ w ∷ []) = with_ranged q w (with_ranged r v s)
after_ranges s words = s

-- BOUNDS

abbrev pub sides_at : List Sides → ℕ → Sides
sides_at sides column = slice_index_or sides column unstated

-- the column at this place with these bounds
abbrev pub with_sides : ℕ → Sides → Seen → Seen
with_sides column t s = record s {
  sides = changed column (λ (u : Sides). t) s.sides;
  draft = record s.draft { columns = changed column (column_with_bounds t.bounds) s.draft.columns };
}

abbrev pub limit_at : Option ℕ → Limit → Seen → Seen
limit_at None l s = s
limit_at (Some column) l s = with_sides column (effect l.kind l.value (sides_at s.sides column)) s

abbrev pub with_limit : Limit → Seen → Seen
with_limit l s = limit_at (place_of l.column (names_of_columns s.draft.columns)) l s

abbrev pub with_limits : List Limit → Seen → Seen
with_limits [] s = s
with_limits (l ∷ ls) s = with_limits ls (with_limit l s)

abbrev pub after_limits : Seen → List (List ℕ) → Seen
after_limits s words = with_limits (limits_in words) s

-- data lines and whole lines

abbrev pub after_sense : Seen → List (List ℕ) → Seen
after_sense s [] = s
after_sense s (word ∷ words) = after_goal s (word ∷ words)

abbrev pub after_words : Section → Seen → List (List ℕ) → Seen
after_words Start s words = s
after_words Name s words = s
after_words SenseDue s words = after_sense s words
after_words SenseGiven s words = s
after_words Rows s words = after_row s words
after_words Columns s words = after_column s words
after_words Rhs s words = after_values s (without_set words)
after_words Ranges s words = after_ranges s (without_set words)
after_words Limits s words = after_limits s words
after_words End s words = s

-- behind these words, of a section line or a data line
abbrev pub after_read : Bool → Seen → List (List ℕ) → Seen
after_read head s words = if head then after_head s words else after_words s.section s words

abbrev pub after : Seen → Line → Seen
after s l = if is_end s.section then s else after_read l.head s l.words
