-- Which line of an MPS file is good after the lines before it: the first thing that is wrong with it, if there is one.
use Rattle.std.specs.Prelude.{ℕ, ◌||◌, ◌&&◌, Bool, true, false, not, List, [], ◌∷◌, length, Option, None, Some, Result, Ok, Err, is_some, if◌then◌else◌, nat_eq, nat_lt, codes}
use Rattle.std.specs.List.{list_any}
use Rattle.std.specs.Str.{bytes_eq}
use Rattle.pami_algebra.specs.Fraction.{Fraction}
use Rattle.pami_frac.specs.Arithmetic.{add_outcome}
use Rattle.pami_frac.specs.Decimal.{decimal_value}
use Rattle.pami_frac.specs.declared.arithmetic.Refused.{Refused}
use Rattle.pami_frac.specs.declared.bound.BoundValue.{BoundValue}
use Rattle.pami_frac.specs.declared.bound.BoundValue.TheVariants.{Finite, Plus, Minus}
use Rattle.pami_model.specs.declared.fault.FileKind.{FileKind}
use Rattle.pami_model.specs.declared.fault.FileKind.TheVariants as kinds
use Rattle.pami_model.specs.declared.model.Sense.{Sense}
use Rattle.pami_model.specs.Rules.{names_of_rows, names_of_columns, name_limit}
use Rattle.pami_model.specs.Judgement.{first_of, wrong_if}
use Rattle.pami_model.specs.Draft.{place_of, row_fault, column_fault, entry_fault, first_crossed}
use Rattle.pami_model.specs.Number.{judge_number, judge_limit, limit_value}
use Rattle.pami_model.specs.Refusal.{judge_build}
use Rattle.pami_mps.specs.declared.kind.LimitKind.{LimitKind}
use Rattle.pami_mps.specs.declared.kind.LimitKind.TheVariants.{Upper, Lower}
use Rattle.pami_mps.specs.declared.kind.RowKind.{RowKind}
use Rattle.pami_mps.specs.declared.kind.RowKind.TheVariants.{AtMost, AtLeast}
use Rattle.pami_mps.specs.declared.kind.Section.{Section}
use Rattle.pami_mps.specs.declared.kind.Section.TheVariants.{Start, Name, SenseDue, SenseGiven, Rows, Columns, Rhs, Ranges, Limits, End}
use Rattle.pami_mps.specs.Line.{Line, section_of, follows, is_end, next}
use Rattle.pami_mps.specs.Gather.{Role, Kept, Objective, Dropped, sense_of, kind_of, is_free, without_set}
use Rattle.pami_mps.specs.Rows.{reach}
use Rattle.pami_mps.specs.Limits.{limit_kind_of, is_whole_kind, has_value}
use Rattle.pami_mps.specs.Seen.{Seen}
use Rattle.pami_mps.specs.After.{is_current, last_place, role_for, with_column, with_pair, with_value, with_ranged, told_at}

-- section lines and OBJSENSE

abbrev pub judge_sense : Option Sense → Option FileKind
judge_sense None = Some kinds.Sense
judge_sense (Some sense) = None

-- the one word of a line that has a sense
abbrev pub judge_sense_line : List (List ℕ) → Option FileKind
judge_sense_line [] = Some kinds.Words
judge_sense_line (word ∷ []) = judge_sense (sense_of word)
judge_sense_line (word ∷ other ∷ others) = Some kinds.Words

-- the words behind OBJSENSE: none, or a sense
abbrev pub judge_goal : List (List ℕ) → Option FileKind
judge_goal [] = None
judge_goal (word ∷ others) = judge_sense_line (word ∷ others)

abbrev pub judge_alone : List (List ℕ) → Option FileKind
judge_alone [] = None
judge_alone (word ∷ words) = Some kinds.Words

-- a NAME line has any words, an OBJSENSE line may have a sense, and each other section line has one word
abbrev pub judge_others : Section → List (List ℕ) → Option FileKind
judge_others Name others = None
judge_others SenseDue others = judge_goal others
judge_others s others = judge_alone others

abbrev pub judge_section : Section → Option Section → List (List ℕ) → Option FileKind
judge_section s None others = Some kinds.Section
judge_section s (Some t) others = if follows s t then judge_others t others else Some kinds.Order

abbrev pub judge_head : Section → List (List ℕ) → Option FileKind
judge_head s [] = Some kinds.Section
judge_head s (word ∷ others) = judge_section s (section_of word) others

-- ROWS

-- names of rows are distinct, N rows included; N rows aren't counted
abbrev pub judge_free : Seen → List ℕ → Option FileKind
judge_free s name =
    first_of (wrong_if (nat_lt name_limit (length name)) kinds.NameLong)
    (wrong_if (list_any (bytes_eq name) s.free || list_any (bytes_eq name) (names_of_rows s.draft.rows)) kinds.DuplicateRow)

abbrev pub judge_kept : Seen → List ℕ → Option FileKind
judge_kept s name =
    first_of (wrong_if (nat_lt name_limit (length name)) kinds.NameLong)
    (first_of (wrong_if (list_any (bytes_eq name) s.free) kinds.DuplicateRow)
    (judge_build (row_fault s.draft name)))

abbrev pub judge_kind : Seen → Option RowKind → List ℕ → Option FileKind
judge_kind s None name = Some kinds.RowType
judge_kind s (Some kind) name = if is_free kind then judge_free s name else judge_kept s name

abbrev pub judge_row : Seen → List (List ℕ) → Option FileKind
judge_row s (kind ∷ name ∷ []) = judge_kind s (kind_of kind) name
judge_row s words = Some kinds.Words

-- COLUMNS

abbrev pub judge_column_name : Seen → List ℕ → Option FileKind
judge_column_name s name = if is_current s.draft.columns name then None else judge_build (column_fault s.draft name)

-- one value for each row in a column, but for rows that are dropped; the limit counts what is stored
abbrev pub judge_entry : Seen → Role → Fraction → Option FileKind
judge_entry s (Kept row) value = judge_build (entry_fault s.draft (last_place s.draft.columns) row value)
judge_entry s Objective value = wrong_if s.has_cost kinds.DuplicateEntry
judge_entry s Dropped value = None

abbrev pub judge_role : Seen → Option Role → List ℕ → Option FileKind
judge_role s None value = Some kinds.UnknownRow
judge_role s (Some role) value = first_of (judge_number value) (judge_entry s role (decimal_value value))

abbrev pub judge_pair : Seen → List ℕ → List ℕ → Option FileKind
judge_pair s row value = judge_role s (role_for s row) value

abbrev pub is_marker : List ℕ → Bool
is_marker word = bytes_eq word (codes "'MARKER'")

abbrev pub judge_column : Seen → List (List ℕ) → Option FileKind
judge_column s (c ∷ r ∷ v ∷ []) =
    first_of (judge_column_name s c) (first_of (wrong_if (is_marker r) kinds.Integer) (judge_pair (with_column c s) r v))
judge_column s (c ∷ r ∷ v ∷ q ∷ w ∷ []) =
    first_of (judge_column_name s c) (first_of (wrong_if (is_marker r) kinds.Integer)
    (first_of (judge_pair (with_column c s) r v) (judge_pair (with_pair r v (with_column c s)) q w)))
judge_column s words = Some kinds.Words

-- RHS

-- a right-hand side may be no bound from above on L, and none from below on G
abbrev pub is_bad_right : RowKind → BoundValue → Bool
is_bad_right kind (Finite v) = false
is_bad_right AtMost Plus = false
is_bad_right kind Plus = true
is_bad_right AtLeast Minus = false
is_bad_right kind Minus = true

-- one value for each row; the right-hand side of a dropped row needs no more than to be readable
abbrev pub judge_right : Seen → ℕ → BoundValue → Option FileKind
judge_right s row value =
    first_of (wrong_if (told_at s.told row).has_right kinds.DuplicateEntry)
    (wrong_if (is_bad_right (told_at s.told row).kind value) kinds.Infinite)

abbrev pub judge_right_role : Seen → Option Role → List ℕ → Option FileKind
judge_right_role s None value = Some kinds.UnknownRow
judge_right_role s (Some (Kept row)) value = first_of (judge_limit value) (judge_right s row (limit_value value))
judge_right_role s (Some Objective) value = first_of (judge_number value) (wrong_if s.has_constant kinds.DuplicateEntry)
judge_right_role s (Some Dropped) value = judge_limit value

abbrev pub judge_value : Seen → List ℕ → List ℕ → Option FileKind
judge_value s row value = judge_right_role s (role_for s row) value

abbrev pub judge_values : Seen → List (List ℕ) → Option FileKind
judge_values s (r ∷ v ∷ []) = judge_value s r v
judge_values s (r ∷ v ∷ q ∷ w ∷ []) = first_of (judge_value s r v) (judge_value (with_value r v s) q w)
judge_values s words = Some kinds.Words

-- RANGES

abbrev pub judge_sum : Result Fraction Refused → Option FileKind
judge_sum (Ok v) = None
judge_sum (Err refused) = Some kinds.Wide

-- the side that a range computes fits
abbrev pub judge_width : RowKind → Fraction → BoundValue → Option FileKind
judge_width kind b (Finite r) = judge_sum (add_outcome b (reach kind r))
judge_width kind b Plus = None
judge_width kind b Minus = None

-- the row has a finite right-hand side
abbrev pub judge_side : RowKind → BoundValue → BoundValue → Option FileKind
judge_side kind (Finite b) range = judge_width kind b range
judge_side kind Plus range = Some kinds.Infinite
judge_side kind Minus range = Some kinds.Infinite

-- one range for each row
abbrev pub judge_range : Seen → ℕ → BoundValue → Option FileKind
judge_range s row range =
    first_of (wrong_if (told_at s.told row).has_range kinds.DuplicateEntry)
    (judge_side (told_at s.told row).kind (told_at s.told row).right range)

abbrev pub judge_range_role : Seen → Option Role → List ℕ → Option FileKind
judge_range_role s None value = Some kinds.UnknownRow
judge_range_role s (Some (Kept row)) value = first_of (judge_limit value) (judge_range s row (limit_value value))
judge_range_role s (Some Objective) value = Some kinds.RangeOnN
judge_range_role s (Some Dropped) value = Some kinds.RangeOnN

abbrev pub judge_ranged : Seen → List ℕ → List ℕ → Option FileKind
judge_ranged s row value = judge_range_role s (role_for s row) value

abbrev pub judge_ranges : Seen → List (List ℕ) → Option FileKind
judge_ranges s (r ∷ v ∷ []) = judge_ranged s r v
judge_ranges s (r ∷ v ∷ q ∷ w ∷ []) = first_of (judge_ranged s r v) (judge_ranged (with_ranged r v s) q w)
judge_ranges s words = Some kinds.Words

-- BOUNDS

-- a lower bound may be minus infinity, an upper one plus infinity
abbrev pub is_bad_limit : LimitKind → BoundValue → Bool
is_bad_limit kind (Finite v) = false
is_bad_limit Upper Plus = false
is_bad_limit Upper Minus = true
is_bad_limit Lower Plus = true
is_bad_limit Lower Minus = false
is_bad_limit kind value = true

abbrev pub judge_known : Seen → List ℕ → Option FileKind
judge_known s column = wrong_if (not (is_some (place_of column (names_of_columns s.draft.columns)))) kinds.UnknownColumn

abbrev pub judge_limited : Seen → LimitKind → List ℕ → List ℕ → Option FileKind
judge_limited s kind column value =
    first_of (judge_known s column) (first_of (judge_limit value) (wrong_if (is_bad_limit kind (limit_value value)) kinds.Infinite))

-- the words behind a type with a value, and behind one without
abbrev pub judge_valued : Seen → LimitKind → List (List ℕ) → Option FileKind
judge_valued s kind (column ∷ value ∷ []) = judge_limited s kind column value
judge_valued s kind (set ∷ column ∷ value ∷ []) = judge_limited s kind column value
judge_valued s kind words = Some kinds.Words

abbrev pub judge_unvalued : Seen → List (List ℕ) → Option FileKind
judge_unvalued s (column ∷ []) = judge_known s column
judge_unvalued s (set ∷ column ∷ []) = judge_known s column
judge_unvalued s (set ∷ column ∷ unread ∷ []) = judge_known s column
judge_unvalued s words = Some kinds.Words

abbrev pub judge_limit_kind : Seen → Option LimitKind → List (List ℕ) → Option FileKind
judge_limit_kind s (Some kind) words = if has_value kind then judge_valued s kind words else judge_unvalued s words
judge_limit_kind s None words = Some kinds.BoundType

-- two to four words, as many as the type asks for; then the type
abbrev pub judge_whole_kind : List ℕ → List (List ℕ) → Option FileKind
judge_whole_kind kind words =
    first_of (wrong_if (nat_eq (length words) 0 || nat_lt 3 (length words)) kinds.Words) (wrong_if (is_whole_kind kind) kinds.Integer)

abbrev pub judge_limits : Seen → List (List ℕ) → Option FileKind
judge_limits s [] = Some kinds.Words
judge_limits s (kind ∷ words) = first_of (judge_whole_kind kind words) (judge_limit_kind s (limit_kind_of kind) words)

-- data lines and whole lines

abbrev pub judge_words : Section → Seen → List (List ℕ) → Option FileKind
judge_words Start s words = Some kinds.Order
judge_words Name s words = Some kinds.Order
judge_words SenseDue s words = judge_sense_line words
judge_words SenseGiven s words = Some kinds.Order
judge_words Rows s words = judge_row s words
judge_words Columns s words = judge_column s words
judge_words Rhs s words = judge_values s (without_set words)
judge_words Ranges s words = judge_ranges s (without_set words)
judge_words Limits s words = judge_limits s words
judge_words End s words = None

abbrev pub judge_data : Seen → List (List ℕ) → Option FileKind
judge_data s [] = None
judge_data s (w ∷ ws) = judge_words s.section s (w ∷ ws)

-- the words of a section line or a data line
abbrev pub judge_body : Bool → Seen → List (List ℕ) → Option FileKind
judge_body head s words = if head then judge_head s.section words else judge_data s words

abbrev pub judge_read : Seen → Line → Option FileKind
judge_read s l = first_of (wrong_if l.control kinds.Byte) (judge_body l.head s l.words)

-- what is wrong with a line after what the lines before it have given; nothing is, behind ENDATA
abbrev pub judge : Seen → Line → Option FileKind
judge s l = if is_end s.section then None else judge_read s l

-- ENDATA stands here
abbrev pub ends : Seen → Line → Bool
ends s l = not (is_end s.section) && is_end (next s.section l)

abbrev pub judge_crossed : Bool → Seen → Option FileKind
judge_crossed true s = wrong_if (is_some (first_crossed s.draft)) kinds.Crossed
judge_crossed false s = None

-- the whole judgement: bounds that are crossed are found at ENDATA
abbrev pub judge_line : Seen → Line → Option FileKind
judge_line s l = first_of (judge s l) (judge_crossed (ends s l) s)
