-- What the lines of an MPS file give for its rows, columns and costs, by filters over the lines of each section.
use Rattle.std.specs.Prelude.{ℕ, ◌%◌, Bool, true, false, not, List, [], ◌∷◌, ◌++◌, length, map, filter, fold, drop, Option, None, Some, if◌then◌else◌, nat_eq, codes}
use Rattle.std.specs.List.{flat_map, list_any}
use Rattle.std.specs.Str.{bytes_eq}
use Rattle.pami_algebra.specs.Fraction.{Fraction}
use Rattle.pami_algebra.specs.Operations.{neg_f}
use Rattle.pami_frac.specs.declared.list.Bounds.{Bounds}
use Rattle.pami_frac.specs.declared.list.Entry.{Entry}
use Rattle.pami_frac.specs.Decimal.{decimal_value}
use Rattle.pami_model.specs.declared.list.Column.{Column}
use Rattle.pami_model.specs.declared.model.Sense.{Sense}
use Rattle.pami_model.specs.declared.model.Sense.TheVariants as senses
use Rattle.pami_model.specs.Draft.{zero, is_zero, place_of}
use Rattle.pami_mps.specs.declared.kind.RowKind.{RowKind}
use Rattle.pami_mps.specs.declared.kind.RowKind.TheVariants.{Free, AtMost, AtLeast, Equal}
use Rattle.pami_mps.specs.declared.kind.Section.{Section}
use Rattle.pami_mps.specs.declared.kind.Section.TheVariants.{SenseDue, Rows, Columns, Rhs, Ranges}
use Rattle.pami_mps.specs.Line.{Line, section_of, given_by, is_in, is_end, rank}

-- OBJSENSE

abbrev pub sense_of : List ℕ → Option Sense
sense_of word =
    if bytes_eq word (codes "MAX") then Some senses.Max else
    if bytes_eq word (codes "MAXIMIZE") then Some senses.Max else
    if bytes_eq word (codes "MIN") then Some senses.Min else
    if bytes_eq word (codes "MINIMIZE") then Some senses.Min else None

-- a section line, or the data line where the sense is due
abbrev pub is_sense_line : Section × Line → Bool
is_sense_line p = if p.1.head then not (is_end p.0) else nat_eq (rank SenseDue) (rank p.0)

-- the words that may be a sense: those behind the word OBJSENSE, or those of a data line
abbrev pub goal_words : Option Section → List (List ℕ) → List (List ℕ)
goal_words (Some SenseDue) others = others
goal_words begins others = []

abbrev pub behind_word : List (List ℕ) → List (List ℕ)
behind_word [] = []
behind_word (word ∷ others) = goal_words (section_of word) others

abbrev pub sense_words : Line → List (List ℕ)
sense_words l = if l.head then behind_word l.words else l.words

abbrev pub sense_as : Option Sense → List Sense
sense_as None = []
sense_as (Some sense) = sense ∷ []

abbrev pub sense_in : List (List ℕ) → List Sense
sense_in [] = []
sense_in (word ∷ []) = sense_as (sense_of word)
sense_in (word ∷ other ∷ others) = []

abbrev pub senses_of : List Line → List Sense
senses_of ls = given_by is_sense_line (λ l. sense_in (sense_words l)) ls

-- the one sense, which is Min where none is given
abbrev pub sense_by : List Sense → Sense
sense_by [] = senses.Min
sense_by (sense ∷ others) = sense

-- ROWS

abbrev pub kind_of : List ℕ → Option RowKind
kind_of word =
    if bytes_eq word (codes "N") then Some Free else
    if bytes_eq word (codes "L") then Some AtMost else
    if bytes_eq word (codes "G") then Some AtLeast else
    if bytes_eq word (codes "E") then Some Equal else None

abbrev pub is_free : RowKind → Bool
is_free Free = true
is_free AtMost = false
is_free AtLeast = false
is_free Equal = false

-- a row of the model: its name and its type, which isn't N
pub record Declared : Type 0 where
  pub name : List ℕ
  pub kind : RowKind

-- the row that a line of ROWS declares, and the N row
abbrev pub kept_as : List ℕ → Option RowKind → List Declared
kept_as name None = []
kept_as name (Some kind) = if is_free kind then [] else record { name = name; kind = kind } ∷ []

abbrev pub free_as : List ℕ → Option RowKind → List (List ℕ)
free_as name None = []
free_as name (Some kind) = if is_free kind then name ∷ [] else []

abbrev pub kept_in : List (List ℕ) → List Declared
kept_in (kind ∷ name ∷ []) = kept_as name (kind_of kind)
kept_in words = []

abbrev pub free_in : List (List ℕ) → List (List ℕ)
free_in (kind ∷ name ∷ []) = free_as name (kind_of kind)
free_in words = []

abbrev pub rows_of : List Line → List Declared
rows_of ls = given_by (is_in Rows) (λ l. kept_in l.words) ls

-- the N rows; the first is the objective
abbrev pub free_rows_of : List Line → List (List ℕ)
free_rows_of ls = given_by (is_in Rows) (λ l. free_in l.words) ls

abbrev pub names_of : List Declared → List (List ℕ)
names_of rows = map (λ (r : Declared). r.name) rows

-- what a name stands for among the rows: a row of the model at its place, the objective, or an N row that is dropped
pub data Role : Type 0 where
  Kept : ℕ → Role
  Objective : Role
  Dropped : Role

abbrev pub free_role : Option ℕ → Option Role
free_role None = None
free_role (Some i) = Some (if nat_eq i 0 then Objective else Dropped)

abbrev pub role_by : Option ℕ → Option ℕ → Option Role
role_by (Some i) free = Some (Kept i)
role_by None free = free_role free

abbrev pub role_of : List (List ℕ) → List (List ℕ) → List ℕ → Option Role
role_of kept free name = role_by (place_of name kept) (place_of name free)

-- COLUMNS

-- the words of a pair: the column, the row and the value
pub record Pair : Type 0 where
  pub column : List ℕ
  pub row : List ℕ
  pub value : List ℕ

abbrev pub pair : List ℕ → List ℕ → List ℕ → Pair
pair column row value = record { column = column; row = row; value = value }

abbrev pub pairs_in : List (List ℕ) → List Pair
pairs_in (c ∷ r ∷ v ∷ []) = pair c r v ∷ []
pairs_in (c ∷ r ∷ v ∷ q ∷ w ∷ []) = pair c r v ∷ pair c q w ∷ []
pairs_in words = []

abbrev pub pairs_of : List Line → List Pair
pairs_of ls = given_by (is_in Columns) (λ l. pairs_in l.words) ls

-- each name once, in the order of the first places
abbrev pub once : List (List ℕ) → List (List ℕ)
once names = fold (λ seen n. if list_any (bytes_eq n) seen then seen else seen ++ n ∷ []) [] names

abbrev pub column_names : List Pair → List (List ℕ)
column_names pairs = once (map (λ (p : Pair). p.column) pairs)

abbrev pub is_of : List ℕ → Pair → Bool
is_of name p = bytes_eq p.column name

-- where the rows' names are: those of the model's rows, and those of the N rows
pub record Names : Type 0 where
  pub kept : List (List ℕ)
  pub free : List (List ℕ)

abbrev pub role_in : Names → List ℕ → Option Role
role_in names name = role_of names.kept names.free name

-- the entry of a pair in a row of the model, where its value isn't 0
abbrev pub entry_as : Option Role → Fraction → List Entry
entry_as (Some (Kept i)) value = if is_zero value then [] else record { place = i; value = value } ∷ []
entry_as (Some Objective) value = []
entry_as (Some Dropped) value = []
entry_as None value = []

abbrev pub entry_in : Names → Pair → List Entry
entry_in names p = entry_as (role_in names p.row) (decimal_value p.value)

abbrev pub is_objective : Option Role → Bool
is_objective (Some (Kept i)) = false
is_objective (Some Objective) = true
is_objective (Some Dropped) = false
is_objective None = false

-- a pair of the objective gives the cost
abbrev pub cost_in : Names → Pair → List Fraction
cost_in names p = if is_objective (role_in names p.row) then decimal_value p.value ∷ [] else []

abbrev pub only_of : List Fraction → Fraction
only_of [] = zero
only_of (v ∷ vs) = v

-- the column of a name with these bounds: the cost of its one pair on the objective, and its entries in the order of
-- the lines
abbrev pub column_of : Names → List Pair → Bounds → List ℕ → Column
column_of names pairs bounds name = record {
  name = name;
  cost = only_of (flat_map (cost_in names) (filter (is_of name) pairs));
  bounds = bounds;
  entries = flat_map (entry_in names) (filter (is_of name) pairs);
}

-- the places of a pair in a row of the model
abbrev pub places_as : Option ℕ → Option Role → List (ℕ × ℕ)
places_as (Some column) (Some (Kept row)) = (column, row) ∷ []
places_as (Some column) (Some Objective) = []
places_as (Some column) (Some Dropped) = []
places_as (Some column) None = []
places_as None role = []

abbrev pub places_in : Names → List (List ℕ) → Pair → List (ℕ × ℕ)
places_in names columns p = places_as (place_of p.column columns) (role_in names p.row)

abbrev pub places_of : Names → List Pair → List (ℕ × ℕ)
places_of names pairs = flat_map (places_in names (column_names pairs)) pairs

-- the column that stands last has a cost
abbrev pub last_name : List (List ℕ) → Option (List ℕ)
last_name [] = None
last_name (n ∷ []) = Some n
last_name (n ∷ m ∷ ns) = last_name (m ∷ ns)

abbrev pub costs_of : Names → List Pair → Option (List ℕ) → List Fraction
costs_of names pairs None = []
costs_of names pairs (Some name) = flat_map (cost_in names) (filter (is_of name) pairs)

abbrev pub is_any : {A : Type 0} → List A → Bool
is_any [] = false
is_any (v ∷ vs) = true

abbrev pub has_cost : Names → List Pair → Bool
has_cost names pairs = is_any (costs_of names pairs (last_name (column_names pairs)))

-- RHS and RANGES

-- an odd count of words has the name of a set in front
abbrev pub without_set : List (List ℕ) → List (List ℕ)
without_set words = if nat_eq (length words % 2) 1 then drop 1 words else words

-- the words of a right-hand side or a range: the row and the value
pub record Value : Type 0 where
  pub row : List ℕ
  pub value : List ℕ

abbrev pub value_words : List ℕ → List ℕ → Value
value_words row value = record { row = row; value = value }

abbrev pub values_in : List (List ℕ) → List Value
values_in (r ∷ v ∷ []) = value_words r v ∷ []
values_in (r ∷ v ∷ q ∷ w ∷ []) = value_words r v ∷ value_words q w ∷ []
values_in words = []

abbrev pub values_of : List Line → List Value
values_of ls = given_by (is_in Rhs) (λ l. values_in (without_set l.words)) ls

abbrev pub ranges_of : List Line → List Value
ranges_of ls = given_by (is_in Ranges) (λ l. values_in (without_set l.words)) ls

-- the words given for a name
abbrev pub given_for : List Value → List ℕ → List (List ℕ)
given_for values name = map (λ (v : Value). v.value) (filter (λ (v : Value). bytes_eq v.row name) values)

-- the right-hand sides of the objective, as numbers
abbrev pub goal_values : List (List ℕ) → List Value → List (List ℕ)
goal_values [] values = []
goal_values (objective ∷ free) values = given_for values objective

-- minus the right-hand side of the objective
abbrev pub constant_by : List (List ℕ) → Fraction
constant_by [] = zero
constant_by (v ∷ vs) = neg_f (decimal_value v)
