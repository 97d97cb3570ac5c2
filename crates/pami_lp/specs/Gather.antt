-- What the parts of a file give, gathered: its columns by first appearance with their costs, entries and bounds, the
-- constant, and its rows with their names and sides.
use Rattle.std.specs.Prelude.{◌≡◌, ℕ, ◌+◌, Bool, true, false, List, [], ◌∷◌, ◌++◌, map, filter, fold, Option, None, Some, Result, Ok, Err, if◌then◌else◌}
use Rattle.std.specs.List.{flat_map}
use Rattle.std.specs.Option.{is_some, option_map}
use Rattle.std.specs.Str.{bytes_eq}
use Rattle.pami_algebra.specs.Fraction.{Fraction}
use Rattle.pami_algebra.specs.Operations.{◌+ᶠ◌}
use Rattle.pami_frac.specs.Decimal.{decimal_value}
use Rattle.pami_model.specs.declared.list.Column.{Column}
use Rattle.pami_frac.specs.declared.list.Bounds.{Bounds}
use Rattle.pami_frac.specs.declared.list.Entry.{Entry}
use Rattle.pami_frac.specs.Answers.{then as chain}
use Rattle.pami_model.specs.declared.fault.FileKind.{FileKind}
use Rattle.pami_model.specs.declared.list.Row.{Row as ModelRow}
use Rattle.pami_model.specs.Draft.{Draft, is_zero, new_column, new_row, nonnegative, place_of, zero}
use Rattle.pami_model.specs.Rules.{names_of_columns}
use Rattle.pami_lp_text.specs.declared.kind.Relation.{Relation}
use Rattle.pami_lp_text.specs.declared.kind.Relation.TheVariants as relations
use Rattle.pami_lp.specs.Grammar.{Bound, Set, From, Between, Freed, File, Further, Goal, Nothing, Parts, Later, Part, Named, Alone, Row, Side, Right, Left, Both, Term, Terms, way}
use Rattle.pami_lp.specs.Meaning.{is_minus, left_side, negated, right_side}
use Rattle.pami_lp.specs.Rules.{bounds_set, name_by}
use Rattle.pami_lp.specs.Values.{coefficient_of, signed, turned, unbounded}

-- ---- columns

-- the names with one more, unless it stands among them
abbrev pub with_name : List (List ℕ) → List ℕ → List (List ℕ)
with_name names name = if is_some (place_of name names) then names else names ++ name ∷ []

-- each name once, in the order of the first places
abbrev pub once : List (List ℕ) → List (List ℕ)
once names = fold with_name [] names

abbrev pub part_names : Part → List (List ℕ)
part_names (Named t) = t.name ∷ []
part_names (Alone ts text) = []

abbrev pub goal_names : Goal → List (List ℕ)
goal_names Nothing = []
goal_names (Parts p ls) = part_names p ++ flat_map (λ (l : Later). part_names l.part) ls

abbrev pub terms_names : Terms → List (List ℕ)
terms_names ts = ts.first.name ∷ map (λ (f : Further). f.term.name) ts.more

abbrev pub terms_of : Side → Terms
terms_of (Right ts r v) = ts
terms_of (Left v r ts) = ts
terms_of (Both v w ts u) = ts

abbrev pub side_names : Side → List (List ℕ)
side_names s = terms_names (terms_of s)

abbrev pub bound_name : Bound → List ℕ
bound_name (Set name r v) = name
bound_name (From v r name) = name
bound_name (Between v w name u) = name
bound_name (Freed name) = name

abbrev pub section_names : Option (List Bound) → List (List ℕ)
section_names None = []
section_names (Some bs) = map bound_name bs

-- the names of columns in a file, in their order: in the objective, in the rows, in the bounds
abbrev pub file_names : File → List (List ℕ)
file_names f = goal_names f.goal ++ (flat_map (λ (r : Row). side_names r.side) f.rows ++ section_names f.bounds)

-- ---- rows

-- the sides that a row's values set, and no sides where one is faulty
abbrev pub sides_by : Result Bounds FileKind → Bounds
sides_by (Ok sides) = sides
sides_by (Err kind) = unbounded

abbrev pub sides_of : Side → Bounds
sides_of (Right ts r v) = sides_by (right_side r v unbounded)
sides_of (Left v r ts) = sides_by (left_side v r unbounded)
sides_of (Both v w ts u) = sides_by (chain (left_side v (way w) unbounded) (λ sides. right_side (way w) u sides))

-- the rows from this place on: each by its name, or R1, R2, .. by its place among all, and its sides
abbrev pub rows_from : ℕ → List Row → List ModelRow
rows_from k [] = []
rows_from k (r ∷ rs) = new_row (name_by k r.label) (sides_of r.side) ∷ rows_from (k + 1) rs

-- a file's columns are its names, each once by first appearance, and its rows those of the file in order
pub record IsGathered (f : File) (d : Draft) : Type 0 where
  pub sense : d.sense ≡ f.sense
  pub rows : d.rows ≡ rows_from 0 f.rows
  pub columns : names_of_columns d.columns ≡ once (file_names f)

-- ---- the objective

-- the column of a name, and a new one where there is none
abbrev pub column_named : List Column → List ℕ → Column
column_named [] name = new_column name
column_named (c ∷ cs) name = if bytes_eq name c.name then c else column_named cs name

abbrev pub coefficient_in : Bool → Term → Fraction
coefficient_in negative t = coefficient_of (negated negative t.turns) (option_map decimal_value t.number)

-- the coefficients of a part with their names, and its constants
abbrev pub part_prices : Bool → Part → List (List ℕ × Fraction)
part_prices negative (Named t) = (t.name, coefficient_in negative t) ∷ []
part_prices negative (Alone ts text) = []

abbrev pub part_constants : Bool → Part → List Fraction
part_constants negative (Named t) = []
part_constants negative (Alone ts text) = signed (negated negative ts) (decimal_value text) ∷ []

abbrev pub goal_prices : Goal → List (List ℕ × Fraction)
goal_prices Nothing = []
goal_prices (Parts p ls) = part_prices false p ++ flat_map (λ (l : Later). part_prices (is_minus l.turn) l.part) ls

abbrev pub goal_constants : Goal → List Fraction
goal_constants Nothing = []
goal_constants (Parts p ls) =
    part_constants false p ++ flat_map (λ (l : Later). part_constants (is_minus l.turn) l.part) ls

-- a sum with these added in their order
abbrev pub plus_all : Fraction → List Fraction → Fraction
plus_all t vs = fold (λ t v. t +ᶠ v) t vs

-- a sum with what is given for a name added in its order
abbrev pub plus_for : List ℕ → Fraction → List (List ℕ × Fraction) → Fraction
plus_for name t ps = fold (λ t p. t +ᶠ p.1) t (filter (λ p. bytes_eq name p.0) ps)

-- the constant is the sum of the objective's constants, and a column's cost that of its name's coefficients
pub record IsPriced (f : File) (d : Draft) : Type 0 where
  pub constant : d.constant ≡ plus_all zero (goal_constants f.goal)
  pub costs : (name : List ℕ) → (column_named d.columns name).cost ≡ plus_for name zero (goal_prices f.goal)

-- ---- entries

-- the coefficients of a row with their names
abbrev pub named_terms : Terms → List (List ℕ × Fraction)
named_terms ts =
    (ts.first.name, coefficient_in false ts.first)
    ∷ map (λ (f : Further). (f.term.name, coefficient_in (is_minus f.turn) f.term)) ts.more

abbrev pub side_terms : Side → List (List ℕ × Fraction)
side_terms s = named_terms (terms_of s)

-- what a row stores in a column where its coefficients sum to this: their sum, unless it is 0
abbrev pub entries_at : ℕ → Fraction → List Entry
entries_at row sum = if is_zero sum then [] else record { place = row; value = sum } ∷ []

-- what the rows from this place on store in the column of a name, by rising row
abbrev pub entries_from : ℕ → List ℕ → List Row → List Entry
entries_from k name [] = []
entries_from k name (r ∷ rs) = entries_at k (plus_for name zero (side_terms r.side)) ++ entries_from (k + 1) name rs

-- a column has an entry in each row where its name's coefficients, added in their order, don't give 0
pub record IsEntered (f : File) (d : Draft) : Type 0 where
  pub entries : (name : List ℕ) → (column_named d.columns name).entries ≡ entries_from 0 name f.rows

-- ---- bounds

-- the bounds of a column, and whether a lower one was stated for it
pub record Span : Type 0 where
  pub bounds : Bounds
  pub stated : Bool

abbrev pub states : Relation → Bool → Bool
states relations.AtMost was = was
states relations.AtLeast was = true
states relations.Equal was = true

abbrev pub span_set : Relation → Bounds → Span → Span
span_set r sides x = record { bounds = bounds_set r x.stated x.bounds sides; stated = states r x.stated }

-- what a bound makes of the span of its name
abbrev pub bound_effect : Bound → Span → Span
bound_effect (Set name r v) x = span_set r (sides_by (right_side r v unbounded)) x
bound_effect (From v r name) x = span_set (turned r) (sides_by (left_side v r unbounded)) x
bound_effect (Between v w name u) x =
    span_set (way w) (sides_by (right_side (way w) u unbounded))
    (span_set (turned (way w)) (sides_by (left_side v (way w) unbounded)) x)
bound_effect (Freed name) x = record { bounds = unbounded; stated = true }

-- the span behind the bounds of a name, one after another
abbrev pub span_of : List ℕ → Span → List Bound → Span
span_of name x bs =
    fold (λ (y : Span) (b : Bound). bound_effect b y) x (filter (λ (b : Bound). bytes_eq name (bound_name b)) bs)

abbrev pub bounds_in : Option (List Bound) → List Bound
bounds_in None = []
bounds_in (Some bs) = bs

-- a column's bounds are 0 and infinity, and then what the bounds of its name make of them
pub record IsBounded (f : File) (d : Draft) : Type 0 where
  pub bounds : (name : List ℕ)
      → (column_named d.columns name).bounds ≡ (span_of name (record { bounds = nonnegative; stated = false }) (bounds_in f.bounds)).bounds
