-- The bounds of a column: the effect of its lines of BOUNDS, one after another.
use Rattle.std.specs.Prelude.{ℕ, ◌&&◌, Bool, true, false, not, List, [], ◌∷◌, fold, filter, Option, None, Some, if◌then◌else◌, codes}
use Rattle.std.specs.Str.{bytes_eq}
use Rattle.pami_algebra.specs.Fraction.{Fraction}
use Rattle.pami_frac.specs.declared.bound.BoundValue.{BoundValue}
use Rattle.pami_frac.specs.declared.bound.BoundValue.TheVariants.{Finite}
use Rattle.pami_model.specs.Draft.{zero, nonnegative}
use Rattle.pami_model.specs.Number.{limit_value}
use Rattle.pami_mps.specs.declared.kind.LimitKind.{LimitKind}
use Rattle.pami_mps.specs.declared.kind.LimitKind.TheVariants.{Upper, Lower, Fixed, Unbounded, NoLower, NoUpper}
use Rattle.pami_mps.specs.declared.kind.Section.TheVariants as sections
use Rattle.pami_mps.specs.declared.kind.Sides.{Sides}
use Rattle.pami_mps.specs.Line.{Line, given_by, is_in}
use Rattle.pami_mps.specs.Rows.{bound_by, is_below_zero}

abbrev pub limit_kind_of : List ℕ → Option LimitKind
limit_kind_of word =
    if bytes_eq word (codes "UP") then Some Upper else
    if bytes_eq word (codes "LO") then Some Lower else
    if bytes_eq word (codes "FX") then Some Fixed else
    if bytes_eq word (codes "FR") then Some Unbounded else
    if bytes_eq word (codes "MI") then Some NoLower else
    if bytes_eq word (codes "PL") then Some NoUpper else None

-- the types of integer models
abbrev pub is_whole_kind : List ℕ → Bool
is_whole_kind word =
    if bytes_eq word (codes "BV") then true else
    if bytes_eq word (codes "LI") then true else
    if bytes_eq word (codes "UI") then true else
    if bytes_eq word (codes "SC") then true else bytes_eq word (codes "SI")

-- the line of this type has a value
abbrev pub has_value : LimitKind → Bool
has_value Upper = true
has_value Lower = true
has_value Fixed = true
has_value Unbounded = false
has_value NoLower = false
has_value NoUpper = false

-- what a line of BOUNDS states of a column
pub record Limit : Type 0 where
  pub column : List ℕ
  pub kind : LimitKind
  pub value : BoundValue

abbrev pub limit : List ℕ → LimitKind → BoundValue → Limit
limit column kind value = record { column = column; kind = kind; value = value }

-- of a line with a value the last word is the value and the last but one the column; of a line without one the column
-- is the second of two words, else the third
abbrev pub valued_in : LimitKind → List (List ℕ) → List Limit
valued_in kind (column ∷ value ∷ []) = limit column kind (limit_value value) ∷ []
valued_in kind (set ∷ column ∷ value ∷ []) = limit column kind (limit_value value) ∷ []
valued_in kind words = []

abbrev pub unvalued_in : LimitKind → List (List ℕ) → List Limit
unvalued_in kind (column ∷ []) = limit column kind (Finite zero) ∷ []
unvalued_in kind (set ∷ column ∷ []) = limit column kind (Finite zero) ∷ []
unvalued_in kind (set ∷ column ∷ unread ∷ []) = limit column kind (Finite zero) ∷ []
unvalued_in kind words = []

abbrev pub limit_as : Option LimitKind → List (List ℕ) → List Limit
limit_as None words = []
limit_as (Some kind) words = if has_value kind then valued_in kind words else unvalued_in kind words

abbrev pub limits_in : List (List ℕ) → List Limit
limits_in [] = []
limits_in (kind ∷ words) = limit_as (limit_kind_of kind) words

abbrev pub limits_of : List Line → List Limit
limits_of ls = given_by (is_in sections.Limits) (λ l. limits_in l.words) ls

-- the effect of one line

-- an upper bound below 0 takes a lower bound away that no line has stated
abbrev pub low_under : BoundValue → Sides → Option Fraction
low_under value s = if is_below_zero value && not s.stated then None else s.bounds.low

abbrev pub effect : LimitKind → BoundValue → Sides → Sides
effect Upper value s = record { bounds = record { low = low_under value s; high = bound_by value }; stated = s.stated }
effect Lower value s = record { bounds = record { low = bound_by value; high = s.bounds.high }; stated = true }
effect Fixed value s = record { bounds = record { low = bound_by value; high = bound_by value }; stated = true }
effect Unbounded value s = record { bounds = record { low = None; high = None }; stated = true }
effect NoLower value s = record { bounds = record { low = None; high = s.bounds.high }; stated = true }
effect NoUpper value s = record { bounds = record { low = s.bounds.low; high = None }; stated = s.stated }

-- no line has stated a bound: at least 0
abbrev pub unstated : Sides
unstated = record { bounds = nonnegative; stated = false }

-- the bounds of the column of a name, line by line
abbrev pub sides_of : List Limit → List ℕ → Sides
sides_of limits name = fold (λ (s : Sides) (l : Limit). effect l.kind l.value s) unstated (filter (λ (l : Limit). bytes_eq l.column name) limits)
