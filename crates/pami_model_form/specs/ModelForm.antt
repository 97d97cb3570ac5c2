-- The computational form of a model: its columns first, and then a row variable for each row.
use Rattle.std.specs.Prelude.{ℕ, ◌-◌, List, [], ◌∷◌, ◌++◌, length, map, if◌then◌else◌, nat_eq}
use Rattle.pami_algebra.specs.Fraction.{Fraction}
use Rattle.pami_algebra.specs.Operations.{neg_f}
use Rattle.pami_model.specs.declared.list.Row.{Row}
use Rattle.pami_model.specs.declared.list.Column.{Column}
use Rattle.pami_model.specs.declared.model.Sense.{Sense}
use Rattle.pami_model.specs.declared.model.Sense.TheVariants.{Min, Max}
use Rattle.pami_model.specs.Contents.{Contents}
use Rattle.pami_script.specs.Dense.{dense}
use Rattle.pami_frac.specs.declared.list.Bounds.{Bounds}
use Rattle.pami_theory.specs.Form.{Form, zero_f}

-- what `f` says of the member at a place, and `d` past the end
abbrev pub member : {X A : Type 0} → (X → A) → A → List X → ℕ → A
member f d [] i = d
member f d (x ∷ xs) i = if nat_eq i 0 then f x else member f d xs (i - 1)

-- the cost to be made small
abbrev pub minimised : Sense → Fraction → Fraction
minimised Min cost = cost
minimised Max cost = neg_f cost

-- the cost of a column in the file's own sense
abbrev pub file_cost : Contents → ℕ → Fraction
file_cost c j = member (λ (column : Column). column.cost) zero_f c.columns j

-- the bounds of all variables: those of the columns, and then those of the rows
abbrev pub bounds_of : Contents → List Bounds
bounds_of c = map (λ (column : Column). column.bounds) c.columns ++ map (λ (row : Row). row.bounds) c.rows

-- the form: rows, columns, the entries of each column as a whole list, bounds, and costs to be made small
abbrev pub model_form : Contents → Form
model_form c = record {
  rows = length c.rows;
  columns = length c.columns;
  entries = map (λ (column : Column). dense (length c.rows) column.entries) c.columns;
  bounds = bounds_of c;
  costs = map (λ (column : Column). minimised c.sense column.cost) c.columns;
}
