-- What the lines before a line have given, all sections together.
use Rattle.std.specs.Prelude.{ℕ, Bool, List, map}
use Rattle.pami_model.specs.declared.model.Sense.{Sense}
use Rattle.pami_model.specs.declared.list.Column.{Column}
use Rattle.pami_model.specs.Draft.{Draft}
use Rattle.pami_mps.specs.declared.kind.Section.{Section}
use Rattle.pami_mps.specs.declared.kind.Told.{Told}
use Rattle.pami_mps.specs.declared.kind.Sides.{Sides}
use Rattle.pami_mps.specs.Line.{Line, section_at}
use Rattle.pami_mps.specs.Gather.{Declared, Pair, Value, Names, senses_of, sense_by, rows_of, free_rows_of, names_of, pairs_of, column_names, column_of, places_of, has_cost, values_of, ranges_of, goal_values, constant_by, is_any}
use Rattle.pami_mps.specs.Rows.{told_of, row_of}
use Rattle.pami_mps.specs.Limits.{Limit, limits_of, sides_of}

-- what lines give, section by section
pub record Given : Type 0 where
  pub senses : List Sense
  pub rows : List Declared
  pub free : List (List ℕ)
  pub pairs : List Pair
  pub values : List Value
  pub ranges : List Value
  pub limits : List Limit

abbrev pub given : List Line → Given
given ls = record {
  senses = senses_of ls;
  rows = rows_of ls;
  free = free_rows_of ls;
  pairs = pairs_of ls;
  values = values_of ls;
  ranges = ranges_of ls;
  limits = limits_of ls;
}

abbrev pub names_by : List Declared → List (List ℕ) → Names
names_by rows free = record { kept = names_of rows; free = free }

abbrev pub columns_of : Names → List Pair → List Limit → List Column
columns_of names pairs limits = map (λ name. column_of names pairs (sides_of limits name).bounds name) (column_names pairs)

-- what a builder has been given by what the lines give
abbrev pub draft_of : Given → Draft
draft_of g = record {
  sense = sense_by g.senses;
  constant = constant_by (goal_values g.free g.values);
  rows = map (row_of g.values g.ranges) g.rows;
  columns = columns_of (names_by g.rows g.free) g.pairs g.limits;
  pairs = places_of (names_by g.rows g.free) g.pairs;
}

-- what the lines before a line have given
pub record Seen : Type 0 where
  pub section : Section
  pub free : List (List ℕ)  -- the N rows
  pub told : List Told  -- of each row of the model
  pub sides : List Sides  -- of each column
  pub draft : Draft  -- rows, columns, costs and entries
  pub has_cost : Bool  -- whether the last column has a cost
  pub has_constant : Bool  -- whether the objective has a right-hand side

abbrev pub seen_by : Section → Given → Seen
seen_by section g = record {
  section = section;
  free = g.free;
  told = map (told_of g.values g.ranges) g.rows;
  sides = map (sides_of g.limits) (column_names g.pairs);
  draft = draft_of g;
  has_cost = has_cost (names_by g.rows g.free) g.pairs;
  has_constant = is_any (goal_values g.free g.values);
}

abbrev pub seen : List Line → Seen
seen ls = seen_by (section_at ls) (given ls)
