-- The transport model that a seed draws: so many sources with one supply each, so many sinks with a demand each, and between
-- each source and each sink a way with a cost.
use Rattle.std.specs.Prelude.{ℕ, ◌+◌, ◌*◌, ◌/◌, ◌%◌, ◌≤◌, List, [], ◌∷◌, ◌++◌, map, sum, codes, decimal, None, Some}
use Rattle.std.specs.List.{range_with_len}
use Rattle.std.specs.Int.{div_ceil}
use lib.IntN.{pos}
use Rattle.pami_algebra.specs.Fraction.{Fraction}
use Rattle.pami_algebra.specs.Operations.{of_int}
use Rattle.pami_frac.specs.declared.list.Entry.{Entry}
use Rattle.pami_model.specs.declared.list.Row.{Row}
use Rattle.pami_model.specs.declared.list.Column.{Column}
use Rattle.pami_model.specs.declared.model.Sense.TheVariants.{Min}
use Rattle.pami_model.specs.Contents.{Contents}
use Rattle.pami_trial.specs.Draws.{first_state, draw}

-- the most sources, and the most sinks
abbrev pub greatest_side : ℕ
greatest_side = 64

-- a count of sources, or of sinks
pub record IsSide (count : ℕ) : Type 0 where
  pub some : 1 ≤ count
  pub most : count ≤ greatest_side

-- the numbers below a count, ascending
abbrev pub below : ℕ → List ℕ
below count = range_with_len 0 count

abbrev pub whole : ℕ → Fraction
whole n = of_int (pos n)

-- ---- what is drawn

-- the demand of a sink: the first draws, sinks ascending
abbrev pub demand : (state sink : ℕ) → ℕ
demand state sink = 1 + draw state sink 50

-- the cost of a way: the draws behind those of the demands, ways ascending
abbrev pub cost : (state sinks way : ℕ) → ℕ
cost state sinks way = 1 + draw state (sinks + way) 100

-- the supply of each source: all demands, shared evenly and rounded up
abbrev pub supply : (state sources sinks : ℕ) → ℕ
supply state sources sinks = div_ceil (sum (map (demand state) (below sinks))) sources

-- ---- rows and columns; sources, sinks and ways are counted from 0, and named from 1

-- a source gives at most its supply
abbrev pub source_row : (supply source : ℕ) → Row
source_row supply source = record {
  name = codes "s" ++ decimal (source + 1);
  bounds = record { low = None; high = Some (whole supply) };
}

-- a sink takes at least its demand
abbrev pub sink_row : (demand sink : ℕ) → Row
sink_row demand sink = record {
  name = codes "t" ++ decimal (sink + 1);
  bounds = record { low = Some (whole demand); high = None };
}

abbrev pub one_at : ℕ → Entry
one_at row = record { place = row; value = whole 1 }

-- what goes from a source to a sink: from 0 to the supply, and 1 in the row of either; the rows of the sinks stand behind
-- those of the sources
abbrev pub way_column : (cost supply sources source sink : ℕ) → Column
way_column cost supply sources source sink = record {
  name = codes "x" ++ decimal (source + 1) ++ codes "_" ++ decimal (sink + 1);
  cost = whole cost;
  bounds = record { low = Some (whole 0); high = Some (whole supply) };
  entries = one_at source ∷ one_at (sources + sink) ∷ [];
}

-- ---- the model

abbrev pub rows_from : (state sources sinks : ℕ) → List Row
rows_from state sources sinks =
    map (source_row (supply state sources sinks)) (below sources) ++ map (λ sink. sink_row (demand state sink) sink) (below sinks)

-- the ways go by source, and then by sink
abbrev pub columns_from : (state sources sinks : ℕ) → List Column
columns_from state sources sinks =
    map (λ way. way_column (cost state sinks way) (supply state sources sinks) sources (way / sinks) (way % sinks)) (below (sources * sinks))

-- the least cost at which all demands are met
abbrev pub trial_model : (seed sources sinks : ℕ) → Contents
trial_model seed sources sinks = record {
  sense = Min;
  constant = whole 0;
  rows = rows_from (first_state seed) sources sinks;
  columns = columns_from (first_state seed) sources sinks;
}
