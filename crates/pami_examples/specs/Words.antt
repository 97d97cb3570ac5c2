-- What the worked examples share: numbers, bounds, rows that leave, the usual options, runs with no phase one, and texts.
use Rattle.std.specs.Prelude.{ℕ, List, None, Some, [], ◌∷◌, ◌++◌}
use lib.IntN.{ℤ, pos, neg_ℤ}
use Rattle.pami_algebra.specs.Fraction.{Fraction}
use Rattle.pami_algebra.specs.Reduced.{over}
use Rattle.pami_algebra.specs.Operations.{of_int}
use Rattle.pami_frac.specs.declared.list.Bounds.{Bounds}
use Rattle.pami_theory.specs.Form.{Form, cost}
use Rattle.pami_theory.specs.declared.words.Side.{Side}
use Rattle.pami_theory.specs.Choice.{InfeasibleRow}
use Rattle.pami_method.specs.declared.words.Options.{Options}
use Rattle.pami_method.specs.Walk.{State, Major, state_after}
use Rattle.pami_method.specs.Phases.{Record, starting_state, on_form}
use Rattle.std.specs.List.{flat_map}
use Rattle.pami_lines.specs.Certificate.{Named}
use Rattle.pami_frac.specs.declared.list.Entry.{Entry}

abbrev pub whole : ℕ → Fraction
whole n = of_int (pos n)

abbrev pub minus : ℕ → Fraction
minus n = of_int (neg_ℤ (pos n))

-- n / d, and below 0
abbrev pub part : ℕ → ℕ → Fraction
part n d = over (pos n) d

abbrev pub minus_part : ℕ → ℕ → Fraction
minus_part n d = over (neg_ℤ (pos n)) d

-- bounds on one side
abbrev pub from : Fraction → Bounds
from low = record { low = Some low; high = None }

abbrev pub up_to : Fraction → Bounds
up_to high = record { low = None; high = Some high }

abbrev pub fixed : Fraction → Bounds
fixed x = record { low = Some x; high = Some x }

abbrev pub free : Bounds
free = record { low = None; high = None }

abbrev pub row : ℕ → Side → Fraction → ℤ → InfeasibleRow
row place side amount merit = record { place = place; violation = record { side = side; amount = amount }; merit = merit }

abbrev pub usual : Options
usual = record { batch = 4; refactor = 16; limit = 100000 }

-- the record of a run that begins with phase two and tries these majors
abbrev pub tried : Form → List Major → Record
tried f majors = record { phase_one = None; phase_two = on_form f (starting_state f) majors }

-- the state behind a first major that is kept
abbrev pub behind : Form → Major → State
behind f g = state_after usual (starting_state f) g

-- at most one pivot
abbrev pub limited : Options
limited = record { batch = 4; refactor = 16; limit = 1 }

-- lines, each with a line feed behind it
abbrev pub by_lines : List (List ℕ) → List ℕ
by_lines lines = flat_map (λ (l : List ℕ). l ++ 10 ∷ []) lines

-- a form that is minimised, with these names, this count of stored entries and no constant
abbrev pub named : Form → ℕ → List (List ℕ) → List (List ℕ) → Named
named f entries columns rows = record {
  names = record { columns = columns; rows = rows };
  counts = record { rows = f.rows; columns = f.columns; entries = entries };
  constant = whole 0;
  cost = cost f;
}

-- an entry of a column
abbrev pub entry_of : ℕ → Fraction → Entry
entry_of place value = record { place = place; value = value }
