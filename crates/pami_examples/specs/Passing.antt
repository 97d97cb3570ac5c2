-- Both candidates are passed and distance is left: the row proves infeasibility.
-- The upper bounds of the columns can't be said in a file yet.
use Rattle.std.specs.Prelude.{[], ◌∷◌, ℕ, List, codes}
use lib.IntN.{pos}
use Rattle.pami_theory.specs.Form.{Form}
use Rattle.pami_theory.specs.Boxes.{between}
use Rattle.pami_theory.specs.Fresh.{Fresh}
use Rattle.pami_theory.specs.Start.{starting_basis}
use Rattle.pami_theory.specs.declared.words.Side.TheVariants.{Below}
use Rattle.pami_method.specs.Batch.{Reached}
use Rattle.pami_method.specs.declared.words.Mode.TheVariants.{Full}
use Rattle.pami_method.specs.Walk.{Major}
use Rattle.pami_method.specs.Phases.{Record, Answer, Infeasible}
use Rattle.pami_lines.specs.Certificate.{Named}
use Rattle.pami_examples.specs.Words.{whole, minus, from, row, tried, by_lines, named}

-- ---- the form

-- min x + y with x + y >= 5, x <= 1 and y <= 2
abbrev pub passing : Form
passing = record {
  rows = 1;
  columns = 2;
  entries =
      (whole 1 ∷ []) ∷
      (whole 1 ∷ []) ∷
      [];
  bounds = between (whole 0) (whole 1) ∷ between (whole 0) (whole 2) ∷ from (whole 5) ∷ [];
  costs = whole 1 ∷ whole 1 ∷ [];
}

-- ---- the run, worked out apart from the definitions

abbrev pub passing_first_fresh : Fresh
passing_first_fresh = record {
  values = whole 0 ∷ whole 0 ∷ whole 0 ∷ [];
  reduced = whole 1 ∷ whole 1 ∷ whole 0 ∷ [];
  rows =
      (minus 1 ∷ []) ∷
      [];
  columns =
      (minus 1 ∷ []) ∷
      (minus 1 ∷ []) ∷
      (whole 1 ∷ []) ∷
      [];
}

abbrev pub passing_first : Reached
passing_first = record { basis = starting_basis passing; fresh = passing_first_fresh; weights = 1 ∷ []; count = 0; rows = row 0 Below (whole 5) (pos 4) ∷ [] }

abbrev pub passing_major : Major
passing_major = record { number = 1; mode = Full; first = passing_first; minors = []; last = passing_first }

-- ---- the answer

abbrev pub passing_record : Record
passing_record = tried passing (passing_major ∷ [])

abbrev pub passing_answer : Answer
passing_answer = Infeasible (whole 1 ∷ [])

-- ---- the text

abbrev pub passing_named : Named
passing_named = named passing 2 (codes "x" ∷ codes "y" ∷ []) (codes "c1" ∷ [])

abbrev pub passing_text : List ℕ
passing_text = by_lines (
    codes "pami 1" ∷
    codes "model 1 2 2" ∷
    codes "phase 2" ∷
    codes "major 1 full 0" ∷
    codes "none 0 r:c1" ∷
    codes "answer infeasible" ∷
    codes "certificate 1 infeasible" ∷
    codes "r c1 1" ∷
    codes "end" ∷
    [])
