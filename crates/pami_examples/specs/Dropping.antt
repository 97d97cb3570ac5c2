-- The first pivot makes the second row feasible, which is dropped before the third one leaves.
use Rattle.std.specs.Prelude.{[], ◌∷◌, ℕ, List, codes}
use lib.IntN.{pos}
use Rattle.pami_theory.specs.Form.{Form}
use Rattle.pami_theory.specs.declared.words.Stand.TheVariants.{Basic, Lower}
use Rattle.pami_theory.specs.Basis.{Basis}
use Rattle.pami_theory.specs.Fresh.{Fresh}
use Rattle.pami_theory.specs.Start.{starting_basis}
use Rattle.pami_theory.specs.declared.words.Side.TheVariants.{Below}
use Rattle.pami_method.specs.Batch.{Reached, Minor}
use Rattle.pami_method.specs.declared.words.Mode.TheVariants.{Full}
use Rattle.pami_method.specs.Walk.{Major}
use Rattle.pami_method.specs.Phases.{Record, Answer, Optimal}
use Rattle.pami_lines.specs.Certificate.{Named}
use Rattle.pami_model.specs.declared.model.Sense.TheVariants.{Min}
use Rattle.pami_model.specs.Contents.{Contents}
use Rattle.pami_model_form.specs.Named.{named_of}
use Rattle.pami_examples.specs.Words.{whole, minus, from, row, tried, behind, by_lines, entry_of}

-- ---- the file, and the model that it says

abbrev pub dropping_file : List ℕ
dropping_file = by_lines (
    codes "NAME dropping" ∷
    codes "ROWS" ∷
    codes " N cost" ∷
    codes " G c1" ∷
    codes " G c2" ∷
    codes " G c3" ∷
    codes "COLUMNS" ∷
    codes " x cost 1 c1 1" ∷
    codes " x c2 1" ∷
    codes " y cost 1 c3 1" ∷
    codes "RHS" ∷
    codes " c1 8 c2 4" ∷
    codes " c3 1" ∷
    codes "ENDATA" ∷
    [])

abbrev pub dropping_contents : Contents
dropping_contents = record {
  sense = Min;
  constant = whole 0;
  rows =
      record { name = codes "c1"; bounds = from (whole 8) } ∷
      record { name = codes "c2"; bounds = from (whole 4) } ∷
      record { name = codes "c3"; bounds = from (whole 1) } ∷
      [];
  columns =
      record {
        name = codes "x";
        cost = whole 1;
        bounds = from (whole 0);
        entries = entry_of 0 (whole 1) ∷ entry_of 1 (whole 1) ∷ [];
      } ∷
      record {
        name = codes "y";
        cost = whole 1;
        bounds = from (whole 0);
        entries = entry_of 2 (whole 1) ∷ [];
      } ∷
      [];
}

-- ---- the form

-- min x + y with x >= 8, x >= 4 and y >= 1
abbrev pub dropping : Form
dropping = record {
  rows = 3;
  columns = 2;
  entries =
      (whole 1 ∷ whole 1 ∷ whole 0 ∷ []) ∷
      (whole 0 ∷ whole 0 ∷ whole 1 ∷ []) ∷
      [];
  bounds = from (whole 0) ∷ from (whole 0) ∷ from (whole 8) ∷ from (whole 4) ∷ from (whole 1) ∷ [];
  costs = whole 1 ∷ whole 1 ∷ [];
}

-- ---- the run, worked out apart from the definitions

abbrev pub dropping_first_fresh : Fresh
dropping_first_fresh = record {
  values = whole 0 ∷ whole 0 ∷ whole 0 ∷ whole 0 ∷ whole 0 ∷ [];
  reduced = whole 1 ∷ whole 1 ∷ whole 0 ∷ whole 0 ∷ whole 0 ∷ [];
  rows =
      (minus 1 ∷ whole 0 ∷ whole 0 ∷ []) ∷
      (whole 0 ∷ minus 1 ∷ whole 0 ∷ []) ∷
      (whole 0 ∷ whole 0 ∷ minus 1 ∷ []) ∷
      [];
  columns =
      (minus 1 ∷ minus 1 ∷ whole 0 ∷ []) ∷
      (whole 0 ∷ whole 0 ∷ minus 1 ∷ []) ∷
      (whole 1 ∷ whole 0 ∷ whole 0 ∷ []) ∷
      (whole 0 ∷ whole 1 ∷ whole 0 ∷ []) ∷
      (whole 0 ∷ whole 0 ∷ whole 1 ∷ []) ∷
      [];
}

abbrev pub dropping_first : Reached
dropping_first = record { basis = starting_basis dropping; fresh = dropping_first_fresh; weights = 1 ∷ 1 ∷ 1 ∷ []; count = 0; rows = row 0 Below (whole 8) (pos 6) ∷ row 1 Below (whole 4) (pos 4) ∷ row 2 Below (whole 1) (pos 0) ∷ [] }

abbrev pub dropping_minor_1 : Minor
dropping_minor_1 = record {
  reached = dropping_first;
  dropped = [];
  row = row 0 Below (whole 8) (pos 6);
  step = record { place = 0; leaving = 2; side = Below; entering = 0; tau = whole 1; flips = [] };
}

abbrev pub dropping_second_basis : Basis
dropping_second_basis = record { head = 0 ∷ 3 ∷ 4 ∷ []; stands = Basic ∷ Lower ∷ Lower ∷ Basic ∷ Basic ∷ [] }

abbrev pub dropping_second_fresh : Fresh
dropping_second_fresh = record {
  values = whole 8 ∷ whole 0 ∷ whole 8 ∷ whole 8 ∷ whole 0 ∷ [];
  reduced = whole 0 ∷ whole 1 ∷ whole 1 ∷ whole 0 ∷ whole 0 ∷ [];
  rows =
      (whole 1 ∷ whole 0 ∷ whole 0 ∷ []) ∷
      (whole 1 ∷ minus 1 ∷ whole 0 ∷ []) ∷
      (whole 0 ∷ whole 0 ∷ minus 1 ∷ []) ∷
      [];
  columns =
      (whole 1 ∷ whole 0 ∷ whole 0 ∷ []) ∷
      (whole 0 ∷ whole 0 ∷ minus 1 ∷ []) ∷
      (minus 1 ∷ minus 1 ∷ whole 0 ∷ []) ∷
      (whole 0 ∷ whole 1 ∷ whole 0 ∷ []) ∷
      (whole 0 ∷ whole 0 ∷ whole 1 ∷ []) ∷
      [];
}

abbrev pub dropping_second : Reached
dropping_second = record { basis = dropping_second_basis; fresh = dropping_second_fresh; weights = 1 ∷ 1 ∷ 1 ∷ []; count = 1; rows = row 1 Below (whole 4) (pos 4) ∷ row 2 Below (whole 1) (pos 0) ∷ [] }

abbrev pub dropping_minor_2 : Minor
dropping_minor_2 = record {
  reached = dropping_second;
  dropped = 1 ∷ [];
  row = row 2 Below (whole 1) (pos 0);
  step = record { place = 2; leaving = 4; side = Below; entering = 1; tau = whole 1; flips = [] };
}

abbrev pub dropping_third_basis : Basis
dropping_third_basis = record { head = 0 ∷ 3 ∷ 1 ∷ []; stands = Basic ∷ Basic ∷ Lower ∷ Basic ∷ Lower ∷ [] }

abbrev pub dropping_third_fresh : Fresh
dropping_third_fresh = record {
  values = whole 8 ∷ whole 1 ∷ whole 8 ∷ whole 8 ∷ whole 1 ∷ [];
  reduced = whole 0 ∷ whole 0 ∷ whole 1 ∷ whole 0 ∷ whole 1 ∷ [];
  rows =
      (whole 1 ∷ whole 0 ∷ whole 0 ∷ []) ∷
      (whole 1 ∷ minus 1 ∷ whole 0 ∷ []) ∷
      (whole 0 ∷ whole 0 ∷ whole 1 ∷ []) ∷
      [];
  columns =
      (whole 1 ∷ whole 0 ∷ whole 0 ∷ []) ∷
      (whole 0 ∷ whole 0 ∷ whole 1 ∷ []) ∷
      (minus 1 ∷ minus 1 ∷ whole 0 ∷ []) ∷
      (whole 0 ∷ whole 1 ∷ whole 0 ∷ []) ∷
      (whole 0 ∷ whole 0 ∷ minus 1 ∷ []) ∷
      [];
}

abbrev pub dropping_third : Reached
dropping_third = record { basis = dropping_third_basis; fresh = dropping_third_fresh; weights = 1 ∷ 1 ∷ 1 ∷ []; count = 2; rows = [] }

abbrev pub dropping_major : Major
dropping_major = record { number = 1; mode = Full; first = dropping_first; minors = dropping_minor_1 ∷ dropping_minor_2 ∷ []; last = dropping_third }

-- ---- the answer

abbrev pub dropping_record : Record
dropping_record = tried dropping (dropping_major ∷ [])

abbrev pub dropping_answer : Answer
dropping_answer = Optimal (behind dropping dropping_major) dropping_third_fresh

-- ---- the text

abbrev pub dropping_named : Named
dropping_named = named_of dropping_contents

abbrev pub dropping_text : List ℕ
dropping_text = by_lines (
    codes "pami 1" ∷
    codes "model 3 2 3" ∷
    codes "phase 2" ∷
    codes "major 1 full 0 1 2" ∷
    codes "pivot 1 0 r:c1 L x:x 1" ∷
    codes "drop 1" ∷
    codes "pivot 2 2 r:c3 L x:y 1" ∷
    codes "answer optimal" ∷
    codes "certificate 1 optimal" ∷
    codes "objective 9" ∷
    codes "x x 8 0" ∷
    codes "x y 1 0" ∷
    codes "r c1 8 1" ∷
    codes "r c2 8 0" ∷
    codes "r c3 1 1" ∷
    codes "end" ∷
    codes "basis BB LBL" ∷
    [])
