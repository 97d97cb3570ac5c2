-- A row variable leaves at the first pivot and enters at the second.
use Rattle.std.specs.Prelude.{[], ◌∷◌, ℕ, List, codes}
use lib.IntN.{pos}
use Rattle.pami_theory.specs.Form.{Form}
use Rattle.pami_theory.specs.declared.words.Stand.TheVariants.{Basic, Lower}
use Rattle.pami_theory.specs.Basis.{Basis}
use Rattle.pami_theory.specs.Fresh.{Fresh}
use Rattle.pami_theory.specs.Start.{starting_basis}
use Rattle.pami_theory.specs.declared.words.Side.TheVariants.{Below}
use Rattle.pami_method.specs.Batch.{Reached, Minor}
use Rattle.pami_method.specs.declared.words.Mode.TheVariants.{Full}
use Rattle.pami_method.specs.Walk.{Major}
use Rattle.pami_method.specs.Phases.{Record, Answer, Optimal}
use Rattle.pami_lines.specs.Certificate.{Named}
use Rattle.pami_model.specs.declared.model.Sense.TheVariants.{Min}
use Rattle.pami_model.specs.Contents.{Contents}
use Rattle.pami_model_form.specs.Named.{named_of}
use Rattle.pami_examples.specs.Words.{whole, minus, part, minus_part, from, row, tried, behind, by_lines, entry_of}

-- ---- the file, and the model that it says

abbrev pub returning_file : List ℕ
returning_file = by_lines (
    codes "NAME returning" ∷
    codes "ROWS" ∷
    codes " N cost" ∷
    codes " G c1" ∷
    codes " G c2" ∷
    codes "COLUMNS" ∷
    codes " x cost 1 c1 10" ∷
    codes " x c2 1" ∷
    codes "RHS" ∷
    codes " c1 40 c2 6" ∷
    codes "ENDATA" ∷
    [])

abbrev pub returning_contents : Contents
returning_contents = record {
  sense = Min;
  constant = whole 0;
  rows =
      record { name = codes "c1"; bounds = from (whole 40) } ∷
      record { name = codes "c2"; bounds = from (whole 6) } ∷
      [];
  columns =
      record {
        name = codes "x";
        cost = whole 1;
        bounds = from (whole 0);
        entries = entry_of 0 (whole 10) ∷ entry_of 1 (whole 1) ∷ [];
      } ∷
      [];
}

-- ---- the form

-- min x with 10 x >= 40 and x >= 6
abbrev pub returning : Form
returning = record {
  rows = 2;
  columns = 1;
  entries =
      (whole 10 ∷ whole 1 ∷ []) ∷
      [];
  bounds = from (whole 0) ∷ from (whole 40) ∷ from (whole 6) ∷ [];
  costs = whole 1 ∷ [];
}

-- ---- the run, worked out apart from the definitions

abbrev pub returning_first_fresh : Fresh
returning_first_fresh = record {
  values = whole 0 ∷ whole 0 ∷ whole 0 ∷ [];
  reduced = whole 1 ∷ whole 0 ∷ whole 0 ∷ [];
  rows =
      (minus 1 ∷ whole 0 ∷ []) ∷
      (whole 0 ∷ minus 1 ∷ []) ∷
      [];
  columns =
      (minus 10 ∷ minus 1 ∷ []) ∷
      (whole 1 ∷ whole 0 ∷ []) ∷
      (whole 0 ∷ whole 1 ∷ []) ∷
      [];
}

abbrev pub returning_first : Reached
returning_first = record { basis = starting_basis returning; fresh = returning_first_fresh; weights = 1 ∷ 1 ∷ []; count = 0; rows = row 0 Below (whole 40) (pos 10) ∷ row 1 Below (whole 6) (pos 4) ∷ [] }

abbrev pub returning_minor_1 : Minor
returning_minor_1 = record {
  reached = returning_first;
  dropped = [];
  row = row 0 Below (whole 40) (pos 10);
  step = record { place = 0; leaving = 1; side = Below; entering = 0; tau = part 1 10; flips = [] };
}

abbrev pub returning_second_basis : Basis
returning_second_basis = record { head = 0 ∷ 2 ∷ []; stands = Basic ∷ Lower ∷ Basic ∷ [] }

abbrev pub returning_second_fresh : Fresh
returning_second_fresh = record {
  values = whole 4 ∷ whole 40 ∷ whole 4 ∷ [];
  reduced = whole 0 ∷ part 1 10 ∷ whole 0 ∷ [];
  rows =
      (part 1 10 ∷ whole 0 ∷ []) ∷
      (part 1 10 ∷ minus 1 ∷ []) ∷
      [];
  columns =
      (whole 1 ∷ whole 0 ∷ []) ∷
      (minus_part 1 10 ∷ minus_part 1 10 ∷ []) ∷
      (whole 0 ∷ whole 1 ∷ []) ∷
      [];
}

abbrev pub returning_second : Reached
returning_second = record { basis = returning_second_basis; fresh = returning_second_fresh; weights = 1 ∷ 1 ∷ []; count = 1; rows = row 1 Below (whole 6) (pos 4) ∷ [] }

abbrev pub returning_minor_2 : Minor
returning_minor_2 = record {
  reached = returning_second;
  dropped = [];
  row = row 1 Below (whole 2) (pos 2);
  step = record { place = 1; leaving = 2; side = Below; entering = 1; tau = whole 1; flips = [] };
}

abbrev pub returning_third_basis : Basis
returning_third_basis = record { head = 0 ∷ 1 ∷ []; stands = Basic ∷ Basic ∷ Lower ∷ [] }

abbrev pub returning_third_fresh : Fresh
returning_third_fresh = record {
  values = whole 6 ∷ whole 60 ∷ whole 6 ∷ [];
  reduced = whole 0 ∷ whole 0 ∷ whole 1 ∷ [];
  rows =
      (whole 0 ∷ whole 1 ∷ []) ∷
      (minus 1 ∷ whole 10 ∷ []) ∷
      [];
  columns =
      (whole 1 ∷ whole 0 ∷ []) ∷
      (whole 0 ∷ whole 1 ∷ []) ∷
      (minus 1 ∷ minus 10 ∷ []) ∷
      [];
}

abbrev pub returning_third : Reached
returning_third = record { basis = returning_third_basis; fresh = returning_third_fresh; weights = 1 ∷ 1 ∷ []; count = 2; rows = [] }

abbrev pub returning_major : Major
returning_major = record { number = 1; mode = Full; first = returning_first; minors = returning_minor_1 ∷ returning_minor_2 ∷ []; last = returning_third }

-- ---- the answer

abbrev pub returning_record : Record
returning_record = tried returning (returning_major ∷ [])

abbrev pub returning_answer : Answer
returning_answer = Optimal (behind returning returning_major) returning_third_fresh

-- ---- the text

abbrev pub returning_named : Named
returning_named = named_of returning_contents

abbrev pub returning_text : List ℕ
returning_text = by_lines (
    codes "pami 1" ∷
    codes "model 2 1 2" ∷
    codes "phase 2" ∷
    codes "major 1 full 0 1" ∷
    codes "pivot 1 0 r:c1 L x:x 1/10" ∷
    codes "pivot 2 1 r:c2 L r:c1 1" ∷
    codes "answer optimal" ∷
    codes "certificate 1 optimal" ∷
    codes "objective 6" ∷
    codes "x x 6 0" ∷
    codes "r c1 60 0" ∷
    codes "r c2 6 1" ∷
    codes "end" ∷
    codes "basis B BL" ∷
    [])
