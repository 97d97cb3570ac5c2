-- The first major is rolled back, and the row that it began with leaves in a major of its own.
use Rattle.std.specs.Prelude.{[], ◌∷◌, ℕ, List, codes}
use lib.IntN.{pos, negsuc}
use Rattle.pami_theory.specs.Form.{Form}
use Rattle.pami_theory.specs.declared.words.Stand.TheVariants.{Basic, Lower}
use Rattle.pami_theory.specs.Basis.{Basis}
use Rattle.pami_theory.specs.Fresh.{Fresh}
use Rattle.pami_theory.specs.Start.{starting_basis}
use Rattle.pami_theory.specs.declared.words.Side.TheVariants.{Below}
use Rattle.pami_method.specs.Batch.{Reached, Minor}
use Rattle.pami_method.specs.declared.words.Mode.TheVariants.{Full, Single}
use Rattle.pami_method.specs.Walk.{Major}
use Rattle.pami_method.specs.Phases.{Record, Answer, Optimal}
use Rattle.pami_lines.specs.Certificate.{Named}
use Rattle.pami_model.specs.declared.model.Sense.TheVariants.{Min}
use Rattle.pami_model.specs.Contents.{Contents}
use Rattle.pami_model_form.specs.Named.{named_of}
use Rattle.pami_examples.specs.Words.{whole, minus, part, minus_part, from, row, tried, behind, by_lines, entry_of}

-- ---- the file, and the model that it says

abbrev pub refusing_file : List ℕ
refusing_file = by_lines (
    codes "NAME refusing" ∷
    codes "ROWS" ∷
    codes " N cost" ∷
    codes " G c1" ∷
    codes " G c2" ∷
    codes "COLUMNS" ∷
    codes " x cost 1 c1 10" ∷
    codes " x c2 1e-38" ∷
    codes "RHS" ∷
    codes " c1 100 c2 1e-38" ∷
    codes "ENDATA" ∷
    [])

abbrev pub refusing_contents : Contents
refusing_contents = record {
  sense = Min;
  constant = whole 0;
  rows =
      record { name = codes "c1"; bounds = from (whole 100) } ∷
      record { name = codes "c2"; bounds = from (part 1 100000000000000000000000000000000000000) } ∷
      [];
  columns =
      record {
        name = codes "x";
        cost = whole 1;
        bounds = from (whole 0);
        entries = entry_of 0 (whole 10) ∷ entry_of 1 (part 1 100000000000000000000000000000000000000) ∷ [];
      } ∷
      [];
}

-- ---- the form

-- min x with 10 x >= 100 and x / 10^38 >= 1 / 10^38
abbrev pub refusing : Form
refusing = record {
  rows = 2;
  columns = 1;
  entries =
      (whole 10 ∷ part 1 100000000000000000000000000000000000000 ∷ []) ∷
      [];
  bounds = from (whole 0) ∷ from (whole 100) ∷ from (part 1 100000000000000000000000000000000000000) ∷ [];
  costs = whole 1 ∷ [];
}

-- ---- the run, worked out apart from the definitions

abbrev pub refusing_first_fresh : Fresh
refusing_first_fresh = record {
  values = whole 0 ∷ whole 0 ∷ whole 0 ∷ [];
  reduced = whole 1 ∷ whole 0 ∷ whole 0 ∷ [];
  rows =
      (minus 1 ∷ whole 0 ∷ []) ∷
      (whole 0 ∷ minus 1 ∷ []) ∷
      [];
  columns =
      (minus 10 ∷ minus_part 1 100000000000000000000000000000000000000 ∷ []) ∷
      (whole 1 ∷ whole 0 ∷ []) ∷
      (whole 0 ∷ whole 1 ∷ []) ∷
      [];
}

abbrev pub refusing_first : Reached
refusing_first = record { basis = starting_basis refusing; fresh = refusing_first_fresh; weights = 1 ∷ 1 ∷ []; count = 0; rows = row 0 Below (whole 100) (pos 12) ∷ row 1 Below (part 1 100000000000000000000000000000000000000) (negsuc 251) ∷ [] }

abbrev pub refusing_minor_1 : Minor
refusing_minor_1 = record {
  reached = refusing_first;
  dropped = [];
  row = row 0 Below (whole 100) (pos 12);
  step = record { place = 0; leaving = 1; side = Below; entering = 0; tau = part 1 10; flips = [] };
}

abbrev pub refusing_second_basis : Basis
refusing_second_basis = record { head = 0 ∷ 2 ∷ []; stands = Basic ∷ Lower ∷ Basic ∷ [] }

abbrev pub refusing_second_fresh : Fresh
refusing_second_fresh = record {
  values = whole 10 ∷ whole 100 ∷ part 1 10000000000000000000000000000000000000 ∷ [];
  reduced = whole 0 ∷ part 1 10 ∷ whole 0 ∷ [];
  rows =
      (part 1 10 ∷ whole 0 ∷ []) ∷
      (part 1 1000000000000000000000000000000000000000 ∷ minus 1 ∷ []) ∷
      [];
  columns =
      (whole 1 ∷ whole 0 ∷ []) ∷
      (minus_part 1 10 ∷ minus_part 1 1000000000000000000000000000000000000000 ∷ []) ∷
      (whole 0 ∷ whole 1 ∷ []) ∷
      [];
}

abbrev pub refusing_second : Reached
refusing_second = record { basis = refusing_second_basis; fresh = refusing_second_fresh; weights = 1 ∷ 1 ∷ []; count = 1; rows = row 1 Below (part 1 100000000000000000000000000000000000000) (negsuc 251) ∷ [] }

abbrev pub refusing_major : Major
refusing_major = record { number = 1; mode = Full; first = refusing_first; minors = refusing_minor_1 ∷ []; last = refusing_second }

abbrev pub refusing_again_first : Reached
refusing_again_first = record { basis = starting_basis refusing; fresh = refusing_first_fresh; weights = 1 ∷ 1 ∷ []; count = 0; rows = row 0 Below (whole 100) (pos 12) ∷ [] }

abbrev pub refusing_again_minor_1 : Minor
refusing_again_minor_1 = record {
  reached = refusing_again_first;
  dropped = [];
  row = row 0 Below (whole 100) (pos 12);
  step = record { place = 0; leaving = 1; side = Below; entering = 0; tau = part 1 10; flips = [] };
}

abbrev pub refusing_again_second : Reached
refusing_again_second = record { basis = refusing_second_basis; fresh = refusing_second_fresh; weights = 1 ∷ 1 ∷ []; count = 1; rows = [] }

abbrev pub refusing_major_2 : Major
refusing_major_2 = record { number = 2; mode = Single; first = refusing_again_first; minors = refusing_again_minor_1 ∷ []; last = refusing_again_second }

-- ---- the answer

abbrev pub refusing_record : Record
refusing_record = tried refusing (refusing_major ∷ refusing_major_2 ∷ [])

abbrev pub refusing_answer : Answer
refusing_answer = Optimal (behind refusing refusing_major_2) refusing_second_fresh

-- ---- the text

abbrev pub refusing_named : Named
refusing_named = named_of refusing_contents

abbrev pub refusing_text : List ℕ
refusing_text = by_lines (
    codes "pami 1" ∷
    codes "model 2 1 2" ∷
    codes "phase 2" ∷
    codes "rollback 1 reach-1-1 div -1/100000000000000000000000000000000000000 -10" ∷
    codes "major 2 single 0" ∷
    codes "pivot 1 0 r:c1 L x:x 1/10" ∷
    codes "answer optimal" ∷
    codes "certificate 1 optimal" ∷
    codes "objective 10" ∷
    codes "x x 10 0" ∷
    codes "r c1 100 1/10" ∷
    codes "r c2 1/10000000000000000000000000000000000000 0" ∷
    codes "end" ∷
    codes "basis B LB" ∷
    [])
