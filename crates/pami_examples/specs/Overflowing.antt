-- The first major is rolled back and its first row leaves alone; the third is rolled back at a solve, and alone its
-- row is refused at the new elimination, which ends the run.
use Rattle.std.specs.Prelude.{[], ◌∷◌, ℕ, List, codes}
use lib.IntN.{pos}
use Rattle.pami_theory.specs.Form.{Form}
use Rattle.pami_theory.specs.declared.words.Stand.TheVariants.{Basic, Lower}
use Rattle.pami_theory.specs.Basis.{Basis}
use Rattle.pami_theory.specs.Fresh.{Fresh}
use Rattle.pami_theory.specs.Start.{starting_basis}
use Rattle.pami_theory.specs.declared.words.Side.TheVariants.{Below}
use Rattle.pami_method.specs.Batch.{Reached, Minor}
use Rattle.pami_method.specs.declared.words.Mode.TheVariants.{Full, Single}
use Rattle.pami_method.specs.Walk.{Major}
use Rattle.pami_method.specs.Phases.{Record, Answer, Overflow}
use Rattle.pami_lines.specs.Certificate.{Named}
use Rattle.pami_model.specs.declared.model.Sense.TheVariants.{Min}
use Rattle.pami_model.specs.Contents.{Contents}
use Rattle.pami_frac.specs.declared.arithmetic.Op.TheVariants.{Div}
use Rattle.pami_method.specs.declared.words.Spot.TheVariants.{Factor}
use Rattle.pami_model_form.specs.Named.{named_of}
use Rattle.pami_examples.specs.Words.{whole, minus, part, minus_part, from, row, tried, by_lines, entry_of}

-- ---- the file, and the model that it says

abbrev pub overflowing_file : List ℕ
overflowing_file = by_lines (
    codes "NAME overflowing" ∷
    codes "ROWS" ∷
    codes " N cost" ∷
    codes " G c1" ∷
    codes " G c2" ∷
    codes "COLUMNS" ∷
    codes " x cost 1 c1 10" ∷
    codes " x c2 1e-38" ∷
    codes "RHS" ∷
    codes " c1 100 c2 1" ∷
    codes "ENDATA" ∷
    [])

abbrev pub overflowing_contents : Contents
overflowing_contents = record {
  sense = Min;
  constant = whole 0;
  rows =
      record { name = codes "c1"; bounds = from (whole 100) } ∷
      record { name = codes "c2"; bounds = from (whole 1) } ∷
      [];
  columns =
      record {
        name = codes "x";
        cost = whole 1;
        bounds = from (whole 0);
        entries = entry_of 0 (whole 10) ∷ entry_of 1 (part 1 100000000000000000000000000000000000000) ∷ [];
      } ∷
      [];
}

-- ---- the form

-- min x with 10 x >= 100 and x / 10^38 >= 1
abbrev pub overflowing : Form
overflowing = record {
  rows = 2;
  columns = 1;
  entries =
      (whole 10 ∷ part 1 100000000000000000000000000000000000000 ∷ []) ∷
      [];
  bounds = from (whole 0) ∷ from (whole 100) ∷ from (whole 1) ∷ [];
  costs = whole 1 ∷ [];
}

-- ---- the run, worked out apart from the definitions

abbrev pub overflowing_first_fresh : Fresh
overflowing_first_fresh = record {
  values = whole 0 ∷ whole 0 ∷ whole 0 ∷ [];
  reduced = whole 1 ∷ whole 0 ∷ whole 0 ∷ [];
  rows =
      (minus 1 ∷ whole 0 ∷ []) ∷
      (whole 0 ∷ minus 1 ∷ []) ∷
      [];
  columns =
      (minus 10 ∷ minus_part 1 100000000000000000000000000000000000000 ∷ []) ∷
      (whole 1 ∷ whole 0 ∷ []) ∷
      (whole 0 ∷ whole 1 ∷ []) ∷
      [];
}

abbrev pub overflowing_first : Reached
overflowing_first = record { basis = starting_basis overflowing; fresh = overflowing_first_fresh; weights = 1 ∷ 1 ∷ []; count = 0; rows = row 0 Below (whole 100) (pos 12) ∷ row 1 Below (whole 1) (pos 0) ∷ [] }

abbrev pub overflowing_minor_1 : Minor
overflowing_minor_1 = record {
  reached = overflowing_first;
  dropped = [];
  row = row 0 Below (whole 100) (pos 12);
  step = record { place = 0; leaving = 1; side = Below; entering = 0; tau = part 1 10; flips = [] };
}

abbrev pub overflowing_second_basis : Basis
overflowing_second_basis = record { head = 0 ∷ 2 ∷ []; stands = Basic ∷ Lower ∷ Basic ∷ [] }

abbrev pub overflowing_second_fresh : Fresh
overflowing_second_fresh = record {
  values = whole 10 ∷ whole 100 ∷ part 1 10000000000000000000000000000000000000 ∷ [];
  reduced = whole 0 ∷ part 1 10 ∷ whole 0 ∷ [];
  rows =
      (part 1 10 ∷ whole 0 ∷ []) ∷
      (part 1 1000000000000000000000000000000000000000 ∷ minus 1 ∷ []) ∷
      [];
  columns =
      (whole 1 ∷ whole 0 ∷ []) ∷
      (minus_part 1 10 ∷ minus_part 1 1000000000000000000000000000000000000000 ∷ []) ∷
      (whole 0 ∷ whole 1 ∷ []) ∷
      [];
}

abbrev pub overflowing_second : Reached
overflowing_second = record { basis = overflowing_second_basis; fresh = overflowing_second_fresh; weights = 1 ∷ 1 ∷ []; count = 1; rows = row 1 Below (whole 1) (pos 0) ∷ [] }

abbrev pub overflowing_minor_2 : Minor
overflowing_minor_2 = record {
  reached = overflowing_second;
  dropped = [];
  row = row 1 Below (part 9999999999999999999999999999999999999 10000000000000000000000000000000000000) (pos 0);
  step = record { place = 1; leaving = 2; side = Below; entering = 1; tau = whole 100000000000000000000000000000000000000; flips = [] };
}

abbrev pub overflowing_third_basis : Basis
overflowing_third_basis = record { head = 0 ∷ 1 ∷ []; stands = Basic ∷ Basic ∷ Lower ∷ [] }

abbrev pub overflowing_third_fresh : Fresh
overflowing_third_fresh = record {
  values = whole 100000000000000000000000000000000000000 ∷ whole 1000000000000000000000000000000000000000 ∷ whole 1 ∷ [];
  reduced = whole 0 ∷ whole 0 ∷ whole 100000000000000000000000000000000000000 ∷ [];
  rows =
      (whole 0 ∷ whole 100000000000000000000000000000000000000 ∷ []) ∷
      (minus 1 ∷ whole 1000000000000000000000000000000000000000 ∷ []) ∷
      [];
  columns =
      (whole 1 ∷ whole 0 ∷ []) ∷
      (whole 0 ∷ whole 1 ∷ []) ∷
      (minus 100000000000000000000000000000000000000 ∷ minus 1000000000000000000000000000000000000000 ∷ []) ∷
      [];
}

abbrev pub overflowing_third : Reached
overflowing_third = record { basis = overflowing_third_basis; fresh = overflowing_third_fresh; weights = 4294967296 ∷ 1 ∷ []; count = 2; rows = [] }

abbrev pub overflowing_major : Major
overflowing_major = record { number = 1; mode = Full; first = overflowing_first; minors = overflowing_minor_1 ∷ overflowing_minor_2 ∷ []; last = overflowing_third }

abbrev pub overflowing_again_first : Reached
overflowing_again_first = record { basis = starting_basis overflowing; fresh = overflowing_first_fresh; weights = 1 ∷ 1 ∷ []; count = 0; rows = row 0 Below (whole 100) (pos 12) ∷ [] }

abbrev pub overflowing_again_minor_1 : Minor
overflowing_again_minor_1 = record {
  reached = overflowing_again_first;
  dropped = [];
  row = row 0 Below (whole 100) (pos 12);
  step = record { place = 0; leaving = 1; side = Below; entering = 0; tau = part 1 10; flips = [] };
}

abbrev pub overflowing_again_second : Reached
overflowing_again_second = record { basis = overflowing_second_basis; fresh = overflowing_second_fresh; weights = 1 ∷ 1 ∷ []; count = 1; rows = [] }

abbrev pub overflowing_major_2 : Major
overflowing_major_2 = record { number = 2; mode = Single; first = overflowing_again_first; minors = overflowing_again_minor_1 ∷ []; last = overflowing_again_second }

abbrev pub overflowing_later_first : Reached
overflowing_later_first = record { basis = overflowing_second_basis; fresh = overflowing_second_fresh; weights = 1 ∷ 1 ∷ []; count = 1; rows = row 1 Below (part 9999999999999999999999999999999999999 10000000000000000000000000000000000000) (pos 0) ∷ [] }

abbrev pub overflowing_later_minor_1 : Minor
overflowing_later_minor_1 = record {
  reached = overflowing_later_first;
  dropped = [];
  row = row 1 Below (part 9999999999999999999999999999999999999 10000000000000000000000000000000000000) (pos 0);
  step = record { place = 1; leaving = 2; side = Below; entering = 1; tau = whole 100000000000000000000000000000000000000; flips = [] };
}

abbrev pub overflowing_later_second : Reached
overflowing_later_second = record { basis = overflowing_third_basis; fresh = overflowing_third_fresh; weights = 4294967296 ∷ 1 ∷ []; count = 2; rows = [] }

abbrev pub overflowing_major_3 : Major
overflowing_major_3 = record { number = 3; mode = Full; first = overflowing_later_first; minors = overflowing_later_minor_1 ∷ []; last = overflowing_later_second }

abbrev pub overflowing_last_first : Reached
overflowing_last_first = record { basis = overflowing_second_basis; fresh = overflowing_second_fresh; weights = 1 ∷ 1 ∷ []; count = 1; rows = row 1 Below (part 9999999999999999999999999999999999999 10000000000000000000000000000000000000) (pos 0) ∷ [] }

abbrev pub overflowing_last_minor_1 : Minor
overflowing_last_minor_1 = record {
  reached = overflowing_last_first;
  dropped = [];
  row = row 1 Below (part 9999999999999999999999999999999999999 10000000000000000000000000000000000000) (pos 0);
  step = record { place = 1; leaving = 2; side = Below; entering = 1; tau = whole 100000000000000000000000000000000000000; flips = [] };
}

abbrev pub overflowing_last_second : Reached
overflowing_last_second = record { basis = overflowing_third_basis; fresh = overflowing_third_fresh; weights = 4294967296 ∷ 1 ∷ []; count = 2; rows = [] }

abbrev pub overflowing_major_4 : Major
overflowing_major_4 = record { number = 4; mode = Single; first = overflowing_last_first; minors = overflowing_last_minor_1 ∷ []; last = overflowing_last_second }

-- ---- the answer

abbrev pub overflowing_record : Record
overflowing_record = tried overflowing (overflowing_major ∷ overflowing_major_2 ∷ overflowing_major_3 ∷ overflowing_major_4 ∷ [])

abbrev pub overflowing_answer : Answer
overflowing_answer = Overflow (record {
  task = Factor;
  refused = record { op = Div; left = part 1 100000000000000000000000000000000000000; right = whole 10 };
})

-- ---- the text

abbrev pub overflowing_named : Named
overflowing_named = named_of overflowing_contents

abbrev pub overflowing_text : List ℕ
overflowing_text = by_lines (
    codes "pami 1" ∷
    codes "model 2 1 2" ∷
    codes "phase 2" ∷
    codes "rollback 1 reach-1-1 div -1/100000000000000000000000000000000000000 -10" ∷
    codes "major 2 single 0" ∷
    codes "pivot 1 0 r:c1 L x:x 1/10" ∷
    codes "rollback 3 backward-1 div 1/100000000000000000000000000000000000000 -10" ∷
    codes "answer overflow factor div 1/100000000000000000000000000000000000000 10" ∷
    [])
