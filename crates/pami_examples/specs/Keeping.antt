-- Three majors of one pivot each, where a factor is kept for at most one pivot: the second works with the first one's factor,
-- and the third eliminates anew. An elimination before the second one wouldn't fit.
use Rattle.std.specs.Prelude.{Some, [], ◌∷◌, ℕ, List, codes}
use lib.IntN.{pos}
use Rattle.pami_frac.specs.declared.arithmetic.Op.TheVariants.{Div}
use Rattle.pami_frac.specs.declared.arithmetic.Refused.{Refused}
use Rattle.pami_theory.specs.Form.{Form}
use Rattle.pami_theory.specs.declared.words.Stand.TheVariants.{Basic, Lower}
use Rattle.pami_theory.specs.Basis.{Basis}
use Rattle.pami_theory.specs.Fresh.{Fresh}
use Rattle.pami_theory.specs.Start.{starting_basis}
use Rattle.pami_theory.specs.declared.words.Side.TheVariants.{Below}
use Rattle.pami_method.specs.Batch.{Reached, Minor}
use Rattle.pami_method.specs.declared.words.Mode.TheVariants.{Full}
use Rattle.pami_method.specs.declared.words.Options.{Options}
use Rattle.pami_method.specs.Walk.{Major, State}
use Rattle.pami_method.specs.Phases.{Record, Answer, Optimal}
use Rattle.pami_lines.specs.Certificate.{Named}
use Rattle.pami_model.specs.declared.model.Sense.TheVariants.{Min}
use Rattle.pami_model.specs.Contents.{Contents}
use Rattle.pami_model_form.specs.Named.{named_of}
use Rattle.pami_examples.specs.Words.{whole, minus, part, minus_part, from, up_to, fixed, row, tried, by_lines, entry_of}

-- ---- the file, and the model that it says

abbrev pub keeping_file : List ℕ
keeping_file = by_lines (
    codes "NAME keeping" ∷
    codes "ROWS" ∷
    codes " N cost" ∷
    codes " E c1" ∷
    codes " G c2" ∷
    codes " L c3" ∷
    codes "COLUMNS" ∷
    codes " x cost 1 c1 1e10" ∷
    codes " x c2 1e7 c3 1e-30" ∷
    codes " y cost 3 c1 1e10" ∷
    codes " y c2 3e7" ∷
    codes " z cost 1 c1 -1e10" ∷
    codes " z c2 -1e7 c3 -1e-30" ∷
    codes "RHS" ∷
    codes " c1 1e10 c2 7e7" ∷
    codes " c3 1" ∷
    codes "ENDATA" ∷
    [])

abbrev pub keeping_contents : Contents
keeping_contents = record {
  sense = Min;
  constant = whole 0;
  rows =
      record { name = codes "c1"; bounds = fixed (whole 10000000000) } ∷
      record { name = codes "c2"; bounds = from (whole 70000000) } ∷
      record { name = codes "c3"; bounds = up_to (whole 1) } ∷
      [];
  columns =
      record {
        name = codes "x";
        cost = whole 1;
        bounds = from (whole 0);
        entries = entry_of 0 (whole 10000000000) ∷ entry_of 1 (whole 10000000) ∷ entry_of 2 (part 1 1000000000000000000000000000000) ∷ [];
      } ∷
      record {
        name = codes "y";
        cost = whole 3;
        bounds = from (whole 0);
        entries = entry_of 0 (whole 10000000000) ∷ entry_of 1 (whole 30000000) ∷ [];
      } ∷
      record {
        name = codes "z";
        cost = whole 1;
        bounds = from (whole 0);
        entries = entry_of 0 (minus 10000000000) ∷ entry_of 1 (minus 10000000) ∷ entry_of 2 (minus_part 1 1000000000000000000000000000000) ∷ [];
      } ∷
      [];
}

-- ---- the form

-- min x + 3 y + z with 10^10 (x + y - z) = 10^10, 10^7 (x + 3 y - z) >= 7 10^7 and (x - z) / 10^30 <= 1
abbrev pub keeping : Form
keeping = record {
  rows = 3;
  columns = 3;
  entries =
      (whole 10000000000 ∷ whole 10000000 ∷ part 1 1000000000000000000000000000000 ∷ []) ∷
      (whole 10000000000 ∷ whole 30000000 ∷ whole 0 ∷ []) ∷
      (minus 10000000000 ∷ minus 10000000 ∷ minus_part 1 1000000000000000000000000000000 ∷ []) ∷
      [];
  bounds =
      from (whole 0) ∷ from (whole 0) ∷ from (whole 0)
      ∷ fixed (whole 10000000000) ∷ from (whole 70000000) ∷ up_to (whole 1) ∷ [];
  costs = whole 1 ∷ whole 3 ∷ whole 1 ∷ [];
}

-- one row a batch, and factors with at most one pivot
abbrev pub keeping_options : Options
keeping_options = record { batch = 1; refactor = 1; limit = 100000 }

-- ---- the run, worked out apart from the definitions

abbrev pub keeping_first_fresh : Fresh
keeping_first_fresh = record {
  values = whole 0 ∷ whole 0 ∷ whole 0 ∷ whole 0 ∷ whole 0 ∷ whole 0 ∷ [];
  reduced = whole 1 ∷ whole 3 ∷ whole 1 ∷ whole 0 ∷ whole 0 ∷ whole 0 ∷ [];
  rows =
      (minus 1 ∷ whole 0 ∷ whole 0 ∷ []) ∷
      (whole 0 ∷ minus 1 ∷ whole 0 ∷ []) ∷
      (whole 0 ∷ whole 0 ∷ minus 1 ∷ []) ∷
      [];
  columns =
      (minus 10000000000 ∷ minus 10000000 ∷ minus_part 1 1000000000000000000000000000000 ∷ []) ∷
      (minus 10000000000 ∷ minus 30000000 ∷ whole 0 ∷ []) ∷
      (whole 10000000000 ∷ whole 10000000 ∷ part 1 1000000000000000000000000000000 ∷ []) ∷
      (whole 1 ∷ whole 0 ∷ whole 0 ∷ []) ∷
      (whole 0 ∷ whole 1 ∷ whole 0 ∷ []) ∷
      (whole 0 ∷ whole 0 ∷ whole 1 ∷ []) ∷
      [];
}

abbrev pub keeping_first : Reached
keeping_first = record { basis = starting_basis keeping; fresh = keeping_first_fresh; weights = 1 ∷ 1 ∷ 1 ∷ []; count = 0; rows = row 0 Below (whole 10000000000) (pos 66) ∷ [] }

abbrev pub keeping_minor_1 : Minor
keeping_minor_1 = record {
  reached = keeping_first;
  dropped = [];
  row = row 0 Below (whole 10000000000) (pos 66);
  step = record { place = 0; leaving = 3; side = Below; entering = 0; tau = part 1 10000000000; flips = [] };
}

abbrev pub keeping_second_basis : Basis
keeping_second_basis = record { head = 0 ∷ 4 ∷ 5 ∷ []; stands = Basic ∷ Lower ∷ Lower ∷ Lower ∷ Basic ∷ Basic ∷ [] }

abbrev pub keeping_second_fresh : Fresh
keeping_second_fresh = record {
  values = whole 1 ∷ whole 0 ∷ whole 0 ∷ whole 10000000000 ∷ whole 10000000 ∷ part 1 1000000000000000000000000000000 ∷ [];
  reduced = whole 0 ∷ whole 2 ∷ whole 2 ∷ part 1 10000000000 ∷ whole 0 ∷ whole 0 ∷ [];
  rows =
      (part 1 10000000000 ∷ whole 0 ∷ whole 0 ∷ []) ∷
      (part 1 1000 ∷ minus 1 ∷ whole 0 ∷ []) ∷
      (part 1 10000000000000000000000000000000000000000 ∷ whole 0 ∷ minus 1 ∷ []) ∷
      [];
  columns =
      (whole 1 ∷ whole 0 ∷ whole 0 ∷ []) ∷
      (whole 1 ∷ minus 20000000 ∷ part 1 1000000000000000000000000000000 ∷ []) ∷
      (minus 1 ∷ whole 0 ∷ whole 0 ∷ []) ∷
      (minus_part 1 10000000000 ∷ minus_part 1 1000 ∷ minus_part 1 10000000000000000000000000000000000000000 ∷ []) ∷
      (whole 0 ∷ whole 1 ∷ whole 0 ∷ []) ∷
      (whole 0 ∷ whole 0 ∷ whole 1 ∷ []) ∷
      [];
}

abbrev pub keeping_second_left : Reached
keeping_second_left = record { basis = keeping_second_basis; fresh = keeping_second_fresh; weights = 1 ∷ 1 ∷ 1 ∷ []; count = 1; rows = [] }

abbrev pub keeping_second : Reached
keeping_second = record { basis = keeping_second_basis; fresh = keeping_second_fresh; weights = 1 ∷ 1 ∷ 1 ∷ []; count = 1; rows = row 1 Below (whole 60000000) (pos 50) ∷ [] }

abbrev pub keeping_minor_2 : Minor
keeping_minor_2 = record {
  reached = keeping_second;
  dropped = [];
  row = row 1 Below (whole 60000000) (pos 50);
  step = record { place = 1; leaving = 4; side = Below; entering = 1; tau = part 1 10000000; flips = [] };
}

abbrev pub keeping_third_basis : Basis
keeping_third_basis = record { head = 0 ∷ 1 ∷ 5 ∷ []; stands = Basic ∷ Basic ∷ Lower ∷ Lower ∷ Lower ∷ Basic ∷ [] }

abbrev pub keeping_third_fresh : Fresh
keeping_third_fresh = record {
  values = minus 2 ∷ whole 3 ∷ whole 0 ∷ whole 10000000000 ∷ whole 70000000 ∷ minus_part 1 500000000000000000000000000000 ∷ [];
  reduced = whole 0 ∷ whole 0 ∷ whole 2 ∷ whole 0 ∷ part 1 10000000 ∷ whole 0 ∷ [];
  rows =
      (part 3 20000000000 ∷ minus_part 1 20000000 ∷ whole 0 ∷ []) ∷
      (minus_part 1 20000000000 ∷ part 1 20000000 ∷ whole 0 ∷ []) ∷
      (part 3 20000000000000000000000000000000000000000 ∷ minus_part 1 20000000000000000000000000000000000000 ∷ minus 1 ∷ []) ∷
      [];
  columns =
      (whole 1 ∷ whole 0 ∷ whole 0 ∷ []) ∷
      (whole 0 ∷ whole 1 ∷ whole 0 ∷ []) ∷
      (minus 1 ∷ whole 0 ∷ whole 0 ∷ []) ∷
      (minus_part 3 20000000000 ∷ part 1 20000000000 ∷ minus_part 3 20000000000000000000000000000000000000000 ∷ []) ∷
      (part 1 20000000 ∷ minus_part 1 20000000 ∷ part 1 20000000000000000000000000000000000000 ∷ []) ∷
      (whole 0 ∷ whole 0 ∷ whole 1 ∷ []) ∷
      [];
}

abbrev pub keeping_third_left : Reached
keeping_third_left = record { basis = keeping_third_basis; fresh = keeping_third_fresh; weights = 1 ∷ 1 ∷ 1 ∷ []; count = 2; rows = [] }

abbrev pub keeping_third : Reached
keeping_third = record { basis = keeping_third_basis; fresh = keeping_third_fresh; weights = 1 ∷ 1 ∷ 1 ∷ []; count = 2; rows = row 0 Below (whole 2) (pos 2) ∷ [] }

abbrev pub keeping_minor_3 : Minor
keeping_minor_3 = record {
  reached = keeping_third;
  dropped = [];
  row = row 0 Below (whole 2) (pos 2);
  step = record { place = 0; leaving = 0; side = Below; entering = 2; tau = whole 2; flips = [] };
}

abbrev pub keeping_fourth_basis : Basis
keeping_fourth_basis = record { head = 2 ∷ 1 ∷ 5 ∷ []; stands = Lower ∷ Basic ∷ Basic ∷ Lower ∷ Lower ∷ Basic ∷ [] }

abbrev pub keeping_fourth_fresh : Fresh
keeping_fourth_fresh = record {
  values = whole 0 ∷ whole 3 ∷ whole 2 ∷ whole 10000000000 ∷ whole 70000000 ∷ minus_part 1 500000000000000000000000000000 ∷ [];
  reduced = whole 2 ∷ whole 0 ∷ whole 0 ∷ minus_part 3 10000000000 ∷ part 1 5000000 ∷ whole 0 ∷ [];
  rows =
      (minus_part 3 20000000000 ∷ part 1 20000000 ∷ whole 0 ∷ []) ∷
      (minus_part 1 20000000000 ∷ part 1 20000000 ∷ whole 0 ∷ []) ∷
      (part 3 20000000000000000000000000000000000000000 ∷ minus_part 1 20000000000000000000000000000000000000 ∷ minus 1 ∷ []) ∷
      [];
  columns =
      (minus 1 ∷ whole 0 ∷ whole 0 ∷ []) ∷
      (whole 0 ∷ whole 1 ∷ whole 0 ∷ []) ∷
      (whole 1 ∷ whole 0 ∷ whole 0 ∷ []) ∷
      (part 3 20000000000 ∷ part 1 20000000000 ∷ minus_part 3 20000000000000000000000000000000000000000 ∷ []) ∷
      (minus_part 1 20000000 ∷ minus_part 1 20000000 ∷ part 1 20000000000000000000000000000000000000 ∷ []) ∷
      (whole 0 ∷ whole 0 ∷ whole 1 ∷ []) ∷
      [];
}

abbrev pub keeping_fourth_left : Reached
keeping_fourth_left = record { basis = keeping_fourth_basis; fresh = keeping_fourth_fresh; weights = 1 ∷ 1 ∷ 1 ∷ []; count = 3; rows = [] }

abbrev pub keeping_major_1 : Major
keeping_major_1 = record { number = 1; mode = Full; first = keeping_first; minors = keeping_minor_1 ∷ []; last = keeping_second_left }

abbrev pub keeping_major_2 : Major
keeping_major_2 = record { number = 2; mode = Full; first = keeping_second; minors = keeping_minor_2 ∷ []; last = keeping_third_left }

abbrev pub keeping_major_3 : Major
keeping_major_3 = record { number = 3; mode = Full; first = keeping_third; minors = keeping_minor_3 ∷ []; last = keeping_fourth_left }

abbrev pub keeping_majors : List Major
keeping_majors = keeping_major_1 ∷ keeping_major_2 ∷ keeping_major_3 ∷ []

abbrev pub keeping_record : Record
keeping_record = tried keeping keeping_majors

-- the multiplier of the third row, where the head of the second major is eliminated
abbrev pub keeping_unfit : Refused
keeping_unfit = record { op = Div; left = part 1 1000000000000000000000000000000; right = whole 10000000000 }

-- ---- the answer

-- the factor is that of the elimination before the third major, with its pivot
abbrev pub keeping_end : State
keeping_end = record {
  basis = keeping_fourth_basis;
  weights = 1 ∷ 1 ∷ 1 ∷ [];
  count = 3;
  history = Some (record {
    head = 0 ∷ 1 ∷ 5 ∷ [];
    pivots = record { place = 0; column = minus 1 ∷ whole 0 ∷ whole 0 ∷ [] } ∷ [];
  });
}

abbrev pub keeping_answer : Answer
keeping_answer = Optimal keeping_end keeping_fourth_fresh

-- ---- the text

abbrev pub keeping_named : Named
keeping_named = named_of keeping_contents

abbrev pub keeping_text : List ℕ
keeping_text = by_lines (
    codes "pami 1" ∷
    codes "model 3 3 8" ∷
    codes "phase 2" ∷
    codes "major 1 full 0" ∷
    codes "pivot 1 0 r:c1 L x:x 1/10000000000" ∷
    codes "major 2 full 1" ∷
    codes "pivot 2 1 r:c2 L x:y 1/10000000" ∷
    codes "major 3 full 0" ∷
    codes "pivot 3 0 x:x L x:z 2" ∷
    codes "answer optimal" ∷
    codes "certificate 1 optimal" ∷
    codes "objective 11" ∷
    codes "x x 0 2" ∷
    codes "x y 3 0" ∷
    codes "x z 2 0" ∷
    codes "r c1 10000000000 -3/10000000000" ∷
    codes "r c2 70000000 1/5000000" ∷
    codes "r c3 -1/500000000000000000000000000000 0" ∷
    codes "end" ∷
    codes "basis LBB LLB" ∷
    [])
