-- A start that isn't dual feasible: one pivot in the boxes, where the row's bound is 0 and not its own, and one more behind
-- the switch, so that the count of pivots and the numbers of the majors go on. The major behind the switch works with the
-- factor that the switch eliminated.
use Rattle.std.specs.Prelude.{Some, [], ◌∷◌, ℕ, List, codes}
use lib.IntN.{pos}
use Rattle.pami_theory.specs.Form.{Form}
use Rattle.pami_theory.specs.declared.words.Stand.TheVariants.{Basic, Lower, Upper}
use Rattle.pami_theory.specs.Basis.{Basis}
use Rattle.pami_theory.specs.Boxes.{boxes_of}
use Rattle.pami_theory.specs.Fresh.{Fresh}
use Rattle.pami_theory.specs.Start.{starting_basis}
use Rattle.pami_theory.specs.declared.words.Side.TheVariants.{Above, Below}
use Rattle.pami_method.specs.Batch.{Reached, Minor}
use Rattle.pami_method.specs.declared.words.Mode.TheVariants.{Full}
use Rattle.pami_method.specs.Walk.{Major, State}
use Rattle.pami_method.specs.Phases.{Record, in_boxes, on_form, Answer, Optimal}
use Rattle.pami_lines.specs.Certificate.{Named}
use Rattle.pami_model.specs.declared.model.Sense.TheVariants.{Min}
use Rattle.pami_model.specs.Contents.{Contents}
use Rattle.pami_model_form.specs.Named.{named_of}
use Rattle.pami_examples.specs.Words.{whole, minus, from, up_to, row, by_lines, entry_of}

-- ---- the file, and the model that it says

abbrev pub continuing_file : List ℕ
continuing_file = by_lines (
    codes "NAME continuing" ∷
    codes "ROWS" ∷
    codes " N cost" ∷
    codes " L c1" ∷
    codes "COLUMNS" ∷
    codes " x cost -1 c1 1" ∷
    codes " y cost 2 c1 -1" ∷
    codes "RHS" ∷
    codes " c1 -1" ∷
    codes "ENDATA" ∷
    [])

abbrev pub continuing_contents : Contents
continuing_contents = record {
  sense = Min;
  constant = whole 0;
  rows = record { name = codes "c1"; bounds = up_to (minus 1) } ∷ [];
  columns =
      record { name = codes "x"; cost = minus 1; bounds = from (whole 0); entries = entry_of 0 (whole 1) ∷ [] } ∷
      record { name = codes "y"; cost = whole 2; bounds = from (whole 0); entries = entry_of 0 (minus 1) ∷ [] } ∷
      [];
}

-- ---- the form

-- min 2 y - x with x - y <= -1
abbrev pub continuing : Form
continuing = record {
  rows = 1;
  columns = 2;
  entries =
      (whole 1 ∷ []) ∷
      (minus 1 ∷ []) ∷
      [];
  bounds = from (whole 0) ∷ from (whole 0) ∷ up_to (minus 1) ∷ [];
  costs = minus 1 ∷ whole 2 ∷ [];
}

-- ---- the run, worked out apart from the definitions

-- on the form's own bounds
abbrev pub continuing_own_fresh : Fresh
continuing_own_fresh = record {
  values = whole 0 ∷ whole 0 ∷ whole 0 ∷ [];
  reduced = minus 1 ∷ whole 2 ∷ whole 0 ∷ [];
  rows =
      (minus 1 ∷ []) ∷
      [];
  columns =
      (minus 1 ∷ []) ∷
      (whole 1 ∷ []) ∷
      (whole 1 ∷ []) ∷
      [];
}

-- in the boxes
abbrev pub continuing_first_fresh : Fresh
continuing_first_fresh = record {
  values = whole 1 ∷ whole 0 ∷ whole 1 ∷ [];
  reduced = minus 1 ∷ whole 2 ∷ whole 0 ∷ [];
  rows =
      (minus 1 ∷ []) ∷
      [];
  columns =
      (minus 1 ∷ []) ∷
      (whole 1 ∷ []) ∷
      (whole 1 ∷ []) ∷
      [];
}

abbrev pub continuing_first : Reached
continuing_first = record { basis = starting_basis (boxes_of continuing); fresh = continuing_first_fresh; weights = 1 ∷ []; count = 0; rows = row 0 Above (whole 1) (pos 0) ∷ [] }

abbrev pub continuing_minor_1 : Minor
continuing_minor_1 = record {
  reached = continuing_first;
  dropped = [];
  row = row 0 Above (whole 1) (pos 0);
  step = record { place = 0; leaving = 2; side = Above; entering = 0; tau = whole 1; flips = [] };
}

abbrev pub continuing_second_basis : Basis
continuing_second_basis = record { head = 0 ∷ []; stands = Basic ∷ Lower ∷ Upper ∷ [] }

abbrev pub continuing_second_fresh : Fresh
continuing_second_fresh = record {
  values = whole 0 ∷ whole 0 ∷ whole 0 ∷ [];
  reduced = whole 0 ∷ whole 1 ∷ minus 1 ∷ [];
  rows =
      (whole 1 ∷ []) ∷
      [];
  columns =
      (whole 1 ∷ []) ∷
      (minus 1 ∷ []) ∷
      (minus 1 ∷ []) ∷
      [];
}

abbrev pub continuing_second : Reached
continuing_second = record { basis = continuing_second_basis; fresh = continuing_second_fresh; weights = 1 ∷ []; count = 1; rows = [] }

abbrev pub continuing_major_1 : Major
continuing_major_1 = record { number = 1; mode = Full; first = continuing_first; minors = continuing_minor_1 ∷ []; last = continuing_second }

-- behind the switch: the row stands at its own bound, -1
abbrev pub continuing_third_fresh : Fresh
continuing_third_fresh = record {
  values = minus 1 ∷ whole 0 ∷ minus 1 ∷ [];
  reduced = whole 0 ∷ whole 1 ∷ minus 1 ∷ [];
  rows =
      (whole 1 ∷ []) ∷
      [];
  columns =
      (whole 1 ∷ []) ∷
      (minus 1 ∷ []) ∷
      (minus 1 ∷ []) ∷
      [];
}

-- with the factor of the switch, which has no pivots
abbrev pub continuing_state : State
continuing_state = record {
  basis = continuing_second_basis;
  weights = 1 ∷ [];
  count = 1;
  history = Some (record { head = 0 ∷ []; pivots = [] });
}

abbrev pub continuing_third : Reached
continuing_third = record { basis = continuing_second_basis; fresh = continuing_third_fresh; weights = 1 ∷ []; count = 1; rows = row 0 Below (whole 1) (pos 0) ∷ [] }

abbrev pub continuing_minor_2 : Minor
continuing_minor_2 = record {
  reached = continuing_third;
  dropped = [];
  row = row 0 Below (whole 1) (pos 0);
  step = record { place = 0; leaving = 0; side = Below; entering = 1; tau = whole 1; flips = [] };
}

abbrev pub continuing_fourth_basis : Basis
continuing_fourth_basis = record { head = 1 ∷ []; stands = Lower ∷ Basic ∷ Upper ∷ [] }

abbrev pub continuing_fourth_fresh : Fresh
continuing_fourth_fresh = record {
  values = whole 0 ∷ whole 1 ∷ minus 1 ∷ [];
  reduced = whole 1 ∷ whole 0 ∷ minus 2 ∷ [];
  rows =
      (minus 1 ∷ []) ∷
      [];
  columns =
      (minus 1 ∷ []) ∷
      (whole 1 ∷ []) ∷
      (whole 1 ∷ []) ∷
      [];
}

abbrev pub continuing_fourth : Reached
continuing_fourth = record { basis = continuing_fourth_basis; fresh = continuing_fourth_fresh; weights = 1 ∷ []; count = 2; rows = [] }

abbrev pub continuing_major_2 : Major
continuing_major_2 = record { number = 2; mode = Full; first = continuing_third; minors = continuing_minor_2 ∷ []; last = continuing_fourth }

abbrev pub continuing_record : Record
continuing_record = record { phase_one = in_boxes continuing (continuing_major_1 ∷ []); phase_two = on_form continuing continuing_state (continuing_major_2 ∷ []) }

-- ---- the answer

-- the factor of the switch, with the pivot of the second major
abbrev pub continuing_end : State
continuing_end = record {
  basis = continuing_fourth_basis;
  weights = 1 ∷ [];
  count = 2;
  history = Some (record { head = 0 ∷ []; pivots = record { place = 0; column = minus 1 ∷ [] } ∷ [] });
}

abbrev pub continuing_answer : Answer
continuing_answer = Optimal continuing_end continuing_fourth_fresh

-- ---- the text

abbrev pub continuing_named : Named
continuing_named = named_of continuing_contents

abbrev pub continuing_text : List ℕ
continuing_text = by_lines (
    codes "pami 1" ∷
    codes "model 1 2 2" ∷
    codes "phase 1" ∷
    codes "major 1 full 0" ∷
    codes "pivot 1 0 r:c1 U x:x 1" ∷
    codes "phase 2" ∷
    codes "major 2 full 0" ∷
    codes "pivot 2 0 x:x L x:y 1" ∷
    codes "answer optimal" ∷
    codes "certificate 1 optimal" ∷
    codes "objective 2" ∷
    codes "x x 0 1" ∷
    codes "x y 1 0" ∷
    codes "r c1 -1 -2" ∷
    codes "end" ∷
    codes "basis LB U" ∷
    [])
