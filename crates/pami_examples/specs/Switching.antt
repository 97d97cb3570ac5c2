-- A start that isn't dual feasible: one pivot in the boxes, and behind the switch no place is infeasible.
-- A maximum can't be said in a file yet.
use Rattle.std.specs.Prelude.{[], ◌∷◌, ℕ, List, codes}
use lib.IntN.{pos}
use Rattle.pami_theory.specs.Form.{Form}
use Rattle.pami_theory.specs.declared.words.Stand.TheVariants.{Basic, Upper}
use Rattle.pami_theory.specs.Basis.{Basis}
use Rattle.pami_theory.specs.Boxes.{boxes_of}
use Rattle.pami_theory.specs.Fresh.{Fresh}
use Rattle.pami_theory.specs.Start.{starting_basis}
use Rattle.pami_theory.specs.declared.words.Side.TheVariants.{Above}
use Rattle.pami_method.specs.Batch.{Reached, Minor}
use Rattle.pami_method.specs.declared.words.Mode.TheVariants.{Full}
use Rattle.pami_method.specs.Walk.{Major, State}
use Rattle.pami_method.specs.Phases.{Record, switched_state, in_boxes, on_form, Answer, Optimal}
use Rattle.pami_linear.specs.Lists.{get}
use Rattle.pami_lines.specs.Certificate.{Named}
use Rattle.pami_examples.specs.Words.{whole, minus, from, up_to, row, by_lines, named}

-- ---- the form

-- max x with x <= 3, as minimised
abbrev pub switching : Form
switching = record {
  rows = 1;
  columns = 1;
  entries =
      (whole 1 ∷ []) ∷
      [];
  bounds = from (whole 0) ∷ up_to (whole 3) ∷ [];
  costs = minus 1 ∷ [];
}

-- ---- the run, worked out apart from the definitions

-- on the form's own bounds
abbrev pub switching_own_fresh : Fresh
switching_own_fresh = record {
  values = whole 0 ∷ whole 0 ∷ [];
  reduced = minus 1 ∷ whole 0 ∷ [];
  rows =
      (minus 1 ∷ []) ∷
      [];
  columns =
      (minus 1 ∷ []) ∷
      (whole 1 ∷ []) ∷
      [];
}

-- in the boxes
abbrev pub switching_first_fresh : Fresh
switching_first_fresh = record {
  values = whole 1 ∷ whole 1 ∷ [];
  reduced = minus 1 ∷ whole 0 ∷ [];
  rows =
      (minus 1 ∷ []) ∷
      [];
  columns =
      (minus 1 ∷ []) ∷
      (whole 1 ∷ []) ∷
      [];
}

abbrev pub switching_first : Reached
switching_first = record { basis = starting_basis (boxes_of switching); fresh = switching_first_fresh; weights = 1 ∷ []; count = 0; rows = row 0 Above (whole 1) (pos 0) ∷ [] }

abbrev pub switching_minor : Minor
switching_minor = record {
  reached = switching_first;
  dropped = [];
  row = row 0 Above (whole 1) (pos 0);
  step = record { place = 0; leaving = 1; side = Above; entering = 0; tau = whole 1; flips = [] };
}

abbrev pub switching_second_basis : Basis
switching_second_basis = record { head = 0 ∷ []; stands = Basic ∷ Upper ∷ [] }

abbrev pub switching_second_fresh : Fresh
switching_second_fresh = record {
  values = whole 0 ∷ whole 0 ∷ [];
  reduced = whole 0 ∷ minus 1 ∷ [];
  rows =
      (whole 1 ∷ []) ∷
      [];
  columns =
      (whole 1 ∷ []) ∷
      (minus 1 ∷ []) ∷
      [];
}

abbrev pub switching_second : Reached
switching_second = record { basis = switching_second_basis; fresh = switching_second_fresh; weights = 1 ∷ []; count = 1; rows = [] }

abbrev pub switching_major : Major
switching_major = record { number = 1; mode = Full; first = switching_first; minors = switching_minor ∷ []; last = switching_second }

-- behind the switch
abbrev pub switching_third_fresh : Fresh
switching_third_fresh = record {
  values = whole 3 ∷ whole 3 ∷ [];
  reduced = whole 0 ∷ minus 1 ∷ [];
  rows =
      (whole 1 ∷ []) ∷
      [];
  columns =
      (whole 1 ∷ []) ∷
      (minus 1 ∷ []) ∷
      [];
}

abbrev pub switching_state : State
switching_state = switched_state switching switching_second_basis 1

abbrev pub switching_record : Record
switching_record = record { phase_one = in_boxes switching (switching_major ∷ []); phase_two = on_form switching switching_state [] }

-- ---- the answer

abbrev pub switching_answer : Answer
switching_answer = Optimal switching_state switching_third_fresh

-- ---- the text

-- its own costs are those of a maximum
abbrev pub switching_named : Named
switching_named = record (named switching 1 (codes "x" ∷ []) (codes "c1" ∷ [])) { cost = get (whole 1 ∷ []) }

abbrev pub switching_text : List ℕ
switching_text = by_lines (
    codes "pami 1" ∷
    codes "model 1 1 1" ∷
    codes "phase 1" ∷
    codes "major 1 full 0" ∷
    codes "pivot 1 0 r:c1 U x:x 1" ∷
    codes "phase 2" ∷
    codes "answer optimal" ∷
    codes "certificate 1 optimal" ∷
    codes "objective 3" ∷
    codes "x x 3 0" ∷
    codes "r c1 3 -1" ∷
    codes "end" ∷
    codes "basis B U" ∷
    [])
