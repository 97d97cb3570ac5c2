-- The last basis of the boxes isn't dual feasible on the form's own bounds.
-- A maximum and a free column can't be said in a file yet.
use Rattle.std.specs.Prelude.{[], ◌∷◌, None, ℕ, List, codes}
use lib.IntN.{pos}
use Rattle.pami_theory.specs.Form.{Form}
use Rattle.pami_theory.specs.declared.words.Stand.TheVariants.{Basic, Upper}
use Rattle.pami_theory.specs.Basis.{Basis}
use Rattle.pami_theory.specs.Boxes.{boxes_of}
use Rattle.pami_theory.specs.Fresh.{Fresh}
use Rattle.pami_theory.specs.Start.{starting_basis}
use Rattle.pami_theory.specs.declared.words.Side.TheVariants.{Above}
use Rattle.pami_method.specs.Batch.{Reached, Minor}
use Rattle.pami_method.specs.declared.words.Mode.TheVariants.{Full}
use Rattle.pami_method.specs.Walk.{Major}
use Rattle.pami_method.specs.Phases.{Record, in_boxes, Answer, DualInfeasible}
use Rattle.pami_linear.specs.Lists.{get}
use Rattle.pami_lines.specs.Certificate.{Named}
use Rattle.pami_examples.specs.Words.{whole, minus, from, up_to, free, row, behind, by_lines, named}

-- ---- the form

-- max x with x - y <= 1 and y free, as minimised
abbrev pub unbounded : Form
unbounded = record {
  rows = 1;
  columns = 2;
  entries =
      (whole 1 ∷ []) ∷
      (minus 1 ∷ []) ∷
      [];
  bounds = from (whole 0) ∷ free ∷ up_to (whole 1) ∷ [];
  costs = minus 1 ∷ whole 0 ∷ [];
}

-- ---- the run, worked out apart from the definitions

-- on the form's own bounds
abbrev pub unbounded_own_fresh : Fresh
unbounded_own_fresh = record {
  values = whole 0 ∷ whole 0 ∷ whole 0 ∷ [];
  reduced = minus 1 ∷ whole 0 ∷ whole 0 ∷ [];
  rows =
      (minus 1 ∷ []) ∷
      [];
  columns =
      (minus 1 ∷ []) ∷
      (whole 1 ∷ []) ∷
      (whole 1 ∷ []) ∷
      [];
}

-- in the boxes
abbrev pub unbounded_first_fresh : Fresh
unbounded_first_fresh = record {
  values = whole 1 ∷ minus 1 ∷ whole 2 ∷ [];
  reduced = minus 1 ∷ whole 0 ∷ whole 0 ∷ [];
  rows =
      (minus 1 ∷ []) ∷
      [];
  columns =
      (minus 1 ∷ []) ∷
      (whole 1 ∷ []) ∷
      (whole 1 ∷ []) ∷
      [];
}

abbrev pub unbounded_first : Reached
unbounded_first = record { basis = starting_basis (boxes_of unbounded); fresh = unbounded_first_fresh; weights = 1 ∷ []; count = 0; rows = row 0 Above (whole 2) (pos 2) ∷ [] }

abbrev pub unbounded_minor : Minor
unbounded_minor = record {
  reached = unbounded_first;
  dropped = [];
  row = row 0 Above (whole 2) (pos 2);
  step = record { place = 0; leaving = 2; side = Above; entering = 1; tau = whole 0; flips = [] };
}

abbrev pub unbounded_second_basis : Basis
unbounded_second_basis = record { head = 1 ∷ []; stands = Upper ∷ Basic ∷ Upper ∷ [] }

abbrev pub unbounded_second_fresh : Fresh
unbounded_second_fresh = record {
  values = whole 1 ∷ whole 1 ∷ whole 0 ∷ [];
  reduced = minus 1 ∷ whole 0 ∷ whole 0 ∷ [];
  rows =
      (minus 1 ∷ []) ∷
      [];
  columns =
      (minus 1 ∷ []) ∷
      (whole 1 ∷ []) ∷
      (whole 1 ∷ []) ∷
      [];
}

abbrev pub unbounded_second : Reached
unbounded_second = record { basis = unbounded_second_basis; fresh = unbounded_second_fresh; weights = 1 ∷ []; count = 1; rows = [] }

abbrev pub unbounded_major : Major
unbounded_major = record { number = 1; mode = Full; first = unbounded_first; minors = unbounded_minor ∷ []; last = unbounded_second }

abbrev pub unbounded_record : Record
unbounded_record = record { phase_one = in_boxes unbounded (unbounded_major ∷ []); phase_two = None }

-- ---- the answer

abbrev pub unbounded_answer : Answer
unbounded_answer = DualInfeasible (behind (boxes_of unbounded) unbounded_major) unbounded_second_fresh

-- ---- the text

-- its own costs are those of a maximum
abbrev pub unbounded_named : Named
unbounded_named = record (named unbounded 2 (codes "x" ∷ codes "y" ∷ []) (codes "c1" ∷ [])) { cost = get (whole 1 ∷ whole 0 ∷ []) }

abbrev pub unbounded_text : List ℕ
unbounded_text = by_lines (
    codes "pami 1" ∷
    codes "model 1 2 2" ∷
    codes "phase 1" ∷
    codes "major 1 full 0" ∷
    codes "pivot 1 0 r:c1 U x:y 0" ∷
    codes "answer dual-infeasible" ∷
    codes "certificate 1 dual-infeasible" ∷
    codes "x x 1" ∷
    codes "x y 1" ∷
    codes "r c1 0" ∷
    codes "end" ∷
    [])
