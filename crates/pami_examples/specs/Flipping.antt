-- A variable is flipped at the first pivot and enters at the second. Its upper bound can't be said in a file yet.
use Rattle.std.specs.Prelude.{[], ◌∷◌, ℕ, List, codes}
use lib.IntN.{pos}
use Rattle.pami_theory.specs.Form.{Form}
use Rattle.pami_theory.specs.declared.words.Stand.TheVariants.{Basic, Lower, Upper}
use Rattle.pami_theory.specs.Basis.{Basis}
use Rattle.pami_theory.specs.Boxes.{between}
use Rattle.pami_theory.specs.Fresh.{Fresh}
use Rattle.pami_theory.specs.Start.{starting_basis}
use Rattle.pami_theory.specs.declared.words.Side.TheVariants.{Below}
use Rattle.pami_method.specs.Batch.{Reached, Minor}
use Rattle.pami_method.specs.declared.words.Mode.TheVariants.{Full}
use Rattle.pami_method.specs.Walk.{Major}
use Rattle.pami_method.specs.Phases.{Record, Answer, Optimal}
use Rattle.pami_lines.specs.Certificate.{Named}
use Rattle.pami_examples.specs.Words.{whole, minus, part, minus_part, from, row, tried, behind, by_lines, named}

-- ---- the form

-- min x + 2 y + 5 z with x + y >= 3, - x + y + z >= 2 and x <= 1
abbrev pub flipping : Form
flipping = record {
  rows = 2;
  columns = 3;
  entries =
      (whole 1 ∷ minus 1 ∷ []) ∷
      (whole 1 ∷ whole 1 ∷ []) ∷
      (whole 0 ∷ whole 1 ∷ []) ∷
      [];
  bounds = between (whole 0) (whole 1) ∷ from (whole 0) ∷ from (whole 0) ∷ from (whole 3) ∷ from (whole 2) ∷ [];
  costs = whole 1 ∷ whole 2 ∷ whole 5 ∷ [];
}

-- ---- the run, worked out apart from the definitions

abbrev pub flipping_first_fresh : Fresh
flipping_first_fresh = record {
  values = whole 0 ∷ whole 0 ∷ whole 0 ∷ whole 0 ∷ whole 0 ∷ [];
  reduced = whole 1 ∷ whole 2 ∷ whole 5 ∷ whole 0 ∷ whole 0 ∷ [];
  rows =
      (minus 1 ∷ whole 0 ∷ []) ∷
      (whole 0 ∷ minus 1 ∷ []) ∷
      [];
  columns =
      (minus 1 ∷ whole 1 ∷ []) ∷
      (minus 1 ∷ minus 1 ∷ []) ∷
      (whole 0 ∷ minus 1 ∷ []) ∷
      (whole 1 ∷ whole 0 ∷ []) ∷
      (whole 0 ∷ whole 1 ∷ []) ∷
      [];
}

abbrev pub flipping_first : Reached
flipping_first = record { basis = starting_basis flipping; fresh = flipping_first_fresh; weights = 1 ∷ 1 ∷ []; count = 0; rows = row 0 Below (whole 3) (pos 2) ∷ row 1 Below (whole 2) (pos 2) ∷ [] }

abbrev pub flipping_minor_1 : Minor
flipping_minor_1 = record {
  reached = flipping_first;
  dropped = [];
  row = row 0 Below (whole 3) (pos 2);
  step = record { place = 0; leaving = 3; side = Below; entering = 1; tau = whole 2; flips = 0 ∷ [] };
}

abbrev pub flipping_second_basis : Basis
flipping_second_basis = record { head = 1 ∷ 4 ∷ []; stands = Upper ∷ Basic ∷ Lower ∷ Lower ∷ Basic ∷ [] }

abbrev pub flipping_second_fresh : Fresh
flipping_second_fresh = record {
  values = whole 1 ∷ whole 2 ∷ whole 0 ∷ whole 3 ∷ whole 1 ∷ [];
  reduced = minus 1 ∷ whole 0 ∷ whole 5 ∷ whole 2 ∷ whole 0 ∷ [];
  rows =
      (whole 1 ∷ whole 0 ∷ []) ∷
      (whole 1 ∷ minus 1 ∷ []) ∷
      [];
  columns =
      (whole 1 ∷ whole 2 ∷ []) ∷
      (whole 1 ∷ whole 0 ∷ []) ∷
      (whole 0 ∷ minus 1 ∷ []) ∷
      (minus 1 ∷ minus 1 ∷ []) ∷
      (whole 0 ∷ whole 1 ∷ []) ∷
      [];
}

abbrev pub flipping_second : Reached
flipping_second = record { basis = flipping_second_basis; fresh = flipping_second_fresh; weights = 1 ∷ 1 ∷ []; count = 1; rows = row 1 Below (whole 2) (pos 2) ∷ [] }

abbrev pub flipping_minor_2 : Minor
flipping_minor_2 = record {
  reached = flipping_second;
  dropped = [];
  row = row 1 Below (whole 1) (pos 0);
  step = record { place = 1; leaving = 4; side = Below; entering = 0; tau = part 1 2; flips = [] };
}

abbrev pub flipping_third_basis : Basis
flipping_third_basis = record { head = 1 ∷ 0 ∷ []; stands = Basic ∷ Basic ∷ Lower ∷ Lower ∷ Lower ∷ [] }

abbrev pub flipping_third_fresh : Fresh
flipping_third_fresh = record {
  values = part 1 2 ∷ part 5 2 ∷ whole 0 ∷ whole 3 ∷ whole 2 ∷ [];
  reduced = whole 0 ∷ whole 0 ∷ part 9 2 ∷ part 3 2 ∷ part 1 2 ∷ [];
  rows =
      (part 1 2 ∷ part 1 2 ∷ []) ∷
      (part 1 2 ∷ minus_part 1 2 ∷ []) ∷
      [];
  columns =
      (whole 0 ∷ whole 1 ∷ []) ∷
      (whole 1 ∷ whole 0 ∷ []) ∷
      (part 1 2 ∷ minus_part 1 2 ∷ []) ∷
      (minus_part 1 2 ∷ minus_part 1 2 ∷ []) ∷
      (minus_part 1 2 ∷ part 1 2 ∷ []) ∷
      [];
}

abbrev pub flipping_third : Reached
flipping_third = record { basis = flipping_third_basis; fresh = flipping_third_fresh; weights = 1 ∷ 1 ∷ []; count = 2; rows = [] }

abbrev pub flipping_major : Major
flipping_major = record { number = 1; mode = Full; first = flipping_first; minors = flipping_minor_1 ∷ flipping_minor_2 ∷ []; last = flipping_third }

-- ---- the answer

abbrev pub flipping_record : Record
flipping_record = tried flipping (flipping_major ∷ [])

abbrev pub flipping_answer : Answer
flipping_answer = Optimal (behind flipping flipping_major) flipping_third_fresh

-- ---- the text

abbrev pub flipping_named : Named
flipping_named = named flipping 5 (codes "x" ∷ codes "y" ∷ codes "z" ∷ []) (codes "c1" ∷ codes "c2" ∷ [])

abbrev pub flipping_text : List ℕ
flipping_text = by_lines (
    codes "pami 1" ∷
    codes "model 2 3 5" ∷
    codes "phase 2" ∷
    codes "major 1 full 0 1" ∷
    codes "flip x:x U" ∷
    codes "pivot 1 0 r:c1 L x:y 2" ∷
    codes "pivot 2 1 r:c2 L x:x 1/2" ∷
    codes "answer optimal" ∷
    codes "certificate 1 optimal" ∷
    codes "objective 11/2" ∷
    codes "x x 1/2 0" ∷
    codes "x y 5/2 0" ∷
    codes "x z 0 9/2" ∷
    codes "r c1 3 3/2" ∷
    codes "r c2 2 1/2" ∷
    codes "end" ∷
    codes "basis BBL LL" ∷
    [])
