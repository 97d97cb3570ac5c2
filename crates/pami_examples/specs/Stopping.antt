-- Two rows pivot, and no variable enters for the third: nothing is collected, and the third row proves infeasibility.
-- With a limit of one pivot the batch stops behind the first. The upper bound of z can't be said in a file yet.
use Rattle.std.specs.Prelude.{[], ◌∷◌, ℕ, List, codes}
use lib.IntN.{pos}
use Rattle.pami_theory.specs.Form.{Form}
use Rattle.pami_theory.specs.declared.words.Stand.TheVariants.{Basic, Lower}
use Rattle.pami_theory.specs.Basis.{Basis}
use Rattle.pami_theory.specs.Boxes.{between}
use Rattle.pami_theory.specs.Fresh.{Fresh}
use Rattle.pami_theory.specs.Start.{starting_basis}
use Rattle.pami_theory.specs.declared.words.Side.TheVariants.{Below}
use Rattle.pami_method.specs.Batch.{Reached, Minor}
use Rattle.pami_method.specs.declared.words.Mode.TheVariants.{Full}
use Rattle.pami_method.specs.Walk.{Major, state_after}
use Rattle.pami_method.specs.Phases.{Record, Answer, starting_state, Infeasible, Limit}
use Rattle.pami_lines.specs.Certificate.{Named}
use Rattle.pami_examples.specs.Words.{whole, minus, from, row, limited, tried, by_lines, named}

-- ---- the form

-- min x + y + z with x >= 32, y >= 16, z >= 4 and z <= 1
abbrev pub stopping : Form
stopping = record {
  rows = 3;
  columns = 3;
  entries =
      (whole 1 ∷ whole 0 ∷ whole 0 ∷ []) ∷
      (whole 0 ∷ whole 1 ∷ whole 0 ∷ []) ∷
      (whole 0 ∷ whole 0 ∷ whole 1 ∷ []) ∷
      [];
  bounds = from (whole 0) ∷ from (whole 0) ∷ between (whole 0) (whole 1) ∷ from (whole 32) ∷ from (whole 16) ∷ from (whole 4) ∷ [];
  costs = whole 1 ∷ whole 1 ∷ whole 1 ∷ [];
}

-- ---- the run, worked out apart from the definitions

abbrev pub stopping_first_fresh : Fresh
stopping_first_fresh = record {
  values = whole 0 ∷ whole 0 ∷ whole 0 ∷ whole 0 ∷ whole 0 ∷ whole 0 ∷ [];
  reduced = whole 1 ∷ whole 1 ∷ whole 1 ∷ whole 0 ∷ whole 0 ∷ whole 0 ∷ [];
  rows =
      (minus 1 ∷ whole 0 ∷ whole 0 ∷ []) ∷
      (whole 0 ∷ minus 1 ∷ whole 0 ∷ []) ∷
      (whole 0 ∷ whole 0 ∷ minus 1 ∷ []) ∷
      [];
  columns =
      (minus 1 ∷ whole 0 ∷ whole 0 ∷ []) ∷
      (whole 0 ∷ minus 1 ∷ whole 0 ∷ []) ∷
      (whole 0 ∷ whole 0 ∷ minus 1 ∷ []) ∷
      (whole 1 ∷ whole 0 ∷ whole 0 ∷ []) ∷
      (whole 0 ∷ whole 1 ∷ whole 0 ∷ []) ∷
      (whole 0 ∷ whole 0 ∷ whole 1 ∷ []) ∷
      [];
}

abbrev pub stopping_first : Reached
stopping_first = record { basis = starting_basis stopping; fresh = stopping_first_fresh; weights = 1 ∷ 1 ∷ 1 ∷ []; count = 0; rows = row 0 Below (whole 32) (pos 10) ∷ row 1 Below (whole 16) (pos 8) ∷ row 2 Below (whole 4) (pos 4) ∷ [] }

abbrev pub stopping_minor_1 : Minor
stopping_minor_1 = record {
  reached = stopping_first;
  dropped = [];
  row = row 0 Below (whole 32) (pos 10);
  step = record { place = 0; leaving = 3; side = Below; entering = 0; tau = whole 1; flips = [] };
}

abbrev pub stopping_second_basis : Basis
stopping_second_basis = record { head = 0 ∷ 4 ∷ 5 ∷ []; stands = Basic ∷ Lower ∷ Lower ∷ Lower ∷ Basic ∷ Basic ∷ [] }

abbrev pub stopping_second_fresh : Fresh
stopping_second_fresh = record {
  values = whole 32 ∷ whole 0 ∷ whole 0 ∷ whole 32 ∷ whole 0 ∷ whole 0 ∷ [];
  reduced = whole 0 ∷ whole 1 ∷ whole 1 ∷ whole 1 ∷ whole 0 ∷ whole 0 ∷ [];
  rows =
      (whole 1 ∷ whole 0 ∷ whole 0 ∷ []) ∷
      (whole 0 ∷ minus 1 ∷ whole 0 ∷ []) ∷
      (whole 0 ∷ whole 0 ∷ minus 1 ∷ []) ∷
      [];
  columns =
      (whole 1 ∷ whole 0 ∷ whole 0 ∷ []) ∷
      (whole 0 ∷ minus 1 ∷ whole 0 ∷ []) ∷
      (whole 0 ∷ whole 0 ∷ minus 1 ∷ []) ∷
      (minus 1 ∷ whole 0 ∷ whole 0 ∷ []) ∷
      (whole 0 ∷ whole 1 ∷ whole 0 ∷ []) ∷
      (whole 0 ∷ whole 0 ∷ whole 1 ∷ []) ∷
      [];
}

abbrev pub stopping_second : Reached
stopping_second = record { basis = stopping_second_basis; fresh = stopping_second_fresh; weights = 1 ∷ 1 ∷ 1 ∷ []; count = 1; rows = row 1 Below (whole 16) (pos 8) ∷ row 2 Below (whole 4) (pos 4) ∷ [] }

abbrev pub stopping_minor_2 : Minor
stopping_minor_2 = record {
  reached = stopping_second;
  dropped = [];
  row = row 1 Below (whole 16) (pos 8);
  step = record { place = 1; leaving = 4; side = Below; entering = 1; tau = whole 1; flips = [] };
}

abbrev pub stopping_third_basis : Basis
stopping_third_basis = record { head = 0 ∷ 1 ∷ 5 ∷ []; stands = Basic ∷ Basic ∷ Lower ∷ Lower ∷ Lower ∷ Basic ∷ [] }

abbrev pub stopping_third_fresh : Fresh
stopping_third_fresh = record {
  values = whole 32 ∷ whole 16 ∷ whole 0 ∷ whole 32 ∷ whole 16 ∷ whole 0 ∷ [];
  reduced = whole 0 ∷ whole 0 ∷ whole 1 ∷ whole 1 ∷ whole 1 ∷ whole 0 ∷ [];
  rows =
      (whole 1 ∷ whole 0 ∷ whole 0 ∷ []) ∷
      (whole 0 ∷ whole 1 ∷ whole 0 ∷ []) ∷
      (whole 0 ∷ whole 0 ∷ minus 1 ∷ []) ∷
      [];
  columns =
      (whole 1 ∷ whole 0 ∷ whole 0 ∷ []) ∷
      (whole 0 ∷ whole 1 ∷ whole 0 ∷ []) ∷
      (whole 0 ∷ whole 0 ∷ minus 1 ∷ []) ∷
      (minus 1 ∷ whole 0 ∷ whole 0 ∷ []) ∷
      (whole 0 ∷ minus 1 ∷ whole 0 ∷ []) ∷
      (whole 0 ∷ whole 0 ∷ whole 1 ∷ []) ∷
      [];
}

abbrev pub stopping_third : Reached
stopping_third = record { basis = stopping_third_basis; fresh = stopping_third_fresh; weights = 1 ∷ 1 ∷ 1 ∷ []; count = 2; rows = row 2 Below (whole 4) (pos 4) ∷ [] }

abbrev pub stopping_major : Major
stopping_major = record { number = 1; mode = Full; first = stopping_first; minors = stopping_minor_1 ∷ stopping_minor_2 ∷ []; last = stopping_third }

-- the same major with a limit of one pivot
abbrev pub stopping_limited_major : Major
stopping_limited_major = record { number = 1; mode = Full; first = stopping_first; minors = stopping_minor_1 ∷ []; last = stopping_second }

-- ---- the answer

abbrev pub stopping_record : Record
stopping_record = tried stopping (stopping_major ∷ [])

abbrev pub stopping_answer : Answer
stopping_answer = Infeasible (whole 0 ∷ whole 0 ∷ whole 1 ∷ [])

abbrev pub stopping_limited_record : Record
stopping_limited_record = tried stopping (stopping_limited_major ∷ [])

abbrev pub stopping_limited_answer : Answer
stopping_limited_answer = Limit (state_after limited (starting_state stopping) stopping_limited_major)

-- ---- the text

abbrev pub stopping_named : Named
stopping_named = named stopping 3 (codes "x" ∷ codes "y" ∷ codes "z" ∷ []) (codes "c1" ∷ codes "c2" ∷ codes "c3" ∷ [])

abbrev pub stopping_text : List ℕ
stopping_text = by_lines (
    codes "pami 1" ∷
    codes "model 3 3 3" ∷
    codes "phase 2" ∷
    codes "major 1 full 0 1 2" ∷
    codes "pivot 1 0 r:c1 L x:x 1" ∷
    codes "pivot 2 1 r:c2 L x:y 1" ∷
    codes "none 2 r:c3" ∷
    codes "answer infeasible" ∷
    codes "certificate 1 infeasible" ∷
    codes "r c1 0" ∷
    codes "r c2 0" ∷
    codes "r c3 1" ∷
    codes "end" ∷
    [])

abbrev pub stopping_limited_text : List ℕ
stopping_limited_text = by_lines (
    codes "pami 1" ∷
    codes "model 3 3 3" ∷
    codes "phase 2" ∷
    codes "major 1 full 0 1 2" ∷
    codes "pivot 1 0 r:c1 L x:x 1" ∷
    codes "answer limit 1" ∷
    codes "basis BLL LBB" ∷
    [])
