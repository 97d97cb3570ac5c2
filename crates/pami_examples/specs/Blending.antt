-- Three of five rows leave in the order of merit; in the second minor a boxed variable is flipped.
-- The upper bound of b can't be said in a file yet.
use Rattle.std.specs.Prelude.{[], ◌∷◌, ℕ, List, codes}
use lib.IntN.{pos}
use Rattle.pami_theory.specs.Form.{Form}
use Rattle.pami_theory.specs.declared.words.Stand.TheVariants.{Basic, Lower, Upper}
use Rattle.pami_theory.specs.Basis.{Basis}
use Rattle.pami_theory.specs.Boxes.{between}
use Rattle.pami_theory.specs.Fresh.{Fresh}
use Rattle.pami_theory.specs.Start.{starting_basis}
use Rattle.pami_theory.specs.declared.words.Side.TheVariants.{Below}
use Rattle.pami_method.specs.Batch.{Reached, Minor}
use Rattle.pami_method.specs.declared.words.Mode.TheVariants.{Full}
use Rattle.pami_method.specs.Walk.{Major}
use Rattle.pami_method.specs.Phases.{Record, Answer, Optimal}
use Rattle.pami_lines.specs.Certificate.{Named}
use Rattle.pami_examples.specs.Words.{whole, minus, part, minus_part, from, up_to, row, tried, behind, by_lines, named}

-- ---- the form

-- min 3 a + 2 b + 4 c + 5 d + 1.5 e + 2 f with a + b >= 10, c + 0.25 d >= 4, a + c <= 20, b + d + e <= 80, 1.06 e + f >= 53 and b <= 6
abbrev pub blending : Form
blending = record {
  rows = 5;
  columns = 6;
  entries =
      (whole 1 ∷ whole 0 ∷ whole 1 ∷ whole 0 ∷ whole 0 ∷ []) ∷
      (whole 1 ∷ whole 0 ∷ whole 0 ∷ whole 1 ∷ whole 0 ∷ []) ∷
      (whole 0 ∷ whole 1 ∷ whole 1 ∷ whole 0 ∷ whole 0 ∷ []) ∷
      (whole 0 ∷ part 1 4 ∷ whole 0 ∷ whole 1 ∷ whole 0 ∷ []) ∷
      (whole 0 ∷ whole 0 ∷ whole 0 ∷ whole 1 ∷ part 53 50 ∷ []) ∷
      (whole 0 ∷ whole 0 ∷ whole 0 ∷ whole 0 ∷ whole 1 ∷ []) ∷
      [];
  bounds = from (whole 0) ∷ between (whole 0) (whole 6) ∷ from (whole 0) ∷ from (whole 0) ∷ from (whole 0) ∷ from (whole 0) ∷ from (whole 10) ∷ from (whole 4) ∷ up_to (whole 20) ∷ up_to (whole 80) ∷ from (whole 53) ∷ [];
  costs = whole 3 ∷ whole 2 ∷ whole 4 ∷ whole 5 ∷ part 3 2 ∷ whole 2 ∷ [];
}

-- ---- the run, worked out apart from the definitions

abbrev pub blending_first_fresh : Fresh
blending_first_fresh = record {
  values = whole 0 ∷ whole 0 ∷ whole 0 ∷ whole 0 ∷ whole 0 ∷ whole 0 ∷ whole 0 ∷ whole 0 ∷ whole 0 ∷ whole 0 ∷ whole 0 ∷ [];
  reduced = whole 3 ∷ whole 2 ∷ whole 4 ∷ whole 5 ∷ part 3 2 ∷ whole 2 ∷ whole 0 ∷ whole 0 ∷ whole 0 ∷ whole 0 ∷ whole 0 ∷ [];
  rows =
      (minus 1 ∷ whole 0 ∷ whole 0 ∷ whole 0 ∷ whole 0 ∷ []) ∷
      (whole 0 ∷ minus 1 ∷ whole 0 ∷ whole 0 ∷ whole 0 ∷ []) ∷
      (whole 0 ∷ whole 0 ∷ minus 1 ∷ whole 0 ∷ whole 0 ∷ []) ∷
      (whole 0 ∷ whole 0 ∷ whole 0 ∷ minus 1 ∷ whole 0 ∷ []) ∷
      (whole 0 ∷ whole 0 ∷ whole 0 ∷ whole 0 ∷ minus 1 ∷ []) ∷
      [];
  columns =
      (minus 1 ∷ whole 0 ∷ minus 1 ∷ whole 0 ∷ whole 0 ∷ []) ∷
      (minus 1 ∷ whole 0 ∷ whole 0 ∷ minus 1 ∷ whole 0 ∷ []) ∷
      (whole 0 ∷ minus 1 ∷ minus 1 ∷ whole 0 ∷ whole 0 ∷ []) ∷
      (whole 0 ∷ minus_part 1 4 ∷ whole 0 ∷ minus 1 ∷ whole 0 ∷ []) ∷
      (whole 0 ∷ whole 0 ∷ whole 0 ∷ minus 1 ∷ minus_part 53 50 ∷ []) ∷
      (whole 0 ∷ whole 0 ∷ whole 0 ∷ whole 0 ∷ minus 1 ∷ []) ∷
      (whole 1 ∷ whole 0 ∷ whole 0 ∷ whole 0 ∷ whole 0 ∷ []) ∷
      (whole 0 ∷ whole 1 ∷ whole 0 ∷ whole 0 ∷ whole 0 ∷ []) ∷
      (whole 0 ∷ whole 0 ∷ whole 1 ∷ whole 0 ∷ whole 0 ∷ []) ∷
      (whole 0 ∷ whole 0 ∷ whole 0 ∷ whole 1 ∷ whole 0 ∷ []) ∷
      (whole 0 ∷ whole 0 ∷ whole 0 ∷ whole 0 ∷ whole 1 ∷ []) ∷
      [];
}

abbrev pub blending_first : Reached
blending_first = record { basis = starting_basis blending; fresh = blending_first_fresh; weights = 1 ∷ 1 ∷ 1 ∷ 1 ∷ 1 ∷ []; count = 0; rows = row 4 Below (whole 53) (pos 10) ∷ row 0 Below (whole 10) (pos 6) ∷ row 1 Below (whole 4) (pos 4) ∷ [] }

abbrev pub blending_minor_1 : Minor
blending_minor_1 = record {
  reached = blending_first;
  dropped = [];
  row = row 4 Below (whole 53) (pos 10);
  step = record { place = 4; leaving = 10; side = Below; entering = 4; tau = part 75 53; flips = [] };
}

abbrev pub blending_second_basis : Basis
blending_second_basis = record { head = 6 ∷ 7 ∷ 8 ∷ 9 ∷ 4 ∷ []; stands = Lower ∷ Lower ∷ Lower ∷ Lower ∷ Basic ∷ Lower ∷ Basic ∷ Basic ∷ Basic ∷ Basic ∷ Lower ∷ [] }

abbrev pub blending_second_fresh : Fresh
blending_second_fresh = record {
  values = whole 0 ∷ whole 0 ∷ whole 0 ∷ whole 0 ∷ whole 50 ∷ whole 0 ∷ whole 0 ∷ whole 0 ∷ whole 0 ∷ whole 50 ∷ whole 53 ∷ [];
  reduced = whole 3 ∷ whole 2 ∷ whole 4 ∷ whole 5 ∷ whole 0 ∷ part 31 53 ∷ whole 0 ∷ whole 0 ∷ whole 0 ∷ whole 0 ∷ part 75 53 ∷ [];
  rows =
      (minus 1 ∷ whole 0 ∷ whole 0 ∷ whole 0 ∷ whole 0 ∷ []) ∷
      (whole 0 ∷ minus 1 ∷ whole 0 ∷ whole 0 ∷ whole 0 ∷ []) ∷
      (whole 0 ∷ whole 0 ∷ minus 1 ∷ whole 0 ∷ whole 0 ∷ []) ∷
      (whole 0 ∷ whole 0 ∷ whole 0 ∷ minus 1 ∷ part 50 53 ∷ []) ∷
      (whole 0 ∷ whole 0 ∷ whole 0 ∷ whole 0 ∷ part 50 53 ∷ []) ∷
      [];
  columns =
      (minus 1 ∷ whole 0 ∷ minus 1 ∷ whole 0 ∷ whole 0 ∷ []) ∷
      (minus 1 ∷ whole 0 ∷ whole 0 ∷ minus 1 ∷ whole 0 ∷ []) ∷
      (whole 0 ∷ minus 1 ∷ minus 1 ∷ whole 0 ∷ whole 0 ∷ []) ∷
      (whole 0 ∷ minus_part 1 4 ∷ whole 0 ∷ minus 1 ∷ whole 0 ∷ []) ∷
      (whole 0 ∷ whole 0 ∷ whole 0 ∷ whole 0 ∷ whole 1 ∷ []) ∷
      (whole 0 ∷ whole 0 ∷ whole 0 ∷ part 50 53 ∷ part 50 53 ∷ []) ∷
      (whole 1 ∷ whole 0 ∷ whole 0 ∷ whole 0 ∷ whole 0 ∷ []) ∷
      (whole 0 ∷ whole 1 ∷ whole 0 ∷ whole 0 ∷ whole 0 ∷ []) ∷
      (whole 0 ∷ whole 0 ∷ whole 1 ∷ whole 0 ∷ whole 0 ∷ []) ∷
      (whole 0 ∷ whole 0 ∷ whole 0 ∷ whole 1 ∷ whole 0 ∷ []) ∷
      (whole 0 ∷ whole 0 ∷ whole 0 ∷ minus_part 50 53 ∷ minus_part 50 53 ∷ []) ∷
      [];
}

abbrev pub blending_second : Reached
blending_second = record { basis = blending_second_basis; fresh = blending_second_fresh; weights = 1 ∷ 1 ∷ 1 ∷ 1 ∷ 1 ∷ []; count = 1; rows = row 0 Below (whole 10) (pos 6) ∷ row 1 Below (whole 4) (pos 4) ∷ [] }

abbrev pub blending_minor_2 : Minor
blending_minor_2 = record {
  reached = blending_second;
  dropped = [];
  row = row 0 Below (whole 10) (pos 6);
  step = record { place = 0; leaving = 6; side = Below; entering = 0; tau = whole 3; flips = 1 ∷ [] };
}

abbrev pub blending_third_basis : Basis
blending_third_basis = record { head = 0 ∷ 7 ∷ 8 ∷ 9 ∷ 4 ∷ []; stands = Basic ∷ Upper ∷ Lower ∷ Lower ∷ Basic ∷ Lower ∷ Lower ∷ Basic ∷ Basic ∷ Basic ∷ Lower ∷ [] }

abbrev pub blending_third_fresh : Fresh
blending_third_fresh = record {
  values = whole 4 ∷ whole 6 ∷ whole 0 ∷ whole 0 ∷ whole 50 ∷ whole 0 ∷ whole 10 ∷ whole 0 ∷ whole 4 ∷ whole 56 ∷ whole 53 ∷ [];
  reduced = whole 0 ∷ minus 1 ∷ whole 4 ∷ whole 5 ∷ whole 0 ∷ part 31 53 ∷ whole 3 ∷ whole 0 ∷ whole 0 ∷ whole 0 ∷ part 75 53 ∷ [];
  rows =
      (whole 1 ∷ whole 0 ∷ whole 0 ∷ whole 0 ∷ whole 0 ∷ []) ∷
      (whole 0 ∷ minus 1 ∷ whole 0 ∷ whole 0 ∷ whole 0 ∷ []) ∷
      (whole 1 ∷ whole 0 ∷ minus 1 ∷ whole 0 ∷ whole 0 ∷ []) ∷
      (whole 0 ∷ whole 0 ∷ whole 0 ∷ minus 1 ∷ part 50 53 ∷ []) ∷
      (whole 0 ∷ whole 0 ∷ whole 0 ∷ whole 0 ∷ part 50 53 ∷ []) ∷
      [];
  columns =
      (whole 1 ∷ whole 0 ∷ whole 0 ∷ whole 0 ∷ whole 0 ∷ []) ∷
      (whole 1 ∷ whole 0 ∷ whole 1 ∷ minus 1 ∷ whole 0 ∷ []) ∷
      (whole 0 ∷ minus 1 ∷ minus 1 ∷ whole 0 ∷ whole 0 ∷ []) ∷
      (whole 0 ∷ minus_part 1 4 ∷ whole 0 ∷ minus 1 ∷ whole 0 ∷ []) ∷
      (whole 0 ∷ whole 0 ∷ whole 0 ∷ whole 0 ∷ whole 1 ∷ []) ∷
      (whole 0 ∷ whole 0 ∷ whole 0 ∷ part 50 53 ∷ part 50 53 ∷ []) ∷
      (minus 1 ∷ whole 0 ∷ minus 1 ∷ whole 0 ∷ whole 0 ∷ []) ∷
      (whole 0 ∷ whole 1 ∷ whole 0 ∷ whole 0 ∷ whole 0 ∷ []) ∷
      (whole 0 ∷ whole 0 ∷ whole 1 ∷ whole 0 ∷ whole 0 ∷ []) ∷
      (whole 0 ∷ whole 0 ∷ whole 0 ∷ whole 1 ∷ whole 0 ∷ []) ∷
      (whole 0 ∷ whole 0 ∷ whole 0 ∷ minus_part 50 53 ∷ minus_part 50 53 ∷ []) ∷
      [];
}

abbrev pub blending_third : Reached
blending_third = record { basis = blending_third_basis; fresh = blending_third_fresh; weights = 1 ∷ 1 ∷ 1 ∷ 1 ∷ 1 ∷ []; count = 2; rows = row 1 Below (whole 4) (pos 4) ∷ [] }

abbrev pub blending_minor_3 : Minor
blending_minor_3 = record {
  reached = blending_third;
  dropped = [];
  row = row 1 Below (whole 4) (pos 4);
  step = record { place = 1; leaving = 7; side = Below; entering = 2; tau = whole 4; flips = [] };
}

abbrev pub blending_fourth_basis : Basis
blending_fourth_basis = record { head = 0 ∷ 2 ∷ 8 ∷ 9 ∷ 4 ∷ []; stands = Basic ∷ Upper ∷ Basic ∷ Lower ∷ Basic ∷ Lower ∷ Lower ∷ Lower ∷ Basic ∷ Basic ∷ Lower ∷ [] }

abbrev pub blending_fourth_fresh : Fresh
blending_fourth_fresh = record {
  values = whole 4 ∷ whole 6 ∷ whole 4 ∷ whole 0 ∷ whole 50 ∷ whole 0 ∷ whole 10 ∷ whole 4 ∷ whole 8 ∷ whole 56 ∷ whole 53 ∷ [];
  reduced = whole 0 ∷ minus 1 ∷ whole 0 ∷ whole 4 ∷ whole 0 ∷ part 31 53 ∷ whole 3 ∷ whole 4 ∷ whole 0 ∷ whole 0 ∷ part 75 53 ∷ [];
  rows =
      (whole 1 ∷ whole 0 ∷ whole 0 ∷ whole 0 ∷ whole 0 ∷ []) ∷
      (whole 0 ∷ whole 1 ∷ whole 0 ∷ whole 0 ∷ whole 0 ∷ []) ∷
      (whole 1 ∷ whole 1 ∷ minus 1 ∷ whole 0 ∷ whole 0 ∷ []) ∷
      (whole 0 ∷ whole 0 ∷ whole 0 ∷ minus 1 ∷ part 50 53 ∷ []) ∷
      (whole 0 ∷ whole 0 ∷ whole 0 ∷ whole 0 ∷ part 50 53 ∷ []) ∷
      [];
  columns =
      (whole 1 ∷ whole 0 ∷ whole 0 ∷ whole 0 ∷ whole 0 ∷ []) ∷
      (whole 1 ∷ whole 0 ∷ whole 1 ∷ minus 1 ∷ whole 0 ∷ []) ∷
      (whole 0 ∷ whole 1 ∷ whole 0 ∷ whole 0 ∷ whole 0 ∷ []) ∷
      (whole 0 ∷ part 1 4 ∷ part 1 4 ∷ minus 1 ∷ whole 0 ∷ []) ∷
      (whole 0 ∷ whole 0 ∷ whole 0 ∷ whole 0 ∷ whole 1 ∷ []) ∷
      (whole 0 ∷ whole 0 ∷ whole 0 ∷ part 50 53 ∷ part 50 53 ∷ []) ∷
      (minus 1 ∷ whole 0 ∷ minus 1 ∷ whole 0 ∷ whole 0 ∷ []) ∷
      (whole 0 ∷ minus 1 ∷ minus 1 ∷ whole 0 ∷ whole 0 ∷ []) ∷
      (whole 0 ∷ whole 0 ∷ whole 1 ∷ whole 0 ∷ whole 0 ∷ []) ∷
      (whole 0 ∷ whole 0 ∷ whole 0 ∷ whole 1 ∷ whole 0 ∷ []) ∷
      (whole 0 ∷ whole 0 ∷ whole 0 ∷ minus_part 50 53 ∷ minus_part 50 53 ∷ []) ∷
      [];
}

abbrev pub blending_fourth : Reached
blending_fourth = record { basis = blending_fourth_basis; fresh = blending_fourth_fresh; weights = 1 ∷ 1 ∷ 1 ∷ 1 ∷ 1 ∷ []; count = 3; rows = [] }

abbrev pub blending_major : Major
blending_major = record { number = 1; mode = Full; first = blending_first; minors = blending_minor_1 ∷ blending_minor_2 ∷ blending_minor_3 ∷ []; last = blending_fourth }

-- ---- the answer

abbrev pub blending_record : Record
blending_record = tried blending (blending_major ∷ [])

abbrev pub blending_answer : Answer
blending_answer = Optimal (behind blending blending_major) blending_fourth_fresh

-- ---- the text

abbrev pub blending_named : Named
blending_named = named blending 11 (codes "a" ∷ codes "b" ∷ codes "c" ∷ codes "d" ∷ codes "e" ∷ codes "f" ∷ []) (codes "demand1" ∷ codes "demand2" ∷ codes "cap1" ∷ codes "cap2" ∷ codes "stock" ∷ [])

abbrev pub blending_text : List ℕ
blending_text = by_lines (
    codes "pami 1" ∷
    codes "model 5 6 11" ∷
    codes "phase 2" ∷
    codes "major 1 full 4 0 1" ∷
    codes "pivot 1 4 r:stock L x:e 75/53" ∷
    codes "flip x:b U" ∷
    codes "pivot 2 0 r:demand1 L x:a 3" ∷
    codes "pivot 3 1 r:demand2 L x:c 4" ∷
    codes "answer optimal" ∷
    codes "certificate 1 optimal" ∷
    codes "objective 115" ∷
    codes "x a 4 0" ∷
    codes "x b 6 -1" ∷
    codes "x c 4 0" ∷
    codes "x d 0 4" ∷
    codes "x e 50 0" ∷
    codes "x f 0 31/53" ∷
    codes "r demand1 10 3" ∷
    codes "r demand2 4 4" ∷
    codes "r cap1 8 0" ∷
    codes "r cap2 56 0" ∷
    codes "r stock 53 75/53" ∷
    codes "end" ∷
    codes "basis BUBLBL LLBBL" ∷
    [])
