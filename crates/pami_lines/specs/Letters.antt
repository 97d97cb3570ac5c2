-- The letters of variables by how they stand, and the line of a basis.
use Rattle.std.specs.Prelude.{ℕ, ◌+◌, zero, suc, List, [], ◌∷◌, map, codes}
use Rattle.pami_theory.specs.declared.words.Stand.{Stand}
use Rattle.pami_theory.specs.declared.words.Stand.TheVariants.{Basic, Lower, Upper, Zero}
use Rattle.pami_lines.specs.Head.{Counts}

abbrev pub letter : Stand → ℕ
letter Basic = 66
letter Lower = 76
letter Upper = 85
letter Zero = 90

abbrev pub letter_word : Stand → List ℕ
letter_word s = letter s ∷ []

-- the letters of these variables, or a dash for none
abbrev pub letters : List Stand → List ℕ
letters [] = codes "-"
letters (s ∷ stands) = map letter (s ∷ stands)

-- how `count` variables stand, from number v on
abbrev pub stands_from : ℕ → ℕ → (ℕ → Stand) → List Stand
stands_from v zero stand = []
stands_from v (suc count) stand = stand v ∷ stands_from (v + 1) count stand

-- a letter for each column, and then for each row
abbrev pub basis_line : Counts → (ℕ → Stand) → List (List ℕ)
basis_line n stand =
    codes "basis" ∷ letters (stands_from 0 n.columns stand) ∷ letters (stands_from n.columns n.rows stand) ∷ []
