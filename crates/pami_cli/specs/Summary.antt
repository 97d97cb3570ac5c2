-- What `trial` tells of the lines of a run: its answer with the objective, and how many lines of some kinds there are.
use Rattle.std.specs.Prelude.{ℕ, Bool, false, List, [], ◌∷◌, length, codes, decimal, if◌then◌else◌}
use Rattle.std.specs.List.{filter}
use Rattle.std.specs.Str.{bytes_eq}

-- ---- lines by their first words

-- the line begins with this word
abbrev pub begins : List ℕ → List (List ℕ) → Bool
begins word [] = false
begins word (first ∷ words) = bytes_eq first word

-- how many lines begin with it
abbrev pub count_lines : List ℕ → List (List (List ℕ)) → ℕ
count_lines word lines = length (filter (begins word) lines)

-- the second word of a line, or a dash
abbrev pub second_word : List (List ℕ) → List ℕ
second_word [] = codes "-"
second_word (first ∷ []) = codes "-"
second_word (first ∷ second ∷ words) = second

-- the second word of the first line that begins with this word; a dash where none does
abbrev pub told_behind : List ℕ → List (List (List ℕ)) → List ℕ
told_behind word [] = codes "-"
told_behind word (first ∷ lines) = if begins word first then second_word first else told_behind word lines

-- ---- the summary

abbrev pub trial_line : (seed sources sinks : ℕ) → List (List ℕ)
trial_line seed sources sinks = codes "trial" ∷ decimal seed ∷ decimal sources ∷ decimal sinks ∷ []

-- the answer of a run with these lines, and its objective; only an optimal answer's certificate has one
abbrev pub outcome_line : List (List (List ℕ)) → List (List ℕ)
outcome_line lines = codes "answer" ∷ told_behind (codes "answer") lines ∷ codes "objective" ∷ told_behind (codes "objective") lines ∷ []

-- how many pivots were kept, majors were kept, variables were flipped, and majors were rolled back
abbrev pub counts_line : List (List (List ℕ)) → List (List ℕ)
counts_line lines =
    codes "pivots" ∷ decimal (count_lines (codes "pivot") lines) ∷ codes "majors" ∷ decimal (count_lines (codes "major") lines)
    ∷ codes "flips" ∷ decimal (count_lines (codes "flip") lines) ∷ codes "rollbacks" ∷ decimal (count_lines (codes "rollback") lines) ∷ []

abbrev pub summary_lines : (seed sources sinks : ℕ) → List (List (List ℕ)) → List (List (List ℕ))
summary_lines seed sources sinks lines = trial_line seed sources sinks ∷ outcome_line lines ∷ counts_line lines ∷ []
