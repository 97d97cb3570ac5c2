-- The head of a text, and the line that a phase begins with.
use Rattle.std.specs.Prelude.{ℕ, List, [], ◌∷◌, codes, decimal}

-- how many rows, columns and stored entries a model has
pub record Counts : Type 0 where
  pub rows : ℕ
  pub columns : ℕ
  pub entries : ℕ

-- the number of the format, and the counts of the model
abbrev pub head_lines : Counts → List (List (List ℕ))
head_lines n =
    (codes "pami" ∷ codes "1" ∷ []) ∷
    (codes "model" ∷ decimal n.rows ∷ decimal n.columns ∷ decimal n.entries ∷ []) ∷ []

abbrev pub phase_line : ℕ → List (List ℕ)
phase_line phase = codes "phase" ∷ decimal phase ∷ []
