-- Lines of an output text.
use Rattle.std.specs.Prelude.{ℕ, List, [], ◌∷◌, ◌++◌}
use Rattle.std.specs.List.{flat_map}

-- words with one blank between them, and a line feed behind them
abbrev pub line : List (List ℕ) → List ℕ
line [] = 10 ∷ []
line (w ∷ []) = w ++ 10 ∷ []
line (w ∷ v ∷ words) = w ++ 32 ∷ line (v ∷ words)

-- a text is its lines, each a list of words
abbrev pub text : List (List (List ℕ)) → List ℕ
text lines = flat_map line lines

-- words, each with a blank before it
abbrev pub spaced : List (List ℕ) → List ℕ
spaced words = flat_map (λ (w : List ℕ). 32 ∷ w) words
