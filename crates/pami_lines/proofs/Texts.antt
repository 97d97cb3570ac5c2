-- Lines and texts put together piece by piece.
use Rattle.std.proofs.Common.{◌≡◌, ℕ, List, [], ◌∷◌, ◌++◌, append-nil, refl, sym, ap, ◌∙◌}
use Rattle.std.proofs.lemmas.Grind.{flat_map-append}
use Rattle.std.proofs.lemmas.List.{append_assoc}
use Rattle.pami_lines.specs.Line.{line, text, spaced}

pub text_append : (xs ys : List (List (List ℕ))) → text (xs ++ ys) ≡ text xs ++ text ys
text_append xs ys = flat_map-append line xs ys

pub text_one : (words : List (List ℕ)) → text (words ∷ []) ≡ line words
text_one words = append-nil (line words)

-- a line is its first word, the others with a blank before each, and a line feed
pub line_spaced : (w : List ℕ) (ws : List (List ℕ)) → line (w ∷ ws) ≡ w ++ (spaced ws ++ 10 ∷ [])
line_spaced w [] = refl
line_spaced w (v ∷ ws) = ap (λ z. w ++ 32 ∷ z) (line_spaced v ws ∙ sym (append_assoc v (spaced ws) (10 ∷ [])))
