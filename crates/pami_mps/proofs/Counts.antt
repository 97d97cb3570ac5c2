-- The words of a slice of slices, by their count.
use Rattle.std.proofs.Common.{◌≡◌, ◌<◌, ◌≤◌, ℕ, List, [], ◌∷◌, map, length, get_or, refl, arith, Bor}

pub four : (ws : List (Bor (List ℕ))) (d : Bor (List ℕ)) → 4 ≤ length ws → length ws < 5
    → map (λ w. w.now) ws ≡ (get_or ws 0 d).now ∷ (get_or ws 1 d).now ∷ (get_or ws 2 d).now ∷ (get_or ws 3 d).now ∷ []
four [] d low high = absurd (omega arith)
four (a ∷ []) d low high = absurd (omega arith)
four (a ∷ b ∷ []) d low high = absurd (omega arith)
four (a ∷ b ∷ x ∷ []) d low high = absurd (omega arith)
four (a ∷ b ∷ x ∷ y ∷ []) d low high = refl
four (a ∷ b ∷ x ∷ y ∷ z ∷ ws) d low high = absurd (omega arith)

pub five : (ws : List (Bor (List ℕ))) (d : Bor (List ℕ)) → 5 ≤ length ws → length ws < 6
    → map (λ w. w.now) ws ≡ (get_or ws 0 d).now ∷ (get_or ws 1 d).now ∷ (get_or ws 2 d).now ∷ (get_or ws 3 d).now ∷ (get_or ws 4 d).now ∷ []
five [] d low high = absurd (omega arith)
five (a ∷ []) d low high = absurd (omega arith)
five (a ∷ b ∷ []) d low high = absurd (omega arith)
five (a ∷ b ∷ x ∷ []) d low high = absurd (omega arith)
five (a ∷ b ∷ x ∷ y ∷ []) d low high = absurd (omega arith)
five (a ∷ b ∷ x ∷ y ∷ z ∷ []) d low high = refl
five (a ∷ b ∷ x ∷ y ∷ z ∷ u ∷ ws) d low high = absurd (omega arith)
