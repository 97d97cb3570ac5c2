-- The line of a bound's range, put together piece by piece.
use Rattle.std.proofs.Common.{◌≡◌, ℕ, List, [], ◌∷◌, ◌++◌, codes, sym, ap, ◌∙◌, append_assoc}
use Rattle.pami_lines.specs.Line.{line, text}
use Rattle.pami_lines.proofs.Texts.{text_one}

pub bound_joined : (o a b r word low : List ℕ) (rest : List (List ℕ)) → a ≡ o ++ codes "range bound" → b ≡ a ++ 32 ∷ word → r ≡ b ++ 32 ∷ line (low ∷ rest)
    → r ≡ o ++ text ((codes "range" ∷ codes "bound" ∷ word ∷ low ∷ rest) ∷ [])
bound_joined o a b r word low rest h i j =
    j ∙ ap (λ (z : List ℕ). z ++ 32 ∷ line (low ∷ rest)) (i ∙ ap (λ (z : List ℕ). z ++ 32 ∷ word) h)
    ∙ append_assoc (o ++ codes "range bound") (32 ∷ word) (32 ∷ line (low ∷ rest))
    ∙ append_assoc o (codes "range bound") ((32 ∷ word) ++ 32 ∷ line (low ∷ rest))
    ∙ ap (λ (z : List ℕ). o ++ z) (sym (text_one (codes "range" ∷ codes "bound" ∷ word ∷ low ∷ rest)))
