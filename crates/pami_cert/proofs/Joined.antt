-- The texts of certificates, put together piece by piece.
use Rattle.std.proofs.Common.{◌≡◌, ℕ, List, [], ◌∷◌, ◌++◌, codes, sym, ap, ◌∙◌, append_assoc}
use Rattle.pami_lines.specs.Line.{line, text}
use Rattle.pami_lines.proofs.Texts.{text_append}

pub text_of_two : (columns rows : List (List (List ℕ))) → text (columns ++ (rows ++ (codes "end" ∷ []) ∷ [])) ≡ text columns ++ (text rows ++ codes "end\n")
text_of_two columns rows = text_append columns (rows ++ (codes "end" ∷ []) ∷ [])
    ∙ ap (λ (z : List ℕ). text columns ++ z) (text_append rows ((codes "end" ∷ []) ∷ []))

pub optimal_joined : (o a b c d e r word : List ℕ) (columns rows : List (List (List ℕ))) → a ≡ o ++ codes "certificate 1 optimal\nobjective " →
    b ≡ a ++ word → c ≡ b ++ 10 ∷ [] → d ≡ c ++ text columns → e ≡ d ++ text rows → r ≡ e ++ codes "end\n" →
    r ≡ o ++ text ((codes "certificate" ∷ codes "1" ∷ codes "optimal" ∷ []) ∷ (codes "objective" ∷ word ∷ []) ∷ (columns ++ (rows ++ (codes "end" ∷ []) ∷ [])))
optimal_joined o a b c d e r word columns rows h i j k l m =
    let front : List ℕ = codes "certificate 1 optimal\nobjective " in
    let all : r ≡ o ++ (front ++ (word ++ (10 ∷ (text columns ++ (text rows ++ codes "end\n"))))) = simp (m, l, k, j, i, h, append_assoc) in
    let inner : front ++ (word ++ (10 ∷ (text columns ++ (text rows ++ codes "end\n")))) ≡ front ++ ((word ++ 10 ∷ []) ++ text
    (columns ++ (rows ++ (codes "end" ∷ []) ∷ []))) =
    ap (λ (z : List ℕ). front ++ z) (ap (λ (z : List ℕ). word ++ (10 ∷ z)) (sym (text_of_two columns rows))
    ∙ sym (append_assoc word (10 ∷ []) (text (columns ++ (rows ++ (codes "end" ∷ []) ∷ []))))) in
    all ∙ ap (λ (z : List ℕ). o ++ z) inner

pub infeasible_joined : (o a b r : List ℕ) (rows : List (List (List ℕ))) → a ≡ o ++ codes "certificate 1 infeasible\n" → b ≡ a ++ text rows →
    r ≡ b ++ codes "end\n" →
    r ≡ o ++ text ((codes "certificate" ∷ codes "1" ∷ codes "infeasible" ∷ []) ∷ (rows ++ (codes "end" ∷ []) ∷ []))
infeasible_joined o a b r rows h i j =
    let front : List ℕ = codes "certificate 1 infeasible\n" in
    j ∙ ap (λ z. z ++ codes "end\n") (i ∙ ap (λ z. z ++ text rows) h)
    ∙ append_assoc (o ++ front) (text rows) (codes "end\n")
    ∙ append_assoc o front (text rows ++ codes "end\n")
    ∙ ap (λ (z : List ℕ). o ++ (front ++ z)) (sym (text_append rows ((codes "end" ∷ []) ∷ [])))

pub dual_infeasible_joined : (o a b c r : List ℕ) (columns rows : List (List (List ℕ))) → a ≡ o ++ codes "certificate 1 dual-infeasible\n" →
    b ≡ a ++ text columns → c ≡ b ++ text rows → r ≡ c ++ codes "end\n" →
    r ≡ o ++ text ((codes "certificate" ∷ codes "1" ∷ codes "dual-infeasible" ∷ []) ∷ (columns ++ (rows ++ (codes "end" ∷ []) ∷ [])))
dual_infeasible_joined o a b c r columns rows h i j k =
    let front : List ℕ = codes "certificate 1 dual-infeasible\n" in
    let all : r ≡ o ++ (front ++ (text columns ++ (text rows ++ codes "end\n"))) = simp (k, j, i, h, append_assoc) in
    all ∙ ap (λ (z : List ℕ). o ++ (front ++ z)) (sym (text_of_two columns rows))

pub pair_joined : (o tag name p q a b c d e f g r : List ℕ) → a ≡ o ++ tag → b ≡ a ++ 32 ∷ [] → c ≡ b ++ name → d ≡ c ++ 32 ∷ [] → e ≡ d ++ p →
    f ≡ e ++ 32 ∷ [] → g ≡ f ++ q → r ≡ g ++ 10 ∷ [] → r ≡ o ++ line (tag ∷ name ∷ p ∷ q ∷ [])
pair_joined o tag name p q a b c d e f g r i j k l m n s t = simp (t, s, n, m, l, k, j, i, append_assoc)
