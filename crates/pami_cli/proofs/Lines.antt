-- Texts of answers, put together piece by piece.
use Rattle.std.proofs.Common.{◌≡◌, ℕ, zero, suc, ◌+◌, ◌-◌, ◌≤◌, List, [], ◌∷◌, ◌++◌, length, take, drop, codes, refl, sym, ap, ◌∙◌, arith, append_assoc, slice_index_or}
use Rattle.std.proofs.lemmas.List.{at_drop_more, take_rest}
use Rattle.pami_model.specs.declared.list.Column.{Column}
use Rattle.pami_model.specs.Contents.{Contents}
use Rattle.pami_theory.specs.declared.words.Stand.{Stand}
use Rattle.pami_theory.specs.declared.words.Stand.TheVariants.{Zero}
use Rattle.pami_theory.specs.Basis.{Basis, stand_at}
use Rattle.pami_lines.specs.Line.{line, text}
use Rattle.pami_lines.specs.Head.{Counts}
use Rattle.pami_lines.specs.Letters.{letters, stands_from, basis_line}
use Rattle.pami_lines.proofs.Texts.{text_append, text_one}
use Rattle.pami_model_form.specs.Named.{counts_of}

-- an answer with its certificate and its basis
pub optimal_joined : (o a b r : List ℕ) (certificate : List (List (List ℕ))) (basis : List (List ℕ)) → a ≡ o ++ codes "answer optimal\n" → b ≡ a ++ text certificate → r ≡ b ++ line basis →
    r ≡ o ++ text ((codes "answer" ∷ codes "optimal" ∷ []) ∷ (certificate ++ basis ∷ []))
optimal_joined o a b r certificate basis h i j =
    j ∙ ap (λ z. z ++ line basis) (i ∙ ap (λ z. z ++ text certificate) h)
    ∙ append_assoc (o ++ codes "answer optimal\n") (text certificate) (line basis)
    ∙ append_assoc o (codes "answer optimal\n") (text certificate ++ line basis)
    ∙ ap (λ (z : List ℕ). o ++ (codes "answer optimal\n" ++ z)) (ap (λ z. text certificate ++ z) (sym (text_one basis)) ∙ sym (text_append certificate (basis ∷ [])))

pub limit_joined : (o a b c r count : List ℕ) (basis : List (List ℕ)) → a ≡ o ++ codes "answer limit " → b ≡ a ++ count → c ≡ b ++ 10 ∷ [] → r ≡ c ++ line basis →
    r ≡ o ++ text ((codes "answer" ∷ codes "limit" ∷ count ∷ []) ∷ basis ∷ [])
limit_joined o a b c r count basis h i j k =
    let front : List ℕ = codes "answer limit " in
    let all : r ≡ o ++ (front ++ (count ++ (10 ∷ line basis))) = simp (k, j, i, h, append_assoc) in
    all ∙ ap (λ (z : List ℕ). o ++ (front ++ z)) (sym (append_assoc count (10 ∷ []) (line basis)) ∙ ap (λ z. (count ++ 10 ∷ []) ++ z) (sym (text_one basis)))

-- an answer whose certificate is the last of it
pub answer_joined : (o a r word : List ℕ) (certificate : List (List (List ℕ))) → a ≡ o ++ line (codes "answer" ∷ word ∷ []) → r ≡ a ++ text certificate →
    r ≡ o ++ text ((codes "answer" ∷ word ∷ []) ∷ certificate)
answer_joined o a r word certificate h i =
    i ∙ ap (λ (z : List ℕ). z ++ text certificate) h ∙ append_assoc o (line (codes "answer" ∷ word ∷ [])) (text certificate)

-- ---- bases
-- the stands of variables are members of the list of stands, one behind the other
stands_taken : (ss : List Stand) (v count : ℕ) → v + count ≤ length ss → stands_from v count (λ u. slice_index_or ss u Zero) ≡ take count (drop v ss)
stands_taken ss v zero l = refl
stands_taken ss v (suc count) l =
    ap (λ (rest : List Stand). slice_index_or ss v Zero ∷ rest) (stands_taken ss (v + 1) count (omega arith))
    ∙ sym (at_drop_more (λ rest. take (suc count) rest) ss v Zero (omega arith))

pub basis_joined : (n : Counts) (b : Basis) (stands : List Stand) → b.stands ≡ stands → n.columns + n.rows ≡ length stands →
    line (codes "basis" ∷ letters (take n.columns stands) ∷ letters (drop n.columns stands) ∷ []) ≡ line (basis_line n (stand_at b))
basis_joined n b stands e l =
    let many : length b.stands ≡ n.columns + n.rows = ap length e ∙ sym l in
    let columns : take n.columns stands ≡ stands_from 0 n.columns (stand_at b) =
    ap (take n.columns) (sym e) ∙ sym (stands_taken b.stands 0 n.columns (omega (arith, many))) in
    let rows : drop n.columns stands ≡ stands_from n.columns n.rows (stand_at b) =
    ap (drop n.columns) (sym e)
    ∙ sym (take_rest b.stands n.columns) ∙ ap (λ k. take k (drop n.columns b.stands)) (let k : length b.stands - n.columns ≡ n.rows = omega (arith, many) in k)
    ∙ sym (stands_taken b.stands n.columns n.rows (omega (arith, many))) in
    ap (λ (z : List Stand). line (codes "basis" ∷ letters z ∷ letters (drop n.columns stands) ∷ [])) columns
    ∙ ap (λ (z : List Stand). line (codes "basis" ∷ letters (stands_from 0 n.columns (stand_at b)) ∷ letters z ∷ [])) rows

-- the line of a basis, as it is printed of lists that were lent
pub basis_printed : (m : Contents) (b : Basis) (stands lent : List Stand) (columns : List Column) → b.stands ≡ stands → length m.columns + length m.rows ≡ length stands → lent ≡ stands → columns ≡ m.columns →
    line (codes "basis" ∷ letters (take (length columns) lent) ∷ letters (drop (length columns) lent) ∷ []) ≡ line (basis_line (counts_of m) (stand_at b))
basis_printed m b stands lent columns e l p q =
    ap (λ (z : List Stand). line (codes "basis" ∷ letters (take (length columns) z) ∷ letters (drop (length columns) z) ∷ [])) p
    ∙ ap (λ (z : List Column). line (codes "basis" ∷ letters (take (length z) stands) ∷ letters (drop (length z) stands) ∷ [])) q
    ∙ basis_joined (counts_of m) b stands e l
