-- The sets of a basis's columns.
use Rattle.std.proofs.Common.{◌≡◌, ℕ, zero, suc, ◌+◌, ◌<◌, ◌≤◌, List, [], ◌∷◌, ◌++◌, length, map, drop, refl, sym, ap, ◌∙◌, subst, arith, append-nil, not, ⊎_elim}
use Rattle.std.proofs.lemmas.List.{drop_all}
use Rattle.std.specs.Prelude.{All, slice_index_or}
use Rattle.std.proofs.lemmas.Bool.{cases_eq}
use lib.IntN.{pos}
use Rattle.pami_algebra.specs.Fraction.{Fraction}
use Rattle.pami_algebra.specs.Operations.{of_int, is_zero}
use Rattle.pami_algebra.proofs.Tests.{is_zero_iff}
use Rattle.pami_frac.specs.declared.list.Entry.{Entry}
use Rattle.pami_linear.specs.Lists.{get}
use Rattle.pami_script.specs.Dense.{at, Rising}
use Rattle.pami_script.proofs.Skipped.{at_here, at_other, at_below}
use Rattle.pami_factoring.specs.Factor.{matrix_of, columns_at}
use Rattle.pami_factoring.proofs.Matrices.{matrix_count, matrix_entry}
use Rattle.pami_vec.specs.Entries.{NoZeros, AreEntriesOf}
use Rattle.pami_vec.proofs.Scripted.{get_at}
use Rattle.pami_lu.specs.Members.{those, stands_at, AreAll, places_of}
use Rattle.pami_lu.proofs.Those.{those_yes, those_no, those_same}

entries_those : (n k : ℕ) (es : List Entry) → Rising k (k + n) es → NoZeros es → map (λ (e : Entry). e.place) es ≡ those n k (λ h. not (is_zero (at es h)))
entries_those zero k [] r z = refl
entries_those zero k (e ∷ es) r z = absurd (let a = r.0 in let b = r.1 in omega arith)
entries_those (suc n) k [] r z =
    sym (those_no n k (λ h. not (is_zero (of_int (pos 0)))) (ap not ((is_zero_iff (of_int (pos 0))).1 refl)) ∙ sym (entries_those n (suc k) [] (omega arith) tt))
entries_those (suc n) k (e ∷ es) r z = ⊎_elim
    (λ (q : e.place ≡ k).
    let high : k + suc n ≡ suc k + n = omega arith in
    let rest : Rising (suc k) (suc k + n) es = subst (λ j. Rising (suc k) j es) high (subst (λ j. Rising (suc j) (k + suc n) es) q r.2) in
    ap (λ p. p ∷ map (λ (e : Entry). e.place) es) q
    ∙ ap (λ ps. k ∷ ps) (entries_those n (suc k) es rest z.1
    ∙ those_same n (suc k) (λ h. not (is_zero (at es h))) (λ h. not (is_zero (at (e ∷ es) h))) (λ j l m. ap (λ x. not (is_zero x)) (sym (at_other e es j (λ w. omega arith)))))
    ∙ sym (those_yes n k (λ h. not (is_zero (at (e ∷ es) h))) (ap (λ x. not (is_zero x)) (at_here e es k q) ∙ ap not z.0)))
    (λ (q : ¬ (e.place ≡ k)).
    let high : k + suc n ≡ suc k + n = omega arith in
    let low : k ≤ e.place = r.0 in
    let rest : Rising (suc k) (suc k + n) (e ∷ es) = subst (λ j. Rising (suc k) j (e ∷ es)) high (omega arith, r.1, r.2) in
    entries_those n (suc k) (e ∷ es) rest z
    ∙ sym (those_no n k (λ h. not (is_zero (at (e ∷ es) h))) (ap not ((is_zero_iff (at (e ∷ es) k)).1 (at_below (e ∷ es) (suc k) (suc k + n) k rest (omega arith))))))
    (cases_eq e.place k)

pub column_those : (xs : List Fraction) (es : List Entry) → AreEntriesOf xs es → map (λ (e : Entry). e.place) es ≡ places_of xs
column_those xs es a =
    let z : length xs ≡ 0 + length xs = omega arith in
    entries_those (length xs) 0 es (subst (λ n. Rising 0 n es) z a.rising) a.nonzero
    ∙ those_same (length xs) 0 (λ h. not (is_zero (at es h))) (λ h. not (is_zero (get xs h))) (λ j l m. ap (λ x. not (is_zero x)) (sym (get_at xs es j a (omega arith))))

map_get : (columns : List (List Fraction)) (head : List ℕ) (k : ℕ) → k < length head → slice_index_or (map places_of (columns_at columns head)) k [] ≡ places_of (slice_index_or (columns_at columns head) k [])
map_get columns [] k l = absurd (omega arith)
map_get columns (j ∷ head) zero l = refl
map_get columns (j ∷ head) (suc k) l = map_get columns head k (omega arith)

column_long : (columns : List (List Fraction)) (head : List ℕ) (m k : ℕ) → All (λ j. j < length columns) head → ((j : ℕ) → j < length columns → length (slice_index_or columns j []) ≡ m) → k < length head → length (slice_index_or (columns_at columns head) k []) ≡ m
column_long columns [] m k a h l = absurd (omega arith)
column_long columns (j ∷ head) m zero a h l = h j (a 0 0 (omega arith))
column_long columns (j ∷ head) m (suc k) a h l = column_long columns head m k (λ i d q. a (suc i) d (omega arith)) h (omega arith)

length_at : (columns : List (List Fraction)) (head : List ℕ) → length (map places_of (columns_at columns head)) ≡ length head
length_at columns [] = refl
length_at columns (j ∷ head) = ap suc (length_at columns head)

pub members_all : (columns : List (List Fraction)) (head : List ℕ) (members : List (List ℕ)) → All (λ j. j < length columns) head → ((j : ℕ) → j < length columns → length (slice_index_or columns j []) ≡ length head) →
    members ≡ map places_of (columns_at columns head) → AreAll (matrix_of columns head) members × (length members ≡ length (matrix_of columns head))
members_all columns head members a h e =
    let n = matrix_count columns head in
    let lm : length members ≡ length head = ap length e ∙ length_at columns head in (
      (λ g l.
          let lg : g < length head = omega arith in
          ap (λ ms. slice_index_or ms g []) e ∙ map_get columns head g lg
          ∙ ap (λ k. those k 0 (λ i. not (is_zero (get (slice_index_or (columns_at columns head) g []) i)))) (column_long columns head (length head) g a h lg ∙ sym n)
          ∙ those_same (length (matrix_of columns head)) 0 (λ i. not (is_zero (get (slice_index_or (columns_at columns head) g []) i))) (λ i. stands_at (matrix_of columns head) i g)
          (λ j u v. let lj : j < length head = omega arith in ap (λ x. not (is_zero x)) (sym (matrix_entry columns head g j lg lj)))),
      lm ∙ sym n,
    )

-- at the end of the loops
pub places_end : (es : List Entry) (i : ℕ) (out : List ℕ) → length es ≤ i → map (λ (e : Entry). e.place) es ≡ out ++ map (λ (e : Entry). e.place) (drop i es) → out ≡ map (λ (e : Entry). e.place) es
places_end es i out l e = sym (e ∙ ap (λ z. out ++ map (λ (e : Entry). e.place) z) (drop_all i es l) ∙ append-nil out)

pub columns_end : (columns : List (List Fraction)) (head : List ℕ) (i : ℕ) (out : List (List ℕ)) → length head ≤ i → map places_of (columns_at columns head) ≡ out ++ map places_of (columns_at columns (drop i head)) → out ≡ map places_of (columns_at columns head)
columns_end columns head i out l e = sym (e ∙ ap (λ z. out ++ map places_of (columns_at columns z)) (drop_all i head l) ∙ append-nil out)
