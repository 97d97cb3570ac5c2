-- The pivots of a chain: each active row and each active place is taken exactly once.
use Rattle.std.proofs.Common.{◌≡◌, ℕ, zero, suc, ◌<◌, List, [], ◌∷◌, length, refl, sym, ap, ◌∙◌, subst, arith, Bool, true, false, ⊎_elim}
use Rattle.std.proofs.lemmas.Bool.{cases_eq, ne_eqb}
use Rattle.std.proofs.lemmas.List.Elements.{All-from_recursion}
use Rattle.std.specs.List.{AllByRecursion, All, IsDistinct, Contains}
use lib.Dec.{T, eqb}
use Rattle.pami_algebra.specs.Fraction.{Fraction}
use Rattle.pami_linear.specs.Active.{but, count, one_if}
use Rattle.pami_linear.specs.Elimination.{EliminationStep}
use Rattle.pami_linear.specs.Chains.{Chain, ended, goes_on, Eliminates, pivot_rows, pivot_places, Permutes}
use Rattle.pami_linear.proofs.Parts.{but_in, but_ne, but_from, count_but, count_same, count_all}

-- active numbers below m are taken one after the other, to the last
pub data Takes (m : ℕ) : (ℕ → Bool) → List ℕ → Type 0 where
  all_taken : (a : ℕ → Bool) → ((n : ℕ) → n < m → T (a n) → ⊥) → Takes m a []
  takes_one : (a b : ℕ → Bool) (n : ℕ) (ns : List ℕ) → n < m → T (a n) → ((k : ℕ) → k < m → b k ≡ but n a k) → Takes m b ns → Takes m a (n ∷ ns)

pub chain_rows : (m : ℕ) (r c : ℕ → Bool) (w : ℕ → ℕ → Fraction) (ss : List EliminationStep) → Chain m r c w ss → Takes m r (pivot_rows ss)
chain_rows m _ _ _ _ (ended r c w nr nc) = all_taken r nr
chain_rows m _ _ _ _ (goes_on r c w next s ss q e a rest) = takes_one r s.rows s.row (pivot_rows ss) q.row_low q.row_in e.rows (chain_rows m s.rows s.places next ss rest)

pub chain_places : (m : ℕ) (r c : ℕ → Bool) (w : ℕ → ℕ → Fraction) (ss : List EliminationStep) → Chain m r c w ss → Takes m c (pivot_places ss)
chain_places m _ _ _ _ (ended r c w nr nc) = all_taken c nc
chain_places m _ _ _ _ (goes_on r c w next s ss q e a rest) = takes_one c s.places s.place (pivot_places ss) q.place_low q.place_in e.places (chain_places m s.rows s.places next ss rest)

-- ---- each number is active
every_map : (P Q : ℕ → Type 0) (ns : List ℕ) → ((n : ℕ) → P n → Q n) → AllByRecursion P ns → AllByRecursion Q ns
every_map P Q [] f h = tt
every_map P Q (n ∷ ns) f h = (f n h.0, every_map P Q ns f h.1)

taken_active : (m : ℕ) (a : ℕ → Bool) (ns : List ℕ) → Takes m a ns → AllByRecursion (λ n. (n < m) × T (a n)) ns
taken_active m _ _ (all_taken a h) = tt
taken_active m _ _ (takes_one a b n ns l t e rest) =
    ((l, t), every_map (λ k. (k < m) × T (b k)) (λ k. (k < m) × T (a k)) ns (λ k h. (h.0, but_in n k a (subst T (e k h.0) h.1))) (taken_active m b ns rest))

pub taken_below : (m : ℕ) (a : ℕ → Bool) (ns : List ℕ) → Takes m a ns → All (λ n. n < m) ns
taken_below m a ns t = All-from_recursion (λ n. n < m) ns (every_map (λ n. (n < m) × T (a n)) (λ n. n < m) ns (λ n h. h.0) (taken_active m a ns t))

-- ---- no number twice
pub taken_distinct : (m : ℕ) (a : ℕ → Bool) (ns : List ℕ) → Takes m a ns → IsDistinct eqb ns
unfolding IsDistinct
taken_distinct m _ _ (all_taken a h) = tt
taken_distinct m _ _ (takes_one a b n ns l t e rest) =
    (every_map (λ k. (k < m) × T (b k)) (λ k. eqb n k ≡ false) ns (λ k h. ne_eqb n k (but_ne n k a (subst T (e k h.0) h.1))) (taken_active m b ns rest), taken_distinct m b ns rest)

-- ---- as many as are active
count_more : (m : ℕ) (a : ℕ → Bool) (t : Bool) → a m ≡ t → (t ≡ true → ⊥) → count m a ≡ 0 → count (suc m) a ≡ 0
count_more m a true e n f = absurd (n refl)
count_more m a false e n f = let g : one_if (a m) ≡ 0 = ap one_if e in omega arith

count_zero : (m : ℕ) (a : ℕ → Bool) → ((n : ℕ) → n < m → T (a n) → ⊥) → count m a ≡ 0
count_zero zero a h = refl
count_zero (suc m) a h = count_more m a (a m) refl (λ e. h m (omega arith) (subst T (sym e) tt)) (count_zero m a (λ n l. h n (omega arith)))

pub taken_count : (m : ℕ) (a : ℕ → Bool) (ns : List ℕ) → Takes m a ns → length ns ≡ count m a
taken_count m _ _ (all_taken a h) = sym (count_zero m a h)
taken_count m _ _ (takes_one a b n ns l t e rest) = ap suc (taken_count m b ns rest ∙ count_same m b (but n a) e) ∙ sym (count_but m n a l t)

-- ---- and each that is active
contains_next : (k n : ℕ) (ns : List ℕ) → Contains ns n → Contains (k ∷ ns) n
contains_next k n ns c = (suc c.0, let l : c.0 < length ns = c.1 in omega arith, c.2)

pub taken_each : (m : ℕ) (a : ℕ → Bool) (ns : List ℕ) → Takes m a ns → (n : ℕ) → n < m → T (a n) → Contains ns n
taken_each m _ _ (all_taken a h) n l t = absurd (h n l t)
taken_each m _ _ (takes_one a b k ns lk tk e rest) n l t = ⊎_elim
    (λ (q : k ≡ n). (0, omega arith, q))
    (λ (q : ¬ (k ≡ n)). contains_next k n ns (taken_each m b ns rest n l (subst T (sym (e n l)) (but_from k n a t q))))
    (cases_eq k n)

-- ---- from all
pub takes_all : (m : ℕ) (a : ℕ → Bool) (ns : List ℕ) → ((n : ℕ) → n < m → a n ≡ true) → Takes m a ns → Permutes m ns
takes_all m a ns e t = record {
  count = taken_count m a ns t ∙ count_same m a (λ n. true) e ∙ count_all m;
  below = taken_below m a ns t;
  distinct = taken_distinct m a ns t;
  each = λ n l. taken_each m a ns t n l (subst T (sym (e n l)) tt);
}

pub rows_permute : (m : ℕ) (b : ℕ → ℕ → Fraction) (ss : List EliminationStep) → Eliminates m b ss → Permutes m (pivot_rows ss)
rows_permute m b ss q = takes_all m q.rows (pivot_rows ss) q.all_rows (chain_rows m q.rows q.places (λ h g. b g h) ss q.chain)

pub places_permute : (m : ℕ) (b : ℕ → ℕ → Fraction) (ss : List EliminationStep) → Eliminates m b ss → Permutes m (pivot_places ss)
places_permute m b ss q = takes_all m q.places (pivot_places ss) q.all_places (chain_places m q.rows q.places (λ h g. b g h) ss q.chain)
