-- The columns of a basis with one of them replaced: its systems, from those of the basis before.
use Rattle.std.proofs.Common.{◌≡◌, ℕ, ◌<◌, [], ◌∷◌, refl, sym, ap, ◌∙◌, subst, Bool, true, false, cond, ⊎_elim}
use Rattle.std.proofs.lemmas.Bool.{cases_eq}
use lib.IntN.{pos}
use lib.Dec.{T, eqb, eqb→eq, eqb_refl}
use Rattle.pami_algebra.specs.Fraction.{Fraction}
use Rattle.pami_algebra.specs.Ring.{var, t0, t1, ◌⊕◌, ◌⊗◌, ⊖}
use Rattle.pami_algebra.specs.Operations.{◌+ᶠ◌, ◌-ᶠ◌, ◌*ᶠ◌, ◌/ᶠ◌, neg_f, of_int, inv_f}
use Rattle.pami_algebra.proofs.Laws.{by_ring_f, mul_inv_f}
use Rattle.pami_algebra.proofs.Field.{div_mul_f, nil_mul_f}
use Rattle.pami_linear.specs.Sums.{sum_to, dot, unit}
use Rattle.pami_linear.specs.Systems.{Solves, Combines, IsRow, IsInverse, replaced, stepped}
use Rattle.pami_linear.specs.Active.{set_at}
use Rattle.pami_linear.proofs.Sums.{sum_same, sum_add, sum_scale, sum_scale_right, sum_unit, unit_same, unit_other, dot_add, dot_scale, dot_combine}
use Rattle.pami_linear.proofs.Parts.{set_same, set_other}

-- ---- the columns
pub replaced_same : (b : ℕ → ℕ → Fraction) (p : ℕ) (c : ℕ → Fraction) → replaced b p c p ≡ c
replaced_same b p c = go (eqb p p) (eqb_refl p)
  where
    go : (t : Bool) → T t → cond t c (b p) ≡ c
    go true h = refl
    go false h = absurd h

pub replaced_other : (b : ℕ → ℕ → Fraction) (p k : ℕ) (c : ℕ → Fraction) → ¬ (p ≡ k) → replaced b p c k ≡ b k
replaced_other b p k c n = go (eqb p k) (eqb→eq p k)
  where
    go : (t : Bool) → (T t → p ≡ k) → cond t c (b k) ≡ b k
    go true e = absurd (n (e tt))
    go false e = refl

-- what a vector gives with the new column, and with the others
pub replaced_combines : (m p : ℕ) (b : ℕ → ℕ → Fraction) (c y d : ℕ → Fraction) → dot m y c ≡ d p → ((k : ℕ) → k < m → ¬ (p ≡ k) → dot m y (b k) ≡ d k) → Combines m (replaced b p c) y d
replaced_combines m p b c y d e f = record {
  at = λ k l. ⊎_elim
      (λ (q : p ≡ k). subst (λ n. dot m y (replaced b p c n) ≡ d n) q (ap (λ u. dot m y u) (replaced_same b p c) ∙ e))
      (λ (q : ¬ (p ≡ k)). ap (λ u. dot m y u) (replaced_other b p k c q) ∙ f k l q)
      (cases_eq p k);
}

-- ---- rows
-- the update of another row at a pivot is the row of the next basis
pub row_after_pivot : (m p i : ℕ) (b : ℕ → ℕ → Fraction) (c rho_p rho_i : ℕ → Fraction) →
    ¬ (p ≡ i) → IsRow m b p rho_p → IsRow m b i rho_i → ¬ (dot m rho_p c ≡ of_int (pos 0)) →
    IsRow m (replaced b p c) i (λ h. rho_i h +ᶠ neg_f ((dot m rho_i c /ᶠ dot m rho_p c) *ᶠ rho_p h))
row_after_pivot m p i b c rho_p rho_i ne rp ri nz =
    let k_of : Fraction = dot m rho_i c /ᶠ dot m rho_p c in
    replaced_combines m p b c (λ h. rho_i h +ᶠ neg_f (k_of *ᶠ rho_p h)) (unit i)
    (dot_combine m rho_i rho_p c k_of
    ∙ ap (λ z. dot m rho_i c +ᶠ neg_f z) (div_mul_f (dot m rho_i c) (dot m rho_p c) nz)
    ∙ by_ring_f (dot m rho_i c ∷ []) (var 0 ⊕ ⊖ (var 0)) t0 refl
    ∙ sym (unit_other i p (λ d. ne (sym d))))
    (λ k l n. dot_combine m rho_i rho_p (b k) k_of
    ∙ ap (λ z. z +ᶠ neg_f (k_of *ᶠ dot m rho_p (b k))) (ri.at k l)
    ∙ ap (λ z. unit i k +ᶠ neg_f (k_of *ᶠ z)) (rp.at k l ∙ unit_other p k n)
    ∙ by_ring_f (unit i k ∷ k_of ∷ []) (var 0 ⊕ ⊖ (var 1 ⊗ t0)) (var 0) refl)

-- a quotient in each member
pub dot_div : (m : ℕ) (u w : ℕ → Fraction) (k : Fraction) → dot m (λ i. u i /ᶠ k) w ≡ dot m u w /ᶠ k
dot_div m u w k =
    sum_same m (λ i. (u i /ᶠ k) *ᶠ w i) (λ i. (u i *ᶠ w i) *ᶠ inv_f k) (λ i l. by_ring_f (u i ∷ inv_f k ∷ w i ∷ []) (var 0 ⊗ var 1 ⊗ var 2) (var 0 ⊗ var 2 ⊗ var 1) refl)
    ∙ sum_scale_right m (inv_f k) (λ i. u i *ᶠ w i)

-- and the row of the pivot's own place
pub pivot_row_after_pivot : (m p : ℕ) (b : ℕ → ℕ → Fraction) (c rho : ℕ → Fraction) → IsRow m b p rho → ¬ (dot m rho c ≡ of_int (pos 0)) → IsRow m (replaced b p c) p (λ h. rho h /ᶠ dot m rho c)
pivot_row_after_pivot m p b c rho row nz =
    replaced_combines m p b c (λ h. rho h /ᶠ dot m rho c) (unit p)
    (dot_div m rho c (dot m rho c) ∙ mul_inv_f (dot m rho c) nz ∙ sym (unit_same p))
    (λ k l n. dot_div m rho (b k) (dot m rho c) ∙ ap (λ z. z /ᶠ dot m rho c) (row.at k l ∙ unit_other p k n) ∙ nil_mul_f (inv_f (dot m rho c)) ∙ sym (unit_other p k n))

-- y with a multiple of the pivot's row: other only with the new column
pub combines_after_pivot : (m p : ℕ) (b : ℕ → ℕ → Fraction) (c y d rho : ℕ → Fraction) (t : Fraction) → Combines m b y d → IsRow m b p rho →
    Combines m (replaced b p c) (λ i. y i +ᶠ t *ᶠ rho i) (set_at p (dot m y c +ᶠ t *ᶠ dot m rho c) d)
combines_after_pivot m p b c y d rho t e row =
    let v : Fraction = dot m y c +ᶠ t *ᶠ dot m rho c in
    replaced_combines m p b c (λ i. y i +ᶠ t *ᶠ rho i) (set_at p v d)
    (dot_add m y (λ i. t *ᶠ rho i) c ∙ ap (λ z. dot m y c +ᶠ z) (dot_scale m t rho c) ∙ sym (set_same p v d))
    (λ k l n. dot_add m y (λ i. t *ᶠ rho i) (b k)
    ∙ ap (λ z. dot m y (b k) +ᶠ z) (dot_scale m t rho (b k))
    ∙ ap (λ z. dot m y (b k) +ᶠ t *ᶠ z) (row.at k l ∙ unit_other p k n)
    ∙ by_ring_f (dot m y (b k) ∷ t ∷ []) (var 0 ⊕ var 1 ⊗ t0) (var 0) refl
    ∙ e.at k l
    ∙ sym (set_other p k v d n))

-- the multiple that gives v with the new column
pub combines_to_value : (m p : ℕ) (b : ℕ → ℕ → Fraction) (c y d rho : ℕ → Fraction) (v : Fraction) → Combines m b y d → IsRow m b p rho → ¬ (dot m rho c ≡ of_int (pos 0)) →
    Combines m (replaced b p c) (λ i. y i +ᶠ ((v -ᶠ dot m y c) /ᶠ dot m rho c) *ᶠ rho i) (set_at p v d)
combines_to_value m p b c y d rho v e row nz =
    let t : Fraction = (v -ᶠ dot m y c) /ᶠ dot m rho c in
    subst (λ z. Combines m (replaced b p c) (λ i. y i +ᶠ t *ᶠ rho i) (set_at p z d))
    (ap (λ z. dot m y c +ᶠ z) (div_mul_f (v -ᶠ dot m y c) (dot m rho c) nz) ∙ by_ring_f (dot m y c ∷ v ∷ []) (var 0 ⊕ (var 1 ⊕ ⊖ (var 0))) (var 1) refl)
    (combines_after_pivot m p b c y d rho t e row)

-- ---- solves
-- one product of the new sum
term_of : (t : Bool) (c b alpha x theta : Fraction) → (T t → theta *ᶠ alpha ≡ x) →
    cond t c b *ᶠ cond t theta (x +ᶠ neg_f (theta *ᶠ alpha)) ≡ (b *ᶠ x +ᶠ neg_f theta *ᶠ (b *ᶠ alpha)) +ᶠ cond t (of_int (pos 1)) (of_int (pos 0)) *ᶠ (c *ᶠ theta)
term_of true c b alpha x theta h =
    by_ring_f (c ∷ theta ∷ b ∷ alpha ∷ []) (var 0 ⊗ var 1) ((var 2 ⊗ (var 1 ⊗ var 3) ⊕ (⊖ (var 1)) ⊗ (var 2 ⊗ var 3)) ⊕ t1 ⊗ (var 0 ⊗ var 1)) refl
    ∙ ap (λ z. (b *ᶠ z +ᶠ neg_f theta *ᶠ (b *ᶠ alpha)) +ᶠ of_int (pos 1) *ᶠ (c *ᶠ theta)) (h tt)
term_of false c b alpha x theta h =
    by_ring_f (c ∷ theta ∷ b ∷ alpha ∷ x ∷ []) (var 2 ⊗ (var 4 ⊕ ⊖ (var 1 ⊗ var 3))) ((var 2 ⊗ var 4 ⊕ (⊖ (var 1)) ⊗ (var 2 ⊗ var 3)) ⊕ t0 ⊗ (var 0 ⊗ var 1)) refl

cond_at : (t : Bool) (c b : ℕ → Fraction) (i : ℕ) → cond t c b i ≡ cond t (c i) (b i)
cond_at true c b i = refl
cond_at false c b i = refl

pub solves_after_pivot : (m p : ℕ) (b : ℕ → ℕ → Fraction) (c alpha x r : ℕ → Fraction) (theta : Fraction) →
    p < m → Solves m b alpha c → Solves m b x r → theta *ᶠ alpha p ≡ x p → Solves m (replaced b p c) (stepped p alpha theta x) r
solves_after_pivot m p b c alpha x r theta lp sa sx e = record {
  at = λ i l.
      sum_same m (λ k. replaced b p c k i *ᶠ stepped p alpha theta x k) (λ k. (b k i *ᶠ x k +ᶠ neg_f theta *ᶠ (b k i *ᶠ alpha k)) +ᶠ unit p k *ᶠ (c i *ᶠ theta))
      (λ k h. ap (λ z. z *ᶠ stepped p alpha theta x k) (cond_at (eqb p k) c (b k) i)
      ∙ term_of (eqb p k) (c i) (b k i) (alpha k) (x k) theta (λ t. subst (λ n. theta *ᶠ alpha n ≡ x n) (eqb→eq p k t) e))
      ∙ sum_add m (λ k. b k i *ᶠ x k +ᶠ neg_f theta *ᶠ (b k i *ᶠ alpha k)) (λ k. unit p k *ᶠ (c i *ᶠ theta))
      ∙ ap (λ z. z +ᶠ sum_to m (λ k. unit p k *ᶠ (c i *ᶠ theta))) (sum_add m (λ k. b k i *ᶠ x k) (λ k. neg_f theta *ᶠ (b k i *ᶠ alpha k)))
      ∙ ap (λ z. (sum_to m (λ k. b k i *ᶠ x k) +ᶠ z) +ᶠ sum_to m (λ k. unit p k *ᶠ (c i *ᶠ theta))) (sum_scale m (neg_f theta) (λ k. b k i *ᶠ alpha k))
      ∙ ap (λ z. (sum_to m (λ k. b k i *ᶠ x k) +ᶠ neg_f theta *ᶠ sum_to m (λ k. b k i *ᶠ alpha k)) +ᶠ z) (sum_unit m p (λ k. c i *ᶠ theta) lp)
      ∙ ap (λ z. (z +ᶠ neg_f theta *ᶠ sum_to m (λ k. b k i *ᶠ alpha k)) +ᶠ c i *ᶠ theta) (sx.at i l)
      ∙ ap (λ z. (r i +ᶠ neg_f theta *ᶠ z) +ᶠ c i *ᶠ theta) (sa.at i l)
      ∙ by_ring_f (r i ∷ theta ∷ c i ∷ []) (var 0 ⊕ (⊖ (var 1)) ⊗ var 2 ⊕ var 2 ⊗ var 1) (var 0) refl;
}

-- so a basis stays regular at a pivot that is not 0
pub inverse_after_pivot : (m p : ℕ) (b v : ℕ → ℕ → Fraction) (c alpha : ℕ → Fraction) →
    p < m → Solves m b alpha c → ¬ (alpha p ≡ of_int (pos 0)) → IsInverse m b v →
    IsInverse m (replaced b p c) (λ j. stepped p alpha (v j p /ᶠ alpha p) (v j))
inverse_after_pivot m p b v c alpha lp sa nz inv = record {
  at = λ j l.
      solves_after_pivot m p b c alpha (v j) (unit j) (v j p /ᶠ alpha p) lp sa (inv.at j l)
      (div_mul_f (v j p) (alpha p) nz);
}
