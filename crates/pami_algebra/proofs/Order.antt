-- The order of fractions: by any ratios, total, kept by sums, and the sign of products.
use Rattle.std.proofs.Common.{◌≡◌, ℕ, suc, ◌+◌, ◌-◌, ◌*◌, ◌<◌, [], ◌∷◌, refl, sym, ap, ◌∙◌, subst, arith, ◌⊎◌, inl, inr}
use lib.IntN.{ℤ, pos, ◌+ℤ◌, ◌*ℤ◌}
use lib.Signed.{◌≤ℤ◌, ◌<ℤ◌}
use borrow.Author.Differences.{up, down}
use Rattle.std.proofs.lemmas.Int.{ints, by_lt_z}
use Rattle.pami_algebra.specs.Fraction.{Fraction}
use Rattle.pami_algebra.specs.Integers.{by_ring_ℤ}
use Rattle.pami_algebra.specs.Ring.{var, t0, t1, ◌⊕◌, ◌⊗◌}
use Rattle.pami_algebra.specs.Lowest.{IsRatio, itself, same_ratio, den_pos, mul_pos}
use Rattle.pami_algebra.specs.Operations.{◌+ᶠ◌, ◌*ᶠ◌, of_int, ◌≤ᶠ◌}
use Rattle.pami_algebra.proofs.Laws.{add_ratio, mul_ratio, int_ratio}

-- ---- the order of whole numbers
-- a ≤ b is b = a + j
pub gap : (a b : ℤ) → a ≤ℤ b → (j : ℕ) × (b ≡ a +ℤ pos j)
gap a b h = ((up b + down a) - (up a + down b), omega (arith, ints))

pub from_gap : (a b : ℤ) (j : ℕ) → b ≡ a +ℤ pos j → a ≤ℤ b
from_gap a b j e = omega (arith, ints)

-- a factor keeps the order, and one above 0 can be left out
pub mul_le_ℤ : (a b : ℤ) (k : ℕ) → a ≤ℤ b → (a *ℤ pos k) ≤ℤ (b *ℤ pos k)
mul_le_ℤ a b k h =
    let g = gap a b h in
    from_gap _ _ (g.0 * k) (ap (λ z. z *ℤ pos k) g.1 ∙ by_ring_ℤ (a ∷ pos g.0 ∷ pos k ∷ []) ((var 0 ⊕ var 1) ⊗ var 2) (var 0 ⊗ var 2 ⊕ var 1 ⊗ var 2) refl)

cancel_le_gap : (a b : ℤ) (k j : ℕ) → 0 < k → a ≡ b +ℤ pos (suc j) → (a *ℤ pos k) ≤ℤ (b *ℤ pos k) → ⊥
cancel_le_gap a b k j p e h =
    let f : a *ℤ pos k ≡ (b *ℤ pos k) +ℤ pos (suc j * k) = ap (λ z. z *ℤ pos k) e ∙ by_ring_ℤ (b ∷ pos (suc j) ∷ pos k ∷ []) ((var 0 ⊕ var 1) ⊗ var 2) (var 0 ⊗ var 2 ⊕ var 1 ⊗ var 2) refl in
    let q : 0 < suc j * k = mul_pos (suc j) k (omega arith) p in
    omega (arith, ints)

pub cancel_le_ℤ : (a b : ℤ) (k : ℕ) → 0 < k → (a *ℤ pos k) ≤ℤ (b *ℤ pos k) → a ≤ℤ b
cancel_le_ℤ a b k p h = by_lt_z b a
    (λ l. let g : (j : ℕ) × (a ≡ b +ℤ pos (suc j)) = ((up a + down b) - (up b + down a) - 1, omega (arith, ints)) in absurd (cancel_le_gap a b k g.0 p g.1 h))
    (λ l. l)

-- ---- by any ratios
-- one side of the order, in its own numbers and in those of a ratio
ratio_side : (p q : Fraction) (n : ℤ) (d e : ℕ) → IsRatio p n d → (n *ℤ pos e) *ℤ pos (p.den * q.den) ≡ (p.num *ℤ pos q.den) *ℤ pos (d * e)
ratio_side p q n d e r =
    let x0 = var 0 in let x1 = var 1 in let x2 = var 2 in let x3 = var 3 in
    by_ring_ℤ (n ∷ pos e ∷ pos p.den ∷ pos q.den ∷ []) (x0 ⊗ x1 ⊗ (x2 ⊗ x3)) (x0 ⊗ x2 ⊗ (x1 ⊗ x3)) refl
    ∙ ap (λ z. z *ℤ (pos e *ℤ pos q.den)) (sym r.cross)
    ∙ by_ring_ℤ (p.num ∷ pos d ∷ pos e ∷ pos q.den ∷ []) (x0 ⊗ x1 ⊗ (x2 ⊗ x3)) (x0 ⊗ x3 ⊗ (x1 ⊗ x2)) refl

flipped : (a : ℤ) (c d : ℕ) → a *ℤ pos (c * d) ≡ a *ℤ pos (d * c)
flipped a c d = ap (λ n. a *ℤ pos n) (omega arith)

pub le_moved : (a b a' b' : ℤ) → a ≡ a' → b ≡ b' → a ≤ℤ b → a' ≤ℤ b'
le_moved a b a' b' e f h = subst (λ z. z ≤ℤ b') e (subst (λ z. a ≤ℤ z) f h)

-- an order of cross products, into one of fractions and out of it
pub le_in_ratio : (p q : Fraction) (n m : ℤ) (d e : ℕ) → IsRatio p n d → IsRatio q m e → (n *ℤ pos e) ≤ℤ (m *ℤ pos d) → p ≤ᶠ q
le_in_ratio p q n m d e r s h =
    record {
      le = cancel_le_ℤ _ _ (d * e) (mul_pos d e r.positive s.positive)
          (le_moved _ _ _ _ (ratio_side p q n d e r) (flipped (m *ℤ pos d) p.den q.den ∙ ratio_side q p m e d s ∙ flipped (q.num *ℤ pos p.den) e d) (mul_le_ℤ _ _ (p.den * q.den) h));
    }

pub le_out_ratio : (p q : Fraction) (n m : ℤ) (d e : ℕ) → IsRatio p n d → IsRatio q m e → p ≤ᶠ q → (n *ℤ pos e) ≤ℤ (m *ℤ pos d)
le_out_ratio p q n m d e r s h =
    cancel_le_ℤ _ _ (p.den * q.den) (mul_pos p.den q.den (den_pos p) (den_pos q))
    (le_moved _ _ _ _ (sym (ratio_side p q n d e r)) (sym (flipped (m *ℤ pos d) p.den q.den ∙ ratio_side q p m e d s ∙ flipped (q.num *ℤ pos p.den) e d)) (mul_le_ℤ _ _ (d * e) h.le))

-- ---- a total order
pub le_refl_f : (p : Fraction) → p ≤ᶠ p
le_refl_f p = record { le = lib.Signed.≤ℤ_refl _ }

pub le_antisymm_f : (p q : Fraction) → p ≤ᶠ q → q ≤ᶠ p → p ≡ q
le_antisymm_f p q h k = same_ratio p q _ _ _ _ (itself p) (itself q) (let a = h.le in let b = k.le in omega (arith, ints))

pub le_total_f : (p q : Fraction) → (p ≤ᶠ q) ⊎ (q ≤ᶠ p)
le_total_f p q = by_lt_z (p.num *ℤ pos q.den) (q.num *ℤ pos p.den) (λ l. inl (record { le = omega (arith, ints) })) (λ l. inr (record { le = l }))

pub le_trans_f : (p q r : Fraction) → p ≤ᶠ q → q ≤ᶠ r → p ≤ᶠ r
le_trans_f p q r h k =
    let a = mul_le_ℤ _ _ r.den h.le in
    let b = mul_le_ℤ _ _ p.den k.le in
    let x0 = var 0 in let x1 = var 1 in let x2 = var 2 in
    let s1 : (p.num *ℤ pos q.den) *ℤ pos r.den ≡ (p.num *ℤ pos r.den) *ℤ pos q.den = by_ring_ℤ (p.num ∷ pos q.den ∷ pos r.den ∷ []) (x0 ⊗ x1 ⊗ x2) (x0 ⊗ x2 ⊗ x1) refl in
    let s2 : (q.num *ℤ pos p.den) *ℤ pos r.den ≡ (q.num *ℤ pos r.den) *ℤ pos p.den = by_ring_ℤ (q.num ∷ pos p.den ∷ pos r.den ∷ []) (x0 ⊗ x1 ⊗ x2) (x0 ⊗ x2 ⊗ x1) refl in
    let s3 : (r.num *ℤ pos q.den) *ℤ pos p.den ≡ (r.num *ℤ pos p.den) *ℤ pos q.den = by_ring_ℤ (r.num ∷ pos q.den ∷ pos p.den ∷ []) (x0 ⊗ x1 ⊗ x2) (x0 ⊗ x2 ⊗ x1) refl in
    record { le = cancel_le_ℤ _ _ q.den (den_pos q) (omega (arith, ints)) }

-- ---- sums and products
pub add_le_f : (p q r : Fraction) → p ≤ᶠ q → (p +ᶠ r) ≤ᶠ (q +ᶠ r)
add_le_f p q r h =
    let g = gap _ _ h.le in
    let a = var 0 in let b = var 1 in let c = var 2 in let d = var 3 in let e = var 4 in let f = var 5 in let j = var 6 in
    le_in_ratio _ _ _ _ _ _ (add_ratio p r _ _ _ _ (itself p) (itself r)) (add_ratio q r _ _ _ _ (itself q) (itself r))
    (from_gap _ _ (g.0 * (r.den * r.den))
    (by_ring_ℤ (p.num ∷ pos p.den ∷ q.num ∷ pos q.den ∷ r.num ∷ pos r.den ∷ []) ((c ⊗ f ⊕ e ⊗ d) ⊗ (b ⊗ f)) ((c ⊗ b) ⊗ (f ⊗ f) ⊕ e ⊗ d ⊗ (b ⊗ f)) refl
    ∙ ap (λ z. z *ℤ (pos r.den *ℤ pos r.den) +ℤ r.num *ℤ pos q.den *ℤ (pos p.den *ℤ pos r.den)) g.1
    ∙ by_ring_ℤ (p.num ∷ pos p.den ∷ q.num ∷ pos q.den ∷ r.num ∷ pos r.den ∷ pos g.0 ∷ []) ((a ⊗ d ⊕ j) ⊗ (f ⊗ f) ⊕ e ⊗ d ⊗ (b ⊗ f)) ((a ⊗ f ⊕ e ⊗ b) ⊗ (d ⊗ f) ⊕ j ⊗ (f ⊗ f)) refl))

-- a fraction of at least 0 has such a numerator
nonneg_out : (p : Fraction) → of_int (pos 0) ≤ᶠ p → pos 0 ≤ℤ p.num
nonneg_out p h = let l = le_out_ratio _ _ _ _ _ _ (int_ratio (pos 0)) (itself p) h in le_moved _ _ _ _ (by_ring_ℤ (pos p.den ∷ []) (t0 ⊗ var 0) t0 refl) (by_ring_ℤ (p.num ∷ []) (var 0 ⊗ t1) (var 0) refl) l

pub mul_nonneg_f : (p q : Fraction) → of_int (pos 0) ≤ᶠ p → of_int (pos 0) ≤ᶠ q → of_int (pos 0) ≤ᶠ (p *ᶠ q)
mul_nonneg_f p q h k =
    let a = gap _ _ (nonneg_out p h) in
    let b = gap _ _ (nonneg_out q k) in
    le_in_ratio _ _ _ _ _ _ (int_ratio (pos 0)) (mul_ratio p q _ _ _ _ (itself p) (itself q))
    (from_gap _ _ (a.0 * b.0) (ap (λ z. (z *ℤ q.num) *ℤ pos 1) a.1 ∙ ap (λ z. ((pos 0 +ℤ pos a.0) *ℤ z) *ℤ pos 1) b.1
    ∙ by_ring_ℤ (pos a.0 ∷ pos b.0 ∷ pos p.den ∷ pos q.den ∷ []) ((t0 ⊕ var 0) ⊗ (t0 ⊕ var 1) ⊗ t1) (t0 ⊗ (var 2 ⊗ var 3) ⊕ var 0 ⊗ var 1) refl))
