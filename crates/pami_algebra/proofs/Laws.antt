-- The ratios of results, the laws of a commutative ring with its solver, and the inverse.
use Rattle.std.proofs.Common.{◌≡◌, ℕ, zero, suc, ◌*◌, ◌<◌, List, [], ◌∷◌, refl, ap, ◌∙◌, arith}
use lib.IntN.{ℤ, pos, negsuc, neg_ℤ, ◌+ℤ◌, ◌*ℤ◌}
use Rattle.pami_algebra.specs.Fraction.{Fraction}
use Rattle.pami_algebra.specs.Integers.{by_ring_ℤ}
use Rattle.pami_algebra.specs.Ring.{IsRing, Term, var, t0, t1, ◌⊕◌, ◌⊗◌, ⊖, normal, value, by_ring}
use Rattle.pami_algebra.specs.Lowest.{IsRatio, itself, same_ratio, den_pos, mul_pos, again}
use Rattle.pami_algebra.specs.Reduced.{over_ratio}
use Rattle.pami_algebra.specs.Operations.{◌+ᶠ◌, ◌*ᶠ◌, neg_f, of_int, inv_f, over_int}

-- ---- the ratio of a result, from any ratios of its operands
pub add_ratio : (p q : Fraction) (n m : ℤ) (d e : ℕ) → IsRatio p n d → IsRatio q m e → IsRatio (p +ᶠ q) (n *ℤ pos e +ℤ m *ℤ pos d) (d * e)
unfolding ◌+ᶠ◌
add_ratio p q n m d e r s =
    let x0 = var 0 in let x1 = var 1 in let x2 = var 2 in let x3 = var 3 in let x4 = var 4 in let x5 = var 5 in
    again (p +ᶠ q) (p.num *ℤ pos q.den +ℤ q.num *ℤ pos p.den) (n *ℤ pos e +ℤ m *ℤ pos d) (p.den * q.den) (d * e)
    (over_ratio _ (p.den * q.den) (mul_pos p.den q.den (den_pos p) (den_pos q))) (mul_pos d e r.positive s.positive)
    (by_ring_ℤ (p.num ∷ pos q.den ∷ q.num ∷ pos p.den ∷ pos d ∷ pos e ∷ []) ((x0 ⊗ x1 ⊕ x2 ⊗ x3) ⊗ (x4 ⊗ x5)) ((x0 ⊗ x4) ⊗ (x1 ⊗ x5) ⊕ (x2 ⊗ x5) ⊗ (x3 ⊗ x4)) refl
    ∙ ap (λ z. z *ℤ (pos q.den *ℤ pos e) +ℤ (q.num *ℤ pos e) *ℤ (pos p.den *ℤ pos d)) r.cross
    ∙ ap (λ z. (n *ℤ pos p.den) *ℤ (pos q.den *ℤ pos e) +ℤ z *ℤ (pos p.den *ℤ pos d)) s.cross
    ∙ by_ring_ℤ (n ∷ pos p.den ∷ pos q.den ∷ pos e ∷ m ∷ pos d ∷ []) ((x0 ⊗ x1) ⊗ (x2 ⊗ x3) ⊕ (x4 ⊗ x2) ⊗ (x1 ⊗ x5)) ((x0 ⊗ x3 ⊕ x4 ⊗ x5) ⊗ (x1 ⊗ x2)) refl)

pub mul_ratio : (p q : Fraction) (n m : ℤ) (d e : ℕ) → IsRatio p n d → IsRatio q m e → IsRatio (p *ᶠ q) (n *ℤ m) (d * e)
unfolding ◌*ᶠ◌
mul_ratio p q n m d e r s =
    let x0 = var 0 in let x1 = var 1 in let x2 = var 2 in let x3 = var 3 in
    again (p *ᶠ q) (p.num *ℤ q.num) (n *ℤ m) (p.den * q.den) (d * e)
    (over_ratio _ (p.den * q.den) (mul_pos p.den q.den (den_pos p) (den_pos q))) (mul_pos d e r.positive s.positive)
    (by_ring_ℤ (p.num ∷ q.num ∷ pos d ∷ pos e ∷ []) (x0 ⊗ x1 ⊗ (x2 ⊗ x3)) ((x0 ⊗ x2) ⊗ (x1 ⊗ x3)) refl
    ∙ ap (λ z. z *ℤ (q.num *ℤ pos e)) r.cross
    ∙ ap (λ z. (n *ℤ pos p.den) *ℤ z) s.cross
    ∙ by_ring_ℤ (n ∷ pos p.den ∷ m ∷ pos q.den ∷ []) ((x0 ⊗ x1) ⊗ (x2 ⊗ x3)) (x0 ⊗ x2 ⊗ (x1 ⊗ x3)) refl)

pub neg_ratio : (p : Fraction) (n : ℤ) (d : ℕ) → IsRatio p n d → IsRatio (neg_f p) (neg_ℤ n) d
unfolding neg_f
neg_ratio p n d r =
    let x0 = var 0 in let x1 = var 1 in
    again (neg_f p) (neg_ℤ p.num) (neg_ℤ n) p.den d (over_ratio _ p.den (den_pos p)) r.positive
    (by_ring_ℤ (p.num ∷ pos d ∷ []) ((⊖ x0) ⊗ x1) (⊖ (x0 ⊗ x1)) refl
    ∙ ap neg_ℤ r.cross
    ∙ by_ring_ℤ (n ∷ pos p.den ∷ []) (⊖ (x0 ⊗ x1)) ((⊖ x0) ⊗ x1) refl)

pub int_ratio : (n : ℤ) → IsRatio (of_int n) n 1
unfolding of_int
int_ratio n = over_ratio n 1 (omega arith)

-- ---- the ratio of a result, from the operands' own numbers
pub add_of : (p q : Fraction) → IsRatio (p +ᶠ q) (p.num *ℤ pos q.den +ℤ q.num *ℤ pos p.den) (p.den * q.den)
add_of p q = add_ratio p q p.num q.num p.den q.den (itself p) (itself q)

pub mul_of : (p q : Fraction) → IsRatio (p *ᶠ q) (p.num *ℤ q.num) (p.den * q.den)
mul_of p q = mul_ratio p q p.num q.num p.den q.den (itself p) (itself q)

-- ---- the laws of a commutative ring: each is the equality of two ratios
pub add_comm_f : (p q : Fraction) → p +ᶠ q ≡ q +ᶠ p
add_comm_f p q =
    let a = var 0 in let b = var 1 in let c = var 2 in let d = var 3 in
    same_ratio _ _ _ _ _ _ (add_of p q) (add_of q p)
    (by_ring_ℤ (p.num ∷ pos p.den ∷ q.num ∷ pos q.den ∷ []) ((a ⊗ d ⊕ c ⊗ b) ⊗ (d ⊗ b)) ((c ⊗ b ⊕ a ⊗ d) ⊗ (b ⊗ d)) refl)

pub add_assoc_f : (p q r : Fraction) → (p +ᶠ q) +ᶠ r ≡ p +ᶠ (q +ᶠ r)
add_assoc_f p q r =
    let a = var 0 in let b = var 1 in let c = var 2 in let d = var 3 in let e = var 4 in let f = var 5 in
    same_ratio _ _ _ _ _ _ (add_ratio (p +ᶠ q) r _ _ _ _ (add_of p q) (itself r)) (add_ratio p (q +ᶠ r) _ _ _ _ (itself p) (add_of q r))
    (by_ring_ℤ (p.num ∷ pos p.den ∷ q.num ∷ pos q.den ∷ r.num ∷ pos r.den ∷ [])
    (((a ⊗ d ⊕ c ⊗ b) ⊗ f ⊕ e ⊗ (b ⊗ d)) ⊗ (b ⊗ (d ⊗ f))) ((a ⊗ (d ⊗ f) ⊕ (c ⊗ f ⊕ e ⊗ d) ⊗ b) ⊗ (b ⊗ d ⊗ f)) refl)

pub add_nil_f : (p : Fraction) → p +ᶠ of_int (pos 0) ≡ p
add_nil_f p =
    let a = var 0 in let b = var 1 in
    same_ratio _ _ _ _ _ _ (add_ratio p (of_int (pos 0)) _ _ _ _ (itself p) (int_ratio (pos 0))) (itself p)
    (by_ring_ℤ (p.num ∷ pos p.den ∷ []) ((a ⊗ t1 ⊕ t0 ⊗ b) ⊗ b) (a ⊗ (b ⊗ t1)) refl)

pub add_neg_f : (p : Fraction) → p +ᶠ neg_f p ≡ of_int (pos 0)
add_neg_f p =
    let a = var 0 in let b = var 1 in
    same_ratio _ _ _ _ _ _ (add_ratio p (neg_f p) _ _ _ _ (itself p) (neg_ratio p _ _ (itself p))) (int_ratio (pos 0))
    (by_ring_ℤ (p.num ∷ pos p.den ∷ []) ((a ⊗ b ⊕ (⊖ a) ⊗ b) ⊗ t1) (t0 ⊗ (b ⊗ b)) refl)

pub mul_comm_f : (p q : Fraction) → p *ᶠ q ≡ q *ᶠ p
mul_comm_f p q =
    let a = var 0 in let b = var 1 in let c = var 2 in let d = var 3 in
    same_ratio _ _ _ _ _ _ (mul_of p q) (mul_of q p) (by_ring_ℤ (p.num ∷ pos p.den ∷ q.num ∷ pos q.den ∷ []) (a ⊗ c ⊗ (d ⊗ b)) (c ⊗ a ⊗ (b ⊗ d)) refl)

pub mul_assoc_f : (p q r : Fraction) → (p *ᶠ q) *ᶠ r ≡ p *ᶠ (q *ᶠ r)
mul_assoc_f p q r =
    let a = var 0 in let b = var 1 in let c = var 2 in let d = var 3 in let e = var 4 in let f = var 5 in
    same_ratio _ _ _ _ _ _ (mul_ratio (p *ᶠ q) r _ _ _ _ (mul_of p q) (itself r)) (mul_ratio p (q *ᶠ r) _ _ _ _ (itself p) (mul_of q r))
    (by_ring_ℤ (p.num ∷ pos p.den ∷ q.num ∷ pos q.den ∷ r.num ∷ pos r.den ∷ [])
    (a ⊗ c ⊗ e ⊗ (b ⊗ (d ⊗ f))) (a ⊗ (c ⊗ e) ⊗ (b ⊗ d ⊗ f)) refl)

pub mul_one_f : (p : Fraction) → p *ᶠ of_int (pos 1) ≡ p
mul_one_f p =
    let a = var 0 in let b = var 1 in
    same_ratio _ _ _ _ _ _ (mul_ratio p (of_int (pos 1)) _ _ _ _ (itself p) (int_ratio (pos 1))) (itself p)
    (by_ring_ℤ (p.num ∷ pos p.den ∷ []) (a ⊗ t1 ⊗ b) (a ⊗ (b ⊗ t1)) refl)

pub mul_add_f : (p q r : Fraction) → p *ᶠ (q +ᶠ r) ≡ p *ᶠ q +ᶠ p *ᶠ r
mul_add_f p q r =
    let a = var 0 in let b = var 1 in let c = var 2 in let d = var 3 in let e = var 4 in let f = var 5 in
    same_ratio _ _ _ _ _ _ (mul_ratio p (q +ᶠ r) _ _ _ _ (itself p) (add_of q r)) (add_ratio (p *ᶠ q) (p *ᶠ r) _ _ _ _ (mul_of p q) (mul_of p r))
    (by_ring_ℤ (p.num ∷ pos p.den ∷ q.num ∷ pos q.den ∷ r.num ∷ pos r.den ∷ [])
    (a ⊗ (c ⊗ f ⊕ e ⊗ d) ⊗ (b ⊗ d ⊗ (b ⊗ f))) ((a ⊗ c ⊗ (b ⊗ f) ⊕ a ⊗ e ⊗ (b ⊗ d)) ⊗ (b ⊗ (d ⊗ f))) refl)

-- ---- the ring and its solver
pub ring_f : IsRing (of_int (pos 0)) (of_int (pos 1)) ◌+ᶠ◌ ◌*ᶠ◌ neg_f
ring_f = record { add_assoc = add_assoc_f; add_comm = add_comm_f; add_nil = add_nil_f; add_neg = add_neg_f; mul_assoc = mul_assoc_f; mul_comm = mul_comm_f; mul_one = mul_one_f; mul_add = mul_add_f }

-- what a term is at the fractions of a list, by their place
abbrev pub value_f : List Fraction → Term → Fraction
value_f = value (of_int (pos 0)) (of_int (pos 1)) ◌+ᶠ◌ ◌*ᶠ◌ neg_f

-- terms with one normal form have one value: `refl` is the proof of the premise
pub by_ring_f : (xs : List Fraction) (a b : Term) → normal a ≡ normal b → value_f xs a ≡ value_f xs b
by_ring_f = by_ring (of_int (pos 0)) (of_int (pos 1)) ◌+ᶠ◌ ◌*ᶠ◌ neg_f ring_f

-- ---- the inverse
-- d / n is a ratio k / e, with n k = d e
over_int_ratio : (n : ℤ) (d : ℕ) → 0 < d → ¬ (n ≡ pos 0) → (k : ℤ) × (e : ℕ) × (IsRatio (over_int d n) k e × (n *ℤ k ≡ pos d *ℤ pos e))
over_int_ratio (pos zero) d p h = absurd (h refl)
over_int_ratio (pos (suc n)) d p h = (pos d, suc n, (over_ratio (pos d) (suc n) (omega arith), by_ring_ℤ (pos (suc n) ∷ pos d ∷ []) (var 0 ⊗ var 1) (var 1 ⊗ var 0) refl))
over_int_ratio (negsuc n) d p h = (neg_ℤ (pos d), suc n, (over_ratio (neg_ℤ (pos d)) (suc n) (omega arith), by_ring_ℤ (pos (suc n) ∷ pos d ∷ []) ((⊖ (var 0)) ⊗ (⊖ (var 1))) (var 1 ⊗ var 0) refl))

-- a numerator of 0 makes 0
pub zero_num : (p : Fraction) → p.num ≡ pos 0 → p ≡ of_int (pos 0)
zero_num p e = same_ratio _ _ _ _ _ _ (itself p) (int_ratio (pos 0)) (ap (λ z. z *ℤ pos 1) e ∙ by_ring_ℤ (pos p.den ∷ []) (t0 ⊗ t1) (t0 ⊗ var 0) refl)

-- the inverse of what isn't 0
pub mul_inv_f : (p : Fraction) → ¬ (p ≡ of_int (pos 0)) → p *ᶠ inv_f p ≡ of_int (pos 1)
unfolding inv_f
mul_inv_f p h =
    let r = over_int_ratio p.num p.den (den_pos p) (λ e. h (zero_num p e)) in
    same_ratio _ _ _ _ _ _ (mul_ratio p (over_int p.den p.num) _ _ _ _ (itself p) r.2.0) (int_ratio (pos 1))
    (by_ring_ℤ (p.num ∷ r.0 ∷ []) (var 0 ⊗ var 1 ⊗ t1) (var 0 ⊗ var 1) refl ∙ r.2.1 ∙ by_ring_ℤ (pos p.den ∷ pos r.1 ∷ []) (var 0 ⊗ var 1) (t1 ⊗ (var 0 ⊗ var 1)) refl)
