-- The order under sums, negations, products, inverses and quotients.
use Rattle.std.proofs.Common.{◌≡◌, ◌↔◌, ℕ, [], ◌∷◌, refl, sym, ap, ◌∙◌, subst, arith, ⊎_elim}
use lib.IntN.{ℤ, pos, ◌*ℤ◌}
use lib.Signed.{◌≤ℤ◌, ◌<ℤ◌}
use Rattle.std.proofs.lemmas.Int.{ints}
use Rattle.pami_algebra.specs.Fraction.{Fraction}
use Rattle.pami_algebra.specs.Integers.{by_ring_ℤ}
use Rattle.pami_algebra.specs.Ring.{var, t0, t1, ◌⊕◌, ◌⊗◌, ⊖}
use Rattle.pami_algebra.specs.Lowest.{itself}
use Rattle.pami_algebra.specs.Operations.{◌+ᶠ◌, ◌*ᶠ◌, ◌-ᶠ◌, ◌/ᶠ◌, neg_f, of_int, inv_f, ◌≤ᶠ◌, ◌<ᶠ◌}
use Rattle.pami_algebra.proofs.Laws.{by_ring_f, add_comm_f, mul_comm_f, mul_inv_f, int_ratio}
use Rattle.pami_algebra.proofs.Field.{nil_mul_f, neg_nil_f, neg_neg_f, inv_neg_f, mul_not_zero_f, div_mul_f}
use Rattle.pami_algebra.proofs.Order.{le_moved, le_in_ratio, le_out_ratio, le_trans_f, le_total_f, add_le_f, mul_nonneg_f}
use Rattle.pami_algebra.proofs.Strict.{lt_moved, lt_in_ratio, lt_out_ratio, lt_or_le_f, not_le_f, lt_by_not_f, lt_le_f, lt_other_f, lt_by_other_f, le_lt_trans_f, lt_le_trans_f}
use Rattle.pami_algebra.proofs.Whole.{of_int_lt}
use Rattle.pami_algebra.proofs.Bounds.{le_moved_f, le_by, gap_of}

-- an order of equal fractions
pub lt_moved_f : (p q p' q' : Fraction) → p ≡ p' → q ≡ q' → p <ᶠ q → p' <ᶠ q'
lt_moved_f p q p' q' e f h = subst (λ z. z <ᶠ q') e (subst (λ z. p <ᶠ z) f h)

-- ---- sums: what is added on both sides keeps the order, and can be taken away
pub add_le_left_f : (p q r : Fraction) → p ≤ᶠ q → (r +ᶠ p) ≤ᶠ (r +ᶠ q)
add_le_left_f p q r h = le_moved_f (p +ᶠ r) (q +ᶠ r) (r +ᶠ p) (r +ᶠ q) (add_comm_f p r) (add_comm_f q r) (add_le_f p q r h)

pub add_le_both_f : (p q r s : Fraction) → p ≤ᶠ q → r ≤ᶠ s → (p +ᶠ r) ≤ᶠ (q +ᶠ s)
add_le_both_f p q r s h k = le_trans_f (p +ᶠ r) (q +ᶠ r) (q +ᶠ s) (add_le_f p q r h) (add_le_left_f r s q k)

pub cancel_add_le_f : (p q r : Fraction) → (p +ᶠ r) ≤ᶠ (q +ᶠ r) → p ≤ᶠ q
cancel_add_le_f p q r h = le_moved_f ((p +ᶠ r) +ᶠ neg_f r) ((q +ᶠ r) +ᶠ neg_f r) p q
    (by_ring_f (p ∷ r ∷ []) (var 0 ⊕ var 1 ⊕ ⊖ (var 1)) (var 0) refl)
    (by_ring_f (q ∷ r ∷ []) (var 0 ⊕ var 1 ⊕ ⊖ (var 1)) (var 0) refl)
    (add_le_f (p +ᶠ r) (q +ᶠ r) (neg_f r) h)

pub add_lt_f : (p q r : Fraction) → p <ᶠ q → (p +ᶠ r) <ᶠ (q +ᶠ r)
add_lt_f p q r h = lt_by_not_f (p +ᶠ r) (q +ᶠ r) (λ k. not_le_f p q h (cancel_add_le_f q p r k))

pub add_lt_left_f : (p q r : Fraction) → p <ᶠ q → (r +ᶠ p) <ᶠ (r +ᶠ q)
add_lt_left_f p q r h = lt_moved_f (p +ᶠ r) (q +ᶠ r) (r +ᶠ p) (r +ᶠ q) (add_comm_f p r) (add_comm_f q r) (add_lt_f p q r h)

pub add_lt_le_f : (p q r s : Fraction) → p <ᶠ q → r ≤ᶠ s → (p +ᶠ r) <ᶠ (q +ᶠ s)
add_lt_le_f p q r s h k = lt_le_trans_f (p +ᶠ r) (q +ᶠ r) (q +ᶠ s) (add_lt_f p q r h) (add_le_left_f r s q k)

pub add_le_lt_f : (p q r s : Fraction) → p ≤ᶠ q → r <ᶠ s → (p +ᶠ r) <ᶠ (q +ᶠ s)
add_le_lt_f p q r s h k = le_lt_trans_f (p +ᶠ r) (q +ᶠ r) (q +ᶠ s) (add_le_f p q r h) (add_lt_left_f r s q k)

pub cancel_add_lt_f : (p q r : Fraction) → (p +ᶠ r) <ᶠ (q +ᶠ r) → p <ᶠ q
cancel_add_lt_f p q r h = lt_by_not_f p q (λ k. not_le_f (p +ᶠ r) (q +ᶠ r) h (add_le_f q p r k))

-- ---- differences: p is at most q where q - p is at least 0
pub le_from_gap : (p q : Fraction) → of_int (pos 0) ≤ᶠ (q -ᶠ p) → p ≤ᶠ q
le_from_gap p q h = le_by p q (q -ᶠ p) h (by_ring_f (p ∷ q ∷ []) (var 1) (var 0 ⊕ (var 1 ⊕ ⊖ (var 0))) refl)

pub gap_above : (p q : Fraction) → p <ᶠ q → of_int (pos 0) <ᶠ (q -ᶠ p)
gap_above p q h = lt_moved_f (p +ᶠ neg_f p) (q +ᶠ neg_f p) (of_int (pos 0)) (q -ᶠ p) (by_ring_f (p ∷ []) (var 0 ⊕ ⊖ (var 0)) t0 refl) refl (add_lt_f p q (neg_f p) h)

pub lt_from_gap : (p q : Fraction) → of_int (pos 0) <ᶠ (q -ᶠ p) → p <ᶠ q
lt_from_gap p q h = lt_by_not_f p q (λ k. not_le_f (of_int (pos 0)) (q -ᶠ p) h
    (le_moved_f (q +ᶠ neg_f p) (p +ᶠ neg_f p) (q -ᶠ p) (of_int (pos 0)) refl (by_ring_f (p ∷ []) (var 0 ⊕ ⊖ (var 0)) t0 refl) (add_le_f q p (neg_f p) k)))

-- p is below q where q is p and something above 0
pub lt_by : (p q r : Fraction) → of_int (pos 0) <ᶠ r → q ≡ p +ᶠ r → p <ᶠ q
lt_by p q r h e = lt_moved_f (of_int (pos 0) +ᶠ p) (r +ᶠ p) p q (by_ring_f (p ∷ []) (t0 ⊕ var 0) (var 0) refl) (add_comm_f r p ∙ sym e) (add_lt_f (of_int (pos 0)) r p h)

-- ---- negations turn the order round
pub neg_le_f : (p q : Fraction) → p ≤ᶠ q → neg_f q ≤ᶠ neg_f p
neg_le_f p q h = le_by (neg_f q) (neg_f p) (q -ᶠ p) (gap_of p q h) (by_ring_f (p ∷ q ∷ []) (⊖ (var 0)) (⊖ (var 1) ⊕ (var 1 ⊕ ⊖ (var 0))) refl)

pub neg_lt_f : (p q : Fraction) → p <ᶠ q → neg_f q <ᶠ neg_f p
neg_lt_f p q h = lt_by (neg_f q) (neg_f p) (q -ᶠ p) (gap_above p q h) (by_ring_f (p ∷ q ∷ []) (⊖ (var 0)) (⊖ (var 1) ⊕ (var 1 ⊕ ⊖ (var 0))) refl)

pub neg_nonneg_f : (p : Fraction) → p ≤ᶠ of_int (pos 0) → of_int (pos 0) ≤ᶠ neg_f p
neg_nonneg_f p h = le_moved_f (neg_f (of_int (pos 0))) (neg_f p) (of_int (pos 0)) (neg_f p) neg_nil_f refl (neg_le_f p (of_int (pos 0)) h)

pub neg_nonpos_f : (p : Fraction) → of_int (pos 0) ≤ᶠ p → neg_f p ≤ᶠ of_int (pos 0)
neg_nonpos_f p h = le_moved_f (neg_f p) (neg_f (of_int (pos 0))) (neg_f p) (of_int (pos 0)) refl neg_nil_f (neg_le_f (of_int (pos 0)) p h)

pub neg_above_f : (p : Fraction) → p <ᶠ of_int (pos 0) → of_int (pos 0) <ᶠ neg_f p
neg_above_f p h = lt_moved_f (neg_f (of_int (pos 0))) (neg_f p) (of_int (pos 0)) (neg_f p) neg_nil_f refl (neg_lt_f p (of_int (pos 0)) h)

pub neg_below_f : (p : Fraction) → of_int (pos 0) <ᶠ p → neg_f p <ᶠ of_int (pos 0)
neg_below_f p h = lt_moved_f (neg_f p) (neg_f (of_int (pos 0))) (neg_f p) (of_int (pos 0)) refl neg_nil_f (neg_lt_f (of_int (pos 0)) p h)

-- ---- signs of products and squares
above_not_zero : (p : Fraction) → of_int (pos 0) <ᶠ p → ¬ (p ≡ of_int (pos 0))
above_not_zero p h e = lt_other_f (of_int (pos 0)) p h (sym e)

pub mul_above_f : (p q : Fraction) → of_int (pos 0) <ᶠ p → of_int (pos 0) <ᶠ q → of_int (pos 0) <ᶠ (p *ᶠ q)
mul_above_f p q h k = lt_by_other_f (of_int (pos 0)) (p *ᶠ q)
    (mul_nonneg_f p q (lt_le_f (of_int (pos 0)) p h) (lt_le_f (of_int (pos 0)) q k))
    (λ e. mul_not_zero_f p q (above_not_zero p h) (above_not_zero q k) (sym e))

pub square_nonneg_f : (p : Fraction) → of_int (pos 0) ≤ᶠ (p *ᶠ p)
square_nonneg_f p = ⊎_elim
    (λ (h : of_int (pos 0) ≤ᶠ p). mul_nonneg_f p p h h)
    (λ (h : p ≤ᶠ of_int (pos 0)). le_moved_f (of_int (pos 0)) (neg_f p *ᶠ neg_f p) (of_int (pos 0)) (p *ᶠ p) refl (by_ring_f (p ∷ []) ((⊖ (var 0)) ⊗ (⊖ (var 0))) (var 0 ⊗ var 0) refl) (mul_nonneg_f (neg_f p) (neg_f p) (neg_nonneg_f p h) (neg_nonneg_f p h)))
    (le_total_f (of_int (pos 0)) p)

-- ---- products with what is at least 0, or above 0
pub mul_le_f : (p q r : Fraction) → of_int (pos 0) ≤ᶠ r → p ≤ᶠ q → (p *ᶠ r) ≤ᶠ (q *ᶠ r)
mul_le_f p q r k h = le_by (p *ᶠ r) (q *ᶠ r) ((q -ᶠ p) *ᶠ r) (mul_nonneg_f (q -ᶠ p) r (gap_of p q h) k)
    (by_ring_f (p ∷ q ∷ r ∷ []) (var 1 ⊗ var 2) (var 0 ⊗ var 2 ⊕ (var 1 ⊕ ⊖ (var 0)) ⊗ var 2) refl)

pub mul_le_left_f : (p q r : Fraction) → of_int (pos 0) ≤ᶠ r → p ≤ᶠ q → (r *ᶠ p) ≤ᶠ (r *ᶠ q)
mul_le_left_f p q r k h = le_moved_f (p *ᶠ r) (q *ᶠ r) (r *ᶠ p) (r *ᶠ q) (mul_comm_f p r) (mul_comm_f q r) (mul_le_f p q r k h)

pub mul_lt_f : (p q r : Fraction) → of_int (pos 0) <ᶠ r → p <ᶠ q → (p *ᶠ r) <ᶠ (q *ᶠ r)
mul_lt_f p q r k h = lt_by (p *ᶠ r) (q *ᶠ r) ((q -ᶠ p) *ᶠ r) (mul_above_f (q -ᶠ p) r (gap_above p q h) k)
    (by_ring_f (p ∷ q ∷ r ∷ []) (var 1 ⊗ var 2) (var 0 ⊗ var 2 ⊕ (var 1 ⊕ ⊖ (var 0)) ⊗ var 2) refl)

pub mul_lt_left_f : (p q r : Fraction) → of_int (pos 0) <ᶠ r → p <ᶠ q → (r *ᶠ p) <ᶠ (r *ᶠ q)
mul_lt_left_f p q r k h = lt_moved_f (p *ᶠ r) (q *ᶠ r) (r *ᶠ p) (r *ᶠ q) (mul_comm_f p r) (mul_comm_f q r) (mul_lt_f p q r k h)

pub cancel_mul_le_f : (p q r : Fraction) → of_int (pos 0) <ᶠ r → (p *ᶠ r) ≤ᶠ (q *ᶠ r) → p ≤ᶠ q
cancel_mul_le_f p q r k h = ⊎_elim (λ (l : q <ᶠ p). absurd (not_le_f (q *ᶠ r) (p *ᶠ r) (mul_lt_f q p r k l) h)) (λ (l : p ≤ᶠ q). l) (lt_or_le_f q p)

pub cancel_mul_lt_f : (p q r : Fraction) → of_int (pos 0) ≤ᶠ r → (p *ᶠ r) <ᶠ (q *ᶠ r) → p <ᶠ q
cancel_mul_lt_f p q r k h = lt_by_not_f p q (λ l. not_le_f (p *ᶠ r) (q *ᶠ r) h (mul_le_f q p r k l))

-- ---- products with what is at most 0, or below 0: the order turns round
pub mul_le_neg_f : (p q r : Fraction) → r ≤ᶠ of_int (pos 0) → p ≤ᶠ q → (q *ᶠ r) ≤ᶠ (p *ᶠ r)
mul_le_neg_f p q r k h = le_by (q *ᶠ r) (p *ᶠ r) ((q -ᶠ p) *ᶠ neg_f r) (mul_nonneg_f (q -ᶠ p) (neg_f r) (gap_of p q h) (neg_nonneg_f r k))
    (by_ring_f (p ∷ q ∷ r ∷ []) (var 0 ⊗ var 2) (var 1 ⊗ var 2 ⊕ (var 1 ⊕ ⊖ (var 0)) ⊗ (⊖ (var 2))) refl)

pub mul_lt_neg_f : (p q r : Fraction) → r <ᶠ of_int (pos 0) → p <ᶠ q → (q *ᶠ r) <ᶠ (p *ᶠ r)
mul_lt_neg_f p q r k h = lt_by (q *ᶠ r) (p *ᶠ r) ((q -ᶠ p) *ᶠ neg_f r) (mul_above_f (q -ᶠ p) (neg_f r) (gap_above p q h) (neg_above_f r k))
    (by_ring_f (p ∷ q ∷ r ∷ []) (var 0 ⊗ var 2) (var 1 ⊗ var 2 ⊕ (var 1 ⊕ ⊖ (var 0)) ⊗ (⊖ (var 2))) refl)

-- ---- inverses keep the sign, and turn the order of what is above 0 round
pub zero_lt_one_f : of_int (pos 0) <ᶠ of_int (pos 1)
zero_lt_one_f = (of_int_lt (pos 0) (pos 1)).1 (omega (arith, ints))

pub inv_above_f : (p : Fraction) → of_int (pos 0) <ᶠ p → of_int (pos 0) <ᶠ inv_f p
inv_above_f p h = cancel_mul_lt_f (of_int (pos 0)) (inv_f p) p (lt_le_f (of_int (pos 0)) p h)
    (lt_moved_f (of_int (pos 0)) (of_int (pos 1)) (of_int (pos 0) *ᶠ p) (inv_f p *ᶠ p) (sym (nil_mul_f p)) (sym (mul_inv_f p (above_not_zero p h)) ∙ mul_comm_f p (inv_f p)) zero_lt_one_f)

pub inv_below_f : (p : Fraction) → p <ᶠ of_int (pos 0) → inv_f p <ᶠ of_int (pos 0)
inv_below_f p h = lt_moved_f (neg_f (inv_f (neg_f p))) (of_int (pos 0)) (inv_f p) (of_int (pos 0)) (ap neg_f (inv_neg_f p) ∙ neg_neg_f (inv_f p)) refl
    (neg_below_f (inv_f (neg_f p)) (inv_above_f (neg_f p) (neg_above_f p h)))

-- ---- quotients by what is above 0
pub div_le_f : (p q r : Fraction) → of_int (pos 0) <ᶠ r → ((p /ᶠ r) ≤ᶠ q) ↔ (p ≤ᶠ (q *ᶠ r))
div_le_f p q r k =
    let e : (p /ᶠ r) *ᶠ r ≡ p = div_mul_f p r (above_not_zero r k) in (
      λ h. le_moved_f ((p /ᶠ r) *ᶠ r) (q *ᶠ r) p (q *ᶠ r) e refl (mul_le_f (p /ᶠ r) q r (lt_le_f (of_int (pos 0)) r k) h),
      λ h. cancel_mul_le_f (p /ᶠ r) q r k (le_moved_f p (q *ᶠ r) ((p /ᶠ r) *ᶠ r) (q *ᶠ r) (sym e) refl h),
    )

pub le_div_f : (p q r : Fraction) → of_int (pos 0) <ᶠ r → (q ≤ᶠ (p /ᶠ r)) ↔ ((q *ᶠ r) ≤ᶠ p)
le_div_f p q r k =
    let e : (p /ᶠ r) *ᶠ r ≡ p = div_mul_f p r (above_not_zero r k) in (
      λ h. le_moved_f (q *ᶠ r) ((p /ᶠ r) *ᶠ r) (q *ᶠ r) p refl e (mul_le_f q (p /ᶠ r) r (lt_le_f (of_int (pos 0)) r k) h),
      λ h. cancel_mul_le_f q (p /ᶠ r) r k (le_moved_f (q *ᶠ r) p (q *ᶠ r) ((p /ᶠ r) *ᶠ r) refl (sym e) h),
    )

pub div_lt_f : (p q r : Fraction) → of_int (pos 0) <ᶠ r → ((p /ᶠ r) <ᶠ q) ↔ (p <ᶠ (q *ᶠ r))
div_lt_f p q r k =
    let e : (p /ᶠ r) *ᶠ r ≡ p = div_mul_f p r (above_not_zero r k) in (
      λ h. lt_moved_f ((p /ᶠ r) *ᶠ r) (q *ᶠ r) p (q *ᶠ r) e refl (mul_lt_f (p /ᶠ r) q r k h),
      λ h. cancel_mul_lt_f (p /ᶠ r) q r (lt_le_f (of_int (pos 0)) r k) (lt_moved_f p (q *ᶠ r) ((p /ᶠ r) *ᶠ r) (q *ᶠ r) (sym e) refl h),
    )

pub lt_div_f : (p q r : Fraction) → of_int (pos 0) <ᶠ r → (q <ᶠ (p /ᶠ r)) ↔ ((q *ᶠ r) <ᶠ p)
lt_div_f p q r k =
    let e : (p /ᶠ r) *ᶠ r ≡ p = div_mul_f p r (above_not_zero r k) in (
      λ h. lt_moved_f (q *ᶠ r) ((p /ᶠ r) *ᶠ r) (q *ᶠ r) p refl e (mul_lt_f q (p /ᶠ r) r k h),
      λ h. cancel_mul_lt_f q (p /ᶠ r) r (lt_le_f (of_int (pos 0)) r k) (lt_moved_f (q *ᶠ r) p (q *ᶠ r) ((p /ᶠ r) *ᶠ r) refl (sym e) h),
    )

-- ---- the sign of a fraction is that of its numerator
zero_side : (d : ℕ) → pos 0 *ℤ pos d ≡ pos 0
zero_side d = by_ring_ℤ (pos d ∷ []) (t0 ⊗ var 0) t0 refl

num_side : (n : ℤ) → n *ℤ pos 1 ≡ n
num_side n = by_ring_ℤ (n ∷ []) (var 0 ⊗ t1) (var 0) refl

pub nonneg_num : (p : Fraction) → (of_int (pos 0) ≤ᶠ p) ↔ (pos 0 ≤ℤ p.num)
nonneg_num p = (
  λ h. le_moved (pos 0 *ℤ pos p.den) (p.num *ℤ pos 1) (pos 0) p.num (zero_side p.den) (num_side p.num) (le_out_ratio _ _ _ _ _ _ (int_ratio (pos 0)) (itself p) h),
  λ h. le_in_ratio _ _ _ _ _ _ (int_ratio (pos 0)) (itself p) (le_moved (pos 0) p.num (pos 0 *ℤ pos p.den) (p.num *ℤ pos 1) (sym (zero_side p.den)) (sym (num_side p.num)) h),
)

pub above_num : (p : Fraction) → (of_int (pos 0) <ᶠ p) ↔ (pos 0 <ℤ p.num)
above_num p = (
  λ h. lt_moved (pos 0 *ℤ pos p.den) (p.num *ℤ pos 1) (pos 0) p.num (zero_side p.den) (num_side p.num) (lt_out_ratio _ _ _ _ _ _ (int_ratio (pos 0)) (itself p) h),
  λ h. lt_in_ratio _ _ _ _ _ _ (int_ratio (pos 0)) (itself p) (lt_moved (pos 0) p.num (pos 0 *ℤ pos p.den) (p.num *ℤ pos 1) (sym (zero_side p.den)) (sym (num_side p.num)) h),
)

pub below_num : (p : Fraction) → (p <ᶠ of_int (pos 0)) ↔ (p.num <ℤ pos 0)
below_num p = (
  λ h. lt_moved (p.num *ℤ pos 1) (pos 0 *ℤ pos p.den) p.num (pos 0) (num_side p.num) (zero_side p.den) (lt_out_ratio _ _ _ _ _ _ (itself p) (int_ratio (pos 0)) h),
  λ h. lt_in_ratio _ _ _ _ _ _ (itself p) (int_ratio (pos 0)) (lt_moved p.num (pos 0) (p.num *ℤ pos 1) (pos 0 *ℤ pos p.den) (sym (num_side p.num)) (sym (zero_side p.den)) h),
)
