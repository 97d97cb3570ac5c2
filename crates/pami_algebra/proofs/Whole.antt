-- Whole numbers among the fractions: sums, products, negations and the order are those of the whole numbers.
use Rattle.std.proofs.Common.{◌≡◌, ◌↔◌, [], ◌∷◌, refl, sym, ap, ◌∙◌}
use lib.IntN.{ℤ, pos, neg_ℤ, ◌+ℤ◌, ◌*ℤ◌}
use lib.Signed.{◌≤ℤ◌, ◌<ℤ◌}
use Rattle.pami_algebra.specs.Fraction.{Fraction}
use Rattle.pami_algebra.specs.Integers.{by_ring_ℤ}
use Rattle.pami_algebra.specs.Ring.{var, t1, ◌⊕◌, ◌⊗◌}
use Rattle.pami_algebra.specs.Lowest.{same_ratio}
use Rattle.pami_algebra.specs.Operations.{◌+ᶠ◌, ◌*ᶠ◌, neg_f, of_int, ◌≤ᶠ◌, ◌<ᶠ◌}
use Rattle.pami_algebra.proofs.Laws.{add_ratio, mul_ratio, neg_ratio, int_ratio}
use Rattle.pami_algebra.proofs.Parts.{num_of_int}
use Rattle.pami_algebra.proofs.Order.{le_moved, le_in_ratio, le_out_ratio}
use Rattle.pami_algebra.proofs.Strict.{lt_moved, lt_in_ratio, lt_out_ratio}

-- ---- operations
pub of_int_add : (m n : ℤ) → of_int (m +ℤ n) ≡ of_int m +ᶠ of_int n
of_int_add m n =
    same_ratio _ _ _ _ _ _ (int_ratio (m +ℤ n)) (add_ratio (of_int m) (of_int n) _ _ _ _ (int_ratio m) (int_ratio n))
    (by_ring_ℤ (m ∷ n ∷ []) ((var 0 ⊕ var 1) ⊗ t1) ((var 0 ⊗ t1 ⊕ var 1 ⊗ t1) ⊗ t1) refl)

pub of_int_mul : (m n : ℤ) → of_int (m *ℤ n) ≡ of_int m *ᶠ of_int n
of_int_mul m n =
    same_ratio _ _ _ _ _ _ (int_ratio (m *ℤ n)) (mul_ratio (of_int m) (of_int n) _ _ _ _ (int_ratio m) (int_ratio n)) refl

pub of_int_neg : (n : ℤ) → of_int (neg_ℤ n) ≡ neg_f (of_int n)
of_int_neg n = same_ratio _ _ _ _ _ _ (int_ratio (neg_ℤ n)) (neg_ratio (of_int n) _ _ (int_ratio n)) refl

-- different whole numbers stay different
pub of_int_injective : (m n : ℤ) → of_int m ≡ of_int n → m ≡ n
of_int_injective m n e = sym (num_of_int m) ∙ ap (λ (p : Fraction). p.num) e ∙ num_of_int n

-- ---- the order
by_one : (n : ℤ) → n *ℤ pos 1 ≡ n
by_one n = by_ring_ℤ (n ∷ []) (var 0 ⊗ t1) (var 0) refl

pub of_int_le : (m n : ℤ) → (of_int m ≤ᶠ of_int n) ↔ (m ≤ℤ n)
of_int_le m n = (
  λ h. le_moved (m *ℤ pos 1) (n *ℤ pos 1) m n (by_one m) (by_one n) (le_out_ratio _ _ _ _ _ _ (int_ratio m) (int_ratio n) h),
  λ h. le_in_ratio _ _ _ _ _ _ (int_ratio m) (int_ratio n) (le_moved m n (m *ℤ pos 1) (n *ℤ pos 1) (sym (by_one m)) (sym (by_one n)) h),
)

pub of_int_lt : (m n : ℤ) → (of_int m <ᶠ of_int n) ↔ (m <ℤ n)
of_int_lt m n = (
  λ h. lt_moved (m *ℤ pos 1) (n *ℤ pos 1) m n (by_one m) (by_one n) (lt_out_ratio _ _ _ _ _ _ (int_ratio m) (int_ratio n) h),
  λ h. lt_in_ratio _ _ _ _ _ _ (int_ratio m) (int_ratio n) (lt_moved m n (m *ℤ pos 1) (n *ℤ pos 1) (sym (by_one m)) (sym (by_one n)) h),
)
