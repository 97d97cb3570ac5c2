-- What the tests of fractions tell.
use Rattle.std.proofs.Common.{◌≡◌, ◌↔◌, Bool, true, false, IsTrue, IsFalse, refl, sym, subst, true≢false}
use Rattle.std.proofs.lemmas.Bool.Decides.{Decides-int_eq}
use lib.IntN.{pos, ◌*ℤ◌}
use lib.Dec.{T}
use lib.Signed.{le_z, lt_z}
use Rattle.pami_algebra.specs.Fraction.{Fraction}
use Rattle.pami_algebra.specs.Operations.{of_int, ◌≤ᶠ◌, ◌<ᶠ◌, is_zero, is_at_most, is_below}
use Rattle.pami_algebra.proofs.Laws.{zero_num}
use Rattle.pami_algebra.proofs.Field.{num_zero}
use Rattle.pami_algebra.proofs.Strict.{not_le_f, lt_by_not_f, le_by_not_f}

-- a test that passes is true
test_true : (b : Bool) → T b → b ≡ true
test_true true h = refl
test_true false h = absurd h

true_test : (b : Bool) → b ≡ true → T b
true_test b e = subst T (sym e) tt

-- ---- each test is true exactly where what it is named after holds
pub is_zero_iff : (p : Fraction) → IsTrue (is_zero p) ↔ (p ≡ of_int (pos 0))
is_zero_iff p = let d = Decides-int_eq p.num (pos 0) in (λ h. zero_num p (d.0 h), λ e. d.1 (num_zero p e))

pub is_at_most_iff : (p q : Fraction) → IsTrue (is_at_most p q) ↔ (p ≤ᶠ q)
is_at_most_iff p q =
    let b : Bool = le_z (p.num *ℤ pos q.den) (q.num *ℤ pos p.den) in
    (λ h. record { le = record { le = true_test b h } }, λ h. test_true b h.le.le)

pub is_below_iff : (p q : Fraction) → IsTrue (is_below p q) ↔ (p <ᶠ q)
is_below_iff p q =
    let b : Bool = lt_z (p.num *ℤ pos q.den) (q.num *ℤ pos p.den) in
    (λ h. record { lt = record { lt = true_test b h } }, λ h. test_true b h.lt.lt)

-- ---- a test that fails
-- where a test decides P, its failure decides the contrary of P
fails_iff : (b : Bool) (P Q : Type 0) → (IsTrue b ↔ P) → (Q → ¬ P) → (¬ P → Q) → IsFalse b ↔ Q
fails_iff true P Q i f g = (λ h. absurd (true≢false h), λ q. absurd (f q (i.0 refl)))
fails_iff false P Q i f g = (λ h. g (λ p. true≢false (sym (i.1 p))), λ q. refl)

pub not_zero_iff : (p : Fraction) → IsFalse (is_zero p) ↔ (¬ (p ≡ of_int (pos 0)))
not_zero_iff p = fails_iff (is_zero p) (p ≡ of_int (pos 0)) (¬ (p ≡ of_int (pos 0))) (is_zero_iff p) (λ h. h) (λ h. h)

pub not_at_most_iff : (p q : Fraction) → IsFalse (is_at_most p q) ↔ (q <ᶠ p)
not_at_most_iff p q = fails_iff (is_at_most p q) (p ≤ᶠ q) (q <ᶠ p) (is_at_most_iff p q) (not_le_f q p) (lt_by_not_f q p)

pub not_below_iff : (p q : Fraction) → IsFalse (is_below p q) ↔ (q ≤ᶠ p)
not_below_iff p q = fails_iff (is_below p q) (p <ᶠ q) (q ≤ᶠ p) (is_below_iff p q) (λ h k. not_le_f p q k h) (le_by_not_f q p)
