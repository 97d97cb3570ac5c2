-- The strict order of fractions, and how it lies to the order.
use Rattle.std.proofs.Common.{◌≡◌, ◌↔◌, ℕ, subst, arith, ◌⊎◌, inl, inr, ⊎_elim}
use lib.IntN.{ℤ, pos, ◌*ℤ◌}
use lib.Signed.{◌≤ℤ◌, ◌<ℤ◌}
use Rattle.std.proofs.lemmas.Int.{ints, by_lt_z}
use Rattle.pami_algebra.specs.Fraction.{Fraction}
use Rattle.pami_algebra.specs.Lowest.{IsRatio}
use Rattle.pami_algebra.specs.Operations.{◌≤ᶠ◌, ◌<ᶠ◌}
use Rattle.pami_algebra.proofs.Order.{le_in_ratio, le_out_ratio, le_refl_f, le_antisymm_f, le_trans_f}

-- ---- below, and at most
-- one of two fractions is below the other, or not above it
pub lt_or_le_f : (p q : Fraction) → (p <ᶠ q) ⊎ (q ≤ᶠ p)
lt_or_le_f p q = by_lt_z (p.num *ℤ pos q.den) (q.num *ℤ pos p.den) (λ l. inl (record { lt = l })) (λ l. inr (record { le = l }))

-- below is not at least
pub not_le_f : (p q : Fraction) → p <ᶠ q → ¬ (q ≤ᶠ p)
not_le_f p q h k = let a : (p.num *ℤ pos q.den) <ℤ (q.num *ℤ pos p.den) = h.lt in let b : (q.num *ℤ pos p.den) ≤ℤ (p.num *ℤ pos q.den) = k.le in omega (arith, ints)

pub lt_by_not_f : (p q : Fraction) → ¬ (q ≤ᶠ p) → p <ᶠ q
lt_by_not_f p q h = ⊎_elim (λ (l : p <ᶠ q). l) (λ (l : q ≤ᶠ p). absurd (h l)) (lt_or_le_f p q)

pub lt_iff_not_le : (p q : Fraction) → (p <ᶠ q) ↔ (¬ (q ≤ᶠ p))
lt_iff_not_le p q = (not_le_f p q, lt_by_not_f p q)

-- at most is not above
pub le_by_not_f : (p q : Fraction) → ¬ (q <ᶠ p) → p ≤ᶠ q
le_by_not_f p q h = ⊎_elim (λ (l : q <ᶠ p). absurd (h l)) (λ (l : p ≤ᶠ q). l) (lt_or_le_f q p)

pub le_iff_not_lt : (p q : Fraction) → (p ≤ᶠ q) ↔ (¬ (q <ᶠ p))
le_iff_not_lt p q = (λ h k. not_le_f q p k h, le_by_not_f p q)

pub lt_le_f : (p q : Fraction) → p <ᶠ q → p ≤ᶠ q
lt_le_f p q h = record { le = let a : (p.num *ℤ pos q.den) <ℤ (q.num *ℤ pos p.den) = h.lt in omega (arith, ints) }

pub lt_irrefl_f : (p : Fraction) → ¬ (p <ᶠ p)
lt_irrefl_f p h = not_le_f p p h (le_refl_f p)

-- a fraction below another isn't it
pub lt_other_f : (p q : Fraction) → p <ᶠ q → ¬ (p ≡ q)
lt_other_f p q h e = lt_irrefl_f q (subst (λ z. z <ᶠ q) e h)

pub lt_by_other_f : (p q : Fraction) → p ≤ᶠ q → ¬ (p ≡ q) → p <ᶠ q
lt_by_other_f p q h k = lt_by_not_f p q (λ l. k (le_antisymm_f p q h l))

pub lt_iff_le_other : (p q : Fraction) → (p <ᶠ q) ↔ ((p ≤ᶠ q) × (¬ (p ≡ q)))
lt_iff_le_other p q = (λ h. (lt_le_f p q h, lt_other_f p q h), λ h. lt_by_other_f p q h.0 h.1)

-- exactly one of three: the other two of these cases are excluded by `lt_irrefl_f` and `lt_asymm_f`
pub lt_trichotomy_f : (p q : Fraction) → (p <ᶠ q) ⊎ ((p ≡ q) ⊎ (q <ᶠ p))
lt_trichotomy_f p q = ⊎_elim (λ (l : p <ᶠ q). inl l) (λ (l : q ≤ᶠ p). inr (at_least l)) (lt_or_le_f p q)
  where
    at_least : q ≤ᶠ p → (p ≡ q) ⊎ (q <ᶠ p)
    at_least l = ⊎_elim (λ (k : q <ᶠ p). inr k) (λ (k : p ≤ᶠ q). inl (le_antisymm_f p q k l)) (lt_or_le_f q p)

-- ---- chains
pub lt_le_trans_f : (p q r : Fraction) → p <ᶠ q → q ≤ᶠ r → p <ᶠ r
lt_le_trans_f p q r h k = lt_by_not_f p r (λ l. not_le_f p q h (le_trans_f q r p k l))

pub le_lt_trans_f : (p q r : Fraction) → p ≤ᶠ q → q <ᶠ r → p <ᶠ r
le_lt_trans_f p q r h k = lt_by_not_f p r (λ l. not_le_f q r k (le_trans_f r p q l h))

pub lt_trans_f : (p q r : Fraction) → p <ᶠ q → q <ᶠ r → p <ᶠ r
lt_trans_f p q r h k = lt_le_trans_f p q r h (lt_le_f q r k)

pub lt_asymm_f : (p q : Fraction) → p <ᶠ q → ¬ (q <ᶠ p)
lt_asymm_f p q h k = lt_irrefl_f p (lt_trans_f p q p h k)

-- ---- by any ratios
-- an order of equal whole numbers
pub lt_moved : (a b a' b' : ℤ) → a ≡ a' → b ≡ b' → a <ℤ b → a' <ℤ b'
lt_moved a b a' b' e f h = subst (λ z. z <ℤ b') e (subst (λ z. a <ℤ z) f h)

not_both : (a b : ℤ) → a <ℤ b → b ≤ℤ a → ⊥
not_both a b h k = omega (arith, ints)

-- an order of cross products, into one of fractions and out of it
pub lt_in_ratio : (p q : Fraction) (n m : ℤ) (d e : ℕ) → IsRatio p n d → IsRatio q m e → (n *ℤ pos e) <ℤ (m *ℤ pos d) → p <ᶠ q
lt_in_ratio p q n m d e r s h = lt_by_not_f p q (λ l. not_both (n *ℤ pos e) (m *ℤ pos d) h (le_out_ratio q p m n e d s r l))

pub lt_out_ratio : (p q : Fraction) (n m : ℤ) (d e : ℕ) → IsRatio p n d → IsRatio q m e → p <ᶠ q → (n *ℤ pos e) <ℤ (m *ℤ pos d)
lt_out_ratio p q n m d e r s h = by_lt_z (n *ℤ pos e) (m *ℤ pos d) (λ l. l) (λ l. absurd (not_le_f p q h (le_in_ratio q p m n e d s r l)))
