-- Intervals: what is within both, within all of several, and within one that is moved or negated.
use Rattle.std.proofs.Common.{◌≡◌, ◌↔◌, ℕ, zero, suc, ◌<◌, ◌≤◌, ⊎_elim, Bool, true, false, if◌then◌else◌, [], ◌∷◌, Option, None, Some, refl, subst, arith}
use Rattle.std.specs.Option.{option_map}
use Rattle.std.proofs.lemmas.Bool.{cases_lt}
use Rattle.std.proofs.lemmas.Option.{none-some, same_Some}
use Rattle.pami_algebra.specs.Fraction.{Fraction}
use Rattle.pami_algebra.specs.Ring.{var, ◌⊕◌, ⊖}
use Rattle.pami_algebra.specs.Operations.{◌+ᶠ◌, neg_f, ◌≤ᶠ◌, is_below}
use Rattle.pami_algebra.proofs.Laws.{by_ring_f}
use Rattle.pami_algebra.proofs.Field.{neg_neg_f}
use Rattle.pami_algebra.proofs.Order.{le_trans_f}
use Rattle.pami_algebra.proofs.Bounds.{le_moved_f}
use Rattle.pami_algebra.proofs.Strict.{lt_le_f}
use Rattle.pami_algebra.proofs.Products.{add_le_left_f, neg_le_f}
use Rattle.pami_algebra.proofs.Tests.{is_below_iff, not_below_iff}
use Rattle.pami_theory.specs.Form.{IsWithin}
use Rattle.pami_frac.specs.declared.list.Bounds.{Bounds}
use Rattle.pami_ranging.specs.Intervals.{all_fractions, greater_low, lesser_high, both, all_to, moved_by, negated, when}

-- ---- one end
abbrev pub AboveLow : Option Fraction → Fraction → Type 0
AboveLow o t = (q : Fraction) → o ≡ Some q → q ≤ᶠ t

abbrev pub BelowHigh : Option Fraction → Fraction → Type 0
BelowHigh o t = (q : Fraction) → o ≡ Some q → t ≤ᶠ q

pub no_low : (t : Fraction) → AboveLow None t
no_low t q e = absurd (none-some q e)

pub no_high : (t : Fraction) → BelowHigh None t
no_high t q e = absurd (none-some q e)

pub one_low : (p t : Fraction) → p ≤ᶠ t → AboveLow (Some p) t
one_low p t h q e = subst (λ z. z ≤ᶠ t) (same_Some p q e) h

pub one_high : (p t : Fraction) → t ≤ᶠ p → BelowHigh (Some p) t
one_high p t h q e = subst (λ z. t ≤ᶠ z) (same_Some p q e) h

pub all_within : (t : Fraction) → IsWithin all_fractions t
all_within t = record { above_low = no_low t; below_high = no_high t }

-- ---- the greater and the lesser
greater_of : (p q t : Fraction) → AboveLow (if is_below p q then Some q else Some p) t ↔ (AboveLow (Some p) t × AboveLow (Some q) t)
greater_of p q t = go (is_below p q) refl
  where
    go : (c : Bool) → is_below p q ≡ c → AboveLow (if c then Some q else Some p) t ↔ (AboveLow (Some p) t × AboveLow (Some q) t)
    go true e = (λ h. (one_low p t (le_trans_f p q t (lt_le_f p q ((is_below_iff p q).0 e)) (h q refl)), h), λ h. h.1)
    go false e = (λ h. (h, one_low q t (le_trans_f q p t ((not_below_iff p q).0 e) (h p refl))), λ h. h.0)

lesser_of : (p q t : Fraction) → BelowHigh (if is_below q p then Some q else Some p) t ↔ (BelowHigh (Some p) t × BelowHigh (Some q) t)
lesser_of p q t = go (is_below q p) refl
  where
    go : (c : Bool) → is_below q p ≡ c → BelowHigh (if c then Some q else Some p) t ↔ (BelowHigh (Some p) t × BelowHigh (Some q) t)
    go true e = (λ h. (one_high p t (le_trans_f t q p (h q refl) (lt_le_f q p ((is_below_iff q p).0 e))), h), λ h. h.1)
    go false e = (λ h. (h, one_high q t (le_trans_f t p q (h p refl) ((not_below_iff q p).0 e))), λ h. h.0)

pub greater_iff : (o next : Option Fraction) (t : Fraction) → AboveLow (greater_low o next) t ↔ (AboveLow o t × AboveLow next t)
greater_iff None next t = (λ h. (no_low t, h), λ h. h.1)
greater_iff (Some p) None t = (λ h. (h, no_low t), λ h. h.0)
greater_iff (Some p) (Some q) t = greater_of p q t

pub lesser_iff : (o next : Option Fraction) (t : Fraction) → BelowHigh (lesser_high o next) t ↔ (BelowHigh o t × BelowHigh next t)
lesser_iff None next t = (λ h. (no_high t, h), λ h. h.1)
lesser_iff (Some p) None t = (λ h. (h, no_high t), λ h. h.0)
lesser_iff (Some p) (Some q) t = lesser_of p q t

-- ---- both, and all
pub within_both : (l m : Bounds) (t : Fraction) → IsWithin (both l m) t ↔ (IsWithin l t × IsWithin m t)
within_both l m t = (
  λ h. let low = (greater_iff l.low m.low t).0 h.above_low in
      let high = (lesser_iff l.high m.high t).0 h.below_high in
      (record { above_low = low.0; below_high = high.0 }, record { above_low = low.1; below_high = high.1 }),
  λ h. record { above_low = (greater_iff l.low m.low t).1 (h.0.above_low, h.1.above_low); below_high = (lesser_iff l.high m.high t).1 (h.0.below_high, h.1.below_high) },
)

pub all_of : (n : ℕ) (l : ℕ → Bounds) (t : Fraction) → IsWithin (all_to n l) t → (k : ℕ) → k < n → IsWithin (l k) t
all_of zero l t h k m = absurd (omega arith)
all_of (suc n) l t h k m =
    let parts = (within_both (all_to n l) (l n) t).0 h in
    ⊎_elim
    (λ (i : k < n). all_of n l t parts.0 k i)
    (λ (i : n ≤ k). let e : n ≡ k = omega arith in subst (λ z. IsWithin (l z) t) e parts.1)
    (cases_lt k n)

pub of_all : (n : ℕ) (l : ℕ → Bounds) (t : Fraction) → ((k : ℕ) → k < n → IsWithin (l k) t) → IsWithin (all_to n l) t
of_all zero l t h = all_within t
of_all (suc n) l t h = (within_both (all_to n l) (l n) t).1 (of_all n l t (λ k m. h k (omega arith)), h n (omega arith))

pub within_all : (n : ℕ) (l : ℕ → Bounds) (t : Fraction) → IsWithin (all_to n l) t ↔ ((k : ℕ) → k < n → IsWithin (l k) t)
within_all n l t = (all_of n l t, of_all n l t)

-- ---- ends that are mapped
pub mapped_low : (g : Fraction → Fraction) (o : Option Fraction) (t : Fraction) → AboveLow (option_map g o) t ↔ ((w : Fraction) → o ≡ Some w → g w ≤ᶠ t)
mapped_low g None t = (λ h w e. absurd (none-some w e), λ h. no_low t)
mapped_low g (Some v) t = (λ h w e. subst (λ z. g z ≤ᶠ t) (same_Some v w e) (h (g v) refl), λ h. one_low (g v) t (h v refl))

pub mapped_high : (g : Fraction → Fraction) (o : Option Fraction) (t : Fraction) → BelowHigh (option_map g o) t ↔ ((w : Fraction) → o ≡ Some w → t ≤ᶠ g w)
mapped_high g None t = (λ h w e. absurd (none-some w e), λ h. no_high t)
mapped_high g (Some v) t = (λ h w e. subst (λ z. t ≤ᶠ g z) (same_Some v w e) (h (g v) refl), λ h. one_high (g v) t (h v refl))

pub when_low : (c : Bool) (q t : Fraction) → AboveLow (when c q) t ↔ (c ≡ true → q ≤ᶠ t)
when_low true q t = (λ h e. h q refl, λ h. one_low q t (h refl))
when_low false q t = (λ h e. absurd (cc), λ h. no_low t)

pub when_high : (c : Bool) (q t : Fraction) → BelowHigh (when c q) t ↔ (c ≡ true → t ≤ᶠ q)
when_high true q t = (λ h e. h q refl, λ h. one_high q t (h refl))
when_high false q t = (λ h e. absurd (cc), λ h. no_high t)

-- ---- moved
cancel_left : (c p q : Fraction) → (c +ᶠ p) ≤ᶠ (c +ᶠ q) → p ≤ᶠ q
cancel_left c p q h = le_moved_f (neg_f c +ᶠ (c +ᶠ p)) (neg_f c +ᶠ (c +ᶠ q)) p q
    (by_ring_f (c ∷ p ∷ []) (⊖ (var 0) ⊕ (var 0 ⊕ var 1)) (var 1) refl)
    (by_ring_f (c ∷ q ∷ []) (⊖ (var 0) ⊕ (var 0 ⊕ var 1)) (var 1) refl)
    (add_le_left_f (c +ᶠ p) (c +ᶠ q) (neg_f c) h)

pub within_moved : (c t : Fraction) (l : Bounds) → IsWithin (moved_by c l) (c +ᶠ t) ↔ IsWithin l t
within_moved c t l = (
  λ h. record {
    above_low = λ q e. cancel_left c q t ((mapped_low (λ z. c +ᶠ z) l.low (c +ᶠ t)).0 h.above_low q e);
    below_high = λ q e. cancel_left c t q ((mapped_high (λ z. c +ᶠ z) l.high (c +ᶠ t)).0 h.below_high q e);
  },
  λ h. record {
    above_low = (mapped_low (λ z. c +ᶠ z) l.low (c +ᶠ t)).1 (λ w e. add_le_left_f w t c (h.above_low w e));
    below_high = (mapped_high (λ z. c +ᶠ z) l.high (c +ᶠ t)).1 (λ w e. add_le_left_f t w c (h.below_high w e));
  },
)

-- ---- negated
pub neg_back : (p q : Fraction) → neg_f p ≤ᶠ neg_f q → q ≤ᶠ p
neg_back p q h = le_moved_f (neg_f (neg_f q)) (neg_f (neg_f p)) q p (neg_neg_f q) (neg_neg_f p) (neg_le_f (neg_f p) (neg_f q) h)

pub within_negated : (t : Fraction) (l : Bounds) → IsWithin (negated l) (neg_f t) ↔ IsWithin l t
within_negated t l = (
  λ h. record {
    above_low = λ q e. neg_back t q ((mapped_high neg_f l.low (neg_f t)).0 h.below_high q e);
    below_high = λ q e. neg_back q t ((mapped_low neg_f l.high (neg_f t)).0 h.above_low q e);
  },
  λ h. record {
    above_low = (mapped_low neg_f l.high (neg_f t)).1 (λ w e. neg_le_f t w (h.below_high w e));
    below_high = (mapped_high neg_f l.low (neg_f t)).1 (λ w e. neg_le_f w t (h.above_low w e));
  },
)
