-- Quotients as the ends of a change: of a reduced cost that keeps its sign, and of a value that stays within its bounds.
use Rattle.std.proofs.Common.{◌≡◌, ◌↔◌, ⊎_elim, Bool, true, false, not, true≢false, [], ◌∷◌, refl, sym, ap, ◌∙◌, subst}
use Rattle.std.proofs.lemmas.Bool.{cond-true, cond-false}
use Rattle.pami_algebra.specs.Fraction.{Fraction}
use Rattle.pami_algebra.specs.Ring.{var, t0, ◌⊕◌, ◌⊗◌, ⊖}
use Rattle.pami_algebra.specs.Operations.{◌+ᶠ◌, ◌-ᶠ◌, ◌*ᶠ◌, ◌/ᶠ◌, neg_f, inv_f, ◌≤ᶠ◌, ◌<ᶠ◌, is_below, is_zero}
use Rattle.pami_algebra.proofs.Laws.{by_ring_f}
use Rattle.pami_algebra.proofs.Field.{inv_neg_f, mul_neg_f, zero_or_not, neg_nil_f, zero_factor_f, sub_zero_f}
use Rattle.pami_algebra.proofs.Order.{le_refl_f, le_antisymm_f}
use Rattle.pami_algebra.proofs.Bounds.{le_by, gap_of}
use Rattle.pami_algebra.proofs.Strict.{lt_or_le_f, lt_by_other_f, lt_le_f}
use Rattle.pami_algebra.proofs.Products.{le_from_gap, neg_le_f, neg_above_f, neg_below_f, div_le_f, le_div_f}
use Rattle.pami_algebra.proofs.Tests.{is_below_iff, not_below_iff, is_zero_iff, not_zero_iff}
use Rattle.pami_theory.specs.Form.{IsWithin, zero_f}
use Rattle.pami_frac.specs.declared.list.Bounds.{Bounds}
use Rattle.pami_theory.specs.declared.words.Stand.{Stand}
use Rattle.pami_theory.specs.declared.words.Stand.TheVariants.{Basic, Lower, Upper, Zero}
use Rattle.pami_theory.specs.Fresh.{IsSignedFor}
use Rattle.pami_ranging.specs.Intervals.{all_fractions, sign_limits, cost_interval_by, change_to_bound, value_limits}
use Rattle.pami_ranging.proofs.Ends.{one_low, one_high, no_low, no_high, all_within, when_low, when_high, mapped_low, mapped_high, neg_back}

-- ---- quotients by what is below 0
neg_over : (p a : Fraction) → p /ᶠ neg_f a ≡ neg_f (p /ᶠ a)
neg_over p a = ap (λ z. p *ᶠ z) (inv_neg_f a) ∙ mul_neg_f p (inv_f a)

neg_times : (q a : Fraction) → neg_f q *ᶠ neg_f a ≡ q *ᶠ a
neg_times q a = by_ring_f (q ∷ a ∷ []) (⊖ (var 0) ⊗ ⊖ (var 1)) (var 0 ⊗ var 1) refl

pub le_div_below : (p q a : Fraction) → a <ᶠ zero_f → (q ≤ᶠ (p /ᶠ a)) ↔ (p ≤ᶠ (q *ᶠ a))
le_div_below p q a n =
    let k = div_le_f p (neg_f q) (neg_f a) (neg_above_f a n) in (
      λ h. subst (λ z. p ≤ᶠ z) (neg_times q a) (k.0 (subst (λ z. z ≤ᶠ neg_f q) (sym (neg_over p a)) (neg_le_f q (p /ᶠ a) h))),
      λ h. neg_back (p /ᶠ a) q (subst (λ z. z ≤ᶠ neg_f q) (neg_over p a) (k.1 (subst (λ z. p ≤ᶠ z) (sym (neg_times q a)) h))),
    )

pub div_below_le : (p q a : Fraction) → a <ᶠ zero_f → ((p /ᶠ a) ≤ᶠ q) ↔ ((q *ᶠ a) ≤ᶠ p)
div_below_le p q a n =
    let k = le_div_f p (neg_f q) (neg_f a) (neg_above_f a n) in (
      λ h. subst (λ z. z ≤ᶠ p) (neg_times q a) (k.0 (subst (λ z. neg_f q ≤ᶠ z) (sym (neg_over p a)) (neg_le_f (p /ᶠ a) q h))),
      λ h. neg_back q (p /ᶠ a) (subst (λ z. neg_f q ≤ᶠ z) (neg_over p a) (k.1 (subst (λ z. z ≤ᶠ p) (sym (neg_times q a)) h))),
    )

-- ---- differences
pub sub_nonneg : (d u : Fraction) → (zero_f ≤ᶠ (d -ᶠ u)) ↔ (u ≤ᶠ d)
sub_nonneg d u = (le_from_gap u d, gap_of u d)

pub sub_nonpos : (d u : Fraction) → ((d -ᶠ u) ≤ᶠ zero_f) ↔ (d ≤ᶠ u)
sub_nonpos d u = (
  λ h. le_by d u (zero_f -ᶠ (d -ᶠ u)) (gap_of (d -ᶠ u) zero_f h) (by_ring_f (d ∷ u ∷ []) (var 1) (var 0 ⊕ (t0 ⊕ ⊖ (var 0 ⊕ ⊖ (var 1)))) refl),
  λ h. le_by (d -ᶠ u) zero_f (u -ᶠ d) (gap_of d u h) (by_ring_f (d ∷ u ∷ []) t0 ((var 0 ⊕ ⊖ (var 1)) ⊕ (var 1 ⊕ ⊖ (var 0))) refl),
)

pub above_sub : (low x u : Fraction) → (low ≤ᶠ (x -ᶠ u)) ↔ (u ≤ᶠ (x -ᶠ low))
above_sub low x u = (
  λ h. le_by u (x -ᶠ low) ((x -ᶠ u) -ᶠ low) (gap_of low (x -ᶠ u) h) (by_ring_f (low ∷ x ∷ u ∷ []) (var 1 ⊕ ⊖ (var 0)) (var 2 ⊕ ((var 1 ⊕ ⊖ (var 2)) ⊕ ⊖ (var 0))) refl),
  λ h. le_by low (x -ᶠ u) ((x -ᶠ low) -ᶠ u) (gap_of u (x -ᶠ low) h) (by_ring_f (low ∷ x ∷ u ∷ []) (var 1 ⊕ ⊖ (var 2)) (var 0 ⊕ ((var 1 ⊕ ⊖ (var 0)) ⊕ ⊖ (var 2))) refl),
)

pub sub_below : (high x u : Fraction) → ((x -ᶠ u) ≤ᶠ high) ↔ ((x -ᶠ high) ≤ᶠ u)
sub_below high x u = (
  λ h. le_by (x -ᶠ high) u (high -ᶠ (x -ᶠ u)) (gap_of (x -ᶠ u) high h) (by_ring_f (high ∷ x ∷ u ∷ []) (var 2) ((var 1 ⊕ ⊖ (var 0)) ⊕ (var 0 ⊕ ⊖ (var 1 ⊕ ⊖ (var 2)))) refl),
  λ h. le_by (x -ᶠ u) high (u -ᶠ (x -ᶠ high)) (gap_of (x -ᶠ high) u h) (by_ring_f (high ∷ x ∷ u ∷ []) (var 0) ((var 1 ⊕ ⊖ (var 2)) ⊕ (var 2 ⊕ ⊖ (var 1 ⊕ ⊖ (var 0)))) refl),
)

-- above 0, below 0 or 0
pub by_sign : (a : Fraction) (P : Type 0) → (zero_f <ᶠ a → P) → (a <ᶠ zero_f → P) → (a ≡ zero_f → P) → P
by_sign a P above below nil = ⊎_elim
    above
    (λ (h : a ≤ᶠ zero_f). ⊎_elim nil (λ (n : ¬ (a ≡ zero_f)). below (lt_by_other_f a zero_f h n)) (zero_or_not a))
    (lt_or_le_f zero_f a)

pub less_nothing : (d t a : Fraction) → a ≡ zero_f → d -ᶠ t *ᶠ a ≡ d
less_nothing d t a e = ap (λ z. d -ᶠ t *ᶠ z) e ∙ by_ring_f (d ∷ t ∷ []) (var 0 ⊕ ⊖ (var 1 ⊗ t0)) (var 0) refl

-- ---- a sign that is kept
below_turned : (a : Fraction) → is_below zero_f (neg_f a) ≡ true → a <ᶠ zero_f
below_turned a e = subst (λ z. z <ᶠ zero_f) (by_ring_f (a ∷ []) (⊖ (⊖ (var 0))) (var 0) refl) (neg_below_f (neg_f a) ((is_below_iff zero_f (neg_f a)).0 e))

pub turned_below : (a : Fraction) → a <ᶠ zero_f → is_below zero_f (neg_f a) ≡ true
turned_below a h = (is_below_iff zero_f (neg_f a)).1 (neg_above_f a h)

above_turned : (a : Fraction) → is_below (neg_f a) zero_f ≡ true → zero_f <ᶠ a
above_turned a e = subst (λ z. zero_f <ᶠ z) (by_ring_f (a ∷ []) (⊖ (⊖ (var 0))) (var 0) refl) (neg_above_f (neg_f a) ((is_below_iff (neg_f a) zero_f).0 e))

pub turned_above : (a : Fraction) → zero_f <ᶠ a → is_below (neg_f a) zero_f ≡ true
turned_above a h = (is_below_iff (neg_f a) zero_f).1 (neg_below_f a h)

abbrev KeepsSign : Stand → Fraction → Fraction → Fraction → Type 0
KeepsSign s d a t = IsSignedFor s (d -ᶠ t *ᶠ a) ↔ IsWithin (sign_limits false s d a) t

lower_keeps : (d a t : Fraction) → zero_f ≤ᶠ d → KeepsSign Lower d a t
lower_keeps d a t g = (
  λ h. let u : (t *ᶠ a) ≤ᶠ d = (sub_nonneg d (t *ᶠ a)).0 h in
      record {
        above_low = (when_low (is_below zero_f (neg_f a)) (d /ᶠ a) t).1 (λ e. (div_below_le d t a (below_turned a e)).1 u);
        below_high = (when_high (is_below zero_f a) (d /ᶠ a) t).1 (λ e. (le_div_f d t a ((is_below_iff zero_f a).0 e)).1 u);
      },
  λ h. by_sign a (zero_f ≤ᶠ (d -ᶠ t *ᶠ a))
      (λ k. (sub_nonneg d (t *ᶠ a)).1 ((le_div_f d t a k).0 ((when_high (is_below zero_f a) (d /ᶠ a) t).0 h.below_high ((is_below_iff zero_f a).1 k))))
      (λ k. (sub_nonneg d (t *ᶠ a)).1 ((div_below_le d t a k).0 ((when_low (is_below zero_f (neg_f a)) (d /ᶠ a) t).0 h.above_low (turned_below a k))))
      (λ e. subst (λ z. zero_f ≤ᶠ z) (sym (less_nothing d t a e)) g),
)

upper_keeps : (d a t : Fraction) → d ≤ᶠ zero_f → KeepsSign Upper d a t
upper_keeps d a t g = (
  λ h. let u : d ≤ᶠ (t *ᶠ a) = (sub_nonpos d (t *ᶠ a)).0 h in
      record {
        above_low = (when_low (is_below (neg_f a) zero_f) (d /ᶠ a) t).1 (λ e. (div_le_f d t a (above_turned a e)).1 u);
        below_high = (when_high (is_below a zero_f) (d /ᶠ a) t).1 (λ e. (le_div_below d t a ((is_below_iff a zero_f).0 e)).1 u);
      },
  λ h. by_sign a ((d -ᶠ t *ᶠ a) ≤ᶠ zero_f)
      (λ k. (sub_nonpos d (t *ᶠ a)).1 ((div_le_f d t a k).0 ((when_low (is_below (neg_f a) zero_f) (d /ᶠ a) t).0 h.above_low (turned_above a k))))
      (λ k. (sub_nonpos d (t *ᶠ a)).1 ((le_div_below d t a k).0 ((when_high (is_below a zero_f) (d /ᶠ a) t).0 h.below_high ((is_below_iff a zero_f).1 k))))
      (λ e. subst (λ z. z ≤ᶠ zero_f) (sym (less_nothing d t a e)) g),
)

neg_zero : (a : Fraction) → neg_f a ≡ zero_f → a ≡ zero_f
neg_zero a e = by_ring_f (a ∷ []) (var 0) (⊖ (⊖ (var 0))) refl ∙ ap neg_f e ∙ neg_nil_f

zero_changes : (d a t : Fraction) → d ≡ zero_f → ¬ (a ≡ zero_f) → d -ᶠ t *ᶠ a ≡ zero_f → t ≡ zero_f
zero_changes d a t g n h = ⊎_elim
    (λ (e : t ≡ zero_f). e)
    (λ (e : a ≡ zero_f). absurd (n e))
    (zero_factor_f t a (by_ring_f ((t *ᶠ a) ∷ []) (var 0) (⊖ (t0 ⊕ ⊖ (var 0))) refl ∙ ap (λ z. neg_f (z -ᶠ t *ᶠ a)) (sym g) ∙ ap neg_f h ∙ neg_nil_f))

zero_keeps : (d a t : Fraction) → d ≡ zero_f → KeepsSign Zero d a t
zero_keeps d a t g = (
  λ h. record {
    above_low = (when_low (not (is_zero (neg_f a))) zero_f t).1 (λ e. le_of_same (sym (zero_changes d a t g (λ z. not_test (neg_f a) e (ap neg_f z ∙ neg_nil_f)) h)));
    below_high = (when_high (not (is_zero a)) zero_f t).1 (λ e. le_of_same (zero_changes d a t g (not_test a e) h));
  },
  λ h. ⊎_elim
      (λ (e : a ≡ zero_f). less_nothing d t a e ∙ g)
      (λ (n : ¬ (a ≡ zero_f)).
      let same : t ≡ zero_f = le_antisymm_f t zero_f ((when_high (not (is_zero a)) zero_f t).0 h.below_high (test_not a n)) ((when_low (not (is_zero (neg_f a))) zero_f t).0 h.above_low (test_not (neg_f a) (λ z. n (neg_zero a z)))) in
      ap (λ z. d -ᶠ z *ᶠ a) same ∙ by_ring_f (d ∷ a ∷ []) (var 0 ⊕ ⊖ (t0 ⊗ var 1)) (var 0) refl ∙ g)
      (zero_or_not a),
)
  where
    le_of_same : {p q : Fraction} → p ≡ q → p ≤ᶠ q
    le_of_same {p} {q} e = subst (λ z. p ≤ᶠ z) e (le_refl_f p)

    not_test : (c : Fraction) → not (is_zero c) ≡ true → ¬ (c ≡ zero_f)
    not_test c e z = true≢false (sym e ∙ ap not ((is_zero_iff c).1 z))

    test_not : (c : Fraction) → ¬ (c ≡ zero_f) → not (is_zero c) ≡ true
    test_not c n = ap not ((not_zero_iff c).1 n)

pub sign_kept : (s : Stand) (d a t : Fraction) → IsSignedFor s d → KeepsSign s d a t
sign_kept Basic d a t g = (λ h. record { above_low = no_low t; below_high = no_high t }, λ h. tt)
sign_kept Lower d a t g = lower_keeps d a t g
sign_kept Upper d a t g = upper_keeps d a t g
sign_kept Zero d a t g = zero_keeps d a t g

-- of a variable, fixed or not
pub limits_if : (fixed : Bool) (s : Stand) (d a t : Fraction) → (fixed ≡ false → IsSignedFor s d) → (fixed ≡ false → IsSignedFor s (d -ᶠ t *ᶠ a)) → IsWithin (sign_limits fixed s d a) t
limits_if true s d a t g h = record { above_low = no_low t; below_high = no_high t }
limits_if false s d a t g h = (sign_kept s d a t (g refl)).0 (h refl)

pub limits_only : (fixed : Bool) (s : Stand) (d a t : Fraction) → fixed ≡ false → IsSignedFor s d → IsWithin (sign_limits fixed s d a) t → IsSignedFor s (d -ᶠ t *ᶠ a)
limits_only true s d a t e g h = absurd (cc)
limits_only false s d a t e g h = (sign_kept s d a t g).1 h

-- ---- a variable's own cost
own_gap : (c d e : Fraction) → d +ᶠ (e -ᶠ c) ≡ e -ᶠ (c -ᶠ d)
own_gap c d e = by_ring_f (c ∷ d ∷ e ∷ []) (var 1 ⊕ (var 2 ⊕ ⊖ (var 0))) (var 2 ⊕ ⊖ (var 0 ⊕ ⊖ (var 1))) refl

pub own_kept : (s : Stand) (c d e : Fraction) → ¬ (s ≡ Basic) → IsSignedFor s d → IsSignedFor s (d +ᶠ (e -ᶠ c)) ↔ IsWithin (cost_interval_by false s c d) e
own_kept Basic c d e n g = absurd (n refl)
own_kept Lower c d e n g = (
  λ h. record { above_low = one_low (c -ᶠ d) e ((sub_nonneg e (c -ᶠ d)).0 (subst (λ z. zero_f ≤ᶠ z) (own_gap c d e) h)); below_high = no_high e },
  λ h. subst (λ z. zero_f ≤ᶠ z) (sym (own_gap c d e)) ((sub_nonneg e (c -ᶠ d)).1 (h.above_low (c -ᶠ d) refl)),
)
own_kept Upper c d e n g = (
  λ h. record { above_low = no_low e; below_high = one_high (c -ᶠ d) e ((sub_nonpos e (c -ᶠ d)).0 (subst (λ z. z ≤ᶠ zero_f) (own_gap c d e) h)) },
  λ h. subst (λ z. z ≤ᶠ zero_f) (sym (own_gap c d e)) ((sub_nonpos e (c -ᶠ d)).1 (h.below_high (c -ᶠ d) refl)),
)
own_kept Zero c d e n g = (
  λ h. let same : e ≡ c = sub_zero_f e c (by_ring_f (e ∷ c ∷ []) (var 0 ⊕ ⊖ (var 1)) (t0 ⊕ (var 0 ⊕ ⊖ (var 1))) refl ∙ ap (λ z. z +ᶠ (e -ᶠ c)) (sym g) ∙ h) in
      record { above_low = one_low c e (subst (λ z. z ≤ᶠ e) same (le_refl_f e)); below_high = one_high c e (subst (λ z. e ≤ᶠ z) same (le_refl_f e)) },
  λ h. ap (λ z. z +ᶠ (e -ᶠ c)) g ∙ ap (λ z. zero_f +ᶠ (z -ᶠ c)) (le_antisymm_f e c (h.below_high c refl) (h.above_low c refl)) ∙ by_ring_f (c ∷ []) (t0 ⊕ (var 0 ⊕ ⊖ (var 0))) t0 refl,
)

-- ---- a value within its bounds
pub limits_above : (l : Bounds) (x a : Fraction) → zero_f <ᶠ a → value_limits l x a ≡ record { low = change_to_bound x a l.high; high = change_to_bound x a l.low }
limits_above l x a h = cond-true (is_below zero_f a) _ _ ((is_below_iff zero_f a).1 h)

pub limits_below : (l : Bounds) (x a : Fraction) → a <ᶠ zero_f → value_limits l x a ≡ record { low = change_to_bound x a l.low; high = change_to_bound x a l.high }
limits_below l x a h =
    cond-false (is_below zero_f a) _ _ ((not_below_iff zero_f a).1 (lt_le_f a zero_f h))
    ∙ cond-true (is_below a zero_f) _ _ ((is_below_iff a zero_f).1 h)

pub limits_nil : (l : Bounds) (x a : Fraction) → a ≡ zero_f → value_limits l x a ≡ all_fractions
limits_nil l x a e =
    cond-false (is_below zero_f a) _ _ ((not_below_iff zero_f a).1 (subst (λ z. z ≤ᶠ zero_f) (sym e) (le_refl_f zero_f)))
    ∙ cond-false (is_below a zero_f) _ _ ((not_below_iff a zero_f).1 (subst (λ z. zero_f ≤ᶠ z) (sym e) (le_refl_f zero_f)))

abbrev KeepsValue : Bounds → Fraction → Fraction → Fraction → Bounds → Type 0
KeepsValue l x a t m = IsWithin l (x -ᶠ t *ᶠ a) ↔ IsWithin m t

value_above : (l : Bounds) (x a t : Fraction) → zero_f <ᶠ a → KeepsValue l x a t (record { low = change_to_bound x a l.high; high = change_to_bound x a l.low })
value_above l x a t k = (
  λ h. record {
    above_low = (mapped_low (λ w. (x -ᶠ w) /ᶠ a) l.high t).1 (λ w e. (div_le_f (x -ᶠ w) t a k).1 ((sub_below w x (t *ᶠ a)).0 (h.below_high w e)));
    below_high = (mapped_high (λ w. (x -ᶠ w) /ᶠ a) l.low t).1 (λ w e. (le_div_f (x -ᶠ w) t a k).1 ((above_sub w x (t *ᶠ a)).0 (h.above_low w e)));
  },
  λ h. record {
    above_low = λ w e. (above_sub w x (t *ᶠ a)).1 ((le_div_f (x -ᶠ w) t a k).0 ((mapped_high (λ w. (x -ᶠ w) /ᶠ a) l.low t).0 h.below_high w e));
    below_high = λ w e. (sub_below w x (t *ᶠ a)).1 ((div_le_f (x -ᶠ w) t a k).0 ((mapped_low (λ w. (x -ᶠ w) /ᶠ a) l.high t).0 h.above_low w e));
  },
)

value_below : (l : Bounds) (x a t : Fraction) → a <ᶠ zero_f → KeepsValue l x a t (record { low = change_to_bound x a l.low; high = change_to_bound x a l.high })
value_below l x a t k = (
  λ h. record {
    above_low = (mapped_low (λ w. (x -ᶠ w) /ᶠ a) l.low t).1 (λ w e. (div_below_le (x -ᶠ w) t a k).1 ((above_sub w x (t *ᶠ a)).0 (h.above_low w e)));
    below_high = (mapped_high (λ w. (x -ᶠ w) /ᶠ a) l.high t).1 (λ w e. (le_div_below (x -ᶠ w) t a k).1 ((sub_below w x (t *ᶠ a)).0 (h.below_high w e)));
  },
  λ h. record {
    above_low = λ w e. (above_sub w x (t *ᶠ a)).1 ((div_below_le (x -ᶠ w) t a k).0 ((mapped_low (λ w. (x -ᶠ w) /ᶠ a) l.low t).0 h.above_low w e));
    below_high = λ w e. (sub_below w x (t *ᶠ a)).1 ((le_div_below (x -ᶠ w) t a k).0 ((mapped_high (λ w. (x -ᶠ w) /ᶠ a) l.high t).0 h.below_high w e));
  },
)

pub value_kept : (l : Bounds) (x a t : Fraction) → IsWithin l x → IsWithin l (x -ᶠ t *ᶠ a) ↔ IsWithin (value_limits l x a) t
value_kept l x a t g = by_sign a (KeepsValue l x a t (value_limits l x a))
    (λ k. subst (KeepsValue l x a t) (sym (limits_above l x a k)) (value_above l x a t k))
    (λ k. subst (KeepsValue l x a t) (sym (limits_below l x a k)) (value_below l x a t k))
    (λ e. subst (KeepsValue l x a t) (sym (limits_nil l x a e)) (λ h. all_within t, λ h. subst (IsWithin l) (sym (less_nothing x t a e)) g))
