-- The tests of the lists are those of the whole form.
use Rattle.std.proofs.Common.{◌≡◌, Bool, true, false, not, if◌then◌else◌, Option, None, Some, refl, sym, ap, ◌∙◌, true≢false}
use Rattle.pami_algebra.specs.Fraction.{Fraction}
use Rattle.pami_algebra.specs.Operations.{◌≤ᶠ◌, ◌-ᶠ◌, is_below}
use Rattle.pami_algebra.proofs.Field.{neg_nil_f}
use Rattle.pami_algebra.proofs.Order.{le_refl_f, le_antisymm_f}
use Rattle.pami_algebra.proofs.Strict.{lt_by_other_f, lt_other_f}
use Rattle.pami_algebra.proofs.Tests.{is_zero_iff, not_zero_iff, is_below_iff, not_below_iff}
use Rattle.pami_frac.specs.Signs.{is_zero, is_negative}
use Rattle.pami_frac.specs.declared.list.Bounds.{Bounds}
use Rattle.pami_frac.proofs.Signs.{negative_means}
use Rattle.pami_theory.specs.Form.{IsUncrossed, zero_f}
use Rattle.pami_theory.specs.Start.{is_same}
use Rattle.pami_theory.specs.Violation as outside
use Rattle.pami_theory.specs.Ratio.{toward, may_enter}
use Rattle.pami_theory.proofs.Signs.{is_same_iff}
use Rattle.pami_theory.specs.declared.words.Stand.{Stand}
use Rattle.pami_theory.specs.declared.words.Stand.TheVariants.{Basic, Lower, Upper, Zero}
use Rattle.pami_theory.specs.declared.words.Side.{Side}
use Rattle.pami_theory.specs.declared.words.Side.TheVariants.{Above, Below}
use Rattle.pami_bfrt.specs.Candidates.{is_bounded, is_fixed}

-- ---- tests with the same meaning
same_test : (a b : Bool) → (a ≡ true → b ≡ true) → (b ≡ true → a ≡ true) → a ≡ b
same_test true b h k = sym (h refl)
same_test false true h k = k refl
same_test false false h k = refl

negative_same : (a : Fraction) → is_negative a ≡ is_below a zero_f
negative_same a = same_test (is_negative a) (is_below a zero_f) (λ e. (is_below_iff a zero_f).1 ((negative_means a).0 e)) (λ e. (negative_means a).1 ((is_below_iff a zero_f).0 e))

-- what isn't below 0 is above 0 unless it is 0
pub positive_by : (a : Fraction) (z : Bool) → is_negative a ≡ false → is_zero a ≡ z → not z ≡ is_below zero_f a
positive_by a true e h = sym (ap (is_below zero_f) ((is_zero_iff a).0 h) ∙ (not_below_iff zero_f zero_f).1 (le_refl_f zero_f))
positive_by a false e h =
    sym ((is_below_iff zero_f a).1 (lt_by_other_f zero_f a ((not_below_iff a zero_f).0 (sym (negative_same a) ∙ e)) (λ q. (not_zero_iff a).0 h (sym q))))

pub positive_nonzero : (a : Fraction) → is_below zero_f a ≡ true → is_zero a ≡ false
positive_nonzero a e = (not_zero_iff a).1 (λ q. lt_other_f zero_f a ((is_below_iff zero_f a).0 e) (sym q))

-- ---- an entry 0 makes no candidate
pub toward_nil : (side : Side) → toward side zero_f ≡ zero_f
toward_nil Above = refl
toward_nil Below = neg_nil_f

pub nil_stays : (s : Stand) → may_enter s zero_f ≡ false
nil_stays Basic = refl
nil_stays Lower = (not_below_iff zero_f zero_f).1 (le_refl_f zero_f)
nil_stays Upper = (not_below_iff zero_f zero_f).1 (le_refl_f zero_f)
nil_stays Zero = ap not ((is_zero_iff zero_f).1 refl)

-- ---- fixed variables
fixed_by : (low high : Fraction) → low ≤ᶠ high → (t : Bool) → is_below low high ≡ t → outside.fixed_by (Some low) (Some high) ≡ not t
fixed_by low high h true e = same_test (is_same low high) false
    (λ s. absurd (lt_other_f low high ((is_below_iff low high).0 e) ((is_same_iff low high).0 s))) (λ s. absurd (true≢false (sym s)))
fixed_by low high h false e = (is_same_iff low high).1 (le_antisymm_f low high h ((not_below_iff low high).0 e))

boxed_or_fixed : (b : Bounds) (low high : Fraction) → b.low ≡ Some low → b.high ≡ Some high → (t : Bool) → is_fixed b (if t then Some (high -ᶠ low) else None) ≡ not t
boxed_or_fixed b low high e h true = refl
boxed_or_fixed b low high e h false = ap (λ o. is_bounded o b.high) e ∙ ap (is_bounded (Some low)) h

pub fixed_same : (b : Bounds) (width : Option Fraction) → IsUncrossed b → width ≡ outside.width b → is_fixed b width ≡ outside.is_fixed b
fixed_same b width u e = ap (is_fixed b) e ∙ go b.low b.high refl refl
  where
    go : (low high : Option Fraction) → b.low ≡ low → b.high ≡ high → is_fixed b (outside.width_by low high) ≡ outside.fixed_by low high
    go None high h k = ap (λ o. is_bounded o b.high) h
    go (Some low) None h k = ap (λ o. is_bounded o b.high) h ∙ ap (is_bounded (Some low)) k
    go (Some low) (Some high) h k = boxed_or_fixed b low high h k (is_below low high) ∙ sym (fixed_by low high (u.ordered low high h k) (is_below low high) refl)
