-- Numerators and denominators: of a fraction, a reduced pair, a negation, a whole number and an inverse.
use Rattle.std.proofs.Common.{◌≡◌, ◌↔◌, ℕ, zero, suc, ◌/◌, ◌<◌, refl, ap, ◌∙◌, subst, arith}
use native.Mathlib.Nat.{one-dvd, dvd_refl}
use lib.IntN.{ℤ, pos, negsuc, neg_ℤ, ◌*ℤ◌, nat_abs}
use lib.Dec.{T}
use lib.Signed.{◌<ℤ◌}
use Rattle.std.specs.Int.{IsGcd}
use Rattle.std.proofs.lemmas.Int.{ints}
use Rattle.std.proofs.lemmas.Nat.Gcd.{same_from_IsGcd, IsGcd-swap}
use Rattle.pami_algebra.specs.Fraction.{Fraction, gcd, is_lowest, over_nat}
use Rattle.pami_algebra.specs.Gcd.{gcd_is}
use Rattle.pami_algebra.specs.Lowest.{abs_neg, lowest_gcd, is_lowest_in, den_pos, itself, same_ratio}
use Rattle.pami_algebra.specs.Reduced.{over, over_num, over_den}
use Rattle.pami_algebra.specs.Operations.{neg_f, of_int, inv_f, over_int}

-- ---- of any fraction
-- the numerator and the denominator have no common divisor but 1
pub num_den_coprime : (p : Fraction) → gcd (nat_abs p.num) p.den ≡ 1
num_den_coprime p = lowest_gcd p.num p.den p.lowest

-- equal fractions are those with equal cross products
pub same_cross : (p q : Fraction) → (p ≡ q) ↔ (p.num *ℤ pos q.den ≡ q.num *ℤ pos p.den)
same_cross p q = (λ e. subst (λ (r : Fraction). p.num *ℤ pos r.den ≡ r.num *ℤ pos p.den) e refl, λ e. same_ratio p q _ _ _ _ (itself p) (itself q) e)

-- ---- of a reduced pair: both numbers divided by their greatest common divisor
pub num_over : (n : ℤ) (d : ℕ) → 0 < d → (over n d).num ≡ over_nat n (gcd (nat_abs n) d)
num_over n zero h = absurd (omega arith)
num_over n (suc d) h = refl

pub den_over : (n : ℤ) (d : ℕ) → 0 < d → (over n d).den ≡ d / gcd (nat_abs n) d
den_over n zero h = absurd (omega arith)
den_over n (suc d) h = refl

-- ---- of a negation: the denominator stays
pub abs_neg_ℤ : (n : ℤ) → nat_abs (neg_ℤ n) ≡ nat_abs n
abs_neg_ℤ (pos n) = abs_neg n
abs_neg_ℤ (negsuc n) = refl

neg_lowest : (p : Fraction) → T (is_lowest (neg_ℤ p.num) p.den)
neg_lowest p = is_lowest_in (neg_ℤ p.num) p.den (ap (λ a. gcd a p.den) (abs_neg_ℤ p.num) ∙ num_den_coprime p) (den_pos p)

pub num_neg_f : (p : Fraction) → (neg_f p).num ≡ neg_ℤ p.num
unfolding neg_f
num_neg_f p = over_num (neg_ℤ p.num) p.den (neg_lowest p)

pub den_neg_f : (p : Fraction) → (neg_f p).den ≡ p.den
unfolding neg_f
den_neg_f p = over_den (neg_ℤ p.num) p.den (neg_lowest p)

-- ---- of a whole number: itself over 1
pub gcd_one : (a : ℕ) → gcd a 1 ≡ 1
gcd_one a = same_from_IsGcd a 1 _ 1 (gcd_is a 1) (one-dvd a, dvd_refl 1, λ d h k. k)

int_lowest : (n : ℤ) → T (is_lowest n 1)
int_lowest n = is_lowest_in n 1 (gcd_one (nat_abs n)) (omega arith)

pub num_of_int : (n : ℤ) → (of_int n).num ≡ n
unfolding of_int
num_of_int n = over_num n 1 (int_lowest n)

pub den_of_int : (n : ℤ) → (of_int n).den ≡ 1
unfolding of_int
den_of_int n = over_den n 1 (int_lowest n)

-- ---- of an inverse: the two numbers change places, and the sign goes up
gcd_swapped : (a b : ℕ) → gcd a b ≡ 1 → gcd b a ≡ 1
gcd_swapped a b e = same_from_IsGcd b a _ _ (gcd_is b a) (subst (λ n. IsGcd b a n) e (IsGcd-swap a b _ (gcd_is a b)))

swapped_lowest : (n d : ℕ) → T (is_lowest (pos (suc n)) d) → T (is_lowest (pos d) (suc n))
swapped_lowest n d h = is_lowest_in (pos d) (suc n) (gcd_swapped (suc n) d (lowest_gcd (pos (suc n)) d h)) (omega arith)

swapped_lowest_neg : (n d : ℕ) → T (is_lowest (negsuc n) d) → T (is_lowest (neg_ℤ (pos d)) (suc n))
swapped_lowest_neg n d h =
    is_lowest_in (neg_ℤ (pos d)) (suc n) (ap (λ a. gcd a (suc n)) (abs_neg d) ∙ gcd_swapped (suc n) d (lowest_gcd (negsuc n) d h)) (omega arith)

over_int_den : (n : ℤ) (d : ℕ) → T (is_lowest n d) → ¬ (n ≡ pos 0) → (over_int d n).den ≡ nat_abs n
over_int_den (pos zero) d h k = absurd (k refl)
over_int_den (pos (suc n)) d h k = over_den (pos d) (suc n) (swapped_lowest n d h)
over_int_den (negsuc n) d h k = over_den (neg_ℤ (pos d)) (suc n) (swapped_lowest_neg n d h)

over_int_num_above : (n : ℤ) (d : ℕ) → T (is_lowest n d) → pos 0 <ℤ n → (over_int d n).num ≡ pos d
over_int_num_above (pos zero) d h k = absurd (omega (arith, ints))
over_int_num_above (pos (suc n)) d h k = over_num (pos d) (suc n) (swapped_lowest n d h)
over_int_num_above (negsuc n) d h k = absurd (omega (arith, ints))

over_int_num_below : (n : ℤ) (d : ℕ) → T (is_lowest n d) → n <ℤ pos 0 → (over_int d n).num ≡ neg_ℤ (pos d)
over_int_num_below (pos n) d h k = absurd (omega (arith, ints))
over_int_num_below (negsuc n) d h k = over_num (neg_ℤ (pos d)) (suc n) (swapped_lowest_neg n d h)

pub den_inv_f : (p : Fraction) → ¬ (p.num ≡ pos 0) → (inv_f p).den ≡ nat_abs p.num
unfolding inv_f
den_inv_f p = over_int_den p.num p.den p.lowest

pub num_inv_above_f : (p : Fraction) → pos 0 <ℤ p.num → (inv_f p).num ≡ pos p.den
unfolding inv_f
num_inv_above_f p = over_int_num_above p.num p.den p.lowest

pub num_inv_below_f : (p : Fraction) → p.num <ℤ pos 0 → (inv_f p).num ≡ neg_ℤ (pos p.den)
unfolding inv_f
num_inv_below_f p = over_int_num_below p.num p.den p.lowest
