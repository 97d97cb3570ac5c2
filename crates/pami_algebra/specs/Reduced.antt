-- A pair divided by its greatest common divisor is in lowest terms.
use Rattle.std.proofs.Common.{◌≡◌, ℕ, zero, suc, ◌*◌, ◌/◌, ◌<◌, refl, ap, ◌∙◌, subst, arith}
use native.Mathlib.Nat.{div-mul_cancel, eq_of_mul-eq-mul_right, zero-lt-suc}
use lib.IntN.{ℤ, pos, negsuc, neg_ℤ, ◌*ℤ◌, nat_abs}
use lib.Dec.{T}
use Rattle.std.specs.Int.{IsGcd, ◌∣◌}
use Rattle.std.proofs.lemmas.Nat.Gcd.{same_from_IsGcd}
use Rattle.pami_algebra.specs.Fraction.{gcd, is_lowest, Fraction, over_nat}
use Rattle.pami_algebra.specs.Gcd.{gcd_is, gcd_scaled}
use Rattle.pami_algebra.specs.Integers.{neg_mul_ℤ}
use Rattle.pami_algebra.specs.Lowest.{abs_neg, is_lowest_in, made, IsRatio, lowest_pos, same_ratio, itself}

-- ---- both numbers over their greatest common divisor
pub gcd_pos : (a d : ℕ) → 0 < d → 0 < gcd a d
gcd_pos a d p = go (gcd a d) refl
  where
    go : (g : ℕ) → gcd a d ≡ g → 0 < g
    go zero e = let h : d / 0 * 0 ≡ d = div-mul_cancel 0 (subst (λ n. n ∣ d) e (gcd_is a d).1) in absurd (omega arith)
    go (suc g) e = zero-lt-suc g

-- the absolute value of a quotient
pub over_abs : (n : ℤ) (g : ℕ) → nat_abs (over_nat n g) ≡ nat_abs n / g
over_abs (pos n) g = refl
over_abs (negsuc n) g = abs_neg (suc n / g)

-- the quotients have no common divisor but 1, the second is above 0, and so they are in lowest terms
pub reduced_gcd : (a d : ℕ) → 0 < d → gcd (a / gcd a d) (d / gcd a d) ≡ 1
reduced_gcd a d p =
    let g = gcd a d in
    let pg : 0 < gcd a d = gcd_pos a d p in
    let e : a / g * g ≡ a = div-mul_cancel g (gcd_is a d).0 in
    let f : d / g * g ≡ d = div-mul_cancel g (gcd_is a d).1 in
    let h : IsGcd (a / g * g) (d / g * g) (gcd (a / g) (d / g) * g) = gcd_scaled (a / g) (d / g) g pg in
    let k : IsGcd a d (gcd (a / g) (d / g) * g) = subst (λ n. IsGcd a n (gcd (a / g) (d / g) * g)) f (subst (λ n. IsGcd n (d / g * g) (gcd (a / g) (d / g) * g)) e h) in
    let same : gcd (a / g) (d / g) * g ≡ g = same_from_IsGcd a d _ _ k (gcd_is a d) in
    eq_of_mul-eq-mul_right g pg _ 1 (same ∙ omega arith)

pub reduced_pos : (a d : ℕ) → 0 < d → 0 < d / gcd a d
reduced_pos a d p = go (d / gcd a d) (div-mul_cancel (gcd a d) (gcd_is a d).1)
  where
    go : (k : ℕ) → k * gcd a d ≡ d → 0 < k
    go zero e = absurd (omega arith)
    go (suc k) e = zero-lt-suc k

pub reduced : (n : ℤ) (d : ℕ) → 0 < d → T (is_lowest (over_nat n (gcd (nat_abs n) d)) (d / gcd (nat_abs n) d))
reduced n d p =
    is_lowest_in (over_nat n (gcd (nat_abs n) d)) (d / gcd (nat_abs n) d) (ap (λ k. gcd k (d / gcd (nat_abs n) d)) (over_abs n (gcd (nat_abs n) d)) ∙ reduced_gcd (nat_abs n) d p) (reduced_pos (nat_abs n) d p)

-- ---- the fraction of a pair
-- n / d in lowest terms; 0 where d is 0
abbrev pub over : ℤ → ℕ → Fraction
over n zero = made (pos 0) 1 (is_lowest_in (pos 0) 1 (same_from_IsGcd 0 1 _ 1 (gcd_is 0 1) (native.Mathlib.Nat.dvd-zero 1, native.Mathlib.Nat.dvd_refl 1, λ d h k. k)) (zero-lt-suc 0))
over n (suc d) = made (over_nat n (gcd (nat_abs n) (suc d))) (suc d / gcd (nat_abs n) (suc d)) (reduced n (suc d) (zero-lt-suc d))

-- it is the ratio of the pair
pub crossed : (a b g k m : ℕ) → b * g ≡ a → m * g ≡ k → b * k ≡ a * m
crossed a b g k m e f = rw (← e, ← f) (omega arith)

over_cross : (n : ℤ) (d : ℕ) → over_nat n (gcd (nat_abs n) d) *ℤ pos d ≡ n *ℤ pos (d / gcd (nat_abs n) d)
over_cross (pos n) d = let g = gcd_is n d in ap pos (crossed n (n / gcd n d) (gcd n d) d (d / gcd n d) (div-mul_cancel (gcd n d) g.0) (div-mul_cancel (gcd n d) g.1))
over_cross (negsuc n) d =
    let g = gcd_is (suc n) d in
    neg_mul_ℤ (pos (suc n / gcd (suc n) d)) (pos d)
    ∙ ap (λ k. neg_ℤ (pos k)) (crossed (suc n) (suc n / gcd (suc n) d) (gcd (suc n) d) d (d / gcd (suc n) d) (div-mul_cancel (gcd (suc n) d) g.0) (div-mul_cancel (gcd (suc n) d) g.1))

pub over_ratio : (n : ℤ) (d : ℕ) → 0 < d → IsRatio (over n d) n d
over_ratio n zero p = absurd (omega arith)
over_ratio n (suc d) p = record { positive = p; cross = over_cross n (suc d) }

-- a pair in lowest terms stays as it is
pub over_lowest : (n : ℤ) (d : ℕ) (h : T (is_lowest n d)) → over n d ≡ made n d h
over_lowest n d h = let r = over_ratio n d (lowest_pos n d h) in let p : Fraction = over n d in same_ratio p (made n d h) n n d d r (itself (made n d h)) refl

pub over_num : (n : ℤ) (d : ℕ) → T (is_lowest n d) → (over n d).num ≡ n
over_num n d h = ap (λ (p : Fraction). p.num) (over_lowest n d h)

pub over_den : (n : ℤ) (d : ℕ) → T (is_lowest n d) → (over n d).den ≡ d
over_den n d h = ap (λ (p : Fraction). p.den) (over_lowest n d h)

pub over_itself : (p : Fraction) → over p.num p.den ≡ p
over_itself p = over_lowest p.num p.den p.lowest
