-- Greatest common divisors: what `gcd` computes, multiples of both numbers, and Euclid's lemma.
use Rattle.std.proofs.Common.{◌≡◌, ℕ, zero, suc, ◌+◌, ◌*◌, ◌/◌, ◌%◌, ◌<◌, refl, sym, ap, ◌∙◌, subst, arith}
use native.Mathlib.Nat.{mod-lt, div-add-mod, mul-add-mod_self_left, mod-eq_of_lt, dvd-mul_right}
use Rattle.std.specs.Int.{IsGcd, ◌∣◌}
use Rattle.std.proofs.lemmas.Nat.Gcd.{IsGcd-from_zero, IsGcd-from_mod, same_from_IsGcd}
use Rattle.pami_algebra.specs.Fraction.{gcd_within, gcd}

-- ---- it is the greatest common divisor
within_is : (k a b : ℕ) → b < k → IsGcd a b (gcd_within k a b)
within_is zero a b h = absurd (omega arith)
within_is (suc k) a zero h = IsGcd-from_zero a 0 refl
within_is (suc k) a (suc b) h =
    let small : a % suc b < suc b = mod-lt a (omega arith) in
    IsGcd-from_mod a (suc b) _ (within_is k (suc b) (a % suc b) (omega arith))

pub gcd_is : (a b : ℕ) → IsGcd a b (gcd a b)
unfolding gcd
gcd_is a b = within_is (suc b) a b (omega arith)

-- ---- of multiples it is the multiple
scaled_mod : (a b c : ℕ) → 0 < c → a * c % (suc b * c) ≡ a % suc b * c
scaled_mod a b c h =
    let e : a * c ≡ suc b * c * (a / suc b) + a % suc b * c = omega (arith, ap (λ n. n * c) (div-add-mod a (suc b))) in
    let small : a % suc b < suc b = mod-lt a (omega arith) in
    let smaller : a % suc b * c < suc b * c = grind arith in
    ap (λ n. n % (suc b * c)) e ∙ mul-add-mod_self_left (suc b * c) (a / suc b) (a % suc b * c) ∙ mod-eq_of_lt smaller

within_scaled : (k a b c : ℕ) → 0 < c → b < k → IsGcd (a * c) (b * c) (gcd_within k a b * c)
within_scaled zero a b c p h = absurd (omega arith)
within_scaled (suc k) a zero c p h = IsGcd-from_zero (a * c) (0 * c) (omega arith)
within_scaled (suc k) a (suc b) c p h =
    let small : a % suc b < suc b = mod-lt a (omega arith) in
    IsGcd-from_mod (a * c) (suc b * c) _ (subst (λ n. IsGcd (suc b * c) n (gcd_within k (suc b) (a % suc b) * c)) (sym (scaled_mod a b c p)) (within_scaled k (suc b) (a % suc b) c p (omega arith)))

pub gcd_scaled : (a b c : ℕ) → 0 < c → IsGcd (a * c) (b * c) (gcd a b * c)
unfolding gcd
gcd_scaled a b c p = within_scaled (suc b) a b c p (omega arith)

-- ---- a divisor that has nothing in common with one factor divides the other
pub divides_other : (a b c : ℕ) → 0 < c → gcd a b ≡ 1 → a ∣ b * c → a ∣ c
divides_other a b c p e h =
    let g : IsGcd (a * c) (b * c) (1 * c) = subst (λ n. IsGcd (a * c) (b * c) (n * c)) e (gcd_scaled a b c p) in
    let one : 1 * c ≡ c = omega arith in
    subst (λ n. a ∣ n) one (g.2 a (dvd-mul_right a c) h)

-- ---- one step of Euclid's loop, and its end
pub gcd_step : (a b : ℕ) → 0 < b → gcd b (a % b) ≡ gcd a b
gcd_step a b p = same_from_IsGcd a b _ _ (IsGcd-from_mod a b _ (gcd_is b (a % b))) (gcd_is a b)

pub gcd_end : (a : ℕ) → gcd a 0 ≡ a
gcd_end a = same_from_IsGcd a 0 _ _ (gcd_is a 0) (IsGcd-from_zero a 0 refl)
