-- What the test of a sign says of the fraction.
use Rattle.std.proofs.Common.{◌≡◌, ◌↔◌, ℕ, true, refl, sym, ap, ◌∙◌, subst, arith}
use lib.IntN.{ℤ, pos, negsuc, ◌*ℤ◌}
use lib.Signed.{◌<ℤ◌}
use Rattle.std.proofs.lemmas.Bool.{true≢false}
use Rattle.std.proofs.lemmas.Int.{ints}
use Rattle.pami_algebra.specs.Fraction.{Fraction, gcd}
use Rattle.pami_algebra.specs.Operations.{of_int, ◌<ᶠ◌}
use Rattle.pami_frac.specs.Signs.{is_negative, is_minus}

zero_num : (of_int (pos 0)).num ≡ pos 0
unfolding of_int gcd
zero_num = refl

zero_den : (of_int (pos 0)).den ≡ 1
unfolding of_int gcd
zero_den = refl

minus_in : (n : ℤ) → is_minus n ≡ true → n <ℤ pos 0
minus_in (pos n) e = absurd (true≢false (sym e))
minus_in (negsuc n) e = omega (arith, ints)

minus_out : (n : ℤ) → n <ℤ pos 0 → is_minus n ≡ true
minus_out (pos n) h = absurd (omega (arith, ints))
minus_out (negsuc n) h = refl

-- the two sides of p < 0
sides : (n : ℤ) (d : ℕ) → (n *ℤ pos 1 ≡ n) × (pos 0 *ℤ pos d ≡ pos 0)
sides n d = (omega (arith, ints), omega (arith, ints))

less_in : (p q : Fraction) → q.num ≡ pos 0 → q.den ≡ 1 → p.num <ℤ pos 0 → p <ᶠ q
less_in p q e f h =
    let s = sides p.num p.den in
    record { lt = subst (λ z. (p.num *ℤ pos q.den) <ℤ z) (sym (ap (λ z. z *ℤ pos p.den) e ∙ s.1)) (subst (λ z. z <ℤ pos 0) (sym (ap (λ n. p.num *ℤ pos n) f ∙ s.0)) h) }

less_out : (p q : Fraction) → q.num ≡ pos 0 → q.den ≡ 1 → p <ᶠ q → p.num <ℤ pos 0
less_out p q e f h =
    let s = sides p.num p.den in
    subst (λ z. z <ℤ pos 0) (ap (λ n. p.num *ℤ pos n) f ∙ s.0) (subst (λ z. (p.num *ℤ pos q.den) <ℤ z) (ap (λ z. z *ℤ pos p.den) e ∙ s.1) h.lt)

pub negative_means : (p : Fraction) → is_negative p ≡ true ↔ (p <ᶠ of_int (pos 0))
negative_means p = (λ e. less_in p (of_int (pos 0)) zero_num zero_den (minus_in p.num e), λ h. minus_out p.num (less_out p (of_int (pos 0)) zero_num zero_den h))
