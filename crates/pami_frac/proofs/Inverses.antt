-- A fraction that isn't 0 with its numbers changed over.
use Rattle.std.proofs.Common.{◌≡◌, ℕ, ◌<◌, ◌^◌, zero, suc, refl, sym, ap, ◌∙◌, subst, arith, Bool, false}
use lib.IntN.{ℤ, pos, negsuc, nat_abs}
use Rattle.pami_algebra.specs.Fraction.{Fraction, gcd}
use Rattle.pami_algebra.specs.Lowest.{is_lowest_in}
use Rattle.pami_algebra.specs.Reduced.{over}
use Rattle.pami_algebra.specs.Operations.{inv_f, over_int}
use Rattle.pami_algebra.proofs.Parts.{num_den_coprime}
use Rattle.std.proofs.lemmas.Bool.{true≢false}
use Rattle.std.specs.Ordering.{int_eq}
use Rattle.pami_frac.specs.Range.{signed_of}
use Rattle.pami_frac.specs.Signs.{is_zero, is_minus, is_negative}
use Rattle.pami_frac.specs.Stored.{IsStored}
use Rattle.pami_frac.proofs.Signed.{signed_abs}
use Rattle.pami_frac.proofs.Crosswise.{coprime_swap}

sign_is : (n : ℤ) (d : ℕ) → over (signed_of (is_minus n) d) (nat_abs n) ≡ over_int d n
sign_is (pos n) d = refl
sign_is (negsuc n) d = refl

inverse_over : (p : Fraction) → over (signed_of (is_negative p) p.den) (nat_abs p.num) ≡ inv_f p
unfolding inv_f
inverse_over p = sign_is p.num p.den

not_nil : (n : ℤ) → int_eq n (pos 0) ≡ false → 0 < nat_abs n
not_nil (pos zero) e = absurd (true≢false e)
not_nil (pos (suc n)) e = omega arith
not_nil (negsuc n) e = omega arith

inverse_stored : (p : Fraction) → is_zero p ≡ false → nat_abs p.num < 2 ^ 127 → p.den < 2 ^ 127 → IsStored (signed_of (is_negative p) p.den) (nat_abs p.num)
inverse_stored p e x y = record {
  lowest = is_lowest_in (signed_of (is_negative p) p.den) (nat_abs p.num)
      (ap (λ z. gcd z (nat_abs p.num)) (signed_abs (is_negative p) p.den) ∙ coprime_swap (nat_abs p.num) p.den (num_den_coprime p))
      (not_nil p.num e);
  num_small = subst (λ z. z < 2 ^ 127) (sym (signed_abs (is_negative p) p.den)) y;
  den_small = x;
}

-- the same, at the numbers as the code has them
pub inverse_at : (p : Fraction) (w w' : ℤ) (s : Bool) (d n : ℕ) → is_zero p ≡ false → n < 2 ^ 127 → d < 2 ^ 127 → n ≡ nat_abs p.num → d ≡ p.den → s ≡ is_negative p → w' ≡ w → w ≡ signed_of s d →
    IsStored w' n × (over w' n ≡ inv_f p)
inverse_at p w w' s d n e x y f g h i j =
    let is : w' ≡ signed_of (is_negative p) p.den = i ∙ j ∙ ap (λ s. signed_of s d) h ∙ ap (signed_of (is_negative p)) g in
    let P : ℤ → ℕ → Type 0 = λ w n. IsStored w n × (over w n ≡ inv_f p) in
    subst (λ w. P w n) (sym is) (subst (λ n. P (signed_of (is_negative p) p.den) n) (sym f)
    (inverse_stored p e (subst (λ n. n < 2 ^ 127) f x) (subst (λ d. d < 2 ^ 127) g y), inverse_over p))
