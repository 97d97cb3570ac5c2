-- The product of two whole numbers is a whole number, and fits where that does.
use Rattle.std.proofs.Common.{◌≡◌, ℕ, ◌*◌, ap, sym, ◌∙◌, refl, Bool, true, false, cond, Option, Some, None}
use lib.IntN.{ℤ, ◌*ℤ◌, nat_abs}
use Rattle.pami_algebra.specs.Fraction.{Fraction}
use Rattle.pami_algebra.specs.Reduced.{over}
use Rattle.pami_algebra.specs.Operations.{◌*ᶠ◌, of_int}
use Rattle.pami_algebra.proofs.Parts.{num_of_int, den_of_int}
use Rattle.pami_frac.specs.Range.{small, fits, kept}
use Rattle.pami_frac.specs.Arithmetic.{mul_fits}
use Rattle.pami_frac.specs.Checked.{then_int, over_if, product_if}

whole_num : (n : ℤ) → (over n 1).num ≡ n
unfolding of_int
whole_num n = num_of_int n

whole_den : (n : ℤ) → (over n 1).den ≡ 1
unfolding of_int
whole_den n = den_of_int n

whole_fits : (n : ℤ) → fits (over n 1) ≡ cond (small (nat_abs n)) true false
whole_fits n = ap (λ z. cond (small (nat_abs z)) (small (over n 1).den) false) (whole_num n) ∙ ap (λ d. cond (small (nat_abs n)) (small d) false) (whole_den n)

whole_kept : (n : ℤ) → over_if n 1 ≡ kept (over n 1)
whole_kept n = go (small (nat_abs n)) ∙ sym (ap (λ b. cond b (Some (over n 1)) None) (whole_fits n))
  where
    go : (b : Bool) → then_int (cond b (Some n) None) (λ n. Some (over n 1)) ≡ cond (cond b true false) (Some (over n 1)) None
    go true = refl
    go false = refl

-- the product, at the numbers as the code has them
pub whole_product_is : (p q : Fraction) (a a' c c' : ℤ) (b d : ℕ) (r : Option Fraction) → a' ≡ a → a ≡ p.num → c' ≡ c → c ≡ q.num → b ≡ p.den → d ≡ q.den → b ≡ 1 → d ≡ 1 →
    r ≡ over_if (a' *ℤ c') 1 → r ≡ product_if p q
unfolding mul_fits ◌*ᶠ◌
whole_product_is p q a a' c c' b d r e f g h i j k l m =
    m ∙ ap (λ z. over_if (z *ℤ c') 1) (e ∙ f) ∙ ap (λ z. over_if (p.num *ℤ z) 1) (g ∙ h)
    ∙ whole_kept (p.num *ℤ q.num)
    ∙ ap (λ n. kept (over (p.num *ℤ q.num) (n * 1))) (sym k ∙ i)
    ∙ ap (λ n. kept (over (p.num *ℤ q.num) (p.den * n))) (sym l ∙ j)
