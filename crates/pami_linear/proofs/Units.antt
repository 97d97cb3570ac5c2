-- More on scalar products and unit vectors.
use Rattle.std.proofs.Common.{◌≡◌, ℕ, ◌<◌, [], ◌∷◌, refl, sym, ap, ◌∙◌, ⊎_elim}
use Rattle.std.proofs.lemmas.Bool.{cases_eq}
use lib.IntN.{pos}
use Rattle.pami_algebra.specs.Fraction.{Fraction}
use Rattle.pami_algebra.specs.Ring.{var, ◌⊗◌, ⊖}
use Rattle.pami_algebra.specs.Operations.{◌*ᶠ◌, neg_f, of_int}
use Rattle.pami_algebra.proofs.Laws.{by_ring_f}
use Rattle.pami_algebra.proofs.Field.{nil_mul_f}
use Rattle.pami_linear.specs.Sums.{dot, unit}
use Rattle.pami_linear.proofs.Sums.{sum_same, sum_none, sum_unit, unit_other}

-- nothing comes from a vector of zeros
pub dot_none : (n : ℕ) (u v : ℕ → Fraction) → ((i : ℕ) → i < n → u i ≡ of_int (pos 0)) → dot n u v ≡ of_int (pos 0)
dot_none n u v h = sum_none n (λ i. u i *ᶠ v i) (λ i l. ap (λ z. z *ᶠ v i) (h i l) ∙ nil_mul_f (v i))

pub unit_swap : (p k : ℕ) → unit p k ≡ unit k p
unit_swap p k = ⊎_elim
    (λ (e : p ≡ k). ap (λ i. unit i k) e ∙ ap (λ i. unit k i) (sym e))
    (λ (h : ¬ (p ≡ k)). unit_other p k h ∙ sym (unit_other k p (λ e. h (sym e))))
    (cases_eq p k)

-- against the negation of a unit vector: the negation of the member at its place
pub dot_neg_unit : (n p : ℕ) (u : ℕ → Fraction) → p < n → dot n u (λ k. neg_f (unit p k)) ≡ neg_f (u p)
dot_neg_unit n p u l =
    sum_same n (λ k. u k *ᶠ neg_f (unit p k)) (λ k. unit p k *ᶠ neg_f (u k)) (λ k h. by_ring_f (u k ∷ unit p k ∷ []) (var 0 ⊗ ⊖ (var 1)) (var 1 ⊗ ⊖ (var 0)) refl)
    ∙ sum_unit n p (λ k. neg_f (u k)) l
