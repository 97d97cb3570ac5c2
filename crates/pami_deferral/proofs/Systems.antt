-- Systems of a square matrix: differences of solutions, and a solution where one column and its factor are exchanged.
use Rattle.std.proofs.Common.{◌≡◌, ℕ, ◌<◌, [], ◌∷◌, refl, sym, ap, ◌∙◌, Bool, true, false, cond}
use lib.IntN.{pos}
use lib.Dec.{T, eqb, eqb→eq}
use Rattle.pami_algebra.specs.Fraction.{Fraction}
use Rattle.pami_algebra.specs.Ring.{var, t0, t1, ◌⊕◌, ◌⊗◌, ⊖}
use Rattle.pami_algebra.specs.Operations.{◌+ᶠ◌, ◌-ᶠ◌, ◌*ᶠ◌, neg_f, of_int}
use Rattle.pami_algebra.proofs.Laws.{by_ring_f}
use Rattle.pami_linear.specs.Sums.{sum_to, unit}
use Rattle.pami_linear.specs.Active.{set_at}
use Rattle.pami_linear.specs.Systems.{Solves, replaced}
use Rattle.pami_linear.proofs.Sums.{sum_same, sum_add, sum_unit}
use Rattle.pami_linear.proofs.Systems.{solves_same, solves_add}

-- the same matrix, with equal members
pub solves_equal : (m : ℕ) (b : ℕ → ℕ → Fraction) (x z r s : ℕ → Fraction) → ((k : ℕ) → k < m → x k ≡ z k) → ((i : ℕ) → i < m → r i ≡ s i)
    → Solves m b x r → Solves m b z s
solves_equal m b x z r s ex er e = solves_same m b b x z r s (λ k i h l. refl) ex er e

less_one : (x z : Fraction) → x +ᶠ neg_f (of_int (pos 1)) *ᶠ z ≡ x -ᶠ z
less_one x z = by_ring_f (x ∷ z ∷ []) (var 0 ⊕ (⊖ t1) ⊗ var 1) (var 0 ⊕ ⊖ (var 1)) refl

pub solves_sub : (m : ℕ) (b : ℕ → ℕ → Fraction) (x z r s : ℕ → Fraction) → Solves m b x r → Solves m b z s
    → Solves m b (λ k. x k -ᶠ z k) (λ i. r i -ᶠ s i)
solves_sub m b x z r s e f =
    solves_equal m b (λ k. x k +ᶠ neg_f (of_int (pos 1)) *ᶠ z k) (λ k. x k -ᶠ z k) (λ i. r i +ᶠ neg_f (of_int (pos 1)) *ᶠ s i)
    (λ i. r i -ᶠ s i)
    (λ k l. less_one (x k) (z k)) (λ i l. less_one (r i) (s i)) (solves_add m b x z r s (neg_f (of_int (pos 1))) e f)

pub solves_sum : (m : ℕ) (b : ℕ → ℕ → Fraction) (x z r s : ℕ → Fraction) → Solves m b x r → Solves m b z s
    → Solves m b (λ k. x k +ᶠ z k) (λ i. r i +ᶠ s i)
solves_sum m b x z r s e f =
    solves_equal m b (λ k. x k +ᶠ of_int (pos 1) *ᶠ z k) (λ k. x k +ᶠ z k) (λ i. r i +ᶠ of_int (pos 1) *ᶠ s i) (λ i. r i +ᶠ s i)
    (λ k l. by_ring_f (x k ∷ z k ∷ []) (var 0 ⊕ t1 ⊗ var 1) (var 0 ⊕ var 1) refl)
    (λ i l. by_ring_f (r i ∷ s i ∷ []) (var 0 ⊕ t1 ⊗ var 1) (var 0 ⊕ var 1) refl)
    (solves_add m b x z r s (of_int (pos 1)) e f)

-- ---- the column at p is c now, with the factor w
cond_at : (t : Bool) (c b : ℕ → Fraction) (i : ℕ) → cond t c b i ≡ cond t (c i) (b i)
cond_at true c b i = refl
cond_at false c b i = refl

term_is : (t : Bool) (c b w x u : Fraction) → (T t → u ≡ b *ᶠ x) → cond t c b *ᶠ cond t w x
    ≡ b *ᶠ x +ᶠ cond t (of_int (pos 1)) (of_int (pos 0)) *ᶠ (w *ᶠ c -ᶠ u)
term_is true c b w x u h =
    by_ring_f (c ∷ w ∷ (b *ᶠ x) ∷ []) (var 0 ⊗ var 1) (var 2 ⊕ t1 ⊗ (var 1 ⊗ var 0 ⊕ ⊖ (var 2))) refl
    ∙ ap (λ z. b *ᶠ x +ᶠ of_int (pos 1) *ᶠ (w *ᶠ c -ᶠ z)) (sym (h tt))
term_is false c b w x u h = by_ring_f (c ∷ w ∷ b ∷ x ∷ u ∷ []) (var 2 ⊗ var 3) (var 2 ⊗ var 3 ⊕ t0 ⊗ (var 1 ⊗ var 0 ⊕ ⊖ (var 4))) refl

pub solves_exchanged : (m p : ℕ) (b : ℕ → ℕ → Fraction) (c x r : ℕ → Fraction) (w : Fraction) → p < m → Solves m b x r →
    Solves m (replaced b p c) (set_at p w x) (λ i. r i +ᶠ (w *ᶠ c i -ᶠ b p i *ᶠ x p))
solves_exchanged m p b c x r w l e = record {
  at = λ i h.
      sum_same m (λ k. replaced b p c k i *ᶠ set_at p w x k) (λ k. b k i *ᶠ x k +ᶠ unit p k *ᶠ (w *ᶠ c i -ᶠ b p i *ᶠ x p))
      (λ k j. ap (λ z. z *ᶠ set_at p w x k) (cond_at (eqb p k) c (b k) i)
      ∙ term_is (eqb p k) (c i) (b k i) w (x k) (b p i *ᶠ x p) (λ t. ap (λ n. b n i *ᶠ x n) (eqb→eq p k t)))
      ∙ sum_add m (λ k. b k i *ᶠ x k) (λ k. unit p k *ᶠ (w *ᶠ c i -ᶠ b p i *ᶠ x p))
      ∙ ap (λ z. z +ᶠ sum_to m (λ k. unit p k *ᶠ (w *ᶠ c i -ᶠ b p i *ᶠ x p))) (e.at i h)
      ∙ ap (λ z. r i +ᶠ z) (sum_unit m p (λ k. w *ᶠ c i -ᶠ b p i *ᶠ x p) l);
}
