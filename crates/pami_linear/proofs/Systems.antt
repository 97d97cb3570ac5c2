-- Systems of a square matrix: what they depend on, their linearity, and the solutions that an inverse gives.
use Rattle.std.proofs.Common.{◌≡◌, ℕ, ◌<◌, [], ◌∷◌, refl, sym, ap, ◌∙◌}
use lib.IntN.{pos}
use Rattle.pami_algebra.specs.Fraction.{Fraction}
use Rattle.pami_algebra.specs.Ring.{var, ◌⊕◌, ◌⊗◌}
use Rattle.pami_algebra.specs.Operations.{◌+ᶠ◌, ◌*ᶠ◌, of_int}
use Rattle.pami_algebra.proofs.Laws.{by_ring_f, mul_comm_f}
use Rattle.pami_algebra.proofs.Field.{mul_nil_f}
use Rattle.pami_linear.specs.Sums.{sum_to, dot, unit}
use Rattle.pami_linear.specs.Systems.{Solves, Combines, IsRow, IsInverse, IsRegular}
use Rattle.pami_linear.proofs.Sums.{sum_same, sum_none, sum_add, sum_scale, sum_scale_right, sum_swap, sum_unit, dot_same, dot_add, dot_scale, both_orders}
use Rattle.pami_linear.proofs.Units.{unit_swap}

-- ---- entries and members below m are all that counts
pub solves_same : (m : ℕ) (b c : ℕ → ℕ → Fraction) (x z r s : ℕ → Fraction) →
    ((k i : ℕ) → k < m → i < m → b k i ≡ c k i) → ((k : ℕ) → k < m → x k ≡ z k) → ((i : ℕ) → i < m → r i ≡ s i) → Solves m b x r → Solves m c z s
solves_same m b c x z r s eb ex er e = record {
  at = λ i l. sum_same m (λ k. c k i *ᶠ z k) (λ k. b k i *ᶠ x k) (λ k h. ap (λ t. t *ᶠ z k) (sym (eb k i h l)) ∙ ap (λ t. b k i *ᶠ t) (sym (ex k h))) ∙ e.at i l ∙ er i l;
}

pub combines_same : (m : ℕ) (b c : ℕ → ℕ → Fraction) (y z d e : ℕ → Fraction) →
    ((k i : ℕ) → k < m → i < m → b k i ≡ c k i) → ((i : ℕ) → i < m → y i ≡ z i) → ((k : ℕ) → k < m → d k ≡ e k) → Combines m b y d → Combines m c z e
combines_same m b c y z d e eb ey ed f = record {
  at = λ k l. dot_same m z (c k) y (b k) (λ i h. sym (ey i h)) (λ i h. sym (eb k i l h)) ∙ f.at k l ∙ ed k l;
}

pub inverse_same : (m : ℕ) (b c v : ℕ → ℕ → Fraction) → ((k i : ℕ) → k < m → i < m → b k i ≡ c k i) → IsInverse m b v → IsInverse m c v
inverse_same m b c v eb e = record { at = λ j l. solves_same m b c (v j) (v j) (unit j) (unit j) eb (λ k h. refl) (λ i h. refl) (e.at j l) }

pub regular_same : (m : ℕ) (b c : ℕ → ℕ → Fraction) → ((k i : ℕ) → k < m → i < m → b k i ≡ c k i) → IsRegular m b → IsRegular m c
regular_same m b c eb g = (g.0, inverse_same m b c g.0 eb g.1)

-- ---- sums and multiples
pub solves_add : (m : ℕ) (b : ℕ → ℕ → Fraction) (x z r s : ℕ → Fraction) (t : Fraction) → Solves m b x r → Solves m b z s → Solves m b (λ k. x k +ᶠ t *ᶠ z k) (λ i. r i +ᶠ t *ᶠ s i)
solves_add m b x z r s t e f = record {
  at = λ i l.
      sum_same m (λ k. b k i *ᶠ (x k +ᶠ t *ᶠ z k)) (λ k. b k i *ᶠ x k +ᶠ t *ᶠ (b k i *ᶠ z k))
      (λ k h. by_ring_f (b k i ∷ x k ∷ t ∷ z k ∷ []) (var 0 ⊗ (var 1 ⊕ var 2 ⊗ var 3)) (var 0 ⊗ var 1 ⊕ var 2 ⊗ (var 0 ⊗ var 3)) refl)
      ∙ sum_add m (λ k. b k i *ᶠ x k) (λ k. t *ᶠ (b k i *ᶠ z k))
      ∙ ap (λ w. sum_to m (λ k. b k i *ᶠ x k) +ᶠ w) (sum_scale m t (λ k. b k i *ᶠ z k))
      ∙ ap (λ w. w +ᶠ t *ᶠ sum_to m (λ k. b k i *ᶠ z k)) (e.at i l)
      ∙ ap (λ w. r i +ᶠ t *ᶠ w) (f.at i l);
}

pub combines_add : (m : ℕ) (b : ℕ → ℕ → Fraction) (y z d e : ℕ → Fraction) (t : Fraction) → Combines m b y d → Combines m b z e → Combines m b (λ i. y i +ᶠ t *ᶠ z i) (λ k. d k +ᶠ t *ᶠ e k)
combines_add m b y z d e t f g = record {
  at = λ k l.
      dot_add m y (λ i. t *ᶠ z i) (b k)
      ∙ ap (λ w. dot m y (b k) +ᶠ w) (dot_scale m t z (b k))
      ∙ ap (λ w. w +ᶠ t *ᶠ dot m z (b k)) (f.at k l)
      ∙ ap (λ w. d k +ᶠ t *ᶠ w) (g.at k l);
}

pub solves_zero : (m : ℕ) (b : ℕ → ℕ → Fraction) → Solves m b (λ k. of_int (pos 0)) (λ i. of_int (pos 0))
solves_zero m b = record { at = λ i l. sum_none m (λ k. b k i *ᶠ of_int (pos 0)) (λ k h. mul_nil_f (b k i)) }

-- ---- unit vectors
-- a column is reached by the unit vector of its place
pub solves_unit : (m p : ℕ) (b : ℕ → ℕ → Fraction) → p < m → Solves m b (unit p) (b p)
solves_unit m p b h = record {
  at = λ i l. sum_same m (λ k. b k i *ᶠ unit p k) (λ k. unit p k *ᶠ b k i) (λ k j. mul_comm_f (b k i) (unit p k)) ∙ sum_unit m p (λ k. b k i) h;
}

-- and a row by that of its row
pub combines_unit : (m i : ℕ) (b : ℕ → ℕ → Fraction) → i < m → Combines m b (unit i) (λ k. b k i)
combines_unit m i b h = record { at = λ k l. sum_unit m i (b k) h }

-- ---- both systems
-- y B x in two orders: y r = d x
pub solutions_meet : (m : ℕ) (b : ℕ → ℕ → Fraction) (x r y d : ℕ → Fraction) → Solves m b x r → Combines m b y d → dot m y r ≡ dot m d x
solutions_meet m b x r y d e f =
    dot_same m y r y (λ i. sum_to m (λ k. b k i *ᶠ x k)) (λ i l. refl) (λ i l. sym (e.at i l))
    ∙ both_orders m m b y x
    ∙ dot_same m (λ k. dot m y (b k)) x d x f.at (λ k l. refl)

-- the row of a place against a column: the entry of the solve with that column at that place
pub row_meets_column : (m p : ℕ) (b : ℕ → ℕ → Fraction) (alpha c rho : ℕ → Fraction) → p < m → Solves m b alpha c → IsRow m b p rho → dot m rho c ≡ alpha p
row_meets_column m p b alpha c rho l e f = solutions_meet m b alpha c rho (unit p) e f ∙ sum_unit m p alpha l

-- ---- by an inverse
pub solves_by : (m : ℕ) (b v : ℕ → ℕ → Fraction) (r : ℕ → Fraction) → IsInverse m b v → Solves m b (λ k. sum_to m (λ j. v j k *ᶠ r j)) r
solves_by m b v r inv = record {
  at = λ i l.
      sum_same m (λ k. b k i *ᶠ sum_to m (λ j. v j k *ᶠ r j)) (λ k. sum_to m (λ j. b k i *ᶠ (v j k *ᶠ r j))) (λ k h. sym (sum_scale m (b k i) (λ j. v j k *ᶠ r j)))
      ∙ sum_swap m m (λ k j. b k i *ᶠ (v j k *ᶠ r j))
      ∙ sum_same m (λ j. sum_to m (λ k. b k i *ᶠ (v j k *ᶠ r j))) (λ j. unit i j *ᶠ r j)
      (λ j h. sum_same m (λ k. b k i *ᶠ (v j k *ᶠ r j)) (λ k. (b k i *ᶠ v j k) *ᶠ r j) (λ k u. by_ring_f (b k i ∷ v j k ∷ r j ∷ []) (var 0 ⊗ (var 1 ⊗ var 2)) (var 0 ⊗ var 1 ⊗ var 2) refl)
      ∙ sum_scale_right m (r j) (λ k. b k i *ᶠ v j k)
      ∙ ap (λ z. z *ᶠ r j) ((inv.at j h).at i l ∙ unit_swap j i))
      ∙ sum_unit m i r l;
}

-- the members of y are determined by an inverse
pub combined_is : (m j : ℕ) (b v : ℕ → ℕ → Fraction) (y d : ℕ → Fraction) → j < m → Combines m b y d → IsInverse m b v → y j ≡ sum_to m (λ k. v j k *ᶠ d k)
combined_is m j b v y d l e inv =
    sym (sum_unit m j y l)
    ∙ sum_same m (λ i. unit j i *ᶠ y i) (λ i. y i *ᶠ unit j i) (λ i h. mul_comm_f (unit j i) (y i))
    ∙ solutions_meet m b (v j) (unit j) y d (inv.at j l) e
    ∙ sum_same m (λ k. d k *ᶠ v j k) (λ k. v j k *ᶠ d k) (λ k h. mul_comm_f (d k) (v j k))

-- so the row of a place has the entries of the inverse
pub row_is : (m p j : ℕ) (b v : ℕ → ℕ → Fraction) (rho : ℕ → Fraction) → p < m → j < m → IsRow m b p rho → IsInverse m b v → rho j ≡ v j p
row_is m p j b v rho lp lj row inv =
    combined_is m j b v rho (unit p) lj row inv
    ∙ sum_same m (λ k. v j k *ᶠ unit p k) (λ k. unit p k *ᶠ v j k) (λ k h. mul_comm_f (v j k) (unit p k))
    ∙ sum_unit m p (v j) lp

-- a row that gives 0 with every column leaves no inverse
pub not_regular_by_row : (m j : ℕ) (b : ℕ → ℕ → Fraction) (y : ℕ → Fraction) → j < m → Combines m b y (λ k. of_int (pos 0)) → ¬ (y j ≡ of_int (pos 0)) → ¬ (IsRegular m b)
not_regular_by_row m j b y l e n g =
    n (combined_is m j b g.0 y (λ k. of_int (pos 0)) l e g.1 ∙ sum_none m (λ k. g.0 j k *ᶠ of_int (pos 0)) (λ k h. mul_nil_f (g.0 j k)))
