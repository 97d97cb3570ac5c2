-- Weak duality: no point of the form costs less than one with a certificate.
use Rattle.std.proofs.Common.{◌≡◌, ℕ, ◌<◌, ◌⊎◌, [], ◌∷◌, refl, sym, ap, ◌∙◌, ⊎_elim}
use Rattle.pami_algebra.specs.Fraction.{Fraction}
use Rattle.pami_algebra.specs.Ring.{var, t0, ◌⊕◌, ◌⊗◌, ⊖}
use Rattle.pami_algebra.specs.Operations.{◌+ᶠ◌, ◌*ᶠ◌, ◌-ᶠ◌, ◌≤ᶠ◌, ◌<ᶠ◌}
use Rattle.pami_algebra.proofs.Laws.{by_ring_f}
use Rattle.pami_algebra.proofs.Order.{le_refl_f, le_antisymm_f, mul_nonneg_f}
use Rattle.pami_algebra.proofs.Strict.{lt_le_f, lt_trichotomy_f}
use Rattle.pami_algebra.proofs.Bounds.{le_moved_f, le_by, gap_of}
use Rattle.pami_algebra.proofs.Products.{add_le_left_f}
use Rattle.pami_linear.specs.Sums.{sum_to, dot}
use Rattle.pami_linear.proofs.Sums.{sum_same, sum_add, sum_append, sum_le, dot_same, both_orders}
use Rattle.pami_frac.specs.declared.list.Bounds.{Bounds}
use Rattle.pami_theory.specs.Form.{Form, limits, entry, cost, variables, row_variable, zero_f, IsPoint, IsWithin, IsFeasible}
use Rattle.pami_theory.specs.Certificate.{IsComplementary, HoldsOptimal, objective_of}
use Rattle.pami_theory.proofs.Forms.{point_rows}

-- d = c - y A, with the y of a row at its row variable
abbrev pub CostsAreReduced : Form → (ℕ → Fraction) → Type 0
CostsAreReduced f d = (j : ℕ) → j < f.columns → d j ≡ cost f j -ᶠ dot f.rows (λ i. d (row_variable f i)) (λ i. entry f i j)

-- at a point, the costs of the columns come to the reduced costs of all variables
pub cost_by_reduced : (f : Form) (d z : ℕ → Fraction) → CostsAreReduced f d → IsPoint f z → dot f.columns (cost f) z ≡ dot (variables f) d z
cost_by_reduced f d z h k =
    let y : ℕ → Fraction = λ i. d (row_variable f i) in
    let a : ℕ → ℕ → Fraction = λ j i. entry f i j in
    let w : ℕ → Fraction = λ j. dot f.rows y (a j) in
    sum_same f.columns (λ j. cost f j *ᶠ z j) (λ j. d j *ᶠ z j +ᶠ w j *ᶠ z j)
    (λ j l. by_ring_f (cost f j ∷ w j ∷ z j ∷ []) (var 0 ⊗ var 2) ((var 0 ⊕ ⊖ (var 1)) ⊗ var 2 ⊕ var 1 ⊗ var 2) refl ∙ ap (λ q. q *ᶠ z j +ᶠ w j *ᶠ z j) (sym (h j l)))
    ∙ sum_add f.columns (λ j. d j *ᶠ z j) (λ j. w j *ᶠ z j)
    ∙ ap (λ q. dot f.columns d z +ᶠ q) (sym (both_orders f.rows f.columns a y z))
    ∙ ap (λ q. dot f.columns d z +ᶠ q) (dot_same f.rows y (λ i. sum_to f.columns (λ j. a j i *ᶠ z j)) y (λ i. z (row_variable f i)) (λ i l. refl) (λ i l. sym (point_rows f z k i l)))
    ∙ sym (sum_append f.columns f.rows (λ v. d v *ᶠ z v))

-- a product with one factor at least 0 keeps an order, and with one at most 0 turns it round
pub scaled_up : (d p q : Fraction) → zero_f ≤ᶠ d → p ≤ᶠ q → (d *ᶠ p) ≤ᶠ (d *ᶠ q)
scaled_up d p q h k = le_by (d *ᶠ p) (d *ᶠ q) (d *ᶠ (q -ᶠ p)) (mul_nonneg_f d (q -ᶠ p) h (gap_of p q k))
    (by_ring_f (d ∷ p ∷ q ∷ []) (var 0 ⊗ var 2) (var 0 ⊗ var 1 ⊕ var 0 ⊗ (var 2 ⊕ ⊖ (var 1))) refl)

pub scaled_down : (d p q : Fraction) → d ≤ᶠ zero_f → q ≤ᶠ p → (d *ᶠ p) ≤ᶠ (d *ᶠ q)
scaled_down d p q h k = le_by (d *ᶠ p) (d *ᶠ q) ((zero_f -ᶠ d) *ᶠ (p -ᶠ q)) (mul_nonneg_f (zero_f -ᶠ d) (p -ᶠ q) (gap_of d zero_f h) (gap_of q p k))
    (by_ring_f (d ∷ p ∷ q ∷ []) (var 0 ⊗ var 2) (var 0 ⊗ var 1 ⊕ (t0 ⊕ ⊖ (var 0)) ⊗ (var 1 ⊕ ⊖ (var 2))) refl)

-- each variable: no value within its bounds costs less than the complementary one
pub complementary_le : (l : Bounds) (value other d : Fraction) → IsComplementary l value d → IsWithin l other → (d *ᶠ value) ≤ᶠ (d *ᶠ other)
complementary_le l value other d h k = ⊎_elim
    (λ (n : d <ᶠ zero_f). scaled_down d value other (lt_le_f d zero_f n) (k.below_high value (h.negative n)))
    (λ (n : (d ≡ zero_f) ⊎ (zero_f <ᶠ d)). ⊎_elim
    (λ (e : d ≡ zero_f). le_moved_f zero_f zero_f (d *ᶠ value) (d *ᶠ other) (nothing value e) (nothing other e) (le_refl_f zero_f))
    (λ (m : zero_f <ᶠ d). scaled_up d value other (lt_le_f zero_f d m) (k.above_low value (h.positive m)))
    n)
    (lt_trichotomy_f d zero_f)
  where
    nothing : (q : Fraction) → d ≡ zero_f → zero_f ≡ d *ᶠ q
    nothing q e = by_ring_f (q ∷ []) t0 (t0 ⊗ var 0) refl ∙ ap (λ p. p *ᶠ q) (sym e)

pub weak_duality : (f : Form) (x d z : ℕ → Fraction) → HoldsOptimal f x d → IsFeasible f z → dot f.columns (cost f) x ≤ᶠ dot f.columns (cost f) z
weak_duality f x d z h k = le_moved_f (dot (variables f) d x) (dot (variables f) d z) (dot f.columns (cost f) x) (dot f.columns (cost f) z)
    (sym (cost_by_reduced f d x h.reduced h.feasible.point))
    (sym (cost_by_reduced f d z h.reduced k.point))
    (sum_le (variables f) (λ v. d v *ᶠ x v) (λ v. d v *ᶠ z v) (λ v l. complementary_le (limits f v) (x v) (z v) (d v) (h.complementary v l) (k.within v l)))

pub weak_duality_objective : (f : Form) (constant : Fraction) (x d z : ℕ → Fraction) → HoldsOptimal f x d → IsFeasible f z → objective_of constant f.columns (cost f) x ≤ᶠ objective_of constant f.columns (cost f) z
weak_duality_objective f constant x d z h k = add_le_left_f (dot f.columns (cost f) x) (dot f.columns (cost f) z) constant (weak_duality f x d z h k)

pub cost_by_certificate : (f : Form) (x d z : ℕ → Fraction) → HoldsOptimal f x d → IsPoint f z → dot f.columns (cost f) z ≡ dot (variables f) d z
cost_by_certificate f x d z h k = cost_by_reduced f d z h.reduced k

-- two certificates are of one cost
pub one_optimum : (f : Form) (x d z e : ℕ → Fraction) → HoldsOptimal f x d → HoldsOptimal f z e → dot f.columns (cost f) x ≡ dot f.columns (cost f) z
one_optimum f x d z e h k = le_antisymm_f (dot f.columns (cost f) x) (dot f.columns (cost f) z) (weak_duality f x d z h k.feasible) (weak_duality f z e x k h.feasible)
