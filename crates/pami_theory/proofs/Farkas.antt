-- What the certificates of infeasibility and of dual infeasibility exclude.
use Rattle.std.proofs.Common.{◌≡◌, ℕ, ◌+◌, ◌<◌, ◌⊎◌, [], ◌∷◌, refl, sym, ap, ◌∙◌, subst, ⊎_elim}
use Rattle.pami_algebra.specs.Fraction.{Fraction}
use Rattle.pami_algebra.specs.Ring.{var, t0, ◌⊕◌, ◌⊗◌, ⊖}
use Rattle.pami_algebra.specs.Operations.{◌+ᶠ◌, ◌*ᶠ◌, ◌-ᶠ◌, neg_f, ◌≤ᶠ◌, ◌<ᶠ◌}
use Rattle.pami_algebra.proofs.Laws.{by_ring_f, add_nil_f}
use Rattle.pami_algebra.proofs.Field.{nil_mul_f}
use Rattle.pami_algebra.proofs.Order.{le_refl_f, mul_nonneg_f}
use Rattle.pami_algebra.proofs.Strict.{lt_le_f, lt_trichotomy_f, not_le_f}
use Rattle.pami_algebra.proofs.Bounds.{le_moved_f}
use Rattle.pami_algebra.proofs.Products.{neg_nonneg_f}
use Rattle.pami_linear.specs.Sums.{sum_to, dot}
use Rattle.pami_linear.proofs.Sums.{sum_same, sum_none, sum_neg, sum_sub, sum_append, sum_le, sum_nonneg, both_orders, dot_comm}
use Rattle.pami_linear.proofs.Units.{dot_none}
use Rattle.pami_frac.specs.declared.list.Bounds.{Bounds}
use Rattle.pami_theory.specs.Form.{Form, variables, limits, coefficient, cost, cost_of, IsPoint, IsWithin, IsFeasible, zero_f}
use Rattle.pami_theory.specs.declared.words.Stand.TheVariants.{Basic}
use Rattle.pami_theory.specs.Basis.{Basis, stand_at, IsBasis}
use Rattle.pami_theory.specs.Fresh.{IsDualFeasible}
use Rattle.pami_theory.specs.Certificate.{IsComplementary, IsLeastProduct, HoldsInfeasible, HoldsDualInfeasible, IsDualPoint}
use Rattle.pami_theory.proofs.Forms.{cost_of_column, cost_of_row}
use Rattle.pami_theory.proofs.Starts.{basic_cost}
use Rattle.pami_theory.proofs.Certificates.{basic_or_not, complementary_zero, complementary_at_stand}
use Rattle.pami_theory.proofs.Duality.{scaled_up, scaled_down}

-- ---- at a point each combination of the rows is 0
pub rows_vanish : (f : Form) (y x : ℕ → Fraction) → IsPoint f x → dot (variables f) (λ v. dot f.rows y (coefficient f v)) x ≡ zero_f
rows_vanish f y x h =
    sym (both_orders f.rows (variables f) (coefficient f) y x)
    ∙ dot_comm f.rows y (λ i. sum_to (variables f) (λ v. coefficient f v i *ᶠ x v))
    ∙ dot_none f.rows (λ i. sum_to (variables f) (λ v. coefficient f v i *ᶠ x v)) y h.at

-- ---- infeasible
least_at_most : (l : Bounds) (k t x : Fraction) → IsLeastProduct l k t → IsWithin l x → t ≤ᶠ (k *ᶠ x)
least_at_most l k t x h w = ⊎_elim
    (λ (n : k <ᶠ zero_f). let m = h.1 n in subst (λ z. z ≤ᶠ (k *ᶠ x)) (sym m.2) (scaled_down k m.0 x (lt_le_f k zero_f n) (w.below_high m.0 m.1)))
    (λ (n : (k ≡ zero_f) ⊎ (zero_f <ᶠ k)). ⊎_elim
    (λ (e : k ≡ zero_f). le_moved_f zero_f zero_f t (k *ᶠ x) (sym (h.2 e)) (sym (ap (λ z. z *ᶠ x) e ∙ nil_mul_f x)) (le_refl_f zero_f))
    (λ (m : zero_f <ᶠ k). let q = h.0 m in subst (λ z. z ≤ᶠ (k *ᶠ x)) (sym q.2) (scaled_up k q.0 x (lt_le_f zero_f k m) (w.above_low q.0 q.1)))
    n)
    (lt_trichotomy_f k zero_f)

pub no_feasible_point : (f : Form) (y x : ℕ → Fraction) → HoldsInfeasible f y → IsFeasible f x → ⊥
no_feasible_point f y x h k =
    let a : ℕ → Fraction = λ v. dot f.rows y (coefficient f v) in
    let none : sum_to (variables f) (λ v. neg_f (a v) *ᶠ x v) ≡ zero_f =
    sum_same (variables f) (λ v. neg_f (a v) *ᶠ x v) (λ v. neg_f (a v *ᶠ x v)) (λ v l. by_ring_f (a v ∷ x v ∷ []) (⊖ (var 0) ⊗ var 1) (⊖ (var 0 ⊗ var 1)) refl)
    ∙ sum_neg (variables f) (λ v. a v *ᶠ x v)
    ∙ ap neg_f (rows_vanish f y x k.point) ∙ by_ring_f [] (⊖ t0) t0 refl in
    let most : sum_to (variables f) h.least ≤ᶠ sum_to (variables f) (λ v. neg_f (a v) *ᶠ x v) =
    sum_le (variables f) h.least (λ v. neg_f (a v) *ᶠ x v) (λ v l. least_at_most (limits f v) (neg_f (a v)) (h.least v) (x v) (h.finite v l) (k.within v l)) in
    not_le_f zero_f (sum_to (variables f) h.least) h.positive (subst (λ z. sum_to (variables f) h.least ≤ᶠ z) none most)

-- ---- dual infeasible
pub costs_of_columns : (f : Form) (z : ℕ → Fraction) → dot (variables f) (cost_of f) z ≡ dot f.columns (cost f) z
costs_of_columns f z =
    sum_append f.columns f.rows (λ v. cost_of f v *ᶠ z v)
    ∙ ap (λ w. w +ᶠ sum_to f.rows (λ i. cost_of f (f.columns + i) *ᶠ z (f.columns + i))) (sum_same f.columns (λ j. cost_of f j *ᶠ z j) (λ j. cost f j *ᶠ z j) (λ j l. ap (λ w. w *ᶠ z j) (cost_of_column f j l)))
    ∙ ap (λ w. dot f.columns (cost f) z +ᶠ w) (sum_none f.rows (λ i. cost_of f (f.columns + i) *ᶠ z (f.columns + i)) (λ i l. ap (λ w. w *ᶠ z (f.columns + i)) (cost_of_row f i) ∙ nil_mul_f (z (f.columns + i))))
    ∙ add_nil_f (dot f.columns (cost f) z)

-- at a point, the costs come to the reduced costs of any y
pub costs_by_reduced : (f : Form) (y d z : ℕ → Fraction) → ((v : ℕ) → v < variables f → d v ≡ cost_of f v -ᶠ dot f.rows y (coefficient f v)) → IsPoint f z → dot (variables f) d z ≡ dot f.columns (cost f) z
costs_by_reduced f y d z h k =
    let a : ℕ → Fraction = λ v. dot f.rows y (coefficient f v) in
    sum_same (variables f) (λ v. d v *ᶠ z v) (λ v. cost_of f v *ᶠ z v -ᶠ a v *ᶠ z v)
    (λ v l. ap (λ w. w *ᶠ z v) (h v l) ∙ by_ring_f (cost_of f v ∷ a v ∷ z v ∷ []) ((var 0 ⊕ ⊖ (var 1)) ⊗ var 2) (var 0 ⊗ var 2 ⊕ ⊖ (var 1 ⊗ var 2)) refl)
    ∙ sum_sub (variables f) (λ v. cost_of f v *ᶠ z v) (λ v. a v *ᶠ z v)
    ∙ ap (λ w. dot (variables f) (cost_of f) z -ᶠ w) (rows_vanish f y z k)
    ∙ ap (λ w. w -ᶠ zero_f) (costs_of_columns f z)
    ∙ by_ring_f (dot f.columns (cost f) z ∷ []) (var 0 ⊕ ⊖ t0) (var 0) refl

term_nonneg : (d z : Fraction) → (zero_f <ᶠ d → zero_f ≤ᶠ z) → (d <ᶠ zero_f → z ≤ᶠ zero_f) → zero_f ≤ᶠ (d *ᶠ z)
term_nonneg d z h k = ⊎_elim
    (λ (n : d <ᶠ zero_f). subst (λ w. zero_f ≤ᶠ w) (by_ring_f (d ∷ z ∷ []) (⊖ (var 0) ⊗ ⊖ (var 1)) (var 0 ⊗ var 1) refl) (mul_nonneg_f (neg_f d) (neg_f z) (neg_nonneg_f d (lt_le_f d zero_f n)) (neg_nonneg_f z (k n))))
    (λ (n : (d ≡ zero_f) ⊎ (zero_f <ᶠ d)). ⊎_elim
    (λ (e : d ≡ zero_f). subst (λ w. zero_f ≤ᶠ w) (sym (ap (λ w. w *ᶠ z) e ∙ nil_mul_f z)) (le_refl_f zero_f))
    (λ (m : zero_f <ᶠ d). mul_nonneg_f d z (lt_le_f zero_f d m) (h m))
    n)
    (lt_trichotomy_f d zero_f)

pub no_dual_point : (f : Form) (z y d : ℕ → Fraction) → HoldsDualInfeasible f z → IsDualPoint f y d → ⊥
no_dual_point f z y d h k =
    not_le_f (dot f.columns (cost f) z) zero_f h.falls
    (subst (λ w. zero_f ≤ᶠ w) (costs_by_reduced f y d z k.reduced h.point)
    (sum_nonneg (variables f) (λ v. d v *ᶠ z v)
    (λ v l. term_nonneg (d v) (z v) (λ m. let b = k.low v l m in h.low v b.0 l b.1) (λ m. let b = k.high v l m in h.high v b.0 l b.1))))

-- ---- a dual feasible basis has a point of the dual program
basis_signs : (f : Form) (b : Basis) (dual : IsDualFeasible f b) → IsBasis f b → (v : ℕ) → v < variables f → (value : Fraction) × IsComplementary (limits f v) value (dual.d v)
basis_signs f b dual is v l = ⊎_elim
    (λ (e : stand_at b v ≡ Basic). let p = is.placed v l e in
    (zero_f, complementary_zero (limits f v) zero_f (dual.d v) (ap dual.d (sym p.2) ∙ basic_cost f b dual.y dual.d is dual.costs p.0 p.1)))
    (λ (n : ¬ (stand_at b v ≡ Basic)). let s = is.stands v l in
    (s.0, complementary_at_stand (limits f v) (stand_at b v) s.0 (dual.d v) n (dual.signed v l) s.1))
    (basic_or_not (stand_at b v))

pub basis_dual_point : (f : Form) (b : Basis) (dual : IsDualFeasible f b) → IsBasis f b → IsDualPoint f dual.y dual.d
basis_dual_point f b dual is = record {
  reduced = dual.costs.reduced;
  low = λ v l m. let c = basis_signs f b dual is v l in (c.0, c.1.positive m);
  high = λ v l m. let c = basis_signs f b dual is v l in (c.0, c.1.negative m);
}

pub no_dual_feasible_basis : (f : Form) (b : Basis) (z : ℕ → Fraction) → HoldsDualInfeasible f z → IsBasis f b → IsDualFeasible f b → ⊥
no_dual_feasible_basis f b z h is dual = no_dual_point f z dual.y dual.d h (basis_dual_point f b dual is)
