-- The form: its coefficients, its points by rows, and the costs of its row variables.
use Rattle.std.proofs.Common.{◌≡◌, ◌↔◌, ℕ, ◌+◌, ◌-◌, ◌<◌, ◌≤◌, [], ◌∷◌, refl, sym, ap, ◌∙◌, subst, arith, if◌then◌else◌, nat_lt, nat_eq, ⊎_elim}
use Rattle.std.proofs.lemmas.Bool.{cases_lt, cases_eq, cond-true, cond-false, lt-ltb, le-ltb, eq-eqb, ne_eqb}
use lib.IntN.{pos}
use Rattle.pami_algebra.specs.Fraction.{Fraction}
use Rattle.pami_algebra.specs.Ring.{var, t0, ◌⊕◌, ◌⊗◌, ⊖}
use Rattle.pami_algebra.specs.Operations.{◌+ᶠ◌, ◌*ᶠ◌, ◌-ᶠ◌, neg_f, of_int}
use Rattle.pami_algebra.proofs.Laws.{by_ring_f}
use Rattle.pami_algebra.proofs.Field.{sub_zero_f, neg_nil_f}
use Rattle.pami_linear.specs.Sums.{sum_to, dot, unit}
use Rattle.pami_linear.proofs.Sums.{sum_same, sum_append, dot_same, unit_same, unit_other}
use Rattle.pami_theory.specs.Form.{Form, entry, cost, variables, row_variable, coefficient, cost_of, IsPoint, zero_f}
use Rattle.pami_linear.proofs.Units.{dot_neg_unit, unit_swap}

-- ---- a variable is a column or the row variable of a row
pub by_variable : (f : Form) (P : ℕ → Type 0) → ((j : ℕ) → j < f.columns → P j) → ((i : ℕ) → i < f.rows → P (row_variable f i)) → (v : ℕ) → v < variables f → P v
by_variable f P column row v l = ⊎_elim
    (λ (h : v < f.columns). column v h)
    (λ (h : f.columns ≤ v). let e : f.columns + (v - f.columns) ≡ v = omega arith in subst P e (row (v - f.columns) (omega arith)))
    (cases_lt v f.columns)

-- ---- coefficients
pub coefficient_column : (f : Form) (j i : ℕ) → j < f.columns → coefficient f j i ≡ entry f i j
coefficient_column f j i l = cond-true (nat_lt j f.columns) (entry f i j) _ (lt-ltb j f.columns l)

own_row : (k i : ℕ) → (if nat_eq k i then neg_f (of_int (pos 1)) else zero_f) ≡ neg_f (unit k i)
own_row k i = ⊎_elim
    (λ (e : k ≡ i). cond-true (nat_eq k i) _ _ (eq-eqb k i e) ∙ ap neg_f (sym (unit_same k) ∙ ap (λ n. unit k n) e))
    (λ (h : ¬ (k ≡ i)). cond-false (nat_eq k i) _ _ (ne_eqb k i h) ∙ sym (ap neg_f (unit_other k i h) ∙ neg_nil_f))
    (cases_eq k i)

pub coefficient_row : (f : Form) (k i : ℕ) → coefficient f (row_variable f k) i ≡ neg_f (unit k i)
coefficient_row f k i =
    let v = f.columns + k in
    let e : v - f.columns ≡ k = omega arith in
    cond-false (nat_lt v f.columns) _ _ (le-ltb v f.columns (omega arith))
    ∙ ap (λ n. if nat_eq n i then neg_f (of_int (pos 1)) else zero_f) e
    ∙ own_row k i

-- ---- costs
pub cost_of_column : (f : Form) (j : ℕ) → j < f.columns → cost_of f j ≡ cost f j
cost_of_column f j l = cond-true (nat_lt j f.columns) (cost f j) zero_f (lt-ltb j f.columns l)

pub cost_of_row : (f : Form) (i : ℕ) → cost_of f (row_variable f i) ≡ zero_f
cost_of_row f i = let v = f.columns + i in cond-false (nat_lt v f.columns) (cost f v) zero_f (le-ltb v f.columns (omega arith))

-- ---- columns of [A, -I] against a vector by row
pub dot_row_variable : (f : Form) (y : ℕ → Fraction) (i : ℕ) → i < f.rows → dot f.rows y (coefficient f (row_variable f i)) ≡ neg_f (y i)
dot_row_variable f y i l = dot_same f.rows y (coefficient f (row_variable f i)) y (λ k. neg_f (unit i k)) (λ k h. refl) (λ k h. coefficient_row f i k) ∙ dot_neg_unit f.rows i y l

pub dot_column : (f : Form) (y : ℕ → Fraction) (j : ℕ) → j < f.columns → dot f.rows y (coefficient f j) ≡ dot f.rows y (λ i. entry f i j)
dot_column f y j l = dot_same f.rows y (coefficient f j) y (λ i. entry f i j) (λ i h. refl) (λ i h. coefficient_column f j i l)

-- ---- rows of [A, -I] against values
pub row_sum : (f : Form) (x : ℕ → Fraction) (i : ℕ) → i < f.rows → dot (variables f) (λ v. coefficient f v i) x ≡ dot f.columns (entry f i) x -ᶠ x (row_variable f i)
row_sum f x i l =
    sum_append f.columns f.rows (λ v. coefficient f v i *ᶠ x v)
    ∙ ap (λ z. z +ᶠ sum_to f.rows (λ k. coefficient f (f.columns + k) i *ᶠ x (f.columns + k)))
    (sum_same f.columns (λ j. coefficient f j i *ᶠ x j) (λ j. entry f i j *ᶠ x j) (λ j h. ap (λ z. z *ᶠ x j) (coefficient_column f j i h)))
    ∙ ap (λ z. dot f.columns (entry f i) x +ᶠ z)
    (sum_same f.rows (λ k. coefficient f (f.columns + k) i *ᶠ x (f.columns + k)) (λ k. x (f.columns + k) *ᶠ neg_f (unit i k))
    (λ k h. ap (λ z. z *ᶠ x (f.columns + k)) (coefficient_row f k i ∙ ap neg_f (unit_swap k i)) ∙ by_ring_f (unit i k ∷ x (f.columns + k) ∷ []) ((⊖ (var 0)) ⊗ var 1) (var 1 ⊗ ⊖ (var 0)) refl)
    ∙ dot_neg_unit f.rows i (λ k. x (f.columns + k)) l)

-- each row variable has the sum of its row over the columns
abbrev pub RowsAreSums : Form → (ℕ → Fraction) → Type 0
RowsAreSums f x = (i : ℕ) → i < f.rows → x (row_variable f i) ≡ dot f.columns (entry f i) x

pub point_rows : (f : Form) (x : ℕ → Fraction) → IsPoint f x → RowsAreSums f x
point_rows f x h i l = sym (sub_zero_f (dot f.columns (entry f i) x) (x (row_variable f i)) (sym (row_sum f x i l) ∙ h.at i l))

pub rows_point : (f : Form) (x : ℕ → Fraction) → RowsAreSums f x → IsPoint f x
rows_point f x h = record {
  at = λ i l. row_sum f x i l
      ∙ ap (λ z. dot f.columns (entry f i) x -ᶠ z) (h i l)
      ∙ by_ring_f (dot f.columns (entry f i) x ∷ []) (var 0 ⊕ ⊖ (var 0)) t0 refl;
}

pub point_by_rows : (f : Form) (x : ℕ → Fraction) → IsPoint f x ↔ RowsAreSums f x
point_by_rows f x = (point_rows f x, rows_point f x)
