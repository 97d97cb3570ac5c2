-- What is solved at a regular basis: that it exists, and that there is nothing else.
use Rattle.std.proofs.Common.{◌≡◌, ℕ, ◌<◌, List, [], length, refl, sym, ap, ◌∙◌, subst, arith}
use Rattle.std.proofs.lemmas.List.{ext_get_or}
use Rattle.pami_algebra.specs.Fraction.{Fraction}
use Rattle.pami_algebra.specs.Operations.{◌-ᶠ◌, neg_f}
use Rattle.pami_linear.specs.Lists.{get}
use Rattle.pami_linear.specs.Sums.{dot, unit}
use Rattle.pami_linear.specs.Systems.{Solves, IsRow}
use Rattle.pami_linear.proofs.Sums.{dot_same}
use Rattle.pami_linear.proofs.Systems.{solves_same, combines_same, solves_unit, row_meets_column, regular_same}
use Rattle.pami_linear.proofs.Regular.{solution, one_solution, combination, one_combination, right_inverse_from_left, negated_units_regular}
use Rattle.pami_theory.specs.Form.{Form, variables, row_variable, coefficient, cost_of, zero_f}
use Rattle.pami_theory.specs.Basis.{Basis, head_at, IsBasis, basis_column, IsRegularBasis}
use Rattle.pami_theory.specs.Fresh.{AreValues, AreReducedCosts, Fresh, row_at, column_at, IsFresh}
use Rattle.pami_theory.specs.Start.{starting_basis}
use Rattle.pami_theory.proofs.Forms.{coefficient_row}
use Rattle.pami_theory.proofs.Starts.{start_head, row_cost}
use Rattle.pami_theory.proofs.Tables.{tabled, tabled_length, tabled_at}
use Rattle.pami_theory.proofs.Places.{values_only, has_values, values_same}

-- ---- reduced costs
pub multipliers_only : (f : Form) (b : Basis) (y d z e : ℕ → Fraction) → IsRegularBasis f b → AreReducedCosts f b y d → AreReducedCosts f b z e → (i : ℕ) → i < f.rows → y i ≡ z i
multipliers_only f b y d z e r h k = one_combination f.rows (basis_column f b) y z (λ p. cost_of f (head_at b p)) r (record { at = h.basic }) (record { at = k.basic })

pub reduced_only : (f : Form) (b : Basis) (y d z e : ℕ → Fraction) → IsRegularBasis f b → AreReducedCosts f b y d → AreReducedCosts f b z e → (v : ℕ) → v < variables f → d v ≡ e v
reduced_only f b y d z e r h k v l =
    h.reduced v l
    ∙ ap (λ q. cost_of f v -ᶠ q) (dot_same f.rows y (coefficient f v) z (coefficient f v) (multipliers_only f b y d z e r h k) (λ i m. refl))
    ∙ sym (k.reduced v l)

-- equal multipliers on the rows and equal reduced costs on the variables are reduced costs alike
pub reduced_same : (f : Form) (b : Basis) (y d z e : ℕ → Fraction) → ((i : ℕ) → i < f.rows → y i ≡ z i) → ((v : ℕ) → v < variables f → d v ≡ e v) → AreReducedCosts f b y d → AreReducedCosts f b z e
reduced_same f b y d z e p q h = record {
  basic = λ k l. sym (dot_same f.rows y (coefficient f (head_at b k)) z (coefficient f (head_at b k)) p (λ i m. refl)) ∙ h.basic k l;
  reduced = λ v l. sym (q v l) ∙ h.reduced v l ∙ ap (λ t. cost_of f v -ᶠ t) (dot_same f.rows y (coefficient f v) z (coefficient f v) p (λ i m. refl));
}

pub has_reduced : (f : Form) (b : Basis) → IsRegularBasis f b → (y : ℕ → Fraction) × (d : ℕ → Fraction) × AreReducedCosts f b y d
has_reduced f b r =
    let y = combination f.rows (basis_column f b) (λ p. cost_of f (head_at b p)) r in
    (y.0, λ v. cost_of f v -ᶠ dot f.rows y.0 (coefficient f v), record { basic = y.1.at; reduced = λ v l. refl })

-- ---- the solved data of a basis, by its values, reduced costs, rows and columns
abbrev solved_rows : (f : Form) (b : Basis) → IsRegularBasis f b → ℕ → ℕ → Fraction
solved_rows f b r p = (combination f.rows (basis_column f b) (unit p) r).0

abbrev solved_columns : (f : Form) (b : Basis) → IsRegularBasis f b → ℕ → ℕ → Fraction
solved_columns f b r v = (solution f.rows (basis_column f b) (coefficient f v) r).0

abbrev solved_by : Form → (ℕ → Fraction) → (ℕ → Fraction) → (ℕ → ℕ → Fraction) → (ℕ → ℕ → Fraction) → Fresh
solved_by f x d rows columns = record {
  values = tabled (variables f) x;
  reduced = tabled (variables f) d;
  rows = tabled f.rows (λ p. tabled f.rows (rows p));
  columns = tabled (variables f) (λ v. tabled f.rows (columns v));
}

row_in_table : (f : Form) (x d : ℕ → Fraction) (rows columns : ℕ → ℕ → Fraction) (p : ℕ) → p < f.rows → row_at (solved_by f x d rows columns) p ≡ tabled f.rows (rows p)
row_in_table f x d rows columns p l = tabled_at f.rows (λ q. tabled f.rows (rows q)) p [] l

column_in_table : (f : Form) (x d : ℕ → Fraction) (rows columns : ℕ → ℕ → Fraction) (v : ℕ) → v < variables f → column_at (solved_by f x d rows columns) v ≡ tabled f.rows (columns v)
column_in_table f x d rows columns v l = tabled_at (variables f) (λ w. tabled f.rows (columns w)) v [] l

reduced_in_table : (f : Form) (b : Basis) (y d : ℕ → Fraction) → AreReducedCosts f b y d → AreReducedCosts f b (λ i. get (tabled (variables f) d) (row_variable f i)) (get (tabled (variables f) d))
reduced_in_table f b y d h = reduced_same f b y d (λ i. get (tabled (variables f) d) (row_variable f i)) (get (tabled (variables f) d))
    (λ i l. sym (row_cost f b y d h i l) ∙ sym (tabled_at (variables f) d (row_variable f i) zero_f (omega arith)))
    (λ v l. sym (tabled_at (variables f) d v zero_f l))
    h

table_is_fresh : (f : Form) (b : Basis) (x y d : ℕ → Fraction) (rows columns : ℕ → ℕ → Fraction) → AreValues f b x → AreReducedCosts f b y d → ((p : ℕ) → IsRow f.rows (basis_column f b) p (rows p)) → ((v : ℕ) → Solves f.rows (basis_column f b) (columns v) (coefficient f v)) → IsFresh f b (solved_by f x d rows columns)
table_is_fresh f b x y d rows columns h k r c = record {
  values_by_variable = tabled_length (variables f) x;
  values = values_same f b x (get (tabled (variables f) x)) (λ v l. sym (tabled_at (variables f) x v zero_f l)) h;
  reduced_by_variable = tabled_length (variables f) d;
  reduced = reduced_in_table f b y d k;
  rows_by_place = tabled_length f.rows (λ p. tabled f.rows (rows p));
  row_by_row = λ p l. ap length (row_in_table f x d rows columns p l) ∙ tabled_length f.rows (rows p);
  row = λ p l. subst (λ t. IsRow f.rows (basis_column f b) p (get t)) (sym (row_in_table f x d rows columns p l))
      (combines_same f.rows (basis_column f b) (basis_column f b) (rows p) (get (tabled f.rows (rows p))) (unit p) (unit p)
      (λ q i m n. refl) (λ i m. sym (tabled_at f.rows (rows p) i zero_f m)) (λ q m. refl) (r p));
  columns_by_variable = tabled_length (variables f) (λ v. tabled f.rows (columns v));
  column_by_place = λ v l. ap length (column_in_table f x d rows columns v l) ∙ tabled_length f.rows (columns v);
  column = λ v l. subst (λ t. Solves f.rows (basis_column f b) (get t) (coefficient f v)) (sym (column_in_table f x d rows columns v l))
      (solves_same f.rows (basis_column f b) (basis_column f b) (columns v) (get (tabled f.rows (columns v))) (coefficient f v) (coefficient f v)
      (λ q i m n. refl) (λ q m. sym (tabled_at f.rows (columns v) q zero_f m)) (λ i m. refl) (c v));
}

pub has_fresh : (f : Form) (b : Basis) → IsBasis f b → IsRegularBasis f b → (s : Fresh) × IsFresh f b s
has_fresh f b s r =
    let x = has_values f b s r in
    let d = has_reduced f b r in (
      solved_by f x.0 d.1 (solved_rows f b r) (solved_columns f b r),
      table_is_fresh f b x.0 d.0 d.1 (solved_rows f b r) (solved_columns f b r) x.1 d.2
          (λ p. (combination f.rows (basis_column f b) (unit p) r).1) (λ v. (solution f.rows (basis_column f b) (coefficient f v) r).1),
    )

-- ---- rows make an inverse
pub fresh_regular : (f : Form) (b : Basis) (s : Fresh) → IsFresh f b s → IsRegularBasis f b
fresh_regular f b s h =
    let v : ℕ → ℕ → Fraction = λ i p. get (row_at s p) i in
    (v, right_inverse_from_left f.rows (basis_column f b) v (record { at = λ p k l m. (h.row p l).at k m }))

-- ---- nothing else
row_only : (f : Form) (b : Basis) (s t : Fresh) (p : ℕ) → IsFresh f b s → IsFresh f b t → p < f.rows → row_at s p ≡ row_at t p
row_only f b s t p h k l = ext_get_or zero_f (row_at s p) (row_at t p) (h.row_by_row p l ∙ sym (k.row_by_row p l))
    (λ i m. one_combination f.rows (basis_column f b) (get (row_at s p)) (get (row_at t p)) (unit p) (fresh_regular f b s h) (h.row p l) (k.row p l) i (subst (λ n. i < n) (h.row_by_row p l) m))

column_only : (f : Form) (b : Basis) (s t : Fresh) (v : ℕ) → IsFresh f b s → IsFresh f b t → v < variables f → column_at s v ≡ column_at t v
column_only f b s t v h k l = ext_get_or zero_f (column_at s v) (column_at t v) (h.column_by_place v l ∙ sym (k.column_by_place v l))
    (λ i m. one_solution f.rows (basis_column f b) (get (column_at s v)) (get (column_at t v)) (coefficient f v) (fresh_regular f b s h) (h.column v l) (k.column v l) i (subst (λ n. i < n) (h.column_by_place v l) m))

fresh_same : (s t : Fresh) → s.values ≡ t.values → s.reduced ≡ t.reduced → s.rows ≡ t.rows → s.columns ≡ t.columns → s ≡ t
fresh_same s t x d r c =
    ap (λ (z : List Fraction). record { values = z; reduced = s.reduced; rows = s.rows; columns = s.columns }) x
    ∙ ap (λ (z : List Fraction). record { values = t.values; reduced = z; rows = s.rows; columns = s.columns }) d
    ∙ ap (λ (z : List (List Fraction)). record { values = t.values; reduced = t.reduced; rows = z; columns = s.columns }) r
    ∙ ap (λ (z : List (List Fraction)). record { values = t.values; reduced = t.reduced; rows = t.rows; columns = z }) c

pub only_fresh : (f : Form) (b : Basis) (s t : Fresh) → IsBasis f b → IsFresh f b s → IsFresh f b t → s ≡ t
only_fresh f b s t is h k = fresh_same s t
    (ext_get_or zero_f s.values t.values (h.values_by_variable ∙ sym k.values_by_variable)
    (λ v l. values_only f b (get s.values) (get t.values) is (fresh_regular f b s h) h.values k.values v (subst (λ n. v < n) h.values_by_variable l)))
    (ext_get_or zero_f s.reduced t.reduced (h.reduced_by_variable ∙ sym k.reduced_by_variable)
    (λ v l. reduced_only f b (λ i. get s.reduced (row_variable f i)) (get s.reduced) (λ i. get t.reduced (row_variable f i)) (get t.reduced) (fresh_regular f b s h) h.reduced k.reduced v (subst (λ n. v < n) h.reduced_by_variable l)))
    (ext_get_or [] s.rows t.rows (h.rows_by_place ∙ sym k.rows_by_place) (λ p l. row_only f b s t p h k (subst (λ n. p < n) h.rows_by_place l)))
    (ext_get_or [] s.columns t.columns (h.columns_by_variable ∙ sym k.columns_by_variable) (λ v l. column_only f b s t v h k (subst (λ n. v < n) h.columns_by_variable l)))

-- ---- rows against columns
pub row_entry_is : (f : Form) (b : Basis) (s : Fresh) (p v : ℕ) → IsFresh f b s → p < f.rows → v < variables f → dot f.rows (get (row_at s p)) (coefficient f v) ≡ get (column_at s v) p
row_entry_is f b s p v h l m = row_meets_column f.rows p (basis_column f b) (get (column_at s v)) (coefficient f v) (get (row_at s p)) l (h.column v m) (h.row p l)

-- a basic variable's column is a unit vector
pub basic_column : (f : Form) (b : Basis) (s : Fresh) (p q : ℕ) → IsBasis f b → IsFresh f b s → p < f.rows → q < f.rows → get (column_at s (head_at b p)) q ≡ unit p q
basic_column f b s p q is h l m =
    one_solution f.rows (basis_column f b) (get (column_at s (head_at b p))) (unit p) (basis_column f b p) (fresh_regular f b s h)
    (h.column (head_at b p) (is.within p l)) (solves_unit f.rows p (basis_column f b) l) q m

pub basic_entry : (f : Form) (b : Basis) (s : Fresh) (p q : ℕ) → IsFresh f b s → p < f.rows → q < f.rows → dot f.rows (get (row_at s p)) (coefficient f (head_at b q)) ≡ unit p q
basic_entry f b s p q h l m = (h.row p l).at q m

-- ---- the starting basis
pub start_regular : (f : Form) → IsRegularBasis f (starting_basis f)
start_regular f = regular_same f.rows (λ k i. neg_f (unit k i)) (basis_column f (starting_basis f))
    (λ k i l m. sym (coefficient_row f k i) ∙ ap (λ v. coefficient f v i) (sym (start_head f k l)))
    (negated_units_regular f.rows)
