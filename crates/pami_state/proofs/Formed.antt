-- The form that lists make, read from the lists.
use Rattle.std.proofs.Common.{◌≡◌, ℕ, ◌<◌, ◌≤◌, List, [], length, refl, sym, ap, ◌∙◌, subst, arith}
use Rattle.std.proofs.lemmas.List.{get_or-take}
use Rattle.pami_algebra.specs.Fraction.{Fraction}
use Rattle.pami_linear.specs.Lists.{get}
use Rattle.pami_frac.specs.declared.list.Bounds.{Bounds}
use Rattle.pami_theory.specs.Form.{Form, variables, entry, coefficient, cost_of, zero_f}
use Rattle.pami_theory.specs.Basis.{Basis, stand_at, StandsAt, IsBasis}
use Rattle.pami_theory.proofs.Forms.{by_variable, coefficient_column, coefficient_row, cost_of_column, cost_of_row}
use Rattle.pami_state.specs.Columns.{rows_of, columns_of, column_of, form_by, IsForm, bounds_form, HasBounds}
use Rattle.pami_state.proofs.Bounds.{limits_of_form}

pub variables_are : (columns : List (List Fraction)) (bounds : List Bounds) (costs : List Fraction) → IsForm columns bounds costs → variables (form_by columns bounds costs) ≡ length columns
variables_are columns bounds costs h = let l : rows_of columns ≤ length columns = h.row_variables in omega arith

pub has_bounds : (columns : List (List Fraction)) (bounds : List Bounds) (costs : List Fraction) → IsForm columns bounds costs → HasBounds (form_by columns bounds costs) bounds
has_bounds columns bounds costs h = record { by_variable = h.as_many_bounds ∙ sym (variables_are columns bounds costs h); same = refl }

-- ---- entries and costs
pub entry_is : (columns : List (List Fraction)) (bounds : List Bounds) (costs : List Fraction) (i j : ℕ) → j < columns_of columns → entry (form_by columns bounds costs) i j ≡ get (column_of columns j) i
entry_is columns bounds costs i j l = ap (λ c. get c i) (get_or-take (columns_of columns) columns j [] l)

pub coefficient_is : (columns : List (List Fraction)) (bounds : List Bounds) (costs : List Fraction) (v i : ℕ) → IsForm columns bounds costs → v < length columns → i < rows_of columns → coefficient (form_by columns bounds costs) v i ≡ get (column_of columns v) i
coefficient_is columns bounds costs v i h l m =
    let f : Form = form_by columns bounds costs in
    let n : variables f ≡ length columns = variables_are columns bounds costs h in
    by_variable f (λ w. coefficient f w i ≡ get (column_of columns w) i)
    (λ j k. coefficient_column f j i k ∙ entry_is columns bounds costs i j k)
    (λ j k. coefficient_row f j i ∙ sym (h.row_column j i k m))
    v (omega arith)

pub cost_of_is : (columns : List (List Fraction)) (bounds : List Bounds) (costs : List Fraction) (v : ℕ) → IsForm columns bounds costs → v < length columns → cost_of (form_by columns bounds costs) v ≡ get costs v
cost_of_is columns bounds costs v h l =
    let f : Form = form_by columns bounds costs in
    let n : variables f ≡ length columns = variables_are columns bounds costs h in
    by_variable f (λ w. cost_of f w ≡ get costs w)
    (λ j k. cost_of_column f j k ∙ get_or-take (columns_of columns) costs j zero_f k)
    (λ j k. cost_of_row f j ∙ sym (h.row_cost j k))
    v (omega arith)

-- ---- a basis is one by its bounds alone
pub basis_by_bounds : (f : Form) (b : Basis) (bounds : List Bounds) → HasBounds f bounds → IsBasis f b → IsBasis (bounds_form (length b.head) bounds) b
basis_by_bounds f b bounds h s =
    let m : length b.head ≡ f.rows = s.places in
    let n : length bounds ≡ variables f = h.by_variable in
    let k : variables (bounds_form (length b.head) bounds) ≡ variables f = omega arith in
    record {
      places = refl;
      variables_stand = s.variables_stand ∙ sym k;
      within = λ p l. let a = s.within p (omega arith) in omega arith;
      distinct = λ p q l r. s.distinct p q (omega arith) (omega arith);
      basic = λ p l. s.basic p (omega arith);
      placed = λ v l e. let a = s.placed v (omega arith) e in (a.0, (let c = a.1 in omega arith), a.2);
      stands = λ v l. let a = s.stands v (omega arith) in (a.0, subst (λ k. StandsAt k (stand_at b v) a.0) (limits_of_form f bounds (length b.head) v h) a.1);
    }
