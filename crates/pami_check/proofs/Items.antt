-- The tests of points and directions, read from the lists: of one column, of one row, and of all.
use Rattle.std.proofs.Common.{◌≡◌, ℕ, ◌+◌, ◌<◌, List, [], ◌∷◌, ◌++◌, length, slice_get, Some, Result, Ok, Err, sym, ap, ◌∙◌, subst, arith}
use Rattle.std.proofs.lemmas.Option.{slice_get_within}
use Rattle.pami_algebra.specs.Fraction.{Fraction}
use Rattle.pami_frac.specs.declared.arithmetic.Refused.{Refused}
use Rattle.pami_frac.specs.declared.list.Bounds.{Bounds}
use Rattle.pami_linear.specs.Lists.{get}
use Rattle.pami_script.specs.Script.{then, add_product, add_dot}
use Rattle.pami_script.proofs.Scripts as scripts
use Rattle.pami_theory.specs.Form.{Form, entry, limits, zero_f}
use Rattle.pami_theory.specs.Start.{is_same}
use Rattle.pami_model.specs.declared.list.Row.{Row}
use Rattle.pami_model.specs.declared.list.Column.{Column}
use Rattle.pami_model.specs.Contents.{Contents}
use Rattle.pami_model_form.specs.ModelForm.{model_form}
use Rattle.pami_model_form.proofs.Members.{bounds_of_column, bounds_of_row}
use Rattle.pami_check.specs.declared.point.Reach.{Reach}
use Rattle.pami_check.specs.declared.verdict.Verdict.{Verdict}
use Rattle.pami_check.specs.declared.verdict.Condition.TheVariants as conditions
use Rattle.pami_check.specs.Tests.{tested, plain}
use Rattle.pami_check.specs.Verdict.{bound_test, bound_at, row_pair, column_tests, row_tests, point_tests}
use Rattle.pami_check.specs.Lists.{entry_by, reached}
use Rattle.pami_check.proofs.Tested.{first_same, tested_goes, tested_stops}
use Rattle.pami_check.proofs.Read.{first_get, second_get, entry_member}

-- ---- columns
pub column_item : (c : Contents) (reach : Reach) (x : ℕ → Fraction) (j : ℕ) (d : Column) (v : Fraction) →
    slice_get c.columns j ≡ Some d → v ≡ x j →
    tested (bound_test (reached reach d.bounds) j v ∷ []) tt ≡ tested (bound_at (model_form c) (reached reach) x j ∷ []) tt
column_item c reach x j d v h e =
    ap (λ m. tested (bound_test (reached reach m) j v ∷ []) tt) (sym (bounds_of_column c j d h))
    ∙ ap (λ z. tested (bound_test (reached reach (limits (model_form c) j)) j z ∷ []) tt) e

-- ---- rows
pub row_script : (c : Contents) (columns : List Column) (i : ℕ) (x r : List Fraction) → columns ≡ c.columns → length x ≡ length c.columns → i < length c.rows →
    add_dot (length columns) (entry_by columns i) (get x) zero_f ≡ add_dot (length c.columns) (entry (model_form c) i) (get (x ++ r)) zero_f
row_script c columns i x r s e l =
    ap (λ cs. add_dot (length cs) (entry_by cs i) (get x) zero_f) s
    ∙ scripts.each_same (length c.columns) 0 (λ j (t : Fraction). add_product t (entry_by c.columns i j) (get x j))
    (λ j (t : Fraction). add_product t (entry (model_form c) i j) (get (x ++ r) j)) zero_f
    (λ j m k t. let h : j < length c.columns = omega (arith, k) in
    ap (λ z. add_product t z (get x j)) (sym (entry_member c i j h l))
    ∙ ap (add_product t (entry (model_form c) i j)) (first_get x r j (subst (λ n. j < n) (sym e) h)))

-- the two tests of a row by its variable, the script of its sum, its bounds and its value
abbrev pub RowFound : Reach → ℕ → Result Fraction Refused → Bounds → Fraction → Result (Unit {0}) Verdict
RowFound reach v script bounds value =
    tested (plain conditions.Row (Some v) ((then) script (λ t. Ok (is_same t value))) ∷ bound_test (reached reach bounds) v value ∷ []) tt

pub row_item : (c : Contents) (columns : List Column) (reach : Reach) (i : ℕ) (d : Row) (x r : List Fraction) (v : Fraction) →
    columns ≡ c.columns → length x ≡ length c.columns → slice_get c.rows i ≡ Some d → v ≡ get r i →
    RowFound reach (length columns + i) (add_dot (length columns) (entry_by columns i) (get x) zero_f) d.bounds v
    ≡ tested (row_pair (model_form c) (reached reach) (get (x ++ r)) i) tt
row_item c columns reach i d x r v s e h f =
    let script = add_dot (length columns) (entry_by columns i) (get x) zero_f in
    let n : length columns ≡ length c.columns = ap length s in
    let w : v ≡ get (x ++ r) (length c.columns + i) = f ∙ second_get x r (length c.columns) i e in
    let sum = add_dot (length c.columns) (entry (model_form c) i) (get (x ++ r)) zero_f in
    ap (λ k. RowFound reach (k + i) script d.bounds v) n
    ∙ ap (λ o. RowFound reach (length c.columns + i) o d.bounds v) (row_script c columns i x r s e (slice_get_within c.rows i d h))
    ∙ ap (λ z. RowFound reach (length c.columns + i) sum d.bounds z) w
    ∙ ap (λ b. RowFound reach (length c.columns + i) sum b (get (x ++ r) (length c.columns + i))) (sym (bounds_of_row c i d h))

-- ---- all columns and then all rows
pub column_tests_same : (f : Form) (reach : Reach) (x r : List Fraction) → length x ≡ f.columns →
    column_tests f (reached reach) (get x) ≡ column_tests f (reached reach) (get (x ++ r))
column_tests_same f reach x r e =
    first_same f.columns (λ j. bound_at f (reached reach) (get x) j ∷ []) (λ j. bound_at f (reached reach) (get (x ++ r)) j ∷ [])
    (λ j h. ap (λ z. bound_test (reached reach (limits f j)) j z ∷ []) (first_get x r j (subst (λ n. j < n) (sym e) h)))

pub point_goes : (f : Form) (reach : Reach) (x r : List Fraction) (u : Unit {0}) (s : Result (Unit {0}) Verdict) → length x ≡ f.columns →
    Ok u ≡ tested (column_tests f (reached reach) (get x)) tt → s ≡ tested (row_tests f (reached reach) (get (x ++ r))) tt →
    s ≡ tested (point_tests f (reached reach) (get (x ++ r))) tt
point_goes f reach x r u s e h k =
    let all = get (x ++ r) in
    k ∙ sym (tested_goes (column_tests f (reached reach) all) (row_tests f (reached reach) all) tt tt
    (ap (λ ts. tested ts tt) (sym (column_tests_same f reach x r e)) ∙ sym h))

pub point_stops : (f : Form) (reach : Reach) (x r : List Fraction) (v : Verdict) → length x ≡ f.columns →
    Err v ≡ tested (column_tests f (reached reach) (get x)) tt → Err v ≡ tested (point_tests f (reached reach) (get (x ++ r))) tt
point_stops f reach x r v e h =
    let all = get (x ++ r) in
    sym (tested_stops (column_tests f (reached reach) all) (row_tests f (reached reach) all) tt v
    (ap (λ ts. tested ts tt) (sym (column_tests_same f reach x r e)) ∙ sym h))
