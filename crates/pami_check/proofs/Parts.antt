-- The tests of reduced costs, of signs, of the objective and of finite bounds, read from the lists.
use Rattle.std.proofs.Common.{◌≡◌, ℕ, ◌+◌, ◌<◌, List, [], ◌∷◌, ◌++◌, length, slice_get, Bool, true, false, None, Some, Result, Ok, Err, refl, sym, ap, ◌∙◌, subst, arith, append_assoc, if◌then◌else◌}
use Rattle.std.proofs.lemmas.Option.{slice_get_within}
use Rattle.pami_algebra.specs.Fraction.{Fraction}
use Rattle.pami_algebra.specs.Operations.{is_below}
use Rattle.pami_frac.specs.declared.list.Bounds.{Bounds}
use Rattle.pami_linear.specs.Lists.{get}
use Rattle.pami_script.specs.Script.{then, add_product, sub_product, add_dot, sub_dot}
use Rattle.pami_script.specs.Dense.{at}
use Rattle.pami_script.proofs.Scripts as scripts
use Rattle.pami_theory.specs.Form.{Form, entry, limits, cost, row_variable, zero_f}
use Rattle.pami_theory.specs.Start.{is_same}
use Rattle.pami_model.specs.declared.list.Row.{Row}
use Rattle.pami_model.specs.declared.list.Column.{Column}
use Rattle.pami_model.specs.declared.model.Sense.TheVariants as senses
use Rattle.pami_model.specs.Contents.{Contents}
use Rattle.pami_model_form.specs.ModelForm.{minimised, model_form, file_cost}
use Rattle.pami_model_form.proofs.Members.{bounds_of_column, bounds_of_row, cost_of_column, entry_of_column}
use Rattle.pami_check.specs.declared.verdict.Condition.TheVariants as conditions
use Rattle.pami_check.specs.declared.verdict.Verdict.{Verdict}
use Rattle.pami_check.specs.declared.verdict.Verdict.TheVariants as verdicts
use Rattle.pami_check.specs.Tests.{Test, behind, tested, plain, each_of}
use Rattle.pami_check.specs.Verdict.{reduced_script, reduced_test, sign_test, sign_at, sign_tests, objective_script, row_least, column_least, combination_script, finite_row, finite_column, finite_rows, finite_columns, positive_test, infeasible_tests}
use Rattle.pami_check.specs.Lists.{cost_by, column_signs, row_sign, row_signs, finite}
use Rattle.pami_check.proofs.Tested.{first_same, each_append, each_shift}
use Rattle.pami_check.proofs.Read.{first_get, second_get, cost_member}

-- ---- reduced costs
pub rest_same : (c : Contents) (j : ℕ) (d : Column) (xs ys : List Fraction) →
    slice_get c.columns j ≡ Some d → length xs ≡ length c.columns → length ys ≡ length c.rows →
    sub_dot (length ys) (get ys) (at d.entries) (minimised c.sense d.cost) ≡ reduced_script (model_form c) (get (xs ++ ys)) j
rest_same c j d xs ys e n m =
    let all = get (xs ++ ys) in
    ap (λ i. sub_dot i (get ys) (at d.entries) (minimised c.sense d.cost)) m
    ∙ ap (sub_dot (length c.rows) (get ys) (at d.entries)) (sym (cost_of_column c j d e))
    ∙ scripts.each_same (length c.rows) 0 (λ i (t : Fraction). sub_product t (get ys i) (at d.entries i))
    (λ i (t : Fraction). sub_product t (all (row_variable (model_form c) i)) (entry (model_form c) i j)) (cost (model_form c) j)
    (λ i a b t. let h : i < length c.rows = omega (arith, b) in
    ap (λ z. sub_product t z (at d.entries i)) (second_get xs ys (length c.columns) i n)
    ∙ ap (sub_product t (all (length c.columns + i))) (sym (entry_of_column c j d i e h)))

pub reduced_item : (c : Contents) (j : ℕ) (d : Column) (xs ys : List Fraction) (v : Fraction) →
    slice_get c.columns j ≡ Some d → length xs ≡ length c.columns → length ys ≡ length c.rows → v ≡ get xs j →
    tested (plain conditions.Reduced (Some j) ((then) (sub_dot (length ys) (get ys) (at d.entries) (minimised c.sense d.cost)) (λ t. Ok (is_same t v))) ∷ []) tt
    ≡ tested (reduced_test (model_form c) (get (xs ++ ys)) j ∷ []) tt
reduced_item c j d xs ys v e n m f =
    let k : j < length xs = subst (λ i. j < i) (sym n) (slice_get_within c.columns j d e) in
    ap (λ o. tested (plain conditions.Reduced (Some j) ((then) o (λ t. Ok (is_same t v))) ∷ []) tt) (rest_same c j d xs ys e n m)
    ∙ ap (λ z. tested (plain conditions.Reduced (Some j) ((then) (reduced_script (model_form c) (get (xs ++ ys)) j) (λ t. Ok (is_same t z))) ∷ []) tt)
    (f ∙ first_get xs ys j k)

-- ---- signs
sign_same : (l m : Bounds) (k n : ℕ) (v w a b : Fraction) → l ≡ m → k ≡ n → v ≡ w → a ≡ b →
    tested (sign_test l k v a ∷ []) tt ≡ tested (sign_test m n w b ∷ []) tt
sign_same l m k n v w a b p q r s =
    ap (λ o. tested (sign_test o k v a ∷ []) tt) p
    ∙ ap (λ i. tested (sign_test m i v a ∷ []) tt) q
    ∙ ap (λ z. tested (sign_test m n z a ∷ []) tt) r
    ∙ ap (λ z. tested (sign_test m n w z ∷ []) tt) s

pub column_sign_item : (c : Contents) (j : ℕ) (d : Column) (v w a b : Fraction) → slice_get c.columns j ≡ Some d → v ≡ w → a ≡ b →
    tested (sign_test d.bounds j v a ∷ []) tt ≡ tested (sign_test (limits (model_form c) j) j w b ∷ []) tt
column_sign_item c j d v w a b e f g = sign_same d.bounds (limits (model_form c) j) j j v w a b (sym (bounds_of_column c j d e)) refl f g

pub row_sign_item : (c : Contents) (i k : ℕ) (d : Row) (r y : ℕ → Fraction) (v a : Fraction) →
    slice_get c.rows i ≡ Some d → k ≡ row_variable (model_form c) i → v ≡ r i → a ≡ y i →
    tested (sign_test d.bounds k v a ∷ []) tt ≡ tested (row_sign (model_form c) r y i ∷ []) tt
row_sign_item c i k d r y v a e q f g =
    let n = row_variable (model_form c) i in
    sign_same d.bounds (limits (model_form c) n) k n v (r i) a (y i) (sym (bounds_of_row c i d e)) q f g

pub sign_parts : (f : Form) (x d r y : List Fraction) → length x ≡ f.columns → length d ≡ f.columns →
    column_signs f (get x) (get d) ++ row_signs f (get r) (get y) ≡ sign_tests f (get (x ++ r)) (get (d ++ y))
sign_parts f x d r y n m =
    let t : ℕ → List (Test (Unit {0})) = λ v. sign_at f (get (x ++ r)) (get (d ++ y)) v ∷ [] in
    let e : 0 + f.columns ≡ f.columns + 0 = omega arith in
    ap (λ ts. ts ++ row_signs f (get r) (get y))
    (first_same f.columns (λ j. sign_test (limits f j) j (get x j) (get d j) ∷ []) t
    (λ j h. ap (λ z. sign_test (limits f j) j z (get d j) ∷ []) (first_get x r j (subst (λ k. j < k) (sym n) h))
    ∙ ap (λ z. sign_test (limits f j) j (get (x ++ r) j) z ∷ []) (first_get d y j (subst (λ k. j < k) (sym m) h))))
    ∙ ap (λ ts. each_of 0 f.columns t ++ ts)
    (first_same f.rows (λ i. row_sign f (get r) (get y) i ∷ []) (λ i. t (f.columns + i))
    (λ i h. let v = row_variable f i in
    ap (λ z. sign_test (limits f v) v z (get y i) ∷ []) (second_get x r f.columns i n)
    ∙ ap (λ z. sign_test (limits f v) v (get (x ++ r) v) z ∷ []) (second_get d y f.columns i m))
    ∙ sym (each_shift f.columns 0 f.rows t) ∙ ap (λ k. each_of k f.rows t) (sym e))
    ∙ sym (each_append 0 f.columns f.rows t)

-- ---- sums of costs
pub objective_same : (c : Contents) (columns : List Column) (x : List Fraction) → columns ≡ c.columns →
    add_dot (length columns) (cost_by senses.Min columns) (get x) c.constant ≡ objective_script c (get x)
objective_same c columns x s = ap (λ cs. add_dot (length cs) (cost_by senses.Min cs) (get x) c.constant) s

pub objective_longer : (c : Contents) (x r : List Fraction) → length x ≡ length c.columns → objective_script c (get x) ≡ objective_script c (get (x ++ r))
objective_longer c x r e =
    scripts.each_same (length c.columns) 0 (λ j (t : Fraction). add_product t (file_cost c j) (get x j))
    (λ j (t : Fraction). add_product t (file_cost c j) (get (x ++ r) j)) c.constant
    (λ j a b t. let h : j < length c.columns = omega (arith, b) in
    ap (add_product t (file_cost c j)) (first_get x r j (subst (λ k. j < k) (sym e) h)))

pub cost_same : (c : Contents) (x r : List Fraction) → length x ≡ length c.columns →
    add_dot (length c.columns) (cost_by c.sense c.columns) (get x) zero_f ≡ add_dot (length c.columns) (cost (model_form c)) (get (x ++ r)) zero_f
cost_same c x r e =
    scripts.each_same (length c.columns) 0 (λ j (t : Fraction). add_product t (cost_by c.sense c.columns j) (get x j))
    (λ j (t : Fraction). add_product t (cost (model_form c) j) (get (x ++ r) j)) zero_f
    (λ j a b t. let h : j < length c.columns = omega (arith, b) in
    ap (λ z. add_product t z (get x j)) (sym (cost_member c j h))
    ∙ ap (add_product t (cost (model_form c) j)) (first_get x r j (subst (λ k. j < k) (sym e) h)))

-- ---- finite bounds
pub finite_row_item : (c : Contents) (i k : ℕ) (d : Row) (y : ℕ → Fraction) (v s : Fraction) →
    slice_get c.rows i ≡ Some d → k ≡ row_variable (model_form c) i → v ≡ y i →
    finite k (row_least d.bounds v s) ≡ tested (finite_row (model_form c) y i ∷ []) s
finite_row_item c i k d y v s e n f =
    let w = row_variable (model_form c) i in
    ap (λ j. finite j (row_least d.bounds v s)) n
    ∙ ap (λ (l : Bounds). finite w (row_least l v s)) (sym (bounds_of_row c i d e))
    ∙ ap (λ z. finite w (row_least (limits (model_form c) w) z s)) f

pub combination_same : (c : Contents) (j : ℕ) (d : Column) (y : List Fraction) → slice_get c.columns j ≡ Some d → length y ≡ length c.rows →
    add_dot (length y) (get y) (at d.entries) zero_f ≡ combination_script (model_form c) (get y) j
combination_same c j d y e m =
    ap (λ i. add_dot i (get y) (at d.entries) zero_f) m
    ∙ scripts.each_same (length c.rows) 0 (λ i (t : Fraction). add_product t (get y i) (at d.entries i))
    (λ i (t : Fraction). add_product t (get y i) (entry (model_form c) i j)) zero_f
    (λ i a b t. let h : i < length c.rows = omega (arith, b) in ap (add_product t (get y i)) (sym (entry_of_column c j d i e h)))

pub finite_column_item : (c : Contents) (j : ℕ) (d : Column) (y : List Fraction) (s : Fraction) →
    slice_get c.columns j ≡ Some d → length y ≡ length c.rows →
    finite j ((then) (add_dot (length y) (get y) (at d.entries) zero_f) (λ g. column_least d.bounds g s))
    ≡ tested (finite_column (model_form c) (get y) j ∷ []) s
finite_column_item c j d y s e m =
    ap (λ o. finite j ((then) o (λ g. column_least d.bounds g s))) (combination_same c j d y e m)
    ∙ ap (λ (l : Bounds). finite j ((then) (combination_script (model_form c) (get y) j) (λ g. column_least l g s))) (sym (bounds_of_column c j d e))

pub infeasible_parts : (f : Form) (y : ℕ → Fraction) (s : Fraction) →
    tested ((finite_rows f y ++ finite_columns f y) ++ positive_test ∷ []) s ≡ tested (infeasible_tests f y) s
infeasible_parts f y s = ap (λ ts. tested ts s) (append_assoc (finite_rows f y) (finite_columns f y) (positive_test ∷ []))

-- ---- the last test of infeasibility
abbrev pub LastFound : Bool → Fraction → Result Fraction Verdict
LastFound b s = behind positive_test.condition positive_test.variable (Ok (if b then Some s else None)) (λ b. Ok b)

pub positive_passes : (s : Fraction) → is_below zero_f s ≡ true → Ok s ≡ tested (positive_test ∷ []) s
positive_passes s e = sym (ap (λ b. LastFound b s) e)

pub positive_fails : (s : Fraction) → is_below zero_f s ≡ false → Err (verdicts.Invalid conditions.Positive None) ≡ tested (positive_test ∷ []) s
positive_fails s e = sym (ap (λ b. LastFound b s) e)
