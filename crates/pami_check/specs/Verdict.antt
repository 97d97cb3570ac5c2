-- The tests of each kind of certificate, in order, and the verdict that they come to. Values x, reduced costs d and
-- directions z go by variable: the columns first, and then the rows, whose reduced cost is their dual value; y goes by row.
-- Costs are those that are to be made small, but for the objective.
use Rattle.std.specs.Prelude.{ℕ, List, [], ◌∷◌, ◌++◌, length, Bool, true, false, not, ◌&&◌, Option, None, Some, Result, Ok, if◌then◌else◌}
use Rattle.pami_algebra.specs.Fraction.{Fraction}
use Rattle.pami_algebra.specs.Operations.{is_below}
use Rattle.pami_frac.specs.declared.arithmetic.Refused.{Refused}
use Rattle.pami_frac.specs.declared.list.Bounds.{Bounds}
use Rattle.pami_linear.specs.Lists.{get}
use Rattle.pami_script.specs.Script.{then, add_product, sub_product, add_dot, sub_dot}
use Rattle.pami_theory.specs.Form.{Form, limits, entry, cost, variables, row_variable, zero_f}
use Rattle.pami_theory.specs.Start.{is_same}
use Rattle.pami_model.specs.Contents.{Contents}
use Rattle.pami_model_form.specs.ModelForm.{file_cost, model_form}
use Rattle.pami_cert.specs.declared.cert.Cert.{Cert}
use Rattle.pami_cert.specs.declared.cert.Cert.TheVariants as certs
use Rattle.pami_check.specs.declared.verdict.Condition.TheVariants.{Bound, Row, Reduced, Sign, Objective, Finite, Positive, Cost}
use Rattle.pami_check.specs.declared.verdict.Verdict.{Verdict}
use Rattle.pami_check.specs.Tests.{Test, tested, verdict_by, plain, each_of}

-- ---- bounds and signs

abbrev pub is_at_least : Option Fraction → Fraction → Bool
is_at_least None x = true
is_at_least (Some low) x = not (is_below x low)

abbrev pub is_at_most : Option Fraction → Fraction → Bool
is_at_most None x = true
is_at_most (Some high) x = not (is_below high x)

abbrev pub is_within : Bounds → Fraction → Bool
is_within l x = is_at_least l.low x && is_at_most l.high x

-- the bounds of a direction: 0 where there is a bound
abbrev pub zero_at : Option Fraction → Option Fraction
zero_at None = None
zero_at (Some b) = Some zero_f

abbrev pub cone : Bounds → Bounds
cone l = record { low = zero_at l.low; high = zero_at l.high }

-- by the sign of k: the first where it is above 0, the second where it is below
abbrev pub by_sign : {A : Type 0} → Fraction → A → A → A → A
by_sign k above below none = if is_below zero_f k then above else if is_below k zero_f then below else none

abbrev pub is_at : Option Fraction → Fraction → Bool
is_at None x = false
is_at (Some b) x = is_same b x

-- the value stands at the bound that the sign of its reduced cost asks for
abbrev pub is_complementary : Bounds → Fraction → Fraction → Bool
is_complementary l x d = by_sign d (is_at l.low x) (is_at l.high x) true

-- ---- points and directions

-- the value x of variable v is within these bounds
abbrev pub bound_test : Bounds → ℕ → Fraction → Test (Unit {0})
bound_test l v x = plain Bound (Some v) (Ok (is_within l x))

-- the value of variable v is within what `reach` makes of its bounds
abbrev pub bound_at : Form → (Bounds → Bounds) → (ℕ → Fraction) → ℕ → Test (Unit {0})
bound_at f reach x v = bound_test (reach (limits f v)) v (x v)

-- the sum over the columns of row i
abbrev pub row_script : Form → (ℕ → Fraction) → ℕ → Result Fraction Refused
row_script f x i = add_dot f.columns (entry f i) x zero_f

abbrev pub row_test : Form → (ℕ → Fraction) → ℕ → Test (Unit {0})
row_test f x i = plain Row (Some (row_variable f i)) ((then) (row_script f x i) (λ t. Ok (is_same t (x (row_variable f i)))))

-- row i: its sum, and then its bounds
abbrev pub row_pair : Form → (Bounds → Bounds) → (ℕ → Fraction) → ℕ → List (Test (Unit {0}))
row_pair f reach x i = row_test f x i ∷ bound_at f reach x (row_variable f i) ∷ []

abbrev pub column_tests : Form → (Bounds → Bounds) → (ℕ → Fraction) → List (Test (Unit {0}))
column_tests f reach x = each_of 0 f.columns (λ j. bound_at f reach x j ∷ [])

abbrev pub row_tests : Form → (Bounds → Bounds) → (ℕ → Fraction) → List (Test (Unit {0}))
row_tests f reach x = each_of 0 f.rows (row_pair f reach x)

-- each column, and then each row
abbrev pub point_tests : Form → (Bounds → Bounds) → (ℕ → Fraction) → List (Test (Unit {0}))
point_tests f reach x = column_tests f reach x ++ row_tests f reach x

-- ---- optimal

-- the cost of column j without the combination of its entries
abbrev pub reduced_script : Form → (ℕ → Fraction) → ℕ → Result Fraction Refused
reduced_script f d j = sub_dot f.rows (λ i. d (row_variable f i)) (λ i. entry f i j) (cost f j)

abbrev pub reduced_test : Form → (ℕ → Fraction) → ℕ → Test (Unit {0})
reduced_test f d j = plain Reduced (Some j) ((then) (reduced_script f d j) (λ t. Ok (is_same t (d j))))

abbrev pub reduced_tests : Form → (ℕ → Fraction) → List (Test (Unit {0}))
reduced_tests f d = each_of 0 f.columns (λ j. reduced_test f d j ∷ [])

-- the value x and the reduced cost d of variable v, which has these bounds
abbrev pub sign_test : Bounds → ℕ → Fraction → Fraction → Test (Unit {0})
sign_test l v x d = plain Sign (Some v) (Ok (is_complementary l x d))

abbrev pub sign_at : Form → (ℕ → Fraction) → (ℕ → Fraction) → ℕ → Test (Unit {0})
sign_at f x d v = sign_test (limits f v) v (x v) (d v)

abbrev pub sign_tests : Form → (ℕ → Fraction) → (ℕ → Fraction) → List (Test (Unit {0}))
sign_tests f x d = each_of 0 (variables f) (λ v. sign_at f x d v ∷ [])

-- nothing is asked where no objective is told
abbrev pub objective_tests : Option Fraction → Result Fraction Refused → List (Test (Unit {0}))
objective_tests None script = []
objective_tests (Some told) script = plain Objective None ((then) script (λ t. Ok (is_same t told))) ∷ []

-- the constant, and then the file's own cost of each column times its value
abbrev pub objective_script : Contents → (ℕ → Fraction) → Result Fraction Refused
objective_script c x = add_dot (length c.columns) (file_cost c) x c.constant

abbrev pub optimal_tests : Contents → Option Fraction → (ℕ → Fraction) → (ℕ → Fraction) → List (Test (Unit {0}))
optimal_tests c objective x d =
    point_tests (model_form c) (λ l. l) x ++ (reduced_tests (model_form c) d ++ (sign_tests (model_form c) x d
    ++ objective_tests objective (objective_script c x)))

-- ---- infeasible: the total is the least value so far

-- the total behind a step with a bound; None where there is no bound
abbrev pub with_bound : Option Fraction → (Fraction → Result Fraction Refused) → Result (Option Fraction) Refused
with_bound None step = Ok None
with_bound (Some b) step = (then) (step b) (λ s. Ok (Some s))

-- the total s with the least value of y r, where r is within these bounds
abbrev pub row_least : Bounds → Fraction → Fraction → Result (Option Fraction) Refused
row_least l y s = by_sign y (with_bound l.low (add_product s y)) (with_bound l.high (add_product s y)) (Ok (Some s))

-- the total s with the least value of -g x, where x is within these bounds
abbrev pub column_least : Bounds → Fraction → Fraction → Result (Option Fraction) Refused
column_least l g s = by_sign g (with_bound l.high (sub_product s g)) (with_bound l.low (sub_product s g)) (Ok (Some s))

abbrev pub finite_row : Form → (ℕ → Fraction) → ℕ → Test Fraction
finite_row f y i = record {
  condition = Finite;
  variable = Some (row_variable f i);
  outcome = row_least (limits f (row_variable f i)) (y i);
}

-- the combination of the rows at column j
abbrev pub combination_script : Form → (ℕ → Fraction) → ℕ → Result Fraction Refused
combination_script f y j = add_dot f.rows y (λ i. entry f i j) zero_f

abbrev pub finite_column : Form → (ℕ → Fraction) → ℕ → Test Fraction
finite_column f y j = record {
  condition = Finite;
  variable = Some j;
  outcome = λ s. (then) (combination_script f y j) (λ g. column_least (limits f j) g s);
}

abbrev pub positive_test : Test Fraction
positive_test = record { condition = Positive; variable = None; outcome = λ s. Ok (if is_below zero_f s then Some s else None) }

abbrev pub finite_rows : Form → (ℕ → Fraction) → List (Test Fraction)
finite_rows f y = each_of 0 f.rows (λ i. finite_row f y i ∷ [])

abbrev pub finite_columns : Form → (ℕ → Fraction) → List (Test Fraction)
finite_columns f y = each_of 0 f.columns (λ j. finite_column f y j ∷ [])

abbrev pub infeasible_tests : Form → (ℕ → Fraction) → List (Test Fraction)
infeasible_tests f y = finite_rows f y ++ (finite_columns f y ++ positive_test ∷ [])

-- ---- dual infeasible

abbrev pub cost_test : Form → (ℕ → Fraction) → Test (Unit {0})
cost_test f z = plain Cost None ((then) (add_dot f.columns (cost f) z zero_f) (λ t. Ok (is_below t zero_f)))

abbrev pub dual_infeasible_tests : Form → (ℕ → Fraction) → List (Test (Unit {0}))
dual_infeasible_tests f z = point_tests f cone z ++ cost_test f z ∷ []

-- ---- the certificate of a model

abbrev pub verdict : Contents → Cert → Verdict
verdict c (certs.Optimal objective x d r y) = verdict_by (tested (optimal_tests c objective (get (x ++ r)) (get (d ++ y))) tt)
verdict c (certs.Infeasible y) = verdict_by (tested (infeasible_tests (model_form c) (get y)) zero_f)
verdict c (certs.DualInfeasible x r) = verdict_by (tested (dual_infeasible_tests (model_form c) (get (x ++ r))) tt)
