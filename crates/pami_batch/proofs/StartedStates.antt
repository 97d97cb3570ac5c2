-- The state at the start of a form: its rows, and the factor of its head.
use Rattle.std.proofs.Common.{◌≡◌, ℕ, zero, suc, ◌+◌, ◌<◌, ◌^◌, List, [], ◌∷◌, map, length, get_or, replicate, None, Ok, refl, sym, ap, ◌∙◌, subst, arith}
use Rattle.std.specs.List.{All, range_with_len}
use Rattle.std.proofs.lemmas.List.{length-map, length-replicate, get_or-map, get_or-replicate}
use Rattle.std.proofs.lemmas.List.Elements.{All-nil, All-cons}
use Rattle.pami_algebra.specs.Fraction.{Fraction}
use Rattle.pami_linear.specs.Lists.{get}
use Rattle.pami_frac.specs.declared.list.Bounds.{Bounds}
use Rattle.pami_factoring.specs.declared.kept.Kept.{Kept as KeptStep}
use Rattle.pami_factoring.specs.Factor.{row_of, rows_from, columns_at, matrix_of, elimination_script}
use Rattle.pami_theory.specs.Form as theory
use Rattle.pami_theory.specs.Form.{variables, coefficient, zero_f}
use Rattle.pami_theory.specs.Basis.{Basis, IsBasis}
use Rattle.pami_theory.specs.Fresh.{Fresh, IsFresh, value_at_place}
use Rattle.pami_theory.specs.Choice.{chosen}
use Rattle.pami_theory.specs.Start.{starting_basis}
use Rattle.pami_theory.specs.Weights.{weight_at}
use Rattle.pami_theory.proofs.Starts.{start_is_basis}
use Rattle.pami_theory.proofs.Solved.{only_fresh}
use Rattle.pami_theory.proofs.Tables.{tabled_length, tabled_at}
use Rattle.pami_method.specs.Factor.{head_row, head_matrix, elimination}
use Rattle.pami_deferral.proofs.Histories.{history_new}
use Rattle.pami_devex.specs.Weights.{AreWeights}
use Rattle.pami_chuzr.specs.Choice.{AreOfPlaces, chosen_row}
use Rattle.pami_chuzr.specs.declared.row.ChosenRow.{ChosenRow}
use Rattle.pami_form.specs.declared.form.Form.{Form}
use Rattle.pami_form.specs.FormOf.{form_of}
use Rattle.pami_state.specs.Columns.{rows_of, column_of, form_by, IsForm}
use Rattle.pami_state.specs.State.{basis_of, IsSolvedAfresh}
use Rattle.pami_state.specs.declared.state.State.{State}
use Rattle.pami_state.proofs.Formed.{variables_are, coefficient_is}
use Rattle.pami_factor.specs.Value.{Product}
use Rattle.pami_minor.specs.Opening.{IsOpenable}
use Rattle.pami_minor.proofs.WalkedRow.{Kept}
use Rattle.pami_batch.specs.Factors.{IsFactorOf}
use Rattle.pami_batch.specs.Started.{IsStarted}

-- ---- the start
-- weights of 1
pub ones_are : (n : ℕ) → AreWeights (replicate n 1)
ones_are n =
    let ones : List ℕ = replicate n 1 in
    let k : length ones ≡ n = length-replicate {A = ℕ} n 1 in
    λ p l.
    let m : p < length ones = l in
    let e : weight_at ones p ≡ 1 = get_or-replicate {A = ℕ} n p 1 1 (omega (arith, k, m)) in
    record { least = omega (arith, e); most = omega (arith, e) }

start_by : (form : Form) (st : State) → basis_of st ≡ starting_basis (form_of form) → IsSolvedAfresh (form_of form) st
    → st.weights ≡ replicate (form_of form).rows 1 → st.pivots ≡ 0 → IsStarted form st
start_by form st at solved ones none =
    let is : IsBasis (form_of form) (basis_of st) = subst (IsBasis (form_of form)) (sym at) (start_is_basis (form_of form)) in
    record {
      basis = is;
      solved = solved;
      weights = ap length ones ∙ length-replicate (form_of form).rows 1 ∙ sym is.places;
      range = subst AreWeights (sym ones) (ones_are (form_of form).rows);
      pivots = none;
    }

-- over the lists that were lent
lent_form : (form : Form) (cs : List (List Fraction)) (bs : List Bounds) (ds : List Fraction) → cs ≡ form.columns → bs ≡ form.bounds → ds ≡ form.costs
    → form_by cs bs ds ≡ form_of form
lent_form form cs bs ds e h k = ap (λ x. form_by x bs ds) e ∙ ap (λ x. form_by form.columns x ds) h ∙ ap (form_by form.columns form.bounds) k

started_at : (form : Form) (g : theory.Form) (st : State) → g ≡ form_of form → basis_of st ≡ starting_basis g → IsSolvedAfresh g st
    → st.weights ≡ replicate g.rows 1 → st.pivots ≡ 0 → IsStarted form st
started_at form g st is at solved ones none =
    start_by form st (subst (λ x. basis_of st ≡ starting_basis x) is at) (subst (λ x. IsSolvedAfresh x st) is solved)
    (subst (λ (x : theory.Form). st.weights ≡ replicate x.rows 1) is ones) none

pub started_is : (form : Form) (cs : List (List Fraction)) (bs : List Bounds) (ds : List Fraction) (st : State) → cs ≡ form.columns → bs ≡ form.bounds → ds ≡ form.costs
    → basis_of st ≡ starting_basis (form_by cs bs ds) → IsSolvedAfresh (form_by cs bs ds) st → st.weights ≡ replicate (rows_of cs) 1 → st.pivots ≡ 0 → IsStarted form st
started_is form cs bs ds st e h k = started_at form (form_by cs bs ds) st (lent_form form cs bs ds e h k)

-- ---- the variables of its head
head_below : (h : List ℕ) (n : ℕ) → ((p : ℕ) → p < length h → get_or h p 0 < n) → All (λ j. j < n) h
head_below [] n h = All-nil (λ j. j < n)
head_below (v ∷ vs) n h = All-cons (λ j. j < n) v vs (h 0 (omega arith)) (head_below vs n (λ p l. h (suc p) (omega arith)))

pub few_places : (form : Form) (st : State) → Kept form → IsStarted form st → length st.head < 2 ^ 32
few_places form st k s =
    let p : length st.head ≡ rows_of form.columns = s.basis.places in
    let few = k.form.few in
    let rows = k.form.row_variables in
    omega arith

known_columns : (form : Form) (st : State) → Kept form → IsStarted form st → All (λ v. v < length form.columns) st.head
known_columns form st k s =
    let n : variables (form_of form) ≡ length form.columns = variables_are form.columns form.bounds form.costs k.form in
    head_below st.head (length form.columns) (λ p l. let m = s.basis.places in let w = s.basis.within p (omega arith) in omega arith)

-- over the lists that were lent
pub head_in_columns : (form : Form) (st : State) (cs : List (List Fraction)) (head : List ℕ) → Kept form → IsStarted form st → cs ≡ form.columns → head ≡ st.head
    → All (λ v. v < length cs) head
head_in_columns form st cs head k s e h =
    subst (λ n. All (λ v. v < length n) head) (sym e) (subst (All (λ v. v < length form.columns)) (sym h) (known_columns form st k s))

pub head_in_bounds : (form : Form) (st : State) (bs : List Bounds) (head : List ℕ) → Kept form → IsStarted form st → bs ≡ form.bounds → head ≡ st.head
    → All (λ v. v < length bs) head
head_in_bounds form st bs head k s e h =
    subst (λ n. All (λ v. v < n) head) (sym (ap length e ∙ k.form.as_many_bounds)) (subst (All (λ v. v < length form.columns)) (sym h) (known_columns form st k s))

pub column_heights : (form : Form) (st : State) (cs : List (List Fraction)) (head : List ℕ) → Kept form → IsStarted form st → cs ≡ form.columns → head ≡ st.head
    → (j : ℕ) → j < length cs → length (get_or cs j []) ≡ length head
column_heights form st cs head k s e h = λ j l.
    ap (λ x. length (get_or x j [])) e ∙ k.form.tall j (subst (λ x. j < length x) e l) ∙ sym s.basis.places ∙ sym (ap length h)

-- ---- the rows that are chosen
abbrev pub bounds_at : List Bounds → List ℕ → List Bounds
bounds_at bounds head = map (λ v. get_or bounds v (record { low = None; high = None })) head

pub values_by_place : (form : Form) (st : State) → IsStarted form st → length st.values ≡ length st.head
values_by_place form st s =
    ap length s.solved.values ∙ tabled_length (rows_of form.columns) (value_at_place (basis_of st) s.solved.fresh) ∙ sym s.basis.places

pub lent_few : (form : Form) (st : State) (values : List Fraction) → Kept form → IsStarted form st → values ≡ st.values → length values < 2 ^ 32
lent_few form st values k s v = subst (λ n. n < 2 ^ 32) (sym (ap length v ∙ values_by_place form st s)) (few_places form st k s)

pub lent_bounds : (form : Form) (st : State) (lent : List Bounds) (values : List Fraction) → IsStarted form st → lent ≡ bounds_at form.bounds st.head
    → values ≡ st.values → length lent ≡ length values
lent_bounds form st lent values s e v = ap length e ∙ length-map st.head _ ∙ sym (ap length v ∙ values_by_place form st s)

pub lent_weights : (form : Form) (st : State) (weights : List ℕ) (values : List Fraction) → IsStarted form st → weights ≡ st.weights → values ≡ st.values
    → length weights ≡ length values
lent_weights form st weights values s w v = ap length w ∙ s.weights ∙ sym (ap length v ∙ values_by_place form st s)

-- the bounds at the places, from those that were lent
pub lent_at : (form : Form) (st : State) (by lent bounds : List Bounds) (head : List ℕ) → lent ≡ by → by ≡ bounds_at bounds head → bounds ≡ form.bounds
    → head ≡ st.head → lent ≡ bounds_at form.bounds st.head
lent_at form st by lent bounds head e i b h = e ∙ i ∙ ap (λ bs. bounds_at bs head) b ∙ ap (bounds_at form.bounds) h

places_of : (form : Form) (st : State) (t : Fresh) → Kept form → IsStarted form st → IsFresh (form_of form) (basis_of st) t
    → AreOfPlaces (form_of form) (basis_of st) t (bounds_at form.bounds st.head) st.values
places_of form st t k s fresh =
    let f = form_of form in
    let b = basis_of st in
    let same : s.solved.fresh ≡ t = only_fresh f b s.solved.fresh t s.basis s.solved.solved fresh in
    let p : length st.head ≡ rows_of form.columns = s.basis.places in
    record {
      places = ap length s.solved.values ∙ tabled_length (rows_of form.columns) (value_at_place b s.solved.fresh);
      value = λ i l. ap (λ (xs : List Fraction). get xs i) s.solved.values
          ∙ tabled_at (rows_of form.columns) (value_at_place b s.solved.fresh) i zero_f l ∙ ap (λ (x : Fresh). value_at_place b x i) same;
      bound = λ i l. get_or-map (λ v. get_or form.bounds v (record { low = None; high = None })) st.head i 0 (record { low = None; high = None }) (omega arith);
    }

pub lent_places : (form : Form) (st : State) (t : Fresh) (lent : List Bounds) (values : List Fraction) → Kept form → IsStarted form st
    → IsFresh (form_of form) (basis_of st) t → lent ≡ bounds_at form.bounds st.head → values ≡ st.values → AreOfPlaces (form_of form) (basis_of st) t lent values
lent_places form st t lent values k s fresh e v =
    subst (λ (bs : List Bounds). AreOfPlaces (form_of form) (basis_of st) t bs values) (sym e)
    (subst (AreOfPlaces (form_of form) (basis_of st) t (bounds_at form.bounds st.head)) (sym v) (places_of form st t k s fresh))

pub openable_is : (form : Form) (st : State) (rows lent : List ChosenRow) (most left : ℕ) → IsStarted form st → lent ≡ rows
    → ((t : Fresh) → IsFresh (form_of form) (basis_of st) t → rows ≡ map chosen_row (chosen (form_of form) (basis_of st) t st.weights most))
    → left < 2 ^ 32 → IsOpenable form st lent left
openable_is form st rows lent most left s e h few =
    let none : st.pivots ≡ 0 = s.pivots in
    record {
      basis = s.basis;
      solved = s.solved;
      weights = s.weights;
      range = s.range;
      most = most;
      chosen_are = e ∙ h s.solved.fresh s.solved.solved;
      few = omega (arith, none, few);
    }

-- ---- the factor
row_same : (f : theory.Form) (columns : List (List Fraction)) (i : ℕ) (head : List ℕ) → ((v : ℕ) → v < length columns → coefficient f v i ≡ get (column_of columns v) i)
    → ((p : ℕ) → p < length head → get_or head p 0 < length columns)
    → map (λ v. coefficient f v i) head ≡ map (λ (c : List Fraction). get c i) (map (λ j. column_of columns j) head)
row_same f columns i [] h k = refl
row_same f columns i (v ∷ vs) h k =
    ap (λ x. x ∷ map (λ v. coefficient f v i) vs) (h v (k 0 (omega arith)))
    ∙ ap (λ xs. get (column_of columns v) i ∷ xs) (row_same f columns i vs h (λ p l. k (suc p) (omega arith)))

pub rows_same : (f : theory.Form) (columns : List (List Fraction)) (head : List ℕ) (n k : ℕ)
    → ((v i : ℕ) → v < length columns → i < k + n → coefficient f v i ≡ get (column_of columns v) i) → ((p : ℕ) → p < length head → get_or head p 0 < length columns)
    → map (head_row f head) (range_with_len k n) ≡ rows_from n k (columns_at columns head)
rows_same f columns head zero k h l = refl
rows_same f columns head (suc n) k h l =
    let e : k + 1 ≡ suc k = omega arith in
    ap (λ x. x ∷ map (head_row f head) (range_with_len (k + 1) n)) (row_same f columns k head (λ v m. h v k m (omega arith)) l)
    ∙ ap (λ j. row_of (columns_at columns head) k ∷ map (head_row f head) (range_with_len j n)) e
    ∙ ap (λ xs. row_of (columns_at columns head) k ∷ xs) (rows_same f columns head n (suc k) (λ v i m o. h v i m (omega arith)) l)

matrix_is : (form : Form) (st : State) → Kept form → IsStarted form st → head_matrix (form_of form) st.head ≡ matrix_of form.columns st.head
unfolding matrix_of
matrix_is form st k s =
    let f = form_of form in
    let n : variables f ≡ length form.columns = variables_are form.columns form.bounds form.costs k.form in
    let m : length st.head ≡ rows_of form.columns = s.basis.places in
    rows_same f form.columns st.head (rows_of form.columns) 0 (λ v i l o. coefficient_is form.columns form.bounds form.costs v i k.form l (omega arith))
    (λ p l. let w = s.basis.within p (omega arith) in omega arith)
    ∙ ap (λ k. rows_from k 0 (columns_at form.columns st.head)) (sym m)

pub factor_is : (form : Form) (st : State) (cs : List (List Fraction)) (head : List ℕ) (made : Product) (ks : List KeptStep) → Kept form → IsStarted form st
    → cs ≡ form.columns → head ≡ st.head → elimination_script (matrix_of cs head) ≡ Ok ks → made.steps ≡ ks → made.pivots ≡ []
    → IsFactorOf (form_of form) (record { head = st.head; pivots = [] }) (basis_of st) made
factor_is form st cs head made ks k s e h is steps none = record {
  stands = history_new (form_of form) (basis_of st) s.basis;
  steps = ap elimination_script (matrix_is form st k s) ∙ ap (λ x. elimination_script (matrix_of x st.head)) (sym e)
      ∙ ap (λ vs. elimination_script (matrix_of cs vs)) (sym h) ∙ is ∙ ap Ok (sym steps);
  pivots = none;
}
