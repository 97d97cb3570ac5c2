-- What the calls ask of the lists of an optimal state, as they are lent.
use Rattle.std.proofs.Common.{◌≡◌, ℕ, ◌<◌, ◌-◌, ◌^◌, List, [], length, get_or, All, Ok, false, sym, ap, ◌∙◌, subst, arith}
use Rattle.pami_algebra.specs.Fraction.{Fraction}
use Rattle.pami_linear.specs.Systems.{IsRegular}
use Rattle.pami_frac.specs.declared.list.Bounds.{Bounds}
use Rattle.pami_factoring.specs.Factor.{matrix_of, elimination_script, basis_columns}
use Rattle.pami_theory.specs.declared.words.Stand.{Stand}
use Rattle.pami_theory.specs.Form.{variables}
use Rattle.pami_theory.specs.Fresh.{value_at_place}
use Rattle.pami_theory.proofs.Tables.{tabled_length}
use Rattle.pami_state.specs.Columns.{rows_of}
use Rattle.pami_state.specs.State.{basis_of}
use Rattle.pami_state.specs.declared.state.State.{State}
use Rattle.pami_state.proofs.Formed.{variables_are}
use Rattle.pami_form.specs.declared.form.Form.{Form}
use Rattle.pami_form.specs.FormOf.{form_of}
use Rattle.pami_range.specs.Optimal.{IsOptimal}
use Rattle.pami_script.specs.Dense.{Rising}
use Rattle.pami_frac.specs.declared.list.Entry.{Entry}
use Rattle.pami_method.specs.Scripts.{is_nonbasic}
use Rattle.pami_price.specs.Slices.{row_script}
use Rattle.pami_range.specs.Scripts.{place_of}
use Rattle.pami_range.specs.Lists.{stand_at, bound_spans_at, cost_spans_at}
use Rattle.pami_range.specs.declared.lists.CostLists.{CostLists}
use Rattle.pami_range.specs.CostLists.{AreCostLists}
use Rattle.pami_range.specs.declared.span.Span.{Span}
use Rattle.std.specs.Prelude.{Option}
use Rattle.pami_range.proofs.Laid.{head_known, regular_columns}
use Rattle.pami_range.proofs.Whole.{KeptForm}
use Rattle.pami_range.proofs.CostSpans.{rising_of, placed_of}

-- ---- lengths
pub record HasLengths (form : Form) (st : State) : Type 0 where
  pub few : length form.columns < 2 ^ 32
  pub rows : length st.head < 2 ^ 32
  pub high : length st.head ≡ rows_of form.columns
  pub bounds : length form.columns ≡ length form.bounds
  pub costs : length form.costs ≡ length form.columns
  pub stands : length st.stands ≡ length form.columns
  pub reduced : length st.reduced ≡ length form.columns
  pub values : length st.values ≡ length st.head
  pub tall : (v : ℕ) → v < length form.columns → length (get_or form.columns v []) ≡ length st.head
  pub known : All (λ v. v < length form.columns) st.head

pub lengths_of : (form : Form) (st : State) → KeptForm form → IsOptimal form st → HasLengths form st
lengths_of form st k o =
    let n : variables (form_of form) ≡ length form.columns = variables_are form.columns form.bounds form.costs k.form in
    let p : length st.head ≡ rows_of form.columns = o.basis.places in
    let s : length st.stands ≡ variables (form_of form) = o.basis.variables_stand in
    let few = k.form.few in
    let rows = k.form.row_variables in
    record {
      few = few;
      rows = omega arith;
      high = p;
      bounds = sym k.form.as_many_bounds;
      costs = k.form.as_many_costs;
      stands = s ∙ n;
      reduced = ap length o.solved.reduced ∙ o.solved.solved.reduced_by_variable ∙ n;
      values = ap length o.solved.values ∙ tabled_length (rows_of form.columns) (value_at_place (basis_of st) o.solved.fresh) ∙ sym p;
      tall = λ v l. k.form.tall v l ∙ sym p;
      known = head_known form.columns form.bounds form.costs (basis_of st) k.form o.basis;
    }

-- ---- as they are lent
pub tall_lent : (columns cs : List (List Fraction)) (head hs : List ℕ) → cs ≡ columns → hs ≡ head → ((v : ℕ) → v < length columns → length (get_or columns v []) ≡ length head)
    → (v : ℕ) → v < length cs → length (get_or cs v []) ≡ length hs
tall_lent columns cs head hs e i h = subst (λ (z : List (List Fraction)). (v : ℕ) → v < length z → length (get_or z v []) ≡ length hs) (sym e)
    (subst (λ (z : List ℕ). (v : ℕ) → v < length columns → length (get_or columns v []) ≡ length z) (sym i) h)

pub known_lent : (n m : ℕ) (head hs : List ℕ) → m ≡ n → hs ≡ head → All (λ v. v < n) head → All (λ v. v < m) hs
known_lent n m head hs e i h = subst (λ (z : List ℕ). All (λ v. v < m) z) (sym i) (subst (λ k. All (λ v. v < k) head) (sym e) h)

pub regular_lent : (form : Form) (st : State) (cs : List (List Fraction)) (hs : List ℕ) → KeptForm form → IsOptimal form st → cs ≡ form.columns → hs ≡ st.head → IsRegular (length hs) (basis_columns cs hs)
regular_lent form st cs hs k o e i =
    subst (λ (z : List (List Fraction)). IsRegular (length hs) (basis_columns z hs)) (sym e)
    (subst (λ (z : List ℕ). IsRegular (length z) (basis_columns form.columns z)) (sym i)
    (regular_columns form.columns form.bounds form.costs (basis_of st) o.solved.fresh k.form o.basis o.solved.solved))

abbrev bounds_by : List (List Fraction) → List Bounds → List ℕ → List Stand → List Fraction → List (Option Span)
bounds_by cs bs hs ss xs = bound_spans_at (elimination_script (matrix_of cs hs)) cs bs hs ss xs

pub bounds_lent : (form : Form) (st : State) (cs : List (List Fraction)) (bs : List Bounds) (hs : List ℕ) (ss : List Stand) (xs : List Fraction)
    → cs ≡ form.columns → bs ≡ form.bounds → hs ≡ st.head → ss ≡ st.stands → xs ≡ st.values
    → bound_spans_at (elimination_script (matrix_of cs hs)) cs bs hs ss xs ≡ bound_spans_at (elimination_script (matrix_of form.columns st.head)) form.columns form.bounds st.head st.stands st.values
bounds_lent form st cs bs hs ss xs a b c d e =
    ap (λ (z : List (List Fraction)). bounds_by z bs hs ss xs) a
    ∙ ap (λ (z : List Bounds). bounds_by form.columns z hs ss xs) b
    ∙ ap (λ (z : List ℕ). bounds_by form.columns form.bounds z ss xs) c
    ∙ ap (λ (z : List Stand). bounds_by form.columns form.bounds st.head z xs) d
    ∙ ap (λ (z : List Fraction). bounds_by form.columns form.bounds st.head st.stands z) e

abbrev costs_by : List (List Fraction) → List Bounds → List Fraction → List ℕ → List Stand → List Fraction → List Span
costs_by cs bs us hs ss xs = cost_spans_at (elimination_script (matrix_of cs hs)) cs bs us hs ss xs (length cs - length hs)

pub costs_lent : (form : Form) (st : State) (cs : List (List Fraction)) (bs : List Bounds) (us : List Fraction) (hs : List ℕ) (ss : List Stand) (xs : List Fraction)
    → cs ≡ form.columns → bs ≡ form.bounds → us ≡ form.costs → hs ≡ st.head → ss ≡ st.stands → xs ≡ st.reduced
    → cost_spans_at (elimination_script (matrix_of cs hs)) cs bs us hs ss xs (length cs - length hs)
    ≡ cost_spans_at (elimination_script (matrix_of form.columns st.head)) form.columns form.bounds form.costs st.head st.stands st.reduced (length form.columns - length st.head)
costs_lent form st cs bs us hs ss xs a b c d e h =
    ap (λ (z : List (List Fraction)). costs_by z bs us hs ss xs) a
    ∙ ap (λ (z : List Bounds). costs_by form.columns z us hs ss xs) b
    ∙ ap (λ (z : List Fraction). costs_by form.columns form.bounds z hs ss xs) c
    ∙ ap (λ (z : List ℕ). costs_by form.columns form.bounds form.costs z ss xs) d
    ∙ ap (λ (z : List Stand). costs_by form.columns form.bounds form.costs st.head z xs) e
    ∙ ap (λ (z : List Fraction). costs_by form.columns form.bounds form.costs st.head st.stands z) h

abbrev ArePlaced : ℕ → List ℕ → List Stand → Type 0
ArePlaced n hs ss = (j : ℕ) → j < n → is_nonbasic (stand_at ss j) ≡ false → place_of hs j < length hs

placed_lent : (n m : ℕ) (head hs : List ℕ) (stands ss : List Stand) → m ≡ n → hs ≡ head → ss ≡ stands → ArePlaced n head stands → ArePlaced m hs ss
placed_lent n m head hs stands ss a b c h =
    subst (λ k. ArePlaced k hs ss) (sym a) (subst (λ (z : List ℕ). ArePlaced n z ss) (sym b) (subst (λ (z : List Stand). ArePlaced n head z) (sym c) h))

abbrev AreRising : List (List Fraction) → List Bounds → List ℕ → List Stand → Type 0
AreRising cs bs hs ss = (rho : List Fraction) (es : List Entry) → length rho ≡ length hs → row_script cs ss rho ≡ Ok es → Rising 0 (length bs) es

rising_lent : (columns cs : List (List Fraction)) (bounds bs : List Bounds) (head hs : List ℕ) (stands ss : List Stand) → cs ≡ columns → bs ≡ bounds → hs ≡ head → ss ≡ stands → AreRising columns bounds head stands → AreRising cs bs hs ss
rising_lent columns cs bounds bs head hs stands ss a b c d h =
    subst (λ (z : List (List Fraction)). AreRising z bs hs ss) (sym a)
    (subst (λ (z : List Bounds). AreRising columns z hs ss) (sym b)
    (subst (λ (z : List ℕ). AreRising columns bounds z ss) (sym c)
    (subst (λ (z : List Stand). AreRising columns bounds head z) (sym d) h)))

-- ---- the lists that the spans of costs are read from
-- they are those of the form and the state
pub record AreLent (form : Form) (st : State) (x : CostLists) : Type 0 where
  pub columns_are : x.columns.now ≡ form.columns
  pub rows_are : x.by_row.now ≡ form.columns
  pub bounds_are : x.bounds.now ≡ form.bounds
  pub costs_are : x.costs.now ≡ form.costs
  pub head_is : x.head.now ≡ st.head
  pub stands_are : x.stands.now ≡ st.stands
  pub reduced_are : x.reduced.now ≡ st.reduced

pub cost_lists_of : (form : Form) (st : State) (x : CostLists) → KeptForm form → IsOptimal form st → AreLent form st x → AreCostLists x
cost_lists_of form st x k o a =
    let n : HasLengths form st = lengths_of form st k o in
    let high : length st.head ≡ rows_of form.columns = n.high in
    let rows = k.form.row_variables in
    let c : length x.columns.now ≡ length form.columns = ap length a.columns_are in
    let h : length x.head.now ≡ length st.head = ap length a.head_is in
    let b : length form.columns ≡ length x.bounds.now = n.bounds ∙ sym (ap length a.bounds_are) in
    record {
      rows = omega arith;
      few = subst (λ n. n < 2 ^ 32) (sym c) n.few;
      turned = a.rows_are ∙ sym a.columns_are;
      by_bounds = c ∙ b;
      by_costs = ap length a.costs_are ∙ n.costs ∙ b;
      by_stands = ap length a.stands_are ∙ n.stands ∙ b;
      by_reduced = ap length a.reduced_are ∙ n.reduced ∙ b;
      tall = tall_lent form.columns x.columns.now st.head x.head.now a.columns_are a.head_is n.tall;
      placed = placed_lent (length form.columns) (length x.columns.now) st.head x.head.now st.stands x.stands.now c a.head_is a.stands_are (placed_of form st k o);
      rising = rising_lent form.columns x.columns.now form.bounds x.bounds.now st.head x.head.now st.stands x.stands.now a.columns_are a.bounds_are a.head_is a.stands_are (rising_of form st k o);
    }
