-- The starting state: its lists are those of the starting basis, and its values those that the script of sums has.
use Rattle.std.proofs.Common.{◌≡◌, ℕ, suc, ◌+◌, ◌-◌, ◌<◌, List, [], ◌∷◌, length, map, take, get_or, refl, sym, ap, ◌∙◌, subst, arith, nat_lt, None, Result, Ok, Err}
use Rattle.std.proofs.lemmas.Bool.{lt-ltb, cond-true}
use Rattle.std.proofs.lemmas.List.{get_or-take, length-take-le, ext_get_or}
use Rattle.std.specs.List.{range_with_len}
use Rattle.pami_algebra.specs.Fraction.{Fraction}
use Rattle.pami_algebra.proofs.Field.{nil_add_f}
use Rattle.pami_linear.specs.Lists.{get}
use Rattle.pami_linear.specs.Sums.{dot}
use Rattle.pami_linear.proofs.Sums.{dot_same}
use Rattle.pami_frac.specs.declared.arithmetic.Refused.{Refused}
use Rattle.pami_frac.specs.declared.list.Bounds.{Bounds}
use Rattle.pami_frac.specs.declared.fault.Fault.{Fault}
use Rattle.pami_frac.specs.declared.fault.Fault.TheVariants as faults
use Rattle.pami_frac.specs.Answers.{Follows, FollowsBy}
use Rattle.pami_script.specs.Script.{then, each_member, add_dot, add_product}
use Rattle.pami_script.proofs.Scripts.{each_same}
use Rattle.pami_script.proofs.Members.{length_members, member_is}
use Rattle.pami_script.proofs.Values.{add_dot_value}
use Rattle.pami_theory.specs.declared.words.Stand.{Stand}
use Rattle.pami_theory.specs.Form.{Form, limits, entry, variables, row_variable, zero_f}
use Rattle.pami_theory.specs.declared.words.Stand.TheVariants.{Basic, Zero}
use Rattle.pami_theory.specs.Basis.{Basis, stand_at}
use Rattle.pami_theory.specs.Fresh.{Fresh, IsFresh, standing_value, value_at_place}
use Rattle.pami_theory.specs.Start.{stand_by, starting_stand, starting_basis}
use Rattle.pami_theory.proofs.Forms.{by_variable, point_rows}
use Rattle.pami_theory.proofs.Starts.{start_head, start_stand, start_row, start_column, column_not_basic, start_is_basis, start_costs_only}
use Rattle.pami_theory.proofs.Places.{standing_is}
use Rattle.pami_theory.proofs.Solved.{has_fresh, start_regular}
use Rattle.pami_theory.proofs.Tables.{tabled, tabled_length, tabled_at}
use Rattle.pami_method.specs.Scripts.{each_number, start_script}
use Rattle.pami_method.specs.Task.{refusal}
use Rattle.pami_method.specs.Phases.{start_refused}
use Rattle.pami_state.specs.declared.state.State.{State}
use Rattle.pami_state.specs.Columns.{rows_of, columns_of, form_by, IsForm}
use Rattle.pami_state.specs.State.{basis_of, values_by_place, IsSolvedAfresh}
use Rattle.pami_state.specs.Sums.{sum_at, stand_by_lists, standing_at, AreSums, sums_script}
use Rattle.pami_state.proofs.Listed.{row_stands}
use Rattle.pami_state.proofs.Formed.{variables_are, cost_of_is}

-- tables of functions that agree
pub tabled_same : {A : Type 0} (n : ℕ) (f g : ℕ → A) (d : A) → ((i : ℕ) → i < n → f i ≡ g i) → tabled n f ≡ tabled n g
tabled_same n f g d h = ext_get_or d (tabled n f) (tabled n g) (tabled_length n f ∙ sym (tabled_length n g))
    (λ i l. let m : i < n = subst (λ k. i < k) (tabled_length n f) l in tabled_at n f i d m ∙ h i m ∙ sym (tabled_at n g i d m))

-- ---- where the variables stand
stands_as_form : (columns : List (List Fraction)) (bounds : List Bounds) (costs : List Fraction) (v : ℕ) → v < variables (form_by columns bounds costs) → stand_by_lists (columns_of columns) bounds costs v ≡ starting_stand (form_by columns bounds costs) v
stands_as_form columns bounds costs =
    let f : Form = form_by columns bounds costs in
    let n : ℕ = columns_of columns in
    by_variable f (λ v. stand_by_lists n bounds costs v ≡ starting_stand f v)
    (λ j l. cond-true (nat_lt j n) (stand_by (limits f j).low (limits f j).high (get costs j)) Basic (lt-ltb j n l)
    ∙ ap (stand_by (limits f j).low (limits f j).high) (sym (get_or-take n costs j zero_f l))
    ∙ sym (start_column f j l))
    (λ i l. sym (row_stands n bounds costs (n + i) (omega arith)) ∙ sym (start_row f i))

pub stands_are : (columns : List (List Fraction)) (bounds : List Bounds) (costs : List Fraction) (ss : List Stand) → IsForm columns bounds costs →
    ss ≡ map (stand_by_lists (columns_of columns) bounds costs) (range_with_len 0 (length bounds)) → ss ≡ (starting_basis (form_by columns bounds costs)).stands
stands_are columns bounds costs ss h e =
    let f : Form = form_by columns bounds costs in
    let n : length bounds ≡ variables f = h.as_many_bounds ∙ sym (variables_are columns bounds costs h) in
    e ∙ ap (λ k. tabled k (stand_by_lists (columns_of columns) bounds costs)) n
    ∙ tabled_same (variables f) (stand_by_lists (columns_of columns) bounds costs) (starting_stand f) Zero (stands_as_form columns bounds costs)

pub basis_is : (columns : List (List Fraction)) (bounds : List Bounds) (costs : List Fraction) (head : List ℕ) (ss : List Stand) → head ≡ map (λ i. columns_of columns + i) (range_with_len 0 (rows_of columns)) →
    ss ≡ (starting_basis (form_by columns bounds costs)).stands → record { head = head; stands = ss } ≡ starting_basis (form_by columns bounds costs)
basis_is columns bounds costs head ss e h =
    ap (λ (vs : List ℕ). record { head = vs; stands = ss }) e
    ∙ ap (λ (ts : List Stand). record { head = (starting_basis (form_by columns bounds costs)).head; stands = ts }) h

-- ---- the values of the columns are those at which they stand
column_value : (columns : List (List Fraction)) (bounds : List Bounds) (costs : List Fraction) (ss : List Stand) (s : Fresh) (j : ℕ) → ss ≡ (starting_basis (form_by columns bounds costs)).stands →
    IsFresh (form_by columns bounds costs) (starting_basis (form_by columns bounds costs)) s → j < columns_of columns → standing_at bounds ss j ≡ get s.values j
column_value columns bounds costs ss s j e h l =
    let f : Form = form_by columns bounds costs in
    let b : Basis = starting_basis f in
    let m : j < variables f = omega arith in
    ap (λ (ts : List Stand). standing_value (limits f j) (get_or ts j Zero)) e
    ∙ sym (standing_is (limits f j) (stand_at b j) (get s.values j) (λ k. column_not_basic f j l (sym (start_stand f j m) ∙ k)) (h.values.nonbasic j m))

-- ---- the sums are the script
members_number : (sums : List (Result Fraction Refused)) (i k : ℕ) (step : ℕ → Result Fraction Refused) → ((j : ℕ) → j < length sums → sum_at sums j ≡ step (k + j)) → each_member (λ i sum. sum) i sums ≡ each_number (length sums) k step
members_number [] i k step h = refl
members_number (s ∷ ss) i k step h =
    let e : k + 0 ≡ k = omega arith in
    ap (λ r. then r (λ y. then (each_member (λ i sum. sum) (suc i) ss) (λ ys. Ok (y ∷ ys)))) (h 0 (omega arith) ∙ ap step e)
    ∙ ap (λ r. then (step k) (λ y. then r (λ ys. Ok (y ∷ ys))))
    (members_number ss (suc i) (suc k) step (λ j l. let g : k + suc j ≡ suc k + j = omega arith in h (suc j) (omega arith) ∙ ap step g))

pub script_is : (columns : List (List Fraction)) (bounds : List Bounds) (costs : List Fraction) (ss : List Stand) (sums : List (Result Fraction Refused)) (s : Fresh) → ss ≡ (starting_basis (form_by columns bounds costs)).stands →
    IsFresh (form_by columns bounds costs) (starting_basis (form_by columns bounds costs)) s → AreSums (take (columns_of columns) columns) (rows_of columns) (length (take (columns_of columns) columns)) (standing_at bounds ss) sums →
    sums_script sums ≡ start_script (form_by columns bounds costs) (get s.values)
script_is columns bounds costs ss sums s e h a =
    let f : Form = form_by columns bounds costs in
    let n : length (take (columns_of columns) columns) ≡ columns_of columns = length-take-le (columns_of columns) columns (omega arith) in
    members_number sums 0 0 (λ i. add_dot f.columns (entry f i) (get s.values) zero_f)
    (λ i l. let m : length sums ≡ rows_of columns = a.by_row in
    a.at i (omega arith)
    ∙ ap (λ k. add_dot k (entry f i) (standing_at bounds ss) zero_f) n
    ∙ each_same f.columns 0 (λ j t. add_product t (entry f i j) (standing_at bounds ss j)) (λ j t. add_product t (entry f i j) (get s.values j)) zero_f
    (λ j p q t. ap (add_product t (entry f i j)) (column_value columns bounds costs ss s j e h (omega arith)))
    ∙ (let z : 0 + i ≡ i = omega arith in ap (λ k. add_dot f.columns (entry f k) (get s.values) zero_f) (sym z)))
    ∙ ap (λ k. each_number k 0 (λ i. add_dot f.columns (entry f i) (get s.values) zero_f)) a.by_row

-- ---- as the code has them: n columns and m rows
abbrev pub StandsMade : List Bounds → List Fraction → List Stand → ℕ → Type 0
StandsMade bounds costs ss n = ss ≡ map (stand_by_lists n bounds costs) (range_with_len 0 (length bounds))

abbrev pub SumsMade : List (List Fraction) → List Bounds → List Stand → List (Result Fraction Refused) → ℕ → Type 0
SumsMade columns bounds ss sums m = AreSums (take (length columns - m) columns) m (length (take (length columns - m) columns)) (standing_at bounds ss) sums

pub stands_made : (columns : List (List Fraction)) (bounds : List Bounds) (costs : List Fraction) (ss : List Stand) (m : ℕ) → IsForm columns bounds costs → m ≡ rows_of columns → StandsMade bounds costs ss (length columns - m) → ss ≡ (starting_basis (form_by columns bounds costs)).stands
stands_made columns bounds costs ss m h e k = stands_are columns bounds costs ss h (subst (λ i. StandsMade bounds costs ss (length columns - i)) e k)

pub sums_made : (columns : List (List Fraction)) (bounds : List Bounds) (ss ts : List Stand) (sums lent : List (Result Fraction Refused)) (m : ℕ) → m ≡ rows_of columns → ts ≡ ss → lent ≡ sums → SumsMade columns bounds ts sums m → SumsMade columns bounds ss lent (rows_of columns)
sums_made columns bounds ss ts sums lent m e g r k =
    subst (SumsMade columns bounds ss lent) e
    (subst (λ (zs : List Stand). SumsMade columns bounds zs lent m) g
    (subst (λ (xs : List (Result Fraction Refused)). SumsMade columns bounds ts xs m) (sym r) k))

pub head_made : (columns : List (List Fraction)) (head : List ℕ) (m : ℕ) → m ≡ rows_of columns → head ≡ map (λ i. length columns - m + i) (range_with_len 0 m) → head ≡ map (λ i. columns_of columns + i) (range_with_len 0 (rows_of columns))
head_made columns head m e k = subst (λ j. head ≡ map (λ i. length columns - j + i) (range_with_len 0 j)) e k

-- as many stands as bounds
pub stands_made_length : (bounds : List Bounds) (costs : List Fraction) (ss : List Stand) (n : ℕ) → StandsMade bounds costs ss n → length ss ≡ length bounds
stands_made_length bounds costs ss n k = ap length k ∙ tabled_length (length bounds) (stand_by_lists n bounds costs)

-- ---- what the script answers
pub script_fits : (columns : List (List Fraction)) (bounds : List Bounds) (costs : List Fraction) (s : Fresh) (sums : List (Result Fraction Refused)) (values : List Fraction) → sums_script sums ≡ start_script (form_by columns bounds costs) (get s.values) → sums_script sums ≡ Ok values →
    start_refused (form_by columns bounds costs) s ≡ None
script_fits columns bounds costs s sums values e h = ap refusal (sym e ∙ h)

fault_follows : (script : Result (List Fraction) Refused) (e : Fault Refused) → FollowsBy {A = List Fraction} {B = List Fraction} (λ v. v) script (Err e) → Follows {A = State} (refusal script) (Err e)
fault_follows script (faults.Named r) h = ap refusal h
fault_follows script faults.OutOfMemory h = tt

pub script_refused : (columns : List (List Fraction)) (bounds : List Bounds) (costs : List Fraction) (s : Fresh) (sums : List (Result Fraction Refused)) (r : Result State (Fault Refused)) (y e : Fault Refused) → sums_script sums ≡ start_script (form_by columns bounds costs) (get s.values) →
    r ≡ Err y → y ≡ e → FollowsBy {A = List Fraction} {B = List Fraction} (λ v. v) (sums_script sums) (Err e) → Follows (start_refused (form_by columns bounds costs) s) r
script_refused columns bounds costs s sums r y e k g h f =
    subst (Follows {A = State} (start_refused (form_by columns bounds costs) s)) (sym (g ∙ ap Err h))
    (subst (λ (q : Result (List Fraction) Refused). Follows {A = State} (refusal q) (Err e)) k (fault_follows (sums_script sums) e f))

-- ---- the values are those of the starting basis
row_value : (columns : List (List Fraction)) (bounds : List Bounds) (costs : List Fraction) (ss : List Stand) (sums : List (Result Fraction Refused)) (values : List Fraction) (s : Fresh) (i : ℕ) → ss ≡ (starting_basis (form_by columns bounds costs)).stands →
    IsFresh (form_by columns bounds costs) (starting_basis (form_by columns bounds costs)) s → AreSums (take (columns_of columns) columns) (rows_of columns) (length (take (columns_of columns) columns)) (standing_at bounds ss) sums →
    sums_script sums ≡ Ok values → i < rows_of columns → get values i ≡ value_at_place (starting_basis (form_by columns bounds costs)) s i
row_value columns bounds costs ss sums values s i e h a k l =
    let f : Form = form_by columns bounds costs in
    let n : length (take (columns_of columns) columns) ≡ columns_of columns = length-take-le (columns_of columns) columns (omega arith) in
    let m : length sums ≡ rows_of columns = a.by_row in
    add_dot_value f.columns (entry f i) (standing_at bounds ss) zero_f (get values i)
    (ap (λ j. add_dot j (entry f i) (standing_at bounds ss) zero_f) (sym n) ∙ sym (a.at i l) ∙ member_is (λ j sum. sum) 0 sums values i (Ok zero_f) zero_f k (omega arith))
    ∙ nil_add_f (dot f.columns (entry f i) (standing_at bounds ss))
    ∙ dot_same f.columns (entry f i) (standing_at bounds ss) (entry f i) (get s.values) (λ j q. refl) (λ j q. column_value columns bounds costs ss s j e h q)
    ∙ sym (point_rows f (get s.values) h.values.point i l)
    ∙ ap (get s.values) (sym (start_head f i l))

values_are : (columns : List (List Fraction)) (bounds : List Bounds) (costs : List Fraction) (ss : List Stand) (sums : List (Result Fraction Refused)) (values : List Fraction) (s : Fresh) → ss ≡ (starting_basis (form_by columns bounds costs)).stands →
    IsFresh (form_by columns bounds costs) (starting_basis (form_by columns bounds costs)) s → AreSums (take (columns_of columns) columns) (rows_of columns) (length (take (columns_of columns) columns)) (standing_at bounds ss) sums →
    sums_script sums ≡ Ok values → values ≡ values_by_place (form_by columns bounds costs) (starting_basis (form_by columns bounds costs)) s
values_are columns bounds costs ss sums values s e h a k =
    let f : Form = form_by columns bounds costs in
    let b : Basis = starting_basis f in
    let n : length values ≡ rows_of columns = length_members (λ j sum. sum) 0 sums values k ∙ a.by_row in
    ext_get_or zero_f values (values_by_place f b s) (n ∙ sym (tabled_length f.rows (value_at_place b s)))
    (λ i l. row_value columns bounds costs ss sums values s i e h a k (omega arith) ∙ sym (tabled_at f.rows (value_at_place b s) i zero_f (omega arith)))

reduced_are : (columns : List (List Fraction)) (bounds : List Bounds) (costs : List Fraction) (s : Fresh) → IsForm columns bounds costs → IsFresh (form_by columns bounds costs) (starting_basis (form_by columns bounds costs)) s → costs ≡ s.reduced
reduced_are columns bounds costs s h k =
    let f : Form = form_by columns bounds costs in
    let n : variables f ≡ length columns = variables_are columns bounds costs h in
    let m : length costs ≡ length columns = h.as_many_costs in
    ext_get_or zero_f costs s.reduced (m ∙ sym n ∙ sym k.reduced_by_variable)
    (λ v l. sym (start_costs_only f (λ i. get s.reduced (row_variable f i)) (get s.reduced) k.reduced v (omega arith) ∙ cost_of_is columns bounds costs v h (omega arith)))

pub solved_is : (columns : List (List Fraction)) (bounds : List Bounds) (costs : List Fraction) (st : State) (sums : List (Result Fraction Refused)) → IsForm columns bounds costs → basis_of st ≡ starting_basis (form_by columns bounds costs) → st.reduced ≡ costs →
    AreSums (take (columns_of columns) columns) (rows_of columns) (length (take (columns_of columns) columns)) (standing_at bounds st.stands) sums → sums_script sums ≡ Ok st.values → IsSolvedAfresh (form_by columns bounds costs) st
solved_is columns bounds costs st sums h e d a k =
    let f : Form = form_by columns bounds costs in
    let s = has_fresh f (starting_basis f) (start_is_basis f) (start_regular f) in
    record {
      fresh = s.0;
      solved = subst (λ b. IsFresh f b s.0) (sym e) s.1;
      values = values_are columns bounds costs st.stands sums st.values s.0 (ap (λ (b : Basis). b.stands) e) s.1 a k ∙ ap (λ b. values_by_place f b s.0) (sym e);
      reduced = d ∙ reduced_are columns bounds costs s.0 h s.1;
    }
