-- The list of cost spans that a program works out at an optimal state is that of the definition, and so the ranges.
use Rattle.std.proofs.Common.{◌≡◌, ℕ, ◌+◌, ◌-◌, ◌<◌, Bool, true, false, List, [], take, length, get_or, Result, Ok, Err, refl, sym, ap, ◌∙◌, subst, arith, true≢false}
use Rattle.std.proofs.lemmas.List.{get_or_default, length-take-le}
use Rattle.pami_algebra.specs.Fraction.{Fraction}
use Rattle.pami_linear.specs.Lists.{get}
use Rattle.pami_linear.specs.Sums.{unit}
use Rattle.pami_linear.specs.Systems.{IsRow}
use Rattle.pami_linear.proofs.Systems.{combines_same}
use Rattle.pami_frac.specs.declared.list.Entry.{Entry}
use Rattle.pami_script.specs.Dense.{Rising}
use Rattle.pami_factoring.specs.declared.kept.Kept.{Kept}
use Rattle.pami_factoring.specs.declared.kept.LuFault.{LuFault}
use Rattle.pami_factoring.specs.declared.kept.LuFault.TheVariants.{Singular, Refused as Unfit}
use Rattle.pami_factoring.specs.Factor.{matrix_of, elimination_script}
use Rattle.pami_factoring.specs.Steps.{columns_of}
use Rattle.pami_factoring.specs.Solve.{backward_script}
use Rattle.std.proofs.lemmas.List.Elements.{All-nil}
use Rattle.pami_factoring.specs.History.{IsColumnPivot}
use Rattle.pami_factoring.proofs.Programs.{step_count}
use Rattle.pami_factoring.proofs.Matrices.{matrix_square, matrix_count, matrix_entry}
use Rattle.pami_factoring.proofs.Solves.{backward_script_length}
use Rattle.pami_factor.specs.Units.{unit_list}
use Rattle.pami_factor.proofs.Answered.{row_if_ok, unit_length}
use Rattle.pami_theory.specs.declared.words.Stand.{Stand}
use Rattle.pami_theory.specs.declared.words.Stand.TheVariants.{Basic, Lower, Upper, Zero}
use Rattle.pami_theory.specs.Form.{variables, limits, cost}
use Rattle.pami_theory.specs.Basis.{head_at, stand_at, basis_column}
use Rattle.pami_theory.specs.Fresh.{Fresh, IsFresh, row_at}
use Rattle.pami_theory.specs.Violation.{is_fixed}
use Rattle.pami_theory.specs.Ratio.{row_entry}
use Rattle.pami_theory.proofs.Forms.{cost_of_column}
use Rattle.pami_theory.proofs.Solved.{only_fresh}
use Rattle.pami_theory.proofs.Tables.{tabled_length, tabled_at}
use Rattle.pami_method.specs.Factor.{unfit, refusal_by}
use Rattle.pami_method.specs.Scripts.{is_nonbasic}
use Rattle.pami_method.specs.Task.{refusal}
use Rattle.pami_method.specs.Work.{unit_at}
use Rattle.pami_state.specs.Columns.{rows_of}
use Rattle.pami_state.specs.Columns as forms
use Rattle.pami_state.specs.State.{basis_of}
use Rattle.pami_state.specs.declared.state.State.{State}
use Rattle.pami_state.proofs.Formed.{variables_are, coefficient_is, cost_of_is}
use Rattle.pami_price.specs.Slices.{row_script}
use Rattle.pami_price.specs.Agreement.{AreListed, nonzero_entries, all_nonbasic}
use Rattle.pami_price.proofs.Priced.{row_value}
use Rattle.pami_price.proofs.Rows.{kept_rise}
use Rattle.pami_form.specs.declared.form.Form.{Form}
use Rattle.pami_form.specs.FormOf.{form_of}
use Rattle.pami_ranging.specs.Ranges.{KeepsDualFeasible, IsReadyForCosts}
use Rattle.pami_range.specs.declared.span.End.TheVariants.{Infinite}
use Rattle.pami_range.specs.declared.span.Span.{Span}
use Rattle.pami_range.specs.Exact.{IsSpanOf}
use Rattle.pami_range.specs.Optimal.{IsOptimal, AreCostRanges}
use Rattle.pami_range.specs.Scripts.{first_of, row_refused, prices_script, basic_cost_script, span_after, place_of, cost_span_by, cost_span, cost_spans}
use Rattle.pami_range.specs.Lists.{row_span, own_span, eliminated, cost_span_at, cost_spans_at}
use Rattle.pami_range.specs.Lists as lists
use Rattle.pami_range.proofs.Laid.{basis_columns_are, unit_is, row_is_fresh}
use Rattle.pami_range.proofs.Exact.{place_found, cost_span_is}
use Rattle.pami_range.proofs.RowSpans.{row_span_is}
use Rattle.pami_range.proofs.Whole.{KeptForm, tabled_same, elimination_is, not_singular}

-- ---- what an optimal state gives
pub listed_of : (form : Form) (st : State) → KeptForm form → IsOptimal form st → AreListed (form_of form) (basis_of st) form.columns st.stands
listed_of form st k o =
    let n : variables (form_of form) ≡ length form.columns = variables_are form.columns form.bounds form.costs k.form in
    let s : length st.stands ≡ variables (form_of form) = o.basis.variables_stand in
    record {
      count = sym n;
      column = λ v l i m. sym (coefficient_is form.columns form.bounds form.costs v i k.form (omega arith) m);
      stand = λ v l. get_or_default st.stands v Zero Basic (omega arith);
    }

pub rising_of : (form : Form) (st : State) → KeptForm form → IsOptimal form st → (rho : List Fraction) (es : List Entry) → length rho ≡ length st.head → row_script form.columns st.stands rho ≡ Ok es → Rising 0 (length form.bounds) es
rising_of form st k o rho es e h =
    let p : length st.head ≡ rows_of form.columns = o.basis.places in
    let n : variables (form_of form) ≡ length form.columns = variables_are form.columns form.bounds form.costs k.form in
    let m = k.form.as_many_bounds in
    let z : 0 + variables (form_of form) ≡ length form.bounds = omega arith in
    subst (λ (es : List Entry). Rising 0 (length form.bounds) es) (sym (row_value (form_of form) (basis_of st) form.columns st.stands rho es (listed_of form st k o) (e ∙ p) h))
    (subst (λ high. Rising 0 high (nonzero_entries (row_entry (form_of form) rho) (all_nonbasic (form_of form) (basis_of st)))) z
    (kept_rise (λ v. is_nonbasic (stand_at (basis_of st) v)) (row_entry (form_of form) rho) 0 (variables (form_of form))))

nonbasic_false : (s : Stand) → is_nonbasic s ≡ false → s ≡ Basic
nonbasic_false Basic e = refl
nonbasic_false Lower e = absurd (true≢false e)
nonbasic_false Upper e = absurd (true≢false e)
nonbasic_false Zero e = absurd (true≢false e)

pub place_is : (form : Form) (st : State) (j : ℕ) → IsOptimal form st → j < variables (form_of form) → is_nonbasic (stand_at (basis_of st) j) ≡ false → (place_of st.head j < length st.head) × (get_or st.head (place_of st.head j) 0 ≡ j)
place_is form st j o l e =
    let at = o.basis.placed j l (nonbasic_false (stand_at (basis_of st) j) e) in
    place_found st.head j at.0 (subst (λ n. at.0 < n) (sym o.basis.places) at.1, at.2)

pub placed_of : (form : Form) (st : State) → KeptForm form → IsOptimal form st → (j : ℕ) → j < length form.columns → is_nonbasic (lists.stand_at st.stands j) ≡ false → place_of st.head j < length st.head
placed_of form st k o j l e =
    let n : variables (form_of form) ≡ length form.columns = variables_are form.columns form.bounds form.costs k.form in
    let s : length st.stands ≡ variables (form_of form) = o.basis.variables_stand in
    (place_is form st j o (omega arith) (ap is_nonbasic (get_or_default st.stands j Zero Basic (omega arith)) ∙ e)).0

row_solved : (form : Form) (st : State) (s : Fresh) (p : ℕ) (ks : List Kept) (rho : List Fraction) → KeptForm form → IsOptimal form st → IsFresh (form_of form) (basis_of st) s → p < rows_of form.columns
    → elimination_script (matrix_of form.columns st.head) ≡ Ok ks → backward_script ks [] (unit_list (length ks) p) ≡ Ok rho → rho ≡ row_at s p
row_solved form st s p ks rho k o fresh l e h =
    let rows = matrix_of form.columns st.head in
    let m = rows_of form.columns in
    let n : length st.head ≡ m = o.basis.places in
    let count : length rows ≡ m = matrix_count form.columns st.head ∙ o.basis.places in
    let c : length ks ≡ length rows = step_count (matrix_of form.columns st.head) ks (matrix_square form.columns st.head) e in
    let solved : IsRow (length rows) (columns_of rows) p (get rho) =
    row_if_ok ks [] p (Ok rho) rows (All-nil (IsColumnPivot (length rows))) (omega arith) h (matrix_square form.columns st.head) e in
    row_is_fresh (form_of form) (basis_of st) s p rho fresh l (backward_script_length ks [] (unit_list (length ks) p) rho h ∙ unit_length (length ks) p ∙ c ∙ count)
    (combines_same m (columns_of rows) (basis_column (form_of form) (basis_of st)) (get rho) (get rho) (unit p) (unit p)
    (λ j i a b. matrix_entry form.columns st.head j i (omega arith) (omega arith) ∙ basis_columns_are form.columns form.bounds form.costs (basis_of st) j i k.form o.basis a b)
    (λ i a. refl) (λ j a. refl)
    (subst (λ j. IsRow j (columns_of rows) p (get rho)) count solved))

-- ---- one column
cost_is : (form : Form) (j : ℕ) → KeptForm form → j < forms.columns_of form.columns → cost (form_of form) j ≡ get form.costs j
cost_is form j k l = sym (cost_of_column (form_of form) j l) ∙ cost_of_is form.columns form.bounds form.costs j k.form (omega arith)

abbrev the_elimination : Form → State → Result (List Kept) LuFault
the_elimination form st = elimination_script (matrix_of form.columns st.head)

row_eliminated : (form : Form) (st : State) (s : Fresh) (p : ℕ) → KeptForm form → IsOptimal form st → IsFresh (form_of form) (basis_of st) s → p < rows_of form.columns
    → eliminated (λ ks. row_span ks form.columns form.bounds st.stands s.reduced (cost (form_of form) (head_at (basis_of st) p)) p) (the_elimination form st)
    ≡ span_after (row_refused (form_of form) (basis_of st) s p) (basic_cost_script (form_of form) (basis_of st) s p)
row_eliminated form st s p k o fresh l = go (the_elimination form st) refl
  where
    go : (e : Result (List Kept) LuFault) → the_elimination form st ≡ e
        → eliminated (λ ks. row_span ks form.columns form.bounds st.stands s.reduced (cost (form_of form) (head_at (basis_of st) p)) p) e
        ≡ span_after (row_refused (form_of form) (basis_of st) s p) (basic_cost_script (form_of form) (basis_of st) s p)
    go (Ok ks) h =
        let c : length ks ≡ rows_of form.columns = step_count (matrix_of form.columns st.head) ks (matrix_square form.columns st.head) h ∙ matrix_count form.columns st.head ∙ o.basis.places in
        row_span_is (form_of form) (basis_of st) s form.columns st.stands ks p (listed_of form st k o) (fresh.row_by_row p l) (elimination_is form st k o ∙ h)
        (ap (λ n. unit_list n p) c ∙ unit_is (form_of form) p l)
        (λ rho g. row_solved form st s p ks rho k o fresh l h g)
    go (Err (Unfit r)) h = sym (
        ap (λ (z : Result (List Kept) LuFault). span_after (first_of (unfit z) (first_of (refusal_by z (λ steps. backward_script steps [] (unit_at (form_of form) p))) (refusal (prices_script (form_of form) (basis_of st) (row_at s p))))) (basic_cost_script (form_of form) (basis_of st) s p))
        (elimination_is form st k o ∙ h))
    go (Err (Singular q)) h = absurd (not_singular form st q k o h)

cost_at_is : (form : Form) (st : State) (s : Fresh) (j : ℕ) (t : Bool) → KeptForm form → IsOptimal form st → IsFresh (form_of form) (basis_of st) s → st.reduced ≡ s.reduced → j < forms.columns_of form.columns → is_nonbasic (stand_at (basis_of st) j) ≡ t
    → cost_span_at (the_elimination form st) form.columns form.bounds form.costs st.head st.stands st.reduced j t ≡ cost_span_by (form_of form) (basis_of st) s j t
cost_at_is form st s j true k o fresh r l e =
    let n : variables (form_of form) ≡ length form.columns = variables_are form.columns form.bounds form.costs k.form in
    let m : length st.stands ≡ variables (form_of form) = o.basis.variables_stand in
    ap (λ z. own_span (is_fixed (limits (form_of form) j)) z (get form.costs j) (get st.reduced j)) (sym (get_or_default st.stands j Zero Basic (omega arith)))
    ∙ ap (λ z. own_span (is_fixed (limits (form_of form) j)) (stand_at (basis_of st) j) z (get st.reduced j)) (sym (cost_is form j k l))
    ∙ ap (λ (z : List Fraction). own_span (is_fixed (limits (form_of form) j)) (stand_at (basis_of st) j) (cost (form_of form) j) (get z j)) r
cost_at_is form st s j false k o fresh r l e =
    let n : variables (form_of form) ≡ length form.columns = variables_are form.columns form.bounds form.costs k.form in
    let at = place_is form st j o (omega arith) e in
    let low : place_of st.head j < rows_of form.columns = subst (λ n. place_of st.head j < n) o.basis.places at.0 in
    let own : get form.costs j ≡ cost (form_of form) (head_at (basis_of st) (place_of st.head j)) = sym (ap (cost (form_of form)) at.1 ∙ cost_is form j k l) in
    ap (λ (z : List Fraction). eliminated (λ ks. row_span ks form.columns form.bounds st.stands z (get form.costs j) (place_of st.head j)) (the_elimination form st)) r
    ∙ ap (λ (z : Fraction). eliminated (λ ks. row_span ks form.columns form.bounds st.stands s.reduced z (place_of st.head j)) (the_elimination form st)) own
    ∙ row_eliminated form st s (place_of st.head j) k o fresh low

-- ---- all columns
pub cost_spans_are : (form : Form) (st : State) (s : Fresh) → KeptForm form → IsOptimal form st → IsFresh (form_of form) (basis_of st) s
    → cost_spans_at (elimination_script (matrix_of form.columns st.head)) form.columns form.bounds form.costs st.head st.stands st.reduced (length form.columns - length st.head) ≡ cost_spans (form_of form) (basis_of st) s
cost_spans_are form st s k o fresh =
    let n : variables (form_of form) ≡ length form.columns = variables_are form.columns form.bounds form.costs k.form in
    let m : length st.stands ≡ variables (form_of form) = o.basis.variables_stand in
    let r : st.reduced ≡ s.reduced = o.solved.reduced ∙ ap (λ (z : Fresh). z.reduced) (only_fresh (form_of form) (basis_of st) o.solved.fresh s o.basis o.solved.solved fresh) in
    ap (λ c. cost_spans_at (the_elimination form st) form.columns form.bounds form.costs st.head st.stands st.reduced (length form.columns - c)) o.basis.places
    ∙ tabled_same (λ j. cost_span_at (the_elimination form st) form.columns form.bounds form.costs st.head st.stands st.reduced j (is_nonbasic (lists.stand_at st.stands j))) (cost_span (form_of form) (basis_of st) s) 0 (forms.columns_of form.columns)
    (λ j a l.
    let low : j < forms.columns_of form.columns = omega arith in
    ap (λ z. cost_span_at (the_elimination form st) form.columns form.bounds form.costs st.head st.stands st.reduced j (is_nonbasic z)) (sym (get_or_default st.stands j Zero Basic (omega arith)))
    ∙ cost_at_is form st s j (is_nonbasic (stand_at (basis_of st) j)) k o fresh r low refl)

pub costs_ranged : (form : Form) (st : State) (spans : List Span) → KeptForm form → (o : IsOptimal form st) → spans ≡ cost_spans (form_of form) (basis_of st) o.solved.fresh
    → AreCostRanges (form_of form) (basis_of st) spans
costs_ranged form st spans k o e =
    let many = k.form.as_many_costs in
    let c : length (take (forms.columns_of form.columns) form.costs) ≡ forms.columns_of form.columns = length-take-le (forms.columns_of form.columns) form.costs (omega arith) in
    let ready : IsReadyForCosts (form_of form) (basis_of st) o.solved.fresh = record { basis = o.basis; fresh = o.solved.solved; feasible = o.dual; costs_by_column = c } in
    record {
      by_column = ap length e ∙ tabled_length ((form_of form).columns) (cost_span (form_of form) (basis_of st) o.solved.fresh);
      range = λ j l. subst (IsSpanOf (KeepsDualFeasible (form_of form) (basis_of st) j) (cost (form_of form) j))
          (sym (ap (λ (xs : List Span). get_or xs j (record { low = Infinite; high = Infinite })) e ∙ tabled_at ((form_of form).columns) (cost_span (form_of form) (basis_of st) o.solved.fresh) j _ l))
          (cost_span_is (form_of form) (basis_of st) o.solved.fresh j ready l);
    }
