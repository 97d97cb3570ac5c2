-- The lists of spans that a program works out at an optimal state are those of the definition, and so the ranges.
use Rattle.std.proofs.Common.{◌≡◌, ◌↔◌, inl, inr, ⊎_elim, ℕ, zero, suc, ◌+◌, ◌<◌, ◌≤◌, List, [], ◌∷◌, map, length, get_or, Option, None, Some, Result, Ok, Err, refl, sym, ap, ◌∙◌, subst, arith}
use Rattle.std.specs.List.{range_with_len}
use Rattle.std.proofs.lemmas.List.{get_or_default}
use Rattle.pami_algebra.specs.Fraction.{Fraction}
use Rattle.pami_linear.specs.Lists.{get}
use Rattle.pami_factoring.specs.declared.kept.Kept.{Kept}
use Rattle.pami_factoring.specs.declared.kept.LuFault.{LuFault}
use Rattle.pami_factoring.specs.declared.kept.LuFault.TheVariants.{Singular, Refused as Unfit}
use Rattle.pami_factoring.specs.Factor.{matrix_of, elimination_script}
use Rattle.pami_factoring.specs.Solve.{forward_script}
use Rattle.pami_factoring.proofs.Matrices.{head_singular}
use Rattle.pami_theory.specs.declared.words.Stand.{Stand}
use Rattle.pami_theory.specs.declared.words.Stand.TheVariants.{Basic, Lower, Upper, Zero}
use Rattle.pami_theory.specs.Form as theory
use Rattle.pami_theory.specs.Form.{variables, limits}
use Rattle.pami_theory.specs.Basis.{Basis, head_at, stand_at}
use Rattle.pami_theory.specs.Fresh.{Fresh, IsFresh, IsOutside, value_at_place, standing_value}
use Rattle.pami_theory.proofs.Tables.{tabled_length, tabled_at}
use Rattle.pami_theory.proofs.Certificates.{within_by_not_outside}
use Rattle.pami_theory.proofs.Solved.{only_fresh}
use Rattle.pami_method.specs.Factor.{elimination, unfit, refusal_by}
use Rattle.pami_method.specs.Work.{column_of as form_column}
use Rattle.pami_state.specs.Columns.{column_of}
use Rattle.pami_state.specs.State.{basis_of}
use Rattle.pami_state.specs.declared.state.State.{State}
use Rattle.pami_state.proofs.Formed.{variables_are}
use Rattle.pami_form.specs.declared.form.Form.{Form}
use Rattle.pami_form.specs.Form.{KeepsForm}
use Rattle.pami_form.specs.FormOf.{form_of}
use Rattle.pami_ranging.specs.Ranges.{KeepsPrimalFeasible, IsAtBound, IsReadyForBounds}
use Rattle.pami_range.specs.declared.span.Span.{Span}
use Rattle.pami_range.specs.Scripts.{first_of, column_refused, bound_script, span_after, bound_span_by, bound_span, bound_spans}
use Rattle.pami_range.specs.Lists.{column_span, eliminated, bound_span_at, bound_spans_at}
use Rattle.pami_range.specs.Lists as lists
use Rattle.pami_range.specs.ListsOf.{AreListsOf}
use Rattle.pami_range.specs.Exact.{IsSpanIfAny}
use Rattle.pami_range.specs.Optimal.{IsOptimal, AreBoundRanges}
use Rattle.pami_range.proofs.Laid.{matrix_is, regular_columns, column_is}
use Rattle.pami_range.proofs.Bridge.{column_span_is}
use Rattle.pami_range.proofs.Exact.{bound_span_is}

abbrev pub KeptForm : Form → Type 0
KeptForm form = KeepsForm form.rows form.columns form.bounds form.costs form.widths

-- two tables of the same values
pub tabled_same : {A : Type 0} (f g : ℕ → A) (k n : ℕ) → ((i : ℕ) → k ≤ i → i < k + n → f i ≡ g i) → map f (range_with_len k n) ≡ map g (range_with_len k n)
tabled_same f g k zero h = refl
tabled_same f g k (suc n) h =
    ap (λ x. x ∷ map f (range_with_len (k + 1) n)) (h k (omega arith) (omega arith))
    ∙ ap (λ xs. g k ∷ xs) (tabled_same f g (k + 1) n (λ i l m. h i (omega arith) (omega arith)))

-- ---- what an optimal state gives
pub ready_for_bounds : (form : Form) (st : State) (s : Fresh) → KeptForm form → IsOptimal form st → IsFresh (form_of form) (basis_of st) s → IsReadyForBounds (form_of form) (basis_of st) s
ready_for_bounds form st s k o fresh =
    let f = form_of form in
    let b = basis_of st in
    let same : o.solved.fresh ≡ s = only_fresh f b o.solved.fresh s o.basis o.solved.solved fresh in
    record {
      basis = o.basis;
      fresh = fresh;
      within = λ p l. within_by_not_outside (limits f (head_at b p)) (value_at_place b s p)
          (λ h. o.primal (p, l, subst (λ (z : Fresh). IsOutside (limits (form_of form) (head_at (basis_of st) p)) (value_at_place (basis_of st) z p)) (sym same) h));
      bounds_by_variable = k.form.as_many_bounds ∙ sym (variables_are form.columns form.bounds form.costs k.form);
    }

pub lists_of : (form : Form) (st : State) (s : Fresh) → IsOptimal form st → IsFresh (form_of form) (basis_of st) s → AreListsOf (form_of form) (basis_of st) s form.bounds st.head st.values
lists_of form st s o fresh =
    let f = form_of form in
    let b = basis_of st in
    let same : o.solved.fresh ≡ s = only_fresh f b o.solved.fresh s o.basis o.solved.solved fresh in
    record {
      same_head = refl;
      bound = λ v l. refl;
      value = λ p l.
          ap (λ (xs : List Fraction). get xs p) o.solved.values
          ∙ tabled_at f.rows (value_at_place b o.solved.fresh) p theory.zero_f l
          ∙ ap (λ (z : Fresh). value_at_place b z p) same;
    }

-- ---- one variable
abbrev the_elimination : Form → State → Result (List Kept) LuFault
the_elimination form st = elimination_script (matrix_of form.columns st.head)

pub elimination_is : (form : Form) (st : State) → KeptForm form → IsOptimal form st → elimination (form_of form) st.head ≡ elimination_script (matrix_of form.columns st.head)
elimination_is form st k o = ap elimination_script (matrix_is form.columns form.bounds form.costs (basis_of st) k.form o.basis)

pub not_singular : (form : Form) (st : State) (p : ℕ) → KeptForm form → IsOptimal form st → ¬ (elimination_script (matrix_of form.columns st.head) ≡ Err (Singular p))
not_singular form st p k o e =
    head_singular form.columns st.head p e (regular_columns form.columns form.bounds form.costs (basis_of st) o.solved.fresh k.form o.basis o.solved.solved)

column_eliminated : (form : Form) (st : State) (s : Fresh) (v : ℕ) → KeptForm form → IsOptimal form st → IsFresh (form_of form) (basis_of st) s → v < variables (form_of form)
    → eliminated (λ ks. column_span ks form.bounds st.head st.values (standing_value (limits (form_of form) v) (stand_at (basis_of st) v)) (column_of form.columns v)) (the_elimination form st)
    ≡ span_after (column_refused (form_of form) (basis_of st) v) (bound_script (form_of form) (basis_of st) s v)
column_eliminated form st s v k o fresh l = go (the_elimination form st) refl
  where
    go : (e : Result (List Kept) LuFault) → the_elimination form st ≡ e
        → eliminated (λ ks. column_span ks form.bounds st.head st.values (standing_value (limits (form_of form) v) (stand_at (basis_of st) v)) (column_of form.columns v)) e
        ≡ span_after (column_refused (form_of form) (basis_of st) v) (bound_script (form_of form) (basis_of st) s v)
    go (Ok ks) h =
        let m : v < length form.columns = subst (λ n. v < n) (variables_are form.columns form.bounds form.costs k.form) l in
        ap (column_span ks form.bounds st.head st.values (standing_value (limits (form_of form) v) (stand_at (basis_of st) v))) (column_is form.columns form.bounds form.costs v k.form m)
        ∙ column_span_is (form_of form) (basis_of st) s v ks form.bounds st.head st.values o.basis fresh l (lists_of form st s o fresh) (elimination_is form st k o ∙ h)
    go (Err (Unfit r)) h = sym (
        ap (λ (z : Result (List Kept) LuFault). span_after (first_of (unfit z) (refusal_by z (λ steps. forward_script steps [] (form_column (form_of form) v)))) (bound_script (form_of form) (basis_of st) s v))
        (elimination_is form st k o ∙ h))
    go (Err (Singular p)) h = absurd (not_singular form st p k o h)

bound_at_is : (form : Form) (st : State) (s : Fresh) (v : ℕ) (t : Stand) → KeptForm form → IsOptimal form st → IsFresh (form_of form) (basis_of st) s → v < variables (form_of form) → stand_at (basis_of st) v ≡ t
    → bound_span_at (the_elimination form st) form.columns form.bounds st.head st.values v t ≡ bound_span_by (form_of form) (basis_of st) s v t
bound_at_is form st s v Basic k o fresh l h = refl
bound_at_is form st s v Lower k o fresh l h =
    ap (λ own. Some (eliminated (λ ks. column_span ks form.bounds st.head st.values own (column_of form.columns v)) (the_elimination form st))) (sym (ap (standing_value (limits (form_of form) v)) h))
    ∙ ap Some (column_eliminated form st s v k o fresh l)
bound_at_is form st s v Upper k o fresh l h =
    ap (λ own. Some (eliminated (λ ks. column_span ks form.bounds st.head st.values own (column_of form.columns v)) (the_elimination form st))) (sym (ap (standing_value (limits (form_of form) v)) h))
    ∙ ap Some (column_eliminated form st s v k o fresh l)
bound_at_is form st s v Zero k o fresh l h = refl

-- ---- all variables
pub bound_spans_are : (form : Form) (st : State) (s : Fresh) → KeptForm form → IsOptimal form st → IsFresh (form_of form) (basis_of st) s
    → bound_spans_at (elimination_script (matrix_of form.columns st.head)) form.columns form.bounds st.head st.stands st.values ≡ bound_spans (form_of form) (basis_of st) s
bound_spans_are form st s k o fresh =
    let f = form_of form in
    let b = basis_of st in
    let e = the_elimination form st in
    let n : variables (form_of form) ≡ length form.columns = variables_are form.columns form.bounds form.costs k.form in
    let m : length st.stands ≡ variables (form_of form) = o.basis.variables_stand in
    tabled_same (λ v. bound_span_at (the_elimination form st) form.columns form.bounds st.head st.values v (lists.stand_at st.stands v)) (bound_span (form_of form) (basis_of st) s) 0 (length form.columns)
    (λ v a l.
    let low : v < variables (form_of form) = omega arith in
    ap (bound_span_at (the_elimination form st) form.columns form.bounds st.head st.values v) (sym (get_or_default st.stands v Zero Basic (omega arith)))
    ∙ bound_at_is form st s v (stand_at (basis_of st) v) k o fresh low refl)
    ∙ ap (λ c. map (bound_span (form_of form) (basis_of st) s) (range_with_len 0 c)) (sym n)

span_none : (form : theory.Form) (b : Basis) (s : Fresh) (v : ℕ) → (bound_span form b s v ≡ None) ↔ (¬ IsAtBound (stand_at b v))
span_none f b s v = go (stand_at b v)
  where
    go : (t : Stand) → (bound_span_by f b s v t ≡ None) ↔ (¬ IsAtBound t)
    go Basic = (λ h i. ⊎_elim (λ (e : Basic ≡ Lower). cc) (λ (e : Basic ≡ Upper). cc) i, λ n. refl)
    go Lower = (λ h i. cc, λ n. absurd (n (inl refl)))
    go Upper = (λ h i. cc, λ n. absurd (n (inr refl)))
    go Zero = (λ h i. ⊎_elim (λ (e : Zero ≡ Lower). cc) (λ (e : Zero ≡ Upper). cc) i, λ n. refl)

pub bounds_ranged : (form : Form) (st : State) (spans : List (Option Span)) → KeptForm form → (o : IsOptimal form st) → spans ≡ bound_spans (form_of form) (basis_of st) o.solved.fresh
    → AreBoundRanges (form_of form) (basis_of st) spans
bounds_ranged form st spans k o e =
    let s = o.solved.fresh in
    let ready = ready_for_bounds form st o.solved.fresh k o o.solved.solved in
    let at : (v : ℕ) → v < variables (form_of form) → get_or spans v None ≡ bound_span (form_of form) (basis_of st) o.solved.fresh v
    = λ v l. ap (λ (xs : List (Option Span)). get_or xs v None) e ∙ tabled_at (variables (form_of form)) (bound_span (form_of form) (basis_of st) o.solved.fresh) v None l in
    let none : (v : ℕ) → (bound_span (form_of form) (basis_of st) o.solved.fresh v ≡ None) ↔ (¬ IsAtBound (stand_at (basis_of st) v))
    = span_none (form_of form) (basis_of st) o.solved.fresh in
    record {
      by_variable = ap length e ∙ tabled_length (variables (form_of form)) (bound_span (form_of form) (basis_of st) o.solved.fresh);
      none = λ v l. (λ h. (none v).0 (sym (at v l) ∙ h), λ h. at v l ∙ (none v).1 h);
      range = λ v l. subst (IsSpanIfAny (KeepsPrimalFeasible (form_of form) (basis_of st) v) (standing_value (limits (form_of form) v) (stand_at (basis_of st) v))) (sym (at v l))
          (bound_span_is (form_of form) (basis_of st) o.solved.fresh v ready l);
    }
