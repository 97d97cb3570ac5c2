-- The solves of entering columns, one by one, beside their tasks.
use Rattle.std.proofs.Common.{◌≡◌, ℕ, suc, ◌+◌, ◌<◌, ◌≤◌, List, [], ◌∷◌, ◌++◌, map, length, take, drop}
use Rattle.std.proofs.Common.{refl, sym, ap, ◌∙◌, subst, arith, Option, None, Some, Result, Ok, Err}
use Rattle.std.proofs.lemmas.List.{drop_all, take_all, map-append}
use Rattle.pami_algebra.specs.Fraction.{Fraction}
use Rattle.pami_linear.proofs.Lists.{same_list}
use Rattle.pami_frac.specs.Answers.{Follows, FollowsBy}
use Rattle.pami_frac.specs.declared.arithmetic.Refused.{Refused}
use Rattle.pami_frac.specs.declared.fault.Fault.{Fault}
use Rattle.pami_frac.specs.declared.fault.Fault.TheVariants as faults
use Rattle.pami_factoring.specs.Solve.{forward_script}
use Rattle.pami_theory.specs.Form as theory
use Rattle.pami_theory.specs.Form.{coefficient, zero_f}
use Rattle.pami_theory.proofs.Tables.{tabled_length, tabled_at}
use Rattle.pami_method.specs.Task.{refusal}
use Rattle.pami_method.specs.declared.words.Place.{Place}
use Rattle.pami_method.specs.declared.words.Spot.{Spot}
use Rattle.pami_method.specs.declared.words.Spot.TheVariants.{Column}
use Rattle.pami_method.specs.Factor.{refusal_by}
use Rattle.pami_method.specs.Work.{column_of as form_column, column_tasks, first_refused, refused_or}
use Rattle.pami_deferral.proofs.Histories.{column_solved}
use Rattle.pami_vec.specs.declared.step.Step.{Step}
use Rattle.pami_state.specs.Columns.{rows_of, column_of}
use Rattle.pami_state.proofs.Formed.{variables_are, coefficient_is}
use Rattle.pami_form.specs.declared.form.Form.{Form}
use Rattle.pami_form.specs.FormOf.{form_of}
use Rattle.pami_factor.specs.Value.{Product}
use Rattle.pami_batch.specs.Factors.{IsFactorOf}
use Rattle.pami_batch.specs.Told.{fault_at}
use Rattle.pami_batch.specs.FinishedBatch.{FinishedBatch, HasSteps, first_column, first_columns}
use Rattle.pami_batch.proofs.BatchSteps.{Known, as_many, take_on}

-- ---- a call's fault with its script
-- of lists as results, which an answer that refuses doesn't speak of
pub follows_placed : (script : Result (List Fraction) Refused) (fault : Fault Refused) (spot : Spot) (judged : Option Place) (told : Fault Place)
    → FollowsBy {B = List Fraction} (λ v. v) script (Err fault) → told ≡ fault_at spot fault
    → ((r : Refused) → script ≡ Err r → judged ≡ Some (record { task = spot; refused = r })) → Follows {A = List Fraction} judged (Err told)
follows_placed script (faults.Named r) spot judged told h e k = subst (λ x. Follows {A = List Fraction} judged (Err x)) (sym e) (k r h)
follows_placed script faults.OutOfMemory spot judged told h e k = subst (λ x. Follows {A = List Fraction} judged (Err x)) (sym e) tt

-- ---- the column that the program reads
pub column_is : (form : Form) (v : ℕ) → v < length form.columns → column_of form.columns v ≡ form_column (form_of form) v
column_is form v l =
    let h = form.kept.form in
    let f = form_of form in
    let n = h.tall v l in
    same_list (column_of form.columns v) (form_column f v) (n ∙ sym (tabled_length (rows_of form.columns) (coefficient f v)))
    (λ i k. sym (coefficient_is form.columns form.bounds form.costs v i h l (omega (arith, n, k)))
    ∙ sym (tabled_at (rows_of form.columns) (coefficient f v) i zero_f (omega (arith, n, k))))

pub enters_known : (form : Form) (b : FinishedBatch) (k : ℕ) (s : Step) → Known (form_of form) b k s → s.entering < length form.columns
enters_known form b k s w =
    let n = variables_are form.columns form.bounds form.costs form.kept.form in
    let e = w.step.entering in
    let l = w.leaves.within in
    omega (arith, n, e, l)

-- ---- the solves so far
pub record ColumnsTo (f : theory.Form) (b : FinishedBatch) (k : ℕ) (columns : List (List Fraction)) : Type 0 where
  pub columns_are : columns ≡ map (first_column b) (take k b.minors)
  pub passed : first_refused (column_tasks f b.history 1 b.minors) ≡ first_refused (column_tasks f b.history (k + 1) (drop k b.minors))

pub columns_begin : (f : theory.Form) (b : FinishedBatch) → ColumnsTo f b 0 []
columns_begin f b = record { columns_are = refl; passed = refl }

-- the task of the next one
column_next : (form : Form) (b : FinishedBatch) (factor : Product) (k : ℕ) (s : Step) (script : Result (List Fraction) Refused) → Known (form_of form) b k s
    → IsFactorOf (form_of form) b.history b.first.basis factor → script ≡ forward_script factor.steps factor.pivots (column_of form.columns s.entering)
    → first_refused (column_tasks (form_of form) b.history (k + 1) (drop k b.minors))
    ≡ refused_or (refusal script) (Column (k + 1)) (first_refused (column_tasks (form_of form) b.history (k + 1 + 1) (drop (k + 1) b.minors)))
column_next form b factor k s script w is e =
    let f = form_of form in
    let m = w.minor in
    let more : suc (k + 1) ≡ k + 1 + 1 = omega arith in
    let later = first_refused (column_tasks f b.history (suc (k + 1)) (drop (k + 1) b.minors)) in
    let right : column_of form.columns s.entering ≡ form_column f m.step.entering =
    column_is form s.entering (enters_known form b k s w) ∙ ap (form_column f) w.step.entering in
    let same : script ≡ forward_script factor.steps b.history.pivots (form_column f m.step.entering) =
    e ∙ ap (λ qs. forward_script factor.steps qs (column_of form.columns s.entering)) is.pivots ∙ ap (forward_script factor.steps b.history.pivots) right in
    ap (λ ms. first_refused (column_tasks f b.history (k + 1) ms)) w.rest
    ∙ ap (λ x. refused_or (refusal_by x (λ steps. forward_script steps b.history.pivots (form_column f m.step.entering))) (Column (k + 1)) later) is.steps
    ∙ ap (λ x. refused_or (refusal x) (Column (k + 1)) later) (sym same)
    ∙ ap (λ n. refused_or (refusal script) (Column (k + 1)) (first_refused (column_tasks f b.history n (drop (k + 1) b.minors)))) more

pub columns_go : (form : Form) (b : FinishedBatch) (ss : List Step) (factor : Product) (k : ℕ) (s : Step) (columns : List (List Fraction)) (x : List Fraction)
    → HasSteps (form_of form) ss b → Known (form_of form) b k s → IsFactorOf (form_of form) b.history b.first.basis factor
    → ColumnsTo (form_of form) b k columns → forward_script factor.steps factor.pivots (column_of form.columns s.entering) ≡ Ok x
    → ColumnsTo (form_of form) b (k + 1) (columns ++ x ∷ [])
columns_go form b ss factor k s columns x has w is h e =
    let f = form_of form in
    let m = w.minor in
    let right : column_of form.columns s.entering ≡ form_column f m.step.entering =
    column_is form s.entering (enters_known form b k s w) ∙ ap (form_column f) w.step.entering in
    let solved : forward_script factor.steps b.history.pivots (form_column f m.step.entering) ≡ Ok x =
    sym (ap (λ qs. forward_script factor.steps qs (column_of form.columns s.entering)) is.pivots ∙ ap (forward_script factor.steps b.history.pivots) right)
    ∙ e in
    let fresh : x ≡ first_column b m =
    column_solved f b.history b.first.basis b.first.fresh factor.steps m.step.entering x
    is.stands has.solved.fresh is.steps w.leaves.within solved in
    record {
      columns_are = ap (λ cs. cs ++ x ∷ []) h.columns_are
          ∙ ap (λ y. map (first_column b) (take k b.minors) ++ y ∷ []) fresh
          ∙ sym (map-append (first_column b) (take k b.minors) (m ∷ [])) ∙ ap (map (first_column b)) (sym (take_on b.minors k m w.rest));
      passed = h.passed ∙ column_next form b factor k s (Ok x) w is (sym e);
    }

pub columns_stop : (form : Form) (b : FinishedBatch) (factor : Product) (k : ℕ) (s : Step) (columns : List (List Fraction)) (r : Refused)
    → Known (form_of form) b k s → IsFactorOf (form_of form) b.history b.first.basis factor
    → ColumnsTo (form_of form) b k columns → forward_script factor.steps factor.pivots (column_of form.columns s.entering) ≡ Err r
    → first_refused (column_tasks (form_of form) b.history 1 b.minors) ≡ Some (record { task = Column (k + 1); refused = r })
columns_stop form b factor k s columns r w is h e = h.passed ∙ column_next form b factor k s (Err r) w is (sym e)

pub columns_end : (f : theory.Form) (b : FinishedBatch) (ss : List Step) (k : ℕ) (columns : List (List Fraction)) → HasSteps f ss b → ColumnsTo f b k columns
    → length ss ≤ k
    → (columns ≡ first_columns b) × (first_refused (column_tasks f b.history 1 b.minors) ≡ None)
columns_end f b ss k columns has h l =
    let n = as_many f b.minors ss has.steps_are in (
      h.columns_are ∙ ap (map (first_column b)) (take_all k b.minors (omega (arith, n, l))),
      h.passed ∙ ap (λ ms. first_refused (column_tasks f b.history (k + 1) ms)) (drop_all k b.minors (omega (arith, n, l))),
    )
