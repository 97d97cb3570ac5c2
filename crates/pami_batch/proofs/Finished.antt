-- A batch whose minor iterations are done, and what it comes to.
use Rattle.std.proofs.Common.{◌≡◌, ℕ, suc, ◌+◌, ◌≤◌, inl, inr, List, [], ◌∷◌, ◌++◌, map, length, None, Result, Ok, Err, refl, sym, ap, ◌∙◌, subst, arith}
use Rattle.std.specs.Result.{IfOk}
use Rattle.std.proofs.lemmas.List.{append_assoc}
use Rattle.pami_frac.specs.Answers.{Follows}
use Rattle.pami_frac.specs.declared.fault.Fault.{Fault}
use Rattle.pami_frac.specs.declared.fault.Fault.TheVariants as faults
use Rattle.pami_frac.specs.declared.fault.OutOfMemory.{OutOfMemory}
use Rattle.pami_theory.specs.Form as theory
use Rattle.pami_theory.specs.Fresh.{Fresh, IsFresh}
use Rattle.pami_theory.specs.Choice.{chosen}
use Rattle.pami_method.specs.declared.words.Place.{Place}
use Rattle.pami_method.specs.Task.{Task}
use Rattle.pami_method.specs.Factor.{History}
use Rattle.pami_method.specs.Batch as batch
use Rattle.pami_method.specs.Batch.{Reached, turn, places, IsBatch}
use Rattle.pami_method.specs.Work.{backward_task, all_minors, row_task, last_tasks, later_tasks, collect_tasks, first_refused}
use Rattle.pami_method.proofs.Counts.{batch_rows}
use Rattle.pami_log.specs.declared.event.Move.{Move}
use Rattle.pami_chuzr.specs.Choice.{chosen_row}
use Rattle.pami_chuzr.specs.declared.row.ChosenRow.{ChosenRow}
use Rattle.pami_factor.specs.Value.{Product}
use Rattle.pami_state.specs.State.{basis_of}
use Rattle.pami_state.specs.declared.state.State.{State}
use Rattle.pami_form.specs.FormOf.{form_of}
use Rattle.pami_form.specs.declared.form.Form.{Form}
use Rattle.pami_minor.specs.declared.minor.Minor.{Minor}
use Rattle.pami_minor.specs.Steps.{AreStepsOf}
use Rattle.pami_minor.specs.Follow.{IsStopped}
use Rattle.pami_minor.specs.Opening.{IsOpenable, first_reached}
use Rattle.pami_batch.specs.declared.collecting.CollectedBatch.{CollectedBatch}
use Rattle.pami_batch.specs.declared.outcome.Outcome.{Outcome}
use Rattle.pami_batch.specs.Batches.{IsStop, IsOutcome, HasOutcome}
use Rattle.pami_batch.specs.Factors.{IsFactorOf}
use Rattle.pami_batch.specs.FinishedBatch.{FinishedBatch, IsFinished}
use Rattle.pami_batch.specs.Minors.{inside_tasks, IsInside, IsRefusal, HasMinors}
use Rattle.pami_batch.proofs.BatchSteps.{as_many}
use Rattle.pami_batch.proofs.Refusals.{front_fits}
use Rattle.pami_batch.proofs.PlaceRows.{chosen_long}

-- ---- the batch of a state
abbrev pub batch_at : Form → State → History → Fresh → ℕ → ℕ → List batch.Minor → Reached → FinishedBatch
batch_at form st h s most left ms last =
    record { history = h; limit = st.pivots + left; first = first_reached form st s most; minors = ms; last = last }

pub finished : (form : Form) (st : State) (factor : Product) (h : History) (s : Fresh) (most left : ℕ) (rows : List ChosenRow) (ms : List batch.Minor)
    (last : Reached) (minor : Minor) → IsOpenable form st rows left → IsFresh (form_of form) (basis_of st) s → IsFactorOf (form_of form) h (basis_of st) factor
    → IsBatch (form_of form) (st.pivots + left) (first_reached form st s most) ms last → AreStepsOf (form_of form) ms minor.steps.items
    → IsStopped (form_of form) (st.pivots + left) last minor → IsFinished form st factor minor (batch_at form st h s most left ms last)
finished form st factor h s most left rows ms last minor o fresh is b steps stopped = record {
  begins = record { basis = refl; weights = refl; count = refl };
  factored = is;
  steps = record {
    solved = record { basis = o.basis; fresh = fresh; batch = b };
    steps_are = steps;
    most = omega arith;
    few = o.few;
  };
  stopped = stopped;
}

-- it has at most one step for each chosen row
pub steps_few : (form : Form) (st : State) (s : Fresh) (most left : ℕ) (rows : List ChosenRow) (ms : List batch.Minor) (last : Reached) (minor : Minor)
    → rows ≡ map chosen_row (chosen (form_of form) (basis_of st) s st.weights most)
    → IsBatch (form_of form) (st.pivots + left) (first_reached form st s most) ms last → AreStepsOf (form_of form) ms minor.steps.items
    → length minor.steps.items ≤ length rows
steps_few form st s most left rows ms last minor e b steps =
    let many = as_many (form_of form) ms minor.steps.items steps in
    let fewer = batch_rows (form_of form) (st.pivots + left) (first_reached form st s most) ms last b in
    let long = chosen_long (first_reached form st s most).rows rows e in
    omega (arith, many, fewer, long)

-- ---- its list of tasks
stop_tasks : (f : theory.Form) (limit : ℕ) (h : History) (first : Reached) (ms : List batch.Minor) (n : ℕ) (last : Reached) → IsStop (turn f limit last)
    → last_tasks f h first ms n last (turn f limit last) ≡ collect_tasks f h first ms
stop_tasks f limit h first ms n last (inl e) = ap (last_tasks f h first ms n last) e
stop_tasks f limit h first ms n last (inr e) = ap (last_tasks f h first ms n last) e.1

pub later_split : (f : theory.Form) (limit : ℕ) (h : History) (first : Reached) (ms : List batch.Minor) (last : Reached) → IsStop (turn f limit last)
    → first_refused (inside_tasks f limit h first ms last) ≡ None
    → first_refused (later_tasks f limit h first ms last) ≡ first_refused (collect_tasks f h first ms)
later_split f limit h first ms last s e =
    let n : ℕ = suc (length ms) in
    let rows : List Task = map (backward_task f h) (places first.rows) in
    let all : List Task = all_minors f limit 1 ms in
    let collect : List Task = collect_tasks f h first ms in
    ap (λ ts. first_refused (rows ++ (all ++ row_task f limit n last ∷ ts))) (stop_tasks f limit h first ms n last s)
    ∙ ap (λ ts. first_refused (rows ++ ts)) (sym (append_assoc all (row_task f limit n last ∷ []) collect))
    ∙ ap first_refused (sym (append_assoc rows (all ++ row_task f limit n last ∷ []) collect))
    ∙ front_fits (inside_tasks f limit h first ms last) collect e

-- ---- for each batch that is meant
pub outcome_of : (f : theory.Form) (limit : ℕ) (h : History) (first : Reached) (ms : List batch.Minor) (last : Reached) (answer : Result Outcome OutOfMemory)
    → IsBatch f limit first ms last → IfOk answer (IsOutcome f limit h first ms last) → IfOk answer (HasOutcome f limit h first)
outcome_of f limit h first ms last (Ok x) b k = (ms, last, b, k)
outcome_of f limit h first ms last (Err e) b k = tt

pub outcome_all : (form : Form) (st : State) (factor : Product) (rows : List ChosenRow) (left : ℕ) (answer : Result Outcome OutOfMemory)
    → ((s : Fresh) (most : ℕ) (h : History) → IsFresh (form_of form) (basis_of st) s → rows ≡ map chosen_row (chosen (form_of form) (basis_of st) s st.weights most)
    → IsFactorOf (form_of form) h (basis_of st) factor → IfOk answer (HasOutcome (form_of form) (st.pivots + left) h (first_reached form st s most)))
    → IfOk answer (λ outcome. (s : Fresh) (most : ℕ) (h : History) → IsFresh (form_of form) (basis_of st) s
    → rows ≡ map chosen_row (chosen (form_of form) (basis_of st) s st.weights most) → IsFactorOf (form_of form) h (basis_of st) factor
    → HasOutcome (form_of form) (st.pivots + left) h (first_reached form st s most) outcome)
outcome_all form st factor rows left (Ok x) k = k
outcome_all form st factor rows left (Err e) k = tt

-- ---- a refusal
pub minors_refused : (f : theory.Form) (limit : ℕ) (h : History) (first : Reached) (fault : Fault Place) (answer : Result Outcome OutOfMemory)
    → HasMinors f limit h first (Err fault) → IfOk answer (IsRefusal fault) → IfOk answer (HasOutcome f limit h first)
minors_refused f limit h first (faults.Named place) (Ok x) m k = subst (HasOutcome f limit h first) (sym k) m
minors_refused f limit h first faults.OutOfMemory (Ok x) m k = absurd k
minors_refused f limit h first fault (Err e) m k = tt

pub collect_refused : (f : theory.Form) (b : FinishedBatch) (moves : List Move) (fault : Fault Place) (answer : Result Outcome OutOfMemory) → IsInside f b moves
    → Follows {A = CollectedBatch} (first_refused (collect_tasks f b.history b.first b.minors)) (Err fault) → IfOk answer (IsRefusal fault)
    → IfOk answer (IsOutcome f b.limit b.history b.first b.minors b.last)
collect_refused f b moves (faults.Named place) (Ok x) i w k =
    subst (IsOutcome f b.limit b.history b.first b.minors b.last) (sym k) (later_split f b.limit b.history b.first b.minors b.last i.stop i.fits ∙ w)
collect_refused f b moves faults.OutOfMemory (Ok x) i w k = absurd k
collect_refused f b moves fault (Err e) i w k = tt
