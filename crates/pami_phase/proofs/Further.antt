-- Stages of a run in a row: what one tells stands before what the next one tells.
use Rattle.std.proofs.Common.{◌≡◌, ℕ, ◌<◌, List, [], ◌∷◌, ◌++◌, Result, Ok, Err, refl, sym, ap, ◌∙◌, subst, append_assoc, append-nil}
use Rattle.pami_frac.specs.declared.fault.Fault.{Fault}
use Rattle.pami_frac.specs.declared.fault.Fault.TheVariants as faults
use Rattle.pami_theory.specs.Form.{Form}
use Rattle.pami_method.specs.declared.words.Options.{Options}
use Rattle.pami_method.specs.Phases as phases
use Rattle.pami_log.specs.declared.event.Event.{Event}
use Rattle.pami_log.specs.declared.teller.TellFailed.{TellFailed}
use Rattle.pami_log.specs.Tellers.{GoesOn, Tells}
use Rattle.pami_phase.specs.declared.answer.Answer.{Answer}
use Rattle.pami_phase.specs.Runs.{IsAnswerOfRun, IsRunBehind, BeginsRun, EndsRun}

stands_on : (stood : List Event → Type 0) → GoesOn stood stood []
stands_on stood = λ xs h. subst stood (sym (append-nil xs)) h

goes_further : (stood between stands : List Event → Type 0) (before more : List Event) → GoesOn stood between before → GoesOn between stands more → GoesOn stood stands (before ++ more)
goes_further stood between stands before more h k = λ xs s. subst stands (append_assoc xs before more) (k (xs ++ before) (h xs s))

-- the front of a beginning is one
pub begins_front : (f : Form) (o : Options) (front rest : List Event) → BeginsRun f o (front ++ rest) → BeginsRun f o front
begins_front f o front rest b = record {
  answer = b.answer;
  later = rest ++ b.later;
  run = record { record_of = b.run.record_of; run = b.run.run; whole = b.run.whole ∙ append_assoc front rest b.later };
}

module _ (f : Form) (o : Options) where
  -- what was told in an earlier stage
  pub told_further : (before more : List Event) (stood between stands stopped : List Event → Type 0) (n k m : ℕ) (r : Result Answer (Fault TellFailed)) → GoesOn stood between more → k ≡ n
      → EndsRun f o (before ++ more) between stands stopped k m r → EndsRun f o before stood stands stopped n m r
  told_further before more stood between stands stopped n k m (Ok answer) g e (events, a, run, is, h, l) = (
    more ++ events,
    a,
    record { record_of = run.record_of; run = run.run; whole = run.whole ∙ append_assoc before more events },
    is,
    goes_further stood between stands more events g h,
    l ∙ e,
  )
  told_further before more stood between stands stopped n k m (Err (faults.Named failed)) g e (events, last, begins, h, l) = (
    more ++ events,
    last,
    subst (BeginsRun f o) (append_assoc before more (events ++ last ∷ []) ∙ ap (λ xs. before ++ xs) (sym (append_assoc more events (last ∷ [])))) begins,
    subst (GoesOn stood stopped) (sym (append_assoc more events (last ∷ []))) (goes_further stood between stopped more (events ++ last ∷ []) g h),
    subst (λ x. x < m) e l,
  )
  told_further before more stood between stands stopped n k m (Err faults.OutOfMemory) g e (events, begins, h, l) = (
    more ++ events,
    subst (BeginsRun f o) (append_assoc before more events) begins,
    goes_further stood between stands more events g h,
    l ∙ e,
  )

  -- an event that couldn't be told
  untold : (A : Type 0) (before : List Event) (event : Event) (stood stands stopped : List Event → Type 0) (n m : ℕ) (e : Fault TellFailed) → BeginsRun f o (before ++ event ∷ [])
      → Tells {A = A} stood stands stopped n m event (Err e) → EndsRun f o before stood stands stopped n m (Err e)
  untold A before event stood stands stopped n m (faults.Named failed) begins t = ([], event, begins, t.0, t.1)
  untold A before event stood stands stopped n m faults.OutOfMemory begins t =
      ([], subst (BeginsRun f o) (sym (append-nil before)) (begins_front f o before (event ∷ []) begins), t.0, t.1)

  pub untold_exit : (A : Type 0) (before : List Event) (event : Event) (stood stands stopped : List Event → Type 0) (n m : ℕ) (r : Result Answer (Fault TellFailed)) (y e : Fault TellFailed) → r ≡ Err y → y ≡ e → BeginsRun f o (before ++ event ∷ [])
      → Tells {A = A} stood stands stopped n m event (Err e) → EndsRun f o before stood stands stopped n m r
  untold_exit A before event stood stands stopped n m r y e p q begins t =
      subst (EndsRun f o before stood stands stopped n m) (sym (p ∙ ap Err q)) (untold A before event stood stands stopped n m e begins t)

  -- nothing was told
  pub short : (before : List Event) (stood stopped : List Event → Type 0) (n : ℕ) → BeginsRun f o before → EndsRun f o before stood stood stopped n n (Err faults.OutOfMemory)
  short before stood stopped n begins = ([], subst (BeginsRun f o) (sym (append-nil before)) begins, stands_on stood, refl)

  pub short_exit : (before : List Event) (stood stopped : List Event → Type 0) (n : ℕ) (r : Result Answer (Fault TellFailed)) (y : Fault TellFailed) → r ≡ Err y → y ≡ faults.OutOfMemory → BeginsRun f o before
      → EndsRun f o before stood stood stopped n n r
  short_exit before stood stopped n r y p q begins = subst (EndsRun f o before stood stood stopped n n) (sym (p ∙ ap Err q)) (short before stood stopped n begins)

  pub answered : (before : List Event) (stood stopped : List Event → Type 0) (n : ℕ) (answer : Answer) (a : phases.Answer) → (run : IsRunBehind f o before [] a) → IsAnswerOfRun f run.record_of answer a
      → EndsRun f o before stood stood stopped n n (Ok answer)
  answered before stood stopped n answer a run is = ([], a, run, is, stands_on stood, refl)
