-- The values of an answer are its certificate.
use Rattle.std.proofs.Common.{◌≡◌, ◌<◌, ℕ, List, length, Result, Ok, Err, sym, subst}
use Rattle.std.specs.Result.{IfOk}
use Rattle.pami_linear.specs.Lists.{get}
use Rattle.pami_frac.specs.declared.fault.Fault.{Fault}
use Rattle.pami_theory.specs.Form as theory
use Rattle.pami_theory.specs.Form.{variables, limits, IsUncrossed}
use Rattle.pami_theory.specs.Fresh.{Fresh}
use Rattle.pami_theory.specs.Certificate.{HoldsOptimal, HoldsInfeasible, HoldsDualInfeasible}
use Rattle.pami_method.specs.declared.words.Options.{Options}
use Rattle.pami_method.specs.Phases as phases
use Rattle.pami_method.proofs.Answers.{AnswerHolds, run_holds}
use Rattle.pami_form.specs.declared.form.Form.{Form}
use Rattle.pami_form.specs.Form.{KeepsForm}
use Rattle.pami_state.proofs.Formed.{variables_are, has_bounds}
use Rattle.pami_log.specs.declared.event.Event.{Event}
use Rattle.pami_log.specs.declared.teller.TellFailed.{TellFailed}
use Rattle.pami_form.specs.FormOf.{form_of}
use Rattle.pami_phase.specs.declared.answer.Answer.{Answer}
use Rattle.pami_phase.specs.declared.answer.Answer.TheVariants as answers
use Rattle.pami_phase.specs.Runs.{IsAnswerOf, HasCertificate, EndsRun}

certificate_of : (f : theory.Form) (answer : Answer) (a : phases.Answer) → ((v : ℕ) → v < variables f → IsUncrossed (limits f v)) → length f.bounds ≡ variables f → IsAnswerOf f answer a → AnswerHolds f a → HasCertificate f answer
certificate_of f (answers.Optimal state factor) (phases.Optimal st s) u l is h =
    (is.0.solved, subst (λ (x : Fresh). HoldsOptimal f (get x.values) (get x.reduced)) (sym is.0.fresh) (h u))
certificate_of f (answers.Infeasible ray) (phases.Infeasible y) u l is h = subst (λ x. HoldsInfeasible f (get x)) (sym is.0) h
certificate_of f (answers.DualInfeasible state boxes) (phases.DualInfeasible st s) u l is h = (is.0.solved, subst (λ (x : Fresh). HoldsDualInfeasible f (get x.values)) (sym is.0.fresh) (h l))
certificate_of f (answers.Limit state) (phases.Limit st) u l is h = tt
certificate_of f (answers.Overflow place) (phases.Overflow refused) u l is h = tt
certificate_of f answer a u l is h = absurd is

pub certified : (form : Form) (o : Options) (before : List Event) (stood stands stopped : List Event → Type 0) (n m : ℕ) (r : Result Answer (Fault TellFailed)) → KeepsForm form.rows form.columns form.bounds form.costs form.widths
    → EndsRun (form_of form) o before stood stands stopped n m r → IfOk r (λ answer. HasCertificate (form_of form) answer)
certified form o before stood stands stopped n m (Ok answer) kept (events, a, run, is, g, l) =
    let f = form_of form in
    let k = kept.form in
    certificate_of f answer a (λ v l. k.uncrossed v (subst (λ x. v < x) (variables_are form.columns form.bounds form.costs k) l)) (has_bounds form.columns form.bounds form.costs k).by_variable is.is
    (run_holds f o run.record_of a run.run)
certified form o before stood stands stopped n m (Err e) kept h = tt
