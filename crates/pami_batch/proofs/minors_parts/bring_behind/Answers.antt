use Rattle.std.proofs.Common.{◌++◌, length, Err, sym, ap, ◌∙◌, subst}
use Rattle.std.proofs.lemmas.Result.{err_from_is_err_and}
use Rattle.pami_theory.specs.Form.{variables}
use Rattle.pami_method.specs.Work.{reach_tasks, shift_tasks}
use Rattle.pami_form.specs.FormOf.{form_of}
use Rattle.pami_price.specs.Slices.{slices}
use Rattle.pami_minor.specs.Fresh.{IsFreshMinor, IsStepping}
use Rattle.pami_minor.proofs.FreshAgain.{fresh_again}
use Rattle.pami_batch.specs.Told.{Tells}
use Rattle.pami_batch.proofs.Told.{told_stops, told_goes, told_same}
use Rattle.pami_batch.proofs.minors_parts.bring_behind.Goals as goal

pub returns-in_err-reach_rows-clause-behind : goal.returns-in_err-reach_rows-clause-behind
returns-in_err-reach_rows-clause-behind c = λ limit m next h.
    let f = form_of c.args.form.now in
    let p = err_from_is_err_and c.from_residual.result c.from_residual.ensures.1 in
    subst (Tells {A = Unit {0}} (λ x. IsFreshMinor f limit next c.reach_rows.new.minor) (reach_tasks f c.args.number m ++ shift_tasks f c.args.number m))
    (sym (p.1 ∙ ap Err p.2))
    (told_stops {A = Unit {0}} {B = Unit {0}} (λ x. IsStepping f limit m next (length next.rows) 0 c.reach_rows.new.minor)
    (λ x. IsFreshMinor f limit next c.reach_rows.new.minor)
    (reach_tasks f c.args.number m) (shift_tasks f c.args.number m) c.in_err-reach_rows.field-0.0 (c.in_err-reach_rows.ensures.rows limit m next h))

pub shift_slices-requires : goal.shift_slices-requires
shift_slices-requires c =
    let t = c.requires.turn in
    record { turn = (t.0, t.1, t.2, length t.2.rows, (c.in_ok-reach_rows.ensures.rows t.0 t.1 t.2 t.3).1) }

pub returns : goal.returns
returns c = record {
  behind = λ limit m next h.
      let f = form_of c.args.form.now in
      let a = c.in_ok-reach_rows.ensures.rows limit m next h in
      told_goes (λ x. IsFreshMinor f limit next c.shift_slices.new.minor) (reach_tasks f c.args.number m) (shift_tasks f c.args.number m) c.shift_slices.result a.0
      (told_same (λ x. IsStepping f limit m next (length next.rows) (slices (variables f)) c.shift_slices.new.minor)
      (λ x. IsFreshMinor f limit next c.shift_slices.new.minor) (shift_tasks f c.args.number m) c.shift_slices.result
      (λ x k. fresh_again f limit m next c.shift_slices.new.minor k) (c.shift_slices.ensures.costs limit m next (length next.rows) a.1));
  steps = c.shift_slices.ensures.steps ∙ c.in_ok-reach_rows.ensures.steps;
}
