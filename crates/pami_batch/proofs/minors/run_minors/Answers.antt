use Rattle.std.proofs.Common.{◌+◌, length, Result, Err, sym, ap, ◌∙◌, subst}
use Rattle.std.proofs.lemmas.Result.{err_from_is_err_and}
use Rattle.pami_frac.specs.declared.fault.Fault.{Fault}
use Rattle.pami_method.specs.declared.words.Place.{Place}
use Rattle.pami_form.specs.FormOf.{form_of}
use Rattle.pami_minor.specs.Opening.{first_reached, IsOpening}
use Rattle.pami_minor.proofs.Opens.{fresh_opened}
use Rattle.pami_batch.specs.declared.minors.Minors.{Minors}
use Rattle.pami_batch.specs.Minors.{HasMinors}
use Rattle.pami_batch.proofs.Slices.{rows_few}
use Rattle.pami_batch.proofs.Running.{opening_refused}
use Rattle.pami_batch.proofs.minors.run_minors.Goals as goal

pub solve_rows-requires : goal.solve_rows-requires
solve_rows-requires g c =
    let form = c.args.form.now in
    let st = c.args.state.now in
    let o = c.requires.openable in
    let h = c.requires.factor in
    record {
      turn = (
        form_of form,
        st.pivots + c.args.steps_left,
        first_reached form st o.solved.fresh o.most,
        h.0,
        c.in_ok-minor.ensures.opening o.solved.fresh o.most o.solved.solved o.chosen_are,
        h.1,
        o.chosen_are,
        rows_few form form.kept,
      );
    }

pub returns-in_err-solve_rows-clause-minors : goal.returns-in_err-solve_rows-clause-minors
returns-in_err-solve_rows-clause-minors g c = λ s most h fresh e is.
    let form = c.args.form.now in
    let f = form_of form in
    let limit = c.args.state.now.pivots + c.args.steps_left in
    let first = first_reached form c.args.state.now s most in
    let opening = c.in_ok-minor.ensures.opening s most fresh e in
    let p = err_from_is_err_and c.from_residual-in_err-solve_rows.result c.from_residual-in_err-solve_rows.ensures.1 in
    subst (λ (x : Result Minors (Fault Place)). HasMinors f limit h first x) (sym (p.1 ∙ ap Err p.2))
    (opening_refused {A = Unit {0}} (λ x. IsOpening f limit first (length first.rows) c.solve_rows.new.minor) f limit h first c.in_err-solve_rows.field-0.0
    opening.reached (c.in_err-solve_rows.ensures.rows f limit first h opening is e))

pub take_turns-requires : goal.take_turns-requires
take_turns-requires g c =
    let form = c.args.form.now in
    let st = c.args.state.now in
    let o = c.requires.openable in
    let h = c.requires.factor in
    let limit = st.pivots + c.args.steps_left in
    let first = first_reached form st o.solved.fresh o.most in
    let a = c.in_ok-solve_rows.ensures.rows (form_of form) limit first h.0
    (c.in_ok-minor.ensures.opening o.solved.fresh o.most o.solved.solved o.chosen_are) h.1 o.chosen_are in
    record {
      turn = (limit, h.0, first, fresh_opened (form_of form) limit first c.solve_rows.new.minor a.1, a.0);
      steps = c.in_ok-solve_rows.ensures.steps ∙ c.in_ok-minor.ensures.steps;
    }

pub returns-clause-minors : goal.returns-clause-minors
returns-clause-minors g c = λ s most h fresh e is.
    let form = c.args.form.now in
    let limit = c.args.state.now.pivots + c.args.steps_left in
    let first = first_reached form c.args.state.now s most in
    let a = c.in_ok-solve_rows.ensures.rows (form_of form) limit first h (c.in_ok-minor.ensures.opening s most fresh e) is e in
    c.take_turns.ensures.minors limit h first (fresh_opened (form_of form) limit first c.solve_rows.new.minor a.1) a.0
