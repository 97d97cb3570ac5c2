use Rattle.std.proofs.Common.{◌+◌}
use Rattle.pami_form.specs.FormOf.{form_of}
use Rattle.pami_minor.specs.Opening.{first_reached}
use Rattle.pami_minor.proofs.Opens.{fresh_opened}
use Rattle.pami_batch.proofs.Slices.{rows_few}
use Rattle.pami_batch.proofs.drawn_tests.run_turns.Goals as goal

pub solve_rows-requires : goal.solve_rows-requires
solve_rows-requires c =
    let form = c.args.form.now in
    let st = c.args.state.now in
    let o = c.requires.openable in
    let h = c.requires.factor in
    record {
      turn = (
        form_of form,
        st.pivots + c.args.limit,
        first_reached form st o.solved.fresh o.most,
        h.0,
        c.in_ok-minor.ensures.opening o.solved.fresh o.most o.solved.solved o.chosen_are,
        h.1,
        o.chosen_are,
        rows_few form form.kept,
      );
    }

pub turns-requires : goal.turns-requires
turns-requires c =
    let form = c.args.form.now in
    let st = c.args.state.now in
    let o = c.requires.openable in
    let h = c.requires.factor in
    let limit = st.pivots + c.args.limit in
    let first = first_reached form st o.solved.fresh o.most in
    let a = c.in_ok-solve_rows.ensures.rows (form_of form) limit first h.0
    (c.in_ok-minor.ensures.opening o.solved.fresh o.most o.solved.solved o.chosen_are) h.1 o.chosen_are in
    record { turn = (limit, first, fresh_opened (form_of form) limit first c.solve_rows.new.minor a.1) }
