use Rattle.std.proofs.Common.{Ok, subst}
use Rattle.pami_form.specs.FormOf.{form_of}
use Rattle.pami_minor.specs.declared.row.RowPick.{RowPick}
use Rattle.pami_minor.specs.Follow.{FollowsPick}
use Rattle.pami_batch.proofs.drawn_tests.turn.Goals as goal

pub leave-requires : goal.leave-requires
leave-requires c =
    let t = c.requires.turn in
    let p = subst (λ (k : RowPick). FollowsPick (form_of c.args.form.now) t.0 t.1 c.next_row.new.self (Ok k)) c.in-Row.is
    (c.in-Ok.ensures.pick (form_of c.args.form.now) t.0 t.1 t.2) in
    record { turn = (t.0, t.1, p.0, p.4, p.1) }
