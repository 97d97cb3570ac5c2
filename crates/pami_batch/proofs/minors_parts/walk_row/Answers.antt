use Rattle.std.proofs.Common.{Ok, Err, sym, subst}
use Rattle.pami_frac.specs.declared.fault.Fault.{Fault}
use Rattle.pami_method.specs.declared.words.Place.{Place}
use Rattle.pami_minor.specs.Steps.{FollowsWalk}
use Rattle.pami_batch.specs.Told.{Tells, walk_tasks}
use Rattle.pami_form.specs.FormOf.{form_of}
use Rattle.pami_batch.proofs.Scripts.{walk_fits, walk_told}
use Rattle.pami_batch.proofs.minors_parts.walk_row.Goals as goal

pub returns-in-Ok : goal.returns-in-Ok
returns-in-Ok c = record {
  walk = λ limit r row h.
      let w = c.in-Ok.ensures.walk limit r row h in
      (walk_fits (form_of c.args.form.now) c.args.number r row c.in-Ok.answer w, w);
}

pub returns-in_ok-walk_spot-in-Err : goal.returns-in_ok-walk_spot-in-Err
returns-in_ok-walk_spot-in-Err c = record {
  walk = λ limit r row h.
      let f = form_of c.args.form.now in
      subst (λ (e : Fault Place). Tells (λ answer. FollowsWalk f r.basis r.fresh row.place row.violation (Ok answer)) (walk_tasks f c.args.number r row) (Err e))
      (sym c.fault_at.ensures)
      (walk_told f c.args.number r row c.in_ok-walk_spot-in-Err.field-0 c.in-Err.fault (c.in_ok-walk_spot-in-Err.ensures.spot limit r row h)
      (c.in-Err.ensures.walk limit r row h));
}
