use Rattle.pami_form.specs.FormOf.{form_of}
use Rattle.pami_batch.proofs.Scripts.{spot_of_walk}
use Rattle.pami_batch.proofs.minors_parts.walk_spot.Goals as goal

pub returns : goal.returns
returns c = record {
  spot = λ limit r row h.
      spot_of_walk (form_of c.args.form.now) c.args.number r row c.ratio-ratio.result c.spot_behind.result (c.ratio-ratio.ensures.ratio limit r row h)
      c.spot_behind.ensures;
}
