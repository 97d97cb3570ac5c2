use Rattle.std.specs.Global.{Vec}
use Rattle.pami_frac.specs.declared.list.Entry.{Entry}
use Rattle.pami_method.specs.Task.{refusal}
use Rattle.pami_method.specs.Scripts.{shift_script}
use Rattle.pami_method.specs.Work.{leaving_of}
use Rattle.pami_method.specs.declared.words.Spot.TheVariants as spots
use Rattle.pami_minor.specs.Shifts.{AreCosts}
use Rattle.pami_batch.proofs.Told.{one_told}
use Rattle.pami_batch.proofs.Scripts.{shifted_answer}
use Rattle.pami_batch.proofs.minors_parts.shift_one.Goals as goal

pub returns : goal.returns
returns c = record {
  shift = λ f limit m next i h.
      one_told (λ (es : Vec Entry). AreCosts f m next c.args.slice es.items) (spots.Shift c.args.number c.args.slice)
      (refusal (shift_script f m.reached.basis (leaving_of m.reached m.row) m.step c.args.slice))
      c.shift_slice.result c.at.result c.at.ensures
      (shifted_answer f m next c.args.slice c.shift_slice.result (c.shift_slice.ensures.shift f limit m next i h));
}
