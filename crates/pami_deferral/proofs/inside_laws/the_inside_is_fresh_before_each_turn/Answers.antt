use Rattle.pami_deferral.proofs.Insides.{inside_in, inside_at_end, chosen_place}
use Rattle.pami_deferral.proofs.inside_laws.the_inside_is_fresh_before_each_turn.Goals as goal

pub returns : goal.returns
returns c = record {
  turn = λ f limit first es m ms last h p. inside_in f limit first es m ms last h.basis h.fresh p h.batch;
  end = λ f limit first ms last h p. inside_at_end f limit first ms last h.basis h.fresh p h.batch;
  chosen = chosen_place;
}
