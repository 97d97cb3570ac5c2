use Rattle.pami_method.proofs.Turns.{pivot_parts, pivot_takes_step, pivot_place}
use Rattle.pami_method.proofs.batch_laws.turns_take_steps.Goals as goal

pub returns : goal.returns
returns c = record {
  step = pivot_takes_step;
  place = pivot_place;
  dropped = λ f limit r d row t h. (pivot_parts f limit r d row t h).1;
  below_limit = λ f limit r d row t h. (pivot_parts f limit r d row t h).0;
}
