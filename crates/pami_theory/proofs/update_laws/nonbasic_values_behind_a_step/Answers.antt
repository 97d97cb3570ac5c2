use Rattle.pami_theory.proofs.Members.{contains_from, has_from}
use Rattle.pami_theory.proofs.NextValues.{step_value_entering, step_value_flipped, step_value_stays}
use Rattle.pami_theory.proofs.update_laws.nonbasic_values_behind_a_step.Goals as goal

pub returns : goal.returns
returns c = record {
  entering = step_value_entering;
  flipped = λ f b s p v t r u h k m. step_value_flipped f b s p v t r u h k (has_from t.flips u m);
  others = λ f b s p v t r u h k l n i m. step_value_stays f b s p v t r u h k l n i (λ j. m (contains_from t.flips u j));
}
