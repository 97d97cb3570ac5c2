use Rattle.pami_chuzr.proofs.Places.{value_of_basis, refusal_of_basis}
use Rattle.pami_chuzr.proofs.choice_laws.choices_follow_the_basis.Goals as goal

pub returns : goal.returns
returns c = record {
  value = λ f b s bounds values weights most rows o e. value_of_basis f b s bounds values weights most rows o e;
  refused = λ f b s bounds values weights most r o. refusal_of_basis f b s bounds values weights most r o;
}
