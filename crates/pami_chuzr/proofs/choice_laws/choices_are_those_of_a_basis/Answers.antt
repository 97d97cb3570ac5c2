use Rattle.pami_chuzr.proofs.Places.{rows_of_basis, script_of_basis}
use Rattle.pami_chuzr.proofs.choice_laws.choices_are_those_of_a_basis.Goals as goal

pub returns : goal.returns
returns c = record {
  rows = λ f b s bounds values weights most o. rows_of_basis f b s bounds values weights most o;
  operations = λ f b s bounds values o. script_of_basis f b s bounds values o;
}
