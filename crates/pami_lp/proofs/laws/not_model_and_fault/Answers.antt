use Rattle.pami_lp.proofs.Joins as joins
use Rattle.pami_lp.proofs.laws.not_model_and_fault.Goals as goal

pub returns : goal.returns
returns c = joins.not_both
