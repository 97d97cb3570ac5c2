use Rattle.pami_lp.proofs.Joins as joins
use Rattle.pami_lp.proofs.laws.model_or_fault.Goals as goal

pub returns : goal.returns
returns c = joins.model_or_fault
