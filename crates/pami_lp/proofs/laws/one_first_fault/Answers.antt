use Rattle.pami_lp.proofs.Joins as joins
use Rattle.pami_lp.proofs.laws.one_first_fault.Goals as goal

pub returns : goal.returns
returns c = joins.one_fault
