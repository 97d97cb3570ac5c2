use Rattle.pami_theory.proofs.Chosen.{rows_are, rows_no_ties, no_rows}
use Rattle.pami_theory.proofs.choice_laws.infeasible_rows_are_those_of_places.Goals as goal

pub returns : goal.returns
returns c = record { rows = rows_are; no_ties = rows_no_ties; none = no_rows }
