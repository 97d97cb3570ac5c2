use Rattle.pami_price.proofs.Priced.{slice_value, row_value}
use Rattle.pami_price.proofs.price_laws.entries_are_those_of_the_row.Goals as goal

pub returns-clause-slice : goal.returns-clause-slice
returns-clause-slice c = slice_value

pub returns-clause-all : goal.returns-clause-all
returns-clause-all c = row_value
