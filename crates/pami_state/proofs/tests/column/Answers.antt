use Rattle.pami_state.proofs.Small.{two_rows, first_row, second_row}
use Rattle.pami_state.proofs.tests.column.Goals as goal

pub returns-clause-two : goal.returns-clause-two
returns-clause-two c = two_rows c.in_ok-vector.vector c.args.first c.args.second c.in_ok-vector.ensures

pub returns-clause-first : goal.returns-clause-first
returns-clause-first c = first_row c.in_ok-vector.vector c.args.first c.args.second c.in_ok-vector.ensures

pub returns-clause-second : goal.returns-clause-second
returns-clause-second c = second_row c.in_ok-vector.vector c.args.first c.args.second c.in_ok-vector.ensures
