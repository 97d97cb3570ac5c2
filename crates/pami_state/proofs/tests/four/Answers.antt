use Rattle.pami_state.proofs.Small.{four_uncrossed}
use Rattle.pami_state.proofs.tests.four.Goals as goal

pub returns-clause-uncrossed : goal.returns-clause-uncrossed
returns-clause-uncrossed c = four_uncrossed c.uncrossed.result c.uncrossed-2.result c.uncrossed-3.result c.uncrossed-4.result c.uncrossed.ensures c.uncrossed-2.ensures c.uncrossed-3.ensures c.uncrossed-4.ensures
