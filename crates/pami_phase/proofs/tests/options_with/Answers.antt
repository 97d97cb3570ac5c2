use Rattle.std.proofs.Common.{arith}
use Rattle.pami_phase.proofs.tests.options_with.Goals as goal

pub returns-clause-options : goal.returns-clause-options
returns-clause-options c = record { some_row = omega arith; batch = omega arith; refactor = omega arith; limit = c.requires }
