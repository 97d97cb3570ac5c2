use Rattle.std.proofs.Common.{None}
use Rattle.pami_major.proofs.tests.walked.Goals as goal

pub drive-requires-clause-factor : goal.drive-requires-clause-factor
drive-requires-clause-factor c = (None, tt)
