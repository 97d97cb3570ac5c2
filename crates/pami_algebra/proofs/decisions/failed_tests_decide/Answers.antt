use Rattle.pami_algebra.proofs.Tests.{not_zero_iff, not_at_most_iff, not_below_iff}
use Rattle.pami_algebra.proofs.decisions.failed_tests_decide.Goals as goal

pub returns : goal.returns
returns c = record {
  zero = not_zero_iff;
  at_most = not_at_most_iff;
  below = not_below_iff;
}
