use Rattle.pami_algebra.proofs.Tests.{is_zero_iff, is_at_most_iff, is_below_iff}
use Rattle.pami_algebra.proofs.decisions.tests_decide.Goals as goal

pub returns : goal.returns
returns c = record {
  zero = is_zero_iff;
  at_most = is_at_most_iff;
  below = is_below_iff;
}
