use Rattle.pami_theory.proofs.Signs.{is_negative_iff, is_same_iff}
use Rattle.pami_theory.proofs.start_laws.tests_decide.Goals as goal

pub returns : goal.returns
returns c = record {
  negative = is_negative_iff;
  same = is_same_iff;
}
