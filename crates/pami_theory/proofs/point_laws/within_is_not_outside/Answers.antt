use Rattle.pami_theory.proofs.Certificates.{within_iff_not_outside, outside_or_within}
use Rattle.pami_theory.proofs.point_laws.within_is_not_outside.Goals as goal

pub returns : goal.returns
returns c = record {
  within = within_iff_not_outside;
  one_of_two = outside_or_within;
}
