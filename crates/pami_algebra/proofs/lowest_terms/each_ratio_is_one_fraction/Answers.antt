use Rattle.pami_algebra.proofs.Parts.{num_den_coprime, same_cross}
use Rattle.pami_algebra.specs.Gcd.{gcd_is}
use Rattle.pami_algebra.specs.Lowest.{den_pos}
use Rattle.pami_algebra.proofs.lowest_terms.each_ratio_is_one_fraction.Goals as goal

pub returns : goal.returns
returns c = record {
  divisor = gcd_is;
  lowest = num_den_coprime;
  positive = den_pos;
  same = same_cross;
}
