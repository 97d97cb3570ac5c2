use Rattle.std.proofs.Common.{refl}
use Rattle.pami_algebra.proofs.Laws.{zero_num}
use Rattle.pami_algebra.proofs.Parts.{num_over, den_over}
use Rattle.pami_algebra.specs.Lowest.{is_lowest_in}
use Rattle.pami_algebra.specs.Reduced.{over_ratio, over_num, over_den, over_itself, over}
use Rattle.pami_algebra.proofs.lowest_terms.a_pair_is_reduced.Goals as goal

pub returns : goal.returns
returns c = record {
  ratio = λ n d h. (over_ratio n d h).cross;
  numerator = num_over;
  denominator = den_over;
  kept_numerator = λ n d h e. over_num n d (is_lowest_in n d e h);
  kept_denominator = λ n d h e. over_den n d (is_lowest_in n d e h);
  itself = over_itself;
  of_no_parts = λ n. zero_num (over n 0) refl;
}
