use Rattle.pami_algebra.specs.Size.{bits}
use Rattle.pami_frac.proofs.Digits.{bits_need, only_digits}
use Rattle.pami_frac.proofs.size.bits_are_digits.Goals as goal

pub returns : goal.returns
returns c = record {
  needed = bits_need;
  only = λ n b p h. only_digits n b (bits n) h (bits_need n p);
}
