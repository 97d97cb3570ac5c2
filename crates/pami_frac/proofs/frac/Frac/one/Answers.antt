use Rattle.std.proofs.Common.{refl, lit<}
use Rattle.pami_algebra.specs.Fraction.{gcd}
use Rattle.pami_algebra.specs.Operations.{of_int}
use Rattle.pami_frac.proofs.frac.Frac.one.Goals as goal

pub invariant_of-result : goal.invariant_of-result
unfolding gcd
invariant_of-result c = record { lowest = tt; num_small = lit< tt; den_small = lit< tt }

pub returns : goal.returns
unfolding of_int
returns c = refl
