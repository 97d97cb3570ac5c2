use Rattle.std.proofs.Common.{refl}
use Rattle.pami_algebra.specs.Fraction.{gcd}
use Rattle.pami_algebra.specs.Operations.{◌+ᶠ◌, ◌*ᶠ◌, neg_f, of_int, inv_f}
use Rattle.pami_algebra.specs.Size.{bits, size}
use Rattle.pami_examples.proofs.worked_steps.greater_merit_is_chosen_first.Goals as goal

pub returns-clause-all : goal.returns-clause-all
unfolding ◌+ᶠ◌ ◌*ᶠ◌ neg_f of_int inv_f gcd bits size
returns-clause-all c = refl

pub returns-clause-equal : goal.returns-clause-equal
unfolding ◌+ᶠ◌ ◌*ᶠ◌ neg_f of_int inv_f gcd bits size
returns-clause-equal c = refl

pub returns-clause-most : goal.returns-clause-most
unfolding ◌+ᶠ◌ ◌*ᶠ◌ neg_f of_int inv_f gcd bits size
returns-clause-most c = refl
