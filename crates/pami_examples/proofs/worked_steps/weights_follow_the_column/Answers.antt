use Rattle.std.proofs.Common.{refl}
use Rattle.pami_algebra.specs.Fraction.{gcd}
use Rattle.pami_algebra.specs.Operations.{◌+ᶠ◌, ◌*ᶠ◌, neg_f, of_int, inv_f}
use Rattle.pami_algebra.specs.Size.{bits, size}
use Rattle.pami_examples.proofs.worked_steps.weights_follow_the_column.Goals as goal

pub returns-clause-rises : goal.returns-clause-rises
unfolding ◌+ᶠ◌ ◌*ᶠ◌ neg_f of_int inv_f gcd bits size
returns-clause-rises c = refl

pub returns-clause-falls : goal.returns-clause-falls
unfolding ◌+ᶠ◌ ◌*ᶠ◌ neg_f of_int inv_f gcd bits size
returns-clause-falls c = refl

pub returns-clause-least : goal.returns-clause-least
unfolding ◌+ᶠ◌ ◌*ᶠ◌ neg_f of_int inv_f gcd bits size
returns-clause-least c = refl

pub returns-clause-greatest : goal.returns-clause-greatest
unfolding ◌+ᶠ◌ ◌*ᶠ◌ neg_f of_int inv_f gcd bits size
returns-clause-greatest c = refl
