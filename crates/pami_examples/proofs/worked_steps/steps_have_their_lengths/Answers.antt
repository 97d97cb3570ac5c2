use Rattle.std.proofs.Common.{refl}
use Rattle.pami_algebra.specs.Fraction.{gcd}
use Rattle.pami_algebra.specs.Operations.{◌+ᶠ◌, ◌*ᶠ◌, neg_f, of_int, inv_f}
use Rattle.pami_examples.proofs.worked_steps.steps_have_their_lengths.Goals as goal

pub returns-clause-first : goal.returns-clause-first
unfolding ◌+ᶠ◌ ◌*ᶠ◌ neg_f of_int inv_f gcd
returns-clause-first c = refl

pub returns-clause-second : goal.returns-clause-second
unfolding ◌+ᶠ◌ ◌*ᶠ◌ neg_f of_int inv_f gcd
returns-clause-second c = refl

pub returns-clause-basis : goal.returns-clause-basis
unfolding ◌+ᶠ◌ ◌*ᶠ◌ neg_f of_int inv_f gcd
returns-clause-basis c = refl
