use Rattle.std.proofs.Common.{refl}
use Rattle.pami_algebra.specs.Fraction.{gcd}
use Rattle.pami_algebra.specs.Operations.{◌+ᶠ◌, ◌*ᶠ◌, neg_f, of_int, inv_f}
use Rattle.pami_algebra.specs.Size.{bits, size}
use Rattle.pami_examples.proofs.worked_steps.turns_end_or_pivot.Goals as goal

pub returns-clause-pivots : goal.returns-clause-pivots
unfolding ◌+ᶠ◌ ◌*ᶠ◌ neg_f of_int inv_f gcd bits size
returns-clause-pivots c = refl

pub returns-clause-drops : goal.returns-clause-drops
unfolding ◌+ᶠ◌ ◌*ᶠ◌ neg_f of_int inv_f gcd bits size
returns-clause-drops c = refl

pub returns-clause-no_row : goal.returns-clause-no_row
unfolding ◌+ᶠ◌ ◌*ᶠ◌ neg_f of_int inv_f gcd bits size
returns-clause-no_row c = refl

pub returns-clause-last_dropped : goal.returns-clause-last_dropped
unfolding ◌+ᶠ◌ ◌*ᶠ◌ neg_f of_int inv_f gcd bits size
returns-clause-last_dropped c = refl

pub returns-clause-passed : goal.returns-clause-passed
unfolding ◌+ᶠ◌ ◌*ᶠ◌ neg_f of_int inv_f gcd bits size
returns-clause-passed c = refl

pub returns-clause-stuck : goal.returns-clause-stuck
unfolding ◌+ᶠ◌ ◌*ᶠ◌ neg_f of_int inv_f gcd bits size
returns-clause-stuck c = refl

pub returns-clause-at_limit : goal.returns-clause-at_limit
unfolding ◌+ᶠ◌ ◌*ᶠ◌ neg_f of_int inv_f gcd bits size
returns-clause-at_limit c = refl
