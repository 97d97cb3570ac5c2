use Rattle.std.proofs.Common.{refl}
use Rattle.pami_algebra.specs.Fraction.{gcd}
use Rattle.pami_algebra.specs.Operations.{◌+ᶠ◌, ◌*ᶠ◌, neg_f, of_int, inv_f}
use Rattle.pami_examples.proofs.worked_steps.candidates_are_walked_by_ratio.Goals as goal

pub returns-clause-order : goal.returns-clause-order
unfolding ◌+ᶠ◌ ◌*ᶠ◌ neg_f of_int inv_f gcd
returns-clause-order c = refl

pub returns-clause-passed : goal.returns-clause-passed
unfolding ◌+ᶠ◌ ◌*ᶠ◌ neg_f of_int inv_f gcd
returns-clause-passed c = refl

pub returns-clause-order_later : goal.returns-clause-order_later
unfolding ◌+ᶠ◌ ◌*ᶠ◌ neg_f of_int inv_f gcd
returns-clause-order_later c = refl

pub returns-clause-stopped : goal.returns-clause-stopped
unfolding ◌+ᶠ◌ ◌*ᶠ◌ neg_f of_int inv_f gcd
returns-clause-stopped c = refl

pub returns-clause-all_passed : goal.returns-clause-all_passed
unfolding ◌+ᶠ◌ ◌*ᶠ◌ neg_f of_int inv_f gcd
returns-clause-all_passed c = refl
