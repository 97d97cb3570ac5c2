use Rattle.std.proofs.Common.{refl}
use Rattle.pami_algebra.specs.Fraction.{gcd}
use Rattle.pami_algebra.specs.Operations.{◌+ᶠ◌, ◌*ᶠ◌, neg_f, of_int, inv_f}
use Rattle.pami_algebra.specs.Size.{bits, size}
use Rattle.pami_linear.specs.Pivoting.{pivot}
use Rattle.pami_frac.specs.Arithmetic.{add_fits, mul_fits, add_outcome, mul_outcome, sub_outcome, div_outcome}
use Rattle.pami_factoring.specs.Factor.{elimination_script}
use Rattle.pami_factoring.specs.Solve.{forward_script, backward_script}
use Rattle.pami_examples.proofs.worked_steps.a_major_may_be_refused.Goals as goal

pub returns-clause-refused : goal.returns-clause-refused
unfolding ◌+ᶠ◌ ◌*ᶠ◌ neg_f of_int inv_f gcd bits size add_fits mul_fits add_outcome mul_outcome sub_outcome div_outcome elimination_script forward_script backward_script pivot
returns-clause-refused c = refl

pub returns-clause-alone : goal.returns-clause-alone
unfolding ◌+ᶠ◌ ◌*ᶠ◌ neg_f of_int inv_f gcd bits size add_fits mul_fits add_outcome mul_outcome sub_outcome div_outcome elimination_script forward_script backward_script pivot
returns-clause-alone c = refl
