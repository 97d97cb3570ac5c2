use Rattle.pami_linear.proofs.Solutions.{forward_is, forward_one, backward_is, backward_one}
use Rattle.pami_linear.proofs.elimination_laws.steps_solve_both_systems.Goals as goal

pub returns : goal.returns
returns c = record {
  forward = forward_is;
  forward_only = forward_one;
  backward = backward_is;
  backward_only = backward_one;
}
