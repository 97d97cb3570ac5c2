use Rattle.std.proofs.Common.{◌≡◌, length, drop}
use Rattle.pami_devex.proofs.Reweighed.{reweighed}
use Rattle.pami_devex.proofs.weights.reweigh.Given as goal

abbrev pub invariant-loop-entry : goal.invariant-loop-entry
invariant-loop-entry l = record {
  same_length : length l.weights ≡ length l.fn.weights;
  rest : reweighed l.place l.alpha_p l.weight_p l.alpha l.fn.weights ≡ reweighed l.place l.alpha_p l.weight_p (drop l.entry-index l.alpha) l.weights;
}
