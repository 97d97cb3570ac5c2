use Rattle.std.proofs.Common.{refl, sym, ◌*◌}
use Rattle.pami_algebra.specs.Size.{size}
use Rattle.pami_linear.specs.Lists.{get}
use Rattle.pami_theory.specs.Weights.{weight_at, clamped}
use Rattle.pami_devex.specs.Weights.{weight_beside, weight_at_pivot}
use Rattle.pami_devex.proofs.Reweighed.{pivot_weight, other_weight, beside_in_range, halved_in_range}
use Rattle.pami_devex.proofs.weight_laws.weights_go_by_place.Goals as goal

pub returns : goal.returns
returns c = record {
  beside = λ alpha p weights i n. sym (other_weight p (get alpha p) (weight_at weights p) i (get alpha i) (weight_at weights i) (weight_beside (weight_at weights i) (get alpha i) (get alpha p) (weight_at weights p)) n refl);
  pivot = λ alpha p weights. sym (pivot_weight p (get alpha p) (weight_at weights p) p (get alpha p) (weight_at weights p) (weight_at_pivot (weight_at weights p) (get alpha p)) refl refl);
  beside_range = λ weight alpha_i alpha_p weight_p h. beside_in_range weight alpha_i alpha_p weight_p h;
  pivot_range = λ weight alpha_p h. halved_in_range weight (2 * clamped (size alpha_p)) h;
}
