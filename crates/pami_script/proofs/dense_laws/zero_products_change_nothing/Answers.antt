use Rattle.pami_script.proofs.Skipped.{add_zero_left, add_zero_right, sub_zero_left, sub_zero_right}
use Rattle.pami_script.proofs.dense_laws.zero_products_change_nothing.Goals as goal

pub returns : goal.returns
returns c = record {
  added_left = add_zero_left;
  added_right = add_zero_right;
  subtracted_left = sub_zero_left;
  subtracted_right = sub_zero_right;
}
