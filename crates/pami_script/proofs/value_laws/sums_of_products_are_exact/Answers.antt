use Rattle.pami_script.proofs.Values.{add_product_value, sub_product_value, add_dot_value, sub_dot_value}
use Rattle.pami_script.proofs.value_laws.sums_of_products_are_exact.Goals as goal

pub returns : goal.returns
returns c = record {
  added = add_product_value;
  subtracted = sub_product_value;
  added_up = add_dot_value;
  taken_off = sub_dot_value;
}
