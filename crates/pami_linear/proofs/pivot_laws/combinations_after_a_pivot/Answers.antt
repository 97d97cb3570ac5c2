use Rattle.pami_linear.proofs.Pivoted.{combines_after_pivot, combines_to_value, replaced_combines}
use Rattle.pami_linear.proofs.pivot_laws.combinations_after_a_pivot.Goals as goal

pub returns : goal.returns
returns c = record {
  multiple = combines_after_pivot;
  value = combines_to_value;
  given = replaced_combines;
}
