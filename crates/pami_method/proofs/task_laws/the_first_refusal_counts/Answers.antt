use Rattle.pami_method.proofs.Tasks.{none_refused, all_fit, first_is, is_first}
use Rattle.pami_method.proofs.task_laws.the_first_refusal_counts.Goals as goal

pub returns : goal.returns
returns c = record { none = λ ts. (none_refused ts, all_fit ts); first = λ ts r. (first_is ts r, is_first ts r) }
