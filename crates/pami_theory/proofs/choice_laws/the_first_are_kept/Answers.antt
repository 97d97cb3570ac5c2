use Rattle.pami_theory.proofs.Chosen.{ordered_more, take_put}
use Rattle.pami_theory.proofs.choice_laws.the_first_are_kept.Goals as goal

pub returns : goal.returns
returns g c = record { one_more = ordered_more; first_ones = take_put }
