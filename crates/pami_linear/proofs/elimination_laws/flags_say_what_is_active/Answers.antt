use Rattle.pami_linear.proofs.Parts.{part_but, count_but, minus_is}
use Rattle.pami_linear.proofs.Left.{first_active, first_least}
use Rattle.pami_linear.proofs.elimination_laws.flags_say_what_is_active.Goals as goal

pub returns : goal.returns
returns c = record {
  sum = part_but;
  count = count_but;
  differences = minus_is;
  least_is_active = first_active;
  least = first_least;
}
