use Rattle.pami_linear.specs.Pivoting.{IsInside}
use Rattle.pami_linear.proofs.Pivots.{pivot_is_first, pivot_some, pivot_none}
use Rattle.pami_linear.proofs.Unique.{found_unique, pivot_moved}
use Rattle.pami_linear.proofs.elimination_laws.the_pivot_is_the_first_allowed.Goals as goal

pub returns : goal.returns
returns c = record {
  found = pivot_is_first;
  one = λ m allowed cost. found_unique allowed cost (IsInside m);
  some = pivot_some;
  none = pivot_none;
  same = pivot_moved;
}
