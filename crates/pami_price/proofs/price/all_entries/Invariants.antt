use Rattle.std.proofs.Common.{◌≡◌}
use Rattle.pami_price.specs.Slices.{row_script}
use Rattle.pami_price.specs.Follow.{onto}
use Rattle.pami_price.proofs.Walked.{slices_left}
use Rattle.pami_price.proofs.price.all_entries.Given as goal

abbrev pub invariant-loop-slice : goal.invariant-loop-slice
invariant-loop-slice l = row_script l.by_row l.stands l.rho ≡ onto l.out.items (slices_left l.by_row l.stands l.rho l.slice)
