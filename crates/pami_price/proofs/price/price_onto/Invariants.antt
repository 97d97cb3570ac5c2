use Rattle.std.proofs.Common.{◌≡◌}
use Rattle.pami_price.specs.Slices.{slice_script}
use Rattle.pami_price.specs.Follow.{onto}
use Rattle.pami_price.proofs.Walked.{left}
use Rattle.pami_price.proofs.price.price_onto.Given as goal

abbrev pub invariant-loop-v : goal.invariant-loop-v
invariant-loop-v l = onto l.fn.out.items (slice_script l.by_row l.stands l.rho l.slice) ≡ onto l.out.items (left l.by_row l.stands l.rho l.last l.v)
