use Rattle.std.proofs.Common.{◌≡◌}
use Rattle.std.specs.List.{IsDistinct}
use Rattle.std.specs.List.Sorted.{ties}
use Rattle.pami_theory.specs.Order.{ordered}
use Rattle.pami_bfrt.specs.Candidates.{comes_before}
use Rattle.pami_bfrt.specs.Walks.{walk_over, onward, walk_script}
use Rattle.pami_bfrt.proofs.walk.walk_of.Given as goal

abbrev pub invariant-loop-turn : goal.invariant-loop-turn
invariant-loop-turn l =
    (walk_script (record { stands = l.stands; bounds = l.bounds; widths = l.widths; reduced = l.reduced }) l.alpha l.violation
    ≡ onward l.flips.items (walk_over (ordered comes_before l.left.items) l.slope))
    × IsDistinct (ties comes_before) l.left.items
