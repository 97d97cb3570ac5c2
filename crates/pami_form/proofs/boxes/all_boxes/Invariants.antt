use Rattle.std.proofs.Common.{◌≡◌, map, take}
use Rattle.pami_theory.specs.Boxes.{box}
use Rattle.pami_form.proofs.boxes.all_boxes.Given as goal

abbrev pub invariant-loop-limits : goal.invariant-loop-limits
invariant-loop-limits l = l.boxes.items ≡ map box (take l.limits-index l.bounds)
