use Rattle.std.proofs.Common.{◌≡◌, drop}
use Rattle.pami_linear.specs.Lists.{get}
use Rattle.pami_script.specs.Script.{each_entry}
use Rattle.pami_factor.proofs.BackPasses.{other_of}
use Rattle.pami_factor.proofs.product.others_taken.Given as goal

abbrev pub invariant-loop-entry : goal.invariant-loop-entry
invariant-loop-entry l =
    each_entry l.entry-items (other_of l.pivot.place l.right) (get l.right l.pivot.place)
    ≡ each_entry (drop l.entry-index l.entry-items) (other_of l.pivot.place l.right) l.rest
