use Rattle.std.proofs.Common.{sym, ◌∙◌}
use Rattle.pami_edge.proofs.Named.{found_here, found_before}
use Rattle.pami_edge.proofs.stored.place_of.Goals as goal
use Rattle.pami_edge.proofs.stored.place_of.Goals.{then-is_named, else-is_named}

pub loop-i-preserved : goal.loop-i-preserved
loop-i-preserved c = elim c.if-is_named.branch [
  | then-is_named w ↦ found_here c.args.files.now c.loop-i.i c.index-files-i.result c.args.name.now c.if-is_named.found c.loop-i-test.true c.index-files-i.is (sym c.is_named.ensures ∙ w.if-is_named.true) w.found-is
  | else-is_named w ↦ found_before c.args.files.now c.loop-i.i c.index-files-i.result c.args.name.now c.loop-i.found c.if-is_named.found c.loop-i-test.true c.index-files-i.is (sym c.is_named.ensures ∙ w.if-is_named.false) w.found-is c.loop-i.invariant
]
