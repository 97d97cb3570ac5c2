use Rattle.std.proofs.Common.{◌≡◌, ◌≤◌, length, ◌-◌}
use Rattle.pami_edge.proofs.Growing.{SoFar}
use Rattle.pami_edge.proofs.whole.read_whole.Given as goal

abbrev pub invariant-chunks : goal.invariant-chunks
invariant-chunks g l = record {
  fits : length l.bytes.items ≤ l.most;
  asked : g.S.Shelf.asked l.shelf ≡ g.S.Shelf.asked l.initial.shelf;
  files : g.S.Shelf.files l.shelf ≡ g.S.Shelf.files l.initial.shelf;
  taken : g.S.Shelf.taken l.shelf ≡ length l.bytes.items;
  steady : g.S.Shelf.faults l.shelf ≡ g.S.Shelf.faults l.initial.shelf;
  so_far : SoFar (g.S.Shelf.files l.fn.shelf) l.fn.name (g.S.Shelf.rest l.shelf) l.bytes.items;
}

abbrev pub decreases-chunks : goal.decreases-chunks
decreases-chunks g l = l.most - length l.bytes.items
