use Rattle.std.proofs.Common.{◌≡◌, ◌≤◌, ◌-◌, ◌++◌, length, map, drop}
use Rattle.std.specs.List.{All}
use Rattle.pami_edge.specs.Lines.{lines_of, piece, IsWithin}
use Rattle.pami_edge.proofs.line.lines.Given as goal

abbrev pub invariant-loop-start : goal.invariant-loop-start
invariant-loop-start l = record {
  inside : l.start ≤ length l.bytes;
  within : All (IsWithin l.bytes) l.out.items;
  pieces : map (piece l.bytes) l.out.items ++ lines_of (drop l.start l.bytes) ≡ lines_of l.bytes;
}

abbrev pub decreases-loop-start : goal.decreases-loop-start
decreases-loop-start l = length l.bytes - l.start
