use Rattle.std.proofs.Common.{◌≡◌, take}
use Rattle.std.specs.Option.{option_map}
use Rattle.pami_edge.specs.Memory.{bytes_under, bytes_at}
use Rattle.pami_edge.proofs.stored.place_of.Given as goal

abbrev pub invariant-loop-i : goal.invariant-loop-i
invariant-loop-i l = bytes_under (take l.i l.files) l.name ≡ option_map (bytes_at l.files) l.found
