use Rattle.std.proofs.Common.{◌≡◌, false, take}
use Rattle.std.specs.List.{list_any}
use Rattle.pami_mps.specs.Line.{is_control}
use Rattle.pami_mps.proofs.text.has_control.Given as goal

abbrev pub invariant-loop-byte : goal.invariant-loop-byte
invariant-loop-byte l = list_any is_control (take l.byte-index l.line) ≡ false
