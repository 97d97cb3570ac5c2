use Rattle.std.proofs.Common.{◌≡◌, ◌≤◌, ◌+◌, map, drop}
use Rattle.pami_lines.specs.Names.{Names}
use Rattle.pami_log.specs.Events.{move_line}
use Rattle.pami_cli.specs.Summary.{count_lines}
use Rattle.pami_cli.proofs.summary.count_moves.Given as goal

abbrev pub invariant-loop-it : goal.invariant-loop-it
invariant-loop-it l =
    (l.count ≤ l.it-index)
    × ((names : Names) → count_lines l.word (map (move_line names) l.moves) ≡ l.count + count_lines l.word (map (move_line names) (drop l.it-index l.moves)))
