use Rattle.std.proofs.Common.{◌≡◌, ◌≤◌, ◌+◌, ◌*◌, drop}
use Rattle.std.specs.List.{flat_map}
use Rattle.pami_lines.specs.Head.{Counts}
use Rattle.pami_lines.specs.Names.{Names}
use Rattle.pami_log.specs.Events.{event_lines}
use Rattle.pami_cli.specs.Summary.{count_lines}
use Rattle.pami_cli.proofs.summary.count_events.Given as goal

abbrev pub invariant-loop-event : goal.invariant-loop-event
invariant-loop-event l =
    (l.count ≤ l.event-index * 18446744073709551616)
    × ((names : Names) (counts : Counts) → count_lines l.word (flat_map (event_lines names counts) l.events)
    ≡ l.count + count_lines l.word (flat_map (event_lines names counts) (drop l.event-index l.events)))
