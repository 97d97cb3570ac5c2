use Rattle.std.proofs.Common.{◌≡◌, ◌++◌, take}
use Rattle.std.specs.List.{flat_map}
use Rattle.pami_model.specs.Contents.{contents}
use Rattle.pami_lines.specs.Line.{text}
use Rattle.pami_log.specs.declared.event.Event.{Event}
use Rattle.pami_model_form.specs.Named.{names_of, counts_of}
use Rattle.pami_log.specs.Events.{event_lines}
use Rattle.pami_cli.proofs.print.push_events.Given as goal

abbrev pub invariant-loop-event : goal.invariant-loop-event
invariant-loop-event l =
    l.out.items ≡ l.initial.out.items ++ flat_map (λ (e : Event). text (event_lines (names_of (contents l.model)) (counts_of (contents l.model)) e)) (take l.event-index l.events)
