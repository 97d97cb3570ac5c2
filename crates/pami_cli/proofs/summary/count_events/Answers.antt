use Rattle.std.proofs.Common.{◌≤◌, ◌*◌, arith}
use Rattle.pami_log.specs.Events.{event_lines}
use Rattle.pami_cli.proofs.FirstWords.{counted_each, counted_every}
use Rattle.pami_cli.proofs.summary.count_events.Goals as goal

pub loop-event-preserved : goal.loop-event-preserved
loop-event-preserved c =
    let many : c.loop-event.count ≤ c.loop-event.event-index * 18446744073709551616 = c.loop-event.invariant.0 in
    let few : c.count_lines_of-count.result ≤ 18446744073709551616 = c.count_lines_of-count.ensures.small in (
      omega (arith, many, few),
      λ names counts.
          counted_each c.args.word.now (event_lines names counts) c.args.events.now c.loop-event.event-index c.event-item.result c.loop-event.count c.count_lines_of-count.result
          c.loop-event-test.true c.event-item.is (c.count_lines_of-count.ensures.count names counts) (c.loop-event.invariant.1 names counts),
    )

pub returns : goal.returns
returns c = λ names counts.
    counted_every c.args.word.now (event_lines names counts) c.args.events.now c.loop-event.event-index c.loop-event.count (let t = c.loop-event-test.false in omega (arith, t))
    (c.loop-event.invariant.1 names counts)
