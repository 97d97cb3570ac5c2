use Rattle.std.proofs.Common.{◌≡◌, ◌<◌, ◌≤◌, ◌+◌, ◌*◌, arith}
use Rattle.pami_form.specs.FormOf.{form_of}
use Rattle.pami_major.specs.EndsMajor.{walk_state}
use Rattle.pami_major.specs.Walks.{majors_left}
use Rattle.pami_major.proofs.Turns.{telling_begins, telling_further, ends_further, few_so, counted_none, counted_further}
use Rattle.pami_major.proofs.Spent.{spending_begins}
use Rattle.pami_major.proofs.walk.drive.Goals as goal

pub loop-outcome-init : goal.loop-outcome-init
loop-outcome-init g c = (
  λ h k.
      telling_begins c.args.form.now c.args.options.now c.args.tried.now c.args.state.now c.args.factor.now h (g.T.Teller.stands c.args.teller.now) (g.T.Teller.faults c.args.teller.now) c.requires.ready k,
  omega arith,
  c.requires.factor,
  counted_none c.args.tried.now (2 * c.args.options.now.batch + 2) c.args.steps.now.count,
  λ h k.
      spending_begins (form_of c.args.form.now) c.args.options.now c.args.tried.now c.args.state.now c.args.factor.now h c.args.steps.now.count k,
)

pub turn-requires-clause-ready : goal.turn-requires-clause-ready
turn-requires-clause-ready g c = (c.loop-outcome.invariant.0 c.requires.factor.0 c.requires.factor.1).1.ready

pub turn-requires-clause-number : goal.turn-requires-clause-number
turn-requires-clause-number g c =
    let b : c.loop-outcome.tried + majors_left c.args.options.now.limit c.loop-outcome.state c.loop-outcome.mode ≤ c.args.tried.now + (2 * c.args.options.now.limit + 1) = c.loop-outcome.invariant.1 in
    let l = c.requires.options.limit in
    let t = c.requires.number in
    omega arith

pub returns-in-Ends-clause-walked : goal.returns-in-Ends-clause-walked
returns-in-Ends-clause-walked g c = λ h k.
    let i = c.loop-outcome.invariant.0 h k in
    ends_further c.args.form.now c.args.options.now c.args.tried.now (walk_state c.args.state.now h) i.0 c.turn.new.state c.turn.new.factor c.turn.new.tried
    (g.T.Teller.stands c.args.teller.now) (g.T.Teller.stands c.loop-outcome.teller) (g.T.Teller.stands c.turn.new.teller) (g.T.Teller.stopped c.turn.new.teller)
    (g.T.Teller.faults c.args.teller.now) (g.T.Teller.faults c.loop-outcome.teller) (g.T.Teller.faults c.turn.new.teller) c.in-Ends.outcome i.2 i.3
    (c.in-Ends.ensures.turned c.args.tried.now (walk_state c.args.state.now h) i.0 i.1).0

pub returns-in-Ends-clause-few : goal.returns-in-Ends-clause-few
returns-in-Ends-clause-few g c =
    let h = c.requires.factor.0 in
    let i = c.loop-outcome.invariant.0 h c.requires.factor.1 in
    let b : c.loop-outcome.tried + majors_left c.args.options.now.limit c.loop-outcome.state c.loop-outcome.mode ≤ c.args.tried.now + (2 * c.args.options.now.limit + 1) = c.loop-outcome.invariant.1 in
    few_so c.in-Ends.outcome c.turn.new.tried (c.loop-outcome.tried + 1) (c.args.tried.now + (2 * c.args.options.now.limit + 2))
    (c.in-Ends.ensures.turned c.args.tried.now (walk_state c.args.state.now h) i.0 i.1).1 (omega arith)

pub returns-in-Ends-clause-counted : goal.returns-in-Ends-clause-counted
returns-in-Ends-clause-counted g c =
    counted_further c.args.tried.now c.loop-outcome.tried c.turn.new.tried (2 * c.args.options.now.batch + 2) c.args.steps.now.count c.loop-outcome.steps.count c.turn.new.steps.count
    c.loop-outcome.invariant.3 c.in-Ends.ensures.counted

pub returns-in-Ends-clause-spent : goal.returns-in-Ends-clause-spent
returns-in-Ends-clause-spent g c = λ h k.
    c.in-Ends.ensures.spent c.args.tried.now (walk_state c.args.state.now h) c.args.steps.now.count (c.loop-outcome.invariant.4 h k)

pub loop-outcome-smaller : goal.loop-outcome-smaller
loop-outcome-smaller g c =
    let h = c.requires.factor.0 in
    let i = c.loop-outcome.invariant.0 h c.requires.factor.1 in
    (c.in-GoesOn.ensures.turned c.args.tried.now (walk_state c.args.state.now h) i.0 i.1).2

pub loop-outcome-preserved : goal.loop-outcome-preserved
loop-outcome-preserved g c =
    let h = c.requires.factor.0 in
    let j = c.loop-outcome.invariant.0 h c.requires.factor.1 in
    let turned = c.in-GoesOn.ensures.turned c.args.tried.now (walk_state c.args.state.now h) j.0 j.1 in
    let t : c.turn.new.tried ≡ c.loop-outcome.tried + 1 = turned.1 in
    let l : majors_left c.args.options.now.limit c.turn.new.state c.in-GoesOn.next < majors_left c.args.options.now.limit c.loop-outcome.state c.loop-outcome.mode = turned.2 in
    let b : c.loop-outcome.tried + majors_left c.args.options.now.limit c.loop-outcome.state c.loop-outcome.mode ≤ c.args.tried.now + (2 * c.args.options.now.limit + 1) = c.loop-outcome.invariant.1 in (
      λ h k.
          let i = c.loop-outcome.invariant.0 h k in
          telling_further c.args.form.now c.args.options.now c.args.tried.now (walk_state c.args.state.now h) i.0 c.turn.new.state c.turn.new.factor c.in-GoesOn.next c.turn.new.tried
          (g.T.Teller.stands c.args.teller.now) (g.T.Teller.stands c.loop-outcome.teller) (g.T.Teller.stands c.turn.new.teller)
          (g.T.Teller.faults c.args.teller.now) (g.T.Teller.faults c.loop-outcome.teller) (g.T.Teller.faults c.turn.new.teller) i.2 i.3 (c.in-GoesOn.ensures.turned c.args.tried.now (walk_state c.args.state.now h) i.0 i.1).0,
      omega arith,
      c.in-GoesOn.ensures.factor,
      counted_further c.args.tried.now c.loop-outcome.tried c.turn.new.tried (2 * c.args.options.now.batch + 2) c.args.steps.now.count c.loop-outcome.steps.count c.turn.new.steps.count
          c.loop-outcome.invariant.3 c.in-GoesOn.ensures.counted,
      λ h k. c.in-GoesOn.ensures.spent c.args.tried.now (walk_state c.args.state.now h) c.args.steps.now.count (c.loop-outcome.invariant.4 h k),
    )
