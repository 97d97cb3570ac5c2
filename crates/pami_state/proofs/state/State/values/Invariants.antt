use Rattle.pami_state.proofs.Values.{HasValues}
use Rattle.pami_state.proofs.state.State.values.Given as goal

abbrev pub invariant-loop-p : goal.invariant-loop-p
invariant-loop-p l = HasValues l.bounds l.self l.p l.list.items
