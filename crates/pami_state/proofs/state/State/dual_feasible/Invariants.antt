use Rattle.std.proofs.Common.{ℕ, ◌<◌}
use Rattle.pami_state.specs.State.{IsSignedAt}
use Rattle.pami_state.proofs.state.State.dual_feasible.Given as goal

abbrev pub invariant-loop-v : goal.invariant-loop-v
invariant-loop-v l = (v : ℕ) → v < l.v → IsSignedAt l.bounds l.self v
