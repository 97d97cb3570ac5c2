use Rattle.std.proofs.Common.{◌≡◌, ◌<◌, ◌≤◌, ◌-◌, ℕ, length, slice_index_or}
use Rattle.pami_state.proofs.state.place_of.Given as goal

abbrev pub invariant-loop-place : goal.invariant-loop-place
invariant-loop-place l = (p : ℕ) × (l.place ≤ p) × (p < length l.head) × (slice_index_or l.head p 0 ≡ l.variable)

abbrev pub decreases-loop-place : goal.decreases-loop-place
decreases-loop-place l = length l.head - l.place
