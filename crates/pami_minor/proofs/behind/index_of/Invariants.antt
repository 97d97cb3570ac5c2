use Rattle.std.proofs.Common.{◌≡◌, ◌<◌, ◌≤◌, ◌-◌, ℕ, length, slice_index_or}
use Rattle.pami_minor.specs.declared.kept.Kept.{Kept}
use Rattle.pami_minor.proofs.behind.index_of.Given as goal

abbrev pub invariant-loop-i : goal.invariant-loop-i
invariant-loop-i l =
    ((j : ℕ) (k : Kept) → j < l.i → ¬ ((slice_index_or l.rows j k).at.place ≡ l.place))
    × ((j : ℕ) × (k : Kept) × (l.i ≤ j) × (j < length l.rows) × (slice_index_or l.rows j k ≡ k) × (k.at.place ≡ l.place))

abbrev pub decreases-loop-i : goal.decreases-loop-i
decreases-loop-i l = length l.rows - l.i
