use Rattle.std.proofs.Common.{◌≡◌, ◌<◌, ◌≤◌, ◌-◌, ℕ, slice_index_or, vec_len}
use Rattle.pami_minor.specs.declared.kept.Kept.{Kept}
use Rattle.pami_minor.proofs.pick.take_row.Given as goal

abbrev pub invariant-loop-i : goal.invariant-loop-i
invariant-loop-i l =
    (j : ℕ) × (k : Kept) × (l.i ≤ j) × (j < vec_len l.rows) × (slice_index_or l.rows.items j k ≡ k) × (k.at.place ≡ l.place)

abbrev pub decreases-loop-i : goal.decreases-loop-i
decreases-loop-i l = vec_len l.rows - l.i
