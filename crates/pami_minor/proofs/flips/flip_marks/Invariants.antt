use Rattle.std.proofs.Common.{◌≡◌, ℕ, length, get_or, false, take}
use Rattle.pami_theory.specs.Step.{is_among}
use Rattle.pami_minor.proofs.flips.flip_marks.Given as goal

abbrev pub invariant-loop-v : goal.invariant-loop-v
invariant-loop-v l = (length l.marks.items ≡ l.count) × ((v : ℕ) → get_or l.marks.items v false ≡ is_among v (take l.v-index l.flips))
