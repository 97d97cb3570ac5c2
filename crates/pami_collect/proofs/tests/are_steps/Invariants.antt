use Rattle.std.proofs.Common.{◌≡◌, ◌<◌, length, take}
use Rattle.std.specs.List.{All}
use Rattle.pami_vec.specs.declared.step.Step.{Step}
use Rattle.pami_collect.proofs.tests.are_steps.Given as goal

abbrev pub invariant-loop-step : goal.invariant-loop-step
invariant-loop-step l = All (λ s. (s.place < l.rows) × (length s.flip_column ≡ l.rows)) (take l.step-index l.steps)
