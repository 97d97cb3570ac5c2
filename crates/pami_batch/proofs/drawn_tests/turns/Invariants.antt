use Rattle.std.proofs.Common.{ℕ}
use Rattle.pami_method.specs.Batch.{Reached}
use Rattle.pami_form.specs.FormOf.{form_of}
use Rattle.pami_minor.specs.Fresh.{IsFreshMinor}
use Rattle.pami_batch.proofs.drawn_tests.turns.Given as goal

abbrev pub invariant-loop-number : goal.invariant-loop-number
invariant-loop-number l = (limit : ℕ) × (r : Reached) × IsFreshMinor (form_of l.form) limit r l.minor
