use Rattle.std.proofs.Common.{[], length, sym, ap, ◌∙◌}
use Rattle.pami_lu.specs.Stored.{full_steps}
use Rattle.pami_lu.proofs.Restored.{full_length}
use Rattle.pami_lu.proofs.lu.Lu.steps.Goals as goal

pub returns-clause-count : goal.returns-clause-count
returns-clause-count c = sym (full_length [] c.as_slice.result.now) ∙ ap length (ap (full_steps []) c.as_slice.ensures.value ∙ c.self.view_is)
