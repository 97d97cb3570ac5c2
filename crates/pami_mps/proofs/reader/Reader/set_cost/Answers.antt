use Rattle.std.proofs.Common.{◌<◌, subst, sym, ap, ◌∙◌, length, ℕ}
use Rattle.pami_model.specs.Draft.{Draft}
use Rattle.pami_mps.proofs.Changed.{length_changed}
use Rattle.pami_mps.proofs.reader.Reader.set_cost.Goals as goal

pub returns-clause-some : goal.returns-clause-some
returns-clause-some c = subst (λ (n : ℕ). 0 < n) (sym (ap (λ (d : Draft). length d.columns) c.set_cost.ensures.set ∙ length_changed _ _ _)) c.requires
