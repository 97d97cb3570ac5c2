use Rattle.std.proofs.Common.{◌<◌, subst, sym, ap, ◌∙◌, length, ℕ}
use Rattle.pami_model.specs.Draft.{Draft}
use Rattle.pami_mps.proofs.Changed.{length_changed}
use Rattle.pami_mps.proofs.reader.Reader.add_entry.Goals as goal

pub returns-in-Ok-clause-some : goal.returns-in-Ok-clause-some
returns-in-Ok-clause-some c = subst (λ (n : ℕ). 0 < n) (sym (ap (λ (d : Draft). length d.columns) c.in-Ok.ensures.added ∙ length_changed _ _ _)) c.requires.some
