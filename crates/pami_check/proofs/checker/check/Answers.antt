use Rattle.std.proofs.Common.{sym, ◌∙◌}
use Rattle.pami_model.specs.Contents.{contents}
use Rattle.pami_check.proofs.Sound.{valid_holds, invalid_fails, holds_shows}
use Rattle.pami_check.proofs.checker.check.Goals as goal

pub returns-clause-valid : goal.returns-clause-valid
returns-clause-valid c = λ e. valid_holds (contents c.args.model.now) c.args.cert.now (sym c.judge.ensures ∙ e)

pub returns-clause-shown : goal.returns-clause-shown
returns-clause-shown c = λ holds. holds_shows (contents c.args.model.now) c.args.cert.now holds

pub returns-clause-invalid : goal.returns-clause-invalid
returns-clause-invalid c =
    λ condition variable e. invalid_fails (contents c.args.model.now) c.args.cert.now condition variable (sym c.judge.ensures ∙ e)
