use Rattle.pami_cli.proofs.Checks.{valid_shown}
use Rattle.pami_cli.proofs.answer_laws.valid_certificates_hold.Goals as goal

pub returns : goal.returns
returns c = valid_shown
