use Rattle.pami_cli.proofs.Checks.{invalid_disproved}
use Rattle.pami_cli.proofs.answer_laws.invalid_certificates_fail.Goals as goal

pub returns : goal.returns
returns c = invalid_disproved
