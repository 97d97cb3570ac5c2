use Rattle.pami_cli.proofs.Runs.{refuses}
use Rattle.pami_cli.proofs.answer_laws.refused_files_have_a_fault.Goals as goal

pub returns : goal.returns
returns c = refuses
