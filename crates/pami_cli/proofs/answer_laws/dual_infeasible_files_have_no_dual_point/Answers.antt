use Rattle.pami_cli.proofs.Runs.{no_dual_point}
use Rattle.pami_cli.proofs.answer_laws.dual_infeasible_files_have_no_dual_point.Goals as goal

pub returns : goal.returns
returns c = no_dual_point
