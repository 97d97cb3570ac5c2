use Rattle.pami_method.proofs.Answers.{phase_one_enters}
use Rattle.pami_method.proofs.answer_laws.phase_one_enters.Goals as goal

pub returns : goal.returns
returns c = record { enters = phase_one_enters }
