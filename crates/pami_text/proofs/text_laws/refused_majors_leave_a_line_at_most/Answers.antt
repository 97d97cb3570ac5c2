use Rattle.pami_text.proofs.Parts.{full_refused, single_refused}
use Rattle.pami_text.proofs.text_laws.refused_majors_leave_a_line_at_most.Goals as goal

pub returns : goal.returns
returns c = record { full = full_refused; single = single_refused }
