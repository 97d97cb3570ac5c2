use Rattle.pami_theory.proofs.Forms.{point_by_rows}
use Rattle.pami_theory.proofs.point_laws.points_go_by_rows.Goals as goal

pub returns : goal.returns
returns c = record { rows = point_by_rows }
