use Rattle.pami_linear.proofs.Systems.{solutions_meet, row_meets_column}
use Rattle.pami_linear.proofs.system_laws.both_systems_meet.Goals as goal

pub returns : goal.returns
returns c = record {
  meet = solutions_meet;
  row_meets_column = row_meets_column;
}
