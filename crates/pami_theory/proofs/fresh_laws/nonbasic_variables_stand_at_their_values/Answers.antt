use Rattle.pami_theory.proofs.Places.{nonbasic_standing, standing_basic}
use Rattle.pami_theory.proofs.fresh_laws.nonbasic_variables_stand_at_their_values.Goals as goal

pub returns : goal.returns
returns c = record { standing = nonbasic_standing; basic = standing_basic }
