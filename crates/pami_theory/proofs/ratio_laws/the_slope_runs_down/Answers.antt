use Rattle.pami_theory.proofs.Slopes.{slope_at_member, walk_down_is}
use Rattle.pami_theory.proofs.ratio_laws.the_slope_runs_down.Goals as goal

pub returns : goal.returns
returns c = record { slope = slope_at_member; walk = walk_down_is }
