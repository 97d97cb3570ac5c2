use Rattle.std.proofs.Common.{◌≡◌, sum, take}
use Rattle.pami_trial.proofs.rows.total_of.Given as goal

abbrev pub invariant-loop-demand : goal.invariant-loop-demand
invariant-loop-demand l = l.total ≡ sum (take l.demand-index l.demands)
