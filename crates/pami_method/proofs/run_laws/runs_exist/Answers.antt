use Rattle.pami_method.proofs.BatchExists.{has_batch}
use Rattle.pami_method.proofs.WalkExists.{has_walk}
use Rattle.pami_method.proofs.RunExists.{has_run}
use Rattle.pami_method.proofs.run_laws.runs_exist.Goals as goal

pub returns : goal.returns
returns c = record {
  run = has_run;
  walk = λ f o number mode st s some b h l. has_walk f o number mode st some (record { basis = b; fresh = s; solved = h; within = l });
  batch = has_batch;
}
