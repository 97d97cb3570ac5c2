use Rattle.pami_deferral.proofs.UnrefusedTasks.{unrefused_row, unrefused_column, unrefused_flips, unrefused_transform, unrefused_values}
use Rattle.pami_deferral.proofs.work_laws.unrefused_majors_are_exact.Goals as goal

pub returns : goal.returns
returns c = record {
  row = unrefused_row;
  column = λ f limit h first es m ms last steps x. unrefused_column f limit h first es m ms last steps x.basis x.fresh x.batch;
  flips = unrefused_flips;
  transform = λ f limit h first es m ms last x. unrefused_transform f limit h first es m ms last x.basis x.fresh x.batch;
  values = λ f limit h first ms last x. unrefused_values f limit h first ms last x.basis x.fresh x.batch;
}
