use Rattle.std.proofs.Common.{◌≤◌, map}
use Rattle.std.specs.Vec.{vec_len}
use Rattle.pami_chuzr.specs.Choice.{row_by}
use Rattle.pami_chuzr.proofs.Surveyed.{Surveyed}
use Rattle.pami_chuzr.proofs.choice.chosen_rows.Given as goal

abbrev pub invariant-loop-place : goal.invariant-loop-place
invariant-loop-place l = record {
  few : vec_len l.ranked ≤ l.most;
  surveyed : Surveyed l.bounds l.values l.weights l.most l.place (map row_by l.ranked.items);
}
