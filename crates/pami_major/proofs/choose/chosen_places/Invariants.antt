use Rattle.std.proofs.Common.{◌≡◌, map, take}
use Rattle.pami_chuzr.specs.declared.row.ChosenRow.{ChosenRow}
use Rattle.pami_major.proofs.choose.chosen_places.Given as goal

abbrev pub invariant-loop-row : goal.invariant-loop-row
invariant-loop-row l = l.places.items ≡ map (λ (row : ChosenRow). row.place) (take l.row-index l.rows)
