use Rattle.std.proofs.Common.{◌≡◌, map, take, vec_len, vec_capacity}
use Rattle.pami_minor.specs.declared.kept.Kept.{Kept}
use Rattle.pami_minor.proofs.pick.note_places.Given as goal

abbrev pub invariant-loop-row : goal.invariant-loop-row
invariant-loop-row l =
    (l.places.items ≡ map (λ (k : Kept). k.at.place) (take l.row-index l.rows))
    × (vec_len l.places ≡ l.row-index) × (vec_capacity l.places ≡ vec_capacity l.fn.places)
