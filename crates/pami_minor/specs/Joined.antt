-- The slices of a row, one after the other.
use Rattle.std.specs.Prelude.{List, [], ◌∷◌, ◌++◌}
use Rattle.pami_frac.specs.declared.list.Entry.{Entry}

abbrev pub joined : List (List Entry) → List Entry
joined [] = []
joined (es ∷ slices) = es ++ joined slices
