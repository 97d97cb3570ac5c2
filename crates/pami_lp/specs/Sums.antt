-- The sums of a row by their columns.
use Rattle.std.specs.Prelude.{ℕ, suc, List, [], ◌∷◌, Option, None, Some, if◌then◌else◌, nat_eq}
use Rattle.pami_frac.specs.declared.list.Entry.{Entry}

abbrev pub next_place : Option ℕ → Option ℕ
next_place None = None
next_place (Some i) = Some (suc i)

-- where a column's sum stands
abbrev pub place_in : List Entry → ℕ → Option ℕ
place_in [] column = None
place_in (e ∷ es) column = if nat_eq e.place column then Some 0 else next_place (place_in es column)
