-- What is ahead of an index that goes along the entries of a vector.
use Rattle.std.specs.Prelude.{ℕ, Bool, false, cond, ltb, List, [], ◌∷◌}
use lib.Dec.{eqb}
use Rattle.pami_frac.specs.declared.list.Entry.{Entry}

-- the entries from place p on
abbrev pub from_place : ℕ → List Entry → List Entry
from_place p [] = []
from_place p (e ∷ es) = cond (ltb e.place p) (from_place p es) (e ∷ es)

-- is the first of them at place p?
abbrev pub is_first : ℕ → List Entry → Bool
is_first p [] = false
is_first p (e ∷ es) = eqb e.place p
