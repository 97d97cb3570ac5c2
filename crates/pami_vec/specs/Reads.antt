-- How lists of entries are read side by side, and how one is written.
use Rattle.std.specs.Prelude.{ℕ, List, [], ◌∷◌, ◌++◌, Option, None, Some, cond, ltb}
use lib.IntN.{pos}
use lib.Dec.{eqb}
use Rattle.pami_algebra.specs.Fraction.{Fraction}
use Rattle.pami_algebra.specs.Operations.{of_int}
use Rattle.pami_frac.specs.Signs.{is_zero}
use Rattle.pami_frac.specs.declared.list.Entry.{Entry}

-- the place of the first entry
abbrev pub first_place : List Entry → Option ℕ
first_place [] = None
first_place (e ∷ es) = Some e.place

-- the lesser of two places
abbrev pub lesser : Option ℕ → Option ℕ → Option ℕ
lesser None q = q
lesser (Some p) None = Some p
lesser (Some p) (Some q) = cond (ltb q p) (Some q) (Some p)

-- the value at a place that no entry is below
abbrev pub first_value : ℕ → List Entry → Fraction
first_value p [] = of_int (pos 0)
first_value p (e ∷ es) = cond (eqb e.place p) e.value (of_int (pos 0))

-- the entries past such a place
abbrev pub rest_after : ℕ → List Entry → List Entry
rest_after p [] = []
rest_after p (e ∷ es) = cond (eqb e.place p) es (e ∷ es)

-- an entry more, unless its value is 0
abbrev pub with_entry : List Entry → ℕ → Fraction → List Entry
with_entry es p v = cond (is_zero v) es (es ++ record { place = p; value = v } ∷ [])
