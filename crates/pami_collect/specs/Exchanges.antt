-- The steps of a program as the scripts of the collective update read them.
use Rattle.std.specs.Prelude.{List, [], ◌∷◌}
use Rattle.pami_algebra.specs.Fraction.{Fraction}
use Rattle.pami_deferral.specs.Listed.{Exchange}
use Rattle.pami_vec.specs.declared.step.Step.{Step}

-- what a step's flips change, by row
abbrev pub flips_of : Step → List Fraction
flips_of s = s.flip_column

-- what a step exchanges, with the entering variable's column by the first basis
abbrev pub exchange_of : Step → List Fraction → Exchange
exchange_of s column = record { place = s.place; value = s.old_value; bound = s.bound; column = column }

-- all steps with their columns, as many as there are of both
abbrev pub exchanges_of : List Step → List (List Fraction) → List Exchange
exchanges_of (s ∷ ss) (c ∷ cs) = exchange_of s c ∷ exchanges_of ss cs
exchanges_of _ _ = []
