-- Sums of fractions over the numbers below a length. A vector is a function of the index, beside its length.
use Rattle.std.specs.Prelude.{ℕ, zero, suc, cond}
use lib.IntN.{pos}
use lib.Dec.{eqb}
use Rattle.pami_algebra.specs.Fraction.{Fraction}
use Rattle.pami_algebra.specs.Operations.{◌+ᶠ◌, ◌*ᶠ◌, of_int}

-- f 0 + f 1 + .. + f (n - 1)
abbrev pub sum_to : ℕ → (ℕ → Fraction) → Fraction
sum_to zero f = of_int (pos 0)
sum_to (suc n) f = sum_to n f +ᶠ f n

-- the scalar product of two vectors of length m
abbrev pub dot : ℕ → (ℕ → Fraction) → (ℕ → Fraction) → Fraction
dot m u v = sum_to m (λ i. u i *ᶠ v i)

-- the unit vector of index p: 1 there and 0 elsewhere
abbrev pub unit : ℕ → ℕ → Fraction
unit p k = cond (eqb p k) (of_int (pos 1)) (of_int (pos 0))
