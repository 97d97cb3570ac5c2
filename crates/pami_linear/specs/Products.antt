-- The product form: the columns of a basis after some pivots, and the solves that go through these pivots.
use Rattle.std.specs.Prelude.{◌≡◌, ℕ, ◌<◌, true, List, [], ◌∷◌}
use lib.IntN.{pos}
use Rattle.pami_algebra.specs.Fraction.{Fraction}
use Rattle.pami_algebra.specs.Operations.{◌*ᶠ◌, ◌/ᶠ◌, of_int}
use Rattle.pami_linear.specs.Sums.{sum_to}
use Rattle.pami_linear.specs.Systems.{replaced, stepped}
use Rattle.pami_linear.specs.Active.{minus_to, but, set_at}

-- one pivot: the column at a place is replaced, and by the columns before it the new one is `column`, by place
pub record ProductPivot : Type 0 where
  pub place : ℕ
  pub column : ℕ → Fraction

-- a pivot of a basis with m places: its own member of the column isn't 0
pub record IsProductPivot (m : ℕ) (e : ProductPivot) : Type 0 where
  pub place_low : e.place < m
  pub nonzero : ¬ (e.column e.place ≡ of_int (pos 0))

-- the column whose solution by the columns b is alpha: B alpha, by row
abbrev pub combination : ℕ → (ℕ → ℕ → Fraction) → (ℕ → Fraction) → ℕ → Fraction
combination m b alpha i = sum_to m (λ k. b k i *ᶠ alpha k)

-- the columns after one pivot: the one at its place is the one whose solution it has
abbrev pub columns_with : ℕ → (ℕ → ℕ → Fraction) → ProductPivot → ℕ → ℕ → Fraction
columns_with m b e = replaced b e.place (combination m b e.column)

-- after all pivots, the first one first
abbrev pub columns_after : ℕ → (ℕ → ℕ → Fraction) → List ProductPivot → ℕ → ℕ → Fraction
columns_after m b [] = b
columns_after m b (e ∷ es) = columns_after m (columns_with m b e) es

-- the columns c are those after the pivots, at the rows and places of a basis with m places
abbrev pub AreAfter : ℕ → List ProductPivot → (ℕ → ℕ → Fraction) → (ℕ → ℕ → Fraction) → Type 0
AreAfter m es b c = (k i : ℕ) → k < m → i < m → columns_after m b es k i ≡ c k i

-- a solution, by place, through one pivot: the quotient at its place, and the others less its multiple
abbrev pub transformed : ProductPivot → (ℕ → Fraction) → ℕ → Fraction
transformed e x = stepped e.place e.column (x e.place /ᶠ e.column e.place) x

-- through all pivots, the first one first
abbrev pub transformed_by : List ProductPivot → (ℕ → Fraction) → ℕ → Fraction
transformed_by [] x = x
transformed_by (e ∷ es) x = transformed_by es (transformed e x)

-- the right side d of a backward solve, by place, through one pivot: only the member at its place changes
abbrev pub gathered : ℕ → ProductPivot → (ℕ → Fraction) → ℕ → Fraction
gathered m e d = set_at e.place (minus_to m (but e.place (λ k. true)) (λ k. d k *ᶠ e.column k) (d e.place) /ᶠ e.column e.place) d

-- through all pivots, the last one first
abbrev pub gathered_by : ℕ → List ProductPivot → (ℕ → Fraction) → ℕ → Fraction
gathered_by m [] d = d
gathered_by m (e ∷ es) d = gathered m e (gathered_by m es d)
