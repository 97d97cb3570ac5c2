-- The elimination of a square matrix over fractions without bound, and the solves by its steps. `w h g` is the entry of
-- row h at place g; r and c say which rows and which places are active.
use Rattle.std.specs.Prelude.{ℕ, zero, suc, Bool, true, List, [], ◌∷◌, Result, Ok, Err}
use lib.IntN.{pos}
use Rattle.pami_algebra.specs.Fraction.{Fraction}
use Rattle.pami_algebra.specs.Operations.{◌-ᶠ◌, ◌*ᶠ◌, ◌/ᶠ◌, of_int}
use Rattle.pami_linear.specs.Active.{minus_to, but, first_from, set_at}
use Rattle.pami_linear.specs.Pivoting.{pivot, at_pivot}

-- ---- the steps

-- one step of an elimination
pub record EliminationStep : Type 0 where
  pub row : ℕ  -- of the pivot
  pub place : ℕ
  pub kept : ℕ → Fraction  -- the pivot's row, by place; it is read at the places that were active before it
  pub multiplier : ℕ → Fraction  -- by row; it is read in the rows that stay active
  pub rows : ℕ → Bool  -- those that are active after it
  pub places : ℕ → Bool

-- how often the pivot's row is taken from row h
abbrev pub multiplier_of : (ℕ → ℕ → Fraction) → ℕ → ℕ → ℕ → Fraction
multiplier_of w i p h = w h p /ᶠ w i p

-- the matrix after a step with pivot (i, p)
abbrev pub reduced : (ℕ → ℕ → Fraction) → ℕ → ℕ → ℕ → ℕ → Fraction
reduced w i p h g = w h g -ᶠ multiplier_of w i p h *ᶠ w i g

abbrev pub step_of : (ℕ → Bool) → (ℕ → Bool) → (ℕ → ℕ → Fraction) → ℕ → ℕ → EliminationStep
step_of r c w i p = record { row = i; place = p; kept = w i; multiplier = multiplier_of w i p; rows = but i r; places = but p c }

-- a step before the others
abbrev pub more : EliminationStep → Result (List EliminationStep) ℕ → Result (List EliminationStep) ℕ
more s (Ok ss) = Ok (s ∷ ss)
more s (Err p) = Err p

-- the steps, or the least active place where no pivot is left
abbrev pub eliminate_from : ℕ → ℕ → (ℕ → Bool) → (ℕ → Bool) → (ℕ → ℕ → Fraction) → Result (List EliminationStep) ℕ
eliminate_from zero m r c w = Ok []
eliminate_from (suc n) m r c w =
    at_pivot (pivot m r c w) (Err (first_from m 0 c)) (λ i p. more (step_of r c w i p) (eliminate_from n m (but i r) (but p c) (reduced w i p)))

-- the steps of a whole matrix with m rows and m places, or the least place that is left without a pivot
unfoldable pub eliminate : ℕ → (ℕ → ℕ → Fraction) → Result (List EliminationStep) ℕ
eliminate m w = eliminate_from m m (λ h. true) (λ g. true) w

-- ---- the solves
-- what is left of the right side below a step; rows that aren't active are not read again
abbrev pub below : EliminationStep → (ℕ → Fraction) → ℕ → Fraction
below s b h = b h -ᶠ s.multiplier h *ᶠ b s.row

-- a solution with the value at the step's place, where t is what stands on the right side of the step's row
abbrev pub placed : ℕ → EliminationStep → Fraction → (ℕ → Fraction) → ℕ → Fraction
placed m s t x = set_at s.place (minus_to m s.places (λ g. s.kept g *ᶠ x g) t /ᶠ s.kept s.place) x

-- B x = b by the steps: down with the right side, which goes by row, and up with the solution, which goes by place
abbrev pub forward : ℕ → List EliminationStep → (ℕ → Fraction) → ℕ → Fraction
forward m [] b = λ g. of_int (pos 0)
forward m (s ∷ ss) b = placed m s (b s.row) (forward m ss (below s b))

-- how often the step's kept row is in d
abbrev pub head_of : EliminationStep → (ℕ → Fraction) → Fraction
head_of s d = d s.place /ᶠ s.kept s.place

-- what is left of d beside a step
abbrev pub beside : EliminationStep → (ℕ → Fraction) → ℕ → Fraction
beside s d g = d g -ᶠ head_of s d *ᶠ s.kept g

-- a solution with the value in the step's row
abbrev pub raised : ℕ → EliminationStep → Fraction → (ℕ → Fraction) → ℕ → Fraction
raised m s t v = set_at s.row (minus_to m s.rows (λ h. s.multiplier h *ᶠ v h) t) v

-- y B = d by the steps: d goes by place, the solution by row
abbrev pub backward : ℕ → List EliminationStep → (ℕ → Fraction) → ℕ → Fraction
backward m [] d = λ h. of_int (pos 0)
backward m (s ∷ ss) d = raised m s (head_of s d) (backward m ss (beside s d))
