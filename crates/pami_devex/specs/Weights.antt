-- The range of a weight, and the weight behind a pivot of its own place and of another one.
use Rattle.std.specs.Prelude.{ℕ, ◌*◌, ◌/◌, ◌<◌, ◌≤◌, ◌^◌, List, length, if◌then◌else◌}
use lib.IntN.{◌-ℤ◌}
use Rattle.pami_algebra.specs.Fraction.{Fraction}
use Rattle.pami_algebra.specs.Operations.{is_zero}
use Rattle.pami_algebra.specs.Size.{size}
use Rattle.pami_theory.specs.Weights.{weight_at, greater, lesser, clamped}

-- from 1 to 2^40
pub record IsWeight (weight : ℕ) : Type 0 where
  pub least : 1 ≤ weight
  pub most : weight ≤ 2 ^ 40

-- the weights of all places are in that range
abbrev pub AreWeights : List ℕ → Type 0
AreWeights weights = (p : ℕ) → p < length weights → IsWeight (weight_at weights p)

-- the weight of a place behind a pivot at another one: from its own weight, its entry and the pivot's entry in the
-- entering column, and the weight of the pivot's place
abbrev pub weight_beside : ℕ → Fraction → Fraction → ℕ → ℕ
weight_beside weight alpha_i alpha_p weight_p =
    if is_zero alpha_i then weight else
    greater weight (lesser (2 ^ (2 * clamped (size alpha_i -ℤ size alpha_p)) * weight_p) (2 ^ 40))

-- the weight of the pivot's own place, from its entry in the entering column
abbrev pub weight_at_pivot : ℕ → Fraction → ℕ
weight_at_pivot weight alpha_p = greater 1 (weight / 2 ^ (2 * clamped (size alpha_p)))
