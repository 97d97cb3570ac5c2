-- Dual Devex weights in whole numbers (after Forrest and Goldfarb 1992): powers of 4 in place of squares, at most 2^40.
use Rattle.std.specs.Prelude.{ℕ, ◌*◌, ◌/◌, ◌^◌, List, length, map, if◌then◌else◌, nat_eq, nat_lt, slice_index_or}
use Rattle.std.specs.List.{range_with_len}
use lib.IntN.{ℤ, pos, negsuc, ◌-ℤ◌}
use Rattle.pami_algebra.specs.Fraction.{Fraction}
use Rattle.pami_algebra.specs.Operations.{is_zero}
use Rattle.pami_algebra.specs.Size.{size}
use Rattle.pami_linear.specs.Lists.{get}

-- the weight of a place
abbrev pub weight_at : List ℕ → ℕ → ℕ
weight_at weights p = slice_index_or weights p 1

abbrev pub greater : ℕ → ℕ → ℕ
greater m n = if nat_lt m n then n else m

abbrev pub lesser : ℕ → ℕ → ℕ
lesser m n = if nat_lt m n then m else n

-- brought into 0 .. 16
abbrev pub clamped : ℤ → ℕ
clamped (pos n) = lesser n 16
clamped (negsuc n) = 0

-- the weight of place i behind a pivot at place p with the column alpha, by place
abbrev pub weight_after : List Fraction → ℕ → List ℕ → ℕ → ℕ
weight_after alpha p weights i =
    if nat_eq i p then greater 1 (weight_at weights p / 2 ^ (2 * clamped (size (get alpha p)))) else
    if is_zero (get alpha i) then weight_at weights i else
    greater (weight_at weights i) (lesser (2 ^ (2 * clamped (size (get alpha i) -ℤ size (get alpha p))) * weight_at weights p) (2 ^ 40))

-- the weights of all places
abbrev pub weights_after : List Fraction → ℕ → List ℕ → List ℕ
weights_after alpha p weights = map (weight_after alpha p weights) (range_with_len 0 (length weights))
