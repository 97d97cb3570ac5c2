-- The candidate that comes first in the walk, where candidates stand in a list in any order.
use Rattle.std.specs.Prelude.{◌≡◌, ℕ, suc, ◌<◌, true, false, List, [], ◌∷◌, length, Option, None, Some, slice_index_or}
use Rattle.pami_theory.specs.Order.{ordered}
use Rattle.pami_bfrt.specs.Candidates.{comes_before}
use Rattle.pami_bfrt.specs.declared.candidate.Candidate.{Candidate}

-- of the first n candidates the one of this index is before those behind it, and none before it is before it in the walk
pub record IsFirst (cs : List Candidate) (i n : ℕ) : Type 0 where
  pub within : i < n
  pub earlier : (d : Candidate) (k : ℕ) → k < i → comes_before (slice_index_or cs k d) (slice_index_or cs i d) ≡ false
  pub later : (d : Candidate) (k : ℕ) → i < k → k < n → comes_before (slice_index_or cs i d) (slice_index_or cs k d) ≡ true

-- the first candidate of the walk, and the others; None where there is none
abbrev pub TakesFirst : List Candidate → Option Candidate → List Candidate → Type 0
TakesFirst cs None rest = (cs ≡ []) × (rest ≡ [])
TakesFirst cs (Some c) rest = (ordered comes_before cs ≡ c ∷ ordered comes_before rest) × (length cs ≡ suc (length rest))
