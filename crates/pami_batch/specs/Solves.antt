-- How often a batch solves.
use Rattle.std.specs.Prelude.{◌≡◌, ℕ, ◌+◌, length, Result, Ok, Err}
use Rattle.pami_frac.specs.declared.fault.OutOfMemory.{OutOfMemory}
use Rattle.pami_batch.specs.declared.outcome.Outcome.{Outcome}
use Rattle.pami_batch.specs.declared.outcome.Outcome.TheVariants.{Collected, NoEntering, Refused}

-- The most solves of a batch of so many chosen rows, by what it comes to: one for the row of each, and where it is collected one
-- for the column of each pivot and one for the flips. A refused one may have taken as many pivots as rows.
abbrev pub most_solves : ℕ → Result Outcome OutOfMemory → ℕ
most_solves rows (Ok (Collected state pivots moves)) = rows + length pivots + 1
most_solves rows (Ok (NoEntering rho moves)) = rows
most_solves rows (Ok (Refused place)) = rows + rows + 1
most_solves rows (Err e) = rows + rows + 1

-- what was collected has so many pivots, and no row was stuck
abbrev pub HasPivots : ℕ → Outcome → Type 0
HasPivots n (Collected state pivots moves) = length pivots ≡ n
HasPivots n (NoEntering rho moves) = ⊥
HasPivots n (Refused place) = Unit {0}
