-- The digits of a number that isn't 0, from its first to its last that isn't 0.
use Rattle.std.specs.Prelude.{ℕ, ◌+◌, ◌*◌, ◌^◌, ◌<◌}

-- the digits from the first to the last that isn't 0, as a number
abbrev pub trimmed_digits : ℕ → ℕ → ℕ
trimmed_digits head last = 10 * head + last

-- at most 39 digits, of which the last isn't 0
pub record IsShort (head last : ℕ) : Type 0 where
  pub few : head < 10 ^ 38
  pub nonzero : 0 < last
  pub digit : last < 10
