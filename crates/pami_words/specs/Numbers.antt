-- The numbers that words write.
use Rattle.std.specs.Prelude.{ℕ, ◌+◌, ◌-◌, ◌*◌, ◌&&◌, List, length, Option, None, Some, option_and_then, if◌then◌else◌, nat_le}
use Rattle.pami_frac.specs.Decimal.{is_digit, are_digits, number_after}

-- the number that 1 to 10 digits write, if it is at most the greatest
abbrev pub number_in : ℕ → List ℕ → Option ℕ
number_in greatest text =
    let n = number_after 0 text in
    if are_digits text && (nat_le (length text) 10 && nat_le n greatest) then Some n else None

-- the same, if it is at least the least as well
abbrev pub number_between : ℕ → ℕ → List ℕ → Option ℕ
number_between least greatest text =
    option_and_then (λ n. if nat_le least n then Some n else None) (number_in greatest text)

-- a number with one more digit, if the byte is a digit and the number stays at most the greatest
abbrev pub longer : ℕ → ℕ → ℕ → Option ℕ
longer greatest number byte =
    let n = number * 10 + (byte - 48) in
    if is_digit byte && nat_le n greatest then Some n else None
