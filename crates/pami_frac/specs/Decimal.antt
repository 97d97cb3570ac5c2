-- Decimals as texts: a sign, digits with a point, and a mark with a sign and digits, of which most may be missing.
use Rattle.std.specs.Prelude.{◌≡◌, ℕ, ◌+◌, ◌-◌, ◌*◌, ◌%◌, ◌^◌, ◌≤◌, ◌/◌, zero, suc, not, int_lt, Result, Ok, Err, Bool, true, false, cond, ◌&&◌, ◌||◌, ◌==◌, nat_le, List, [], ◌∷◌, ◌++◌, take, drop, length, ◌⊎◌, IsTrue}
use Rattle.std.specs.List.{list_all, position_or_len}
use lib.IntN.{ℤ, pos, negsuc, ◌+ℤ◌, ◌-ℤ◌, ◌*ℤ◌}
use lib.Signed.{◌<ℤ◌}
use Rattle.pami_algebra.specs.Fraction.{Fraction}
use Rattle.pami_algebra.specs.Reduced.{over}
use Rattle.pami_frac.specs.declared.fault.DecimalFault.{DecimalFault}
use Rattle.pami_frac.specs.declared.fault.DecimalFault.TheVariants.{NotANumber, TooWide}
use Rattle.pami_frac.specs.Range.{signed_of, fits}

-- ---- the grammar

-- '0' .. '9'
abbrev pub is_digit : ℕ → Bool
is_digit c = nat_le 48 c && nat_le c 57

-- '+' or '-'
abbrev pub is_sign : ℕ → Bool
is_sign c = c == 43 || c == 45

-- 'e' or 'E'
abbrev pub is_mark : ℕ → Bool
is_mark c = c == 101 || c == 69

-- '.'
abbrev pub is_point : ℕ → Bool
is_point c = c == 46

-- it begins with '-'
abbrev pub is_negative : List ℕ → Bool
is_negative [] = false
is_negative (c ∷ cs) = c == 45

-- without the sign that it may begin with
abbrev pub unsigned : List ℕ → List ℕ
unsigned [] = []
unsigned (c ∷ cs) = cond (is_sign c) cs (c ∷ cs)

-- what stands before the first byte that passes
abbrev pub before : (ℕ → Bool) → List ℕ → List ℕ
before p text = take (position_or_len p text) text

-- the first byte that passes and all that follows it
abbrev pub onward : (ℕ → Bool) → List ℕ → List ℕ
onward p text = drop (position_or_len p text) text

-- at least one digit, and nothing else
abbrev pub are_digits : List ℕ → Bool
are_digits [] = false
are_digits (c ∷ cs) = list_all is_digit (c ∷ cs)

-- a text's digits before the point, if it is a decimal
abbrev pub whole_digits : List ℕ → List ℕ
whole_digits text = before is_point (before is_mark (unsigned text))

-- its digits after the point
abbrev pub fraction_digits : List ℕ → List ℕ
fraction_digits text = drop 1 (onward is_point (before is_mark (unsigned text)))

-- its exponent with the mark, or nothing
abbrev pub exponent_part : List ℕ → List ℕ
exponent_part text = onward is_mark (unsigned text)

-- nothing, or a mark, a sign that may be missing, and digits
abbrev pub is_exponent : List ℕ → Bool
is_exponent [] = true
is_exponent (mark ∷ power) = are_digits (unsigned power)

-- the text is a decimal
abbrev pub is_decimal : List ℕ → Bool
is_decimal text = are_digits (whole_digits text ++ fraction_digits text) && is_exponent (exponent_part text)

-- ---- the value

-- the number that digits write when they follow those of n
abbrev pub number_after : ℕ → List ℕ → ℕ
number_after n [] = n
number_after n (c ∷ cs) = number_after (n * 10 + (c - 48)) cs

-- the digits without the point as one number
abbrev pub mantissa : List ℕ → ℕ
mantissa text = number_after 0 (whole_digits text ++ fraction_digits text)

-- the number after the mark, 0 where there is none
abbrev pub power_of : List ℕ → ℤ
power_of [] = pos 0
power_of (mark ∷ power) = signed_of (is_negative power) (number_after 0 (unsigned power))

-- the power of ten that the mantissa is taken by
abbrev pub exponent : List ℕ → ℤ
exponent text = power_of (exponent_part text) -ℤ pos (length (fraction_digits text))

-- m times 10 to the power e
abbrev pub scaled : ℤ → ℤ → Fraction
scaled m (pos e) = over (m *ℤ pos (10 ^ e)) 1
scaled m (negsuc e) = over m (10 ^ suc e)

-- the value of a decimal
abbrev pub decimal_value : List ℕ → Fraction
decimal_value text = scaled (signed_of (is_negative text) (mantissa text)) (exponent text)

-- ---- the limits

-- m and e with the zeros at the end of m taken off, each of which raises the exponent; 0 has no such form
pub record IsTrimmed (m : ℕ) (e : ℤ) (digits : ℕ) (power : ℤ) : Type 0 where
  pub zeros : ℕ
  pub same : m ≡ digits * 10 ^ zeros
  pub raised : power ≡ e +ℤ pos zeros
  pub ends : ¬ (digits % 10 ≡ 0)

-- trimmed it has more than 39 digits or an exponent below -38, or the value is out of range
pub record IsTooWide (m : ℕ) (e : ℤ) (value : Fraction) : Type 0 where
  pub digits : ℕ
  pub power : ℤ
  pub trimmed : IsTrimmed m e digits power
  pub reason : (10 ^ 39 ≤ digits) ⊎ ((power <ℤ negsuc 37) ⊎ (¬ IsTrue (fits value)))

-- the text is a decimal past the limits
abbrev pub IsWideDecimal : List ℕ → Type 0
IsWideDecimal text = IsTrue (is_decimal text) × IsTooWide (mantissa text) (exponent text) (decimal_value text)

-- ---- the same limits as a test

-- a number without the zeros at its end, which are looked for in at most so many steps
unfoldable pub digits_within : ℕ → ℕ → ℕ
digits_within zero m = m
digits_within (suc k) m = cond (m % 10 == 0) (digits_within k (m / 10)) m

-- how many zeros stand there
unfoldable pub zeros_within : ℕ → ℕ → ℕ
zeros_within zero m = 0
zeros_within (suc k) m = cond (m % 10 == 0) (suc (zeros_within k (m / 10))) 0

abbrev pub is_too_wide : ℕ → ℤ → Fraction → Bool
is_too_wide m e value =
    not (m == 0) && (nat_le (10 ^ 39) (digits_within m m) || (int_lt (e +ℤ pos (zeros_within m m)) (negsuc 37) || not (fits value)))

-- what the text is read as
unfoldable pub decimal_outcome : List ℕ → Result Fraction DecimalFault
decimal_outcome text =
    cond (is_decimal text)
    (cond (is_too_wide (mantissa text) (exponent text) (decimal_value text)) (Err TooWide) (Ok (decimal_value text)))
    (Err NotANumber)
