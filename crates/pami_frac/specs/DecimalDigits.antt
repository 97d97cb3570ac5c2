-- What the reader of a decimal knows of the digits that it has read.
use Rattle.std.specs.Prelude.{◌≡◌, ℕ, ◌-◌, ◌*◌, ◌%◌, ◌^◌, ◌<◌, ◌≤◌, ◌⊎◌}
use lib.IntN.{ℤ, pos, negsuc, neg_ℤ}
use lib.Signed.{◌≤ℤ◌, ◌<ℤ◌}
use Rattle.pami_frac.specs.DecimalShort.{trimmed_digits}
use Rattle.pami_frac.specs.declared.decimal.Mantissa.{Mantissa}
use Rattle.pami_frac.specs.declared.decimal.Mantissa.TheVariants.{Zero, Held, Wide}

-- without the zeros at its end the number has more than 39 digits
pub record IsLong (m : ℕ) : Type 0 where
  pub digits : ℕ
  pub zeros : ℕ
  pub same : m ≡ digits * 10 ^ zeros
  pub many : 10 ^ 39 ≤ digits
  pub ends : ¬ (digits % 10 ≡ 0)

-- the digits read so far write m
abbrev pub IsRead : Mantissa → ℕ → Type 0
IsRead Zero m = m ≡ 0
IsRead (Held t) m = m ≡ trimmed_digits t.head t.last * 10 ^ t.zeros
IsRead Wide m = IsLong m

-- how many zeros stand at the end
abbrev pub zeros_of : Mantissa → ℕ
zeros_of Zero = 0
zeros_of (Held t) = t.zeros
zeros_of Wide = 0

-- the same exponent, or two that are both above 38 or both below -38
abbrev pub IsSameScale : ℤ → ℤ → Type 0
IsSameScale a b = (a ≡ b) ⊎ (((pos 39 ≤ℤ a) × (pos 39 ≤ℤ b)) ⊎ ((a <ℤ negsuc 37) × (b <ℤ negsuc 37)))

-- n has k digits, none of which is a 0 in front; 0 has none
pub record HasDigits (n k : ℕ) : Type 0 where
  pub below : n < 10 ^ k
  pub above : 0 < k → 10 ^ (k - 1) ≤ n

-- the same power of ten, or both of a size past all counts of digits
abbrev pub IsSamePower : ℤ → ℤ → Type 0
IsSamePower a b = (a ≡ b) ⊎ (((pos (2 ^ 100) ≤ℤ a) × (pos (2 ^ 100) ≤ℤ b)) ⊎ ((a ≤ℤ neg_ℤ (pos (2 ^ 100))) × (b ≤ℤ neg_ℤ (pos (2 ^ 100)))))
