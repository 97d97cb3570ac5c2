-- Flags: which rows or places of `m` are active.
use Rattle.std.specs.Prelude.{ℕ, zero, suc, ◌+◌, Bool, true, false, cond}
use lib.IntN.{pos}
use lib.Dec.{eqb}
use Rattle.pami_algebra.specs.Fraction.{Fraction}
use Rattle.pami_algebra.specs.Operations.{◌-ᶠ◌, of_int}
use Rattle.pami_linear.specs.Sums.{sum_to}

-- the sum over the active ones
abbrev pub part : ℕ → (ℕ → Bool) → (ℕ → Fraction) → Fraction
part m a f = sum_to m (λ g. cond (a g) (f g) (of_int (pos 0)))

-- t - x where it is asked for
abbrev pub less_if : Bool → Fraction → Fraction → Fraction
less_if true t x = t -ᶠ x
less_if false t x = t

-- t, and for the active ones ascending t := t - f g
abbrev pub minus_to : ℕ → (ℕ → Bool) → (ℕ → Fraction) → Fraction → Fraction
minus_to zero a f t = t
minus_to (suc n) a f t = less_if (a n) (minus_to n a f t) (f n)

-- all but p
abbrev pub but : ℕ → (ℕ → Bool) → ℕ → Bool
but p a g = cond (eqb p g) false (a g)

-- 1 for an active one
abbrev pub one_if : Bool → ℕ
one_if true = 1
one_if false = 0

-- how many are active
abbrev pub count : ℕ → (ℕ → Bool) → ℕ
count zero a = 0
count (suc n) a = one_if (a n) + count n a

-- the least active one of `n` from `k` on
abbrev pub first_from : ℕ → ℕ → (ℕ → Bool) → ℕ
first_from zero k a = k
first_from (suc n) k a = cond (a k) k (first_from n (suc k) a)

-- x with v at p
abbrev pub set_at : ℕ → Fraction → (ℕ → Fraction) → ℕ → Fraction
set_at p v x k = cond (eqb p k) v (x k)
