-- The order of two fractions by the products crosswise of their magnitudes.
use Rattle.std.proofs.Common.{◌≡◌, ℕ, suc, ◌*◌, ◌<◌, sym, ap, arith, true, false, Ordering, Less, Equal, Greater}
use Rattle.std.specs.Ordering.{MatchOrdering}
use lib.IntN.{ℤ, pos, negsuc, ◌*ℤ◌, nat_abs}
use lib.Signed.{◌<ℤ◌}
use Rattle.std.proofs.lemmas.Int.{ints}
use Rattle.pami_algebra.specs.Fraction.{Fraction}
use Rattle.pami_algebra.specs.Lowest.{same_ratio, itself, den_pos, mul_pos}
use Rattle.pami_algebra.specs.Operations.{◌<ᶠ◌}
use Rattle.std.proofs.lemmas.Bool.{true≢false}
use Rattle.pami_frac.specs.Signs.{is_negative, is_minus}

-- the answer for the products of the numbers is that for the fractions
of_products : (p q : Fraction) (r : Ordering) → MatchOrdering r ((p.num *ℤ pos q.den) <ℤ (q.num *ℤ pos p.den)) (p.num *ℤ pos q.den ≡ q.num *ℤ pos p.den) ((q.num *ℤ pos p.den) <ℤ (p.num *ℤ pos q.den)) → MatchOrdering r (p <ᶠ q) (p ≡ q) (q <ᶠ p)
of_products p q Less h = record { lt = h }
of_products p q Equal h = same_ratio p q _ _ _ _ (itself p) (itself q) h
of_products p q Greater h = record { lt = h }

above_zero : (a b c d : ℕ) (r : Ordering) → MatchOrdering r (a * d < c * b) (a * d ≡ c * b) (c * b < a * d) → MatchOrdering r ((pos a *ℤ pos d) <ℤ (pos c *ℤ pos b)) (pos a *ℤ pos d ≡ pos c *ℤ pos b) ((pos c *ℤ pos b) <ℤ (pos a *ℤ pos d))
above_zero a b c d Less h = omega (arith, ints)
above_zero a b c d Equal h = ap pos h
above_zero a b c d Greater h = omega (arith, ints)

below_zero : (a b c d : ℕ) (r : Ordering) → MatchOrdering r (suc c * b < suc a * d) (suc c * b ≡ suc a * d) (suc a * d < suc c * b) → MatchOrdering r ((negsuc a *ℤ pos d) <ℤ (negsuc c *ℤ pos b)) (negsuc a *ℤ pos d ≡ negsuc c *ℤ pos b) ((negsuc c *ℤ pos b) <ℤ (negsuc a *ℤ pos d))
below_zero a b c d Less h = omega (arith, ints)
below_zero a b c d Equal h = omega (arith, ints)
below_zero a b c d Greater h = omega (arith, ints)

across_zero : (a b c d : ℕ) → 0 < d → (negsuc a *ℤ pos d) <ℤ (pos c *ℤ pos b)
across_zero a b c d h = let k : 0 < suc a * d = mul_pos (suc a) d (omega arith) h in omega (arith, ints)

sides_above : (n m : ℤ) (b d : ℕ) (r : Ordering) → is_minus n ≡ false → is_minus m ≡ false → MatchOrdering r (nat_abs n * d < nat_abs m * b) (nat_abs n * d ≡ nat_abs m * b) (nat_abs m * b < nat_abs n * d) → MatchOrdering r ((n *ℤ pos d) <ℤ (m *ℤ pos b)) (n *ℤ pos d ≡ m *ℤ pos b) ((m *ℤ pos b) <ℤ (n *ℤ pos d))
sides_above (pos a) (pos c) b d r h k w = above_zero a b c d r w
sides_above (pos a) (negsuc c) b d r h k w = absurd (true≢false k)
sides_above (negsuc a) m b d r h k w = absurd (true≢false h)

sides_below : (n m : ℤ) (b d : ℕ) (r : Ordering) → is_minus n ≡ true → is_minus m ≡ true → MatchOrdering r (nat_abs m * b < nat_abs n * d) (nat_abs m * b ≡ nat_abs n * d) (nat_abs n * d < nat_abs m * b) → MatchOrdering r ((n *ℤ pos d) <ℤ (m *ℤ pos b)) (n *ℤ pos d ≡ m *ℤ pos b) ((m *ℤ pos b) <ℤ (n *ℤ pos d))
sides_below (negsuc a) (negsuc c) b d r h k w = below_zero a b c d r w
sides_below (negsuc a) (pos c) b d r h k w = absurd (true≢false (sym k))
sides_below (pos a) m b d r h k w = absurd (true≢false (sym h))

sides_across : (n m : ℤ) (b d : ℕ) → 0 < d → is_minus n ≡ true → is_minus m ≡ false → (n *ℤ pos d) <ℤ (m *ℤ pos b)
sides_across (negsuc a) (pos c) b d p h k = across_zero a b c d p
sides_across (negsuc a) (negsuc c) b d p h k = absurd (true≢false k)
sides_across (pos a) m b d p h k = absurd (true≢false (sym h))

-- the magnitudes of the numerators are n and m, the denominators b and d
pub both_above : (p q : Fraction) (n m b d : ℕ) (r : Ordering) → n ≡ nat_abs p.num → m ≡ nat_abs q.num → b ≡ p.den → d ≡ q.den → is_negative p ≡ false → is_negative q ≡ false → MatchOrdering r (n * d < m * b) (n * d ≡ m * b) (m * b < n * d) → MatchOrdering r (p <ᶠ q) (p ≡ q) (q <ᶠ p)
both_above p q n m b d r e1 e2 e3 e4 h k w = of_products p q r (sides_above p.num q.num p.den q.den r h k (rw (e1, e2, e3, e4) at w))

pub both_below : (p q : Fraction) (n m b d : ℕ) (r : Ordering) → n ≡ nat_abs p.num → m ≡ nat_abs q.num → b ≡ p.den → d ≡ q.den → is_negative p ≡ true → is_negative q ≡ true → MatchOrdering r (m * b < n * d) (m * b ≡ n * d) (n * d < m * b) → MatchOrdering r (p <ᶠ q) (p ≡ q) (q <ᶠ p)
both_below p q n m b d r e1 e2 e3 e4 h k w = of_products p q r (sides_below p.num q.num p.den q.den r h k (rw (e1, e2, e3, e4) at w))

-- a fraction below 0 is less than one that isn't
pub apart : (p q : Fraction) → is_negative p ≡ true → is_negative q ≡ false → p <ᶠ q
apart p q h k = record { lt = sides_across p.num q.num p.den q.den (den_pos q) h k }
