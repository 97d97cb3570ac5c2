-- A pair is reduced by what its numbers have in common.
use Rattle.std.proofs.Common.{◌≡◌, ℕ, ◌*◌, ◌/◌, ◌<◌, ◌^◌, refl, sym, ap, ◌∙◌, subst, arith, lit<, Bool, true, false, cond, Option, Some, None}
use native.Mathlib.Nat.{div-le_self, div_self, dvd_refl}
use lib.IntN.{ℤ, pos, negsuc, ◌+ℤ◌, ◌*ℤ◌, nat_abs}
use lib.Signed.{lt_z}
use lib.Dec.{T, lt→ltb}
use Rattle.std.proofs.lemmas.Int.{ints}
use Rattle.std.proofs.lemmas.Nat.Gcd.{same_from_IsGcd}
use Rattle.pami_algebra.specs.Gcd.{gcd_is}
use Rattle.pami_algebra.specs.Fraction.{Fraction, gcd}
use Rattle.pami_algebra.specs.Lowest.{is_lowest_in, den_pos}
use Rattle.pami_algebra.specs.Reduced.{over}
use Rattle.pami_algebra.proofs.Parts.{gcd_one, num_den_coprime}
use Rattle.pami_frac.specs.Range.{small, signed_of}
use Rattle.pami_frac.specs.Stored.{IsStored}
use Rattle.pami_frac.specs.Checked.{small_int, small_nat, then_int, then_nat, sum_parts_by, sum_parts_of, sum_if, over_if}
use Rattle.pami_frac.proofs.Signed.{kept_of, over_reduced}
use Rattle.pami_frac.proofs.Sum_parts.{parts_are, parts_pos, int_is, sum_none, sum_some}
use Rattle.pami_frac.proofs.Sum_gcd.{sum_gcd}

sign_again : (z : ℤ) → signed_of (lt_z z (pos 0)) (nat_abs z) ≡ z
sign_again (pos n) = ap (λ b. signed_of b n) (not_below n)
  where
    not_below : (n : ℕ) → lt_z (pos n) (pos 0) ≡ false
    not_below n = grind (arith, ints)
sign_again (negsuc n) = refl

quotient_small : (a g : ℕ) → a < 2 ^ 127 → a / g < 2 ^ 127
quotient_small a g h = omega (arith, div-le_self a g)

-- nothing in common with a divisor of 1
pub stored_lowest : (z z' : ℤ) (m k : ℕ) → z' ≡ z → k ≡ 1 → 0 < m → nat_abs z < 2 ^ 127 → m < 2 ^ 127 → gcd (nat_abs z) k ≡ gcd (nat_abs z) m → IsStored z' m
stored_lowest z z' m k e f p x y h = subst (λ z. IsStored z m) (sym e) (record {
  lowest = is_lowest_in z m (sym h ∙ ap (gcd (nat_abs z)) f ∙ gcd_one (nat_abs z)) p;
  num_small = x;
  den_small = y;
})

-- what the magnitude n and the divisor k have in common, where z is read as z'
pub shared_is : (z z' : ℤ) (n m k g : ℕ) → z' ≡ z → n ≡ nat_abs z' → g ≡ gcd n k → gcd (nat_abs z) k ≡ gcd (nat_abs z) m → g ≡ gcd (nat_abs z) m
shared_is z z' n m k g e f h d = h ∙ ap (λ n. gcd n k) (f ∙ ap nat_abs e) ∙ d

pub reduced_at : (z z' w w' : ℤ) (n m k g x y : ℕ) → z' ≡ z → n ≡ nat_abs z' → g ≡ gcd n k → gcd (nat_abs z) k ≡ gcd (nat_abs z) m → 0 < m → nat_abs z < 2 ^ 127 → m < 2 ^ 127 →
    x ≡ n / g → y ≡ m / g → w' ≡ w → w ≡ signed_of (lt_z z' (pos 0)) x → IsStored w' y × (over w' y ≡ over z m)
reduced_at z z' w w' n m k g x y e f h d p u v ex ey i j =
    let same : n ≡ nat_abs z = f ∙ ap nat_abs e in
    let common : g ≡ gcd (nat_abs z) m = shared_is z z' n m k g e f h d in
    let is : w' ≡ signed_of (lt_z z (pos 0)) (nat_abs z / g) =
    i ∙ j ∙ ap (λ t. signed_of (lt_z t (pos 0)) x) e ∙ ap (λ n. signed_of (lt_z z (pos 0)) n) (ex ∙ ap (λ n. n / g) same) in
    let P : ℤ → ℕ → Type 0 = λ w y. IsStored w y × (over w y ≡ over z m) in
    subst (λ w. P w y) (sym is) (subst (λ y. P (signed_of (lt_z z (pos 0)) (nat_abs z / g)) y) (sym ey) (
      kept_of (lt_z z (pos 0)) (nat_abs z) m g p common (quotient_small (nat_abs z) g u) (quotient_small m g v),
      over_reduced (lt_z z (pos 0)) (nat_abs z) m g p common ∙ ap (λ z. over z m) (sign_again z),
    ))

-- the pair of a sum has only divisors of both denominators in common
pub record IsPair (p q : Fraction) (n : ℤ) (m : ℕ) : Type 0 where
  pub positive : 0 < m
  pub above_small : nat_abs n < 2 ^ 127
  pub below_small : m < 2 ^ 127
  pub divisor : gcd (nat_abs n) (gcd p.den q.den) ≡ gcd (nat_abs n) m

pub pair_is : (p q : Fraction) (n : ℤ) (m : ℕ) → sum_parts_of p.num p.den q.num q.den ≡ Some (n, m) → IsPair p q n m
pair_is p q n m e =
    let h = parts_are p.num p.den q.num q.den n m e in
    record {
      positive = parts_pos p.num q.num n p.den q.den m (den_pos p) (den_pos q) h;
      above_small = h.above_small;
      below_small = h.below_small;
      divisor = sym (ap (λ k. gcd (nat_abs n) k) h.below
          ∙ subst (λ z. gcd (nat_abs z) (p.den * (q.den / gcd p.den q.den)) ≡ gcd (nat_abs z) (gcd p.den q.den)) (sym h.above)
          (sum_gcd p.num q.num p.den q.den (den_pos p) (den_pos q) (num_den_coprime p) (num_den_coprime q)));
    }

-- the same, at the numbers as the code has them
pub divisor_at : (p q : Fraction) (z z' : ℤ) (m b d g : ℕ) → sum_parts_of p.num p.den q.num q.den ≡ Some (z, m) → z' ≡ z → b ≡ p.den → d ≡ q.den → g ≡ gcd b d → gcd (nat_abs z') g ≡ gcd (nat_abs z') m
divisor_at p q z z' m b d g e f h k i =
    subst (λ z. gcd (nat_abs z) g ≡ gcd (nat_abs z) m) (sym f)
    (ap (gcd (nat_abs z)) (i ∙ ap (λ b. gcd b d) h ∙ ap (gcd p.den) k) ∙ (pair_is p q z m e).divisor)

-- a whole number that fits is stored over 1
pub stored_whole : (z z' : ℤ) → z' ≡ z → nat_abs z < 2 ^ 127 → IsStored z' 1
stored_whole z z' e h = subst (λ z. IsStored z 1) (sym e) (record { lowest = is_lowest_in z 1 (gcd_one (nat_abs z)) one_pos; num_small = h; den_small = lit< tt })
  where
    one_pos : 0 < 1
    one_pos = omega arith

then_small : {A : Type 0} (z : ℤ) (f : ℤ → Option A) → nat_abs z < 2 ^ 127 → then_int (small_int z) f ≡ f z
then_small {A} z f h = go (small (nat_abs z)) (lt→ltb (nat_abs z) (2 ^ 127) h)
  where
    go : (b : Bool) → T b → then_int (cond b (Some z) None) f ≡ f z
    go true t = refl
    go false t = absurd t

then_small_nat : (n : ℕ) (f : ℕ → Option (ℤ × ℕ)) → n < 2 ^ 127 → then_nat (small_nat n) f ≡ f n
then_small_nat n f h = go (small n) (lt→ltb n (2 ^ 127) h)
  where
    go : (b : Bool) → T b → then_nat (cond b (Some n) None) f ≡ f n
    go true t = refl
    go false t = absurd t

gcd_self : (b : ℕ) → gcd b b ≡ b
gcd_self b = same_from_IsGcd b b _ b (gcd_is b b) (dvd_refl b, dvd_refl b, λ d h k. h)

-- a sum over one denominator goes through nothing but the sum of the numerators
level_parts : (a c : ℤ) (b : ℕ) → 0 < b → b < 2 ^ 127 → nat_abs a < 2 ^ 127 → nat_abs c < 2 ^ 127 → sum_parts_of a b c b ≡ then_int (small_int (a +ℤ c)) (λ n. Some (n, b))
level_parts a c b p f h k =
    ap (λ g. sum_parts_by a b c b g) (gcd_self b)
    ∙ ap (λ t. then_int (small_int (a *ℤ pos t)) (λ left. then_int (small_int (c *ℤ pos t)) (λ right. then_int (small_int (left +ℤ right)) (λ n. then_nat (small_nat (b * t)) (λ m. Some (n, m)))))) (div_self p)
    ∙ ap (λ t. then_int (small_int (a *ℤ pos 1)) (λ left. then_int (small_int (c *ℤ pos 1)) (λ right. then_int (small_int (left +ℤ right)) (λ n. then_nat (small_nat t) (λ m. Some (n, m)))))) times_one
    ∙ ap (λ z. then_int (small_int z) (λ left. then_int (small_int (c *ℤ pos 1)) (λ right. then_int (small_int (left +ℤ right)) under))) (once a)
    ∙ then_small a (λ left. then_int (small_int (c *ℤ pos 1)) (λ right. then_int (small_int (left +ℤ right)) under)) h
    ∙ ap (λ z. then_int (small_int z) (λ right. then_int (small_int (a +ℤ right)) under)) (once c)
    ∙ then_small c (λ right. then_int (small_int (a +ℤ right)) under) k
    ∙ at_b (small_int (a +ℤ c))
  where
    under : ℤ → Option (ℤ × ℕ)
    under n = then_nat (small_nat b) (λ m. Some (n, m))

    once : (z : ℤ) → z *ℤ pos 1 ≡ z
    once z = omega (arith, ints)

    times_one : b * 1 ≡ b
    times_one = omega arith

    at_b : (x : Option ℤ) → then_int x under ≡ then_int x (λ n. Some (n, b))
    at_b None = refl
    at_b (Some n) = then_small_nat b (λ m. Some (n, m)) f

level_at : (p q : Fraction) (x : Option ℤ) (b : ℕ) → sum_parts_of p.num p.den q.num q.den ≡ then_int x (λ n. Some (n, b)) → then_int x (λ n. Some (over n b)) ≡ sum_if p q
level_at p q None b e = sum_none p q e
level_at p q (Some n) b e = sum_some p q n b e

-- the sum of two with one denominator, at the numbers as the code has them
pub level_is : (p q : Fraction) (a a' c c' : ℤ) (b d : ℕ) (r : Option Fraction) → a' ≡ a → a ≡ p.num → c' ≡ c → c ≡ q.num → nat_abs a < 2 ^ 127 → nat_abs c < 2 ^ 127 → 0 < b → b < 2 ^ 127 → b ≡ p.den → d ≡ q.den → b ≡ d →
    r ≡ over_if (a' +ℤ c') b → r ≡ sum_if p q
level_is p q a a' c c' b d r e f g h x y o u i j k m =
    let right : sum_parts_of p.num p.den q.num q.den ≡ sum_parts_of p.num b q.num b =
    ap (λ b. sum_parts_of p.num b q.num q.den) (sym i) ∙ ap (sum_parts_of p.num b q.num) (sym j ∙ sym k) in
    m ∙ ap (λ z. over_if (z +ℤ c') b) (e ∙ f) ∙ ap (λ z. over_if (p.num +ℤ z) b) (g ∙ h)
    ∙ level_at p q (small_int (p.num +ℤ q.num)) b (right ∙ level_parts p.num q.num b o u (subst (λ z. nat_abs z < 2 ^ 127) f x) (subst (λ z. nat_abs z < 2 ^ 127) h y))

-- a number that was kept is small
pub kept_is_small : (z v : ℤ) → Some v ≡ small_int z → nat_abs v < 2 ^ 127
kept_is_small z v e = let i = int_is z v (sym e) in subst (λ z. nat_abs z < 2 ^ 127) (sym i.0) i.1
