-- A number times a power of ten.
use Rattle.std.proofs.Common.{◌≡◌, ℕ, suc, ◌+◌, ◌*◌, ◌/◌, ◌%◌, ◌^◌, ◌<◌, ◌≤◌, inl, Bool, true, false, None, refl, sym, ap, ◌∙◌, subst, arith, lit<}
use Rattle.std.proofs.Math.Nat.{mul-add-mod_self_left, mod-eq_of_lt, div-add-mod, mod-lt, div-mul_cancel, mul-div_cancel, mul-le-mul, dvd_antisymm, one-dvd}
use Rattle.std.proofs.lemmas.Nat.{pow-add}
use Rattle.std.proofs.lemmas.Int.{ints}
use lib.IntN.{ℤ, pos, negsuc, ◌+ℤ◌, ◌*ℤ◌}
use lib.Signed.{◌<ℤ◌}
use Rattle.pami_algebra.specs.Fraction.{gcd}
use Rattle.pami_algebra.specs.Gcd.{gcd_is, gcd_step}
use Rattle.pami_algebra.specs.Integers.{neg_mul_ℤ}
use Rattle.pami_algebra.specs.Lowest.{IsRatio, same_ratio}
use Rattle.pami_algebra.specs.Reduced.{over, over_ratio, reduced_pos}
use Rattle.pami_frac.specs.Decimal.{scaled}
use Rattle.pami_frac.specs.Range.{signed_of, kept}
use Rattle.pami_frac.proofs.Signed.{make_none, over_reduced}
use Rattle.pami_frac.proofs.DecimalLaws.{ten_le, ten_pos}

pub signed_times : (s : Bool) (n k : ℕ) → signed_of s n *ℤ pos k ≡ signed_of s (n * k)
signed_times true n k = neg_mul_ℤ (pos n) (pos k)
signed_times false n k = refl

gcd_one : (n : ℕ) → 1 ≡ gcd n 1
gcd_one n = sym (dvd_antisymm (gcd_is n 1).1 (one-dvd (gcd n 1)))

-- a whole number of 2^127 or more is out of range
pub whole_none : (s : Bool) (n : ℕ) → 2 ^ 127 ≤ n → None ≡ kept (over (signed_of s n) 1)
whole_none s n h = let e : n / 1 ≡ n = omega arith in make_none s n 1 1 (lit< tt) (gcd_one n) (inl (omega arith))

-- ---- a whole part and a part behind the point

-- the digits head and last over ten times tens
pub record IsMixed (head last tens whole rest common : ℕ) : Type 0 where
  pub tens_pos : 0 < tens
  pub digit : last < 10
  pub whole_is : whole ≡ head / tens
  pub rest_is : rest ≡ 10 * (head % tens) + last
  pub common_is : common ≡ gcd (10 * tens) rest

mixed_sum : (h l t w r g : ℕ) → IsMixed h l t w r g → 10 * h + l ≡ 10 * t * w + r
mixed_sum h l t w r g m =
    let e : t * (h / t) + h % t ≡ h = div-add-mod h t in
    let a : w ≡ h / t = m.whole_is in
    let b : r ≡ 10 * (h % t) + l = m.rest_is in
    let k : t * w + h % t ≡ h = ap (λ n. t * n + h % t) a ∙ e in
    omega arith

mixed_gcd : (h l t w r g : ℕ) → IsMixed h l t w r g → g ≡ gcd (10 * h + l) (10 * t)
mixed_gcd h l t w r g m =
    let p : 0 < t = m.tens_pos in
    let q : l < 10 = m.digit in
    let s : h % t < t = mod-lt h p in
    let b : r ≡ 10 * (h % t) + l = m.rest_is in
    let small : r < 10 * t = omega arith in
    let e : (10 * h + l) % (10 * t) ≡ r = ap (λ n. n % (10 * t)) (mixed_sum h l t w r g m) ∙ mul-add-mod_self_left (10 * t) w r ∙ mod-eq_of_lt small in
    m.common_is ∙ ap (gcd (10 * t)) (sym e) ∙ gcd_step (10 * h + l) (10 * t) (omega arith)

mixed_over : (h l t w r g : ℕ) → IsMixed h l t w r g → 0 < g → (10 * h + l) / g ≡ w * (10 * t / g) + r / g
mixed_over h l t w r g m pg =
    let d = gcd_is (10 * t) r in
    let a : 10 * t / g * g ≡ 10 * t = subst (λ k. 10 * t / k * k ≡ 10 * t) (sym m.common_is) (div-mul_cancel (gcd (10 * t) r) d.0) in
    let b : r / g * g ≡ r = subst (λ k. r / k * k ≡ r) (sym m.common_is) (div-mul_cancel (gcd (10 * t) r) d.1) in
    let e : (w * (10 * t / g) + r / g) * g ≡ 10 * t * w + r = joined w (10 * t / g) (r / g) g (10 * t) r a b in
    ap (λ n. n / g) (mixed_sum h l t w r g m ∙ sym e) ∙ mul-div_cancel (w * (10 * t / g) + r / g) pg
  where
    joined : (w x y g d r : ℕ) → x * g ≡ d → y * g ≡ r → (w * x + y) * g ≡ d * w + r
    joined w x y g d r e f = rw (← e, ← f) (omega arith)

pub mixed_pos : (h l t w r g : ℕ) → IsMixed h l t w r g → 0 < 10 * t / g
mixed_pos h l t w r g m = let p : 0 < t = m.tens_pos in subst (λ k. 0 < 10 * t / k) (sym (mixed_gcd h l t w r g m)) (reduced_pos (10 * h + l) (10 * t) (omega arith))

pub mixed_some : (s : Bool) (h l t w r g : ℕ) → IsMixed h l t w r g → 0 < g → kept (over (signed_of s (w * (10 * t / g) + r / g)) (10 * t / g)) ≡ kept (over (signed_of s (10 * h + l)) (10 * t))
mixed_some s h l t w r g m pg =
    let p : 0 < t = m.tens_pos in
    ap (λ n. kept (over (signed_of s n) (10 * t / g))) (sym (mixed_over h l t w r g m pg)) ∙ ap kept (over_reduced s (10 * h + l) (10 * t) g (omega arith) (mixed_gcd h l t w r g m))

pub mixed_none : (s : Bool) (h l t w r g : ℕ) → IsMixed h l t w r g → 0 < g → 2 ^ 127 ≤ w * (10 * t / g) + r / g → None ≡ kept (over (signed_of s (10 * h + l)) (10 * t))
mixed_none s h l t w r g m pg big =
    let p : 0 < t = m.tens_pos in
    make_none s (10 * h + l) (10 * t) g (omega arith) (mixed_gcd h l t w r g m) (inl (subst (λ n. 2 ^ 127 ≤ n) (sym (mixed_over h l t w r g m pg)) big))

-- ---- zeros moved into the exponent

up : ℤ → ℕ
up (pos e) = 10 ^ e
up (negsuc e) = 1

down : ℤ → ℕ
down (pos e) = 1
down (negsuc e) = 10 ^ suc e

scaled_ratio : (s : Bool) (n : ℕ) (e : ℤ) → IsRatio (scaled (signed_of s n) e) (signed_of s (n * up e)) (down e)
unfolding up down
scaled_ratio s n (pos e) = subst (λ z. IsRatio (over (signed_of s n *ℤ pos (10 ^ e)) 1) z 1) (signed_times s n (10 ^ e)) (over_ratio (signed_of s n *ℤ pos (10 ^ e)) 1 (lit< tt))
scaled_ratio s n (negsuc e) = subst (λ z. IsRatio (over (signed_of s n) (10 ^ suc e)) (signed_of s z) (10 ^ suc e)) (let k : n ≡ n * 1 = omega arith in k) (over_ratio (signed_of s n) (10 ^ suc e) (ten_pos (suc e)))

moved : (z : ℕ) (e f : ℤ) → f ≡ e +ℤ pos z → 10 ^ z * up e * down f ≡ up f * down e
unfolding up down
moved z (pos a) (pos b) h =
    let k : b ≡ a + z = omega (arith, ints) in
    let p : 10 ^ b ≡ 10 ^ a * 10 ^ z = ap (λ n. 10 ^ n) k ∙ pow-add 10 a z in omega arith
moved z (pos a) (negsuc b) h = absurd (omega (arith, ints))
moved z (negsuc a) (pos b) h =
    let k : z ≡ b + suc a = omega (arith, ints) in
    let p : 10 ^ z ≡ 10 ^ b * 10 ^ suc a = ap (λ n. 10 ^ n) k ∙ pow-add 10 b (suc a) in omega arith
moved z (negsuc a) (negsuc b) h =
    let k : suc a ≡ z + suc b = omega (arith, ints) in
    let p : 10 ^ suc a ≡ 10 ^ z * 10 ^ suc b = ap (λ n. 10 ^ n) k ∙ pow-add 10 z (suc b) in omega arith

-- zeros at the end of a number raise the exponent
pub scaled_zeros : (s : Bool) (d z : ℕ) (e f : ℤ) → f ≡ e +ℤ pos z → scaled (signed_of s (d * 10 ^ z)) e ≡ scaled (signed_of s d) f
scaled_zeros s d z e f h =
    let k : d * 10 ^ z * up e * down f ≡ d * up f * down e = factors d (10 ^ z) (up e) (down f) (up f) (down e) (moved z e f h) in
    same_ratio _ _ _ _ _ _ (scaled_ratio s (d * 10 ^ z) e) (scaled_ratio s d f)
    (signed_times s (d * 10 ^ z * up e) (down f) ∙ ap (signed_of s) k ∙ sym (signed_times s (d * up f) (down e)))
  where
    factors : (d p a b x y : ℕ) → p * a * b ≡ x * y → d * p * a * b ≡ d * x * y
    factors d p a b x y h = let k : d * (p * a * b) ≡ d * (x * y) = ap (λ n. d * n) h in omega arith

-- past 10^38 no number of at least 1 is in range
pub scaled_large : (s : Bool) (m : ℕ) (e : ℤ) → 0 < m → pos 38 <ℤ e → None ≡ kept (scaled (signed_of s m) e)
scaled_large s m (pos n) p h =
    let k : 38 < n = omega (arith, ints) in
    let l : 10 ^ 39 ≤ 10 ^ n = ten_le 39 n (omega arith) in
    let q : 1 * 10 ^ n ≤ m * 10 ^ n = mul-le-mul (omega arith) (omega arith) in
    whole_none s (m * 10 ^ n) (omega arith) ∙ ap (λ z. kept (over z 1)) (sym (signed_times s m (10 ^ n)))
scaled_large s m (negsuc n) p h = absurd (omega (arith, ints))

pub scaled_none : (s : Bool) (m n : ℕ) → 2 ^ 127 ≤ m * 10 ^ n → None ≡ kept (scaled (signed_of s m) (pos n))
scaled_none s m n h = whole_none s (m * 10 ^ n) h ∙ ap (λ z. kept (over z 1)) (sym (signed_times s m (10 ^ n)))

pub scaled_whole : (s : Bool) (m n a : ℕ) → a ≡ m * 10 ^ n → kept (over (signed_of s a) 1) ≡ kept (scaled (signed_of s m) (pos n))
scaled_whole s m n a h = ap (λ k. kept (over (signed_of s k) 1)) h ∙ ap (λ z. kept (over z 1)) (sym (signed_times s m (10 ^ n)))

pub zero_value : (s : Bool) (e : ℤ) → scaled (signed_of s 0) e ≡ over (signed_of s 0) 1
zero_value s e =
    let k : 0 * up e * 1 ≡ 0 * down e = omega arith in
    same_ratio _ _ _ _ _ _ (scaled_ratio s 0 e) (over_ratio (signed_of s 0) 1 (lit< tt))
    (signed_times s (0 * up e) 1 ∙ ap (signed_of s) k ∙ sym (signed_times s 0 (down e)))
