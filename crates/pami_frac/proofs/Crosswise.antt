-- A product whose parts were reduced crosswise is in lowest terms.
use Rattle.std.proofs.Common.{◌≡◌, ℕ, zero, suc, ◌*◌, ◌/◌, ◌<◌, ◌≤◌, ◌^◌, refl, sym, ap, ◌∙◌, subst, arith, Bool, true, false, cond, Option, Some, None, ◌⊎◌}
use native.Mathlib.Nat.{div-mul_cancel, dvd-mul_right, dvd_trans, dvd_antisymm, one-dvd, zero-lt-suc, mul-lt-mul_of_pos_right}
use lib.IntN.{ℤ, pos, negsuc, ◌*ℤ◌, nat_abs}
use lib.Dec.{T, ltb→lt, lt→ltb}
use Rattle.pami_frac.specs.Signs.{is_minus, is_negative}
use mathlib.Core.Bool.{not, beq}
use Rattle.std.specs.Int.{◌∣◌}
use Rattle.pami_algebra.specs.Fraction.{Fraction, gcd, is_lowest}
use Rattle.pami_algebra.specs.Gcd.{gcd_is, divides_other}
use Rattle.pami_algebra.specs.Lowest.{is_lowest_in, same_ratio, mul_pos}
use Rattle.pami_algebra.specs.Reduced.{over, over_ratio, reduced_gcd}
use Rattle.pami_algebra.specs.Operations.{◌*ᶠ◌}
use Rattle.pami_frac.specs.Range.{fits, small, signed_of, kept}
use Rattle.pami_frac.specs.Stored.{IsStored}
use Rattle.pami_frac.specs.Arithmetic.{mul_fits}
use Rattle.pami_frac.specs.Checked.{small_nat, product_if}
use Rattle.pami_frac.proofs.Signed.{signed_abs, signed_mul, fits_over, cond_true, cond_false, too_big}

pub coprime_in : (a b : ℕ) → ((d : ℕ) → d ∣ a → d ∣ b → d ∣ 1) → gcd a b ≡ 1
coprime_in a b h = let g = gcd_is a b in dvd_antisymm (h (gcd a b) g.0 g.1) (one-dvd (gcd a b))

pub coprime_out : (a b d : ℕ) → gcd a b ≡ 1 → d ∣ a → d ∣ b → d ∣ 1
coprime_out a b d e h k = subst (λ n. d ∣ n) e ((gcd_is a b).2 d h k)

pub coprime_swap : (a b : ℕ) → gcd a b ≡ 1 → gcd b a ≡ 1
coprime_swap a b e = coprime_in b a (λ d h k. coprime_out a b d e k h)

pub coprime_parts : (a b x z : ℕ) → gcd a b ≡ 1 → x ∣ a → z ∣ b → gcd x z ≡ 1
coprime_parts a b x z e h k = coprime_in x z (λ d i j. coprime_out a b d e (dvd_trans d i h) (dvd_trans d j k))

pub coprime_times : (x z w : ℕ) → 0 < w → gcd x z ≡ 1 → gcd x w ≡ 1 → gcd x (z * w) ≡ 1
coprime_times x z w p e f = coprime_in x (z * w) (λ d h k.
    coprime_out x w d f h (divides_other d z w p (coprime_parts x z d z e h (native.Mathlib.Nat.dvd_refl z)) k))

coprime_both : (x y z w : ℕ) → 0 < y → 0 < w → gcd x z ≡ 1 → gcd x w ≡ 1 → gcd y z ≡ 1 → gcd y w ≡ 1 → gcd (x * y) (z * w) ≡ 1
coprime_both x y z w py pw a b c d =
    coprime_swap (z * w) (x * y) (coprime_times (z * w) x y py (coprime_swap x (z * w) (coprime_times x z w pw a b)) (coprime_swap y (z * w) (coprime_times y z w pw c d)))

pub quotient_pos : (a g : ℕ) → 0 < a → a / g * g ≡ a → 0 < a / g
quotient_pos a g p e = go (a / g) e
  where
    go : (k : ℕ) → k * g ≡ a → 0 < k
    go zero e = absurd (omega arith)
    go (suc k) e = zero-lt-suc k

-- the numbers of a product, reduced crosswise
pub record Crossed (a b c d g h : ℕ) : Type 0 where
  pub a_pos : 0 < a
  pub b_pos : 0 < b
  pub c_pos : 0 < c
  pub d_pos : 0 < d
  pub left : gcd a b ≡ 1
  pub right : gcd c d ≡ 1
  pub outer : g ≡ gcd a d
  pub inner : h ≡ gcd c b

cross_numbers : (a b c d x z y w g h : ℕ) → x * g ≡ a → z * h ≡ b → y * h ≡ c → w * g ≡ d → x * y * (b * d) ≡ a * c * (z * w)
cross_numbers a b c d x z y w g h ea eb ec ed = rw (← ea, ← eb, ← ec, ← ed) (omega arith)

at_gcds : (s : Bool) (a b c d : ℕ) → Crossed a b c d (gcd a d) (gcd c b) →
    T (is_lowest (signed_of s (a / gcd a d * (c / gcd c b))) (b / gcd c b * (d / gcd a d))) × (over (signed_of s (a / gcd a d * (c / gcd c b))) (b / gcd c b * (d / gcd a d)) ≡ over (signed_of s (a * c)) (b * d))
at_gcds s a b c d k =
    let g = gcd a d in
    let h = gcd c b in
    let i = gcd_is a d in
    let j = gcd_is c b in
    let ea : a / gcd a d * gcd a d ≡ a = div-mul_cancel (gcd a d) i.0 in
    let ed : d / gcd a d * gcd a d ≡ d = div-mul_cancel (gcd a d) i.1 in
    let ec : c / gcd c b * gcd c b ≡ c = div-mul_cancel (gcd c b) j.0 in
    let eb : b / gcd c b * gcd c b ≡ b = div-mul_cancel (gcd c b) j.1 in
    let xa : a / gcd a d ∣ a = subst (λ n. a / gcd a d ∣ n) ea (dvd-mul_right (a / gcd a d) (gcd a d)) in
    let wd : d / gcd a d ∣ d = subst (λ n. d / gcd a d ∣ n) ed (dvd-mul_right (d / gcd a d) (gcd a d)) in
    let yc : c / gcd c b ∣ c = subst (λ n. c / gcd c b ∣ n) ec (dvd-mul_right (c / gcd c b) (gcd c b)) in
    let zb : b / gcd c b ∣ b = subst (λ n. b / gcd c b ∣ n) eb (dvd-mul_right (b / gcd c b) (gcd c b)) in
    let pw : 0 < d / gcd a d = quotient_pos d (gcd a d) k.d_pos ed in
    let py : 0 < c / gcd c b = quotient_pos c (gcd c b) k.c_pos ec in
    let pz : 0 < b / gcd c b = quotient_pos b (gcd c b) k.b_pos eb in
    let low : gcd (a / gcd a d * (c / gcd c b)) (b / gcd c b * (d / gcd a d)) ≡ 1 =
    coprime_both (a / gcd a d) (c / gcd c b) (b / gcd c b) (d / gcd a d) py pw
    (coprime_parts a b (a / gcd a d) (b / gcd c b) k.left xa zb) (reduced_gcd a d k.d_pos) (reduced_gcd c b k.b_pos) (coprime_parts c d (c / gcd c b) (d / gcd a d) k.right yc wd) in
    let pm : 0 < b / gcd c b * (d / gcd a d) = mul_pos (b / gcd c b) (d / gcd a d) pz pw in (
      is_lowest_in (signed_of s (a / gcd a d * (c / gcd c b))) (b / gcd c b * (d / gcd a d)) (ap (λ n. gcd n (b / gcd c b * (d / gcd a d))) (signed_abs s (a / gcd a d * (c / gcd c b))) ∙ low) pm,
      same_ratio _ _ _ _ _ _ (over_ratio (signed_of s (a / gcd a d * (c / gcd c b))) (b / gcd c b * (d / gcd a d)) pm) (over_ratio (signed_of s (a * c)) (b * d) (mul_pos b d k.b_pos k.d_pos))
          (signed_mul s (a / gcd a d * (c / gcd c b)) (b * d) (a * c) (b / gcd c b * (d / gcd a d)) (cross_numbers a b c d (a / gcd a d) (b / gcd c b) (c / gcd c b) (d / gcd a d) (gcd a d) (gcd c b) ea eb ec ed)),
    )

pub crossed : (s : Bool) (a b c d g h : ℕ) → Crossed a b c d g h →
    T (is_lowest (signed_of s (a / g * (c / h))) (b / h * (d / g))) × (over (signed_of s (a / g * (c / h))) (b / h * (d / g)) ≡ over (signed_of s (a * c)) (b * d))
crossed s a b c d g h k =
    let P : ℕ → ℕ → Type 0 = λ g h. T (is_lowest (signed_of s (a / g * (c / h))) (b / h * (d / g))) × (over (signed_of s (a / g * (c / h))) (b / h * (d / g)) ≡ over (signed_of s (a * c)) (b * d)) in
    subst (λ n. P n h) (sym k.outer) (subst (λ n. P (gcd a d) n) (sym k.inner) (at_gcds s a b c d
    (record { a_pos = k.a_pos; b_pos = k.b_pos; c_pos = k.c_pos; d_pos = k.d_pos; left = k.left; right = k.right; outer = refl; inner = refl })))

pub cross_some : (s : Bool) (a b c d g h : ℕ) → Crossed a b c d g h → a / g * (c / h) < 2 ^ 127 → b / h * (d / g) < 2 ^ 127 →
    Some (over (signed_of s (a / g * (c / h))) (b / h * (d / g))) ≡ kept (over (signed_of s (a * c)) (b * d))
cross_some s a b c d g h k x y =
    let r = crossed s a b c d g h k in
    let v = over (signed_of s (a / g * (c / h))) (b / h * (d / g)) in
    sym (cond_true (fits v) (Some v) None ((fits_over (signed_of s (a / g * (c / h))) (b / h * (d / g)) r.0).1 (subst (λ n. n < 2 ^ 127) (sym (signed_abs s (a / g * (c / h)))) x) y)) ∙ ap kept r.1

pub cross_none : (s : Bool) (a b c d g h : ℕ) → Crossed a b c d g h → (2 ^ 127 ≤ a / g * (c / h)) ⊎ (2 ^ 127 ≤ b / h * (d / g)) → None ≡ kept (over (signed_of s (a * c)) (b * d))
cross_none s a b c d g h k w =
    let r = crossed s a b c d g h k in
    let v = over (signed_of s (a / g * (c / h))) (b / h * (d / g)) in
    sym (cond_false (fits v) (Some v) None (λ t. too_big s (a / g * (c / h)) (b / h * (d / g)) w ((fits_over (signed_of s (a / g * (c / h))) (b / h * (d / g)) r.0).0 t))) ∙ ap kept r.1

pub none_big : (n : ℕ) → None ≡ small_nat n → 2 ^ 127 ≤ n
none_big n e = go (small n) (lt→ltb n (2 ^ 127)) e
  where
    go : (b : Bool) → (n < 2 ^ 127 → T b) → None ≡ cond b (Some n) None → 2 ^ 127 ≤ n
    go true h e = absurd (cc)
    go false h e = omega arith

pub some_small : (n m : ℕ) → Some m ≡ small_nat n → (m ≡ n) × (n < 2 ^ 127)
some_small n m e = go (small n) (ltb→lt n (2 ^ 127)) e
  where
    go : (b : Bool) → (T b → n < 2 ^ 127) → Some m ≡ cond b (Some n) None → (m ≡ n) × (n < 2 ^ 127)
    go true h e = (cc, h tt)
    go false h e = absurd (cc)

-- the same, at the numbers as the code has them
pub cross_made : (s : Bool) (a b c d g h n m : ℕ) (r r' : ℤ) → Crossed a b c d g h → Some n ≡ small_nat (a / g * (c / h)) → Some m ≡ small_nat (b / h * (d / g)) → r' ≡ r → r ≡ signed_of s n →
    IsStored r' m × (Some (over r' m) ≡ kept (over (signed_of s (a * c)) (b * d)))
cross_made s a b c d g h n m r r' k x y e f =
    let i = some_small (a / g * (c / h)) n x in
    let j = some_small (b / h * (d / g)) m y in
    let is : signed_of s (a / g * (c / h)) ≡ r' = sym (e ∙ f ∙ ap (signed_of s) i.0) in
    let P : ℤ → ℕ → Type 0 = λ r m. IsStored r m × (Some (over r m) ≡ kept (over (signed_of s (a * c)) (b * d))) in
    subst (λ z. P z m) is (subst (λ m. P (signed_of s (a / g * (c / h))) m) (sym j.0)
    (record { lowest = (crossed s a b c d g h k).0; num_small = subst (λ n. n < 2 ^ 127) (sym (signed_abs s (a / g * (c / h)))) i.1; den_small = j.1 }, cross_some s a b c d g h k i.1 j.1))

-- a product of quotients, as the code has them
pub moved_product : {A : Type 0} (f : ℕ → A) (r : A) (x y n m : ℕ) → x ≡ n → y ≡ m → r ≡ f (x * y) → r ≡ f (n * m)
moved_product f r x y n m e h i = i ∙ ap (λ x. f (x * y)) e ∙ ap (λ y. f (n * y)) h

-- the sign of a product
sign_times : (x y : ℤ) → signed_of (not (beq (is_minus x) (is_minus y))) (nat_abs x * nat_abs y) ≡ x *ℤ y
sign_times (pos a) (pos b) = refl
sign_times (pos a) (negsuc b) = refl
sign_times (negsuc a) (pos b) = refl
sign_times (negsuc a) (negsuc b) = refl

pub product_is : (p q : Fraction) (s t : Bool) (A C B D : ℕ) (r : Option Fraction) → s ≡ is_negative p → t ≡ is_negative q → A ≡ nat_abs p.num → C ≡ nat_abs q.num → B ≡ p.den → D ≡ q.den →
    r ≡ kept (over (signed_of (not (beq s t)) (A * C)) (B * D)) → r ≡ product_if p q
unfolding mul_fits ◌*ᶠ◌
product_is p q s t A C B D r e1 e2 e3 e4 e5 e6 h =
    h ∙ ap (λ s. kept (over (signed_of (not (beq s t)) (A * C)) (B * D))) e1
    ∙ ap (λ t. kept (over (signed_of (not (beq (is_minus p.num) t)) (A * C)) (B * D))) e2
    ∙ ap (λ n. kept (over (signed_of (not (beq (is_minus p.num) (is_minus q.num))) (n * C)) (B * D))) e3
    ∙ ap (λ n. kept (over (signed_of (not (beq (is_minus p.num) (is_minus q.num))) (nat_abs p.num * n)) (B * D))) e4
    ∙ ap (λ z. kept (over z (B * D))) (sign_times p.num q.num)
    ∙ ap (λ n. kept (over (p.num *ℤ q.num) (n * D))) e5
    ∙ ap (λ n. kept (over (p.num *ℤ q.num) (p.den * n))) e6
