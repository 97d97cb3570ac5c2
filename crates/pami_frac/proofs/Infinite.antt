-- Decimals of 10^20 and more: by the count of their digits, and as fractions.
use Rattle.std.proofs.Common.{◌≡◌, ◌≢◌, ℕ, zero, suc, ◌+◌, ◌-◌, ◌*◌, ◌/◌, ◌^◌, ◌<◌, ◌≤◌, ◌&&◌, Bool, true, false, List, [], ◌∷◌, ◌++◌, length, take, get_or, refl, sym, ap, ◌∙◌, subst, arith, lit<, true≢false, inl, inr}
use Rattle.std.proofs.Math.Nat.{mul-le-mul, le-div_iff_mul-le}
use Rattle.std.proofs.lemmas.Grind.{common_steps}
use Rattle.std.proofs.lemmas.Int.{ints}
use Rattle.std.proofs.lemmas.Nat.{pow-add}
use Rattle.std.specs.List.{list_all}
use lib.IntN.{ℤ, pos, negsuc, ◌+ℤ◌, ◌-ℤ◌, ◌*ℤ◌, nat_abs}
use lib.Signed.{◌≤ℤ◌, ◌<ℤ◌}
use Rattle.pami_algebra.specs.Lowest.{abs_mul, den_pos}
use Rattle.pami_algebra.specs.Reduced.{over, over_ratio}
use Rattle.pami_frac.specs.Range.{signed_of}
use Rattle.pami_frac.specs.Decimal.{is_digit, is_negative, are_digits, is_exponent, is_decimal, whole_digits, fraction_digits, exponent_part, power_of, number_after, scaled, decimal_value}
use Rattle.pami_frac.specs.DecimalDigits.{HasDigits, IsSamePower}
use Rattle.pami_frac.specs.BoundText.{infinity, is_infinite}
use Rattle.pami_frac.proofs.DecimalLaws.{after_append, digits_parts, ten_le, ten_pos, ten_more}
use Rattle.pami_frac.proofs.DecimalOutcome.{IsParts, parts_value}
use Rattle.pami_frac.proofs.DecimalScale.{signed_times}
use Rattle.pami_frac.proofs.Signed.{signed_abs}

-- ---- digits

ten_suc : (a : ℕ) → 10 ^ suc a ≡ 10 ^ a * 10
ten_suc a = let e : suc a ≡ a + 1 = omega arith in ap (λ k. 10 ^ k) e ∙ ten_more a

spread : (n d x r : ℕ) → (n * 10 + d) * x + r ≡ n * (x * 10) + ((0 * 10 + d) * x + r)
spread n d x r = omega arith

-- a number in front of digits stands at the power of their count
pub after_number : (n : ℕ) (ds : List ℕ) → number_after n ds ≡ n * 10 ^ length ds + number_after 0 ds
after_number n [] = omega arith
after_number n (c ∷ cs) =
    let x = 10 ^ length cs in
    let more : 10 ^ suc (length cs) ≡ x * 10 = ten_suc (length cs) in
    let here : number_after (n * 10 + (c - 48)) cs ≡ (n * 10 + (c - 48)) * x + number_after 0 cs = after_number (n * 10 + (c - 48)) cs in
    let there : number_after (0 * 10 + (c - 48)) cs ≡ (0 * 10 + (c - 48)) * x + number_after 0 cs = after_number (0 * 10 + (c - 48)) cs in
    let parts = spread n (c - 48) x (number_after 0 cs) ∙ ap (λ y. n * y + ((0 * 10 + (c - 48)) * x + number_after 0 cs)) (sym more) in
    here ∙ parts ∙ ap (λ k. n * 10 ^ suc (length cs) + k) (sym there)

and_first : (a b : Bool) → (a && b) ≡ true → a ≡ true
and_first true b h = refl
and_first false b h = h

and_second : (a b : Bool) → (a && b) ≡ true → b ≡ true
and_second true b h = h
and_second false b h = absurd (true≢false (sym h))

digit_first : (c : ℕ) (cs : List ℕ) → list_all is_digit (c ∷ cs) ≡ true → is_digit c ≡ true
digit_first c cs h = and_first (is_digit c) (list_all is_digit cs) h

digits_rest : (c : ℕ) (cs : List ℕ) → list_all is_digit (c ∷ cs) ≡ true → list_all is_digit cs ≡ true
digits_rest c cs h = and_second (is_digit c) (list_all is_digit cs) h

digit_small : (c : ℕ) → is_digit c ≡ true → (48 ≤ c) × (c ≤ 57)
digit_small c h = grind (arith, common_steps)

pub digits_below : (ds : List ℕ) → list_all is_digit ds ≡ true → number_after 0 ds < 10 ^ length ds
digits_below [] h = lit< tt
digits_below (c ∷ cs) h =
    let x = 10 ^ length cs in
    let d = digit_small c (digit_first c cs h) in
    let more : 10 ^ suc (length cs) ≡ x * 10 = ten_suc (length cs) in
    let rest : number_after 0 cs < x = digits_below cs (digits_rest c cs h) in
    let here : number_after (0 * 10 + (c - 48)) cs ≡ (0 * 10 + (c - 48)) * x + number_after 0 cs = after_number (0 * 10 + (c - 48)) cs in
    let up : (c - 48) * x ≤ 9 * x = mul-le-mul (omega (arith, d.1)) (omega arith) in
    omega arith

-- digits of which the first isn't 0
digits_from : (c : ℕ) (cs : List ℕ) → list_all is_digit (c ∷ cs) ≡ true → c ≢ 48 → HasDigits (number_after 0 (c ∷ cs)) (suc (length cs))
digits_from c cs h other =
    let x = 10 ^ length cs in
    let d = digit_small c (digit_first c cs h) in
    let rest : number_after 0 cs < x = digits_below cs (digits_rest c cs h) in
    let here : number_after (0 * 10 + (c - 48)) cs ≡ (0 * 10 + (c - 48)) * x + number_after 0 cs = after_number (0 * 10 + (c - 48)) cs in
    let up : 1 * x ≤ (c - 48) * x = mul-le-mul (omega (arith, d.0, other)) (omega arith) in
    let low : x ≤ number_after 0 (c ∷ cs) = omega arith in
    let e : length cs ≡ suc (length cs) - 1 = omega arith in
    record { below = digits_below (c ∷ cs) h; above = λ l. subst (λ j. 10 ^ j ≤ number_after 0 (c ∷ cs)) e low }

-- the same behind zeros
pub digits_behind : (ds : List ℕ) (i : ℕ) → i < length ds → list_all is_digit ds ≡ true → number_after 0 (take i ds) ≡ 0 → get_or ds i 0 ≢ 48 → HasDigits (number_after 0 ds) (length ds - i)
digits_behind [] i l h e other = absurd (omega arith)
digits_behind (c ∷ cs) zero l h e other =
    let same : suc (length cs) ≡ suc (length cs) - 0 = omega arith in
    subst (λ j. HasDigits (number_after 0 (c ∷ cs)) j) same (digits_from c cs h other)
digits_behind (c ∷ cs) (suc i) l h e other =
    let k = 0 * 10 + (c - 48) in
    let front : number_after k (take i cs) ≡ k * 10 ^ length (take i cs) + number_after 0 (take i cs) = after_number k (take i cs) in
    let up : k * 1 ≤ k * 10 ^ length (take i cs) = mul-le-mul (omega arith) (ten_pos (length (take i cs))) in
    let none : k ≡ 0 = omega (arith, e) in
    let rest : number_after 0 (take i cs) ≡ 0 = omega (arith, e) in
    let is : HasDigits (number_after 0 cs) (length cs - i) = digits_behind cs i (omega arith) (digits_rest c cs h) rest other in
    let same : length cs - i ≡ suc (length cs) - suc i = omega arith in
    subst (λ j. HasDigits (number_after k cs) j) same (subst (λ j. HasDigits (number_after j cs) (length cs - i)) (sym none) is)

pub no_digits : (n : ℕ) → n ≡ 0 → HasDigits n 0
no_digits n e = record { below = omega (arith, e); above = λ l. absurd (omega arith) }

pub none_there : (n : ℕ) → HasDigits n 0 → n ≡ 0
none_there n h = let k : n < 1 = h.below in omega arith

-- digits in front of digits
pub digits_joined : (xs ys : List ℕ) (k : ℕ) → list_all is_digit ys ≡ true → HasDigits (number_after 0 xs) k → 0 < k → HasDigits (number_after 0 (xs ++ ys)) (k + length ys)
digits_joined xs ys k h is some =
    let n = number_after 0 xs in
    let x = 10 ^ length ys in
    let all : number_after 0 (xs ++ ys) ≡ n * x + number_after 0 ys = after_append 0 xs ys ∙ after_number n ys in
    let rest : number_after 0 ys < x = digits_below ys h in
    let high : 10 ^ (k + length ys) ≡ 10 ^ k * x = pow-add 10 k (length ys) in
    let low : 10 ^ (k - 1 + length ys) ≡ 10 ^ (k - 1) * x = pow-add 10 (k - 1) (length ys) in
    let same : k + length ys - 1 ≡ k - 1 + length ys = omega (arith, some) in
    let under : suc n * x ≤ 10 ^ k * x = mul-le-mul is.below (omega arith) in
    let over_it : 10 ^ (k - 1) * x ≤ n * x = mul-le-mul (is.above some) (omega arith) in
    record { below = omega arith; above = λ l. subst (λ j. 10 ^ j ≤ number_after 0 (xs ++ ys)) (sym same) (omega arith) }

-- ---- fractions

le_of_times : (a b d : ℕ) → 0 < d → a * d ≤ b * d → a ≤ b
le_of_times a b d p h = grind (arith, common_steps)

below_of_times : (a b d : ℕ) → a * d < b * d → a < b
below_of_times a b d h = grind (arith, common_steps)

not_le : (a b : ℕ) → (b ≤ a → ⊥) → a < b
not_le a b h = grind (arith, common_steps)

-- a ratio is as large as a whole number where its first number is as large as that many of the second
large_ratio : (n : ℤ) (d : ℕ) → 0 < d → infinity * d ≤ nat_abs n → is_infinite (over n d) ≡ true
large_ratio n d p h =
    let q = over n d in
    let r = over_ratio n d p in
    let cross : nat_abs q.num * d ≡ nat_abs n * q.den = sym (abs_mul q.num d) ∙ ap nat_abs r.cross ∙ abs_mul n q.den in
    let up : infinity * d * q.den ≤ nat_abs n * q.den = mul-le-mul h (omega arith) in
    let back : infinity * q.den * d ≤ nat_abs q.num * d = omega arith in
    let fine : infinity ≤ nat_abs q.num / q.den = (le-div_iff_mul-le (den_pos q)).1 (le_of_times (infinity * q.den) (nat_abs q.num) d p back) in
    grind (arith, common_steps)

small_ratio : (n : ℤ) (d : ℕ) → 0 < d → nat_abs n < infinity * d → is_infinite (over n d) ≡ false
small_ratio n d p h =
    let q = over n d in
    let r = over_ratio n d p in
    let cross : nat_abs q.num * d ≡ nat_abs n * q.den = sym (abs_mul q.num d) ∙ ap nat_abs r.cross ∙ abs_mul n q.den in
    let up : suc (nat_abs n) * q.den ≤ infinity * d * q.den = mul-le-mul h (omega arith) in
    let few : nat_abs q.num < infinity * q.den = below_of_times (nat_abs q.num) (infinity * q.den) d (omega (arith, den_pos q)) in
    let fine : nat_abs q.num / q.den < infinity = not_le (nat_abs q.num / q.den) infinity (λ k. let l = (le-div_iff_mul-le (den_pos q)).0 k in omega (arith, l, few)) in
    grind (arith, common_steps)

whole_large : (s : Bool) (m e : ℕ) → infinity ≤ m * 10 ^ e → is_infinite (scaled (signed_of s m) (pos e)) ≡ true
whole_large s m e h =
    let size : nat_abs (signed_of s m *ℤ pos (10 ^ e)) ≡ m * 10 ^ e = ap nat_abs (signed_times s m (10 ^ e)) ∙ signed_abs s (m * 10 ^ e) in
    large_ratio (signed_of s m *ℤ pos (10 ^ e)) 1 (lit< tt) (omega (arith, h, size))

whole_small : (s : Bool) (m e : ℕ) → m * 10 ^ e < infinity → is_infinite (scaled (signed_of s m) (pos e)) ≡ false
whole_small s m e h =
    let size : nat_abs (signed_of s m *ℤ pos (10 ^ e)) ≡ m * 10 ^ e = ap nat_abs (signed_times s m (10 ^ e)) ∙ signed_abs s (m * 10 ^ e) in
    small_ratio (signed_of s m *ℤ pos (10 ^ e)) 1 (lit< tt) (omega (arith, h, size))

part_large : (s : Bool) (m e : ℕ) → infinity * 10 ^ suc e ≤ m → is_infinite (scaled (signed_of s m) (negsuc e)) ≡ true
part_large s m e h = large_ratio (signed_of s m) (10 ^ suc e) (ten_pos (suc e)) (subst (λ n. infinity * 10 ^ suc e ≤ n) (sym (signed_abs s m)) h)

part_small : (s : Bool) (m e : ℕ) → m < infinity * 10 ^ suc e → is_infinite (scaled (signed_of s m) (negsuc e)) ≡ false
part_small s m e h = small_ratio (signed_of s m) (10 ^ suc e) (ten_pos (suc e)) (subst (λ n. n < infinity * 10 ^ suc e) (sym (signed_abs s m)) h)

-- with k digits it is infinite where the exponent of the first is at least 20
pub far_if : (s : Bool) (m k : ℕ) (e : ℤ) → HasDigits m k → 0 < k → pos 20 ≤ℤ ((pos k -ℤ pos 1) +ℤ e) → is_infinite (scaled (signed_of s m) e) ≡ true
far_if s m k (pos e) is some h =
    let few : 20 ≤ k - 1 + e = omega (arith, ints) in
    let low : 10 ^ (k - 1) * 10 ^ e ≤ m * 10 ^ e = mul-le-mul (is.above some) (omega arith) in
    let up : 10 ^ 20 ≤ 10 ^ (k - 1 + e) = ten_le 20 (k - 1 + e) few in
    whole_large s m e (omega (arith, pow-add 10 (k - 1) e, low, up))
far_if s m k (negsuc e) is some h =
    let few : 20 + suc e ≤ k - 1 = omega (arith, ints) in
    let up : 10 ^ (20 + suc e) ≤ 10 ^ (k - 1) = ten_le (20 + suc e) (k - 1) few in
    let low = is.above some in
    part_large s m e (omega (arith, pow-add 10 20 (suc e), up, low))

pub near_if : (s : Bool) (m k : ℕ) (e : ℤ) → HasDigits m k → 0 < k → ((pos k -ℤ pos 1) +ℤ e) <ℤ pos 20 → is_infinite (scaled (signed_of s m) e) ≡ false
near_if s m k (pos e) is some h =
    let few : k + e ≤ 20 = omega (arith, ints) in
    let high : suc m * 10 ^ e ≤ 10 ^ k * 10 ^ e = mul-le-mul is.below (omega arith) in
    let up : 10 ^ (k + e) ≤ 10 ^ 20 = ten_le (k + e) 20 few in
    whole_small s m e (omega (arith, pow-add 10 k e, high, up, ten_pos e))
near_if s m k (negsuc e) is some h =
    let few : k ≤ 20 + suc e = omega (arith, ints) in
    let up : 10 ^ k ≤ 10 ^ (20 + suc e) = ten_le k (20 + suc e) few in
    let high = is.below in
    part_small s m e (omega (arith, pow-add 10 20 (suc e), up, high))

pub zero_near : (s : Bool) (m : ℕ) (e : ℤ) → m ≡ 0 → is_infinite (scaled (signed_of s m) e) ≡ false
zero_near s m (pos e) z = whole_small s m e (let k : m * 10 ^ e ≡ 0 = ap (λ n. n * 10 ^ e) z ∙ omega arith in omega (arith, k))
zero_near s m (negsuc e) z = part_small s m e (let k = ten_pos (suc e) in omega (arith, k, z))

-- the test by a power of ten that may stand for another one of its size
pub far_is : (s : Bool) (m k places : ℕ) (x p : ℤ) (r : Bool) → HasDigits m k → 0 < k → k < 2 ^ 66 → places < 2 ^ 64 → IsSamePower x p
    → (r ≡ true → pos 20 ≤ℤ (((pos k -ℤ pos 1) -ℤ pos places) +ℤ x)) → (r ≡ false → (((pos k -ℤ pos 1) -ℤ pos places) +ℤ x) <ℤ pos 20)
    → r ≡ is_infinite (scaled (signed_of s m) (p -ℤ pos places))
far_is s m k places x p true is some few short same high low =
    let l = high refl in sym (far_if s m k (p -ℤ pos places) is some (go same))
  where
    go : IsSamePower x p → pos 20 ≤ℤ ((pos k -ℤ pos 1) +ℤ (p -ℤ pos places))
    go (inl e) = let l = high refl in omega (arith, ints)
    go (inr (inl h)) = let a = h.1 in omega (arith, ints)
    go (inr (inr h)) = let a = h.0 in let l = high refl in absurd (omega (arith, ints))
far_is s m k places x p false is some few short same high low = sym (near_if s m k (p -ℤ pos places) is some (go same))
  where
    go : IsSamePower x p → ((pos k -ℤ pos 1) +ℤ (p -ℤ pos places)) <ℤ pos 20
    go (inl e) = let l = low refl in omega (arith, ints)
    go (inr (inl h)) = let a = h.0 in let l = low refl in absurd (omega (arith, ints))
    go (inr (inr h)) = let a = h.1 in omega (arith, ints)

-- ---- the parts of a decimal

pub parts_digits : (text w f p : List ℕ) → IsParts text w f p → is_decimal text ≡ true → (list_all is_digit w ≡ true) × (list_all is_digit f ≡ true) × (is_exponent p ≡ true)
parts_digits text w f p k h =
    let a : are_digits (whole_digits text ++ fraction_digits text) ≡ true = and_first (are_digits (whole_digits text ++ fraction_digits text)) (is_exponent (exponent_part text)) h in
    let b : is_exponent (exponent_part text) ≡ true = and_second (are_digits (whole_digits text ++ fraction_digits text)) (is_exponent (exponent_part text)) h in
    let both = digits_parts (whole_digits text) (fraction_digits text) a in
    (ap (list_all is_digit) k.whole_is ∙ both.0, ap (list_all is_digit) k.fraction_is ∙ both.1, ap is_exponent k.part_is ∙ b)

pub far_parts : (text w f p : List ℕ) → IsParts text w f p → is_infinite (scaled (signed_of (is_negative text) (number_after 0 (w ++ f))) (power_of p -ℤ pos (length f))) ≡ is_infinite (decimal_value text)
far_parts text w f p k =
    ap (λ n. is_infinite (scaled (signed_of (is_negative text) n) (power_of p -ℤ pos (length f)))) (after_append 0 w f) ∙ ap is_infinite (parts_value text w f p (is_negative text) k refl)
