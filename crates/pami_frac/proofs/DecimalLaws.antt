-- Laws of the digits of decimals.
use Rattle.std.proofs.Common.{◌≡◌, ℕ, zero, suc, ◌+◌, ◌-◌, ◌*◌, ◌%◌, ◌^◌, ◌<◌, ◌≤◌, Bool, true, false, ◌&&◌, List, [], ◌∷◌, ◌++◌, length, take, get_or, refl, sym, ap, ◌∙◌, arith, add-one, lit<, ◌==◌}
use Rattle.std.proofs.Math.Nat.{pow-le-pow_right, one-le-pow, mul-le-mul, mul-add-mod_self_left, mod-eq_of_lt, mul-mod_left, mul-mod_right}
use Rattle.std.proofs.lemmas.Nat.{pow-add}
use Rattle.std.proofs.lemmas.List.Folds.{list_all-append}
use Rattle.std.specs.List.{list_all}
use Rattle.pami_frac.specs.Decimal.{is_digit, are_digits, number_after}
use Rattle.pami_frac.specs.DecimalDigits.{IsLong}

-- ---- digits as a list

-- two lists that aren't both empty are digits where each is
pub digits_both : (xs ys : List ℕ) → 0 < length xs + length ys → are_digits (xs ++ ys) ≡ (list_all is_digit xs && list_all is_digit ys)
digits_both [] [] h = absurd (omega arith)
digits_both [] (y ∷ ys) h = refl
digits_both (x ∷ xs) ys h = list_all-append is_digit (x ∷ xs) ys

after_suc : (n : ℕ) (ds : List ℕ) (i : ℕ) → i < length ds → number_after n (take (suc i) ds) ≡ number_after n (take i ds) * 10 + (get_or ds i 0 - 48)
after_suc n [] i h = absurd (omega arith)
after_suc n (c ∷ cs) zero h = refl
after_suc n (c ∷ cs) (suc i) h = after_suc (n * 10 + (c - 48)) cs i (omega arith)

-- one digit more
pub after_more : (n : ℕ) (ds : List ℕ) (i : ℕ) → i < length ds → number_after n (take (i + 1) ds) ≡ number_after n (take i ds) * 10 + (get_or ds i 0 - 48)
after_more n ds i h = ap (λ k. number_after n (take k ds)) (add-one i) ∙ after_suc n ds i h

pub after_append : (n : ℕ) (xs ys : List ℕ) → number_after n (xs ++ ys) ≡ number_after (number_after n xs) ys
after_append n [] ys = refl
after_append n (x ∷ xs) ys = after_append (n * 10 + (x - 48)) xs ys

pub digits_parts : (xs ys : List ℕ) → are_digits (xs ++ ys) ≡ true → (list_all is_digit xs ≡ true) × (list_all is_digit ys ≡ true)
digits_parts [] [] h = (refl, refl)
digits_parts [] (y ∷ ys) h = (refl, h)
digits_parts (x ∷ xs) ys h = both_true (list_all is_digit (x ∷ xs)) (list_all is_digit ys) (sym (list_all-append is_digit (x ∷ xs) ys) ∙ h)
  where
    both_true : (a b : Bool) → (a && b) ≡ true → (a ≡ true) × (b ≡ true)
    both_true true b h = (refl, h)
    both_true false b h = cc

pub none_pos : (n : ℕ) → (n == 0) ≡ false → 0 < n
none_pos zero h = cc
none_pos (suc n) h = omega arith

-- ---- a number held below its value

-- it is the number, or both are 2^100 or more
pub record IsCapped (n held : ℕ) : Type 0 where
  pub near : held < 2 ^ 100 → n ≡ held
  pub far : 2 ^ 100 ≤ held → 2 ^ 100 ≤ n
  pub bound : held < 2 ^ 104

pub capped_more : (n held d : ℕ) → IsCapped n held → held < 2 ^ 100 → d < 256 → IsCapped (n * 10 + d) (10 * held + d)
capped_more n held d c h k =
    let e : n ≡ held = c.near h in
    record { near = λ l. omega arith; far = λ l. omega arith; bound = omega arith }

pub capped_rest : (n held d : ℕ) → IsCapped n held → 2 ^ 100 ≤ held → IsCapped (n * 10 + d) held
capped_rest n held d c h =
    let e : 2 ^ 100 ≤ n = c.far h in
    record { near = λ l. absurd (omega arith); far = λ l. omega arith; bound = c.bound }

-- ---- powers of ten

pub ten_le : (a b : ℕ) → a ≤ b → 10 ^ a ≤ 10 ^ b
ten_le a b h = pow-le-pow_right (lit< tt) h

pub ten_pos : (a : ℕ) → 1 ≤ 10 ^ a
ten_pos a = one-le-pow a 10 (lit< tt)

pub ten_more : (a : ℕ) → 10 ^ (a + 1) ≡ 10 ^ a * 10
ten_more a = pow-add 10 a 1

pub ten_below : (a : ℕ) → a ≤ 38 → 10 ^ a < 2 ^ 127
ten_below a h = let k : 10 ^ a ≤ 10 ^ 38 = ten_le a 38 h in omega arith

-- a number of at least 1 times a large power
pub zeros_large : (m z : ℕ) → 0 < m → 37 < z → 10 ^ 38 ≤ m * 10 ^ z
zeros_large m z p h =
    let k : 10 ^ 38 ≤ 10 ^ z = ten_le 38 z (omega arith) in
    let l : 1 * 10 ^ z ≤ m * 10 ^ z = mul-le-mul (omega arith) (omega arith) in
    omega arith

pub wide_up : (m p k : ℕ) → k ≤ m → k ≤ m * 10 ^ p
wide_up m p k h = let l : m * 1 ≤ m * 10 ^ p = mul-le-mul (omega arith) (ten_pos p) in omega arith

pub times_nil : (d z : ℕ) → 0 ≡ d * 10 ^ z → d ≡ 0
times_nil zero z h = refl
times_nil (suc d) z h = let l : suc d * 1 ≤ suc d * 10 ^ z = mul-le-mul (omega arith) (ten_pos z) in absurd (omega arith)

-- ---- numbers without zeros at their ends

pub last_digit : (n d : ℕ) → d < 10 → (n * 10 + d) % 10 ≡ d
last_digit n d h = let e : n * 10 + d ≡ 10 * n + d = omega arith in ap (λ k. k % 10) e ∙ mul-add-mod_self_left 10 n d ∙ mod-eq_of_lt h

pub long_from : (m d : ℕ) → 10 ^ 38 ≤ m → 0 < d → d < 10 → IsLong (m * 10 + d)
long_from m d h p q = record { digits = m * 10 + d; zeros = 0; same = omega arith; many = omega arith; ends = λ e. let k = last_digit m d q in omega arith }

pub long_more : (m d : ℕ) → IsLong m → d < 10 → IsLong (m * 10 + d)
long_more m zero l h =
    let e : l.digits * (10 ^ l.zeros * 10) ≡ l.digits * 10 ^ l.zeros * 10 = omega arith in
    record { digits = l.digits; zeros = l.zeros + 1; same = ap (λ n. n * 10 + 0) l.same ∙ sym (ap (λ n. l.digits * n) (ten_more l.zeros) ∙ e ∙ omega arith); many = l.many; ends = l.ends }
long_more m (suc d) l h =
    let p : l.digits * 1 ≤ l.digits * 10 ^ l.zeros = mul-le-mul (omega arith) (ten_pos l.zeros) in
    let s : m ≡ l.digits * 10 ^ l.zeros = l.same in
    let k : 10 ^ 39 ≤ l.digits = l.many in
    long_from m (suc d) (omega arith) (omega arith) h

not_ten : (d z : ℕ) → ¬ ((d * 10 ^ suc z) % 10 ≡ 0) → ⊥
not_ten d z h =
    let e : d * 10 ^ suc z ≡ d * 10 ^ z * 10 = ap (λ n. d * n) (Rattle.std.proofs.Math.Nat.pow-suc 10 z) ∙ omega arith in
    h (ap (λ n. n % 10) e ∙ mul-mod_left (d * 10 ^ z) 10)

peeled : (d e y z : ℕ) → d * 10 ^ suc y ≡ e * 10 ^ suc z → d * 10 ^ y ≡ e * 10 ^ z
peeled d e y z h =
    let p = Rattle.std.proofs.Math.Nat.pow-suc 10 y in let q = Rattle.std.proofs.Math.Nat.pow-suc 10 z in
    let k : d * (10 ^ y * 10) ≡ e * (10 ^ z * 10) = sym (ap (λ n. d * n) p) ∙ h ∙ ap (λ n. e * n) q in
    omega arith

-- a number has one form without zeros at its end
pub one_form : (d e y z : ℕ) → d * 10 ^ y ≡ e * 10 ^ z → ¬ (d % 10 ≡ 0) → ¬ (e % 10 ≡ 0) → (d ≡ e) × (y ≡ z)
one_form d e zero zero h n k = (omega arith, refl)
one_form d e zero (suc z) h n k = absurd (not_ten e z (λ t. n (ap (λ m. m % 10) (let g : d ≡ e * 10 ^ suc z = omega arith in g) ∙ t)))
one_form d e (suc y) zero h n k = absurd (not_ten d y (λ t. k (ap (λ m. m % 10) (let g : e ≡ d * 10 ^ suc y = omega arith in g) ∙ t)))
one_form d e (suc y) (suc z) h n k = let r = one_form d e y z (peeled d e y z h) n k in (r.0, ap suc r.1)
