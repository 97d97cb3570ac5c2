-- The count of a number's binary digits is the only one that is enough and not too many.
use Rattle.std.proofs.Common.{◌≡◌, ℕ, zero, suc, ◌*◌, ◌/◌, ◌%◌, ◌<◌, ◌≤◌, ◌^◌, refl, sym, ap, ◌∙◌, subst, arith, ⊎_elim, true, false, cond}
use native.Mathlib.Nat.{div-add-mod, mod-lt}
use Rattle.std.proofs.lemmas.Bool.{cases_lt}
use lib.IntN.{ℤ, pos, negsuc, ◌-ℤ◌, nat_abs}
use Rattle.pami_algebra.specs.Fraction.{Fraction}
use Rattle.pami_frac.specs.Signs.{is_zero}
use Rattle.pami_algebra.specs.Size.{halvings, bits, NeedsDigits, size}

-- the digits of a half, and one more
one_more : (n b : ℕ) → 0 < n / 2 → NeedsDigits (n / 2) b → NeedsDigits n (suc b)
one_more n b p h =
    let e = div-add-mod n 2 in
    let r : n % 2 < 2 = mod-lt n (omega arith) in
    let x = h.enough in
    let y = h.all in
    record { enough = omega arith; all = omega arith }

one_digit : (n : ℕ) → n / 2 ≡ 0 → 0 < n → NeedsDigits n 1
one_digit n e p = let f = div-add-mod n 2 in let r : n % 2 < 2 = mod-lt n (omega arith) in record { enough = omega arith; all = omega arith }

halvings_need : (k n : ℕ) → 0 < n → n ≤ k → NeedsDigits n (halvings k n)
halvings_need zero n p h = absurd (omega arith)
halvings_need (suc k) zero p h = absurd (omega arith)
halvings_need (suc k) (suc n) p h = ⊎_elim
    (λ (l : 0 < suc n / 2). one_more (suc n) (halvings k (suc n / 2)) l (halvings_need k (suc n / 2) l (let f = div-add-mod (suc n) 2 in omega arith)))
    (λ (l : suc n / 2 ≤ 0). let e : suc n / 2 ≡ 0 = omega arith in
    subst (λ m. NeedsDigits (suc n) (suc (halvings k m))) (sym e) (subst (λ b. NeedsDigits (suc n) (suc b)) (none k) (one_digit (suc n) e p)))
    (cases_lt 0 (suc n / 2))
  where
    none : (k : ℕ) → 0 ≡ halvings k 0
    none zero = refl
    none (suc k) = refl

pub bits_need : (n : ℕ) → 0 < n → NeedsDigits n (bits n)
unfolding bits
bits_need n p = halvings_need n n p (omega arith)

-- more digits are worth twice as much at least
power_up : (b c : ℕ) → b < c → 2 * 2 ^ b ≤ 2 ^ c
power_up b zero h = absurd (omega arith)
power_up b (suc c) h = ⊎_elim
    (λ (l : b < c). let k = power_up b c l in let e : 2 ^ suc c ≡ 2 * 2 ^ c = omega arith in omega arith)
    (λ (l : c ≤ b). let e : b ≡ c = omega arith in let f : 2 * 2 ^ c ≡ 2 ^ suc c = omega arith in subst (λ b. 2 * 2 ^ b ≤ 2 ^ suc c) (sym e) (omega arith))
    (cases_lt b c)

not_more : (n b c : ℕ) → NeedsDigits n b → NeedsDigits n c → b < c → ⊥
not_more n b c x y h =
    let l = x.enough in
    let m = y.all in
    let u : 2 * 2 ^ b ≤ 2 ^ c = power_up b c h in
    omega arith

pub only_digits : (n b c : ℕ) → NeedsDigits n b → NeedsDigits n c → b ≡ c
only_digits n b c x y = ⊎_elim (λ (h : b < c). absurd (not_more n b c x y h)) (λ (h : c ≤ b). ⊎_elim (λ (k : c < b). absurd (not_more n c b y x k)) (λ (k : b ≤ c). omega arith) (cases_lt c b)) (cases_lt b c)

-- the digits by the logarithm
pub bits_by_log : (n l : ℕ) → 0 < n → 2 ^ l ≤ n → n < 2 * 2 ^ l → bits n ≡ suc l
bits_by_log n l p x y = only_digits n (bits n) (suc l) (bits_need n p) (record { enough = omega arith; all = omega arith })

pub size_zero : (p : Fraction) → is_zero p ≡ true → negsuc 126 ≡ size p
unfolding size
size_zero p e = sym (ap (λ t. cond t (negsuc 126) (pos (bits (nat_abs p.num)) -ℤ pos (bits p.den))) e)

pub size_other : (p : Fraction) (a b n m : ℕ) (z : ℤ) → is_zero p ≡ false → n ≡ nat_abs p.num → m ≡ p.den → a ≡ bits n → b ≡ bits m → z ≡ pos a -ℤ pos b → z ≡ size p
unfolding size
size_other p a b n m z e f g h i j =
    j ∙ ap (λ a. pos a -ℤ pos b) (h ∙ ap bits f) ∙ ap (λ b. pos (bits (nat_abs p.num)) -ℤ pos b) (i ∙ ap bits g)
    ∙ sym (ap (λ t. cond t (negsuc 126) (pos (bits (nat_abs p.num)) -ℤ pos (bits p.den))) e)
