-- Numbers in lowest terms: each ratio has one pair.
use Rattle.std.proofs.Common.{◌≡◌, ℕ, zero, suc, ◌*◌, ◌<◌, Bool, true, false, cond, [], ◌∷◌, refl, sym, ap, ◌∙◌, subst, arith}
use native.Mathlib.Nat.{dvd-mul_left, dvd_antisymm, eq_of_mul-eq-mul_right, mul-lt-mul_of_pos_right, zero-lt-suc}
use lib.IntN.{ℤ, pos, negsuc, neg_ℤ, ◌*ℤ◌, nat_abs}
use lib.Dec.{T, T_prop, eqb, ltb, eqb→eq, ltb→lt, lt→ltb}
use Rattle.std.specs.Int.{IsGcd, ◌∣◌}
use Rattle.std.proofs.lemmas.Nat.Gcd.{same_from_IsGcd, IsGcd-swap}
use Rattle.std.proofs.lemmas.Int.{ints}
use Rattle.pami_algebra.specs.Fraction.{gcd, is_lowest, Fraction}
use Rattle.pami_algebra.specs.Gcd.{gcd_is, divides_other}
use Rattle.pami_algebra.specs.Integers.{by_ring_ℤ}
use Rattle.pami_algebra.specs.Ring.{var, ◌⊗◌}

-- ---- the two parts of the test
both_true : (b c : Bool) → T (cond b c false) → T b × T c
both_true true c h = (tt, h)
both_true false c h = absurd h

true_both : (b c : Bool) → T b → T c → T (cond b c false)
true_both true c h k = k
true_both false c h k = absurd h

pub lowest_gcd : (n : ℤ) (d : ℕ) → T (is_lowest n d) → gcd (nat_abs n) d ≡ 1
lowest_gcd n d h = eqb→eq _ _ (both_true (eqb (gcd (nat_abs n) d) 1) (ltb 0 d) h).0

pub lowest_pos : (n : ℤ) (d : ℕ) → T (is_lowest n d) → 0 < d
lowest_pos n d h = ltb→lt 0 d (both_true (eqb (gcd (nat_abs n) d) 1) (ltb 0 d) h).1

pub is_lowest_in : (n : ℤ) (d : ℕ) → gcd (nat_abs n) d ≡ 1 → 0 < d → T (is_lowest n d)
is_lowest_in n d e p = true_both (eqb (gcd (nat_abs n) d) 1) (ltb 0 d) (subst (λ k. T (eqb k 1)) (sym e) tt) (lt→ltb 0 d p)

-- ---- one pair for each ratio
-- a denominator in lowest terms divides that of each equal ratio
den_divides : (a b c d : ℕ) → gcd a b ≡ 1 → 0 < d → a * d ≡ c * b → b ∣ d
den_divides a b c d e pd h =
    let g : gcd b a ≡ 1 = same_from_IsGcd b a _ _ (gcd_is b a) (subst (λ n. IsGcd b a n) e (IsGcd-swap a b _ (gcd_is a b))) in
    divides_other b a d pd g (subst (λ n. b ∣ n) (sym h) (dvd-mul_left b c))

-- absolute values of negations and products
pub abs_neg : (n : ℕ) → nat_abs (neg_ℤ (pos n)) ≡ n
abs_neg zero = refl
abs_neg (suc n) = refl

pub abs_mul : (n : ℤ) (d : ℕ) → nat_abs (n *ℤ pos d) ≡ nat_abs n * d
abs_mul (pos n) d = refl
abs_mul (negsuc n) d = abs_neg (suc n * d)

-- a factor above 0 on both sides can be left out
pub cancel_ℤ : (n m : ℤ) (d : ℕ) → 0 < d → n *ℤ pos d ≡ m *ℤ pos d → n ≡ m
cancel_ℤ (pos n) (pos m) d p e = ap pos (eq_of_mul-eq-mul_right d p n m (ap nat_abs e))
cancel_ℤ (pos n) (negsuc m) d p e = let k : 0 < suc m * d = omega (arith, mul-lt-mul_of_pos_right {k = d} (zero-lt-suc m) p) in absurd (omega (arith, ints))
cancel_ℤ (negsuc n) (pos m) d p e = let k : 0 < suc n * d = omega (arith, mul-lt-mul_of_pos_right {k = d} (zero-lt-suc n) p) in absurd (omega (arith, ints))
cancel_ℤ (negsuc n) (negsuc m) d p e = ap (λ k. neg_ℤ (pos k)) (eq_of_mul-eq-mul_right d p (suc n) (suc m) (sym (abs_neg (suc n * d)) ∙ ap nat_abs e ∙ abs_neg (suc m * d)))

-- equal ratios in lowest terms have the same numbers
pub one_pair : (n m : ℤ) (d e : ℕ) → T (is_lowest n d) → T (is_lowest m e) → n *ℤ pos e ≡ m *ℤ pos d → (n ≡ m) × (d ≡ e)
one_pair n m d e low high h =
    let abs : nat_abs n * e ≡ nat_abs m * d = sym (abs_mul n e) ∙ ap nat_abs h ∙ abs_mul m d in
    let pd = lowest_pos n d low in
    let pe = lowest_pos m e high in
    let same : d ≡ e = dvd_antisymm (den_divides (nat_abs n) d (nat_abs m) e (lowest_gcd n d low) pe abs) (den_divides (nat_abs m) e (nat_abs n) d (lowest_gcd m e high) pd (sym abs)) in
    (cancel_ℤ n m d pd (ap (λ k. n *ℤ pos k) same ∙ h), same)

-- ---- fractions with the same numbers are the same
-- the fraction of two numbers in lowest terms
abbrev pub made : (n : ℤ) (d : ℕ) → T (is_lowest n d) → Fraction
made n d h = record { num = n; den = d; lowest = h }

same_made : (n m : ℤ) (d e : ℕ) (h : T (is_lowest n d)) (k : T (is_lowest m e)) → n ≡ m → d ≡ e → made n d h ≡ made m e k
same_made n m d e h k p q =
    subst (λ (e : ℕ). (k : T (is_lowest m e)) → made n d h ≡ made m e k) q
    (subst (λ (m : ℤ). (k : T (is_lowest m d)) → made n d h ≡ made m d k) p (λ k. ap (made n d) (T_prop (is_lowest n d) h k))) k

pub same_fraction : (p q : Fraction) → p.num ≡ q.num → p.den ≡ q.den → p ≡ q
same_fraction p q e f = same_made p.num q.num p.den q.den p.lowest q.lowest e f

-- ---- ratios
-- p is n / d
pub record IsRatio (p : Fraction) (n : ℤ) (d : ℕ) : Type 0 where
  pub positive : 0 < d
  pub cross : p.num *ℤ pos d ≡ n *ℤ pos p.den

-- a denominator is above 0
pub den_pos : (p : Fraction) → 0 < p.den
den_pos p = lowest_pos p.num p.den p.lowest

-- a fraction is the ratio of its own numbers
pub itself : (p : Fraction) → IsRatio p p.num p.den
itself p = record { positive = den_pos p; cross = refl }

pub mul_pos : (a b : ℕ) → 0 < a → 0 < b → 0 < a * b
mul_pos a b p q = omega (arith, mul-lt-mul_of_pos_right {k = b} p q)

-- two fractions are the same where their ratios are
pub same_ratio : (p q : Fraction) (n m : ℤ) (d e : ℕ) → IsRatio p n d → IsRatio q m e → n *ℤ pos e ≡ m *ℤ pos d → p ≡ q
same_ratio p q n m d e r s h =
    let x0 = var 0 in let x1 = var 1 in let x2 = var 2 in let x3 = var 3 in
    let left : (p.num *ℤ pos q.den) *ℤ pos (d * e) ≡ ((p.num *ℤ pos d) *ℤ pos e) *ℤ pos q.den = by_ring_ℤ (p.num ∷ pos q.den ∷ pos d ∷ pos e ∷ []) (x0 ⊗ x1 ⊗ (x2 ⊗ x3)) (x0 ⊗ x2 ⊗ x3 ⊗ x1) refl in
    let middle : ((n *ℤ pos p.den) *ℤ pos e) *ℤ pos q.den ≡ ((n *ℤ pos e) *ℤ pos p.den) *ℤ pos q.den = by_ring_ℤ (n ∷ pos p.den ∷ pos e ∷ pos q.den ∷ []) (x0 ⊗ x1 ⊗ x2 ⊗ x3) (x0 ⊗ x2 ⊗ x1 ⊗ x3) refl in
    let next : ((m *ℤ pos d) *ℤ pos p.den) *ℤ pos q.den ≡ ((m *ℤ pos q.den) *ℤ pos d) *ℤ pos p.den = by_ring_ℤ (m ∷ pos d ∷ pos p.den ∷ pos q.den ∷ []) (x0 ⊗ x1 ⊗ x2 ⊗ x3) (x0 ⊗ x3 ⊗ x1 ⊗ x2) refl in
    let right : ((q.num *ℤ pos e) *ℤ pos d) *ℤ pos p.den ≡ (q.num *ℤ pos p.den) *ℤ pos (d * e) = by_ring_ℤ (q.num ∷ pos e ∷ pos d ∷ pos p.den ∷ []) (x0 ⊗ x1 ⊗ x2 ⊗ x3) (x0 ⊗ x3 ⊗ (x2 ⊗ x1)) refl in
    let all : (p.num *ℤ pos q.den) *ℤ pos (d * e) ≡ (q.num *ℤ pos p.den) *ℤ pos (d * e) =
    left ∙ ap (λ z. (z *ℤ pos e) *ℤ pos q.den) r.cross ∙ middle ∙ ap (λ z. (z *ℤ pos p.den) *ℤ pos q.den) h ∙ next ∙ ap (λ z. (z *ℤ pos d) *ℤ pos p.den) (sym s.cross) ∙ right in
    let pair = one_pair p.num q.num p.den q.den p.lowest q.lowest (cancel_ℤ _ _ (d * e) (mul_pos d e r.positive s.positive) all) in
    same_fraction p q pair.0 pair.1

-- a ratio in other numbers
pub again : (p : Fraction) (n m : ℤ) (d e : ℕ) → IsRatio p n d → 0 < e → n *ℤ pos e ≡ m *ℤ pos d → IsRatio p m e
again p n m d e r pe h =
    let x0 = var 0 in let x1 = var 1 in let x2 = var 2 in
    let all : (p.num *ℤ pos e) *ℤ pos d ≡ (m *ℤ pos p.den) *ℤ pos d =
    by_ring_ℤ (p.num ∷ pos e ∷ pos d ∷ []) (x0 ⊗ x1 ⊗ x2) (x0 ⊗ x2 ⊗ x1) refl
    ∙ ap (λ z. z *ℤ pos e) r.cross
    ∙ by_ring_ℤ (n ∷ pos p.den ∷ pos e ∷ []) (x0 ⊗ x1 ⊗ x2) (x0 ⊗ x2 ⊗ x1) refl
    ∙ ap (λ z. z *ℤ pos p.den) h
    ∙ by_ring_ℤ (m ∷ pos d ∷ pos p.den ∷ []) (x0 ⊗ x1 ⊗ x2) (x0 ⊗ x2 ⊗ x1) refl in
    record { positive = pe; cross = cancel_ℤ _ _ d r.positive all }
