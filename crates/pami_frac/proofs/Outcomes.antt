-- What an operation that fits answers, and that it fits the other way round.
use Rattle.std.proofs.Common.{◌≡◌, ℕ, ◌*◌, ◌/◌, refl, sym, ap, ◌∙◌, subst, arith, Bool, true, false, cond, Result, Ok, Err}
use native.Mathlib.Nat.{div-mul_cancel}
use lib.IntN.{ℤ, pos, neg_ℤ, ◌+ℤ◌, ◌*ℤ◌, nat_abs, +ℤ_comm}
use Rattle.std.proofs.lemmas.Int.{ints}
use Rattle.std.proofs.lemmas.Bool.{true≢false}
use Rattle.std.proofs.lemmas.Nat.Gcd.{same_from_IsGcd, IsGcd-swap}
use Rattle.pami_algebra.specs.Fraction.{Fraction, gcd}
use Rattle.pami_algebra.specs.Gcd.{gcd_is}
use Rattle.pami_algebra.specs.Integers.{neg_mul_ℤ}
use Rattle.pami_algebra.specs.Operations.{◌+ᶠ◌, ◌*ᶠ◌, neg_f, inv_f, of_int}
use Rattle.pami_algebra.proofs.Laws.{add_comm_f, mul_comm_f, add_nil_f}
use Rattle.pami_algebra.proofs.Field.{nil_add_f, mul_nil_f, nil_mul_f, neg_add_f, neg_nil_f, neg_not_zero_f}
use Rattle.pami_algebra.proofs.Parts.{abs_neg_ℤ, num_neg_f, den_neg_f}
use Rattle.pami_frac.specs.Range.{small, fits}
use Rattle.pami_frac.specs.Signs.{is_zero}
use Rattle.pami_frac.specs.Arithmetic.{all_small, add_fits, mul_fits, answer, add_outcome, mul_outcome, sub_outcome, div_outcome, refused_as}
use Rattle.pami_frac.specs.declared.arithmetic.Op.{Op}
use Rattle.pami_frac.specs.declared.arithmetic.Op.TheVariants.{Add, Sub, Mul, Div}
use Rattle.pami_frac.specs.declared.arithmetic.Refused.{Refused}
use Rattle.pami_algebra.proofs.Tests.{is_zero_iff, not_zero_iff}

-- ---- 0 is found by its test
pub zero_by_test : (p : Fraction) → is_zero p ≡ true → p ≡ of_int (pos 0)
zero_by_test p e = (is_zero_iff p).0 e

pub zero_is_zero : is_zero (of_int (pos 0)) ≡ true
zero_is_zero = (is_zero_iff (of_int (pos 0))).1 refl

pub not_zero_by_test : (p : Fraction) → ¬ (p ≡ of_int (pos 0)) → is_zero p ≡ false
not_zero_by_test p h = go (is_zero p) (zero_by_test p)
  where
    go : (b : Bool) → (b ≡ true → p ≡ of_int (pos 0)) → b ≡ false
    go true k = absurd (h (k refl))
    go false k = refl

-- ---- an answer by the three tests: is the first operand 0, is the second, does the result fit
-- what holds for each of the three ways to a value holds for the value
by_tests : (P : Fraction → Type 0) (a b f : Bool) (x y v p q s : Fraction) (op : Op) →
    (a ≡ true → P x) → (b ≡ true → P y) → (a ≡ false → b ≡ false → f ≡ true → P v) → cond a (Ok x) (cond b (Ok y) (answer f v op p q)) ≡ Ok s → P s
by_tests P true b f x y v p q s op h k m e = let i : x ≡ s = cc in subst P i (h refl)
by_tests P false true f x y v p q s op h k m e = let i : y ≡ s = cc in subst P i (k refl)
by_tests P false false true x y v p q s op h k m e = let i : v ≡ s = cc in subst P i (m refl refl refl)
by_tests P false false false x y v p q s op h k m e = absurd (cc)

-- ---- values
pub add_value : (p q s : Fraction) → add_outcome p q ≡ Ok s → s ≡ p +ᶠ q
unfolding add_outcome
add_value p q s e = by_tests (λ s. s ≡ p +ᶠ q) (is_zero p) (is_zero q) (add_fits p q) q p (p +ᶠ q) p q s Add
    (λ h. sym (nil_add_f q) ∙ ap (λ z. z +ᶠ q) (sym (zero_by_test p h)))
    (λ h. sym (add_nil_f p) ∙ ap (λ z. p +ᶠ z) (sym (zero_by_test q h)))
    (λ h k m. refl) e

pub mul_value : (p q s : Fraction) → mul_outcome p q ≡ Ok s → s ≡ p *ᶠ q
unfolding mul_outcome
mul_value p q s e = by_tests (λ s. s ≡ p *ᶠ q) (is_zero p) (is_zero q) (mul_fits p q) (of_int (pos 0)) (of_int (pos 0)) (p *ᶠ q) p q s Mul
    (λ h. sym (nil_mul_f q) ∙ ap (λ z. z *ᶠ q) (sym (zero_by_test p h)))
    (λ h. sym (mul_nil_f p) ∙ ap (λ z. p *ᶠ z) (sym (zero_by_test q h)))
    (λ h k m. refl) e

-- the same answer under another name for its refusal
pub renamed : (op : Op) (p q s : Fraction) (r : Result Fraction Refused) → refused_as op p q r ≡ Ok s → r ≡ Ok s
renamed op p q s (Ok v) e = e
renamed op p q s (Err x) e = absurd (cc)

pub renamed_back : (op : Op) (p q s : Fraction) (r : Result Fraction Refused) → r ≡ Ok s → refused_as op p q r ≡ Ok s
renamed_back op p q s (Ok v) e = e
renamed_back op p q s (Err x) e = absurd (cc)

pub sub_to_add : (p q s : Fraction) → sub_outcome p q ≡ Ok s → add_outcome p (neg_f q) ≡ Ok s
unfolding sub_outcome
sub_to_add p q s e = renamed Sub p q s (add_outcome p (neg_f q)) e

pub add_to_sub : (p q s : Fraction) → add_outcome p (neg_f q) ≡ Ok s → sub_outcome p q ≡ Ok s
unfolding sub_outcome
add_to_sub p q s e = renamed_back Sub p q s (add_outcome p (neg_f q)) e

pub div_to_mul : (p q s : Fraction) → div_outcome p q ≡ Ok s → mul_outcome p (inv_f q) ≡ Ok s
unfolding div_outcome
div_to_mul p q s e = renamed Div p q s (mul_outcome p (inv_f q)) e

pub mul_to_div : (p q s : Fraction) → mul_outcome p (inv_f q) ≡ Ok s → div_outcome p q ≡ Ok s
unfolding div_outcome
mul_to_div p q s e = renamed_back Div p q s (mul_outcome p (inv_f q)) e

pub sub_value : (p q s : Fraction) → sub_outcome p q ≡ Ok s → s ≡ p +ᶠ neg_f q
sub_value p q s e = add_value p (neg_f q) s (sub_to_add p q s e)

pub div_value : (p q s : Fraction) → div_outcome p q ≡ Ok s → s ≡ p *ᶠ inv_f q
div_value p q s e = mul_value p (inv_f q) s (div_to_mul p q s e)

-- ---- zero operands
first_true : {A : Type 0} (b : Bool) (x y : A) → b ≡ true → cond b x y ≡ x
first_true true x y e = refl
first_true false x y e = absurd (true≢false (sym e))

first_false : {A : Type 0} (b : Bool) (x y : A) → b ≡ false → cond b x y ≡ y
first_false true x y e = absurd (true≢false e)
first_false false x y e = refl

pub zero_add_fits : (q : Fraction) → add_outcome (of_int (pos 0)) q ≡ Ok q
unfolding add_outcome
zero_add_fits q = first_true (is_zero (of_int (pos 0))) (Ok q) _ zero_is_zero

pub add_zero_fits : (p : Fraction) → add_outcome p (of_int (pos 0)) ≡ Ok p
unfolding add_outcome
add_zero_fits p = go (is_zero p) (zero_by_test p)
  where
    go : (b : Bool) → (b ≡ true → p ≡ of_int (pos 0)) → cond b (Ok (of_int (pos 0))) (cond (is_zero (of_int (pos 0))) (Ok p) (answer (add_fits p (of_int (pos 0))) (p +ᶠ of_int (pos 0)) Add p (of_int (pos 0)))) ≡ Ok p
    go true h = ap Ok (sym (h refl))
    go false h = first_true (is_zero (of_int (pos 0))) (Ok p) _ zero_is_zero

pub zero_mul_fits : (q : Fraction) → mul_outcome (of_int (pos 0)) q ≡ Ok (of_int (pos 0))
unfolding mul_outcome
zero_mul_fits q = first_true (is_zero (of_int (pos 0))) (Ok (of_int (pos 0))) _ zero_is_zero

pub mul_zero_fits : (p : Fraction) → mul_outcome p (of_int (pos 0)) ≡ Ok (of_int (pos 0))
unfolding mul_outcome
mul_zero_fits p = go (is_zero p)
  where
    go : (b : Bool) → cond b (Ok (of_int (pos 0))) (cond (is_zero (of_int (pos 0))) (Ok (of_int (pos 0))) (answer (mul_fits p (of_int (pos 0))) (p *ᶠ of_int (pos 0)) Mul p (of_int (pos 0)))) ≡ Ok (of_int (pos 0))
    go true = refl
    go false = first_true (is_zero (of_int (pos 0))) (Ok (of_int (pos 0))) _ zero_is_zero

pub zero_sub_fits : (q : Fraction) → sub_outcome (of_int (pos 0)) q ≡ Ok (neg_f q)
zero_sub_fits q = add_to_sub (of_int (pos 0)) q (neg_f q) (zero_add_fits (neg_f q))

pub sub_zero_fits : (p : Fraction) → sub_outcome p (of_int (pos 0)) ≡ Ok p
sub_zero_fits p = add_to_sub p (of_int (pos 0)) p (subst (λ z. add_outcome p z ≡ Ok p) (sym neg_nil_f) (add_zero_fits p))

pub zero_div_fits : (q : Fraction) → div_outcome (of_int (pos 0)) q ≡ Ok (of_int (pos 0))
zero_div_fits q = mul_to_div (of_int (pos 0)) q (of_int (pos 0)) (zero_mul_fits (inv_f q))

-- ---- what fits, from the tests
-- an answer whose operands aren't 0 and whose result fits
pub add_by_test : (p q : Fraction) → is_zero p ≡ false → is_zero q ≡ false → add_fits p q ≡ true → add_outcome p q ≡ Ok (p +ᶠ q)
unfolding add_outcome
add_by_test p q e f h =
    first_false (is_zero p) (Ok q) (cond (is_zero q) (Ok p) (answer (add_fits p q) (p +ᶠ q) Add p q)) e
    ∙ first_false (is_zero q) (Ok p) (answer (add_fits p q) (p +ᶠ q) Add p q) f ∙ ap (λ b. answer b (p +ᶠ q) Add p q) h

pub mul_by_test : (p q : Fraction) → is_zero p ≡ false → is_zero q ≡ false → mul_fits p q ≡ true → mul_outcome p q ≡ Ok (p *ᶠ q)
unfolding mul_outcome
mul_by_test p q e f h =
    first_false (is_zero p) (Ok (of_int (pos 0))) (cond (is_zero q) (Ok (of_int (pos 0))) (answer (mul_fits p q) (p *ᶠ q) Mul p q)) e
    ∙ first_false (is_zero q) (Ok (of_int (pos 0))) (answer (mul_fits p q) (p *ᶠ q) Mul p q) f ∙ ap (λ b. answer b (p *ᶠ q) Mul p q) h

-- ---- the operands in the other order
gcd_swap : (a b : ℕ) → gcd a b ≡ gcd b a
gcd_swap a b = same_from_IsGcd a b _ _ (gcd_is a b) (IsGcd-swap b a _ (gcd_is b a))

swap_tests : (x y z w : Bool) → cond x (cond y (cond z w false) false) false ≡ cond y (cond x (cond z w false) false) false
swap_tests true true z w = refl
swap_tests true false z w = refl
swap_tests false true z w = refl
swap_tests false false z w = refl

all_small_swap : (l r : ℤ) (m : ℕ) → all_small l r m ≡ all_small r l m
all_small_swap l r m =
    ap (λ z. cond (small (nat_abs l)) (cond (small (nat_abs r)) (cond (small (nat_abs z)) (small m) false) false) false) (+ℤ_comm l r)
    ∙ swap_tests (small (nat_abs l)) (small (nat_abs r)) (small (nat_abs (r +ℤ l))) (small m)

least_multiple : (b d b' d' g : ℕ) → b' * g ≡ b → d' * g ≡ d → b * d' ≡ d * b'
least_multiple b d b' d' g e f = rw (← e, ← f) (omega arith)

pub add_fits_swap : (p q : Fraction) → add_fits p q ≡ add_fits q p
unfolding add_fits
add_fits_swap p q =
    let g = gcd_is p.den q.den in
    all_small_swap (p.num *ℤ pos (q.den / gcd p.den q.den)) (q.num *ℤ pos (p.den / gcd p.den q.den)) (p.den * (q.den / gcd p.den q.den))
    ∙ ap (all_small (q.num *ℤ pos (p.den / gcd p.den q.den)) (p.num *ℤ pos (q.den / gcd p.den q.den)))
    (least_multiple p.den q.den (p.den / gcd p.den q.den) (q.den / gcd p.den q.den) (gcd p.den q.den) (div-mul_cancel (gcd p.den q.den) g.0) (div-mul_cancel (gcd p.den q.den) g.1))
    ∙ ap (λ n. all_small (q.num *ℤ pos (p.den / n)) (p.num *ℤ pos (q.den / n)) (q.den * (p.den / n))) (gcd_swap p.den q.den)

pub add_swap : (p q s : Fraction) → add_outcome p q ≡ Ok s → add_outcome q p ≡ Ok s
unfolding add_outcome
add_swap p q s e = by_tests (λ s. add_outcome q p ≡ Ok s) (is_zero p) (is_zero q) (add_fits p q) q p (p +ᶠ q) p q s Add
    (λ h. subst (λ p. add_outcome q p ≡ Ok q) (sym (zero_by_test p h)) (add_zero_fits q))
    (λ h. subst (λ q. add_outcome q p ≡ Ok p) (sym (zero_by_test q h)) (zero_add_fits p))
    (λ h k m. add_by_test q p k h (sym (add_fits_swap p q) ∙ m) ∙ ap Ok (add_comm_f q p)) e

pub mul_swap : (p q s : Fraction) → mul_outcome p q ≡ Ok s → mul_outcome q p ≡ Ok s
unfolding mul_outcome mul_fits
mul_swap p q s e = by_tests (λ s. mul_outcome q p ≡ Ok s) (is_zero p) (is_zero q) (mul_fits p q) (of_int (pos 0)) (of_int (pos 0)) (p *ᶠ q) p q s Mul
    (λ h. subst (λ p. mul_outcome q p ≡ Ok (of_int (pos 0))) (sym (zero_by_test p h)) (mul_zero_fits q))
    (λ h. subst (λ q. mul_outcome q p ≡ Ok (of_int (pos 0))) (sym (zero_by_test q h)) (zero_mul_fits p))
    (λ h k m. mul_by_test q p k h (ap fits (mul_comm_f q p) ∙ m) ∙ ap Ok (mul_comm_f q p)) e

-- ---- both signs turned
pub neg_not_zero : (p : Fraction) → is_zero p ≡ false → is_zero (neg_f p) ≡ false
neg_not_zero p e = (not_zero_iff (neg_f p)).1 (neg_not_zero_f p ((not_zero_iff p).0 e))

neg_add_ℤ : (x y : ℤ) → neg_ℤ x +ℤ neg_ℤ y ≡ neg_ℤ (x +ℤ y)
neg_add_ℤ x y = omega (arith, ints)

all_small_neg : (l r : ℤ) (m : ℕ) → all_small (neg_ℤ l) (neg_ℤ r) m ≡ all_small l r m
all_small_neg l r m =
    ap (λ n. cond (small n) (cond (small (nat_abs (neg_ℤ r))) (cond (small (nat_abs (neg_ℤ l +ℤ neg_ℤ r))) (small m) false) false) false) (abs_neg_ℤ l)
    ∙ ap (λ n. cond (small (nat_abs l)) (cond (small n) (cond (small (nat_abs (neg_ℤ l +ℤ neg_ℤ r))) (small m) false) false) false) (abs_neg_ℤ r)
    ∙ ap (λ n. cond (small (nat_abs l)) (cond (small (nat_abs r)) (cond (small n) (small m) false) false) false) (ap nat_abs (neg_add_ℤ l r) ∙ abs_neg_ℤ (l +ℤ r))

neg_parts : (a c : ℤ) (b d : ℕ) → all_small (neg_ℤ a *ℤ pos (d / gcd b d)) (neg_ℤ c *ℤ pos (b / gcd b d)) (b * (d / gcd b d)) ≡ all_small (a *ℤ pos (d / gcd b d)) (c *ℤ pos (b / gcd b d)) (b * (d / gcd b d))
neg_parts a c b d =
    ap (λ z. all_small z (neg_ℤ c *ℤ pos (b / gcd b d)) (b * (d / gcd b d))) (neg_mul_ℤ a (pos (d / gcd b d)))
    ∙ ap (λ z. all_small (neg_ℤ (a *ℤ pos (d / gcd b d))) z (b * (d / gcd b d))) (neg_mul_ℤ c (pos (b / gcd b d)))
    ∙ all_small_neg (a *ℤ pos (d / gcd b d)) (c *ℤ pos (b / gcd b d)) (b * (d / gcd b d))

abbrev fits_at : ℤ → ℕ → ℤ → ℕ → Bool
fits_at a b c d = all_small (a *ℤ pos (d / gcd b d)) (c *ℤ pos (b / gcd b d)) (b * (d / gcd b d))

pub add_fits_neg : (p q : Fraction) → add_fits (neg_f p) (neg_f q) ≡ add_fits p q
unfolding add_fits
add_fits_neg p q =
    ap (λ z. fits_at z (neg_f p).den (neg_f q).num (neg_f q).den) (num_neg_f p) ∙ ap (λ b. fits_at (neg_ℤ p.num) b (neg_f q).num (neg_f q).den) (den_neg_f p)
    ∙ ap (λ z. fits_at (neg_ℤ p.num) p.den z (neg_f q).den) (num_neg_f q) ∙ ap (fits_at (neg_ℤ p.num) p.den (neg_ℤ q.num)) (den_neg_f q)
    ∙ neg_parts p.num q.num p.den q.den

pub add_neg_fits : (p q s : Fraction) → add_outcome p q ≡ Ok s → add_outcome (neg_f p) (neg_f q) ≡ Ok (neg_f s)
unfolding add_outcome
add_neg_fits p q s e = by_tests (λ s. add_outcome (neg_f p) (neg_f q) ≡ Ok (neg_f s)) (is_zero p) (is_zero q) (add_fits p q) q p (p +ᶠ q) p q s Add
    (λ h. subst (λ p. add_outcome p (neg_f q) ≡ Ok (neg_f q)) (sym (ap neg_f (zero_by_test p h) ∙ neg_nil_f)) (zero_add_fits (neg_f q)))
    (λ h. subst (λ q. add_outcome (neg_f p) q ≡ Ok (neg_f p)) (sym (ap neg_f (zero_by_test q h) ∙ neg_nil_f)) (add_zero_fits (neg_f p)))
    (λ h k m. add_by_test (neg_f p) (neg_f q) (neg_not_zero p h) (neg_not_zero q k) (add_fits_neg p q ∙ m) ∙ ap Ok (sym (neg_add_f p q))) e
