-- The limits of a decimal as a test, and what a text is read as.
use Rattle.std.proofs.lemmas.Bool.{leb-true, le-leb}
use Rattle.std.proofs.Common.{◌≡◌, ℕ, ◌*◌, ◌/◌, ◌%◌, ◌^◌, ◌<◌, ◌≤◌, zero, suc, Bool, true, false, cond, not, ◌&&◌, ◌||◌, ◌==◌, nat_le, ◌⊎◌, inl, inr, ◌↔◌, List, Result, Ok, Err, refl, sym, ap, ◌∙◌, subst, arith, IsTrue, true≢false}
use Rattle.std.specs.Prelude.{int_lt}
use Rattle.std.specs.Result.{IfOk, IsErrOf}
use lib.Dec.{T, eqb→eq}
use lib.IntN.{ℤ, pos, negsuc, ◌+ℤ◌}
use lib.Signed.{◌<ℤ◌}
use Rattle.pami_algebra.specs.Fraction.{Fraction}
use Rattle.pami_frac.specs.declared.fault.DecimalFault.{DecimalFault}
use Rattle.pami_frac.specs.declared.fault.DecimalFault.TheVariants.{NotANumber, TooWide}
use Rattle.pami_frac.specs.Range.{fits}
use Rattle.pami_frac.specs.Decimal.{is_decimal, mantissa, exponent, decimal_value, IsTrimmed, IsTooWide, IsWideDecimal, digits_within, zeros_within, is_too_wide, decimal_outcome}
use Rattle.pami_frac.proofs.DecimalLaws.{none_pos, one_form, ten_more, times_nil}

times_regroup : (a p q : ℕ) → q ≡ p * 10 → a * p * 10 ≡ a * q
times_regroup a p q e = rw e (omega arith)

ten_shift : (d z m : ℕ) → m / 10 ≡ d * 10 ^ z → m % 10 ≡ 0 → m ≡ d * 10 ^ suc z
ten_shift d z m e f =
    let q : m ≡ m / 10 * 10 = omega arith in
    q ∙ ap (λ n. n * 10) e ∙ times_regroup d (10 ^ z) (10 ^ suc z) (ap (λ n. 10 ^ n) (omega arith) ∙ ten_more z)

-- the two parts of a number that isn't 0, which has fewer zeros at its end than its size
record AreParts (m d z : ℕ) : Type 0 where
  same : m ≡ d * 10 ^ z
  ends : ¬ (d % 10 ≡ 0)

one_more : (k m : ℕ) → (b : Bool) → (m % 10 == 0) ≡ b → (m % 10 ≡ 0 → AreParts (m / 10) (digits_within k (m / 10)) (zeros_within k (m / 10)))
    → AreParts m (cond b (digits_within k (m / 10)) m) (cond b (suc (zeros_within k (m / 10))) 0)
one_more k m true e rest =
    let z : m % 10 ≡ 0 = eqb→eq (m % 10) 0 (subst T (sym e) tt) in
    let r = rest z in
    record { same = ten_shift (digits_within k (m / 10)) (zeros_within k (m / 10)) m r.same z; ends = r.ends }
one_more k m false e rest = record { same = omega arith; ends = λ h. true≢false (sym (ap (λ n. n == 0) h) ∙ e) }

parts : (k m : ℕ) → m ≤ k → 0 < m → AreParts m (digits_within k m) (zeros_within k m)
unfolding digits_within zeros_within
parts zero m le lt = absurd (omega arith)
parts (suc k) m le lt = one_more k m (m % 10 == 0) refl (λ z. parts k (m / 10) (omega arith) (omega arith))

split : (m : ℕ) → 0 < m → AreParts m (digits_within m m) (zeros_within m m)
split m lt = parts m m (omega arith) lt

trimmed : (m : ℕ) (e : ℤ) → 0 < m → IsTrimmed m e (digits_within m m) (e +ℤ pos (zeros_within m m))
trimmed m e lt = let p = split m lt in record { zeros = zeros_within m m; same = p.same; raised = refl; ends = p.ends }

-- the trimmed form that a too wide number has is that of the test
pub same_form : (m : ℕ) (e : ℤ) (v : Fraction) → 0 < m → (w : IsTooWide m e v) → (w.digits ≡ digits_within m m) × (w.power ≡ e +ℤ pos (zeros_within m m))
same_form m e v lt w =
    let p = split m lt in
    let o = one_form w.digits (digits_within m m) w.trimmed.zeros (zeros_within m m) (sym w.trimmed.same ∙ p.same) w.trimmed.ends p.ends in
    (o.0, w.trimmed.raised ∙ ap (λ z. e +ℤ pos z) o.1)

wide_above : (m : ℕ) (e : ℤ) (v : Fraction) → IsTooWide m e v → (n : ℕ) → m ≡ n → 0 < n
wide_above m e v w zero h = absurd (w.trimmed.ends (ap (λ d. d % 10) (times_nil w.digits w.trimmed.zeros (sym h ∙ w.trimmed.same))))
wide_above m e v w (suc n) h = omega arith

-- one of three reasons, from the test of them
reason_of : {A B C : Type 0} (a b f : Bool) → (a ≡ true → A) → (b ≡ true → B) → (f ≡ false → C) → (a || (b || not f)) ≡ true → A ⊎ (B ⊎ C)
reason_of true b f x y z h = inl (x refl)
reason_of false true f x y z h = inr (inl (y refl))
reason_of false false true x y z h = absurd (true≢false (sym h))
reason_of false false false x y z h = inr (inr (z refl))

-- and the test from one of them
reason_to : {A B C : Type 0} (a b f : Bool) → (A → a ≡ true) → (B → b ≡ true) → (C → f ≡ false) → A ⊎ (B ⊎ C) → (a || (b || not f)) ≡ true
reason_to true b f x y z h = refl
reason_to false true f x y z h = refl
reason_to false false false x y z h = refl
reason_to false false true x y z (inl h) = x h
reason_to false false true x y z (inr (inl h)) = y h
reason_to false false true x y z (inr (inr h)) = sym (z h)

not_fit : (b : Bool) → b ≡ false → ¬ IsTrue b
not_fit b e t = true≢false (sym t ∙ e)

fit_not : (b : Bool) → ¬ IsTrue b → b ≡ false
fit_not true h = absurd (h refl)
fit_not false h = refl

below_true : (a b : ℤ) → int_lt a b ≡ true → a <ℤ b
below_true a b e = record { lt = subst T (sym e) tt }

below_tested : (a b : ℤ) → a <ℤ b → int_lt a b ≡ true
below_tested a b h = go (int_lt a b) h.lt
  where
    go : (c : Bool) → T c → c ≡ true
    go true t = refl
    go false t = absurd t

not_nil : (m : ℕ) → 0 < m → not (m == 0) ≡ true
not_nil m lt = go (m == 0) refl
  where
    go : (b : Bool) → (m == 0) ≡ b → not b ≡ true
    go true e = let z : m ≡ 0 = eqb→eq m 0 (subst T (sym e) tt) in absurd (omega arith)
    go false e = refl

nil_not : (m : ℕ) (b : Bool) → (not (m == 0) && b) ≡ true → (0 < m) × (b ≡ true)
nil_not m b h = go (m == 0) refl h
  where
    go : (c : Bool) → (m == 0) ≡ c → (not c && b) ≡ true → (0 < m) × (b ≡ true)
    go true e k = absurd (true≢false (sym k))
    go false e k = (none_pos m e, k)

pub tested_wide : (m : ℕ) (e : ℤ) (v : Fraction) → is_too_wide m e v ≡ true → IsTooWide m e v
tested_wide m e v h =
    let both = nil_not m (nat_le (10 ^ 39) (digits_within m m) || (int_lt (e +ℤ pos (zeros_within m m)) (negsuc 37) || not (fits v))) h in
    record {
      digits = digits_within m m;
      power = e +ℤ pos (zeros_within m m);
      trimmed = trimmed m e both.0;
      reason = reason_of (nat_le (10 ^ 39) (digits_within m m)) (int_lt (e +ℤ pos (zeros_within m m)) (negsuc 37)) (fits v) (leb-true (10 ^ 39) (digits_within m m)) (below_true (e +ℤ pos (zeros_within m m)) (negsuc 37)) (not_fit (fits v)) both.1;
    }

pub wide_tested : (m : ℕ) (e : ℤ) (v : Fraction) → IsTooWide m e v → is_too_wide m e v ≡ true
wide_tested m e v w =
    let above : 0 < m = wide_above m e v w m refl in
    let same = same_form m e v above w in
    ap (λ b. b && (nat_le (10 ^ 39) (digits_within m m) || (int_lt (e +ℤ pos (zeros_within m m)) (negsuc 37) || not (fits v)))) (not_nil m above)
    ∙ reason_to (nat_le (10 ^ 39) (digits_within m m)) (int_lt (e +ℤ pos (zeros_within m m)) (negsuc 37)) (fits v)
    (λ k. le-leb (10 ^ 39) (digits_within m m) (subst (λ d. 10 ^ 39 ≤ d) same.0 k)) (λ k. below_tested (e +ℤ pos (zeros_within m m)) (negsuc 37) (subst (λ p. p <ℤ negsuc 37) same.1 k)) (fit_not (fits v)) w.reason

module _ (value : Fraction) where
  -- an answer whose refusals come exactly where the tests say, and whose value is this one
  pub answer_is : (r : Result Fraction DecimalFault) (b w : Bool) → (IsErrOf r NotANumber ↔ (not b ≡ true)) → (IsErrOf r TooWide ↔ ((b ≡ true) × (w ≡ true))) → IfOk r (λ v. v ≡ value)
      → r ≡ cond b (cond w (Err TooWide) (Ok value)) (Err NotANumber)
  answer_is r false w number wide is = number.1 refl
  answer_is r true true number wide is = wide.1 (refl, refl)
  answer_is (Ok v) true false number wide is = ap Ok is
  answer_is (Err NotANumber) true false number wide is = absurd (true≢false (sym (number.0 refl)))
  answer_is (Err TooWide) true false number wide is = absurd (true≢false (sym (wide.0 refl).1))

pub outcome_is : (text : List ℕ) (r : Result Fraction DecimalFault) → (IsErrOf r NotANumber ↔ IsTrue (not (is_decimal text))) → (IsErrOf r TooWide ↔ IsWideDecimal text) → IfOk r (λ v. v ≡ decimal_value text) → r ≡ decimal_outcome text
unfolding decimal_outcome
outcome_is text r number wide is =
    let m = mantissa text in
    let e = exponent text in
    let v = decimal_value text in
    answer_is v r (is_decimal text) (is_too_wide m e v) number
    ((λ h. let x = wide.0 h in (x.0, wide_tested m e v x.1)), (λ h. wide.1 (h.0, tested_wide m e v h.1))) is
