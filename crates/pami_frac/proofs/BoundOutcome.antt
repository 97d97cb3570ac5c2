-- What a text is read as, by what is known of it as an infinite word and as a decimal.
use Rattle.std.proofs.Common.{◌≡◌, ◌&&◌, ◌||◌, Bool, true, false, cond, true≢false, List, ℕ, Result, Ok, Err, refl, sym, ap, ◌∙◌}
use Rattle.pami_algebra.specs.Fraction.{Fraction}
use Rattle.pami_frac.specs.declared.bound.BoundValue.{BoundValue}
use Rattle.pami_frac.specs.declared.fault.DecimalFault.{DecimalFault}
use Rattle.pami_frac.specs.declared.fault.DecimalFault.TheVariants.{NotANumber, TooWide}
use Rattle.pami_frac.specs.Decimal.{is_negative, is_decimal, is_too_wide, mantissa, exponent, decimal_value, decimal_outcome}
use Rattle.pami_frac.specs.BoundText.{is_infinity, is_infinite, endless, finite, bound_outcome}

-- the outcome of a decimal, of which it is known whether it is one, whether it is too wide, and its value
abbrev as_decimal : Bool → Bool → Fraction → Result Fraction DecimalFault
as_decimal d w v = cond d (cond w (Err TooWide) (Ok v)) (Err NotANumber)

-- the same as a bound, of which it is also known whether it is an infinite word, whether the value is infinite, and the sign
abbrev as_bound : Bool → Bool → Bool → Bool → Bool → Fraction → Result BoundValue DecimalFault
as_bound i d w f n v = cond (i || (d && f)) (Ok (endless n)) (finite (as_decimal d w v))

abbrev wide_text : List ℕ → Bool
wide_text text = is_too_wide (mantissa text) (exponent text) (decimal_value text)

decimal_shape : (text : List ℕ) → decimal_outcome text ≡ as_decimal (is_decimal text) (wide_text text) (decimal_value text)
unfolding decimal_outcome
decimal_shape text = refl

bound_shape : (text : List ℕ) → bound_outcome text ≡ as_bound (is_infinity text) (is_decimal text) (wide_text text) (is_infinite (decimal_value text)) (is_negative text) (decimal_value text)
unfolding bound_outcome decimal_outcome
bound_shape text = refl

-- ---- by cases

word_said : (i d w f n : Bool) (v : Fraction) → i ≡ true → Ok (endless n) ≡ as_bound i d w f n v
word_said true d w f n v a = refl
word_said false d w f n v a = absurd (true≢false (sym a))

far_said : (i d w f n : Bool) (v : Fraction) → i ≡ false → d ≡ true → f ≡ true → Ok (endless n) ≡ as_bound i d w f n v
far_said true d w f n v a b c = absurd (true≢false a)
far_said false false w f n v a b c = absurd (true≢false (sym b))
far_said false true w false n v a b c = absurd (true≢false (sym c))
far_said false true w true n v a b c = refl

near_said : (i d w f n : Bool) (v : Fraction) → i ≡ false → f ≡ false → finite (as_decimal d w v) ≡ as_bound i d w f n v
near_said true d w f n v a c = absurd (true≢false a)
near_said false false w f n v a c = refl
near_said false true w true n v a c = absurd (true≢false c)
near_said false true w false n v a c = refl

none_said : (i d w f n : Bool) (v : Fraction) → i ≡ false → d ≡ false → finite (as_decimal d w v) ≡ as_bound i d w f n v
none_said true d w f n v a b = absurd (true≢false a)
none_said false false w f n v a b = refl
none_said false true w f n v a b = absurd (true≢false b)

ok_decimal : (d w : Bool) (v x : Fraction) → Ok x ≡ as_decimal d w v → (d ≡ true) × (x ≡ v)
ok_decimal true false v x e = (refl, cc)
ok_decimal true true v x e = absurd cc
ok_decimal false w v x e = absurd cc

wide_decimal : (d w : Bool) (v : Fraction) → Err TooWide ≡ as_decimal d w v → d ≡ true
wide_decimal true w v e = refl
wide_decimal false w v e = absurd cc

no_decimal : (d w : Bool) (v : Fraction) → Err NotANumber ≡ as_decimal d w v → d ≡ false
no_decimal false w v e = refl
no_decimal true false v e = absurd cc
no_decimal true true v e = absurd cc

-- ---- of a text

pub endless_word : (text : List ℕ) (n : Bool) (b : BoundValue) → is_infinity text ≡ true → n ≡ is_negative text → b ≡ endless n → Ok b ≡ bound_outcome text
endless_word text n b h e g =
    ap Ok g ∙ ap (λ s. Ok (endless s)) e ∙ word_said (is_infinity text) (is_decimal text) (wide_text text) (is_infinite (decimal_value text)) (is_negative text) (decimal_value text) h ∙ sym (bound_shape text)

pub endless_decimal : (text : List ℕ) (n : Bool) (b : BoundValue) → is_infinity text ≡ false → is_decimal text ≡ true → is_infinite (decimal_value text) ≡ true → n ≡ is_negative text → b ≡ endless n → Ok b ≡ bound_outcome text
endless_decimal text n b h d f e g =
    ap Ok g ∙ ap (λ s. Ok (endless s)) e ∙ far_said (is_infinity text) (is_decimal text) (wide_text text) (is_infinite (decimal_value text)) (is_negative text) (decimal_value text) h d f ∙ sym (bound_shape text)

pub finite_decimal : (text : List ℕ) (r : Result Fraction DecimalFault) → is_infinity text ≡ false → is_infinite (decimal_value text) ≡ false → r ≡ decimal_outcome text → finite r ≡ bound_outcome text
finite_decimal text r h f e =
    ap finite (e ∙ decimal_shape text) ∙ near_said (is_infinity text) (is_decimal text) (wide_text text) (is_infinite (decimal_value text)) (is_negative text) (decimal_value text) h f ∙ sym (bound_shape text)

pub not_a_bound : (text : List ℕ) → is_infinity text ≡ false → Err NotANumber ≡ decimal_outcome text → Err NotANumber ≡ bound_outcome text
not_a_bound text h e =
    ap finite (e ∙ decimal_shape text)
    ∙ none_said (is_infinity text) (is_decimal text) (wide_text text) (is_infinite (decimal_value text)) (is_negative text) (decimal_value text) h (no_decimal (is_decimal text) (wide_text text) (decimal_value text) (e ∙ decimal_shape text))
    ∙ sym (bound_shape text)

pub decimal_read : (text : List ℕ) (x : Fraction) → Ok x ≡ decimal_outcome text → (is_decimal text ≡ true) × (x ≡ decimal_value text)
decimal_read text x e = ok_decimal (is_decimal text) (wide_text text) (decimal_value text) x (e ∙ decimal_shape text)

pub decimal_wide : (text : List ℕ) → Err TooWide ≡ decimal_outcome text → is_decimal text ≡ true
decimal_wide text e = wide_decimal (is_decimal text) (wide_text text) (decimal_value text) (e ∙ decimal_shape text)
