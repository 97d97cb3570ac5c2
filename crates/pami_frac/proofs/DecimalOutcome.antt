-- What is answered for the digits and the exponent of a decimal.
use Rattle.std.proofs.Common.{◌≡◌, ℕ, zero, suc, ◌+◌, ◌*◌, ◌%◌, ◌^◌, ◌<◌, ◌≤◌, ◌⊎◌, inl, inr, Bool, true, false, cond, Option, Some, None, IfSome, ◌↔◌, IsTrue, ◌&&◌, List, ◌++◌, take, drop, length, refl, sym, ap, ◌∙◌, subst, arith}
use Rattle.std.proofs.lemmas.Bool.{cases_lt, false≢true}
use Rattle.std.proofs.lemmas.Int.{ints}
use lib.IntN.{ℤ, pos, negsuc, ◌+ℤ◌, ◌-ℤ◌}
use lib.Signed.{◌≤ℤ◌, ◌<ℤ◌}
use Rattle.pami_algebra.specs.Fraction.{Fraction, gcd}
use Rattle.pami_algebra.specs.Reduced.{over}
use Rattle.pami_frac.specs.Decimal.{scaled, IsTrimmed, IsTooWide, is_mark, is_point, is_negative, unsigned, before, are_digits, whole_digits, fraction_digits, exponent_part, is_exponent, is_decimal, number_after, mantissa, power_of, exponent, decimal_value}
use Rattle.std.specs.List.{position_or_len}
use Rattle.pami_frac.specs.Range.{signed_of, kept, fits}
use Rattle.pami_frac.specs.DecimalDigits.{IsLong, IsSameScale}
use Rattle.pami_frac.proofs.DecimalLaws.{one_form, times_nil, last_digit, after_append}
use Rattle.pami_frac.proofs.DecimalScale.{scaled_zeros, scaled_large, zero_value}

-- refused exactly where it is too wide, and else the value
pub record IsJudged (r : Option Fraction) (m : ℕ) (e : ℤ) (v : Fraction) : Type 0 where
  pub refused : (r ≡ None) ↔ IsTooWide m e v
  pub value : IfSome r (λ x. x ≡ v)

-- ---- 0

zero_fits : (e : ℤ) (v : Fraction) → IsTooWide 0 e v → ⊥
zero_fits e v w = w.trimmed.ends (ap (λ n. n % 10) (times_nil w.digits w.trimmed.zeros w.trimmed.same))

zero_in_range : (s : Bool) → kept (over (signed_of s 0) 1) ≡ Some (over (signed_of s 0) 1)
unfolding gcd
zero_in_range true = refl
zero_in_range false = refl

pub judged_zero : (s : Bool) (m : ℕ) (e : ℤ) (r : Option Fraction) → m ≡ 0 → r ≡ kept (over (signed_of s 0) 1) → IsJudged r m e (scaled (signed_of s m) e)
judged_zero s (suc m) e r h k = absurd (omega arith)
judged_zero s zero e r h k =
    subst (λ r. IsJudged r 0 e (scaled (signed_of s 0) e)) (sym (k ∙ zero_in_range s))
    (record { refused = (λ x. absurd (some_none (over (signed_of s 0) 1) x), λ w. absurd (zero_fits e _ w)); value = sym (zero_value s e) })
  where
    some_none : (v : Fraction) → ◌≡◌ {A = Option Fraction} (Some v) None → ⊥
    some_none v x = cc

-- ---- more than 39 digits

pub judged_wide : (m : ℕ) (e : ℤ) (v : Fraction) → IsLong m → IsJudged None m e v
judged_wide m e v l = record {
  refused = (λ x. record { digits = l.digits; power = e +ℤ pos l.zeros; trimmed = record { zeros = l.zeros; same = l.same; raised = refl; ends = l.ends }; reason = inl l.many }, λ w. refl);
  value = tt;
}

-- ---- at most 39 digits

within : (m : ℕ) (e : ℤ) (d : ℕ) (f : ℤ) (v : Fraction) → IsTrimmed m e d f → d < 10 ^ 39 → negsuc 37 ≤ℤ f → fits v ≡ true → IsTooWide m e v → ⊥
within m e d f v t few fine inside w = go w.reason
  where
    same : (d ≡ w.digits) × (t.zeros ≡ w.trimmed.zeros)
    same = one_form d w.digits t.zeros w.trimmed.zeros (sym t.same ∙ w.trimmed.same) t.ends w.trimmed.ends

    power : w.power ≡ f
    power = w.trimmed.raised ∙ ap (λ z. e +ℤ pos z) (sym same.1) ∙ sym t.raised

    go : (10 ^ 39 ≤ w.digits) ⊎ ((w.power <ℤ negsuc 37) ⊎ (¬ IsTrue (fits v))) → ⊥
    go (inl k) = let s : d ≡ w.digits = same.0 in omega arith
    go (inr (inl k)) = let s : w.power ≡ f = power in omega (arith, ints)
    go (inr (inr k)) = k inside

judged_fine : (m : ℕ) (e : ℤ) (d : ℕ) (f : ℤ) (v : Fraction) → IsTrimmed m e d f → d < 10 ^ 39 → negsuc 37 ≤ℤ f → (b : Bool) → fits v ≡ b → IsJudged (cond b (Some v) None) m e v
judged_fine m e d f v t few fine true h = record { refused = (λ x. absurd (some_none x), λ w. absurd (within m e d f v t few fine h w)); value = refl }
  where
    some_none : ◌≡◌ {A = Option Fraction} (Some v) None → ⊥
    some_none x = cc
judged_fine m e d f v t few fine false h = record { refused = (λ x. record { digits = d; power = f; trimmed = t; reason = inr (inr (λ k. false≢true (sym h ∙ k))) }, λ w. refl); value = tt }

side : (f : ℤ) → (f <ℤ negsuc 37) ⊎ (negsuc 37 ≤ℤ f)
side (pos n) = inr (omega (arith, ints))
side (negsuc n) = go (cases_lt 37 n)
  where
    go : (37 < n) ⊎ (n ≤ 37) → (negsuc n <ℤ negsuc 37) ⊎ (negsuc 37 ≤ℤ negsuc n)
    go (inl h) = inl (omega (arith, ints))
    go (inr h) = inr (omega (arith, ints))

judged_form : (m : ℕ) (e : ℤ) (d : ℕ) (f : ℤ) (v : Fraction) (r : Option Fraction) → IsTrimmed m e d f → d < 10 ^ 39 → (f <ℤ negsuc 37 → r ≡ None) → (negsuc 37 ≤ℤ f → r ≡ kept v) → IsJudged r m e v
judged_form m e d f v r t few low fine = go (side f)
  where
    go : (f <ℤ negsuc 37) ⊎ (negsuc 37 ≤ℤ f) → IsJudged r m e v
    go (inl h) = subst (λ r. IsJudged r m e v) (sym (low h)) (record { refused = (λ x. record { digits = d; power = f; trimmed = t; reason = inr (inl h) }, λ w. refl); value = tt })
    go (inr h) = subst (λ r. IsJudged r m e v) (sym (fine h)) (judged_fine m e d f v t few h (fits v) refl)

same_low : (x f : ℤ) (r : Option Fraction) → IsSameScale x f → (x <ℤ negsuc 37 → r ≡ None) → f <ℤ negsuc 37 → r ≡ None
same_low x f r (inl e) g h = g (omega (arith, ints))
same_low x f r (inr (inl p)) g h = let k : pos 39 ≤ℤ f = p.1 in absurd (omega (arith, ints))
same_low x f r (inr (inr p)) g h = g p.0

same_fine : (s : Bool) (d : ℕ) (x f : ℤ) (r : Option Fraction) → 0 < d → IsSameScale x f → (negsuc 37 ≤ℤ x → r ≡ kept (scaled (signed_of s d) x)) → negsuc 37 ≤ℤ f → r ≡ kept (scaled (signed_of s d) f)
same_fine s d x f r q (inl e) g h = g (omega (arith, ints)) ∙ ap (λ z. kept (scaled (signed_of s d) z)) e
same_fine s d x f r q (inr (inl p)) g h =
    let k : pos 39 ≤ℤ f = p.1 in let l : pos 39 ≤ℤ x = p.0 in
    g (omega (arith, ints)) ∙ sym (scaled_large s d x q (omega (arith, ints))) ∙ scaled_large s d f q (omega (arith, ints))
same_fine s d x f r q (inr (inr p)) g h = let k : f <ℤ negsuc 37 = p.1 in absurd (omega (arith, ints))

-- the answer by the digits h and l with z zeros after them, where x stands for the exponent
pub judged_held : (s : Bool) (m h l z : ℕ) (e x : ℤ) (r : Option Fraction) → m ≡ (10 * h + l) * 10 ^ z → h < 10 ^ 38 → 0 < l → l < 10 →
    IsSameScale x (e +ℤ pos z) → (x <ℤ negsuc 37 → r ≡ None) → (negsuc 37 ≤ℤ x → r ≡ kept (scaled (signed_of s (10 * h + l)) x)) → IsJudged r m e (scaled (signed_of s m) e)
judged_held s m h l z e x r same few p q scale low fine =
    let f = e +ℤ pos z in
    let d = 10 * h + l in
    let t : IsTrimmed m e d f = record { zeros = z; same = same; raised = refl; ends = λ k. let u : d % 10 ≡ l = ap (λ n. n % 10) (let v : d ≡ h * 10 + l = omega arith in v) ∙ last_digit h l q in omega arith } in
    let v : scaled (signed_of s m) e ≡ scaled (signed_of s d) f = ap (λ n. scaled (signed_of s n) e) same ∙ scaled_zeros s d z e f refl in
    judged_form m e d f (scaled (signed_of s m) e) r t (omega arith) (same_low x f r scale low)
    (λ k. same_fine s d x f r (omega arith) scale fine k ∙ ap kept (sym v))

-- ---- the parts of a text

pub record IsParts (text whole fraction part : List ℕ) : Type 0 where
  pub whole_is : whole ≡ whole_digits text
  pub fraction_is : fraction ≡ fraction_digits text
  pub part_is : part ≡ exponent_part text

pub parts_by : (text body significand pointed whole fraction part : List ℕ) (mark point : ℕ) →
    body ≡ unsigned text → mark ≡ position_or_len is_mark body → significand ≡ take mark body → part ≡ drop mark body →
    point ≡ position_or_len is_point significand → whole ≡ take point significand → pointed ≡ drop point significand → fraction ≡ drop 1 pointed → IsParts text whole fraction part
parts_by text body significand pointed whole fraction part mark point a b c d e f g h =
    let m : mark ≡ position_or_len is_mark (unsigned text) = b ∙ ap (position_or_len is_mark) a in
    let s : significand ≡ before is_mark (unsigned text) = c ∙ ap (λ n. take n body) m ∙ ap (take (position_or_len is_mark (unsigned text))) a in
    let q : point ≡ position_or_len is_point (before is_mark (unsigned text)) = e ∙ ap (position_or_len is_point) s in
    record {
      whole_is = f ∙ ap (λ n. take n significand) q ∙ ap (take (position_or_len is_point (before is_mark (unsigned text)))) s;
      fraction_is = h ∙ ap (drop 1) (g ∙ ap (λ n. drop n significand) q ∙ ap (drop (position_or_len is_point (before is_mark (unsigned text)))) s);
      part_is = d ∙ ap (λ n. drop n body) m ∙ ap (drop (position_or_len is_mark (unsigned text))) a;
    }

parts_mantissa : (text w f p : List ℕ) → IsParts text w f p → number_after (number_after 0 w) f ≡ mantissa text
parts_mantissa text w f p k = sym (after_append 0 w f) ∙ ap (λ xs. number_after 0 (xs ++ f)) k.whole_is ∙ ap (λ xs. number_after 0 (whole_digits text ++ xs)) k.fraction_is

parts_exponent : (text w f p : List ℕ) → IsParts text w f p → power_of p -ℤ pos (length f) ≡ exponent text
parts_exponent text w f p k = ap (λ xs. power_of xs -ℤ pos (length f)) k.part_is ∙ ap (λ xs. power_of (exponent_part text) -ℤ pos (length xs)) k.fraction_is

pub parts_value : (text w f p : List ℕ) (s : Bool) → IsParts text w f p → s ≡ is_negative text → scaled (signed_of s (number_after (number_after 0 w) f)) (power_of p -ℤ pos (length f)) ≡ decimal_value text
parts_value text w f p s k h =
    ap (λ b. scaled (signed_of b (number_after (number_after 0 w) f)) (power_of p -ℤ pos (length f))) h
    ∙ ap (λ m. scaled (signed_of (is_negative text) m) (power_of p -ℤ pos (length f))) (parts_mantissa text w f p k)
    ∙ ap (λ e. scaled (signed_of (is_negative text) (mantissa text)) e) (parts_exponent text w f p k)

moved_wide : (m n : ℕ) (e f : ℤ) (v w : Fraction) → m ≡ n → e ≡ f → v ≡ w → IsTooWide m e v → IsTooWide n f w
moved_wide m n e f v w a b c k = subst (λ n. IsTooWide n f w) a (subst (λ f. IsTooWide m f w) b (subst (λ w. IsTooWide m e w) c k))

pub wide_of_parts : (text w f p : List ℕ) (s : Bool) → IsParts text w f p → s ≡ is_negative text →
    IsTooWide (number_after (number_after 0 w) f) (power_of p -ℤ pos (length f)) (scaled (signed_of s (number_after (number_after 0 w) f)) (power_of p -ℤ pos (length f))) → IsTooWide (mantissa text) (exponent text) (decimal_value text)
wide_of_parts text w f p s k h = moved_wide _ _ _ _ _ _ (parts_mantissa text w f p k) (parts_exponent text w f p k) (parts_value text w f p s k h)

pub wide_in_parts : (text w f p : List ℕ) (s : Bool) → IsParts text w f p → s ≡ is_negative text →
    IsTooWide (mantissa text) (exponent text) (decimal_value text) → IsTooWide (number_after (number_after 0 w) f) (power_of p -ℤ pos (length f)) (scaled (signed_of s (number_after (number_after 0 w) f)) (power_of p -ℤ pos (length f)))
wide_in_parts text w f p s k h = moved_wide _ _ _ _ _ _ (sym (parts_mantissa text w f p k)) (sym (parts_exponent text w f p k)) (sym (parts_value text w f p s k h))

pub decimal_of_parts : (text w f p : List ℕ) → IsParts text w f p → are_digits (w ++ f) ≡ true → is_exponent p ≡ true → is_decimal text ≡ true
decimal_of_parts text w f p k h g =
    let a : are_digits (whole_digits text ++ fraction_digits text) ≡ true = sym (ap (λ xs. are_digits (xs ++ f)) k.whole_is ∙ ap (λ xs. are_digits (whole_digits text ++ xs)) k.fraction_is) ∙ h in
    let b : is_exponent (exponent_part text) ≡ true = sym (ap is_exponent k.part_is) ∙ g in
    both (are_digits (whole_digits text ++ fraction_digits text)) (is_exponent (exponent_part text)) a b
  where
    both : (x y : Bool) → x ≡ true → y ≡ true → (x && y) ≡ true
    both x y a b = ap (λ z. z && y) a ∙ b
