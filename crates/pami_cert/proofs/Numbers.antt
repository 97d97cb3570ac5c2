-- A printed fraction is printed of no other one, and a word is a printed fraction or not.
use Rattle.std.proofs.Common.{◌≡◌, ℕ, zero, suc, ◌<◌, ◌^◌, Bool, true, false, cond, List, [], ◌∷◌, decimal, eqb, refl, sym, ap, ◌∙◌, subst, arith, IsTrue, ◌⊎◌, inl, inr, ⊎_elim, eqb-true, ◌≢◌, codes}
use Rattle.std.specs.List.{position_or_len}
use Rattle.std.specs.Str.Parse.{digits_value, AllDigits}
use Rattle.std.proofs.lemmas.Str.Parse.{digit_from_value}
use Rattle.std.specs.Fmt.{signed_decimal}
use Rattle.std.proofs.lemmas.Bool.{false≢true}
use Rattle.std.proofs.lemmas.Bool.Decides.{eqb_tells}
use Rattle.std.proofs.lemmas.Fmt.{decimal_is_IsNumeral_wide}
use lib.IntN.{ℤ, pos, negsuc, nat_abs}
use Rattle.pami_algebra.specs.Fraction.{Fraction}
use Rattle.pami_algebra.specs.Reduced.{over, over_itself}
use Rattle.pami_algebra.specs.Lowest.{same_fraction}
use Rattle.pami_frac.specs.Range.{fits, signed_of}
use Rattle.pami_frac.specs.Printed.{printed, printed_below, is_slash}
use Rattle.pami_frac.proofs.PrintedParts.{above_small, below_small, first_part, second_part, sign_of_text, rest_of_text, signed_back}
use Rattle.pami_cert.specs.Due.{IsNumber}
use Rattle.pami_cert.proofs.Lists.{tail_same, same_or_not}

-- ---- printed of one fraction

far : (n : ℕ) → n < 2 ^ 127 → n < 10 ^ 64
far n l = omega (arith, l)

decimal_of_one : (m n : ℕ) → m < 2 ^ 127 → n < 2 ^ 127 → decimal m ≡ decimal n → m ≡ n
decimal_of_one m n p q e = sym (decimal_is_IsNumeral_wide m (far m p)).1 ∙ ap (digits_value 10) e ∙ (decimal_is_IsNumeral_wide n (far n q)).1

signed_of_one : (y z : ℤ) → nat_abs y < 2 ^ 127 → nat_abs z < 2 ^ 127 → signed_decimal y ≡ signed_decimal z → y ≡ z
signed_of_one y z p q e =
    let sign = sym (sign_of_text y (signed_decimal y) p refl) ∙ sign_of_text z (signed_decimal y) q e in
    let size = decimal_of_one (nat_abs y) (nat_abs z) p q (sym (rest_of_text y (signed_decimal y) p refl) ∙ rest_of_text z (signed_decimal y) q e) in
    sym (signed_back y) ∙ ap (λ b. signed_of b (nat_abs y)) sign ∙ ap (signed_of _) size ∙ signed_back z

below_of_one : (c d : ℕ) → c < 2 ^ 127 → d < 2 ^ 127 → printed_below c ≡ printed_below d → c ≡ d
below_of_one c d p q = go (eqb c 1) (eqb d 1) refl refl
  where
    go : (a b : Bool) → eqb c 1 ≡ a → eqb d 1 ≡ b → cond a [] (47 ∷ decimal c) ≡ cond b [] (47 ∷ decimal d) → c ≡ d
    go true true h k e = eqb-true c 1 h ∙ sym (eqb-true d 1 k)
    go true false h k e = cc
    go false true h k e = cc
    go false false h k e = decimal_of_one c d p q (tail_same e)

pub printed_of_one : (v w : Fraction) → IsTrue (fits v) → IsTrue (fits w) → printed v ≡ printed w → v ≡ w
printed_of_one v w f g e =
    let k = position_or_len is_slash (printed v) in
    same_fraction v w
    (signed_of_one v.num w.num (above_small v f) (above_small w g) (sym (first_part v (printed v) k f refl refl) ∙ first_part w (printed v) k g e refl))
    (below_of_one v.den w.den (below_small v f) (below_small w g) (sym (second_part v (printed v) k f refl refl) ∙ second_part w (printed v) k g e refl))

-- ---- a number or not

-- something below a bound has a property, or nothing has
search_below : (P : ℕ → Type 0) → ((n : ℕ) → P n ⊎ (¬ P n)) → (b : ℕ) → ((n : ℕ) × ((n < b) × P n)) ⊎ ((n : ℕ) → n < b → ¬ P n)
search_below P d zero = inr (λ n l. absurd (omega arith))
search_below P d (suc b) = go (search_below P d b) (d b)
  where
    go : ((n : ℕ) × ((n < b) × P n)) ⊎ ((n : ℕ) → n < b → ¬ P n) → P b ⊎ (¬ P b) → ((n : ℕ) × ((n < suc b) × P n)) ⊎ ((n : ℕ) → n < suc b → ¬ P n)
    go (inl h) k = inl (h.0, (omega (arith, h.1.0), h.1.1))
    go (inr h) (inl k) = inl (b, (omega arith, k))
    go (inr h) (inr k) = inr (λ n l. at n l (eqb_tells n b))
      where
        at : (n : ℕ) → n < suc b → ((eqb n b ≡ true) × (n ≡ b)) ⊎ ((eqb n b ≡ false) × (n ≢ b)) → ¬ P n
        at n l (inl e) = subst (λ m. ¬ P m) (sym e.1) k
        at n l (inr e) = let other : n ≢ b = e.1 in h n (omega (arith, l, other))

-- a decision of one thing is one of its being there below a bound, and two are one of either
abbrev Below : (ℕ → Type 0) → ℕ → Type 0
Below P b = (n : ℕ) × ((n < b) × P n)

below_or_not : (P : ℕ → Type 0) → ((n : ℕ) → P n ⊎ (¬ P n)) → (b : ℕ) → Below P b ⊎ (¬ Below P b)
below_or_not P d b = ⊎_elim inl (λ h. inr (λ k. h k.0 k.1.0 k.1.1)) (search_below P d b)

either_or_not : {P Q : Type 0} → P ⊎ (¬ P) → Q ⊎ (¬ Q) → (P ⊎ Q) ⊎ (¬ (P ⊎ Q))
either_or_not (inl p) q = inl (inl p)
either_or_not (inr p) (inl q) = inl (inr q)
either_or_not (inr p) (inr q) = inr (λ h. ⊎_elim p q h)

-- the word is printed of this numerator and this denominator
abbrev Spelled : List ℕ → ℤ → ℕ → Type 0
Spelled w z d = IsTrue (fits (over z d)) × (w ≡ printed (over z d))

spelled_or_not : (w : List ℕ) (z : ℤ) (d : ℕ) → Spelled w z d ⊎ (¬ Spelled w z d)
spelled_or_not w z d = go (fits (over z d)) (same_or_not w (printed (over z d)))
  where
    go : {Q : Type 0} (b : Bool) → Q ⊎ (¬ Q) → (IsTrue b × Q) ⊎ (¬ (IsTrue b × Q))
    go true (inl q) = inl (refl, q)
    go true (inr q) = inr (λ h. q h.1)
    go false q = inr (λ h. false≢true h.0)

abbrev SpelledBelow : List ℕ → ℕ → Type 0
SpelledBelow w b = Below (λ d. Below (λ n. Spelled w (pos n) d ⊎ Spelled w (negsuc n) d) b) b

spelled_below_or_not : (w : List ℕ) (b : ℕ) → SpelledBelow w b ⊎ (¬ SpelledBelow w b)
spelled_below_or_not w b =
    below_or_not (λ d. Below (λ n. Spelled w (pos n) d ⊎ Spelled w (negsuc n) d) b)
    (λ d. below_or_not (λ n. Spelled w (pos n) d ⊎ Spelled w (negsuc n) d) (λ n. either_or_not (spelled_or_not w (pos n) d) (spelled_or_not w (negsuc n) d))
    b) b

spelled_number : (w : List ℕ) (b : ℕ) → SpelledBelow w b → IsNumber w
spelled_number w b h = ⊎_elim (λ s. (over (pos h.1.1.0) h.0, s)) (λ s. (over (negsuc h.1.1.0) h.0, s)) h.1.1.1.1

number_spelled : (w : List ℕ) (b : ℕ) → ((v : Fraction) → IsTrue (fits v) → (nat_abs v.num < b) × (v.den < b)) → IsNumber w → SpelledBelow w b
number_spelled w b small h = go h.0.num refl
  where
    spelled : (z : ℤ) → h.0.num ≡ z → Spelled w z h.0.den
    spelled z e = let P : Fraction → Type 0 = λ v. IsTrue (fits v) × (w ≡ printed v) in
        subst P (sym (over_itself h.0) ∙ ap (λ y. over y h.0.den) e) h.1

    go : (z : ℤ) → h.0.num ≡ z → SpelledBelow w b
    go (pos n) e = let l : n < b = subst (λ y. nat_abs y < b) e (small h.0 h.1.0).0 in (h.0.den, ((small h.0 h.1.0).1, (n, (l, inl (spelled (pos n) e)))))
    go (negsuc n) e = let l : suc n < b = subst (λ y. nat_abs y < b) e (small h.0 h.1.0).0 in
        (h.0.den, ((small h.0 h.1.0).1, (n, (omega (arith, l), inr (spelled (negsuc n) e)))))

number_within : (w : List ℕ) (b : ℕ) → ((v : Fraction) → IsTrue (fits v) → (nat_abs v.num < b) × (v.den < b)) → IsNumber w ⊎ (¬ IsNumber w)
number_within w b small = ⊎_elim (λ s. inl (spelled_number w b s)) (λ s. inr (λ h. s (number_spelled w b small h))) (spelled_below_or_not w b)

pub number_or_not : (w : List ℕ) → IsNumber w ⊎ (¬ IsNumber w)
number_or_not w = number_within w (2 ^ 127) (λ v f. (above_small v f, below_small v f))

-- the word `wide` is no number: all its bytes would be digits
pub number_not_wide : (v : Fraction) → IsTrue (fits v) → printed v ≡ codes "wide" → ⊥
number_not_wide v f e =
    let whole : codes "wide" ≡ signed_decimal v.num = first_part v (codes "wide") 4 f (sym e) refl in
    let digits : codes "wide" ≡ decimal (nat_abs v.num) = rest_of_text v.num (codes "wide") (above_small v f) whole in
    omega (
      arith,
      digit_from_value 119 (subst (AllDigits 10) (sym digits)
          (decimal_is_IsNumeral_wide (nat_abs v.num) (far (nat_abs v.num) (above_small v f))).0.1).0,
    )
