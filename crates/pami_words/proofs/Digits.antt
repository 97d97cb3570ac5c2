-- Digits one by one, and the number of all of them.
use Rattle.std.proofs.Common.{◌≡◌, ℕ, ◌+◌, ◌-◌, ◌*◌, ◌<◌, ◌≤◌, Bool, true, false, cond, List, [], ◌∷◌, length, get_or, drop, Option, None, Some, refl, sym, ap, ◌∙◌, arith, nat_le, leb-true, leb-false, le-leb}
use Rattle.std.specs.Prelude.{◌&&◌, option_and_then}
use Rattle.std.specs.List.{list_all}
use Rattle.std.proofs.lemmas.List.{at_drop_more, at_drop_all}
use Rattle.pami_frac.specs.Decimal.{is_digit, number_after}
use Rattle.pami_words.specs.Numbers.{number_in, longer}

-- a number with more digits, each of which may be the last
pub with_digits : ℕ → ℕ → List ℕ → Option ℕ
with_digits g n [] = Some n
with_digits g n (c ∷ cs) = option_and_then (λ m. with_digits g m cs) (longer g n c)

-- digits don't lower a number
grows : (n : ℕ) (cs : List ℕ) → n ≤ number_after n cs
grows n [] = omega arith
grows n (c ∷ cs) = let h = grows (n * 10 + (c - 48)) cs in omega arith

greater : (a b : ℕ) → b < a → nat_le a b ≡ false
greater a b h = go (nat_le a b) (leb-true a b)
  where
    go : (t : Bool) → (t ≡ true → a ≤ b) → t ≡ false
    go true p = absurd (let e = p refl in omega arith)
    go false p = refl

-- one byte, which is a digit or not, before others that are digits or not
one_digit : (k : ℕ → Option ℕ) (g m v : ℕ) (b l : Bool) → (m ≤ g → k m ≡ cond (l && nat_le v g) (Some v) None) → m ≤ v →
    option_and_then k (cond (b && nat_le m g) (Some m) None) ≡ cond ((b && l) && nat_le v g) (Some v) None
one_digit k g m v false l h i = refl
one_digit k g m v true l h i = go (nat_le m g) (leb-true m g) (leb-false m g)
  where
    none : (l : Bool) → None ≡ cond (l && false) (Some v) None
    none true = refl
    none false = refl

    go : (t : Bool) → (t ≡ true → m ≤ g) → (t ≡ false → g < m) → option_and_then k (cond t (Some m) None) ≡ cond (l && nat_le v g) (Some v) None
    go true p q = h (p refl)
    go false p q = none l ∙ ap (λ t. cond (l && t) (Some v) None) (sym (greater v g (let e : g < m = q refl in omega arith)))

digits_exact : (g n : ℕ) (cs : List ℕ) → n ≤ g →
    with_digits g n cs ≡ cond (list_all is_digit cs && nat_le (number_after n cs) g) (Some (number_after n cs)) None
unfolding with_digits
digits_exact g n [] h = ap (λ t. cond t (Some n) None) (sym (le-leb n g h))
digits_exact g n (c ∷ cs) h =
    one_digit (λ m. with_digits g m cs) g (n * 10 + (c - 48)) (number_after (n * 10 + (c - 48)) cs) (is_digit c) (list_all is_digit cs)
    (digits_exact g (n * 10 + (c - 48)) cs) (grows (n * 10 + (c - 48)) cs)

pub number_is : (g : ℕ) (text : List ℕ) → 0 < length text → length text ≤ 10 → with_digits g 0 text ≡ number_in g text
number_is g [] h k = absurd (omega arith)
number_is g (c ∷ cs) h k =
    digits_exact g 0 (c ∷ cs) (omega arith)
    ∙ ap (λ t. cond (list_all is_digit (c ∷ cs) && (t && nat_le (number_after 0 (c ∷ cs)) g)) (Some (number_after 0 (c ∷ cs))) None)
    (sym (le-leb (length (c ∷ cs)) 10 k))

-- one more digit of those that are left
at_digit : (g n i : ℕ) (text : List ℕ) → i < length text →
    with_digits g n (drop i text) ≡ option_and_then (λ m. with_digits g m (drop (i + 1) text)) (longer g n (get_or text i 0))
unfolding with_digits
at_digit g n i text h = at_drop_more (with_digits g n) text i 0 h

pub digit_goes : (g n m i : ℕ) (text : List ℕ) → i < length text → Some m ≡ longer g n (get_or text i 0) →
    with_digits g n (drop i text) ≡ with_digits g m (drop (i + 1) text)
digit_goes g n m i text h e = at_digit g n i text h ∙ ap (option_and_then (λ m. with_digits g m (drop (i + 1) text))) (sym e)

pub digit_stops : (g n i : ℕ) (text : List ℕ) → i < length text → None ≡ longer g n (get_or text i 0) → with_digits g n (drop i text) ≡ None
digit_stops g n i text h e = at_digit g n i text h ∙ ap (option_and_then (λ m. with_digits g m (drop (i + 1) text))) (sym e)

pub digits_end : (g n i : ℕ) (text : List ℕ) → length text ≤ i → with_digits g n (drop i text) ≡ Some n
unfolding with_digits
digits_end g n i text h = at_drop_all (with_digits g n) text i h

-- it stays at most the greatest
pub longer_within : (g n m c : ℕ) → Some m ≡ longer g n c → m ≤ g
longer_within g n m c e = go (is_digit c) (nat_le (n * 10 + (c - 48)) g) (leb-true (n * 10 + (c - 48)) g) e
  where
    go : (b t : Bool) → (t ≡ true → n * 10 + (c - 48) ≤ g) → Some m ≡ cond (b && t) (Some (n * 10 + (c - 48))) None → m ≤ g
    go true true p e = let q : m ≡ n * 10 + (c - 48) = cc in let h = p refl in omega arith
    go true false p e = absurd (cc)
    go false t p e = absurd (cc)
