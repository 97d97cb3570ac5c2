-- One line off the front.
use Rattle.std.proofs.Common.{◌+◌, ◌-◌, ◌≡◌, ◌≢◌, ◌<◌, ◌⊎◌, inl, inr, ℕ, zero, suc, false, length, get_or, take, drop, List, [], ◌∷◌, refl, ap, sym, subst, ◌∙◌, arith}
use Rattle.std.proofs.lemmas.Bool.{ne_eqb}
use Rattle.std.proofs.Math.Bool.{and-false}
use Rattle.std.proofs.Math.Seq.{take-length}
use Rattle.pami_edge.specs.Lines.{hang, begins_with_feed, lines_of}

-- no line feed among the first i bytes
abbrev pub NoFeed : List ℕ → ℕ → Type 0
NoFeed xs i = (k : ℕ) → k < i → get_or xs k 0 ≢ 10

-- a byte that ends no line and isn't dropped stands in the first one
hangs : (x : ℕ) (xs : List ℕ) → x ≢ 10 → (x ≢ 13) ⊎ (begins_with_feed xs ≡ false) → lines_of (x ∷ xs) ≡ hang x (lines_of xs)
hangs x xs feed (inl return) = rw (ne_eqb x 10 feed, ne_eqb x 13 return) refl
hangs x xs feed (inr next) = rw (ne_eqb x 10 feed, next, and-false) refl

all_one : (x : ℕ) (xs : List ℕ) → NoFeed (x ∷ xs) (suc (length xs)) → lines_of (x ∷ xs) ≡ (x ∷ xs) ∷ []
all_one x [] none = hangs x [] (none 0 (omega arith)) (inr refl)
all_one x (y ∷ ys) none =
    hangs x (y ∷ ys) (none 0 (omega arith)) (inr (ne_eqb y 10 (none 1 (omega arith))))
    ∙ ap (hang x) (all_one y ys (λ k lt. none (suc k) (omega arith)))

-- no line feed: one line
pub last_line : (xs : List ℕ) (n : ℕ) → n ≡ length xs → 0 < length xs → NoFeed xs n → lines_of xs ≡ take n xs ∷ lines_of (drop n xs)
last_line [] n e some none = absurd (omega arith)
last_line (x ∷ xs) n e some none =
    let whole : take n (x ∷ xs) ≡ x ∷ xs = rw e (take-length (x ∷ xs)) in
    let over : drop n (x ∷ xs) ≡ [] = rw e (drop_length (x ∷ xs)) in
    rw (whole, over) (all_one x xs (λ k lt. none k (omega arith)))
  where
    drop_length : (ys : List ℕ) → drop (length ys) ys ≡ []
    drop_length [] = refl
    drop_length (y ∷ ys) = drop_length ys

-- a line feed, and no carriage return before it
pub plain_line : (xs : List ℕ) (i : ℕ) → i < length xs → NoFeed xs i → get_or xs i 0 ≡ 10 →
    ((j : ℕ) → i ≡ suc j → get_or xs j 0 ≢ 13) → lines_of xs ≡ take i xs ∷ lines_of (drop (suc i) xs)
plain_line [] i some none found other = absurd (omega arith)
plain_line (x ∷ xs) zero some none found other = subst (λ (y : ℕ). lines_of (y ∷ xs) ≡ [] ∷ lines_of xs) (sym found) refl
plain_line (x ∷ []) (suc i) some none found other = absurd (omega arith)
plain_line (x ∷ y ∷ ys) (suc zero) some none found other =
    hangs x (y ∷ ys) (none 0 (omega arith)) (inl (other 0 refl))
    ∙ ap (hang x) (plain_line (y ∷ ys) zero (omega arith) (λ k lt. absurd (omega arith)) found (λ j e. absurd (omega arith)))
plain_line (x ∷ y ∷ ys) (suc (suc i)) some none found other =
    hangs x (y ∷ ys) (none 0 (omega arith)) (inr (ne_eqb y 10 (none 1 (omega arith))))
    ∙ ap (hang x) (plain_line (y ∷ ys) (suc i) (omega arith) (λ k lt. none (suc k) (omega arith)) found (λ j e. other (suc j) (ap suc e)))

return_line : (xs : List ℕ) (i : ℕ) → suc i < length xs → NoFeed xs (suc i) → get_or xs (suc i) 0 ≡ 10 →
    get_or xs i 0 ≡ 13 → lines_of xs ≡ take i xs ∷ lines_of (drop (suc (suc i)) xs)
return_line [] i some none found return = absurd (omega arith)
return_line (x ∷ []) i some none found return = absurd (omega arith)
return_line (x ∷ y ∷ ys) zero some none found return = rw (return, found) refl
return_line (x ∷ y ∷ ys) (suc i) some none found return =
    hangs x (y ∷ ys) (none 0 (omega arith)) (inr (ne_eqb y 10 (none 1 (omega arith))))
    ∙ ap (hang x) (return_line (y ∷ ys) i (omega arith) (λ k lt. none (suc k) (omega arith)) found return)

-- a line feed with a carriage return before it
pub cut_line : (xs : List ℕ) (i : ℕ) → 0 < i → i < length xs → NoFeed xs i → get_or xs i 0 ≡ 10 →
    get_or xs (i - 1) 0 ≡ 13 → lines_of xs ≡ take (i - 1) xs ∷ lines_of (drop (i + 1) xs)
cut_line xs zero some inside none found return = absurd (omega arith)
cut_line xs (suc i) some inside none found return =
    let e : suc i - 1 ≡ i = omega arith in
    let f : suc i + 1 ≡ suc (suc i) = omega arith in
    let at : get_or xs i 0 ≡ 13 = rw e at return in
    rw (e, f) (return_line xs i inside none found at)
