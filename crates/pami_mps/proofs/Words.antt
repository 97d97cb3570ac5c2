-- One word off the front of a line.
use Rattle.std.proofs.Common.{◌+◌, ◌-◌, ◌≡◌, ◌≢◌, ◌<◌, ◌≤◌, ℕ, zero, suc, Bool, false, true, true≢false, eqb, length, get_or, take, drop, ◌++◌, append_assoc, List, [], ◌∷◌, refl, ap, sym, ◌∙◌, arith}
use Rattle.std.proofs.lemmas.List.{take_rest, length-drop, get_or-drop}
use Rattle.std.proofs.lemmas.Bool.{eqb-false}
use Rattle.pami_mps.specs.Line.{hang, is_blank, stops, words_of}

pub skip : (xs : List ℕ) (i : ℕ) → i ≤ length xs → ((k : ℕ) → k < i → is_blank (get_or xs k 0) ≡ true) → words_of xs ≡ words_of (drop i xs)
skip xs zero within before = refl
skip [] (suc i) within before = absurd (omega arith)
skip (x ∷ xs) (suc i) within before = rw (before 0 (omega arith)) (skip xs i (omega arith) (λ k lt. before (suc k) (omega arith)))

hangs : (x : ℕ) (xs : List ℕ) → is_blank x ≡ false → stops xs ≡ false → words_of (x ∷ xs) ≡ hang x (words_of xs)
hangs x xs e f = rw (e, f) refl

pub one_word : (xs : List ℕ) (i : ℕ) → i < length xs → ((k : ℕ) → k < suc i → is_blank (get_or xs k 0) ≡ false)
    → (suc i < length xs → is_blank (get_or xs (suc i) 0) ≡ true) → words_of xs ≡ take (suc i) xs ∷ words_of (drop (suc i) xs)
one_word [] i within before found = absurd (omega arith)
one_word (x ∷ []) zero within before found = rw (before 0 (omega arith)) refl
one_word (x ∷ y ∷ ys) zero within before found = rw (before 0 (omega arith), found (omega arith)) refl
one_word (x ∷ []) (suc i) within before found = absurd (omega arith)
one_word (x ∷ y ∷ ys) (suc i) within before found =
    hangs x (y ∷ ys) (before 0 (omega arith)) (before 1 (omega arith))
    ∙ (ap (hang x) (one_word (y ∷ ys) i (omega arith) (λ k lt. before (suc k) (omega arith)) (λ lt. found (omega arith))))

pub words_on : (done : List (List ℕ)) (whole rest : List ℕ) (i j : ℕ) → done ++ words_of rest ≡ words_of whole
    → 0 < length rest → is_blank (get_or rest 0 0) ≡ false
    → i ≤ length rest → ((k : ℕ) → k < i → is_blank (get_or rest k 0) ≡ false) → (i < length rest → is_blank (get_or rest i 0) ≡ true)
    → j ≤ length (drop i rest) → ((k : ℕ) → k < j → is_blank (get_or (drop i rest) k 0) ≡ true)
    → (done ++ take i rest ∷ []) ++ words_of (drop j (drop i rest)) ≡ words_of whole
words_on done whole rest zero j so_far some begins within before found within2 before2 = absurd (true≢false (sym (found some) ∙ begins))
words_on done whole rest (suc i) j so_far some begins within before found within2 before2 =
    append_assoc done (take (suc i) rest ∷ []) (words_of (drop j (drop (suc i) rest)))
    ∙ ap (λ (z : List (List ℕ)). done ++ take (suc i) rest ∷ z) (sym (skip (drop (suc i) rest) j within2 before2))
    ∙ ap (λ (z : List (List ℕ)). done ++ z) (sym (one_word rest i (omega arith) before found)) ∙ so_far

-- before a word: the words before it are done, and it begins at once
pub record Between (done : List (List ℕ)) (rest line : List ℕ) : Type 0 where
  pub words : done ++ words_of rest ≡ words_of line
  pub begins : 0 < length rest → is_blank (get_or rest 0 0) ≡ false

begins_at : (xs : List ℕ) (i : ℕ) → (i < length xs → is_blank (get_or xs i 0) ≡ false) → 0 < length (drop i xs) → is_blank (get_or (drop i xs) 0 0) ≡ false
begins_at xs i found some =
    let h : length (drop i xs) ≡ length xs - i = length-drop i xs in
    let k : i + 0 ≡ i = omega arith in
    ap is_blank (get_or-drop i xs 0 0 ∙ ap (λ (n : ℕ). get_or xs n 0) k) ∙ found (omega arith)

pub starts : (done : List (List ℕ)) (line : List ℕ) (i : ℕ) → done ≡ [] → i ≤ length line
    → ((k : ℕ) → k < i → is_blank (get_or line k 0) ≡ true) → (i < length line → is_blank (get_or line i 0) ≡ false)
    → Between done (take (length line - i) (drop i line)) line
starts done line i none within before found = record {
  words = rw (none, take_rest line i) (sym (skip line i within before));
  begins = rw (take_rest line i) (begins_at line i found);
}

pub goes_on : (done more : List (List ℕ)) (line rest word after : List ℕ) (i j : ℕ) → Between done rest line
    → more ≡ done ++ word ∷ [] → word ≡ take i rest → after ≡ drop i rest → 0 < length rest
    → i ≤ length rest → ((k : ℕ) → k < i → is_blank (get_or rest k 0) ≡ false) → (i < length rest → is_blank (get_or rest i 0) ≡ true)
    → j ≤ length after → ((k : ℕ) → k < j → is_blank (get_or after k 0) ≡ true) → (j < length after → is_blank (get_or after j 0) ≡ false)
    → Between more (take (length after - j) (drop j after)) line
goes_on done more line rest word after i j so_far e front back some within before found within2 before2 found2 =
    let at : (done ++ word ∷ []) ++ words_of (drop j after) ≡ words_of line =
    rw (front, back) (words_on done line rest i j so_far.words some (so_far.begins some) within before found (rw (sym back) within2) (rw (sym back) before2)) in
    record { words = rw (e, take_rest after j) at; begins = rw (take_rest after j) (begins_at after j found2) }

pub some_left : {A : Type 0} (xs : List A) (b : Bool) → b ≡ eqb (length xs) 0 → b ≡ false → 0 < length xs
some_left xs b e f =
    let h : length xs ≢ 0 = eqb-false (length xs) 0 (sym e ∙ f) in
    omega arith
