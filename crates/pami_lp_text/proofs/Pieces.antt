-- A line cut into pieces, one after another.
use Rattle.std.proofs.Common.{◌≡◌, ◌≢◌, ◌<◌, ◌≤◌, ◌+◌, ◌-◌, ℕ, zero, suc, Bool, true, false, cond, not, nat_eq, List, [], ◌∷◌, ◌++◌, length, take, drop, map, filter, refl, sym, ap, subst, ◌∙◌, arith, append_assoc, get_or, drop-cons}
use Rattle.std.proofs.lemmas.List.{length-drop, take_all, get_or-map, length-map}
use Rattle.std.proofs.lemmas.Bool.{eqb-false}
use Rattle.std.proofs.lemmas.List.Sums.{position_or_len_is}
use Rattle.pami_frac.specs.Decimal.{before}
use Rattle.pami_edge.specs.Lines.{lines_of, hang, begins_with_feed}
use Rattle.pami_lp_text.specs.Lexeme.{is_lexeme, is_blank, greatest, longest, piece_length, pieces_within, pieces, words_of, Word, word, marked, words_from}

greatest_within : (p : ℕ → Bool) (n : ℕ) → greatest p n ≤ n
greatest_within p zero = omega arith
greatest_within p (suc n) = go (p (suc n)) (greatest_within p n)
  where
    go : (b : Bool) → greatest p n ≤ n → cond b (suc n) (greatest p n) ≤ suc n
    go true h = omega arith
    go false h = omega arith

pub longest_within : (bs : List ℕ) → longest bs ≤ length bs
longest_within bs = greatest_within (λ n. is_lexeme (take n bs)) (length bs)

pub piece_some : (bs : List ℕ) → 0 < piece_length bs
piece_some bs = go (nat_eq (longest bs) 0) refl
  where
    go : (c : Bool) → nat_eq (longest bs) 0 ≡ c → 0 < cond c 1 (longest bs)
    go true e = omega arith
    go false e = let h : longest bs ≢ 0 = eqb-false (longest bs) 0 e in omega arith

-- what stands before the first byte that passes

pub before_at : (p : ℕ → Bool) (xs : List ℕ) (i : ℕ) → i < length xs → ((k : ℕ) → k < i → p (get_or xs k 0) ≡ false) → p (get_or xs i 0) ≡ true → take i xs ≡ before p xs
before_at p xs i lt none here = ap (λ n. take n xs) (sym (position_or_len_is p xs i 0 (omega arith) none (λ h. here)))

pub before_none : (p : ℕ → Bool) (xs : List ℕ) (i : ℕ) → i ≡ length xs → ((k : ℕ) → k < i → p (get_or xs k 0) ≡ false) → xs ≡ before p xs
before_none p xs i e none = sym (take_all i xs (omega arith)) ∙ ap (λ n. take n xs) (sym (position_or_len_is p xs i 0 (omega arith) none (λ h. absurd (omega arith))))

-- steps enough for a list

pub enough : (n m : ℕ) (bs : List ℕ) → length bs ≤ n → length bs ≤ m → pieces_within n bs ≡ pieces_within m bs
enough zero zero bs h k = refl
enough zero (suc m) [] h k = refl
enough (suc n) zero [] h k = refl
enough (suc n) (suc m) [] h k = refl
enough zero (suc m) (b ∷ bs) h k = absurd (omega arith)
enough (suc n) zero (b ∷ bs) h k = absurd (omega arith)
enough (suc n) (suc m) (b ∷ bs) h k =
    let l = piece_length (b ∷ bs) in
    let some = piece_some (b ∷ bs) in
    let e : length (drop (piece_length (b ∷ bs)) (b ∷ bs)) ≡ length (b ∷ bs) - piece_length (b ∷ bs) = length-drop (piece_length (b ∷ bs)) (b ∷ bs) in
    ap (λ (ps : List (List ℕ)). take (piece_length (b ∷ bs)) (b ∷ bs) ∷ ps) (enough n m (drop (piece_length (b ∷ bs)) (b ∷ bs)) (omega arith) (omega arith))

pub one_piece : (bs : List ℕ) → 0 < length bs → pieces bs ≡ take (piece_length bs) bs ∷ pieces (drop (piece_length bs) bs)
one_piece [] h = absurd (omega arith)
one_piece (b ∷ bs) h =
    let some = piece_some (b ∷ bs) in
    let e : length (drop (piece_length (b ∷ bs)) (b ∷ bs)) ≡ length (b ∷ bs) - piece_length (b ∷ bs) = length-drop (piece_length (b ∷ bs)) (b ∷ bs) in
    ap (λ (ps : List (List ℕ)). take (piece_length (b ∷ bs)) (b ∷ bs) ∷ ps) (enough (length bs) (length (drop (piece_length (b ∷ bs)) (b ∷ bs))) (drop (piece_length (b ∷ bs)) (b ∷ bs)) (omega arith) (omega arith))

-- the words of what is left of a line
abbrev pub left : List ℕ → List (List ℕ)
left rest = filter (λ piece. not (is_blank piece)) (pieces rest)

left_cut : (rest : List ℕ) (k : ℕ) (b : Bool) → 0 < length rest → k ≡ piece_length rest → is_blank (take k rest) ≡ b → left rest ≡ cond b (left (drop k rest)) (take k rest ∷ left (drop k rest))
left_cut rest k b some e h =
    let cut : left rest ≡ filter (λ piece. not (is_blank piece)) (take k rest ∷ pieces (drop k rest)) =
    ap (filter (λ piece. not (is_blank piece))) (one_piece rest some ∙ ap (λ n. take n rest ∷ pieces (drop n rest)) (sym e)) in
    go b cut h
  where
    go : (b : Bool) → left rest ≡ filter (λ piece. not (is_blank piece)) (take k rest ∷ pieces (drop k rest)) → is_blank (take k rest) ≡ b → left rest ≡ cond b (left (drop k rest)) (take k rest ∷ left (drop k rest))
    go true cut h = cut ∙ rw h refl
    go false cut h = cut ∙ rw h refl

-- the words taken and the words of what is left are those of the line
pub record Between (done : List Word) (number : ℕ) (first : Bool) (rest : List ℕ) (all : List Word) : Type 0 where
  pub words : done ++ marked number first (left rest) ≡ all

pub skips : (done : List Word) (number : ℕ) (first : Bool) (rest after text : List ℕ) (k : ℕ) (all : List Word) → Between done number first rest all
    → 0 < length rest → k ≡ piece_length rest → text ≡ take k rest → after ≡ drop k rest → is_blank text ≡ true → Between done number first after all
skips done number first rest after text k all so some e t a h =
    record { words = ap (λ (r : List ℕ). done ++ marked number first (left r)) a ∙ ap (λ (l : List (List ℕ)). done ++ marked number first l) (sym (left_cut rest k true some e (ap is_blank (sym t) ∙ h))) ∙ so.words }

pub takes : (done more : List Word) (number : ℕ) (first : Bool) (rest after text : List ℕ) (k : ℕ) (all : List Word) → Between done number first rest all
    → 0 < length rest → k ≡ piece_length rest → text ≡ take k rest → after ≡ drop k rest → is_blank text ≡ false → more ≡ done ++ word text number first ∷ [] → Between more number false after all
takes done more number first rest after text k all so some e t a h m =
    record {
      words =
          ap (λ (d : List Word). d ++ marked number false (left after)) m
          ∙ append_assoc done (word text number first ∷ []) (marked number false (left after))
          ∙ ap (λ (r : List ℕ). done ++ word text number first ∷ marked number false (left r)) a
          ∙ ap (λ (x : List ℕ). done ++ word x number first ∷ marked number false (left (drop k rest))) t
          ∙ ap (λ (l : List (List ℕ)). done ++ marked number first l) (sym (left_cut rest k false some e (ap is_blank (sym t) ∙ h))) ∙ so.words;
    }

-- lines

pub lines_within : (bs : List ℕ) → length (lines_of bs) ≤ length bs
lines_within [] = omega arith
lines_within (b ∷ bs) = go (nat_eq b 10) (Rattle.std.specs.Prelude.◌&&◌ (nat_eq b 13) (begins_with_feed bs)) (lines_within bs)
  where
    hung : (ls : List (List ℕ)) → length ls ≤ length bs → length (hang b ls) ≤ suc (length bs)
    hung [] h = omega arith
    hung (l ∷ ls) h = omega arith

    go : (x y : Bool) → length (lines_of bs) ≤ length bs → length (cond x ([] ∷ lines_of bs) (cond y (lines_of bs) (hang b (lines_of bs)))) ≤ suc (length bs)
    go true y h = omega arith
    go false true h = omega arith
    go false false h = hung (lines_of bs) h

-- the words of the lines so far and of those that are left
pub record Lined (done : List Word) (i : ℕ) (lines : List (List ℕ)) : Type 0 where
  pub all : done ++ words_from (i + 1) (drop i lines) ≡ words_from 1 lines

pub lined_more : (done more : List Word) (i n : ℕ) (lines : List (List ℕ)) (line : List ℕ) → Lined done i lines → i < length lines → line ≡ get_or lines i [] → n ≡ i + 1 → more ≡ done ++ marked n true (words_of line) → Lined more (i + 1) lines
lined_more done more i n lines line so lt e m h =
    let s : suc i ≡ i + 1 = omega arith in
    record {
      all =
          ap (λ (d : List Word). d ++ words_from (i + 1 + 1) (drop (i + 1) lines)) h
          ∙ append_assoc done (marked n true (words_of line)) (words_from (i + 1 + 1) (drop (i + 1) lines))
          ∙ ap (λ (k : ℕ). done ++ (marked k true (words_of line) ++ words_from (i + 1 + 1) (drop (i + 1) lines))) m
          ∙ ap (λ (l : List ℕ). done ++ (marked (i + 1) true (words_of l) ++ words_from (i + 1 + 1) (drop (i + 1) lines))) e
          ∙ ap (λ (k : ℕ). done ++ (marked (i + 1) true (words_of (get_or lines i [])) ++ words_from (i + 1 + 1) (drop k lines))) (sym s)
          ∙ ap (λ (ls : List (List ℕ)). done ++ words_from (i + 1) ls) (sym (drop-cons lines i [] lt)) ∙ so.all;
    }

pub lined_all : (done : List Word) (i : ℕ) (lines : List (List ℕ)) → Lined done i lines → length lines ≤ i → done ≡ words_from 1 lines
lined_all done i lines so le =
    let e : drop i lines ≡ [] = drop_all i lines le in
    sym (Rattle.std.proofs.Common.append-nil done) ∙ ap (λ (ls : List (List ℕ)). done ++ words_from (i + 1) ls) (sym e) ∙ so.all
  where
    drop_all : (i : ℕ) (ls : List (List ℕ)) → length ls ≤ i → drop i ls ≡ []
    drop_all zero [] le = refl
    drop_all (suc i) [] le = refl
    drop_all zero (l ∷ ls) le = absurd (omega arith)
    drop_all (suc i) (l ∷ ls) le = drop_all i ls (omega arith)

pub some_left : {A : Type 0} (xs : List A) (b : Bool) → b ≡ nat_eq (length xs) 0 → b ≡ false → 0 < length xs
some_left xs b e f =
    let h : length xs ≢ 0 = eqb-false (length xs) 0 (sym e ∙ f) in
    omega arith

-- lines as pieces of the bytes
pub lines_count : {A : Type 0} (items : List A) (f : A → List ℕ) (bytes : List ℕ) → map f items ≡ lines_of bytes → length items ≤ length bytes
lines_count items f bytes e = let h = lines_within bytes in let k : length (map f items) ≡ length items = length-map items f in let m : length (map f items) ≡ length (lines_of bytes) = ap length e in omega arith

pub line_at : {A : Type 0} (items : List A) (f : A → List ℕ) (bytes : List ℕ) (i : ℕ) (d : A) (line : List ℕ) → map f items ≡ lines_of bytes → i < length items → line ≡ f (get_or items i d) → line ≡ get_or (lines_of bytes) i []
line_at items f bytes i d line e lt h = h ∙ sym (get_or-map f items i d [] lt) ∙ ap (λ (ls : List (List ℕ)). get_or ls i []) e

pub lines_same : {A : Type 0} (items : List A) (f : A → List ℕ) (bytes : List ℕ) → map f items ≡ lines_of bytes → length (lines_of bytes) ≡ length items
lines_same items f bytes e = ap length (sym e) ∙ length-map items f
