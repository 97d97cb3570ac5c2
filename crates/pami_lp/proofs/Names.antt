-- Names, and their places in a list.
use Rattle.std.proofs.Common.{◌≡◌, ◌+◌, ◌<◌, ℕ, suc, Bool, true, false, true≢false, cond, nat_eq, nat_lt, List, [], ◌∷◌, ◌++◌, length, Option, None, Some, is_some, refl, sym, ap, ◌∙◌, arith}
use Rattle.std.specs.List.{position_or_len}
use Rattle.std.specs.Option.{option_map}
use Rattle.std.specs.Str.{bytes_eq}
use Rattle.std.proofs.lemmas.Bool.{ne_eqb}
use Rattle.std.proofs.lemmas.Bool.Decides.{nat_tests}
use Rattle.std.proofs.lemmas.Slice.Eq.{bytes_eq-Decides}
use Rattle.pami_model.specs.Draft.{place_of}

pub same : (x y : List ℕ) → bytes_eq x y ≡ true → x ≡ y
same x y h = (bytes_eq-Decides x y).0 h

pub itself : (x : List ℕ) → bytes_eq x x ≡ true
itself x = (bytes_eq-Decides x x).1 refl

pub none_some : {A : Type 0} {i : ℕ} → ◌≡◌ {A = Option ℕ} None (Some i) → A
none_some e = absurd (true≢false (sym (ap is_some e)))

abbrev pub found_or : Option ℕ → ℕ
found_or None = 0
found_or (Some i) = i

pub some_same : {i j : ℕ} → ◌≡◌ {A = Option ℕ} (Some i) (Some j) → i ≡ j
some_same e = ap found_or e

pub place_step : (n x : List ℕ) (xs : List (List ℕ)) → place_of n (x ∷ xs) ≡ cond (bytes_eq n x) (Some 0) (option_map suc (place_of n xs))
place_step n x xs = by (bytes_eq n x) refl
  where
    go : (a b : ℕ) (c d : Bool) → c ≡ d → cond c (Some (1 + a)) None ≡ option_map suc (cond d (Some a) None)
    go a b true true e = ap Some (omega arith)
    go a b false false e = refl
    go a b true false e = absurd (true≢false e)
    go a b false true e = absurd (true≢false (sym e))

    less : (a b : ℕ) → nat_lt (1 + a) (suc b) ≡ nat_lt a b
    less a b = grind (arith, nat_tests)

    above : (b : ℕ) → nat_lt 0 (suc b) ≡ true
    above b = grind (arith, nat_tests)

    by : (b : Bool) → bytes_eq n x ≡ b → place_of n (x ∷ xs) ≡ cond b (Some 0) (option_map suc (place_of n xs))
    by true e = rw e (ap (λ (c : Bool). cond c (Some 0) None) (above (length xs)))
    by false e = rw e (go (position_or_len (bytes_eq n) xs) (length xs) _ _ (less (position_or_len (bytes_eq n) xs) (length xs)))

-- a name that is put behind others
pub place_push : (n : List ℕ) (xs : List (List ℕ)) → place_of n xs ≡ None → place_of n (xs ++ n ∷ []) ≡ Some (length xs)
place_push n [] h = place_step n n [] ∙ ap (λ (b : Bool). cond b (Some 0) (option_map suc (place_of n []))) (itself n)
place_push n (x ∷ xs) h = place_step n x (xs ++ n ∷ []) ∙ by (bytes_eq n x) (sym (place_step n x xs) ∙ h) (λ e. place_push n xs e)
  where
    by : (b : Bool) → cond b (Some 0) (option_map suc (place_of n xs)) ≡ None → (place_of n xs ≡ None → place_of n (xs ++ n ∷ []) ≡ Some (length xs))
        → cond b (Some 0) (option_map suc (place_of n (xs ++ n ∷ []))) ≡ Some (suc (length xs))
    by true g ih = none_some (sym g)
    by false g ih = ap (option_map suc) (ih (at (place_of n xs) g))
      where
        at : (o : Option ℕ) → option_map suc o ≡ None → o ≡ None
        at None e = refl
        at (Some i) e = none_some (sym e)

-- a name's place is within the names
pub place_within : (n : List ℕ) (xs : List (List ℕ)) (i : ℕ) → place_of n xs ≡ Some i → i < length xs
place_within n [] i h = none_some h
place_within n (x ∷ xs) i h = by (bytes_eq n x) (sym (place_step n x xs) ∙ h) (λ j e. place_within n xs j e)
  where
    move : (o : Option ℕ) → place_of n xs ≡ o → option_map suc o ≡ Some i → ((j : ℕ) → place_of n xs ≡ Some j → j < length xs) → i < suc (length xs)
    move None e g ih = none_some g
    move (Some j) e g ih = let k : suc j ≡ i = some_same g in let l : j < length xs = ih j e in omega (arith, k, l)

    by : (b : Bool) → cond b (Some 0) (option_map suc (place_of n xs)) ≡ Some i → ((j : ℕ) → place_of n xs ≡ Some j → j < length xs) → i < suc (length xs)
    by true g ih = let k : 0 ≡ i = some_same g in omega (arith, k)
    by false g ih = move (place_of n xs) refl g ih

-- one place has one name
pub place_one : (m n : List ℕ) (xs : List (List ℕ)) (i : ℕ) → place_of m xs ≡ Some i → place_of n xs ≡ Some i → m ≡ n
place_one m n [] i h k = none_some h
place_one m n (x ∷ xs) i h k =
    by (bytes_eq m x) (bytes_eq n x) refl refl (sym (place_step m x xs) ∙ h) (sym (place_step n x xs) ∙ k) (λ j e f. place_one m n xs j e f)
  where
    zero_suc : {A : Type 0} {j : ℕ} → 0 ≡ suc j → A
    zero_suc e = absurd (omega (arith, e))

    move : (o p : Option ℕ) → place_of m xs ≡ o → place_of n xs ≡ p → option_map suc o ≡ Some i → option_map suc p ≡ Some i
        → ((j : ℕ) → place_of m xs ≡ Some j → place_of n xs ≡ Some j → m ≡ n) → m ≡ n
    move None p e f g k ih = none_some g
    move (Some a) None e f g k ih = none_some k
    move (Some a) (Some b) e f g k ih =
        let u : suc a ≡ i = some_same g in let v : suc b ≡ i = some_same k in let w : b ≡ a = omega (arith, u, v) in
        ih a e (f ∙ ap (λ (c : ℕ). Some c) w)

    apart : {A : Type 0} (o : Option ℕ) → Some 0 ≡ Some i → option_map suc o ≡ Some i → A
    apart None g k = none_some k
    apart (Some a) g k = zero_suc (some_same g ∙ sym (some_same k))

    by : (a b : Bool) → bytes_eq m x ≡ a → bytes_eq n x ≡ b → cond a (Some 0) (option_map suc (place_of m xs)) ≡ Some i
        → cond b (Some 0) (option_map suc (place_of n xs)) ≡ Some i
        → ((j : ℕ) → place_of m xs ≡ Some j → place_of n xs ≡ Some j → m ≡ n) → m ≡ n
    by true true e f g k ih = same m x e ∙ sym (same n x f)
    by true false e f g k ih = apart (place_of n xs) g k
    by false true e f g k ih = apart (place_of m xs) k g
    by false false e f g k ih = move (place_of m xs) (place_of n xs) refl refl g k ih

-- a name behind others leaves the places of the others
pub place_kept : (n m : List ℕ) (xs : List (List ℕ)) → bytes_eq m n ≡ false → place_of m (xs ++ n ∷ []) ≡ place_of m xs
place_kept n m [] e = place_step m n [] ∙ ap (λ (b : Bool). cond b (Some 0) (option_map suc (place_of m []))) e
place_kept n m (x ∷ xs) e =
    place_step m x (xs ++ n ∷ []) ∙ ap (λ (o : Option ℕ). cond (bytes_eq m x) (Some 0) (option_map suc o)) (place_kept n m xs e) ∙ sym (place_step m x xs)

-- two names have two places
pub place_apart : (m n : List ℕ) (xs : List (List ℕ)) (j k : ℕ) → bytes_eq m n ≡ false → place_of n xs ≡ Some j → place_of m xs ≡ Some k → nat_eq k j ≡ false
place_apart m n xs j k e h g =
    ne_eqb k j (λ i. true≢false (sym (itself n) ∙ ap (λ (x : List ℕ). bytes_eq x n) (sym (place_one m n xs j (g ∙ ap (λ (c : ℕ). Some c) i) h)) ∙ e))
