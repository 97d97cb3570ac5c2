-- Places of names, and a list that changes at the place of one name.
use Rattle.std.proofs.Common.{◌≡◌, ◌<◌, ◌+◌, ℕ, zero, suc, Bool, true, false, true≢false, cond, nat_lt, nat_eq, ◌||◌, List, [], ◌∷◌, ◌++◌, map, length, Option, None, Some, refl, sym, ap, subst, ◌∙◌, ◌⊎◌, inl, inr, arith, rules}
use Rattle.std.specs.List.{list_any, IsDistinct, AllByRecursion, position, position_or_len}
use Rattle.std.specs.Option.{option_map}
use Rattle.std.specs.Str.{bytes_eq}
use Rattle.std.proofs.lemmas.Bool.{or_parts}
use Rattle.std.proofs.lemmas.Bool.Decides.{nat_tests}
use Rattle.std.proofs.lemmas.List.Quantifiers.{position-Some}
use Rattle.std.proofs.lemmas.Cmp.{nat_list_eq_equiv}
use Rattle.std.proofs.lemmas.Slice.Eq.{bytes_eq-Decides}
use Rattle.pami_model.specs.Draft.{place_of, changed}
use Rattle.pami_model.proofs.Judging.{some≢none}

-- names that are equal

pub same : (x y : List ℕ) → bytes_eq x y ≡ true → x ≡ y
same x y h = (bytes_eq-Decides x y).0 h

pub itself : (x : List ℕ) → bytes_eq x x ≡ true
itself x = (bytes_eq-Decides x x).1 refl

pub turned : (x y : List ℕ) (b : Bool) → bytes_eq x y ≡ b → bytes_eq y x ≡ b
turned x y b h = nat_list_eq_equiv.symm y x ∙ h

-- numbers at a successor

pub suc≢zero : (i : ℕ) → nat_eq (suc i) 0 ≡ false
suc≢zero i = search rules

pub suc-less : (i : ℕ) → Rattle.std.specs.Prelude.◌-◌ (suc i) 1 ≡ i
suc-less i = omega arith

-- the place of a name

pub place_step : (n x : List ℕ) (xs : List (List ℕ)) → place_of n (x ∷ xs) ≡ cond (bytes_eq n x) (Some 0) (option_map suc (place_of n xs))
place_step n x xs = by (bytes_eq n x) refl
  where
    go : (a b : ℕ) (c d : Bool) → c ≡ d → cond c (Some (1 + a)) None ≡ option_map suc (cond d (Some a) None)
    go a b true true e = ap Some (omega arith)
    go a b false false e = refl
    go a b true false e = absurd (true≢false e)
    go a b false true e = absurd (true≢false (sym e))

    less : (a b : ℕ) → nat_lt (1 + a) (suc b) ≡ nat_lt a b
    less a b = grind (arith, nat_tests)

    above : (b : ℕ) → nat_lt 0 (suc b) ≡ true
    above b = grind (arith, nat_tests)

    by : (b : Bool) → bytes_eq n x ≡ b → place_of n (x ∷ xs) ≡ cond b (Some 0) (option_map suc (place_of n xs))
    by true e = rw e (ap (λ (c : Bool). cond c (Some 0) None) (above (length xs)))
    by false e = rw e (go (position_or_len (bytes_eq n) xs) (length xs) _ _ (less (position_or_len (bytes_eq n) xs) (length xs)))

-- the first of the names, or a later one
pub place_cons : (n x : List ℕ) (xs : List (List ℕ)) (i : ℕ) → place_of n (x ∷ xs) ≡ Some i
    → ((bytes_eq n x ≡ true) × (i ≡ 0)) ⊎ ((bytes_eq n x ≡ false) × ((j : ℕ) × (i ≡ suc j) × (place_of n xs ≡ Some j)))
place_cons n x xs i h = by (bytes_eq n x) refl (place_of n xs) refl (sym (place_step n x xs) ∙ h)
  where
    by : (b : Bool) → bytes_eq n x ≡ b → (o : Option ℕ) → place_of n xs ≡ o → cond b (Some 0) (option_map suc o) ≡ Some i
        → ((bytes_eq n x ≡ true) × (i ≡ 0)) ⊎ ((bytes_eq n x ≡ false) × ((j : ℕ) × (i ≡ suc j) × (place_of n xs ≡ Some j)))
    by true e o f g = inl (e, let k : i ≡ 0 = cc in k)
    by false e None f g = absurd cc
    by false e (Some j) f g = inr (e, (j, (let k : i ≡ suc j = cc in k), f))

pub place_below : (n : List ℕ) (xs : List (List ℕ)) (i : ℕ) → place_of n xs ≡ Some i → i < length xs
place_below n xs i h = (position-Some (bytes_eq n) xs i [] h).0

pub place_none : (n : List ℕ) (xs : List (List ℕ)) → place_of n xs ≡ None → list_any (bytes_eq n) xs ≡ false
place_none n [] h = refl
place_none n (x ∷ xs) h = by (place_none n xs) (bytes_eq n x) (place_of n xs) refl (sym (place_step n x xs) ∙ h)
  where
    by : (place_of n xs ≡ None → list_any (bytes_eq n) xs ≡ false) → (b : Bool) (o : Option ℕ) → place_of n xs ≡ o
        → cond b (Some 0) (option_map suc o) ≡ None → (b || list_any (bytes_eq n) xs) ≡ false
    by rest true o f g = absurd (some≢none g)
    by rest false None f g = rest f
    by rest false (Some j) f g = absurd (some≢none g)

pub place_absent : (n : List ℕ) (xs : List (List ℕ)) → list_any (bytes_eq n) xs ≡ false → place_of n xs ≡ None
place_absent n [] h = refl
place_absent n (x ∷ xs) h =
    let parts = or_parts (bytes_eq n x) (list_any (bytes_eq n) xs) h in
    place_step n x xs ∙ rw (parts.0, place_absent n xs parts.1) refl

pub place_some : (n : List ℕ) (xs : List (List ℕ)) (i : ℕ) → place_of n xs ≡ Some i → list_any (bytes_eq n) xs ≡ true
place_some n xs i h = by (list_any (bytes_eq n) xs) refl
  where
    by : (b : Bool) → list_any (bytes_eq n) xs ≡ b → list_any (bytes_eq n) xs ≡ true
    by true e = e
    by false e = absurd (some≢none (sym h ∙ place_absent n xs e))

-- names at the end don't move a name
pub place_more : (n : List ℕ) (xs ys : List (List ℕ)) → list_any (bytes_eq n) xs ≡ true → place_of n (xs ++ ys) ≡ place_of n xs
place_more n [] ys h = absurd (true≢false (sym h))
place_more n (x ∷ xs) ys h = place_step n x (xs ++ ys) ∙ by (place_more n xs ys) (bytes_eq n x) h ∙ sym (place_step n x xs)
  where
    by : (list_any (bytes_eq n) xs ≡ true → place_of n (xs ++ ys) ≡ place_of n xs) → (b : Bool) → (b || list_any (bytes_eq n) xs) ≡ true
        → cond b (Some 0) (option_map suc (place_of n (xs ++ ys))) ≡ cond b (Some 0) (option_map suc (place_of n xs))
    by rest true g = refl
    by rest false g = ap (option_map suc) (rest g)

-- a new name is last
pub place_new : (n : List ℕ) (xs : List (List ℕ)) → list_any (bytes_eq n) xs ≡ false → place_of n (xs ++ n ∷ []) ≡ Some (length xs)
place_new n [] h = place_step n n [] ∙ rw (itself n) refl
place_new n (x ∷ xs) h =
    let parts = or_parts (bytes_eq n x) (list_any (bytes_eq n) xs) h in
    place_step n x (xs ++ n ∷ []) ∙ rw (parts.0, place_new n xs parts.1) refl

-- a name that is last
pub record IsLast (n : List ℕ) (names before : List (List ℕ)) : Type 0 where
  pub split : names ≡ before ++ n ∷ []
  pub fresh : list_any (bytes_eq n) before ≡ false

pub last_split : (n : List ℕ) (xs : List (List ℕ)) (i : ℕ) → place_of n xs ≡ Some i → i + 1 ≡ length xs → (ms : List (List ℕ)) × IsLast n xs ms
last_split n [] i h e = absurd cc
last_split n (x ∷ xs) i h e = by (last_split n xs) (place_cons n x xs i h)
  where
    only : (ys : List (List ℕ)) → length ys ≡ 0 → bytes_eq n x ≡ true → IsLast n (x ∷ ys) []
    only [] g b = record { split = ap (λ (y : List ℕ). y ∷ []) (sym (same n x b)); fresh = refl }
    only (y ∷ ys) g b = absurd (omega arith)

    by : ((j : ℕ) → place_of n xs ≡ Some j → j + 1 ≡ length xs → (ms : List (List ℕ)) × IsLast n xs ms)
        → ((bytes_eq n x ≡ true) × (i ≡ 0)) ⊎ ((bytes_eq n x ≡ false) × ((j : ℕ) × (i ≡ suc j) × (place_of n xs ≡ Some j)))
        → (ms : List (List ℕ)) × IsLast n (x ∷ xs) ms
    by more (inl p) = ([], only xs (omega (arith, p.1)) p.0)
    by more (inr p) =
        let rest = more p.1.0 p.1.2 (omega (arith, p.1.1)) in
        (x ∷ rest.0, record { split = ap (λ (ys : List (List ℕ)). x ∷ ys) rest.1.split; fresh = rw (p.0, rest.1.fresh) refl })

-- changes

pub changed_step : {A : Type 0} (i : ℕ) (f : A → A) (x : A) (xs : List A) → changed (suc i) f (x ∷ xs) ≡ x ∷ changed i f xs
changed_step i f x xs = rw (suc≢zero i) (ap (λ (j : ℕ). x ∷ changed j f xs) (suc-less i))

pub changed_last : {A : Type 0} (f : A → A) (xs : List A) (x : A) → changed (length xs) f (xs ++ x ∷ []) ≡ xs ++ f x ∷ []
changed_last f [] x = refl
changed_last f (y ∷ xs) x = changed_step (length xs) f y (xs ++ x ∷ []) ∙ ap (λ zs. y ∷ zs) (changed_last f xs x)

pub length_changed : {A : Type 0} (i : ℕ) (f : A → A) (xs : List A) → length (changed i f xs) ≡ length xs
length_changed i f [] = refl
length_changed zero f (x ∷ xs) = refl
length_changed (suc i) f (x ∷ xs) = ap length (changed_step i f x xs) ∙ ap suc (length_changed i f xs)

-- items of other names stay
pub map_missed : {A B : Type 0} (key : A → List ℕ) (f g : A → B) (n : List ℕ) → ((x : A) → bytes_eq n (key x) ≡ false → g x ≡ f x) → (xs : List A)
    → list_any (bytes_eq n) (map key xs) ≡ false → map g xs ≡ map f xs
map_missed key f g n missed [] e = refl
map_missed key f g n missed (x ∷ xs) e =
    let parts = or_parts (bytes_eq n (key x)) (list_any (bytes_eq n) (map key xs)) e in
    rw (missed x parts.0, map_missed key f g n missed xs parts.1) refl

-- a function of items with distinct names that changes at one name is changed at the place of that name
module _ {A B : Type 0} (key : A → List ℕ) (f g : A → B) (n : List ℕ) (h : List A → ℕ → B → B)
    (shift : (x : A) (xs : List A) (i : ℕ) → h (x ∷ xs) (suc i) ≡ h xs i)
    (hit : (x : A) (xs : List A) → bytes_eq n (key x) ≡ true → g x ≡ h (x ∷ xs) 0 (f x))
    (missed : (x : A) → bytes_eq n (key x) ≡ false → g x ≡ f x) where
  none_after : (x : A) (xs : List A) → bytes_eq n (key x) ≡ true → AllByRecursion (λ y. bytes_eq (key x) y ≡ false) (map key xs)
      → list_any (bytes_eq n) (map key xs) ≡ false
  none_after x [] e d = refl
  none_after x (y ∷ ys) e d = rw (subst (λ (m : List ℕ). bytes_eq m (key y) ≡ false) (sym (same n (key x) e)) d.0, none_after x ys e d.1) refl

  pub map_changed : (xs : List A) (i : ℕ) → place_of n (map key xs) ≡ Some i → IsDistinct bytes_eq (map key xs) → map g xs ≡ changed i (h xs i) (map f xs)
  unfolding IsDistinct
  map_changed [] i e d = refl
  map_changed (x ∷ xs) i e d = by (λ j p. map_changed xs j p d.1) (place_cons n (key x) (map key xs) i e)
    where
      by : ((j : ℕ) → place_of n (map key xs) ≡ Some j → map g xs ≡ changed j (h xs j) (map f xs))
          → ((bytes_eq n (key x) ≡ true) × (i ≡ 0)) ⊎ ((bytes_eq n (key x) ≡ false) × ((j : ℕ) × (i ≡ suc j) × (place_of n (map key xs) ≡ Some j)))
          → map g (x ∷ xs) ≡ changed i (h (x ∷ xs) i) (map f (x ∷ xs))
      by rest (inl p) = rw (p.1, hit x xs p.0, map_missed key f g n missed xs (none_after x xs p.0 d.0)) refl
      by rest (inr p) =
          ap (λ (y : B). y ∷ map g xs) (missed x p.0)
          ∙ ap (λ (ys : List B). f x ∷ ys) (rest p.1.0 p.1.2 ∙ ap (λ (q : B → B). changed p.1.0 q (map f xs)) (sym (shift x xs p.1.0)))
          ∙ sym (changed_step p.1.0 (h (x ∷ xs) (suc p.1.0)) (f x) (map f xs)) ∙ ap (λ (k : ℕ). changed k (h (x ∷ xs) k) (f x ∷ map f xs)) (sym p.1.1)
