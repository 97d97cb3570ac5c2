-- Lists of what a function gives the numbers below a count.
use Rattle.std.proofs.Common.{◌≡◌, ℕ, zero, suc, ◌+◌, ◌-◌, ◌<◌, ◌≤◌, ◌⊎◌, inl, inr, List, [], ◌∷◌, ◌++◌, length, map, get_or, Some, slice_get, refl, sym, ap, ◌∙◌, subst, arith, append_assoc, length-append}
use Rattle.std.specs.List.{All, range_with_len}
use Rattle.std.proofs.lemmas.Bool.{cases_lt}
use Rattle.std.proofs.lemmas.List.{get_or_append_left, get_or-append_right}
use Rattle.std.proofs.lemmas.List.FromFn.{length-map-range_with_len, get_or-map-range_with_len, map-range_with_len_more}
use Rattle.std.proofs.lemmas.Option.{slice_get_within, get_or_from_slice_get}
use Rattle.pami_model.specs.Rules.{IsDistinct}
use Rattle.pami_trial.specs.Transport.{below}

pub below_more : {X : Type 0} (f : ℕ → X) (n : ℕ) → map f (below (n + 1)) ≡ map f (below n) ++ f n ∷ []
below_more f n = map-range_with_len_more f 0 n n (omega arith)

-- one value behind those so far
pub pushed : {X : Type 0} (f : ℕ → X) (n : ℕ) (old new : List X) (x : X) → old ≡ map f (below n) → x ≡ f n → new ≡ old ++ x ∷ [] → new ≡ map f (below (n + 1))
pushed f n old new x h e p = p ∙ ap (λ y. old ++ y ∷ []) e ∙ ap (λ xs. xs ++ f n ∷ []) h ∙ sym (below_more f n)

pub pushed_behind : {X : Type 0} (front : List X) (f : ℕ → X) (n : ℕ) (old new : List X) (x : X) → old ≡ front ++ map f (below n) → x ≡ f n → new ≡ old ++ x ∷ []
    → new ≡ front ++ map f (below (n + 1))
pushed_behind front f n old new x h e p =
    p ∙ ap (λ y. old ++ y ∷ []) e ∙ ap (λ xs. xs ++ f n ∷ []) h ∙ append_assoc front (map f (below n)) (f n ∷ []) ∙ ap (λ xs. front ++ xs) (sym (below_more f n))

pub below_length : {X : Type 0} (f : ℕ → X) (n : ℕ) → length (map f (below n)) ≡ n
below_length f n = length-map-range_with_len f 0 n

pub below_at : {X : Type 0} (f : ℕ → X) (n k : ℕ) (d : X) → k < n → get_or (map f (below n)) k d ≡ f k
below_at f n k d l = get_or-map-range_with_len f 0 n k k d l (omega arith)

same_from : {X : Type 0} (f g : ℕ → X) (a n : ℕ) → ((k : ℕ) → k < a + n → f k ≡ g k) → map f (range_with_len a n) ≡ map g (range_with_len a n)
same_from f g a zero h = refl
same_from f g a (suc n) h =
    ap (λ x. x ∷ map f (range_with_len (a + 1) n)) (h a (omega arith))
    ∙ ap (λ xs. g a ∷ xs) (same_from f g (a + 1) n (λ k l. h k (omega arith)))

-- two functions that agree below the count give one list
pub below_same : {X : Type 0} (f g : ℕ → X) (n : ℕ) → ((k : ℕ) → k < n → f k ≡ g k) → map f (below n) ≡ map g (below n)
below_same f g n h = same_from f g 0 n (λ k l. h k (omega arith))

map_from : {X Y : Type 0} (h : X → Y) (f : ℕ → X) (a n : ℕ) → map h (map f (range_with_len a n)) ≡ map (λ k. h (f k)) (range_with_len a n)
map_from h f a zero = refl
map_from h f a (suc n) = ap (λ ys. h (f a) ∷ ys) (map_from h f (a + 1) n)

pub map_below : {X Y : Type 0} (h : X → Y) (f : ℕ → X) (n : ℕ) → map h (map f (below n)) ≡ map (λ k. h (f k)) (below n)
map_below h f n = map_from h f 0 n

pub below_all : {X : Type 0} (P : X → Type 0) (f : ℕ → X) (n : ℕ) → ((k : ℕ) → k < n → P (f k)) → All P (map f (below n))
below_all P f n h = λ k d l. let m : k < n = omega (arith, l, below_length f n) in subst P (sym (below_at f n k d m)) (h k m)

-- ---- each name once

-- a function that gives no name twice below the count
abbrev pub IsOneToOne : (ℕ → List ℕ) → ℕ → Type 0
IsOneToOne f n = (i j : ℕ) → i < n → j < n → f i ≡ f j → i ≡ j

found : (f : ℕ → List ℕ) (n k : ℕ) (x : List ℕ) → slice_get (map f (below n)) k ≡ Some x → (k < n) × (f k ≡ x)
found f n k x e =
    let l : k < n = omega (arith, slice_get_within (map f (below n)) k x e, below_length f n) in
    (l, sym (below_at f n k x l) ∙ get_or_from_slice_get (map f (below n)) k x x e)

pub distinct_below : (f : ℕ → List ℕ) (n : ℕ) → IsOneToOne f n → IsDistinct (map f (below n))
distinct_below f n one = λ i j x p q. let a = found f n i x p in let b = found f n j x q in one i j a.0 b.0 (a.1 ∙ sym b.1)

-- the names of one function behind those of another
module _ (f g : ℕ → List ℕ) (m n : ℕ) where
  abbrev both : List (List ℕ)
  both = map f (below m) ++ map g (below n)

  abbrev IsFirst : ℕ → List ℕ → Type 0
  IsFirst k x = (k < m) × (f k ≡ x)

  abbrev IsSecond : ℕ → List ℕ → Type 0
  IsSecond k x = (m ≤ k) × (k - m < n) × (g (k - m) ≡ x)

  found_in : (k : ℕ) (x : List ℕ) → slice_get both k ≡ Some x → IsFirst k x ⊎ IsSecond k x
  found_in k x e = go (cases_lt k m)
    where
      at : get_or both k x ≡ x
      at = get_or_from_slice_get both k x x e

      within : k < m + n
      within = omega (arith, slice_get_within both k x e, length-append (map f (below m)) (map g (below n)), below_length f m, below_length g n)

      go : (k < m) ⊎ (m ≤ k) → IsFirst k x ⊎ IsSecond k x
      go (inl l) =
          let short : k < length (map f (below m)) = omega (arith, l, below_length f m) in
          inl (l, sym (below_at f m k x l) ∙ sym (get_or_append_left (map f (below m)) (map g (below n)) x k short) ∙ at)
      go (inr l) =
          let rest : k - m < n = omega (arith, l, within) in
          inr (l, rest, sym (below_at g n (k - m) x rest) ∙ sym (get_or-append_right (map f (below m)) (map g (below n)) m k x (below_length f m) l) ∙ at)

  pub distinct_both : IsOneToOne f m → IsOneToOne g n → ((i j : ℕ) → i < m → j < n → f i ≡ g j → ⊥) → IsDistinct both
  distinct_both one other apart = λ i j x p q. go i j x (found_in i x p) (found_in j x q)
    where
      go : (i j : ℕ) (x : List ℕ) → IsFirst i x ⊎ IsSecond i x → IsFirst j x ⊎ IsSecond j x → i ≡ j
      go i j x (inl a) (inl b) = one i j a.0 b.0 (a.1 ∙ sym b.1)
      go i j x (inl a) (inr b) = absurd (apart i (j - m) a.0 b.1 (a.1 ∙ sym b.2))
      go i j x (inr a) (inl b) = absurd (apart j (i - m) b.0 a.1 (b.1 ∙ sym a.2))
      go i j x (inr a) (inr b) = let e : i - m ≡ j - m = other (i - m) (j - m) a.1 b.1 (a.2 ∙ sym b.2) in omega (arith, e, a.0, b.0)
