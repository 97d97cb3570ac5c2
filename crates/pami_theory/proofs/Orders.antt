-- Lists in order by a test: that `ordered` puts a list in order, and that there is one order.
use Rattle.std.proofs.Common.{◌≡◌, ℕ, zero, suc, ◌+◌, ◌<◌, ◌⊎◌, inl, inr, ⊎_elim, Bool, true, false, cond, not, ◌&&◌, List, [], ◌∷◌, length, slice_index_or, refl, sym, ap, ◌∙◌, subst, arith, true≢false}
use Rattle.std.specs.List.{filter, find, IsDistinct}
use Rattle.std.specs.List.Sorted.{IsPermutation, IsSortedBy, ties}
use Rattle.std.specs.Cmp.{IsStrictWeakOrder}
use Rattle.std.proofs.lemmas.List.Sorted.{IsPermutation-refl, IsPermutation-sym, IsPermutation-trans, IsPermutation-cons, IsPermutation-middle, Contains-permutation, sorted_far}
use Rattle.std.proofs.lemmas.Map.Keys.{IsDistinct-IsPermutation}
use Rattle.std.proofs.lemmas.Option.{same_Some}
use Rattle.std.specs.Prelude.{Some}
use Rattle.pami_theory.specs.Order.{put_in, ordered}
use Rattle.pami_theory.proofs.Members.{Has, contains_from, has_from, each_has, filter_has}

-- ---- strict orders
pub irreflexive : {A : Type 0} (before : A → A → Bool) (x : A) → IsStrictWeakOrder before → before x x ≡ false
irreflexive before x o = go (before x x) refl
  where
    go : (b : Bool) → before x x ≡ b → b ≡ false
    go true e = sym e ∙ o.one_way x x e
    go false e = refl

pub transitive : {A : Type 0} (before : A → A → Bool) (x y z : A) → IsStrictWeakOrder before → before x y ≡ true → before y z ≡ true → before x z ≡ true
transitive before x y z o h k = go (before x z) refl
  where
    go : (b : Bool) → before x z ≡ b → b ≡ true
    go true e = refl
    go false e = absurd (true≢false (sym h ∙ o.chain x z y e (o.one_way y z k)))

-- ---- lists in order
-- each member comes before those behind it
abbrev pub Rises : {A : Type 0} → (A → A → Bool) → List A → Type 0
Rises before [] = Unit {0}
Rises {A} before (x ∷ xs) = ((z : A) → Has xs z → before x z ≡ true) × Rises before xs

-- no member comes after one behind it
abbrev pub Keeps : {A : Type 0} → (A → A → Bool) → List A → Type 0
Keeps before [] = Unit {0}
Keeps {A} before (x ∷ xs) = ((z : A) → Has xs z → before z x ≡ false) × Keeps before xs

-- of two members one comes first
abbrev pub Apart : {A : Type 0} → (A → A → Bool) → List A → Type 0
Apart before [] = Unit {0}
Apart {A} before (x ∷ xs) = ((z : A) → Has xs z → (before x z ≡ true) ⊎ (before z x ≡ true)) × Apart before xs

-- ---- putting in
put_has_by : {A : Type 0} (x y : A) (ys zs : List A) (b : Bool) (z : A) → Has (cond b (x ∷ y ∷ ys) (y ∷ zs)) z → (Has zs z → (x ≡ z) ⊎ Has ys z) → (x ≡ z) ⊎ Has (y ∷ ys) z
put_has_by x y ys zs true z (inl e) go = inl e
put_has_by x y ys zs true z (inr h) go = inr h
put_has_by x y ys zs false z (inl e) go = inr (inl e)
put_has_by x y ys zs false z (inr h) go = ⊎_elim (λ (e : x ≡ z). inl e) (λ (k : Has ys z). inr (inr k)) (go h)

pub put_has : {A : Type 0} (before : A → A → Bool) (x : A) (ys : List A) (z : A) → Has (put_in before x ys) z → (x ≡ z) ⊎ Has ys z
put_has before x [] z h = h
put_has before x (y ∷ ys) z h = put_has_by x y ys (put_in before x ys) (before x y) z h (put_has before x ys z)

put_permutes_by : {A : Type 0} (x y : A) (ys zs : List A) (b : Bool) → IsPermutation (x ∷ ys) zs → IsPermutation (x ∷ y ∷ ys) (cond b (x ∷ y ∷ ys) (y ∷ zs))
put_permutes_by x y ys zs true h = IsPermutation-refl (x ∷ y ∷ ys)
put_permutes_by x y ys zs false h =
    IsPermutation-trans (x ∷ y ∷ ys) (y ∷ x ∷ ys) (y ∷ zs) (IsPermutation-sym (y ∷ x ∷ ys) (x ∷ y ∷ ys) (IsPermutation-middle (y ∷ []) x ys)) (IsPermutation-cons y (x ∷ ys) zs h)

pub put_permutes : {A : Type 0} (before : A → A → Bool) (x : A) (ys : List A) → IsPermutation (x ∷ ys) (put_in before x ys)
put_permutes before x [] = IsPermutation-refl (x ∷ [])
put_permutes before x (y ∷ ys) = put_permutes_by x y ys (put_in before x ys) (before x y) (put_permutes before x ys)

pub ordered_permutes : {A : Type 0} (before : A → A → Bool) (xs : List A) → IsPermutation xs (ordered before xs)
ordered_permutes before [] = IsPermutation-refl []
ordered_permutes before (x ∷ xs) =
    IsPermutation-trans (x ∷ xs) (x ∷ ordered before xs) (put_in before x (ordered before xs)) (IsPermutation-cons x xs (ordered before xs) (ordered_permutes before xs)) (put_permutes before x (ordered before xs))

pub ordered_has : {A : Type 0} (before : A → A → Bool) (xs : List A) (z : A) → Has (ordered before xs) z → Has xs z
ordered_has before xs z h = has_from xs z (Contains-permutation (ordered before xs) xs z (IsPermutation-sym xs (ordered before xs) (ordered_permutes before xs)) (contains_from (ordered before xs) z h))

pub has_ordered : {A : Type 0} (before : A → A → Bool) (xs : List A) (z : A) → Has xs z → Has (ordered before xs) z
has_ordered before xs z h = has_from (ordered before xs) z (Contains-permutation xs (ordered before xs) z (ordered_permutes before xs) (contains_from xs z h))

-- ---- in order
put_keeps_by : {A : Type 0} (before : A → A → Bool) (o : IsStrictWeakOrder before) (x y : A) (ys : List A) (b : Bool) → before x y ≡ b → Keeps before (y ∷ ys) → Keeps before (put_in before x ys) → Keeps before (cond b (x ∷ y ∷ ys) (y ∷ put_in before x ys))
put_keeps_by {A} before o x y ys true e h k = (behind, h)
  where
    behind : (z : A) → Has (y ∷ ys) z → before z x ≡ false
    behind z (inl q) = subst (λ w. before w x ≡ false) q (o.one_way x y e)
    behind z (inr q) = o.chain z y x (h.0 z q) (o.one_way x y e)
put_keeps_by {A} before o x y ys false e h k = (behind, k)
  where
    behind : (z : A) → Has (put_in before x ys) z → before z y ≡ false
    behind z q = ⊎_elim (λ (i : x ≡ z). subst (λ w. before w y ≡ false) i e) (λ (i : Has ys z). h.0 z i) (put_has before x ys z q)

put_keeps : {A : Type 0} (before : A → A → Bool) (o : IsStrictWeakOrder before) (x : A) (ys : List A) → Keeps before ys → Keeps before (put_in before x ys)
put_keeps before o x [] h = (λ z k. absurd k, tt)
put_keeps before o x (y ∷ ys) h = put_keeps_by before o x y ys (before x y) refl h (put_keeps before o x ys h.1)

pub ordered_keeps : {A : Type 0} (before : A → A → Bool) (o : IsStrictWeakOrder before) (xs : List A) → Keeps before (ordered before xs)
ordered_keeps before o [] = tt
ordered_keeps before o (x ∷ xs) = put_keeps before o x (ordered before xs) (ordered_keeps before o xs)

member_has : {A : Type 0} (xs : List A) (k : ℕ) (d : A) → k < length xs → Has xs (slice_index_or xs k d)
member_has [] k d l = absurd (omega arith)
member_has (x ∷ xs) zero d l = inl refl
member_has (x ∷ xs) (suc k) d l = inr (member_has xs k d (omega arith))

keeps_at : {A : Type 0} (before : A → A → Bool) (xs : List A) (k : ℕ) (d : A) → Keeps before xs → suc k < length xs → before (slice_index_or xs (suc k) d) (slice_index_or xs k d) ≡ false
keeps_at before [] k d h l = absurd (omega arith)
keeps_at before (x ∷ xs) zero d h l = h.0 (slice_index_or xs 0 d) (member_has xs 0 d (omega arith))
keeps_at before (x ∷ xs) (suc k) d h l = keeps_at before xs k d h.1 (omega arith)

pub keeps_sorted : {A : Type 0} (before : A → A → Bool) (xs : List A) → Keeps before xs → IsSortedBy before xs
keeps_sorted before xs h k d l m =
    let e : suc k ≡ k + 1 = omega arith in
    subst (λ n. before (slice_index_or xs n d) (slice_index_or xs k d) ≡ false) e (keeps_at before xs k d h (omega arith))

pub ordered_sorted : {A : Type 0} (before : A → A → Bool) (xs : List A) → IsStrictWeakOrder before → IsSortedBy before (ordered before xs)
ordered_sorted before xs o = keeps_sorted before (ordered before xs) (ordered_keeps before o xs)

sorted_tail : {A : Type 0} (before : A → A → Bool) (x : A) (xs : List A) → IsSortedBy before (x ∷ xs) → IsSortedBy before xs
sorted_tail before x xs h k d l m =
    let e : suc k + 1 ≡ suc (k + 1) = omega arith in
    subst (λ n. before (slice_index_or (x ∷ xs) n d) (slice_index_or xs k d) ≡ false) e (h (suc k) d (omega arith) (omega arith))

pub sorted_keeps : {A : Type 0} (before : A → A → Bool) (o : IsStrictWeakOrder before) (xs : List A) → IsSortedBy before xs → Keeps before xs
sorted_keeps before o [] h = tt
sorted_keeps {A} before o (x ∷ xs) h = (behind, sorted_keeps before o xs (sorted_tail before x xs h))
  where
    behind : (z : A) → Has xs z → before z x ≡ false
    behind z k = let c = contains_from xs z k in subst (λ w. before w x ≡ false) c.2 (sorted_far before o (x ∷ xs) h 0 (suc c.0) z (omega arith) (omega (arith, c.1)))

-- ---- apart
tie_apart : (a b : Bool) → (not a && not b) ≡ false → (a ≡ true) ⊎ (b ≡ true)
tie_apart true b e = inl refl
tie_apart false true e = inr refl
tie_apart false false e = absurd (cc)

pub distinct_apart : {A : Type 0} (before : A → A → Bool) (xs : List A) → IsDistinct (ties before) xs → Apart before xs
unfolding IsDistinct
distinct_apart before [] h = tt
distinct_apart before (x ∷ xs) h = (λ z k. tie_apart (before x z) (before z x) (each_has (λ y. ties before x y ≡ false) xs z h.0 k), distinct_apart before xs h.1)

pub apart_rises : {A : Type 0} (before : A → A → Bool) (xs : List A) → Keeps before xs → Apart before xs → Rises before xs
apart_rises before [] h k = tt
apart_rises before (x ∷ xs) h k = (
  λ z m. ⊎_elim (λ (e : before x z ≡ true). e) (λ (e : before z x ≡ true). absurd (true≢false (sym e ∙ h.0 z m))) (k.0 z m),
  apart_rises before xs h.1 k.1,
)

-- ---- one order
rises_rest : {A : Type 0} (before : A → A → Bool) (o : IsStrictWeakOrder before) (x y : A) (xs ys : List A) → x ≡ y → ((z : A) → Has xs z → before x z ≡ true) → ((z : A) → Has (x ∷ xs) z → Has (y ∷ ys) z) → (z : A) → Has xs z → Has ys z
rises_rest before o x y xs ys e h k z m = ⊎_elim
    (λ (i : y ≡ z). absurd (true≢false (sym (h z m) ∙ ap (λ w. before w z) (e ∙ i) ∙ irreflexive before z o)))
    (λ (i : Has ys z). i)
    (k z (inr m))

rises_head : {A : Type 0} (before : A → A → Bool) (o : IsStrictWeakOrder before) (x y : A) (xs ys : List A) → ((z : A) → Has xs z → before x z ≡ true) → ((z : A) → Has ys z → before y z ≡ true) → Has (y ∷ ys) x → Has (x ∷ xs) y → x ≡ y
rises_head before o x y xs ys h k (inl e) m = sym e
rises_head before o x y xs ys h k (inr i) (inl e) = e
rises_head before o x y xs ys h k (inr i) (inr j) = absurd (true≢false (sym (h y j) ∙ o.one_way y x (k x i)))

cons_same : {A : Type 0} (x y : A) (xs ys : List A) → x ≡ y → xs ≡ ys → x ∷ xs ≡ y ∷ ys
cons_same x y xs ys e h = ap (λ z. z ∷ xs) e ∙ ap (λ zs. y ∷ zs) h

pub rises_unique : {A : Type 0} (before : A → A → Bool) (o : IsStrictWeakOrder before) (xs ys : List A) → Rises before xs → Rises before ys → ((z : A) → Has xs z → Has ys z) → ((z : A) → Has ys z → Has xs z) → xs ≡ ys
rises_unique before o [] [] h k m n = refl
rises_unique before o [] (y ∷ ys) h k m n = absurd (n y (inl refl))
rises_unique before o (x ∷ xs) [] h k m n = absurd (m x (inl refl))
rises_unique before o (x ∷ xs) (y ∷ ys) h k m n =
    let e : x ≡ y = rises_head before o x y xs ys h.0 k.0 (m x (inl refl)) (n y (inl refl)) in
    cons_same x y xs ys e (rises_unique before o xs ys h.1 k.1 (rises_rest before o x y xs ys e h.0 m) (rises_rest before o y x ys xs (sym e) k.0 n))

and_swap : (a b : Bool) → (a && b) ≡ (b && a)
and_swap true true = refl
and_swap true false = refl
and_swap false true = refl
and_swap false false = refl

pub sorted_rises : {A : Type 0} (before : A → A → Bool) (o : IsStrictWeakOrder before) (xs ys : List A) → IsDistinct (ties before) xs → IsPermutation xs ys → IsSortedBy before ys → Rises before ys
sorted_rises before o xs ys h k m =
    apart_rises before ys (sorted_keeps before o ys m)
    (distinct_apart before ys (IsDistinct-IsPermutation (ties before) (λ x y. and_swap (not (before x y)) (not (before y x))) xs ys k h))

-- a sort's answer is `ordered`
pub ordered_is : {A : Type 0} (before : A → A → Bool) (xs ys : List A) → IsStrictWeakOrder before → IsDistinct (ties before) xs → IsPermutation xs ys → IsSortedBy before ys → ys ≡ ordered before xs
ordered_is before xs ys o h k m = rises_unique before o ys (ordered before xs)
    (sorted_rises before o xs ys h k m)
    (sorted_rises before o xs (ordered before xs) h (ordered_permutes before xs) (ordered_sorted before xs o))
    (λ z c. has_ordered before xs z (has_from xs z (Contains-permutation ys xs z (IsPermutation-sym xs ys k) (contains_from ys z c))))
    (λ z c. has_from ys z (Contains-permutation xs ys z k (contains_from xs z (ordered_has before xs z c))))

-- ---- filters and the first that passes
filter_rises_by : {A : Type 0} (before : A → A → Bool) (x : A) (xs : List A) (b : Bool) → ((z : A) → Has xs z → before x z ≡ true) → Rises before xs → Rises before (cond b (x ∷ xs) xs)
filter_rises_by before x xs true h k = (h, k)
filter_rises_by before x xs false h k = k

pub filter_rises : {A : Type 0} (before : A → A → Bool) (p : A → Bool) (xs : List A) → Rises before xs → Rises before (filter p xs)
filter_rises before p [] h = tt
filter_rises before p (x ∷ xs) h = filter_rises_by before x (filter p xs) (p x) (λ z k. h.0 z (filter_has p xs z k).0) (filter_rises before p xs h.1)

first_from : {A : Type 0} (before : A → A → Bool) (o : IsStrictWeakOrder before) (q : A → Bool) (x z k : A) (xs : List A) (b : Bool) → q x ≡ b → ((w : A) → Has xs w → before x w ≡ true) → cond b (Some x) (find q xs) ≡ Some z → Has (x ∷ xs) k → before k z ≡ true → (find q xs ≡ Some z → Has xs k → q k ≡ false) → q k ≡ false
first_from before o q x z k xs true e h i (inl m) n go = absurd (true≢false (sym n ∙ ap (before k) (sym (same_Some x z i) ∙ m) ∙ irreflexive before k o))
first_from before o q x z k xs true e h i (inr m) n go = absurd (true≢false (sym n ∙ o.one_way z k (ap (λ w. before w k) (sym (same_Some x z i)) ∙ h k m)))
first_from before o q x z k xs false e h i (inl m) n go = ap q (sym m) ∙ e
first_from before o q x z k xs false e h i (inr m) n go = go i m

-- what comes before the first that passes doesn't pass
pub before_found : {A : Type 0} (before : A → A → Bool) (o : IsStrictWeakOrder before) (q : A → Bool) (xs : List A) (z k : A) → Rises before xs → find q xs ≡ Some z → Has xs k → before k z ≡ true → q k ≡ false
before_found before o q [] z k h i m n = absurd m
before_found before o q (x ∷ xs) z k h i m n = first_from before o q x z k xs (q x) refl h.0 i m n (λ j l. before_found before o q xs z k h.1 j l n)
