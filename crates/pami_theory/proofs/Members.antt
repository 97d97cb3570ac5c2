-- Members of lists, by recursion on the list.
use Rattle.std.proofs.Common.{◌≡◌, ℕ, zero, suc, ◌+◌, ◌<◌, ◌≤◌, ◌⊎◌, inl, inr, ⊎_elim, Bool, true, false, cond, List, [], ◌∷◌, length, slice_index_or, None, Some, refl, sym, ap, ◌∙◌, subst, arith, true≢false}
use Rattle.std.specs.List.{Contains, filter, find, range_with_len, AllByRecursion}
use Rattle.std.proofs.lemmas.Bool.{cases_eq}
use Rattle.std.proofs.lemmas.Option.{none-some, same_Some}

abbrev pub Has : {A : Type 0} → List A → A → Type 0
Has [] z = ⊥
Has (x ∷ xs) z = (x ≡ z) ⊎ Has xs z

pub contains_from : {A : Type 0} (xs : List A) (z : A) → Has xs z → Contains xs z
contains_from [] z h = absurd h
contains_from (x ∷ xs) z (inl e) = (0, omega arith, e)
contains_from (x ∷ xs) z (inr h) = let c = contains_from xs z h in (suc c.0, omega (arith, c.1), c.2)

has_at : {A : Type 0} (xs : List A) (z : A) (k : ℕ) → k < length xs → slice_index_or xs k z ≡ z → Has xs z
has_at [] z k l e = absurd (omega arith)
has_at (x ∷ xs) z zero l e = inl e
has_at (x ∷ xs) z (suc k) l e = inr (has_at xs z k (omega arith) e)

pub has_from : {A : Type 0} (xs : List A) (z : A) → Contains xs z → Has xs z
has_from xs z c = has_at xs z c.0 c.1 c.2

pub each_has : {A : Type 0} (P : A → Type 0) (xs : List A) (z : A) → AllByRecursion P xs → Has xs z → P z
each_has P [] z h k = absurd k
each_has P (x ∷ xs) z h (inl e) = subst P e h.0
each_has P (x ∷ xs) z h (inr k) = each_has P xs z h.1 k

-- ---- filters
cases : (b : Bool) → (b ≡ true) ⊎ (b ≡ false)
cases true = inl refl
cases false = inr refl

pub true_or_false : (b : Bool) → (b ≡ true) ⊎ (b ≡ false)
true_or_false b = cases b

has_kept : {A : Type 0} (p : A → Bool) (x : A) (xs : List A) (z : A) (b : Bool) → p x ≡ b → (Has (filter p xs) z → Has xs z × (p z ≡ true)) → Has (cond b (x ∷ filter p xs) (filter p xs)) z → Has (x ∷ xs) z × (p z ≡ true)
has_kept p x xs z true e go (inl h) = (inl h, ap p (sym h) ∙ e)
has_kept p x xs z true e go (inr h) = let k = go h in (inr k.0, k.1)
has_kept p x xs z false e go h = let k = go h in (inr k.0, k.1)

pub filter_has : {A : Type 0} (p : A → Bool) (xs : List A) (z : A) → Has (filter p xs) z → Has xs z × (p z ≡ true)
filter_has p [] z h = absurd h
filter_has p (x ∷ xs) z h = has_kept p x xs z (p x) refl (filter_has p xs z) h

kept_head : {A : Type 0} (p : A → Bool) (x : A) (xs : List A) (z : A) (b : Bool) → p x ≡ b → x ≡ z → p z ≡ true → Has (cond b (x ∷ filter p xs) (filter p xs)) z
kept_head p x xs z true e h k = inl h
kept_head p x xs z false e h k = absurd (true≢false (sym k ∙ ap p (sym h) ∙ e))

kept_tail : {A : Type 0} (x : A) (xs : List A) (z : A) (b : Bool) → Has xs z → Has (cond b (x ∷ xs) xs) z
kept_tail x xs z true h = inr h
kept_tail x xs z false h = h

pub has_filter : {A : Type 0} (p : A → Bool) (xs : List A) (z : A) → Has xs z → p z ≡ true → Has (filter p xs) z
has_filter p [] z h k = absurd h
has_filter p (x ∷ xs) z (inl e) k = kept_head p x xs z (p x) refl e k
has_filter p (x ∷ xs) z (inr h) k = kept_tail x (filter p xs) z (p x) (has_filter p xs z h k)

-- ---- the numbers from a on
pub range_has : (a n v : ℕ) → Has (range_with_len a n) v → (a ≤ v) × (v < a + n)
range_has a zero v h = absurd h
range_has a (suc n) v (inl e) = (omega arith, omega arith)
range_has a (suc n) v (inr h) = let k = range_has (a + 1) n v h in (omega (arith, k.0), omega (arith, k.1))

pub has_range : (a n v : ℕ) → a ≤ v → v < a + n → Has (range_with_len a n) v
has_range a zero v l m = absurd (omega arith)
has_range a (suc n) v l m = ⊎_elim
    (λ (e : a ≡ v). inl e)
    (λ (k : ¬ (a ≡ v)). inr (has_range (a + 1) n v (omega arith) (omega arith)))
    (cases_eq a v)

-- ---- the first that passes
found_from : {A : Type 0} (p : A → Bool) (x : A) (xs : List A) (z : A) (b : Bool) → p x ≡ b → (find p xs ≡ Some z → Has xs z × (p z ≡ true)) → cond b (Some x) (find p xs) ≡ Some z → Has (x ∷ xs) z × (p z ≡ true)
found_from p x xs z true e go h = let k : x ≡ z = same_Some x z h in (inl k, ap p (sym k) ∙ e)
found_from p x xs z false e go h = let k = go h in (inr k.0, k.1)

pub found_has : {A : Type 0} (p : A → Bool) (xs : List A) (z : A) → find p xs ≡ Some z → Has xs z × (p z ≡ true)
found_has p [] z h = absurd (none-some z h)
found_has p (x ∷ xs) z h = found_from p x xs z (p x) refl (found_has p xs z) h

none_from : {A : Type 0} (p : A → Bool) (x : A) (xs : List A) (z : A) (b : Bool) → p x ≡ b → (find p xs ≡ None → Has xs z → p z ≡ false) → cond b (Some x) (find p xs) ≡ None → Has (x ∷ xs) z → p z ≡ false
none_from p x xs z true e go h k = absurd (none-some x (sym h))
none_from p x xs z false e go h (inl k) = ap p (sym k) ∙ e
none_from p x xs z false e go h (inr k) = go h k

pub none_found : {A : Type 0} (p : A → Bool) (xs : List A) (z : A) → find p xs ≡ None → Has xs z → p z ≡ false
none_found p [] z h k = absurd k
none_found p (x ∷ xs) z h k = none_from p x xs z (p x) refl (none_found p xs z) h k
