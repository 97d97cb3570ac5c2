-- The entries of a column in the order of their rows.
use Rattle.std.proofs.Common.{◌≡◌, ◌≢◌, ◌≤◌, ◌<◌, ℕ, suc, zero, Bool, true, false, List, [], ◌∷◌, ◌++◌, cond, nat_eq, nat_lt, length, Some, slice_get, fold, refl, sym, ap, subst, arith, ◌⊎◌, inl, inr, ⊎_elim, get_or, append-nil, if◌then◌else◌}
use borrow.Author.Tests.{ltb-true, ltb-false}
use Rattle.std.proofs.lemmas.Bool.{eq-eqb, ne_eqb}
use Rattle.std.specs.List.{All, sum_by}
use Rattle.std.specs.List.Sorted.{IsPermutation, IsNonDecreasingBy}
use Rattle.std.proofs.lemmas.List.Elements.{All-nil, All-cons, All-head, All-tail, All-weaker}
use Rattle.std.proofs.lemmas.List.Sorted.{IsPermutation-refl, IsPermutation-sym, IsPermutation-trans, IsPermutation-cons, IsPermutation-middle, IsPermutation-append_left, All-permutation, sum_by-IsPermutation, length_permutation}
use Rattle.std.proofs.lemmas.List.Sums.{sum_by-cons}
use Rattle.pami_frac.specs.declared.list.Entry.{Entry}
use Rattle.pami_model.specs.Rules.{IsRising}
use Rattle.pami_model.specs.Draft.{placed, by_row}
use Rattle.pami_model.specs.Build.{IsApart}

-- ---- by_row moves entries
placed-permutation : (e : Entry) (xs : List Entry) → IsPermutation (e ∷ xs) (placed e xs)
placed-permutation e [] = IsPermutation-refl (e ∷ [])
placed-permutation e (x ∷ xs) = by (nat_lt x.place e.place) (placed-permutation e xs)
  where
    by : (b : Bool) → IsPermutation (e ∷ xs) (placed e xs) → IsPermutation (e ∷ x ∷ xs) (if b then x ∷ placed e xs else e ∷ x ∷ xs)
    by true h = IsPermutation-trans _ _ _ (IsPermutation-middle (e ∷ []) x xs) (IsPermutation-cons x (e ∷ xs) (placed e xs) h)
    by false h = IsPermutation-refl (e ∷ x ∷ xs)

fold-permutation : (sorted xs : List Entry) → IsPermutation (sorted ++ xs) (fold (λ sorted e. placed e sorted) sorted xs)
fold-permutation sorted [] = subst (λ ys. IsPermutation ys sorted) (sym (append-nil sorted)) (IsPermutation-refl sorted)
fold-permutation sorted (x ∷ xs) =
    IsPermutation-trans _ _ _ (IsPermutation-middle sorted x xs)
    (IsPermutation-trans _ _ _ (IsPermutation-append_left xs (x ∷ sorted) (placed x sorted) (placed-permutation x sorted)) (fold-permutation (placed x sorted) xs))

pub by_row-permutation : (xs : List Entry) → IsPermutation xs (by_row xs)
by_row-permutation xs = fold-permutation [] xs

pub length-by_row : (xs : List Entry) → length (by_row xs) ≡ length xs
length-by_row xs = length_permutation xs (by_row xs) (by_row-permutation xs)

-- ---- by_row sorts
abbrev Up : List Entry → Type 0
Up [] = Unit {0}
Up (x ∷ xs) = All (λ (y : Entry). x.place ≤ y.place) xs × Up xs

placed-up : (e : Entry) (xs : List Entry) → Up xs → Up (placed e xs)
placed-up e [] h = (All-nil _, tt)
placed-up e (x ∷ xs) h = by (nat_lt x.place e.place) refl (placed-up e xs h.1)
  where
    by : (b : Bool) → nat_lt x.place e.place ≡ b → Up (placed e xs) → Up (if b then x ∷ placed e xs else e ∷ x ∷ xs)
    by true t up =
        let below : x.place < e.place = ltb-true _ _ t in
        (All-permutation (λ (y : Entry). x.place ≤ y.place) (e ∷ xs) (placed e xs) (placed-permutation e xs) (All-cons (λ (y : Entry). x.place ≤ y.place) e xs (omega arith) h.0), up)
    by false t up =
        let above : e.place ≤ x.place = ltb-false _ _ t in
        (All-cons (λ (y : Entry). e.place ≤ y.place) x xs above (All-weaker (λ (y : Entry). x.place ≤ y.place) (λ (y : Entry). e.place ≤ y.place) (λ y w. omega arith) xs h.0), h)

fold-up : (sorted xs : List Entry) → Up sorted → Up (fold (λ sorted e. placed e sorted) sorted xs)
fold-up sorted [] h = h
fold-up sorted (x ∷ xs) h = fold-up (placed x sorted) xs (placed-up x sorted h)

up-from_sort : (xs : List Entry) → IsNonDecreasingBy (λ (e : Entry). e.place) xs → Up xs
up-from_sort [] h = tt
up-from_sort (x ∷ xs) h = ((λ k d lt. h 0 (suc k) d (omega arith) (omega arith)), up-from_sort xs (λ i j d le lt. h (suc i) (suc j) d (omega arith) (omega arith)))

-- ---- no two entries at one row
abbrev hits : ℕ → Entry → ℕ
hits r e = cond (nat_eq e.place r) 1 0

abbrev count : ℕ → List Entry → ℕ
count r xs = sum_by (hits r) xs

hits-same : (r : ℕ) (e : Entry) → e.place ≡ r → hits r e ≡ 1
hits-same r e same = ap (λ b. cond b 1 0) (eq-eqb e.place r same)

hits-other : (r : ℕ) (e : Entry) → (e.place ≡ r → ⊥) → hits r e ≡ 0
hits-other r e other = ap (λ b. cond b 1 0) (ne_eqb e.place r other)

count-none : (r : ℕ) (xs : List Entry) → All (λ (e : Entry). r ≢ e.place) xs → count r xs ≡ 0
count-none r [] h = refl
count-none r (x ∷ xs) h =
    let first = hits-other r x (λ e. All-head (λ (e : Entry). r ≢ e.place) x xs h (sym e)) in
    let rest = count-none r xs (All-tail (λ (e : Entry). r ≢ e.place) x xs h) in
    omega (arith, sum_by-cons (hits r) x xs)

same_or_not : (m n : ℕ) → (m ≡ n) ⊎ (m ≢ n)
same_or_not m n = by (nat_eq m n) refl
  where
    by : (b : Bool) → nat_eq m n ≡ b → (m ≡ n) ⊎ (m ≢ n)
    by true t = inl (Rattle.std.proofs.lemmas.Bool.eqb-true m n t)
    by false t = inr (Rattle.std.proofs.lemmas.Bool.eqb-false m n t)

count-apart : (r : ℕ) (xs : List Entry) → IsApart xs → count r xs ≤ 1
count-apart r [] h = omega arith
count-apart r (x ∷ xs) h = ⊎_elim
    (λ same. omega (arith, sum_by-cons (hits r) x xs, hits-same r x same, count-none r xs (subst (λ n. All (λ (e : Entry). n ≢ e.place) xs) same h.0)))
    (λ other. omega (arith, sum_by-cons (hits r) x xs, hits-other r x other, count-apart r xs h.1))
    (same_or_not x.place r)

none-count : (r : ℕ) (xs : List Entry) → count r xs ≡ 0 → All (λ (e : Entry). r ≢ e.place) xs
none-count r [] h = All-nil _
none-count r (x ∷ xs) h =
    let more = sum_by-cons (hits r) x xs in
    let rest : count r xs ≡ 0 = omega arith in
    let first : r ≢ x.place = λ e. absurd (omega (arith, hits-same r x (sym e))) in
    All-cons (λ (e : Entry). r ≢ e.place) x xs first (none-count r xs rest)

-- ---- each entry at a greater row than those before it
abbrev pub Rise : List Entry → Type 0
Rise [] = Unit {0}
Rise (x ∷ xs) = All (λ (y : Entry). x.place < y.place) xs × Rise xs

rise : (xs : List Entry) → Up xs → ((r : ℕ) → count r xs ≤ 1) → Rise xs
rise [] up one = tt
rise (x ∷ xs) up one =
    let here = one x.place in
    let none : count x.place xs ≡ 0 = omega (arith, sum_by-cons (hits x.place) x xs, hits-same x.place x refl) in
    let other = none-count x.place xs none in
    let rest : (r : ℕ) → count r xs ≤ 1 = λ r. omega (arith, one r, sum_by-cons (hits r) x xs) in
    ((λ k d lt. let a = up.0 k d lt in let b = other k d lt in omega arith), rise xs up.1 rest)

rise-permutation : (xs ys : List Entry) → IsApart xs → IsPermutation xs ys → Up ys → Rise ys
rise-permutation xs ys apart moves up = rise ys up (λ r. omega (arith, sum_by-IsPermutation (hits r) xs ys moves, count-apart r xs apart))

pub by_row-rise : (xs : List Entry) → IsApart xs → Rise (by_row xs)
by_row-rise xs apart = rise-permutation xs (by_row xs) apart (by_row-permutation xs) (fold-up [] xs tt)

All-at : (P : Entry → Type 0) (xs : List Entry) (j : ℕ) (f : Entry) → All P xs → slice_get xs j ≡ Some f → P f
All-at P [] j f h e = absurd cc
All-at P (x ∷ xs) zero f h e = let same : x ≡ f = cc in subst P same (All-head P x xs h)
All-at P (x ∷ xs) (suc j) f h e = All-at P xs j f (All-tail P x xs h) e

pub rising : (xs : List Entry) → Rise xs → IsRising xs
rising [] h i j e f a b lt = absurd cc
rising (x ∷ xs) h zero zero e f a b lt = absurd (omega arith)
rising (x ∷ xs) h zero (suc j) e f a b lt = let same : x ≡ e = cc in subst (λ (z : Entry). z.place < f.place) same (All-at (λ (y : Entry). x.place < y.place) xs j f h.0 b)
rising (x ∷ xs) h (suc i) zero e f a b lt = absurd (omega arith)
rising (x ∷ xs) h (suc i) (suc j) e f a b lt = rising xs h.1 i j e f a b (omega arith)

-- ---- lists that rise and have the same members are one list
abbrev In : Entry → List Entry → Type 0
In z [] = ⊥
In z (x ∷ xs) = (z ≡ x) ⊎ In z xs

in_itself : (xs : List Entry) → All (λ z. In z xs) xs
in_itself [] = All-nil _
in_itself (x ∷ xs) = All-cons (λ z. In z (x ∷ xs)) x xs (inl refl) (All-weaker (λ z. In z xs) (λ z. In z (x ∷ xs)) (λ z w. inr w) xs (in_itself xs))

in_all : (P : Entry → Type 0) (xs : List Entry) (z : Entry) → All P xs → In z xs → P z
in_all P [] z h w = absurd w
in_all P (x ∷ xs) z h (inl e) = subst P (sym e) (All-head P x xs h)
in_all P (x ∷ xs) z h (inr w) = in_all P xs z (All-tail P x xs h) w

heads : (x y : Entry) (xs ys : List Entry) → Rise (x ∷ xs) → Rise (y ∷ ys) → In x (y ∷ ys) → In y (x ∷ xs) → x ≡ y
heads x y xs ys a b (inl e) w = e
heads x y xs ys a b (inr v) (inl e) = sym e
heads x y xs ys a b (inr v) (inr w) = let p = in_all (λ (z : Entry). y.place < z.place) ys x b.0 v in let q = in_all (λ (z : Entry). x.place < z.place) xs y a.0 w in absurd (omega arith)

tails : (x y : Entry) (xs ys : List Entry) → x ≡ y → All (λ (z : Entry). x.place < z.place) xs → All (λ z. In z (y ∷ ys)) xs → All (λ z. In z ys) xs
tails x y xs ys same above h k d lt = by (get_or xs k d) (above k d lt) (h k d lt)
  where
    by : (z : Entry) → x.place < z.place → In z (y ∷ ys) → In z ys
    by z p (inl e) = absurd (omega (arith, ap (λ (v : Entry). v.place) e, ap (λ (v : Entry). v.place) same))
    by z p (inr w) = w

one_list : (xs ys : List Entry) → Rise xs → Rise ys → All (λ z. In z ys) xs → All (λ z. In z xs) ys → xs ≡ ys
one_list [] [] a b p q = refl
one_list [] (y ∷ ys) a b p q = absurd (All-head (λ z. In z []) y ys q)
one_list (x ∷ xs) [] a b p q = absurd (All-head (λ z. In z []) x xs p)
one_list (x ∷ xs) (y ∷ ys) a b p q =
    let same = heads x y xs ys a b (All-head (λ z. In z (y ∷ ys)) x xs p) (All-head (λ z. In z (x ∷ xs)) y ys q) in
    let rest = one_list xs ys a.1 b.1 (tails x y xs ys same a.0 (All-tail (λ z. In z (y ∷ ys)) x xs p)) (tails y x ys xs (sym same) b.0 (All-tail (λ z. In z (x ∷ xs)) y ys q)) in
    λ i. same i ∷ rest i

-- a sort by row of entries at different rows is by_row of them
pub sorted-by_row : (xs ys : List Entry) → IsApart xs → IsPermutation xs ys → IsNonDecreasingBy (λ (e : Entry). e.place) ys → ys ≡ by_row xs
sorted-by_row xs ys apart moves up =
    let zs = by_row xs in
    let to = by_row-permutation xs in
    let between = IsPermutation-trans ys xs zs (IsPermutation-sym xs ys moves) to in
    one_list ys zs (rise-permutation xs ys apart moves (up-from_sort ys up)) (by_row-rise xs apart)
    (All-permutation (λ z. In z zs) zs ys (IsPermutation-sym ys zs between) (in_itself zs))
    (All-permutation (λ z. In z ys) ys zs between (in_itself ys))
