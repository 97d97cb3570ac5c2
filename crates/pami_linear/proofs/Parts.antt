-- Sums and counts over flags.
use Rattle.std.proofs.Common.{◌≡◌, ℕ, zero, suc, ◌+◌, ◌<◌, ◌≤◌, [], ◌∷◌, refl, sym, ap, ◌∙◌, subst, arith, Bool, true, false, cond, ⊎_elim}
use Rattle.std.proofs.lemmas.Bool.{cases_lt}
use lib.IntN.{pos}
use lib.Dec.{T, eqb, eqb→eq, eqb_refl}
use Rattle.pami_algebra.specs.Fraction.{Fraction}
use Rattle.pami_algebra.specs.Ring.{var, t0, t1, ◌⊕◌, ◌⊗◌, ⊖}
use Rattle.pami_algebra.specs.Operations.{◌+ᶠ◌, ◌*ᶠ◌, neg_f, of_int}
use Rattle.pami_linear.specs.Sums.{unit}
use Rattle.pami_algebra.proofs.Laws.{by_ring_f}
use Rattle.pami_linear.proofs.Sums.{sum_same, sum_add, sum_none, sum_unit}
use Rattle.pami_linear.specs.Active.{part, less_if, minus_to, but, one_if, count, set_at}

-- ---- flags
pub but_in : (p g : ℕ) (a : ℕ → Bool) → T (but p a g) → T (a g)
but_in p g a = go (eqb p g)
  where
    go : (t : Bool) → T (cond t false (a g)) → T (a g)
    go true h = absurd h
    go false h = h

pub but_ne : (p g : ℕ) (a : ℕ → Bool) → T (but p a g) → ¬ (p ≡ g)
but_ne p g a h e = go (eqb p g) (subst (λ n. T (eqb p n)) e (eqb_refl p)) h
  where
    go : (t : Bool) → T t → T (cond t false (a g)) → ⊥
    go true x h = h
    go false x h = x

pub but_from : (p g : ℕ) (a : ℕ → Bool) → T (a g) → ¬ (p ≡ g) → T (but p a g)
but_from p g a h n = go (eqb p g) (eqb→eq p g)
  where
    go : (t : Bool) → (T t → p ≡ g) → T (cond t false (a g))
    go true e = absurd (n (e tt))
    go false e = h

pub set_same : (p : ℕ) (v : Fraction) (x : ℕ → Fraction) → set_at p v x p ≡ v
set_same p v x = go (eqb p p) (eqb_refl p)
  where
    go : (t : Bool) → T t → cond t v (x p) ≡ v
    go true h = refl
    go false h = absurd h

pub set_other : (p g : ℕ) (v : Fraction) (x : ℕ → Fraction) → ¬ (p ≡ g) → set_at p v x g ≡ x g
set_other p g v x n = go (eqb p g) (eqb→eq p g)
  where
    go : (t : Bool) → (T t → p ≡ g) → cond t v (x g) ≡ x g
    go true e = absurd (n (e tt))
    go false e = refl

-- ---- sums
cond_same : (t : Bool) (x y : Fraction) → (T t → x ≡ y) → cond t x (of_int (pos 0)) ≡ cond t y (of_int (pos 0))
cond_same true x y h = h tt
cond_same false x y h = refl

pub part_same : (m : ℕ) (a : ℕ → Bool) (f g : ℕ → Fraction) → ((k : ℕ) → k < m → T (a k) → f k ≡ g k) → part m a f ≡ part m a g
part_same m a f g h = sum_same m (λ k. cond (a k) (f k) (of_int (pos 0))) (λ k. cond (a k) (g k) (of_int (pos 0))) (λ k l. cond_same (a k) (f k) (g k) (h k l))

cond_none : (t : Bool) (x : Fraction) → (T t → x ≡ of_int (pos 0)) → cond t x (of_int (pos 0)) ≡ of_int (pos 0)
cond_none true x h = h tt
cond_none false x h = refl

pub part_none : (m : ℕ) (a : ℕ → Bool) (f : ℕ → Fraction) → ((k : ℕ) → k < m → T (a k) → f k ≡ of_int (pos 0)) → part m a f ≡ of_int (pos 0)
part_none m a f h = sum_none m (λ k. cond (a k) (f k) (of_int (pos 0))) (λ k l. cond_none (a k) (f k) (h k l))

cond_split : (t s : Bool) (x : Fraction) → (T t → T s) → cond s x (of_int (pos 0)) ≡ cond t (of_int (pos 1)) (of_int (pos 0)) *ᶠ x +ᶠ cond (cond t false s) x (of_int (pos 0))
cond_split true true x h = by_ring_f (x ∷ []) (var 0) (t1 ⊗ var 0 ⊕ t0) refl
cond_split true false x h = absurd (h tt)
cond_split false true x h = by_ring_f (x ∷ []) (var 0) (t0 ⊗ var 0 ⊕ var 0) refl
cond_split false false x h = by_ring_f (x ∷ []) t0 (t0 ⊗ var 0 ⊕ t0) refl

-- the sum, with one member taken out
pub part_but : (m p : ℕ) (a : ℕ → Bool) (f : ℕ → Fraction) → p < m → T (a p) → part m a f ≡ f p +ᶠ part m (but p a) f
part_but m p a f l h =
    sum_same m (λ k. cond (a k) (f k) (of_int (pos 0))) (λ k. unit p k *ᶠ f k +ᶠ cond (but p a k) (f k) (of_int (pos 0)))
    (λ k j. cond_split (eqb p k) (a k) (f k) (λ t. subst (λ n. T (a n)) (eqb→eq p k t) h))
    ∙ sum_add m (λ k. unit p k *ᶠ f k) (λ k. cond (but p a k) (f k) (of_int (pos 0)))
    ∙ ap (λ z. z +ᶠ part m (but p a) f) (sum_unit m p f l)

cond_combine : (t : Bool) (s s' u v x k : Fraction) →
    (s +ᶠ neg_f (k *ᶠ s')) +ᶠ cond t ((u +ᶠ neg_f (k *ᶠ v)) *ᶠ x) (of_int (pos 0)) ≡ (s +ᶠ cond t (u *ᶠ x) (of_int (pos 0))) +ᶠ neg_f (k *ᶠ (s' +ᶠ cond t (v *ᶠ x) (of_int (pos 0))))
cond_combine true s s' u v x k =
    by_ring_f (s ∷ s' ∷ u ∷ v ∷ x ∷ k ∷ [])
    ((var 0 ⊕ ⊖ (var 5 ⊗ var 1)) ⊕ (var 2 ⊕ ⊖ (var 5 ⊗ var 3)) ⊗ var 4)
    ((var 0 ⊕ var 2 ⊗ var 4) ⊕ ⊖ (var 5 ⊗ (var 1 ⊕ var 3 ⊗ var 4))) refl
cond_combine false s s' u v x k =
    by_ring_f (s ∷ s' ∷ k ∷ []) ((var 0 ⊕ ⊖ (var 2 ⊗ var 1)) ⊕ t0) ((var 0 ⊕ t0) ⊕ ⊖ (var 2 ⊗ (var 1 ⊕ t0))) refl

pub part_combine : (m : ℕ) (a : ℕ → Bool) (u v x : ℕ → Fraction) (k : Fraction) →
    part m a (λ g. (u g +ᶠ neg_f (k *ᶠ v g)) *ᶠ x g) ≡ part m a (λ g. u g *ᶠ x g) +ᶠ neg_f (k *ᶠ part m a (λ g. v g *ᶠ x g))
part_combine zero a u v x k = by_ring_f (k ∷ []) t0 (t0 ⊕ ⊖ (var 0 ⊗ t0)) refl
part_combine (suc m) a u v x k =
    ap (λ z. z +ᶠ cond (a m) ((u m +ᶠ neg_f (k *ᶠ v m)) *ᶠ x m) (of_int (pos 0))) (part_combine m a u v x k)
    ∙ cond_combine (a m) (part m a (λ g. u g *ᶠ x g)) (part m a (λ g. v g *ᶠ x g)) (u m) (v m) (x m) k

cond_across : (t : Bool) (s s' v u l k : Fraction) →
    (s +ᶠ neg_f (s' *ᶠ k)) +ᶠ cond t (v *ᶠ (u +ᶠ neg_f (l *ᶠ k))) (of_int (pos 0)) ≡ (s +ᶠ cond t (v *ᶠ u) (of_int (pos 0))) +ᶠ neg_f ((s' +ᶠ cond t (l *ᶠ v) (of_int (pos 0))) *ᶠ k)
cond_across true s s' v u l k =
    by_ring_f (s ∷ s' ∷ v ∷ u ∷ l ∷ k ∷ [])
    ((var 0 ⊕ ⊖ (var 1 ⊗ var 5)) ⊕ var 2 ⊗ (var 3 ⊕ ⊖ (var 4 ⊗ var 5)))
    ((var 0 ⊕ var 2 ⊗ var 3) ⊕ ⊖ ((var 1 ⊕ var 4 ⊗ var 2) ⊗ var 5)) refl
cond_across false s s' v u l k =
    by_ring_f (s ∷ s' ∷ k ∷ []) ((var 0 ⊕ ⊖ (var 1 ⊗ var 2)) ⊕ t0) ((var 0 ⊕ t0) ⊕ ⊖ ((var 1 ⊕ t0) ⊗ var 2)) refl

pub part_across : (m : ℕ) (a : ℕ → Bool) (v u l : ℕ → Fraction) (k : Fraction) →
    part m a (λ h. v h *ᶠ (u h +ᶠ neg_f (l h *ᶠ k))) ≡ part m a (λ h. v h *ᶠ u h) +ᶠ neg_f (part m a (λ h. l h *ᶠ v h) *ᶠ k)
part_across zero a v u l k = by_ring_f (k ∷ []) t0 (t0 ⊕ ⊖ (t0 ⊗ var 0)) refl
part_across (suc m) a v u l k =
    ap (λ z. z +ᶠ cond (a m) (v m *ᶠ (u m +ᶠ neg_f (l m *ᶠ k))) (of_int (pos 0))) (part_across m a v u l k)
    ∙ cond_across (a m) (part m a (λ h. v h *ᶠ u h)) (part m a (λ h. l h *ᶠ v h)) (v m) (u m) (l m) k

less_is : (t : Bool) (x s y : Fraction) → less_if t (x +ᶠ neg_f s) y ≡ x +ᶠ neg_f (s +ᶠ cond t y (of_int (pos 0)))
less_is true x s y = by_ring_f (x ∷ s ∷ y ∷ []) (var 0 ⊕ ⊖ (var 1) ⊕ ⊖ (var 2)) (var 0 ⊕ ⊖ (var 1 ⊕ var 2)) refl
less_is false x s y = by_ring_f (x ∷ s ∷ []) (var 0 ⊕ ⊖ (var 1)) (var 0 ⊕ ⊖ (var 1 ⊕ t0)) refl

-- one after another is the sum at once
pub minus_is : (m : ℕ) (a : ℕ → Bool) (f : ℕ → Fraction) (t : Fraction) → minus_to m a f t ≡ t +ᶠ neg_f (part m a f)
minus_is zero a f t = by_ring_f (t ∷ []) (var 0) (var 0 ⊕ ⊖ t0) refl
minus_is (suc m) a f t = ap (λ z. less_if (a m) z (f m)) (minus_is m a f t) ∙ less_is (a m) t (part m a f) (f m)

-- ---- counts
pub count_same : (m : ℕ) (a b : ℕ → Bool) → ((k : ℕ) → k < m → a k ≡ b k) → count m a ≡ count m b
count_same zero a b h = refl
count_same (suc m) a b h = ap (λ z. one_if z + count m a) (h m (omega arith)) ∙ ap (λ z. one_if (b m) + z) (count_same m a b (λ k l. h k (omega arith)))

but_same : (p k : ℕ) (a : ℕ → Bool) → ¬ (p ≡ k) → but p a k ≡ a k
but_same p k a n = go (eqb p k) (eqb→eq p k)
  where
    go : (t : Bool) → (T t → p ≡ k) → cond t false (a k) ≡ a k
    go true e = absurd (n (e tt))
    go false e = refl

one_at : (t : Bool) → T t → one_if t ≡ 1
one_at true h = refl
one_at false h = absurd h

one_out : (p : ℕ) (a : ℕ → Bool) → one_if (but p a p) ≡ 0
one_out p a = go (eqb p p) (eqb_refl p)
  where
    go : (t : Bool) → T t → one_if (cond t false (a p)) ≡ 0
    go true h = refl
    go false h = absurd h

pub count_but : (m p : ℕ) (a : ℕ → Bool) → p < m → T (a p) → count m a ≡ suc (count m (but p a))
count_but zero p a l h = absurd (omega arith)
count_but (suc m) p a l h = ⊎_elim
    (λ (j : p < m).
    let e : count m a ≡ suc (count m (but p a)) = count_but m p a j h in
    let f : one_if (but p a m) ≡ one_if (a m) = ap one_if (but_same p m a (omega arith)) in
    omega arith)
    (λ (j : m ≤ p).
    let e : p ≡ m = omega arith in
    let f : one_if (a m) ≡ 1 = ap (λ k. one_if (a k)) (sym e) ∙ one_at (a p) h in
    let g : one_if (but p a m) ≡ 0 = ap (λ k. one_if (but p a k)) (sym e) ∙ one_out p a in
    let i : count m a ≡ count m (but p a) = count_same m a (but p a) (λ k d. sym (but_same p k a (omega arith))) in
    omega arith)
    (cases_lt p m)

pub count_none : (m : ℕ) (a : ℕ → Bool) → count m a ≡ 0 → (k : ℕ) → k < m → T (a k) → ⊥
count_none m a e k l h = let f : count m a ≡ suc (count m (but k a)) = count_but m k a l h in omega arith

pub count_all : (m : ℕ) → count m (λ k. true) ≡ m
count_all zero = refl
count_all (suc m) = let e : count m (λ k. true) ≡ m = count_all m in omega arith

some_by : (m n : ℕ) (a : ℕ → Bool) (t : Bool) → a m ≡ t → one_if (a m) + count m a ≡ suc n → (count m a ≡ suc n → (k : ℕ) × (k < m) × T (a k)) → (k : ℕ) × (k < suc m) × T (a k)
some_by m n a true f e next = (m, omega arith, subst T (sym f) tt)
some_by m n a false f e next =
    let g : one_if (a m) ≡ 0 = ap one_if f in
    let r = next (omega arith) in
    (r.0, let l : r.0 < m = r.1 in omega arith, r.2)

pub count_some : (m n : ℕ) (a : ℕ → Bool) → count m a ≡ suc n → (k : ℕ) × (k < m) × T (a k)
count_some zero n a e = absurd (omega arith)
count_some (suc m) n a e = some_by m n a (a m) refl e (count_some m n a)
