-- Sums of fractions, scalar products and unit vectors: equations first, then the order.
use Rattle.std.proofs.Common.{◌≡◌, ℕ, zero, suc, ◌+◌, ◌<◌, ◌≤◌, [], ◌∷◌, refl, sym, ap, ◌∙◌, arith, Bool, true, false, cond, ⊎_elim}
use Rattle.std.proofs.lemmas.Bool.{cases_lt}
use lib.IntN.{pos}
use lib.Dec.{T, eqb, eqb→eq, eqb_refl}
use Rattle.pami_algebra.specs.Fraction.{Fraction}
use Rattle.pami_algebra.specs.Ring.{var, t0, ◌⊕◌, ◌⊗◌, ⊖}
use Rattle.pami_algebra.specs.Operations.{◌+ᶠ◌, ◌*ᶠ◌, ◌-ᶠ◌, neg_f, of_int, ◌≤ᶠ◌, ◌<ᶠ◌}
use Rattle.pami_algebra.proofs.Laws.{by_ring_f, add_nil_f, add_assoc_f, mul_comm_f, mul_assoc_f}
use Rattle.pami_algebra.proofs.Field.{nil_mul_f, one_mul_f, nil_add_f, neg_nil_f}
use Rattle.pami_algebra.proofs.Order.{le_refl_f, le_trans_f, le_antisymm_f}
use Rattle.pami_algebra.proofs.Bounds.{le_by, le_moved_f, add_nonneg_f}
use Rattle.pami_algebra.proofs.Products.{add_le_both_f}
use Rattle.pami_algebra.proofs.Strict.{lt_le_trans_f}
use Rattle.pami_linear.specs.Sums.{sum_to, dot, unit}

-- ---- sums, term by term
-- equal terms give equal sums
pub sum_same : (n : ℕ) (f g : ℕ → Fraction) → ((i : ℕ) → i < n → f i ≡ g i) → sum_to n f ≡ sum_to n g
sum_same zero f g h = refl
sum_same (suc n) f g h = ap (λ z. z +ᶠ f n) (sum_same n f g (λ i l. h i (omega arith))) ∙ ap (λ z. sum_to n g +ᶠ z) (h n (omega arith))

-- terms that are all 0 give 0
pub sum_none : (n : ℕ) (f : ℕ → Fraction) → ((i : ℕ) → i < n → f i ≡ of_int (pos 0)) → sum_to n f ≡ of_int (pos 0)
sum_none zero f h = refl
sum_none (suc n) f h = ap (λ z. z +ᶠ f n) (sum_none n f (λ i l. h i (omega arith))) ∙ ap (λ z. of_int (pos 0) +ᶠ z) (h n (omega arith)) ∙ add_nil_f (of_int (pos 0))

pub sum_zero : (n : ℕ) → sum_to n (λ i. of_int (pos 0)) ≡ of_int (pos 0)
sum_zero n = sum_none n (λ i. of_int (pos 0)) (λ i l. refl)

-- ---- sums of sums, negations and multiples
pub sum_add : (n : ℕ) (f g : ℕ → Fraction) → sum_to n (λ i. f i +ᶠ g i) ≡ sum_to n f +ᶠ sum_to n g
sum_add zero f g = sym (add_nil_f (of_int (pos 0)))
sum_add (suc n) f g =
    ap (λ z. z +ᶠ (f n +ᶠ g n)) (sum_add n f g)
    ∙ by_ring_f (sum_to n f ∷ sum_to n g ∷ f n ∷ g n ∷ []) (var 0 ⊕ var 1 ⊕ (var 2 ⊕ var 3)) (var 0 ⊕ var 2 ⊕ (var 1 ⊕ var 3)) refl

pub sum_neg : (n : ℕ) (f : ℕ → Fraction) → sum_to n (λ i. neg_f (f i)) ≡ neg_f (sum_to n f)
sum_neg zero f = sym neg_nil_f
sum_neg (suc n) f = ap (λ z. z +ᶠ neg_f (f n)) (sum_neg n f) ∙ by_ring_f (sum_to n f ∷ f n ∷ []) (⊖ (var 0) ⊕ ⊖ (var 1)) (⊖ (var 0 ⊕ var 1)) refl

pub sum_sub : (n : ℕ) (f g : ℕ → Fraction) → sum_to n (λ i. f i -ᶠ g i) ≡ sum_to n f -ᶠ sum_to n g
sum_sub n f g = sum_add n f (λ i. neg_f (g i)) ∙ ap (λ z. sum_to n f +ᶠ z) (sum_neg n g)

pub sum_scale : (n : ℕ) (k : Fraction) (f : ℕ → Fraction) → sum_to n (λ i. k *ᶠ f i) ≡ k *ᶠ sum_to n f
sum_scale zero k f = by_ring_f (k ∷ []) t0 (var 0 ⊗ t0) refl
sum_scale (suc n) k f =
    ap (λ z. z +ᶠ k *ᶠ f n) (sum_scale n k f) ∙ by_ring_f (k ∷ sum_to n f ∷ f n ∷ []) (var 0 ⊗ var 1 ⊕ var 0 ⊗ var 2) (var 0 ⊗ (var 1 ⊕ var 2)) refl

pub sum_scale_right : (n : ℕ) (k : Fraction) (f : ℕ → Fraction) → sum_to n (λ i. f i *ᶠ k) ≡ sum_to n f *ᶠ k
sum_scale_right n k f = sum_same n (λ i. f i *ᶠ k) (λ i. k *ᶠ f i) (λ i l. mul_comm_f (f i) k) ∙ sum_scale n k f ∙ mul_comm_f k (sum_to n f)

-- two sums in either order
pub sum_swap : (m n : ℕ) (f : ℕ → ℕ → Fraction) → sum_to m (λ i. sum_to n (f i)) ≡ sum_to n (λ j. sum_to m (λ i. f i j))
sum_swap zero n f = sym (sum_zero n)
sum_swap (suc m) n f = ap (λ z. z +ᶠ sum_to n (f m)) (sum_swap m n f) ∙ sym (sum_add n (λ j. sum_to m (λ i. f i j)) (f m))

-- a sum over m + n terms is that of the first m and that of the next n
pub sum_append : (m n : ℕ) (f : ℕ → Fraction) → sum_to (m + n) f ≡ sum_to m f +ᶠ sum_to n (λ i. f (m + i))
sum_append m zero f = let e : m + 0 ≡ m = omega arith in ap (λ k. sum_to k f) e ∙ sym (add_nil_f (sum_to m f))
sum_append m (suc n) f =
    let e : m + suc n ≡ suc (m + n) = omega arith in
    ap (λ k. sum_to k f) e ∙ ap (λ z. z +ᶠ f (m + n)) (sum_append m n f) ∙ add_assoc_f (sum_to m f) (sum_to n (λ i. f (m + i))) (f (m + n))

-- ---- unit vectors
pub unit_same : (p : ℕ) → unit p p ≡ of_int (pos 1)
unit_same p = go (eqb p p) (eqb_refl p)
  where
    go : (b : Bool) → T b → cond b (of_int (pos 1)) (of_int (pos 0)) ≡ of_int (pos 1)
    go true h = refl
    go false h = absurd h

pub unit_other : (p k : ℕ) → ¬ (p ≡ k) → unit p k ≡ of_int (pos 0)
unit_other p k h = go (eqb p k) (eqb→eq p k)
  where
    go : (b : Bool) → (T b → p ≡ k) → cond b (of_int (pos 1)) (of_int (pos 0)) ≡ of_int (pos 0)
    go true e = absurd (h (e tt))
    go false e = refl

-- ---- sums with one term that counts
-- a sum whose terms are 0 but at p is its term there
pub sum_only : (n p : ℕ) (f : ℕ → Fraction) → p < n → ((k : ℕ) → k < n → ¬ (p ≡ k) → f k ≡ of_int (pos 0)) → sum_to n f ≡ f p
sum_only zero p f h k = absurd (omega arith)
sum_only (suc n) p f h k = ⊎_elim
    (λ (l : p < n). ap (λ z. z +ᶠ f n) (sum_only n p f l (λ j m d. k j (omega arith) d)) ∙ ap (λ z. f p +ᶠ z) (k n (omega arith) (λ e. absurd (omega arith))) ∙ add_nil_f (f p))
    (λ (l : n ≤ p). let e : n ≡ p = omega arith in
    ap (λ z. z +ᶠ f n) (sum_none n f (λ j m. k j (omega arith) (λ e. absurd (omega arith)))) ∙ nil_add_f (f n) ∙ ap f e)
    (cases_lt p n)

-- a sum against a unit vector is the term at its index
pub sum_unit : (n p : ℕ) (f : ℕ → Fraction) → p < n → sum_to n (λ k. unit p k *ᶠ f k) ≡ f p
sum_unit n p f h =
    sum_only n p (λ k. unit p k *ᶠ f k) h (λ k l d. ap (λ z. z *ᶠ f k) (unit_other p k d) ∙ nil_mul_f (f k))
    ∙ ap (λ z. z *ᶠ f p) (unit_same p) ∙ one_mul_f (f p)

-- ---- scalar products
pub dot_comm : (m : ℕ) (u v : ℕ → Fraction) → dot m u v ≡ dot m v u
dot_comm m u v = sum_same m (λ i. u i *ᶠ v i) (λ i. v i *ᶠ u i) (λ i l. mul_comm_f (u i) (v i))

-- equal vectors give equal products
pub dot_same : (m : ℕ) (u v w x : ℕ → Fraction) → ((i : ℕ) → i < m → u i ≡ w i) → ((i : ℕ) → i < m → v i ≡ x i) → dot m u v ≡ dot m w x
dot_same m u v w x h k = sum_same m (λ i. u i *ᶠ v i) (λ i. w i *ᶠ x i) (λ i l. ap (λ z. z *ᶠ v i) (h i l) ∙ ap (λ z. w i *ᶠ z) (k i l))

pub dot_add : (m : ℕ) (u v w : ℕ → Fraction) → dot m (λ i. u i +ᶠ v i) w ≡ dot m u w +ᶠ dot m v w
dot_add m u v w =
    sum_same m (λ i. (u i +ᶠ v i) *ᶠ w i) (λ i. u i *ᶠ w i +ᶠ v i *ᶠ w i) (λ i l. by_ring_f (u i ∷ v i ∷ w i ∷ []) ((var 0 ⊕ var 1) ⊗ var 2) (var 0 ⊗ var 2 ⊕ var 1 ⊗ var 2) refl)
    ∙ sum_add m (λ i. u i *ᶠ w i) (λ i. v i *ᶠ w i)

pub dot_neg : (m : ℕ) (u w : ℕ → Fraction) → dot m (λ i. neg_f (u i)) w ≡ neg_f (dot m u w)
dot_neg m u w =
    sum_same m (λ i. neg_f (u i) *ᶠ w i) (λ i. neg_f (u i *ᶠ w i)) (λ i l. by_ring_f (u i ∷ w i ∷ []) ((⊖ (var 0)) ⊗ var 1) (⊖ (var 0 ⊗ var 1)) refl)
    ∙ sum_neg m (λ i. u i *ᶠ w i)

pub dot_scale : (m : ℕ) (k : Fraction) (u w : ℕ → Fraction) → dot m (λ i. k *ᶠ u i) w ≡ k *ᶠ dot m u w
dot_scale m k u w = sum_same m (λ i. (k *ᶠ u i) *ᶠ w i) (λ i. k *ᶠ (u i *ᶠ w i)) (λ i l. mul_assoc_f k (u i) (w i)) ∙ sum_scale m k (λ i. u i *ᶠ w i)

-- a vector less a multiple of another
pub dot_combine : (m : ℕ) (u v w : ℕ → Fraction) (k : Fraction) → dot m (λ h. u h +ᶠ neg_f (k *ᶠ v h)) w ≡ dot m u w +ᶠ neg_f (k *ᶠ dot m v w)
dot_combine m u v w k =
    dot_add m u (λ h. neg_f (k *ᶠ v h)) w
    ∙ ap (λ z. dot m u w +ᶠ z) (dot_neg m (λ h. k *ᶠ v h) w ∙ ap neg_f (dot_scale m k v w))

-- y A x in two orders, with `a j` the column j: what ties the values of the rows to the reduced costs
pub both_orders : (m n : ℕ) (a : ℕ → ℕ → Fraction) (y x : ℕ → Fraction) → dot m y (λ i. sum_to n (λ j. a j i *ᶠ x j)) ≡ dot n (λ j. dot m y (a j)) x
both_orders m n a y x =
    sum_same m (λ i. y i *ᶠ sum_to n (λ j. a j i *ᶠ x j)) (λ i. sum_to n (λ j. y i *ᶠ (a j i *ᶠ x j))) (λ i l. sym (sum_scale n (y i) (λ j. a j i *ᶠ x j)))
    ∙ sum_swap m n (λ i j. y i *ᶠ (a j i *ᶠ x j))
    ∙ sum_same n (λ j. sum_to m (λ i. y i *ᶠ (a j i *ᶠ x j))) (λ j. dot m y (a j) *ᶠ x j)
    (λ j l. sum_same m (λ i. y i *ᶠ (a j i *ᶠ x j)) (λ i. (y i *ᶠ a j i) *ᶠ x j) (λ i h. sym (mul_assoc_f (y i) (a j i) (x j)))
    ∙ sum_scale_right m (x j) (λ i. y i *ᶠ a j i))

-- ---- the order
-- terms that are at least 0 give a sum that is
pub sum_nonneg : (n : ℕ) (f : ℕ → Fraction) → ((i : ℕ) → i < n → of_int (pos 0) ≤ᶠ f i) → of_int (pos 0) ≤ᶠ sum_to n f
sum_nonneg zero f h = le_refl_f (of_int (pos 0))
sum_nonneg (suc n) f h = add_nonneg_f (sum_to n f) (f n) (sum_nonneg n f (λ i l. h i (omega arith))) (h n (omega arith))

-- an order term by term is one of the sums
pub sum_le : (n : ℕ) (f g : ℕ → Fraction) → ((i : ℕ) → i < n → f i ≤ᶠ g i) → sum_to n f ≤ᶠ sum_to n g
sum_le zero f g h = le_refl_f (of_int (pos 0))
sum_le (suc n) f g h = add_le_both_f (sum_to n f) (sum_to n g) (f n) (g n) (sum_le n f g (λ i l. h i (omega arith))) (h n (omega arith))

-- among terms that are at least 0, each is at most the sum
pub term_le_sum : (n p : ℕ) (f : ℕ → Fraction) → p < n → ((i : ℕ) → i < n → of_int (pos 0) ≤ᶠ f i) → f p ≤ᶠ sum_to n f
term_le_sum zero p f l h = absurd (omega arith)
term_le_sum (suc n) p f l h = ⊎_elim
    (λ (k : p < n). le_trans_f (f p) (sum_to n f) (sum_to n f +ᶠ f n) (term_le_sum n p f k (λ i m. h i (omega arith))) (le_by (sum_to n f) (sum_to n f +ᶠ f n) (f n) (h n (omega arith)) refl))
    (λ (k : n ≤ p). let e : n ≡ p = omega arith in
    le_by (f p) (sum_to n f +ᶠ f n) (sum_to n f) (sum_nonneg n f (λ i m. h i (omega arith)))
    (ap (λ j. sum_to n f +ᶠ f j) e ∙ by_ring_f (sum_to n f ∷ f p ∷ []) (var 0 ⊕ var 1) (var 1 ⊕ var 0) refl))
    (cases_lt p n)

-- where such a sum is 0, each term is
pub sum_nonneg_zero : (n p : ℕ) (f : ℕ → Fraction) → p < n → ((i : ℕ) → i < n → of_int (pos 0) ≤ᶠ f i) → sum_to n f ≡ of_int (pos 0) → f p ≡ of_int (pos 0)
sum_nonneg_zero n p f l h e = le_antisymm_f (f p) (of_int (pos 0)) (le_moved_f (f p) (sum_to n f) (f p) (of_int (pos 0)) refl e (term_le_sum n p f l h)) (h p l)

-- where one term is above 0, the sum is
pub sum_above : (n p : ℕ) (f : ℕ → Fraction) → p < n → ((i : ℕ) → i < n → of_int (pos 0) ≤ᶠ f i) → of_int (pos 0) <ᶠ f p → of_int (pos 0) <ᶠ sum_to n f
sum_above n p f l h k = lt_le_trans_f (of_int (pos 0)) (f p) (sum_to n f) k (term_le_sum n p f l h)
