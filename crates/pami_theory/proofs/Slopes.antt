-- The walk by a running slope is the walk by sums over sets.
use Rattle.std.proofs.Common.{◌≡◌, ℕ, zero, suc, ◌+◌, inl, inr, Bool, true, false, cond, if◌then◌else◌, List, [], ◌∷◌, ◌++◌, append_assoc, Option, None, Some, refl, sym, ap, ◌∙◌, subst, arith, true≢false}
use Rattle.std.specs.List.{filter, find, range_with_len}
use Rattle.pami_algebra.specs.Fraction.{Fraction}
use Rattle.pami_algebra.specs.Ring.{var, t0, ◌⊕◌, ⊖}
use Rattle.pami_algebra.specs.Operations.{◌+ᶠ◌, ◌-ᶠ◌, is_at_most}
use Rattle.pami_algebra.proofs.Laws.{by_ring_f, add_assoc_f}
use Rattle.pami_algebra.proofs.Field.{nil_add_f}
use Rattle.pami_algebra.proofs.Bounds.{le_by, gap_of}
use Rattle.pami_algebra.proofs.Tests.{is_at_most_iff}
use Rattle.pami_linear.specs.Sums.{sum_to}
use Rattle.pami_linear.proofs.Sums.{sum_same, sum_append}
use Rattle.pami_theory.specs.Form.{Form, variables, limits, zero_f}
use Rattle.pami_theory.specs.Basis.{Basis}
use Rattle.pami_theory.specs.Violation.{width}
use Rattle.pami_theory.specs.Order.{put_in, ordered}
use Rattle.pami_theory.specs.Ratio.{Leaving, is_candidate, walks_before, walk_order, flip_lowers, lowered_before, stops_at, ends_at}
use Rattle.pami_theory.specs.Slope.{slope_after, stops_with, walk_down}
use Rattle.pami_theory.proofs.Members.{Has}
use Rattle.pami_theory.proofs.Orders.{Rises, irreflexive}
use Rattle.pami_theory.proofs.Comparisons.{walk_is_order}
use Rattle.pami_theory.proofs.Candidates.{candidates, walk_rises}

-- ---- sums over lists
abbrev pub list_sum : {A : Type 0} → (A → Fraction) → List A → Fraction
list_sum h [] = zero_f
list_sum h (x ∷ xs) = h x +ᶠ list_sum h xs

pub list_sum_append : {A : Type 0} (h : A → Fraction) (xs ys : List A) → list_sum h (xs ++ ys) ≡ list_sum h xs +ᶠ list_sum h ys
list_sum_append h [] ys = sym (nil_add_f (list_sum h ys))
list_sum_append h (x ∷ xs) ys = ap (λ z. h x +ᶠ z) (list_sum_append h xs ys) ∙ sym (add_assoc_f (h x) (list_sum h xs) (list_sum h ys))

pub list_sum_same : {A : Type 0} (h k : A → Fraction) (xs : List A) → ((z : A) → Has xs z → h z ≡ k z) → list_sum h xs ≡ list_sum k xs
list_sum_same h k [] e = refl
list_sum_same h k (x ∷ xs) e = ap (λ z. z +ᶠ list_sum h xs) (e x (inl refl)) ∙ ap (λ z. k x +ᶠ z) (list_sum_same h k xs (λ z m. e z (inr m)))

pub list_sum_none : {A : Type 0} (h : A → Fraction) (xs : List A) → ((z : A) → Has xs z → h z ≡ zero_f) → list_sum h xs ≡ zero_f
list_sum_none h [] e = refl
list_sum_none h (x ∷ xs) e = ap (λ z. z +ᶠ list_sum h xs) (e x (inl refl)) ∙ nil_add_f (list_sum h xs) ∙ list_sum_none h xs (λ z m. e z (inr m))

list_sum_put_by : {A : Type 0} (h : A → Fraction) (x y : A) (ys zs : List A) (b : Bool) → list_sum h zs ≡ h x +ᶠ list_sum h ys → list_sum h (cond b (x ∷ y ∷ ys) (y ∷ zs)) ≡ h x +ᶠ list_sum h (y ∷ ys)
list_sum_put_by h x y ys zs true e = refl
list_sum_put_by h x y ys zs false e = ap (λ z. h y +ᶠ z) e ∙ by_ring_f (h x ∷ h y ∷ list_sum h ys ∷ []) (var 1 ⊕ (var 0 ⊕ var 2)) (var 0 ⊕ (var 1 ⊕ var 2)) refl

list_sum_put : {A : Type 0} (h : A → Fraction) (before : A → A → Bool) (x : A) (ys : List A) → list_sum h (put_in before x ys) ≡ h x +ᶠ list_sum h ys
list_sum_put h before x [] = refl
list_sum_put h before x (y ∷ ys) = list_sum_put_by h x y ys (put_in before x ys) (before x y) (list_sum_put h before x ys)

pub list_sum_ordered : {A : Type 0} (h : A → Fraction) (before : A → A → Bool) (xs : List A) → list_sum h (ordered before xs) ≡ list_sum h xs
list_sum_ordered h before [] = refl
list_sum_ordered h before (x ∷ xs) = list_sum_put h before x (ordered before xs) ∙ ap (λ z. h x +ᶠ z) (list_sum_ordered h before xs)

-- ---- over the numbers that pass
abbrev passing : (ℕ → Bool) → (ℕ → Fraction) → ℕ → Fraction
passing p h v = if p v then h v else zero_f

passing_head : (h : ℕ → Fraction) (v : ℕ) (vs : List ℕ) (b : Bool) → list_sum h (cond b (v ∷ vs) vs) ≡ (if b then h v else zero_f) +ᶠ list_sum h vs
passing_head h v vs true = refl
passing_head h v vs false = sym (nil_add_f (list_sum h vs))

passing_sum : (p : ℕ → Bool) (h : ℕ → Fraction) (a n : ℕ) → list_sum h (filter p (range_with_len a n)) ≡ sum_to n (λ i. passing p h (a + i))
passing_sum p h a zero = refl
passing_sum p h a (suc n) =
    let g : ℕ → Fraction = passing p h in
    let e : 1 + n ≡ suc n = omega arith in
    let z : a + 0 ≡ a = omega arith in
    passing_head h a (filter p (range_with_len (a + 1) n)) (p a)
    ∙ ap (λ q. g a +ᶠ q) (passing_sum p h (a + 1) n ∙ sum_same n (λ i. g (a + 1 + i)) (λ i. g (a + (1 + i))) (λ i l. let k : a + 1 + i ≡ a + (1 + i) = omega arith in ap g k))
    ∙ ap (λ q. q +ᶠ sum_to n (λ i. g (a + (1 + i)))) (sym (nil_add_f (g a)) ∙ ap (λ q. zero_f +ᶠ g q) (sym z))
    ∙ sym (sum_append 1 n (λ i. g (a + i)))
    ∙ ap (λ q. sum_to q (λ i. g (a + i))) e

pub list_sum_filter : (p : ℕ → Bool) (h : ℕ → Fraction) (n : ℕ) → list_sum h (filter p (range_with_len 0 n)) ≡ sum_to n (passing p h)
list_sum_filter p h n = passing_sum p h 0 n ∙ sum_same n (λ i. passing p h (0 + i)) (passing p h) (λ i l. let e : 0 + i ≡ i = omega arith in ap (passing p h) e)

-- ---- what stands before a member and behind it
pub before_it : {A : Type 0} (before : A → A → Bool) (xs : List A) (v : A) (ys : List A) (j : A) → Rises before (xs ++ v ∷ ys) → Has xs j → before j v ≡ true
before_it before [] v ys j h k = absurd k
before_it {A} before (x ∷ xs) v ys j h (inl e) = ap (λ w. before w v) (sym e) ∙ h.0 v (at xs)
  where
    at : (zs : List A) → Has (zs ++ v ∷ ys) v
    at [] = inl refl
    at (z ∷ zs) = inr (at zs)
before_it before (x ∷ xs) v ys j h (inr k) = before_it before xs v ys j h.1 k

pub behind_it : {A : Type 0} (before : A → A → Bool) (xs : List A) (v : A) (ys : List A) (j : A) → Rises before (xs ++ v ∷ ys) → Has ys j → before v j ≡ true
behind_it before [] v ys j h k = h.0 j k
behind_it before (x ∷ xs) v ys j h k = behind_it before xs v ys j h.1 k

-- ---- the sum over the candidates before a member of the walk is that of the list before it
lowers_if_before : Form → Leaving → ℕ → ℕ → Fraction
lowers_if_before f l k j = if walks_before f l j k then flip_lowers f l j else zero_f

pub lowered_is : (f : Form) (b : Basis) (l : Leaving) (xs : List ℕ) (v : ℕ) (ys : List ℕ) → walk_order f b l ≡ xs ++ v ∷ ys → lowered_before f b l v ≡ list_sum (flip_lowers f l) xs
unfolding lowers_if_before
lowered_is f b l xs v ys e =
    let h : ℕ → Fraction = lowers_if_before f l v in
    let r : Rises (walks_before f l) (xs ++ v ∷ ys) = subst (Rises (walks_before f l)) e (walk_rises f b l) in
    sym (list_sum_filter (is_candidate f b l) h (variables f))
    ∙ sym (list_sum_ordered h (walks_before f l) (candidates f b l))
    ∙ ap (list_sum h) e
    ∙ list_sum_append h xs (v ∷ ys)
    ∙ ap (λ z. z +ᶠ (h v +ᶠ list_sum h ys)) (list_sum_same h (flip_lowers f l) xs (λ j k. taken (walks_before f l j v) (flip_lowers f l j) (before_it (walks_before f l) xs v ys j r k)))
    ∙ ap (λ z. list_sum (flip_lowers f l) xs +ᶠ (z +ᶠ list_sum h ys)) (left (walks_before f l v v) (flip_lowers f l v) (irreflexive (walks_before f l) v (walk_is_order f l)))
    ∙ ap (λ z. list_sum (flip_lowers f l) xs +ᶠ (zero_f +ᶠ z)) (list_sum_none h ys (λ j k. left (walks_before f l j v) (flip_lowers f l j) ((walk_is_order f l).one_way v j (behind_it (walks_before f l) xs v ys j r k))))
    ∙ by_ring_f (list_sum (flip_lowers f l) xs ∷ []) (var 0 ⊕ (t0 ⊕ t0)) (var 0) refl
  where
    taken : (c : Bool) (p : Fraction) → c ≡ true → (if c then p else zero_f) ≡ p
    taken true p k = refl
    taken false p k = absurd (true≢false (sym k))

    left : (c : Bool) (p : Fraction) → c ≡ false → (if c then p else zero_f) ≡ zero_f
    left true p k = absurd (true≢false k)
    left false p k = refl

-- ---- the two walks
pub slope_is : (f : Form) (l : Leaving) (slope : Fraction) (vs : List ℕ) → slope_after f l slope vs ≡ slope -ᶠ list_sum (flip_lowers f l) vs
slope_is f l slope [] = by_ring_f (slope ∷ []) (var 0) (var 0 ⊕ ⊖ t0) refl
slope_is f l slope (v ∷ vs) =
    slope_is f l (slope -ᶠ flip_lowers f l v) vs
    ∙ by_ring_f (slope ∷ flip_lowers f l v ∷ list_sum (flip_lowers f l) vs ∷ []) ((var 0 ⊕ ⊖ (var 1)) ⊕ ⊖ (var 2)) (var 0 ⊕ ⊖ (var 1 ⊕ var 2)) refl

same_test : (a b : Bool) → (a ≡ true → b ≡ true) → (b ≡ true → a ≡ true) → a ≡ b
same_test true b h k = sym (h refl)
same_test false true h k = k refl
same_test false false h k = refl

slope_test : (amount s : Fraction) → is_at_most (amount -ᶠ s) zero_f ≡ is_at_most amount s
slope_test amount s = same_test (is_at_most (amount -ᶠ s) zero_f) (is_at_most amount s)
    (λ e. (is_at_most_iff amount s).1 (le_by amount s (zero_f -ᶠ (amount -ᶠ s)) (gap_of (amount -ᶠ s) zero_f ((is_at_most_iff (amount -ᶠ s) zero_f).0 e))
    (by_ring_f (amount ∷ s ∷ []) (var 1) (var 0 ⊕ (t0 ⊕ ⊖ (var 0 ⊕ ⊖ (var 1)))) refl)))
    (λ e. (is_at_most_iff (amount -ᶠ s) zero_f).1 (le_by (amount -ᶠ s) zero_f (s -ᶠ amount) (gap_of amount s ((is_at_most_iff amount s).0 e))
    (by_ring_f (amount ∷ s ∷ []) t0 ((var 0 ⊕ ⊖ (var 1)) ⊕ (var 1 ⊕ ⊖ (var 0))) refl)))

stops_same : (o : Option Fraction) (amount s : Fraction) → stops_with o (amount -ᶠ s) ≡ stops_at o s amount
stops_same None amount s = refl
stops_same (Some w) amount s = slope_test amount s

-- at a member of the walk
pub stops_is : (f : Form) (b : Basis) (l : Leaving) (xs : List ℕ) (v : ℕ) (ys : List ℕ) (slope : Fraction) → walk_order f b l ≡ xs ++ v ∷ ys → slope ≡ l.violation.amount -ᶠ list_sum (flip_lowers f l) xs → stops_with (width (limits f v)) (slope -ᶠ flip_lowers f l v) ≡ ends_at f b l v
stops_is f b l xs v ys slope e s =
    let before : Fraction = list_sum (flip_lowers f l) xs in
    ap (stops_with (width (limits f v)))
    (ap (λ z. z -ᶠ flip_lowers f l v) s ∙ by_ring_f (l.violation.amount ∷ before ∷ flip_lowers f l v ∷ []) ((var 0 ⊕ ⊖ (var 1)) ⊕ ⊖ (var 2)) (var 0 ⊕ ⊖ (var 1 ⊕ var 2)) refl)
    ∙ stops_same (width (limits f v)) l.violation.amount (before +ᶠ flip_lowers f l v)
    ∙ ap (λ z. stops_at (width (limits f v)) (z +ᶠ flip_lowers f l v) l.violation.amount) (sym (lowered_is f b l xs v ys e))

walks_down : (f : Form) (b : Basis) (l : Leaving) (xs vs : List ℕ) (slope : Fraction) → walk_order f b l ≡ xs ++ vs → slope ≡ l.violation.amount -ᶠ list_sum (flip_lowers f l) xs → walk_down f l slope vs ≡ find (ends_at f b l) vs
walks_down f b l xs [] slope e s = refl
walks_down f b l xs (v ∷ vs) slope e s =
    ap (λ c. if c then Some v else walk_down f l (slope -ᶠ flip_lowers f l v) vs) (stops_is f b l xs v vs slope e s)
    ∙ ap (λ o. if ends_at f b l v then Some v else o)
    (walks_down f b l (xs ++ v ∷ []) vs (slope -ᶠ flip_lowers f l v) (e ∙ sym (append_assoc xs (v ∷ []) vs))
    (ap (λ z. z -ᶠ flip_lowers f l v) s
    ∙ by_ring_f (l.violation.amount ∷ list_sum (flip_lowers f l) xs ∷ flip_lowers f l v ∷ []) ((var 0 ⊕ ⊖ (var 1)) ⊕ ⊖ (var 2)) (var 0 ⊕ ⊖ (var 1 ⊕ (var 2 ⊕ t0))) refl
    ∙ ap (λ z. l.violation.amount -ᶠ z) (sym (list_sum_append (flip_lowers f l) xs (v ∷ [])))))

pub walk_down_is : (f : Form) (b : Basis) (l : Leaving) → walk_down f l l.violation.amount (walk_order f b l) ≡ find (ends_at f b l) (walk_order f b l)
walk_down_is f b l = walks_down f b l [] (walk_order f b l) l.violation.amount refl (by_ring_f (l.violation.amount ∷ []) (var 0) (var 0 ⊕ ⊖ t0) refl)

-- the slope at a member of the walk
pub slope_at_member : (f : Form) (b : Basis) (l : Leaving) (xs : List ℕ) (v : ℕ) (ys : List ℕ) → walk_order f b l ≡ xs ++ v ∷ ys → slope_after f l l.violation.amount xs ≡ l.violation.amount -ᶠ lowered_before f b l v
slope_at_member f b l xs v ys e = slope_is f l l.violation.amount xs ∙ ap (λ z. l.violation.amount -ᶠ z) (sym (lowered_is f b l xs v ys e))
