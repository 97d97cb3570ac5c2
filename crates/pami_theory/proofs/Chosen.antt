-- The infeasible rows and the chosen ones.
use Rattle.std.proofs.Common.{◌≡◌, ◌↔◌, ℕ, zero, suc, ◌+◌, ◌<◌, inl, inr, Bool, true, false, cond, List, [], ◌∷◌, ◌++◌, take, Option, None, Some, refl, sym, ap, ◌∙◌, subst, arith}
use Rattle.std.specs.List.{Contains, filter_map, range_with_len, cons_option, IsDistinct}
use Rattle.std.specs.List.Sorted.{IsSortedBy, ties}
use Rattle.std.specs.Cmp.{IsStrictWeakOrder}
use Rattle.std.specs.Option.{option_map}
use Rattle.std.proofs.lemmas.Option.{none-some, same_Some}
use Rattle.std.proofs.lemmas.List.Sorted.{IsPermutation-trans, IsPermutation-to_front}
use Rattle.pami_theory.specs.Form.{Form, limits}
use Rattle.pami_theory.specs.Basis.{Basis, head_at}
use Rattle.pami_theory.specs.Fresh.{Fresh, value_at_place}
use Rattle.pami_theory.specs.declared.words.Violation.{Violation}
use Rattle.pami_theory.specs.Violation.{violation}
use Rattle.pami_theory.specs.Order.{put_in, ordered}
use Rattle.pami_theory.specs.Choice.{InfeasibleRow, row_of, infeasible_at, is_chosen_before, infeasible_rows}
use Rattle.pami_theory.specs.Weights.{weight_at}
use Rattle.pami_theory.proofs.Members.{Has, contains_from, has_from, range_has, has_range}
use Rattle.pami_theory.proofs.Orders.{Apart, ordered_is, ordered_permutes, ordered_sorted}
use Rattle.pami_theory.proofs.Comparisons.{choice_either}
use Rattle.pami_theory.proofs.Candidates.{apart_distinct}

-- ---- members of a filtered and mapped list
kept_has : {A B : Type 0} (h : A → Option B) (x : A) (o : Option B) (xs : List A) (z : B) → h x ≡ o → Has (cons_option o (filter_map h xs)) z → (Has (filter_map h xs) z → (w : A) × Has xs w × (h w ≡ Some z)) → (w : A) × Has (x ∷ xs) w × (h w ≡ Some z)
kept_has h x None xs z e k go = let m = go k in (m.0, inr m.1, m.2)
kept_has h x (Some y) xs z e (inl k) go = (x, inl refl, e ∙ ap Some k)
kept_has h x (Some y) xs z e (inr k) go = let m = go k in (m.0, inr m.1, m.2)

pub filter_map_has : {A B : Type 0} (h : A → Option B) (xs : List A) (z : B) → Has (filter_map h xs) z → (w : A) × Has xs w × (h w ≡ Some z)
filter_map_has h [] z k = absurd k
filter_map_has h (x ∷ xs) z k = kept_has h x (h x) xs z refl k (filter_map_has h xs z)

cons_has : {B : Type 0} (o : Option B) (ys : List B) (z : B) → Has ys z → Has (cons_option o ys) z
cons_has None ys z k = k
cons_has (Some y) ys z k = inr k

cons_is : {B : Type 0} (o : Option B) (ys : List B) (z : B) → o ≡ Some z → Has (cons_option o ys) z
cons_is None ys z e = absurd (none-some z e)
cons_is (Some y) ys z e = inl (same_Some y z e)

pub has_filter_map : {A B : Type 0} (h : A → Option B) (xs : List A) (w : A) (z : B) → Has xs w → h w ≡ Some z → Has (filter_map h xs) z
has_filter_map h [] w z k e = absurd k
has_filter_map h (x ∷ xs) w z (inl k) e = cons_is (h x) (filter_map h xs) z (ap h k ∙ e)
has_filter_map h (x ∷ xs) w z (inr k) e = cons_has (h x) (filter_map h xs) z (has_filter_map h xs w z k e)

-- ---- the infeasible rows
place_of : (f : Form) (b : Basis) (s : Fresh) (weights : List ℕ) (p : ℕ) (r : InfeasibleRow) → infeasible_at f b s weights p ≡ Some r → r.place ≡ p
place_of f b s weights p r e = go (violation (limits f (head_at b p)) (value_at_place b s p)) e
  where
    go : (o : Option Violation) → option_map (row_of p (weight_at weights p)) o ≡ Some r → r.place ≡ p
    go None k = absurd (none-some r k)
    go (Some v) k = sym (ap (λ (z : InfeasibleRow). z.place) (same_Some (row_of p (weight_at weights p) v) r k))

abbrev pub IsInfeasibleRow : Form → Basis → Fresh → List ℕ → InfeasibleRow → Type 0
IsInfeasibleRow f b s weights r = (r.place < f.rows) × (infeasible_at f b s weights r.place ≡ Some r)

rows_has : (f : Form) (b : Basis) (s : Fresh) (weights : List ℕ) (r : InfeasibleRow) → Has (infeasible_rows f b s weights) r → IsInfeasibleRow f b s weights r
rows_has f b s weights r h =
    let k = filter_map_has (infeasible_at f b s weights) (range_with_len 0 f.rows) r h in
    let l = range_has 0 f.rows k.0 k.1 in
    let e : r.place ≡ k.0 = place_of f b s weights k.0 r k.2 in
    (omega (arith, e, l.1), ap (infeasible_at f b s weights) e ∙ k.2)

has_rows : (f : Form) (b : Basis) (s : Fresh) (weights : List ℕ) (r : InfeasibleRow) → IsInfeasibleRow f b s weights r → Has (infeasible_rows f b s weights) r
has_rows f b s weights r h = has_filter_map (infeasible_at f b s weights) (range_with_len 0 f.rows) r.place r (has_range 0 f.rows r.place (omega arith) (omega (arith, h.0))) h.1

pub rows_are : (f : Form) (b : Basis) (s : Fresh) (weights : List ℕ) (r : InfeasibleRow) → Contains (infeasible_rows f b s weights) r ↔ IsInfeasibleRow f b s weights r
rows_are f b s weights r = (λ h. rows_has f b s weights r (has_from (infeasible_rows f b s weights) r h), λ h. contains_from (infeasible_rows f b s weights) r (has_rows f b s weights r h))

-- ---- no ties
apart_more : (f : Form) (b : Basis) (s : Fresh) (weights : List ℕ) (p : ℕ) (o : Option InfeasibleRow) (rows : List InfeasibleRow) → infeasible_at f b s weights p ≡ o → ((r : InfeasibleRow) → Has rows r → ¬ (p ≡ r.place)) → Apart is_chosen_before rows → Apart is_chosen_before (cons_option o rows)
apart_more f b s weights p None rows e n h = h
apart_more f b s weights p (Some r) rows e n h = (λ z k. choice_either r z (λ q. n z k (sym (place_of f b s weights p r e) ∙ q)), h)

rows_apart : (f : Form) (b : Basis) (s : Fresh) (weights : List ℕ) (a n : ℕ) → Apart is_chosen_before (filter_map (infeasible_at f b s weights) (range_with_len a n))
rows_apart f b s weights a zero = tt
rows_apart f b s weights a (suc n) = apart_more f b s weights a (infeasible_at f b s weights a) (filter_map (infeasible_at f b s weights) (range_with_len (a + 1) n)) refl
    (λ r k e. let m = filter_map_has (infeasible_at f b s weights) (range_with_len (a + 1) n) r k in
    let l = range_has (a + 1) n m.0 m.1 in
    let q : r.place ≡ m.0 = place_of f b s weights m.0 r m.2 in
    omega (arith, l.0, q, e))
    (rows_apart f b s weights (a + 1) n)

pub rows_no_ties : (f : Form) (b : Basis) (s : Fresh) (weights : List ℕ) → IsDistinct (ties is_chosen_before) (infeasible_rows f b s weights)
rows_no_ties f b s weights = apart_distinct is_chosen_before (infeasible_rows f b s weights) (rows_apart f b s weights 0 f.rows)

-- ---- one more member, and the first n alone
put_keeps : {A : Type 0} (before : A → A → Bool) (o : IsStrictWeakOrder before) (xs : List A) (x : A) → IsSortedBy before (put_in before x (ordered before xs))
put_keeps before o xs x = ordered_sorted before (x ∷ xs) o

pub ordered_more : {A : Type 0} (before : A → A → Bool) (xs : List A) (x : A) → IsStrictWeakOrder before → IsDistinct (ties before) (xs ++ x ∷ []) → ordered before (xs ++ x ∷ []) ≡ put_in before x (ordered before xs)
ordered_more before xs x o h = sym (ordered_is before (xs ++ x ∷ []) (put_in before x (ordered before xs)) o h
    (IsPermutation-trans (xs ++ x ∷ []) (x ∷ xs) (put_in before x (ordered before xs)) (IsPermutation-to_front xs x) (ordered_permutes before (x ∷ xs)))
    (put_keeps before o xs x))

take_put_by : {A : Type 0} (before : A → A → Bool) (n : ℕ) (x y : A) (ys zs ws : List A) (b : Bool) → take n zs ≡ take n ws → take n (y ∷ ys) ≡ take n (y ∷ take n ys) → take (suc n) (cond b (x ∷ y ∷ ys) (y ∷ zs)) ≡ take (suc n) (cond b (x ∷ y ∷ take n ys) (y ∷ ws))
take_put_by before n x y ys zs ws true e h = ap (λ z. x ∷ z) h
take_put_by before n x y ys zs ws false e h = ap (λ z. y ∷ z) e

take_take : {A : Type 0} (n : ℕ) (y : A) (ys : List A) → take n (y ∷ ys) ≡ take n (y ∷ take n ys)
take_take zero y ys = refl
take_take (suc n) y [] = refl
take_take (suc n) y (z ∷ ys) = ap (λ w. y ∷ w) (take_take n z ys)

-- of a list in order only the first n count for the first n behind one more member
pub take_put : {A : Type 0} (before : A → A → Bool) (n : ℕ) (x : A) (ys : List A) → take n (put_in before x ys) ≡ take n (put_in before x (take n ys))
take_put before zero x ys = refl
take_put before (suc n) x [] = refl
take_put before (suc n) x (y ∷ ys) = take_put_by before n x y ys (put_in before x ys) (put_in before x (take n ys)) (before x y) (take_put before n x ys) (take_take n y ys)

-- ---- none
none_violated : (f : Form) (b : Basis) (s : Fresh) (weights : List ℕ) (p : ℕ) (o : Option Violation) → violation (limits f (head_at b p)) (value_at_place b s p) ≡ o → ((r : InfeasibleRow) → ¬ (infeasible_at f b s weights p ≡ Some r)) → o ≡ None
none_violated f b s weights p None e n = refl
none_violated f b s weights p (Some v) e n = absurd (n (row_of p (weight_at weights p) v) (ap (option_map (row_of p (weight_at weights p))) e))

empty : {A : Type 0} (xs : List A) → ((z : A) → ¬ Has xs z) → xs ≡ []
empty [] n = refl
empty (x ∷ xs) n = absurd (n x (inl refl))

pub no_rows : (f : Form) (b : Basis) (s : Fresh) (weights : List ℕ) → infeasible_rows f b s weights ≡ [] ↔ ((p : ℕ) → p < f.rows → violation (limits f (head_at b p)) (value_at_place b s p) ≡ None)
no_rows f b s weights = (
  λ e p l. none_violated f b s weights p (violation (limits f (head_at b p)) (value_at_place b s p)) refl
      (λ r k. absurd (subst (λ (z : List InfeasibleRow). Has z r) e (has_rows f b s weights r (subst (λ q. q < f.rows) (sym (place_of f b s weights p r k)) l, ap (infeasible_at f b s weights) (place_of f b s weights p r k) ∙ k)))),
  λ h. empty (infeasible_rows f b s weights) (λ r k. let m = rows_has f b s weights r k in none-some r (sym (ap (option_map (row_of r.place (weight_at weights r.place))) (h r.place m.0)) ∙ m.1)),
)
