-- Where no variable enters, the row of the place is a certificate of infeasibility.
use Rattle.std.proofs.Common.{◌≡◌, ℕ, ◌<◌, ◌⊎◌, inl, inr, ⊎_elim, Bool, true, false, not, if◌then◌else◌, List, [], ◌∷◌, ◌++◌, append_assoc, append-nil, Option, None, Some, refl, sym, ap, ◌∙◌, subst, true≢false}
use Rattle.std.specs.Option.{option_map}
use Rattle.std.proofs.lemmas.Bool.{cases_eq}
use Rattle.std.proofs.lemmas.Option.{none-some, same_Some}
use lib.IntN.{pos}
use Rattle.pami_algebra.specs.Fraction.{Fraction}
use Rattle.pami_algebra.specs.Ring.{var, t0, t1, ◌⊕◌, ◌⊗◌, ⊖}
use Rattle.pami_algebra.specs.Operations.{◌+ᶠ◌, ◌*ᶠ◌, ◌-ᶠ◌, neg_f, of_int, ◌≤ᶠ◌, ◌<ᶠ◌, is_below, is_at_most}
use Rattle.pami_algebra.proofs.Laws.{by_ring_f}
use Rattle.pami_algebra.proofs.Field.{neg_nil_f}
use Rattle.pami_algebra.proofs.Order.{le_refl_f}
use Rattle.pami_algebra.proofs.Strict.{lt_le_f, lt_trichotomy_f, lt_irrefl_f, lt_asymm_f}
use Rattle.pami_algebra.proofs.Products.{neg_above_f, neg_below_f, gap_above, zero_lt_one_f}
use Rattle.pami_algebra.proofs.Tests.{is_below_iff, not_below_iff, is_zero_iff, not_zero_iff, not_at_most_iff}
use Rattle.pami_linear.specs.Lists.{get}
use Rattle.pami_linear.specs.Sums.{sum_to, dot, unit}
use Rattle.pami_linear.proofs.Sums.{sum_same, sum_add, sum_sub, sum_neg, sum_unit, dot_neg, unit_same, unit_other}
use Rattle.pami_frac.specs.declared.list.Bounds.{Bounds}
use Rattle.pami_theory.specs.Form.{Form, variables, limits, coefficient, zero_f}
use Rattle.pami_theory.specs.declared.words.Stand.{Stand}
use Rattle.pami_theory.specs.declared.words.Stand.TheVariants.{Basic, Lower, Upper, Zero}
use Rattle.pami_theory.specs.Basis.{Basis, head_at, stand_at, StandsAt, IsBasis}
use Rattle.pami_theory.specs.Fresh.{Fresh, row_at, value_at_place, IsFresh}
use Rattle.pami_theory.specs.declared.words.Side.{Side}
use Rattle.pami_theory.specs.declared.words.Side.TheVariants.{Above, Below}
use Rattle.pami_theory.specs.declared.words.Violation.{Violation}
use Rattle.pami_theory.specs.Violation.{violation, IsPast, value_or_zero, width, is_fixed}
use Rattle.pami_theory.specs.Ratio.{Leaving, toward, turned_entry, may_enter, is_candidate, absolute, lowered_by, flip_lowers, lowered_before, walk_order, walks_before, stops_at, ends_at, ratio_walk, Entering}
use Rattle.pami_theory.specs.Step.{leaving_at, step_by, step_at}
use Rattle.pami_theory.specs.Certificate.{IsLeastProduct, HoldsInfeasible}
use Rattle.pami_theory.proofs.Certificates.{basic_or_not}
use Rattle.pami_theory.proofs.Farkas.{rows_vanish}
use Rattle.pami_theory.proofs.Members.{Has}
use Rattle.pami_theory.proofs.Solved.{basic_entry}
use Rattle.pami_theory.proofs.Candidates.{candidates, walk_has, none_entering, passed_boxed, NoneEnds}
use Rattle.pami_theory.proofs.Slopes.{list_sum, list_sum_append, list_sum_filter, list_sum_ordered, lowered_is}
use Rattle.pami_theory.proofs.Violations.{width_is, fixed_iff, violation_past, violation_positive}

-- ---- the least product at a variable with the turned entry a
abbrev pub least_at : Bounds → Fraction → Fraction
least_at l a = neg_f a *ᶠ (if is_below zero_f a then value_or_zero l.high else value_or_zero l.low)

least_above : (l : Bounds) (a high : Fraction) → zero_f <ᶠ a → l.high ≡ Some high → least_at l a ≡ neg_f a *ᶠ high
least_above l a high h e = ap (λ c. neg_f a *ᶠ (if c then value_or_zero l.high else value_or_zero l.low)) ((is_below_iff zero_f a).1 h) ∙ ap (λ o. neg_f a *ᶠ value_or_zero o) e

least_below : (l : Bounds) (a low : Fraction) → a <ᶠ zero_f → l.low ≡ Some low → least_at l a ≡ neg_f a *ᶠ low
least_below l a low h e = ap (λ c. neg_f a *ᶠ (if c then value_or_zero l.high else value_or_zero l.low)) ((not_below_iff zero_f a).1 (lt_le_f a zero_f h)) ∙ ap (λ o. neg_f a *ᶠ value_or_zero o) e

least_none : (l : Bounds) (a : Fraction) → a ≡ zero_f → least_at l a ≡ zero_f
least_none l a e =
    let bound : Fraction = if is_below zero_f a then value_or_zero l.high else value_or_zero l.low in
    ap (λ z. neg_f z *ᶠ bound) e ∙ by_ring_f (bound ∷ []) (⊖ t0 ⊗ var 0) t0 refl

product_above : (l : Bounds) (a high : Fraction) → zero_f <ᶠ a → l.high ≡ Some high → IsLeastProduct l (neg_f a) (least_at l a)
product_above l a high h e = (
  λ k. absurd (lt_asymm_f zero_f (neg_f a) k (neg_below_f a h)),
  λ k. (high, e, least_above l a high h e),
  λ k. absurd (lt_irrefl_f zero_f (subst (λ z. z <ᶠ zero_f) k (neg_below_f a h))),
)

product_below : (l : Bounds) (a low : Fraction) → a <ᶠ zero_f → l.low ≡ Some low → IsLeastProduct l (neg_f a) (least_at l a)
product_below l a low h e = (
  λ k. (low, e, least_below l a low h e),
  λ k. absurd (lt_asymm_f (neg_f a) zero_f k (neg_above_f a h)),
  λ k. absurd (lt_irrefl_f zero_f (subst (λ z. zero_f <ᶠ z) k (neg_above_f a h))),
)

product_none : (l : Bounds) (a : Fraction) → a ≡ zero_f → IsLeastProduct l (neg_f a) (least_at l a)
product_none l a e =
    let n : neg_f a ≡ zero_f = ap neg_f e ∙ neg_nil_f in (
      λ k. absurd (lt_irrefl_f zero_f (subst (λ z. zero_f <ᶠ z) n k)),
      λ k. absurd (lt_irrefl_f zero_f (subst (λ z. z <ᶠ zero_f) n k)),
      λ k. least_none l a e,
    )

-- ---- what a nonbasic variable takes away
abbrev lowers : Bool → Bool → Option Fraction → Fraction → Fraction
lowers fixed enters w a = if (if fixed then false else enters) then lowered_by w a else zero_f

lowers_nothing : (c m : Bool) (w : Option Fraction) (a : Fraction) → m ≡ false → lowers c m w a ≡ zero_f
lowers_nothing true m w a e = refl
lowers_nothing false true w a e = absurd (true≢false e)
lowers_nothing false false w a e = refl

lowers_fixed : (c m : Bool) (w : Option Fraction) (a : Fraction) → c ≡ true → lowers c m w a ≡ zero_f
lowers_fixed true m w a e = refl
lowers_fixed false m w a e = absurd (true≢false (sym e))

lowers_by : (c m : Bool) (o : Option Fraction) (w a : Fraction) → c ≡ false → m ≡ true → o ≡ Some w → lowers c m o a ≡ absolute a *ᶠ w
lowers_by true m o w a e h k = absurd (true≢false e)
lowers_by false false o w a e h k = absurd (true≢false (sym h))
lowers_by false true o w a e h k = ap (λ z. lowered_by z a) k

absolute_above : (a : Fraction) → zero_f <ᶠ a → absolute a ≡ a
absolute_above a h = ap (λ c. if c then neg_f a else a) ((not_below_iff a zero_f).1 (lt_le_f zero_f a h))

absolute_below : (a : Fraction) → a <ᶠ zero_f → absolute a ≡ neg_f a
absolute_below a h = ap (λ c. if c then neg_f a else a) ((is_below_iff a zero_f).1 h)

-- the least product is there, and is that of the variable's value without what its flip would lower
abbrev Lowest : Bounds → Stand → Fraction → Fraction → Type 0
Lowest l st x a = IsLeastProduct l (neg_f a) (least_at l a) × (least_at l a ≡ neg_f a *ᶠ x -ᶠ lowers (is_fixed l) (may_enter st a) (width l) a)

abbrev Passes : Bounds → Stand → Fraction → Type 0
Passes l st a = is_fixed l ≡ false → may_enter st a ≡ true → (w : Fraction) × (width l ≡ Some w)

as_it_stands : (l : Bounds) (st : Stand) (x a : Fraction) → IsLeastProduct l (neg_f a) (least_at l a) → least_at l a ≡ neg_f a *ᶠ x → lowers (is_fixed l) (may_enter st a) (width l) a ≡ zero_f → Lowest l st x a
as_it_stands l st x a p e h = (p, e ∙ by_ring_f (a ∷ x ∷ []) (⊖ (var 0) ⊗ var 1) (⊖ (var 0) ⊗ var 1 ⊕ ⊖ t0) refl ∙ ap (λ z. neg_f a *ᶠ x -ᶠ z) (sym h))

enters_nothing : (st : Stand) (a : Fraction) → a ≡ zero_f → may_enter st a ≡ false
enters_nothing Basic a e = refl
enters_nothing Lower a e = (not_below_iff zero_f a).1 (subst (λ z. z ≤ᶠ zero_f) (sym e) (le_refl_f zero_f))
enters_nothing Upper a e = (not_below_iff a zero_f).1 (subst (λ z. zero_f ≤ᶠ z) (sym e) (le_refl_f zero_f))
enters_nothing Zero a e = ap not ((is_zero_iff a).1 e)

lowest_none : (l : Bounds) (st : Stand) (x a : Fraction) → a ≡ zero_f → Lowest l st x a
lowest_none l st x a e = as_it_stands l st x a (product_none l a e)
    (least_none l a e ∙ by_ring_f (x ∷ []) t0 (⊖ t0 ⊗ var 0) refl ∙ ap (λ z. neg_f z *ᶠ x) (sym e))
    (lowers_nothing (is_fixed l) (may_enter st a) (width l) a (enters_nothing st a e))

either_way : (c : Bool) → (c ≡ true) ⊎ (c ≡ false)
either_way true = inl refl
either_way false = inr refl

lower_above : (l : Bounds) (x a : Fraction) → l.low ≡ Some x → Passes l Lower a → zero_f <ᶠ a → Lowest l Lower x a
lower_above l x a e passes h = ⊎_elim
    (λ (c : is_fixed l ≡ true). let k = (fixed_iff l).0 c in
    as_it_stands l Lower x a (product_above l a k.0 h k.2) (least_above l a k.0 h k.2 ∙ ap (λ z. neg_f a *ᶠ z) (same_Some k.0 x (sym k.1 ∙ e))) (lowers_fixed (is_fixed l) (may_enter Lower a) (width l) a c))
    (λ (c : is_fixed l ≡ false).
    let m : may_enter Lower a ≡ true = (is_below_iff zero_f a).1 h in
    let w = passes c m in
    let k = width_is l w.0 w.1 in (
      product_above l a k.1 h k.3,
      least_above l a k.1 h k.3
          ∙ by_ring_f (a ∷ k.0 ∷ k.1 ∷ []) (⊖ (var 0) ⊗ var 2) (⊖ (var 0) ⊗ var 1 ⊕ ⊖ (var 0 ⊗ (var 2 ⊕ ⊖ (var 1)))) refl
          ∙ ap (λ z. neg_f a *ᶠ z -ᶠ a *ᶠ (k.1 -ᶠ k.0)) (same_Some k.0 x (sym k.2 ∙ e))
          ∙ ap (λ z. neg_f a *ᶠ x -ᶠ z *ᶠ (k.1 -ᶠ k.0)) (sym (absolute_above a h))
          ∙ ap (λ z. neg_f a *ᶠ x -ᶠ absolute a *ᶠ z) (sym k.5)
          ∙ ap (λ z. neg_f a *ᶠ x -ᶠ z) (sym (lowers_by (is_fixed l) (may_enter Lower a) (width l) w.0 a c m w.1)),
    ))
    (either_way (is_fixed l))

upper_below : (l : Bounds) (x a : Fraction) → l.high ≡ Some x → Passes l Upper a → a <ᶠ zero_f → Lowest l Upper x a
upper_below l x a e passes h = ⊎_elim
    (λ (c : is_fixed l ≡ true). let k = (fixed_iff l).0 c in
    as_it_stands l Upper x a (product_below l a k.0 h k.1) (least_below l a k.0 h k.1 ∙ ap (λ z. neg_f a *ᶠ z) (same_Some k.0 x (sym k.2 ∙ e))) (lowers_fixed (is_fixed l) (may_enter Upper a) (width l) a c))
    (λ (c : is_fixed l ≡ false).
    let m : may_enter Upper a ≡ true = (is_below_iff a zero_f).1 h in
    let w = passes c m in
    let k = width_is l w.0 w.1 in (
      product_below l a k.0 h k.2,
      least_below l a k.0 h k.2
          ∙ by_ring_f (a ∷ k.0 ∷ k.1 ∷ []) (⊖ (var 0) ⊗ var 1) (⊖ (var 0) ⊗ var 2 ⊕ ⊖ (⊖ (var 0) ⊗ (var 2 ⊕ ⊖ (var 1)))) refl
          ∙ ap (λ z. neg_f a *ᶠ z -ᶠ neg_f a *ᶠ (k.1 -ᶠ k.0)) (same_Some k.1 x (sym k.3 ∙ e))
          ∙ ap (λ z. neg_f a *ᶠ x -ᶠ z *ᶠ (k.1 -ᶠ k.0)) (sym (absolute_below a h))
          ∙ ap (λ z. neg_f a *ᶠ x -ᶠ absolute a *ᶠ z) (sym k.5)
          ∙ ap (λ z. neg_f a *ᶠ x -ᶠ z) (sym (lowers_by (is_fixed l) (may_enter Upper a) (width l) w.0 a c m w.1)),
    ))
    (either_way (is_fixed l))

by_sign : (a : Fraction) (P : Type 0) → (a <ᶠ zero_f → P) → (a ≡ zero_f → P) → (zero_f <ᶠ a → P) → P
by_sign a P below none above = ⊎_elim below (λ (n : (a ≡ zero_f) ⊎ (zero_f <ᶠ a)). ⊎_elim none above n) (lt_trichotomy_f a zero_f)

nonbasic_lowest : (l : Bounds) (st : Stand) (x a : Fraction) → ¬ (st ≡ Basic) → StandsAt l st x → Passes l st a → Lowest l st x a
nonbasic_lowest l Basic x a n h passes = absurd (n refl)
nonbasic_lowest l Lower x a n h passes = by_sign a (Lowest l Lower x a)
    (λ s. as_it_stands l Lower x a (product_below l a x s h) (least_below l a x s h) (lowers_nothing (is_fixed l) (may_enter Lower a) (width l) a ((not_below_iff zero_f a).1 (lt_le_f a zero_f s))))
    (lowest_none l Lower x a)
    (lower_above l x a h passes)
nonbasic_lowest l Upper x a n h passes = by_sign a (Lowest l Upper x a)
    (upper_below l x a h passes)
    (lowest_none l Upper x a)
    (λ s. as_it_stands l Upper x a (product_above l a x s h) (least_above l a x s h) (lowers_nothing (is_fixed l) (may_enter Upper a) (width l) a ((not_below_iff a zero_f).1 (lt_le_f zero_f a s))))
nonbasic_lowest l Zero x a n h passes = by_sign a (Lowest l Zero x a)
    (λ s. absurd (stuck (λ e. lt_irrefl_f zero_f (subst (λ z. z <ᶠ zero_f) e s))))
    (lowest_none l Zero x a)
    (λ s. absurd (stuck (λ e. lt_irrefl_f zero_f (subst (λ z. zero_f <ᶠ z) e s))))
  where
    stuck : ¬ (a ≡ zero_f) → ⊥
    stuck k = ⊎_elim
        (λ (c : is_fixed l ≡ true). let d = (fixed_iff l).0 c in none-some d.0 (sym h.0 ∙ d.1))
        (λ (c : is_fixed l ≡ false). let w = passes c (ap not ((not_zero_iff a).1 k)) in let d = width_is l w.0 w.1 in none-some d.0 (sym h.0 ∙ d.2))
        (either_way (is_fixed l))

-- ---- the leaving variable adds the distance
leaving_lowest : (side : Side) (l : Bounds) (x amount : Fraction) → IsPast side l x amount → IsLeastProduct l (neg_f (toward side (of_int (pos 1)))) (least_at l (toward side (of_int (pos 1)))) × (least_at l (toward side (of_int (pos 1))) ≡ neg_f (toward side (of_int (pos 1))) *ᶠ x +ᶠ amount)
leaving_lowest Above l x amount h = (
  product_above l (of_int (pos 1)) h.0 zero_lt_one_f h.1,
  least_above l (of_int (pos 1)) h.0 zero_lt_one_f h.1 ∙ by_ring_f (h.0 ∷ x ∷ []) (⊖ t1 ⊗ var 0) (⊖ t1 ⊗ var 1 ⊕ (var 1 ⊕ ⊖ (var 0))) refl ∙ ap (λ z. neg_f (of_int (pos 1)) *ᶠ x +ᶠ z) (sym h.3),
)
leaving_lowest Below l x amount h =
    let one : Fraction = neg_f (of_int (pos 1)) in (
      product_below l one h.0 (neg_below_f (of_int (pos 1)) zero_lt_one_f) h.1,
      least_below l one h.0 (neg_below_f (of_int (pos 1)) zero_lt_one_f) h.1 ∙ by_ring_f (h.0 ∷ x ∷ []) (⊖ (⊖ t1) ⊗ var 0) (⊖ (⊖ t1) ⊗ var 1 ⊕ (var 0 ⊕ ⊖ (var 1))) refl ∙ ap (λ z. neg_f one *ᶠ x +ᶠ z) (sym h.3),
    )

-- ---- all variables
-- what all flips lower is less than the distance
all_passed : (f : Form) (b : Basis) (l : Leaving) (xs vs : List ℕ) → walk_order f b l ≡ xs ++ vs → ((v : ℕ) → Has vs v → ends_at f b l v ≡ false) → list_sum (flip_lowers f l) xs <ᶠ l.violation.amount → list_sum (flip_lowers f l) (xs ++ vs) <ᶠ l.violation.amount
all_passed f b l xs [] e n h = subst (λ z. list_sum (flip_lowers f l) z <ᶠ l.violation.amount) (sym (append-nil xs)) h
all_passed f b l xs (v ∷ vs) e n h =
    let w = passed_boxed f b l v (n v (inl refl)) in
    let stop : is_at_most l.violation.amount (lowered_before f b l v +ᶠ flip_lowers f l v) ≡ false = sym (ap (λ o. stops_at o (lowered_before f b l v +ᶠ flip_lowers f l v) l.violation.amount) w.1) ∙ n v (inl refl) in
    let less : (lowered_before f b l v +ᶠ flip_lowers f l v) <ᶠ l.violation.amount = (not_at_most_iff l.violation.amount (lowered_before f b l v +ᶠ flip_lowers f l v)).0 stop in
    let sum : lowered_before f b l v +ᶠ flip_lowers f l v ≡ list_sum (flip_lowers f l) (xs ++ v ∷ []) =
    ap (λ z. z +ᶠ flip_lowers f l v) (lowered_is f b l xs v vs e)
    ∙ by_ring_f (list_sum (flip_lowers f l) xs ∷ flip_lowers f l v ∷ []) (var 0 ⊕ var 1) (var 0 ⊕ (var 1 ⊕ t0)) refl
    ∙ sym (list_sum_append (flip_lowers f l) xs (v ∷ [])) in
    subst (λ z. list_sum (flip_lowers f l) z <ᶠ l.violation.amount) (append_assoc xs (v ∷ []) vs)
    (all_passed f b l (xs ++ v ∷ []) vs (e ∙ sym (append_assoc xs (v ∷ []) vs)) (λ z k. n z (inr k)) (subst (λ z. z <ᶠ l.violation.amount) sum less))

pub flips_lower_less : (f : Form) (b : Basis) (l : Leaving) → NoneEnds f b l → zero_f <ᶠ l.violation.amount → list_sum (flip_lowers f l) (walk_order f b l) <ᶠ l.violation.amount
flips_lower_less f b l n h = all_passed f b l [] (walk_order f b l) refl (λ v k. let c = walk_has f b l v k in n v c.0 c.1) h

abbrev taken_away : Form → Basis → Leaving → ℕ → Fraction
taken_away f b l u = if is_candidate f b l u then flip_lowers f l u else zero_f

taken_sum : (f : Form) (b : Basis) (l : Leaving) → sum_to (variables f) (taken_away f b l) ≡ list_sum (flip_lowers f l) (walk_order f b l)
taken_sum f b l = sym (list_sum_filter (is_candidate f b l) (flip_lowers f l) (variables f)) ∙ sym (list_sum_ordered (flip_lowers f l) (walks_before f l) (candidates f b l))

-- at each variable
abbrev LeastAt : Form → Basis → Fresh → ℕ → Violation → ℕ → Type 0
LeastAt f b s p v u =
    IsLeastProduct (limits f u) (neg_f (turned_entry f (leaving_at s p v) u)) (least_at (limits f u) (turned_entry f (leaving_at s p v) u))
    × (least_at (limits f u) (turned_entry f (leaving_at s p v) u)
    ≡ (neg_f (turned_entry f (leaving_at s p v) u) *ᶠ get s.values u +ᶠ unit (head_at b p) u *ᶠ v.amount) -ᶠ taken_away f b (leaving_at s p v) u)

not_candidate : (f : Form) (b : Basis) (l : Leaving) (u : ℕ) → stand_at b u ≡ Basic → taken_away f b l u ≡ zero_f
not_candidate f b l u e = lowers_nothing (is_fixed (limits f u)) (may_enter (stand_at b u) (turned_entry f l u)) (width (limits f u)) (turned_entry f l u) (ap (λ st. may_enter st (turned_entry f l u)) e)

toward_nothing : (side : Side) → toward side zero_f ≡ zero_f
toward_nothing Above = refl
toward_nothing Below = neg_nil_f

least_basic : (f : Form) (b : Basis) (s : Fresh) (p : ℕ) (v : Violation) (j : ℕ) → IsBasis f b → IsFresh f b s → p < f.rows → j < f.rows → violation (limits f (head_at b p)) (value_at_place b s p) ≡ Some v → LeastAt f b s p v (head_at b j)
least_basic f b s p v j is h l m o =
    let u : ℕ = head_at b j in
    let way : Leaving = leaving_at s p v in
    let a : Fraction = turned_entry f way u in
    let x : Fraction = get s.values u in
    ⊎_elim
    (λ (e : p ≡ j).
    let one : toward v.side (of_int (pos 1)) ≡ a = ap (toward v.side) (sym (ap (unit p) (sym e) ∙ unit_same p)) ∙ ap (toward v.side) (sym (basic_entry f b s p j h l m)) in
    let past : IsPast v.side (limits f u) x v.amount = subst (λ k. IsPast v.side (limits f (head_at b k)) (value_at_place b s k) v.amount) e (violation_past (limits f (head_at b p)) (value_at_place b s p) v o) in
    let both = subst (λ z. IsLeastProduct (limits f u) (neg_f z) (least_at (limits f u) z) × (least_at (limits f u) z ≡ neg_f z *ᶠ x +ᶠ v.amount)) one (leaving_lowest v.side (limits f u) x v.amount past) in (
      both.0,
      both.1
          ∙ by_ring_f ((neg_f a *ᶠ x) ∷ v.amount ∷ []) (var 0 ⊕ var 1) ((var 0 ⊕ t1 ⊗ var 1) ⊕ ⊖ t0) refl
          ∙ ap (λ z. (neg_f a *ᶠ x +ᶠ z *ᶠ v.amount) -ᶠ zero_f) (sym (unit_same u) ∙ ap (λ k. unit (head_at b k) u) (sym e))
          ∙ ap (λ z. (neg_f a *ᶠ x +ᶠ unit (head_at b p) u *ᶠ v.amount) -ᶠ z) (sym (not_candidate f b way u (is.basic j m))),
    ))
    (λ (n : ¬ (p ≡ j)).
    let nothing : a ≡ zero_f = ap (toward v.side) (basic_entry f b s p j h l m ∙ unit_other p j n) ∙ toward_nothing v.side in (
      product_none (limits f u) a nothing,
      least_none (limits f u) a nothing
          ∙ by_ring_f (x ∷ v.amount ∷ []) t0 ((⊖ t0 ⊗ var 0 ⊕ t0 ⊗ var 1) ⊕ ⊖ t0) refl
          ∙ ap (λ z. (neg_f z *ᶠ x +ᶠ zero_f *ᶠ v.amount) -ᶠ zero_f) (sym nothing)
          ∙ ap (λ z. (neg_f a *ᶠ x +ᶠ z *ᶠ v.amount) -ᶠ zero_f) (sym (unit_other (head_at b p) u (λ e. n (is.distinct p j l m e))))
          ∙ ap (λ z. (neg_f a *ᶠ x +ᶠ unit (head_at b p) u *ᶠ v.amount) -ᶠ z) (sym (not_candidate f b way u (is.basic j m))),
    ))
    (cases_eq p j)

both_pass : (c m : Bool) → c ≡ false → m ≡ true → (if c then false else m) ≡ true
both_pass true m e h = absurd (true≢false e)
both_pass false m e h = h

least_nonbasic : (f : Form) (b : Basis) (s : Fresh) (p : ℕ) (v : Violation) (u : ℕ) → IsBasis f b → IsFresh f b s → p < f.rows → u < variables f → NoneEnds f b (leaving_at s p v) → ¬ (stand_at b u ≡ Basic) → LeastAt f b s p v u
least_nonbasic f b s p v u is h l m none n =
    let way : Leaving = leaving_at s p v in
    let a : Fraction = turned_entry f way u in
    let x : Fraction = get s.values u in
    let low = nonbasic_lowest (limits f u) (stand_at b u) x a n (h.values.nonbasic u m) (λ c e. passed_boxed f b way u (none u m (both_pass (is_fixed (limits f u)) (may_enter (stand_at b u) a) c e))) in (
      low.0,
      low.1
          ∙ by_ring_f ((neg_f a *ᶠ x) ∷ taken_away f b way u ∷ v.amount ∷ []) (var 0 ⊕ ⊖ (var 1)) ((var 0 ⊕ t0 ⊗ var 2) ⊕ ⊖ (var 1)) refl
          ∙ ap (λ z. (neg_f a *ᶠ x +ᶠ z *ᶠ v.amount) -ᶠ taken_away f b way u) (sym (unit_other (head_at b p) u (λ e. n (ap (stand_at b) (sym e) ∙ is.basic p l)))),
    )

least_of : (f : Form) (b : Basis) (s : Fresh) (p : ℕ) (v : Violation) (u : ℕ) → IsBasis f b → IsFresh f b s → p < f.rows → u < variables f → violation (limits f (head_at b p)) (value_at_place b s p) ≡ Some v → NoneEnds f b (leaving_at s p v) → LeastAt f b s p v u
least_of f b s p v u is h l m o none = ⊎_elim
    (λ (e : stand_at b u ≡ Basic). let k = is.placed u m e in subst (LeastAt f b s p v) k.2 (least_basic f b s p v k.0 is h l k.1 o))
    (λ (n : ¬ (stand_at b u ≡ Basic)). least_nonbasic f b s p v u is h l m none n)
    (basic_or_not (stand_at b u))

-- ---- the certificate
toward_row : (side : Side) (m : ℕ) (rho c : ℕ → Fraction) → dot m (λ i. toward side (rho i)) c ≡ toward side (dot m rho c)
toward_row Above m rho c = refl
toward_row Below m rho c = dot_neg m rho c

pub row_certificate : (f : Form) (b : Basis) (s : Fresh) (p : ℕ) (v : Violation) → IsBasis f b → IsFresh f b s → p < f.rows → violation (limits f (head_at b p)) (value_at_place b s p) ≡ Some v → NoneEnds f b (leaving_at s p v) → HoldsInfeasible f (λ i. toward v.side (get (row_at s p) i))
row_certificate f b s p v is h l o none = record { least = t; finite = finite; positive = subst (λ z. zero_f <ᶠ z) (sym total) positive }
  where
    way : Leaving
    way = leaving_at s p v

    a : ℕ → Fraction
    a = turned_entry f way

    t : ℕ → Fraction
    t u = least_at (limits f u) (a u)

    x : ℕ → Fraction
    x = get s.values

    at : (u : ℕ) → u < variables f → LeastAt f b s p v u
    at u m = least_of f b s p v u is h l m o none

    finite : (u : ℕ) → u < variables f → IsLeastProduct (limits f u) (neg_f (dot f.rows (λ i. toward v.side (get (row_at s p) i)) (coefficient f u))) (t u)
    finite u m = subst (λ z. IsLeastProduct (limits f u) (neg_f z) (t u)) (sym (toward_row v.side f.rows (get (row_at s p)) (coefficient f u))) (at u m).0

    vanishes : sum_to (variables f) (λ u. neg_f (a u) *ᶠ x u) ≡ zero_f
    vanishes =
        sum_same (variables f) (λ u. neg_f (a u) *ᶠ x u) (λ u. neg_f (dot f.rows (λ i. toward v.side (get (row_at s p) i)) (coefficient f u) *ᶠ x u))
        (λ u m. by_ring_f (a u ∷ x u ∷ []) (⊖ (var 0) ⊗ var 1) (⊖ (var 0 ⊗ var 1)) refl ∙ ap (λ z. neg_f (z *ᶠ x u)) (sym (toward_row v.side f.rows (get (row_at s p)) (coefficient f u))))
        ∙ sum_neg (variables f) (λ u. dot f.rows (λ i. toward v.side (get (row_at s p) i)) (coefficient f u) *ᶠ x u)
        ∙ ap neg_f (rows_vanish f (λ i. toward v.side (get (row_at s p) i)) x h.values.point) ∙ neg_nil_f

    total : sum_to (variables f) t ≡ v.amount -ᶠ list_sum (flip_lowers f way) (walk_order f b way)
    total =
        sum_same (variables f) t (λ u. (neg_f (a u) *ᶠ x u +ᶠ unit (head_at b p) u *ᶠ v.amount) -ᶠ taken_away f b way u) (λ u m. (at u m).1)
        ∙ sum_sub (variables f) (λ u. neg_f (a u) *ᶠ x u +ᶠ unit (head_at b p) u *ᶠ v.amount) (taken_away f b way)
        ∙ ap (λ z. z -ᶠ sum_to (variables f) (taken_away f b way)) (sum_add (variables f) (λ u. neg_f (a u) *ᶠ x u) (λ u. unit (head_at b p) u *ᶠ v.amount))
        ∙ ap (λ z. (z +ᶠ sum_to (variables f) (λ u. unit (head_at b p) u *ᶠ v.amount)) -ᶠ sum_to (variables f) (taken_away f b way)) vanishes
        ∙ ap (λ z. (zero_f +ᶠ z) -ᶠ sum_to (variables f) (taken_away f b way)) (sum_unit (variables f) (head_at b p) (λ u. v.amount) (is.within p l))
        ∙ ap (λ z. (zero_f +ᶠ v.amount) -ᶠ z) (taken_sum f b way)
        ∙ by_ring_f (v.amount ∷ list_sum (flip_lowers f way) (walk_order f b way) ∷ []) ((t0 ⊕ var 0) ⊕ ⊖ (var 1)) (var 0 ⊕ ⊖ (var 1)) refl

    positive : zero_f <ᶠ (v.amount -ᶠ list_sum (flip_lowers f way) (walk_order f b way))
    positive = gap_above (list_sum (flip_lowers f way) (walk_order f b way)) v.amount (flips_lower_less f b way none (violation_positive (limits f (head_at b p)) (value_at_place b s p) v o))

no_step : (f : Form) (b : Basis) (s : Fresh) (p : ℕ) (v : Violation) → step_at f b s p v ≡ None → NoneEnds f b (leaving_at s p v)
no_step f b s p v e = (none_entering f b (leaving_at s p v)).0 (go (ratio_walk f b (leaving_at s p v)) e)
  where
    go : (o : Option Entering) → option_map (step_by b p v.side) o ≡ None → o ≡ None
    go None k = refl
    go (Some w) k = absurd (none-some (step_by b p v.side w) (sym k))

pub infeasible_without_step : (f : Form) (b : Basis) (s : Fresh) (p : ℕ) (v : Violation) → IsBasis f b → IsFresh f b s → p < f.rows → violation (limits f (head_at b p)) (value_at_place b s p) ≡ Some v → step_at f b s p v ≡ None → HoldsInfeasible f (λ i. toward v.side (get (row_at s p) i))
infeasible_without_step f b s p v is h l o e = row_certificate f b s p v is h l o (no_step f b s p v e)
