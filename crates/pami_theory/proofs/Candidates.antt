-- The candidates of the ratio walk, in walk order, and the one that enters.
use Rattle.std.proofs.Common.{◌≡◌, ◌↔◌, ℕ, zero, suc, ◌+◌, ◌<◌, ◌⊎◌, inl, inr, ⊎_elim, Bool, true, false, not, ◌&&◌, List, [], ◌∷◌, Option, None, Some, refl, sym, ap, ◌∙◌, subst, arith, true≢false, nat_lt}
use Rattle.std.specs.List.{Contains, filter, find, range_with_len, IsDistinct, AllByRecursion}
use Rattle.std.specs.List.Sorted.{IsSortedBy, ties}
use Rattle.std.specs.Cmp.{IsStrictWeakOrder}
use Rattle.std.specs.Option.{option_map}
use Rattle.std.proofs.lemmas.Bool.{cases_eq, lt-ltb, le-ltb}
use Rattle.std.proofs.lemmas.Option.{none-some, same_Some}
use Rattle.pami_algebra.specs.Fraction.{Fraction}
use Rattle.pami_algebra.specs.Operations.{◌+ᶠ◌}
use Rattle.pami_theory.specs.Form.{Form, variables, limits}
use Rattle.pami_theory.specs.Basis.{Basis}
use Rattle.pami_theory.specs.Violation.{width}
use Rattle.pami_theory.specs.Order.{ordered}
use Rattle.pami_theory.specs.Ratio.{Leaving, is_candidate, walks_before, walk_order, flip_lowers, lowered_before, stops_at, ends_at, IsEntering, Entering, entering_at, ratio_walk}
use Rattle.pami_theory.proofs.Members.{Has, contains_from, has_from, filter_has, has_filter, range_has, has_range, found_has, none_found}
use Rattle.pami_theory.proofs.Orders.{Rises, Keeps, Apart, ordered_has, has_ordered, ordered_permutes, ordered_sorted, sorted_rises, filter_rises, before_found, keeps_sorted}
use Rattle.pami_theory.proofs.Comparisons.{walk_is_order, walk_either}

-- ---- lists with no ties
pub apart_distinct : {A : Type 0} (before : A → A → Bool) (xs : List A) → Apart before xs → IsDistinct (ties before) xs
unfolding IsDistinct
apart_distinct before [] h = tt
apart_distinct {A} before (x ∷ xs) h = (each xs (λ z k. untied (before x z) (before z x) (h.0 z k)), apart_distinct before xs h.1)
  where
    untied : (a b : Bool) → (a ≡ true) ⊎ (b ≡ true) → (not a && not b) ≡ false
    untied true b e = refl
    untied false true e = refl
    untied false false (inl e) = sym e
    untied false false (inr e) = sym e

    each : (ys : List A) → ((z : A) → Has ys z → ties before x z ≡ false) → AllByRecursion (λ z. ties before x z ≡ false) ys
    each [] go = tt
    each (y ∷ ys) go = (go y (inl refl), each ys (λ z k. go z (inr k)))

pub range_rises : (a n : ℕ) → Rises nat_lt (range_with_len a n)
range_rises a zero = tt
range_rises a (suc n) = (λ z h. let k = range_has (a + 1) n z h in lt-ltb a z (omega (arith, k.0)), range_rises (a + 1) n)

pub rises_apart : (before : ℕ → ℕ → Bool) (vs : List ℕ) → ((j k : ℕ) → ¬ (j ≡ k) → (before j k ≡ true) ⊎ (before k j ≡ true)) → Rises nat_lt vs → Apart before vs
rises_apart before [] e h = tt
rises_apart before (v ∷ vs) e h = (
  λ z k. e v z (λ q. true≢false (sym (h.0 z k) ∙ ap (nat_lt v) (sym q) ∙ itself v)),
  rises_apart before vs e h.1,
)
  where
    itself : (n : ℕ) → nat_lt n n ≡ false
    itself n = le-ltb n n (omega arith)

-- ---- candidates
abbrev pub candidates : Form → Basis → Leaving → List ℕ
candidates f b l = filter (is_candidate f b l) (range_with_len 0 (variables f))

pub candidates_apart : (f : Form) (b : Basis) (l : Leaving) → Apart (walks_before f l) (candidates f b l)
candidates_apart f b l = rises_apart (walks_before f l) (candidates f b l) (walk_either f l) (filter_rises nat_lt (is_candidate f b l) (range_with_len 0 (variables f)) (range_rises 0 (variables f)))

pub no_ties : (f : Form) (b : Basis) (l : Leaving) → IsDistinct (ties (walks_before f l)) (candidates f b l)
no_ties f b l = apart_distinct (walks_before f l) (candidates f b l) (candidates_apart f b l)

abbrev pub IsOne : Form → Basis → Leaving → ℕ → Type 0
IsOne f b l v = (v < variables f) × (is_candidate f b l v ≡ true)

pub candidates_has : (f : Form) (b : Basis) (l : Leaving) (v : ℕ) → Has (candidates f b l) v → IsOne f b l v
candidates_has f b l v h =
    let k = filter_has (is_candidate f b l) (range_with_len 0 (variables f)) v h in
    let r = range_has 0 (variables f) v k.0 in
    (omega (arith, r.1), k.1)

pub has_candidates : (f : Form) (b : Basis) (l : Leaving) (v : ℕ) → IsOne f b l v → Has (candidates f b l) v
has_candidates f b l v h = has_filter (is_candidate f b l) (range_with_len 0 (variables f)) v (has_range 0 (variables f) v (omega arith) (omega (arith, h.0))) h.1

pub walk_has : (f : Form) (b : Basis) (l : Leaving) (v : ℕ) → Has (walk_order f b l) v → IsOne f b l v
walk_has f b l v h = candidates_has f b l v (ordered_has (walks_before f l) (candidates f b l) v h)

pub has_walk : (f : Form) (b : Basis) (l : Leaving) (v : ℕ) → IsOne f b l v → Has (walk_order f b l) v
has_walk f b l v h = has_ordered (walks_before f l) (candidates f b l) v (has_candidates f b l v h)

-- of the members of a list that are apart, so are those of the list in order
ordered_apart : (before : ℕ → ℕ → Bool) (xs : List ℕ) → IsStrictWeakOrder before → IsDistinct (ties before) xs → Rises before (ordered before xs)
ordered_apart before xs o h = sorted_rises before o xs (ordered before xs) h (ordered_permutes before xs) (ordered_sorted before xs o)

pub walk_rises : (f : Form) (b : Basis) (l : Leaving) → Rises (walks_before f l) (walk_order f b l)
walk_rises f b l = ordered_apart (walks_before f l) (candidates f b l) (walk_is_order f l) (no_ties f b l)

-- ---- the one that enters
pub entering_found : (f : Form) (b : Basis) (l : Leaving) (q : ℕ) → find (ends_at f b l) (walk_order f b l) ≡ Some q → IsEntering f b l q
entering_found f b l q h =
    let k = found_has (ends_at f b l) (walk_order f b l) q h in
    let one = walk_has f b l q k.0 in
    record {
      within = one.0;
      candidate = one.1;
      ends = k.1;
      first = λ j m c e. before_found (walks_before f l) (walk_is_order f l) (ends_at f b l) (walk_order f b l) q j (walk_rises f b l) h (has_walk f b l j (m, c)) e;
    }

pub one_entering : (f : Form) (b : Basis) (l : Leaving) (q r : ℕ) → IsEntering f b l q → IsEntering f b l r → q ≡ r
one_entering f b l q r h k = ⊎_elim
    (λ (e : q ≡ r). e)
    (λ (n : ¬ (q ≡ r)). ⊎_elim
    (λ (e : walks_before f l q r ≡ true). absurd (true≢false (sym h.ends ∙ k.first q h.within h.candidate e)))
    (λ (e : walks_before f l r q ≡ true). absurd (true≢false (sym k.ends ∙ h.first r k.within k.candidate e)))
    (walk_either f l q r n))
    (cases_eq q r)

pub found_entering : (f : Form) (b : Basis) (l : Leaving) (q : ℕ) → IsEntering f b l q → find (ends_at f b l) (walk_order f b l) ≡ Some q
found_entering f b l q h = go (find (ends_at f b l) (walk_order f b l)) refl
  where
    go : (o : Option ℕ) → find (ends_at f b l) (walk_order f b l) ≡ o → o ≡ Some q
    go None e = absurd (true≢false (sym h.ends ∙ none_found (ends_at f b l) (walk_order f b l) q e (has_walk f b l q (h.within, h.candidate))))
    go (Some r) e = ap Some (one_entering f b l r q (entering_found f b l r e) h)

-- ---- the walk
pub walk_enters : (f : Form) (b : Basis) (l : Leaving) (q : ℕ) → IsEntering f b l q → ratio_walk f b l ≡ Some (entering_at f b l q)
walk_enters f b l q h = ap (option_map (entering_at f b l)) (found_entering f b l q h)

pub entered_by_walk : (f : Form) (b : Basis) (l : Leaving) (e : Entering) → ratio_walk f b l ≡ Some e → IsEntering f b l e.variable × (e ≡ entering_at f b l e.variable)
entered_by_walk f b l e h = go (find (ends_at f b l) (walk_order f b l)) refl h
  where
    go : (o : Option ℕ) → find (ends_at f b l) (walk_order f b l) ≡ o → option_map (entering_at f b l) o ≡ Some e → IsEntering f b l e.variable × (e ≡ entering_at f b l e.variable)
    go None i k = absurd (none-some e k)
    go (Some q) i k =
        let same : entering_at f b l q ≡ e = same_Some (entering_at f b l q) e k in
        let at : q ≡ e.variable = ap (λ (z : Entering). z.variable) same in
        (subst (IsEntering f b l) at (entering_found f b l q i), sym same ∙ ap (entering_at f b l) at)

abbrev pub NoneEnds : Form → Basis → Leaving → Type 0
NoneEnds f b l = (k : ℕ) → k < variables f → is_candidate f b l k ≡ true → ends_at f b l k ≡ false

pub none_entering : (f : Form) (b : Basis) (l : Leaving) → ratio_walk f b l ≡ None ↔ NoneEnds f b l
none_entering f b l = (λ h. out (find (ends_at f b l) (walk_order f b l)) refl h, λ h. back (find (ends_at f b l) (walk_order f b l)) refl h)
  where
    out : (o : Option ℕ) → find (ends_at f b l) (walk_order f b l) ≡ o → option_map (entering_at f b l) o ≡ None → NoneEnds f b l
    out None e h = λ k m c. none_found (ends_at f b l) (walk_order f b l) k e (has_walk f b l k (m, c))
    out (Some q) e h = absurd (none-some (entering_at f b l q) (sym h))

    back : (o : Option ℕ) → find (ends_at f b l) (walk_order f b l) ≡ o → NoneEnds f b l → option_map (entering_at f b l) o ≡ None
    back None e h = refl
    back (Some q) e h = let k = entering_found f b l q e in absurd (true≢false (sym k.ends ∙ h q k.within k.candidate))

-- ---- flips
abbrev pub flips_at : Form → Basis → Leaving → ℕ → List ℕ
flips_at f b l q = filter (λ j. walks_before f l j q) (walk_order f b l)

abbrev pub IsBeforeIt : Form → Basis → Leaving → ℕ → ℕ → Type 0
IsBeforeIt f b l q v = (v < variables f) × (is_candidate f b l v ≡ true) × (walks_before f l v q ≡ true)

pub flips_has : (f : Form) (b : Basis) (l : Leaving) (q v : ℕ) → Has (flips_at f b l q) v → IsBeforeIt f b l q v
flips_has f b l q v h =
    let k = filter_has (λ j. walks_before f l j q) (walk_order f b l) v h in
    let one = walk_has f b l v k.0 in
    (one.0, one.1, k.1)

pub flips_are : (f : Form) (b : Basis) (l : Leaving) (q v : ℕ) → Contains (flips_at f b l q) v ↔ IsBeforeIt f b l q v
flips_are f b l q v = (
  λ h. flips_has f b l q v (has_from (flips_at f b l q) v h),
  λ h. contains_from (flips_at f b l q) v (has_filter (λ j. walks_before f l j q) (walk_order f b l) v (has_walk f b l v (h.0, h.1)) h.2),
)

pub flips_rise : (f : Form) (b : Basis) (l : Leaving) (q : ℕ) → Rises (walks_before f l) (flips_at f b l q)
flips_rise f b l q = filter_rises (walks_before f l) (λ j. walks_before f l j q) (walk_order f b l) (walk_rises f b l)

rises_keeps : {A : Type 0} (before : A → A → Bool) (xs : List A) → IsStrictWeakOrder before → Rises before xs → Keeps before xs
rises_keeps before [] o h = tt
rises_keeps before (x ∷ xs) o h = (λ z k. o.one_way x z (h.0 z k), rises_keeps before xs o h.1)

pub flips_sorted : (f : Form) (b : Basis) (l : Leaving) (q : ℕ) → IsSortedBy (walks_before f l) (flips_at f b l q)
flips_sorted f b l q = keeps_sorted (walks_before f l) (flips_at f b l q) (rises_keeps (walks_before f l) (flips_at f b l q) (walk_is_order f l) (flips_rise f b l q))

boxed_by_stop : (o : Option Fraction) (p q : Fraction) → stops_at o p q ≡ false → (w : Fraction) × (o ≡ Some w)
boxed_by_stop None p q e = absurd (true≢false e)
boxed_by_stop (Some w) p q e = (w, refl)

pub passed_boxed : (f : Form) (b : Basis) (l : Leaving) (v : ℕ) → ends_at f b l v ≡ false → (w : Fraction) × (width (limits f v) ≡ Some w)
passed_boxed f b l v e = boxed_by_stop (width (limits f v)) (lowered_before f b l v +ᶠ flip_lowers f l v) l.violation.amount e

pub flips_boxed : (f : Form) (b : Basis) (l : Leaving) (q v : ℕ) → IsEntering f b l q → Contains (flips_at f b l q) v → (w : Fraction) × (width (limits f v) ≡ Some w)
flips_boxed f b l q v h k = let m = (flips_are f b l q v).0 k in passed_boxed f b l v (h.first v m.0 m.1 m.2)

pub walk_contains : (f : Form) (b : Basis) (l : Leaving) (v : ℕ) → Contains (walk_order f b l) v ↔ IsOne f b l v
walk_contains f b l v = (λ h. walk_has f b l v (has_from (walk_order f b l) v h), λ h. contains_from (walk_order f b l) v (has_walk f b l v h))
