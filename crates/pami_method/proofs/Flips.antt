-- The flips of a step change a row by the same amount in each order, so the script of a step has the exact step length.
use Rattle.std.proofs.Common.{◌≡◌, ℕ, ◌<◌, ◌≤◌, ◌⊎◌, inl, inr, ⊎_elim, Bool, true, List, [], ◌∷◌, Option, None, Some, Ok, refl, sym, ap, ◌∙◌, subst, arith, true≢false, nat_lt}
use Rattle.std.specs.List.{range_with_len}
use Rattle.std.specs.Option.{option_map}
use Rattle.std.specs.Cmp.{IsStrictWeakOrder}
use Rattle.std.proofs.lemmas.Bool.{cases_lt, lt-ltb}
use Rattle.std.proofs.lemmas.Option.{none-some, same_Some}
use Rattle.std.proofs.lemmas.List.{get_or-replicate, length-replicate}
use Rattle.pami_algebra.specs.Fraction.{Fraction}
use Rattle.pami_algebra.specs.Operations.{◌+ᶠ◌, ◌*ᶠ◌, ◌-ᶠ◌, ◌/ᶠ◌}
use Rattle.pami_algebra.proofs.Field.{nil_add_f}
use Rattle.pami_frac.specs.Arithmetic.{sub_outcome, div_outcome}
use Rattle.pami_frac.proofs.Outcomes.{sub_value, div_value}
use Rattle.pami_linear.specs.Lists.{get}
use Rattle.pami_linear.specs.Sums.{dot}
use Rattle.pami_linear.proofs.Sums.{dot_same}
use Rattle.pami_script.specs.Script.{add_dot}
use Rattle.pami_script.proofs.Scripts.{then_ok}
use Rattle.pami_theory.specs.Form.{Form, variables, limits, coefficient, zero_f}
use Rattle.pami_theory.specs.Basis.{Basis}
use Rattle.pami_theory.specs.Fresh.{Fresh, row_at, value_at_place}
use Rattle.pami_theory.specs.declared.words.Violation.{Violation}
use Rattle.pami_theory.specs.Violation.{passed_bound}
use Rattle.pami_theory.specs.Order.{ordered}
use Rattle.pami_theory.specs.Ratio.{Entering, ratio_walk, row_entry, walks_before}
use Rattle.pami_theory.specs.Step.{Step, step_by, step_at, leaving_at, is_among, flip_change, flips_change, theta}
use Rattle.pami_theory.proofs.Members.{Has, filter_has, has_filter, has_range}
use Rattle.pami_theory.proofs.Orders.{Rises, Apart, irreflexive, ordered_has, has_ordered, ordered_permutes, ordered_sorted, sorted_rises, filter_rises, rises_unique}
use Rattle.pami_theory.proofs.Comparisons.{by_number, walk_is_order}
use Rattle.pami_theory.proofs.Candidates.{apart_distinct, range_rises, entered_by_walk, flips_at, flips_has, flips_rise}
use Rattle.pami_theory.proofs.Slopes.{list_sum, list_sum_ordered}
use Rattle.pami_theory.proofs.Steps.{among_has, has_among}
use Rattle.pami_method.specs.Scripts.{zeros, flips_script, ascending, step_script}
use Rattle.pami_method.proofs.Values.{dot_value, flips_value}

-- ---- numbers in any strict order, put in their own order
numbers_ordered : IsStrictWeakOrder nat_lt
numbers_ordered = by_number (λ (n : ℕ). n)

one_less : (j k : ℕ) → ¬ (j ≡ k) → (nat_lt j k ≡ true) ⊎ (nat_lt k j ≡ true)
one_less j k n = ⊎_elim (λ (l : j < k). inl (lt-ltb j k l)) (λ (l : k ≤ j). let m : k < j = omega arith in inr (lt-ltb k j m)) (cases_lt j k)

rises_numbers : (before : ℕ → ℕ → Bool) → IsStrictWeakOrder before → (vs : List ℕ) → Rises before vs → Apart nat_lt vs
rises_numbers before o [] h = tt
rises_numbers before o (v ∷ vs) h = (
  λ z k. one_less v z (λ e. true≢false (sym (h.0 z k) ∙ ap (λ w. before w z) e ∙ irreflexive before z o)),
  rises_numbers before o vs h.1,
)

ordered_rises : (vs : List ℕ) → Apart nat_lt vs → Rises nat_lt (ordered nat_lt vs)
ordered_rises vs h = sorted_rises nat_lt numbers_ordered vs (ordered nat_lt vs) (apart_distinct nat_lt vs h) (ordered_permutes nat_lt vs) (ordered_sorted nat_lt vs numbers_ordered)

ascending_is : (f : Form) (vs : List ℕ) → Apart nat_lt vs → ((v : ℕ) → Has vs v → v < variables f) → ascending f vs ≡ ordered nat_lt vs
ascending_is f vs h within =
    let all = range_with_len 0 (variables f) in
    rises_unique nat_lt numbers_ordered (ascending f vs) (ordered nat_lt vs)
    (filter_rises nat_lt (λ v. is_among v vs) all (range_rises 0 (variables f))) (ordered_rises vs h)
    (λ z k. has_ordered nat_lt vs z (among_has z vs (filter_has (λ v. is_among v vs) all z k).1))
    (λ z k. let m = ordered_has nat_lt vs z k in
    has_filter (λ v. is_among v vs) all z (has_range 0 (variables f) z (omega arith) (let l = within z m in omega arith)) (has_among z vs m))

-- ---- what flips change is a sum over the list
change_in : Form → Basis → ℕ → ℕ → Fraction
change_in f b i v = flip_change f b v *ᶠ coefficient f v i

change_sum : (f : Form) (b : Basis) (vs : List ℕ) (i : ℕ) → flips_change f b vs i ≡ list_sum (change_in f b i) vs
unfolding change_in
change_sum f b [] i = refl
change_sum f b (v ∷ vs) i = ap (λ x. flip_change f b v *ᶠ coefficient f v i +ᶠ x) (change_sum f b vs i)

pub ascending_changes : (f : Form) (b : Basis) (vs : List ℕ) (i : ℕ) → Apart nat_lt vs → ((v : ℕ) → Has vs v → v < variables f) → flips_change f b (ascending f vs) i ≡ flips_change f b vs i
ascending_changes f b vs i h within =
    ap (λ xs. flips_change f b xs i) (ascending_is f vs h within)
    ∙ change_sum f b (ordered nat_lt vs) i ∙ list_sum_ordered (change_in f b i) nat_lt vs ∙ sym (change_sum f b vs i)

-- ---- the flips of a step
pub mapped : {A B : Type 0} (g : A → B) (o : Option A) (z : B) → option_map g o ≡ Some z → (x : A) × (o ≡ Some x) × (z ≡ g x)
mapped g None z e = absurd (none-some z e)
mapped g (Some x) z e = (x, refl, sym (same_Some (g x) z e))

pub step_walk : (f : Form) (b : Basis) (s : Fresh) (p : ℕ) (v : Violation) (t : Step) → step_at f b s p v ≡ Some t → (e : Entering) × (ratio_walk f b (leaving_at s p v) ≡ Some e) × (t ≡ step_by b p v.side e)
step_walk f b s p v t e = mapped (step_by b p v.side) (ratio_walk f b (leaving_at s p v)) t e

step_flips : (f : Form) (b : Basis) (s : Fresh) (p : ℕ) (v : Violation) (t : Step) → step_at f b s p v ≡ Some t → (q : ℕ) × (t.flips ≡ flips_at f b (leaving_at s p v) q)
step_flips f b s p v t e =
    let w = step_walk f b s p v t e in
    let k = (entered_by_walk f b (leaving_at s p v) w.0 w.1).1 in
    (w.0.variable, ap (λ (x : Step). x.flips) w.2 ∙ ap (λ (x : Entering). x.flips) k)

pub step_changes : (f : Form) (b : Basis) (s : Fresh) (p : ℕ) (v : Violation) (t : Step) (i : ℕ) → step_at f b s p v ≡ Some t → flips_change f b (ascending f t.flips) i ≡ flips_change f b t.flips i
step_changes f b s p v t i e =
    let l = leaving_at s p v in
    let q = step_flips f b s p v t e in
    subst (λ vs. flips_change f b (ascending f vs) i ≡ flips_change f b vs i) (sym q.1)
    (ascending_changes f b (flips_at f b l q.0) i (rises_numbers (walks_before f l) (walk_is_order f l) (flips_at f b l q.0) (flips_rise f b l q.0)) (λ w h. (flips_has f b l q.0 w h).0))

-- ---- the step length
-- the script in parts
flipped_rows : (f : Form) (b : Basis) (vs : List ℕ) (rows : List Fraction) (i : ℕ) → flips_script f b vs (zeros f.rows) ≡ Ok rows → i < f.rows → get rows i ≡ flips_change f b vs i
flipped_rows f b vs rows i e l =
    flips_value f b vs (zeros f.rows) rows i e (subst (λ n. i < n) (sym (length-replicate f.rows zero_f)) l)
    ∙ ap (λ x. x +ᶠ flips_change f b vs i) (get_or-replicate f.rows i zero_f zero_f l) ∙ nil_add_f (flips_change f b vs i)

-- the sum of the row's products with what flips change
flipped_sum : (f : Form) (b : Basis) (s : Fresh) (t : Step) (rows : List Fraction) (c : Fraction) → ((i : ℕ) → flips_change f b (ascending f t.flips) i ≡ flips_change f b t.flips i)
    → flips_script f b (ascending f t.flips) (zeros f.rows) ≡ Ok rows → add_dot f.rows (get (row_at s t.place)) (get rows) zero_f ≡ Ok c → c ≡ dot f.rows (get (row_at s t.place)) (flips_change f b t.flips)
flipped_sum f b s t rows c same e h =
    dot_value f.rows (get (row_at s t.place)) (get rows) c h
    ∙ dot_same f.rows (get (row_at s t.place)) (get rows) (get (row_at s t.place)) (flips_change f b t.flips) (λ i l. refl) (λ i l. flipped_rows f b (ascending f t.flips) rows i e l ∙ same i)

length_by : (x u bound entry c d g r : Fraction) → c ≡ u → sub_outcome x c ≡ Ok d → sub_outcome d bound ≡ Ok g → div_outcome g entry ≡ Ok r → r ≡ ((x -ᶠ u) -ᶠ bound) /ᶠ entry
length_by x u bound entry c d g r e h k m =
    div_value g entry r m ∙ ap (λ y. y /ᶠ entry) (sub_value d bound g k ∙ ap (λ y. y -ᶠ bound) (sub_value x c d h ∙ ap (λ y. x -ᶠ y) e))

pub step_value : (f : Form) (b : Basis) (s : Fresh) (p : ℕ) (v : Violation) (t : Step) (x : Fraction) → step_at f b s p v ≡ Some t → step_script f b s t ≡ Ok x → x ≡ theta f b s t
step_value f b s p v t x w e =
    let a = then_ok (flips_script f b (ascending f t.flips) (zeros f.rows)) _ x e in
    let c = then_ok (add_dot f.rows (get (row_at s t.place)) (get a.0) zero_f) _ x a.1.1 in
    let d = then_ok (sub_outcome (value_at_place b s t.place) c.0) _ x c.1.1 in
    let g = then_ok (sub_outcome d.0 (passed_bound (limits f t.leaving) t.side)) (λ y. div_outcome y (row_entry f (row_at s t.place) t.entering)) x d.1.1 in
    length_by (value_at_place b s t.place) (dot f.rows (get (row_at s t.place)) (flips_change f b t.flips)) (passed_bound (limits f t.leaving) t.side)
    (row_entry f (row_at s t.place) t.entering) c.0 d.0 g.0 x (flipped_sum f b s t a.0 c.0 (λ i. step_changes f b s p v t i w) a.1.0 c.1.0) d.1.0 g.1.0 g.1.1
