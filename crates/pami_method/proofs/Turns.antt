-- What a turn that pivots says of its row and its step.
use Rattle.std.proofs.Common.{◌≡◌, ℕ, ◌+◌, ◌<◌, ◌≤◌, inl, inr, ⊎_elim, Bool, true, false, cond, not, nat_eq, List, [], ◌∷◌, length, Option, None, Some, refl, sym, ap, ◌∙◌, subst, arith, true≢false}
use Rattle.std.specs.List.{filter, filter_map}
use Rattle.std.proofs.lemmas.Bool.{eq-eqb, cases_lt}
use Rattle.std.proofs.lemmas.List.{length-map, get_or_past}
use Rattle.std.proofs.lemmas.List.Filters.{length-filter_both}
use Rattle.pami_algebra.specs.Fraction.{Fraction}
use Rattle.pami_linear.specs.Lists.{get}
use Rattle.pami_linear.proofs.Units.{dot_none}
use Rattle.pami_theory.specs.Form.{Form, limits, coefficient, zero_f}
use Rattle.pami_theory.specs.Basis.{Basis, head_at, IsBasis}
use Rattle.pami_theory.specs.Fresh.{Fresh, IsFresh, row_at, value_at_place}
use Rattle.pami_theory.specs.declared.words.Violation.{Violation}
use Rattle.pami_theory.specs.Violation.{violation}
use Rattle.pami_theory.specs.Order.{ordered}
use Rattle.pami_theory.specs.Ratio.{row_entry}
use Rattle.pami_theory.specs.Step.{Step, step_at, leaving_at, TakesStep}
use Rattle.pami_theory.specs.Choice.{InfeasibleRow, row_of, infeasible_at, is_chosen_before}
use Rattle.pami_theory.specs.Weights.{weight_at}
use Rattle.pami_theory.proofs.Members.{Has}
use Rattle.pami_theory.proofs.Orders.{ordered_has}
use Rattle.pami_theory.proofs.Chosen.{filter_map_has}
use Rattle.pami_theory.proofs.Candidates.{entered_by_walk}
use Rattle.pami_theory.proofs.Steps.{entry_not_zero}
use Rattle.pami_method.specs.Batch.{Reached, Minor, AtLimit, Pivots, row_now, is_attractive, staying, dropped, with_step, with_rows, turn, IsNext}
use Rattle.pami_method.proofs.Flips.{mapped, step_walk}

-- ---- the parts of a turn
abbrev now_rows : Form → Reached → List InfeasibleRow
now_rows f r = ordered is_chosen_before (filter_map (row_now f r) (staying f r))

abbrev Parts : Form → ℕ → Reached → List ℕ → InfeasibleRow → Step → Type 0
Parts f limit r d row t = ¬ (r.count ≡ limit) × (d ≡ dropped f r) × Has (now_rows f r) row × (step_at f r.basis r.fresh row.place row.violation ≡ Some t)

by_step : (d e : List ℕ) (row now : InfeasibleRow) (o : Option Step) (t : Step) → with_step d now o ≡ Pivots e row t → (e ≡ d) × (row ≡ now) × (o ≡ Some t)
by_step d e row now None t h = absurd (cc)
by_step d e row now (Some s) t h =
    let p : e ≡ d = cc in let q : row ≡ now = cc in let k : s ≡ t = cc in (p, q, ap Some k)

by_rows : (f : Form) (r : Reached) (rows : List InfeasibleRow) (e : List ℕ) (row : InfeasibleRow) (t : Step) → with_rows f r rows ≡ Pivots e row t
    → (e ≡ dropped f r) × Has rows row × (step_at f r.basis r.fresh row.place row.violation ≡ Some t)
by_rows f r [] e row t h = absurd (cc)
by_rows f r (now ∷ rows) e row t h =
    let k = by_step (dropped f r) e row now (step_at f r.basis r.fresh now.place now.violation) t h in
    (k.0, inl (sym k.1), ap (λ (x : InfeasibleRow). step_at f r.basis r.fresh x.place x.violation) k.1 ∙ k.2)

by_limit : (f : Form) (r : Reached) (limit : ℕ) (b : Bool) (e : List ℕ) (row : InfeasibleRow) (t : Step) → (r.count ≡ limit → b ≡ true) → cond b AtLimit (with_rows f r (now_rows f r)) ≡ Pivots e row t → Parts f limit r e row t
by_limit f r limit true e row t n h = absurd (cc)
by_limit f r limit false e row t n h =
    let k = by_rows f r (now_rows f r) e row t h in
    (λ m. true≢false (sym (n m)), k.0, k.1, k.2)

pub pivot_parts : (f : Form) (limit : ℕ) (r : Reached) (d : List ℕ) (row : InfeasibleRow) (t : Step) → turn f limit r ≡ Pivots d row t → Parts f limit r d row t
pivot_parts f limit r d row t h = by_limit f r limit (nat_eq r.count limit) d row t (eq-eqb r.count limit) h

-- ---- its row is one of those that stay
-- an infeasible row at a place names that place and its violation
pub infeasible_is : (f : Form) (b : Basis) (s : Fresh) (weights : List ℕ) (p : ℕ) (row : InfeasibleRow) → infeasible_at f b s weights p ≡ Some row
    → (row.place ≡ p) × (violation (limits f (head_at b p)) (value_at_place b s p) ≡ Some row.violation)
infeasible_is f b s weights p row e =
    let m = mapped (row_of p (weight_at weights p)) (violation (limits f (head_at b p)) (value_at_place b s p)) row e in
    (ap (λ (x : InfeasibleRow). x.place) m.2, m.1 ∙ ap (λ (x : InfeasibleRow). Some x.violation) (sym m.2))

pub pivot_row : (f : Form) (limit : ℕ) (r : Reached) (d : List ℕ) (row : InfeasibleRow) (t : Step) → turn f limit r ≡ Pivots d row t
    → (x : InfeasibleRow) × Has (staying f r) x × (x.place ≡ row.place) × (violation (limits f (head_at r.basis row.place)) (value_at_place r.basis r.fresh row.place) ≡ Some row.violation)
pivot_row f limit r d row t h =
    let k = pivot_parts f limit r d row t h in
    let m = filter_map_has (row_now f r) (staying f r) row (ordered_has is_chosen_before (filter_map (row_now f r) (staying f r)) row k.2) in
    let i = infeasible_is f r.basis r.fresh r.weights m.0.place row m.2 in
    (m.0, m.1, sym i.0, subst (λ p. violation (limits f (head_at r.basis p)) (value_at_place r.basis r.fresh p) ≡ Some row.violation) (sym i.0) i.1)

pub pivot_place : (f : Form) (limit : ℕ) (r : Reached) (d : List ℕ) (row : InfeasibleRow) (t : Step) → turn f limit r ≡ Pivots d row t → t.place ≡ row.place
pivot_place f limit r d row t h =
    let k = pivot_parts f limit r d row t h in
    ap (λ (x : Step). x.place) (step_walk f r.basis r.fresh row.place row.violation t k.3).2

-- ---- it is a step at an infeasible place of the basis
no_row : (f : Form) (v : ℕ) → row_entry f [] v ≡ zero_f
no_row f v = dot_none f.rows (get []) (coefficient f v) (λ i l. refl)

row_past : (f : Form) (b : Basis) (s : Fresh) (p : ℕ) → IsFresh f b s → f.rows ≤ p → row_at s p ≡ []
row_past f b s p h l = get_or_past s.rows p [] (subst (λ n. n ≤ p) (sym h.rows_by_place) l)

pub step_within : (f : Form) (b : Basis) (s : Fresh) (p : ℕ) (v : Violation) (t : Step) → IsFresh f b s → step_at f b s p v ≡ Some t → p < f.rows
step_within f b s p v t h e =
    let l = leaving_at s p v in
    let w = step_walk f b s p v t e in
    let k = (entered_by_walk f b l w.0 w.1).0 in
    ⊎_elim (λ (m : p < f.rows). m)
    (λ (m : f.rows ≤ p). absurd (entry_not_zero f b l w.0.variable k.candidate (ap (λ (row : List Fraction). row_entry f row w.0.variable) (row_past f b s p h m) ∙ no_row f w.0.variable)))
    (cases_lt p f.rows)

pub pivot_takes_step : (f : Form) (limit : ℕ) (r : Reached) (d : List ℕ) (row : InfeasibleRow) (t : Step) → IsBasis f r.basis → IsFresh f r.basis r.fresh → turn f limit r ≡ Pivots d row t
    → TakesStep f r.basis r.fresh row.place row.violation t
pivot_takes_step f limit r d row t b s h =
    let step = (pivot_parts f limit r d row t h).3 in
    record { basis = b; fresh = s; place = step_within f r.basis r.fresh row.place row.violation t s step; outside = (pivot_row f limit r d row t h).3; taken = step }

-- ---- counting
kept_or_less : {A : Type 0} (p : A → Bool) (x : A) (xs : List A) (b : Bool) → length (filter p xs) ≤ length xs → length (cond b (x ∷ filter p xs) (filter p xs)) ≤ length (x ∷ xs)
kept_or_less p x xs true h = omega arith
kept_or_less p x xs false h = omega arith

pub filter_shortens : {A : Type 0} (p : A → Bool) (xs : List A) → length (filter p xs) ≤ length xs
filter_shortens p [] = omega arith
filter_shortens p (x ∷ xs) = kept_or_less p x xs (p x) (filter_shortens p xs)

left_out : {A : Type 0} (p : A → Bool) (x : A) (xs : List A) (b : Bool) → b ≡ false → length (filter p xs) ≤ length xs → length (cond b (x ∷ filter p xs) (filter p xs)) < length (x ∷ xs)
left_out p x xs true e h = absurd (true≢false e)
left_out p x xs false e h = omega arith

kept_and_less : {A : Type 0} (p : A → Bool) (x : A) (xs : List A) (b : Bool) → length (filter p xs) < length xs → length (cond b (x ∷ filter p xs) (filter p xs)) < length (x ∷ xs)
kept_and_less p x xs true h = omega arith
kept_and_less p x xs false h = omega arith

pub filter_loses : {A : Type 0} (p : A → Bool) (xs : List A) (z : A) → Has xs z → p z ≡ false → length (filter p xs) < length xs
filter_loses p [] z h e = absurd h
filter_loses p (x ∷ xs) z (inl k) e = left_out p x xs (p x) (ap p k ∙ e) (filter_shortens p xs)
filter_loses p (x ∷ xs) z (inr k) e = kept_and_less p x xs (p x) (filter_loses p xs z k e)

not_true : (b : Bool) → b ≡ true → not b ≡ false
not_true true e = refl
not_true false e = absurd (true≢false (sym e))

-- the rows behind a pivot are fewer by those dropped and by its own
pub next_rows_fewer : (f : Form) (limit : ℕ) (m : Minor) (next : Reached) → turn f limit m.reached ≡ Pivots m.dropped m.row m.step → IsNext f m next
    → length next.rows + length m.dropped < length m.reached.rows
next_rows_fewer f limit m next h n =
    let stay = staying f m.reached in
    let left : InfeasibleRow → Bool = λ (row : InfeasibleRow). not (nat_eq row.place m.step.place) in
    let x = pivot_row f limit m.reached m.dropped m.row m.step h in
    let same : x.0.place ≡ m.step.place = x.2 ∙ sym (pivot_place f limit m.reached m.dropped m.row m.step h) in
    let one : length (filter left stay) < length stay = filter_loses left stay x.0 x.1 (not_true (nat_eq x.0.place m.step.place) (eq-eqb x.0.place m.step.place same)) in
    let all = length-filter_both (is_attractive f m.reached) (λ row. not (is_attractive f m.reached row)) (λ y. refl) m.reached.rows in
    let off : length m.dropped ≡ length (filter (λ row. not (is_attractive f m.reached row)) m.reached.rows) =
    ap length (pivot_parts f limit m.reached m.dropped m.row m.step h).1 ∙ length-map (filter (λ row. not (is_attractive f m.reached row)) m.reached.rows) (λ (row : InfeasibleRow). row.place) in
    let rows : length next.rows ≡ length (filter left stay) = ap length n.rows in
    omega arith
