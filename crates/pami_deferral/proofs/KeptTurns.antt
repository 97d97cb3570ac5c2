-- A turn by what is kept is the turn of the batch, where what is kept is fresh.
use Rattle.std.proofs.Common.{◌≡◌, ℕ, inl, inr, Bool, true, false, not, nat_eq, cond, List, [], ◌∷◌, map, Option, None, Some, refl, sym, ap, ◌∙◌, true≢false}
use Rattle.std.specs.List.{filter, filter_map, find}
use Rattle.std.specs.Option.{option_map}
use Rattle.std.proofs.lemmas.Bool.{eqb-true, eq-eqb}
use Rattle.pami_theory.specs.Form.{Form}
use Rattle.pami_theory.specs.Fresh.{row_at, value_at_place}
use Rattle.pami_theory.specs.Order.{ordered}
use Rattle.pami_theory.specs.declared.words.Violation.{Violation}
use Rattle.pami_theory.specs.Ratio.{ratio_walk}
use Rattle.pami_theory.specs.Step.{step_by, step_at}
use Rattle.pami_theory.specs.Choice.{InfeasibleRow, is_chosen_before}
use Rattle.pami_theory.specs.Weights.{weight_at}
use Rattle.pami_theory.proofs.Members.{Has, filter_has}
use Rattle.pami_theory.proofs.Orders.{ordered_has}
use Rattle.pami_theory.proofs.Chosen.{filter_map_has}
use Rattle.pami_method.specs.Batch.{Reached, row_now, is_attractive, staying, dropped, AtLimit, NoRow, with_step, with_rows, turn, keeps_merit}
use Rattle.pami_method.proofs.Turns.{infeasible_is}
use Rattle.pami_deferral.specs.Inside.{KeptRow, fresh_row, fresh_inside, place_of, row_or, row_for, value_or, value_for, weight_or, weight_for, kept_now, keeps, stays, kept_staying, kept_dropped, kept_step, kept_rows, kept_turn}
use Rattle.pami_deferral.proofs.Filters.{filter-map, filter_map-map, map-map, filter_same}
use Rattle.pami_deferral.proofs.Chains.{HasPlace}

-- ---- the row of a place
abbrev FindsRow : Reached → List InfeasibleRow → ℕ → Type 0
FindsRow r rows p = (x : InfeasibleRow) × (find (λ (k : KeptRow). nat_eq (place_of k) p) (map (fresh_row r) rows) ≡ Some (fresh_row r x))
    × (x.place ≡ p)

found_or : (r : Reached) (x : InfeasibleRow) (rows : List InfeasibleRow) (p : ℕ) (b : Bool) → nat_eq x.place p ≡ b → HasPlace (x ∷ rows) p
    → (HasPlace rows p → FindsRow r rows p) →
    (z : InfeasibleRow)
    × (cond b (Some (fresh_row r x)) (find (λ (k : KeptRow). nat_eq (place_of k) p) (map (fresh_row r) rows)) ≡ Some (fresh_row r z))
    × (z.place ≡ p)
found_or r x rows p true e h go = (x, refl, eqb-true x.place p e)
found_or r x rows p false e (z, inl k, l) go = absurd (true≢false (sym (eq-eqb x.place p (ap (λ (w : InfeasibleRow). w.place) k ∙ l)) ∙ e))
found_or r x rows p false e (z, inr k, l) go = go (z, k, l)

finds_row : (r : Reached) (rows : List InfeasibleRow) (p : ℕ) → HasPlace rows p → FindsRow r rows p
finds_row r [] p h = absurd h.1
finds_row r (x ∷ rows) p h = found_or r x rows p (nat_eq x.place p) refl h (finds_row r rows p)

pub row_is : (r : Reached) (p : ℕ) → HasPlace r.rows p → row_for (fresh_inside r) p ≡ row_at r.fresh p
row_is r p h = let x = finds_row r r.rows p h in ap row_or x.1 ∙ ap (row_at r.fresh) x.2

pub value_is : (r : Reached) (p : ℕ) → HasPlace r.rows p → value_for (fresh_inside r) p ≡ value_at_place r.basis r.fresh p
value_is r p h = let x = finds_row r r.rows p h in ap value_or x.1 ∙ ap (value_at_place r.basis r.fresh) x.2

pub weight_is : (r : Reached) (p : ℕ) → HasPlace r.rows p → weight_for (fresh_inside r) p ≡ weight_at r.weights p
weight_is r p h = let x = finds_row r r.rows p h in ap weight_or x.1 ∙ ap (weight_at r.weights) x.2

-- ---- the rows that stay
pub keeps_is : (row : InfeasibleRow) (now : Option InfeasibleRow) → keeps row.merit now ≡ keeps_merit row now
keeps_is row None = refl
keeps_is row (Some now) = refl

stays_is : (f : Form) (r : Reached) (row : InfeasibleRow) → stays f (fresh_inside r) (fresh_row r row) ≡ is_attractive f r row
stays_is f r row = keeps_is row (row_now f r row)

pub staying_is : (f : Form) (r : Reached) → kept_staying f (fresh_inside r) ≡ map (fresh_row r) (staying f r)
staying_is f r =
    filter-map (stays f (fresh_inside r)) (fresh_row r) r.rows
    ∙ ap (map (fresh_row r)) (filter_same (λ row. stays f (fresh_inside r) (fresh_row r row)) (is_attractive f r) (stays_is f r) r.rows)

dropped_is : (f : Form) (r : Reached) → kept_dropped f (fresh_inside r) ≡ dropped f r
dropped_is f r =
    ap (map place_of) (filter-map (λ k. not (stays f (fresh_inside r) k)) (fresh_row r) r.rows)
    ∙ map-map place_of (fresh_row r) (filter (λ row. not (stays f (fresh_inside r) (fresh_row r row))) r.rows)
    ∙ ap (map (λ (row : InfeasibleRow). row.place))
    (filter_same (λ row. not (stays f (fresh_inside r) (fresh_row r row))) (λ row. not (is_attractive f r row))
    (λ row. ap not (stays_is f r row)) r.rows)

-- ---- the step
step_is : (f : Form) (r : Reached) (p : ℕ) (v : Violation) → HasPlace r.rows p
    → kept_step f (fresh_inside r) p v ≡ step_at f r.basis r.fresh p v
step_is f r p v h =
    ap (λ rho. option_map (step_by r.basis p v.side)
    (ratio_walk f r.basis (record { violation = v; row = rho; reduced = r.fresh.reduced }))) (row_is r p h)

rows_is : (f : Form) (r : Reached) (rows : List InfeasibleRow) → ((row : InfeasibleRow) → Has rows row → HasPlace r.rows row.place)
    → kept_rows f (fresh_inside r) rows ≡ with_rows f r rows
rows_is f r [] h = ap NoRow (dropped_is f r)
rows_is f r (row ∷ rows) h =
    ap (λ d. with_step d row (kept_step f (fresh_inside r) row.place row.violation)) (dropped_is f r)
    ∙ ap (with_step (dropped f r) row) (step_is f r row.place row.violation (h row (inl refl)))

pub now_has : (f : Form) (r : Reached) (row : InfeasibleRow) → Has (ordered is_chosen_before (filter_map (row_now f r) (staying f r))) row
    → HasPlace r.rows row.place
now_has f r row h =
    let m = filter_map_has (row_now f r) (staying f r) row (ordered_has is_chosen_before (filter_map (row_now f r) (staying f r)) row h) in
    (m.0, (filter_has (is_attractive f r) r.rows m.0 m.1).0, sym (infeasible_is f r.basis r.fresh r.weights m.0.place row m.2).0)

pub turn_is : (f : Form) (limit : ℕ) (r : Reached) → kept_turn f limit (fresh_inside r) ≡ turn f limit r
turn_is f limit r =
    ap (λ ks. cond (nat_eq r.count limit) AtLimit
    (kept_rows f (fresh_inside r) (ordered is_chosen_before (filter_map (kept_now f (fresh_inside r)) ks)))) (staying_is f r)
    ∙ ap (λ rows. cond (nat_eq r.count limit) AtLimit (kept_rows f (fresh_inside r) (ordered is_chosen_before rows)))
    (filter_map-map (kept_now f (fresh_inside r)) (fresh_row r) (staying f r))
    ∙ ap (cond (nat_eq r.count limit) AtLimit)
    (rows_is f r (ordered is_chosen_before (filter_map (row_now f r) (staying f r))) (now_has f r))
