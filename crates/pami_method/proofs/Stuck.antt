-- What a turn says whose row no variable enters.
use Rattle.std.proofs.Common.{◌≡◌, ℕ, zero, suc, ◌<◌, inl, inr, Bool, true, false, cond, not, nat_eq, List, [], ◌∷◌, take, Option, None, Some, refl, sym, ap, ◌∙◌, subst}
use Rattle.std.specs.List.{filter_map}
use Rattle.pami_theory.specs.Form.{Form, limits}
use Rattle.pami_theory.specs.Basis.{Basis, head_at}
use Rattle.pami_theory.specs.Fresh.{Fresh, value_at_place}
use Rattle.pami_theory.specs.Violation.{violation}
use Rattle.pami_theory.specs.Order.{ordered}
use Rattle.pami_theory.specs.Step.{Step, step_at}
use Rattle.pami_theory.specs.Choice.{InfeasibleRow, is_chosen_before, infeasible_rows, chosen}
use Rattle.pami_theory.proofs.Members.{Has, contains_from, filter_has}
use Rattle.pami_theory.proofs.Orders.{ordered_has}
use Rattle.pami_theory.proofs.Chosen.{filter_map_has, rows_are}
use Rattle.pami_method.specs.Batch.{Reached, Minor, AtLimit, Stuck, row_now, is_attractive, staying, dropped, with_step, with_rows, turn, IsNext}
use Rattle.pami_method.proofs.Turns.{infeasible_is}

-- ---- its parts
stuck_step : (d e : List ℕ) (row now : InfeasibleRow) (o : Option Step) → with_step d now o ≡ Stuck e row → (row ≡ now) × (o ≡ None)
stuck_step d e row now None h = let q : now ≡ row = cc in (sym q, refl)
stuck_step d e row now (Some s) h = absurd (cc)

stuck_rows : (f : Form) (r : Reached) (rows : List InfeasibleRow) (e : List ℕ) (row : InfeasibleRow) → with_rows f r rows ≡ Stuck e row
    → Has rows row × (step_at f r.basis r.fresh row.place row.violation ≡ None)
stuck_rows f r [] e row h = absurd (cc)
stuck_rows f r (now ∷ rows) e row h =
    let k = stuck_step (dropped f r) e row now (step_at f r.basis r.fresh now.place now.violation) h in
    (inl (sym k.0), ap (λ (x : InfeasibleRow). step_at f r.basis r.fresh x.place x.violation) k.0 ∙ k.1)

stuck_parts : (f : Form) (r : Reached) (b : Bool) (e : List ℕ) (row : InfeasibleRow)
    → cond b AtLimit (with_rows f r (ordered is_chosen_before (filter_map (row_now f r) (staying f r)))) ≡ Stuck e row
    → Has (filter_map (row_now f r) (staying f r)) row × (step_at f r.basis r.fresh row.place row.violation ≡ None)
stuck_parts f r true e row h = absurd (cc)
stuck_parts f r false e row h =
    let k = stuck_rows f r (ordered is_chosen_before (filter_map (row_now f r) (staying f r))) e row h in
    (ordered_has is_chosen_before (filter_map (row_now f r) (staying f r)) row k.0, k.1)

-- ---- places of the rows that remain are places of the form
abbrev pub PlacesWithin : Form → List InfeasibleRow → Type 0
PlacesWithin f rows = (x : InfeasibleRow) → Has rows x → x.place < f.rows

pub stuck_row : (f : Form) (limit : ℕ) (r : Reached) (e : List ℕ) (row : InfeasibleRow) → PlacesWithin f r.rows → turn f limit r ≡ Stuck e row
    → (row.place < f.rows) × (violation (limits f (head_at r.basis row.place)) (value_at_place r.basis r.fresh row.place) ≡ Some row.violation)
    × (step_at f r.basis r.fresh row.place row.violation ≡ None)
stuck_row f limit r e row within h =
    let k = stuck_parts f r (nat_eq r.count limit) e row h in
    let m = filter_map_has (row_now f r) (staying f r) row k.0 in
    let i = infeasible_is f r.basis r.fresh r.weights m.0.place row m.2 in
    let l = within m.0 (filter_has (is_attractive f r) r.rows m.0 m.1).0 in
    (subst (λ p. p < f.rows) (sym i.0) l, subst (λ p. violation (limits f (head_at r.basis p)) (value_at_place r.basis r.fresh p) ≡ Some row.violation) (sym i.0) i.1, k.1)

take_has : {A : Type 0} (n : ℕ) (xs : List A) (z : A) → Has (take n xs) z → Has xs z
take_has zero xs z h = absurd h
take_has (suc n) [] z h = absurd h
take_has (suc n) (x ∷ xs) z (inl e) = inl e
take_has (suc n) (x ∷ xs) z (inr h) = inr (take_has n xs z h)

pub chosen_within : (f : Form) (b : Basis) (s : Fresh) (weights : List ℕ) (most : ℕ) → PlacesWithin f (chosen f b s weights most)
chosen_within f b s weights most x h =
    let rows = infeasible_rows f b s weights in
    ((rows_are f b s weights x).0 (contains_from rows x (ordered_has is_chosen_before rows x (take_has most (ordered is_chosen_before rows) x h)))).0

pub next_within : (f : Form) (m : Minor) (next : Reached) → PlacesWithin f m.reached.rows → IsNext f m next → PlacesWithin f next.rows
next_within f m next within n x h =
    let left : InfeasibleRow → Bool = λ (row : InfeasibleRow). not (nat_eq row.place m.step.place) in
    let k = filter_has left (staying f m.reached) x (subst (λ rows. Has rows x) n.rows h) in
    within x (filter_has (is_attractive f m.reached) m.reached.rows x k.0).0
