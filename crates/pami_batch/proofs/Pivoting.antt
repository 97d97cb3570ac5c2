-- The turn of a row that was picked, and the pivot behind which its batch goes on.
use Rattle.std.proofs.Common.{◌≡◌, ℕ, cond, List, [], ◌∷◌, None, Some, ap, ◌∙◌, subst}
use Rattle.std.specs.List.{filter_map}
use Rattle.std.proofs.lemmas.Bool.{ne_eqb}
use Rattle.pami_theory.specs.Form.{Form}
use Rattle.pami_theory.specs.Step as theory
use Rattle.pami_theory.specs.Step.{step_at}
use Rattle.pami_theory.specs.Order.{ordered}
use Rattle.pami_theory.specs.Choice.{InfeasibleRow, is_chosen_before}
use Rattle.pami_method.specs.Batch.{Reached, Minor, AtLimit, Stuck, Pivots, row_now, staying, dropped, with_step, with_rows, turn, IsNext, EndsBatch, IsBatch}
use Rattle.pami_method.proofs.BatchExists.{has_batch}
use Rattle.pami_deferral.specs.SolvedBatch.{IsSolvedPivot}
use Rattle.pami_minor.specs.Fresh.{IsReached, IsPick}
use Rattle.pami_batch.specs.Turns.{minor_at}

-- ---- the turn of a row that was picked
pub turn_is : (f : Form) (limit : ℕ) (r : Reached) (row : InfeasibleRow) → IsPick f limit r row
    → turn f limit r ≡ with_step (dropped f r) row (step_at f r.basis r.fresh row.place row.violation)
turn_is f limit r row p =
    ap (λ t. cond t AtLimit (with_rows f r (ordered is_chosen_before (filter_map (row_now f r) (staying f r))))) (ne_eqb r.count limit p.below)
    ∙ ap (with_rows f r) p.first

pub turn_stuck : (f : Form) (limit : ℕ) (r : Reached) (row : InfeasibleRow) → IsPick f limit r row
    → step_at f r.basis r.fresh row.place row.violation ≡ None → turn f limit r ≡ Stuck (dropped f r) row
turn_stuck f limit r row p e = turn_is f limit r row p ∙ ap (with_step (dropped f r) row) e

pub turn_pivots : (f : Form) (limit : ℕ) (r : Reached) (row : InfeasibleRow) (t : theory.Step) → IsPick f limit r row
    → step_at f r.basis r.fresh row.place row.violation ≡ Some t → turn f limit r ≡ Pivots (dropped f r) row t
turn_pivots f limit r row t p e = turn_is f limit r row p ∙ ap (with_step (dropped f r) row) e

-- ---- a pivot of that turn is the row's
pub pivot_is : (f : Form) (limit : ℕ) (r : Reached) (row : InfeasibleRow) (t : theory.Step) (m : Minor) → m.reached ≡ r
    → turn f limit r ≡ Pivots m.dropped m.row m.step → turn f limit r ≡ Pivots (dropped f r) row t → m ≡ minor_at f r row t
pivot_is f limit r row t m e h k =
    let d : m.dropped ≡ dropped f r = cc in
    let w : m.row ≡ row = cc in
    let s : m.step ≡ t = cc in
    ap (λ (x : Reached). record { reached = x; dropped = m.dropped; row = m.row; step = m.step }) e
    ∙ ap (λ (x : List ℕ). record { reached = r; dropped = x; row = m.row; step = m.step }) d
    ∙ ap (λ (x : InfeasibleRow). record { reached = r; dropped = dropped f r; row = x; step = m.step }) w
    ∙ ap (λ (x : theory.Step). record { reached = r; dropped = dropped f r; row = row; step = x }) s

-- ---- there is what is reached behind it
next_by : (f : Form) (limit : ℕ) (r : Reached) (row : InfeasibleRow) (t : theory.Step) (ms : List Minor) (last : Reached)
    → turn f limit r ≡ Pivots (dropped f r) row t → IsBatch f limit r ms last → (next : Reached) × IsNext f (minor_at f r row t) next
next_by f limit r row t [] last k b = absurd (subst EndsBatch k b.1)
next_by f limit r row t (m ∷ ms) last k b =
    (b.2, subst (λ (x : Minor). IsNext f x b.2) (pivot_is f limit r row t m b.0 b.1 k) b.3)

pub has_next : (f : Form) (limit : ℕ) (r : Reached) (row : InfeasibleRow) (t : theory.Step) → IsReached f r → IsPick f limit r row
    → step_at f r.basis r.fresh row.place row.violation ≡ Some t → (next : Reached) × IsSolvedPivot f limit (minor_at f r row t) next
has_next f limit r row t h p e =
    let k = turn_pivots f limit r row t p e in
    let b = has_batch f limit r h.basis h.fresh in
    let n = next_by f limit r row t b.0 b.1 k b.2 in
    (n.0, record { basis = h.basis; fresh = h.fresh; pivots = k; behind = n.1 })
