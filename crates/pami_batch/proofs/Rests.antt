-- What a batch's list of tasks begins with from a turn on.
use Rattle.std.proofs.Common.{◌≡◌, ℕ, suc, ◌+◌, List, [], ◌∷◌, ◌++◌, length, Option, None, Some, refl, sym, ap, ◌∙◌, subst, arith}
use Rattle.std.proofs.lemmas.List.{append_assoc, append-nil}
use Rattle.pami_theory.specs.Form.{Form}
use Rattle.pami_theory.specs.Step as theory
use Rattle.pami_theory.specs.Step.{step_at}
use Rattle.pami_theory.specs.Choice.{InfeasibleRow}
use Rattle.pami_method.specs.declared.words.Place.{Place}
use Rattle.pami_method.specs.Task.{Task}
use Rattle.pami_method.specs.Factor.{History}
use Rattle.pami_method.specs.Batch.{Reached, Minor, Stuck, Pivots, dropped, turn, EndsBatch, IsBatch}
use Rattle.pami_method.specs.Work.{all_minors, minor_tasks, row_task, price_tasks, ratio_task, last_tasks, first_refused}
use Rattle.pami_minor.specs.Fresh.{IsPick}
use Rattle.pami_batch.specs.Turns.{behind_tasks, leave_tasks, rest_tasks, Refuses}
use Rattle.pami_batch.proofs.Refusals.{front_refused}
use Rattle.pami_batch.proofs.Pivoting.{turn_stuck, turn_pivots, pivot_is}

abbrev BeginsWith : List Task → List Task → Type 0
BeginsWith front ts = (rest : List Task) × (ts ≡ front ++ rest)

-- ---- the look at the rows
last_first : (f : Form) (limit : ℕ) (h : History) (first : Reached) (whole : List Minor) (number : ℕ) (r last : Reached) → last ≡ r
    → rest_tasks f limit h first whole number [] last ≡ row_task f limit number r ∷ last_tasks f h first whole number r (turn f limit r)
last_first f limit h first whole number r last e =
    let z : number + 0 ≡ number = omega arith in
    ap (λ n. row_task f limit n last ∷ last_tasks f h first whole n last (turn f limit last)) z
    ∙ ap (λ x. row_task f limit number x ∷ last_tasks f h first whole number x (turn f limit x)) e

pub row_first : (f : Form) (limit : ℕ) (h : History) (first : Reached) (whole : List Minor) (number : ℕ) (r : Reached) (ms : List Minor) (last : Reached)
    → IsBatch f limit r ms last → BeginsWith (row_task f limit number r ∷ []) (rest_tasks f limit h first whole number ms last)
row_first f limit h first whole number r [] last b =
    (last_tasks f h first whole number r (turn f limit r), last_first f limit h first whole number r last b.0)
row_first f limit h first whole number r (m ∷ ms) last b =
    subst (λ (x : Reached). BeginsWith (row_task f limit number x ∷ []) (rest_tasks f limit h first whole number (m ∷ ms) last)) b.0 (_, refl)

pub row_refuses : (f : Form) (limit : ℕ) (r : Reached) (number : ℕ) (place : Place) → first_refused (row_task f limit number r ∷ []) ≡ Some place
    → Refuses f limit r number place
row_refuses f limit r number place e h first whole ms last b =
    let s = row_first f limit h first whole number r ms last b in
    ap first_refused s.1 ∙ front_refused (row_task f limit number r ∷ []) s.0 place e

-- ---- the tasks of a row that leaves
abbrev picked_tasks : Form → ℕ → ℕ → Reached → InfeasibleRow → List Task
picked_tasks f limit number r row = row_task f limit number r ∷ leave_tasks f number r row

stuck_first : (f : Form) (limit : ℕ) (h : History) (first : Reached) (whole : List Minor) (number : ℕ) (r : Reached) (row : InfeasibleRow)
    (o : Option theory.Step) → step_at f r.basis r.fresh row.place row.violation ≡ o → IsPick f limit r row → EndsBatch (turn f limit r)
    → row_task f limit number r ∷ last_tasks f h first whole number r (turn f limit r) ≡ picked_tasks f limit number r row
stuck_first f limit h first whole number r row None e p k =
    ap (λ t. row_task f limit number r ∷ last_tasks f h first whole number r t) (turn_stuck f limit r row p e)
    ∙ ap (λ o. row_task f limit number r ∷ (price_tasks f number r row ++ ratio_task f number r row ∷ behind_tasks f number r row o)) (sym e)
stuck_first f limit h first whole number r row (Some t) e p k = absurd (subst EndsBatch (turn_pivots f limit r row t p e) k)

no_step : (d e : List ℕ) (row other : InfeasibleRow) (t : theory.Step) → Stuck d row ≡ Pivots e other t → ⊥
no_step d e row other t h = absurd (cc)

pivot_first : (f : Form) (limit : ℕ) (number : ℕ) (r : Reached) (row : InfeasibleRow) (m : Minor) (o : Option theory.Step)
    → step_at f r.basis r.fresh row.place row.violation ≡ o → IsPick f limit r row → m.reached ≡ r
    → turn f limit r ≡ Pivots m.dropped m.row m.step → minor_tasks f limit number m ≡ picked_tasks f limit number r row
pivot_first f limit number r row m None e p h k =
    absurd (no_step (dropped f r) m.dropped row m.row m.step (sym (turn_stuck f limit r row p e) ∙ k))
pivot_first f limit number r row m (Some t) e p h k =
    ap (minor_tasks f limit number) (pivot_is f limit r row t m h k (turn_pivots f limit r row t p e))
    ∙ ap (λ o. row_task f limit number r ∷ (price_tasks f number r row ++ ratio_task f number r row ∷ behind_tasks f number r row o)) (sym e)

pub picked_first : (f : Form) (limit : ℕ) (h : History) (first : Reached) (whole : List Minor) (number : ℕ) (r : Reached) (row : InfeasibleRow)
    (ms : List Minor) (last : Reached) → IsPick f limit r row → IsBatch f limit r ms last
    → BeginsWith (picked_tasks f limit number r row) (rest_tasks f limit h first whole number ms last)
picked_first f limit h first whole number r row [] last p b = (
  [],
  last_first f limit h first whole number r last b.0
      ∙ stuck_first f limit h first whole number r row (step_at f r.basis r.fresh row.place row.violation) refl p b.1
      ∙ sym (append-nil (picked_tasks f limit number r row)),
)
picked_first f limit h first whole number r row (m ∷ ms) last p b =
    let rest : List Task = all_minors f limit (suc number) ms
    ++ row_task f limit (number + length (m ∷ ms)) last ∷ last_tasks f h first whole (number + length (m ∷ ms)) last (turn f limit last) in (
      rest,
      append_assoc (minor_tasks f limit number m) (all_minors f limit (suc number) ms) _
          ∙ ap (λ ts. ts ++ rest) (pivot_first f limit number r row m (step_at f r.basis r.fresh row.place row.violation) refl p b.0 b.1),
    )

pub picked_refuses : (f : Form) (limit : ℕ) (r : Reached) (row : InfeasibleRow) (number : ℕ) (place : Place) → IsPick f limit r row
    → first_refused (row_task f limit number r ∷ leave_tasks f number r row) ≡ Some place → Refuses f limit r number place
picked_refuses f limit r row number place p e h first whole ms last b =
    let s = picked_first f limit h first whole number r row ms last p b in
    ap first_refused s.1 ∙ front_refused (picked_tasks f limit number r row) s.0 place e
