-- How many steps a major counts, by what it came to.
use Rattle.std.proofs.Common.{◌≡◌, ℕ, suc, ◌+◌, ◌*◌, ◌≤◌, List, [], ◌∷◌, ◌++◌, map, length, Result, Ok, Err, refl, sym, ap, ◌∙◌, subst, arith}
use Rattle.std.specs.List.{flat_map}
use Rattle.std.proofs.lemmas.List.{length-map}
use Rattle.pami_algebra.specs.Fraction.{Fraction}
use Rattle.pami_frac.specs.declared.fault.Fault.{Fault}
use Rattle.pami_theory.specs.Fresh.{Fresh, IsFresh}
use Rattle.pami_theory.specs.Choice.{InfeasibleRow, chosen as the_chosen}
use Rattle.pami_theory.specs.Basis.{stand_at, head_at}
use Rattle.pami_theory.specs.Step.{flipped}
use Rattle.pami_theory.specs.declared.words.Stand.{Stand}
use Rattle.pami_method.specs.declared.words.Mode.{Mode}
use Rattle.pami_method.specs.declared.words.Options.{Options}
use Rattle.pami_method.specs.declared.words.Place.{Place}
use Rattle.pami_method.specs.declared.words.Spot.TheVariants.{Choose}
use Rattle.pami_method.specs.Scripts.{choose_script}
use Rattle.pami_method.specs.Factor.{History}
use Rattle.pami_method.specs.Batch.{Reached, Minor, Turn, AtLimit, NoRow, Stuck, Pivots, turn}
use Rattle.pami_method.specs.Work.{pivot_of}
use Rattle.pami_method.specs.Walk.{most}
use Rattle.pami_vec.specs.Pivots.{column_pivot}
use Rattle.pami_vec.specs.declared.step.Pivot.{Pivot}
use Rattle.pami_chuzr.specs.Choice.{chosen_row}
use Rattle.pami_chuzr.specs.declared.row.ChosenRow.{ChosenRow}
use Rattle.pami_log.specs.declared.event.Move.{Move}
use Rattle.pami_log.specs.declared.event.Move.TheVariants as moved
use Rattle.pami_log.specs.Events.{drops, minor_moves, last_moves}
use Rattle.pami_form.specs.declared.form.Form.{Form}
use Rattle.pami_form.specs.FormOf.{form_of}
use Rattle.pami_state.specs.State.{basis_of}
use Rattle.pami_state.specs.declared.state.State.{State}
use Rattle.pami_factor.specs.Value.{Product}
use Rattle.pami_batch.specs.Factors.{IsFactorOf}
use Rattle.pami_batch.specs.Solves.{most_solves}
use Rattle.pami_batch.specs.declared.outcome.Outcome.{Outcome}
use Rattle.pami_batch.specs.declared.outcome.Outcome.TheVariants.{Collected}
use Rattle.pami_major.specs.Ready.{IsDueAt}
use Rattle.pami_major.specs.Tried.{Takes}
use Rattle.pami_major.specs.MostSteps.{rows_chosen, pivots_in, attempt_steps, most_tried}
use Rattle.pami_major.specs.declared.majors.Tried.{Tried}
use Rattle.pami_major.specs.declared.majors.Tried.TheVariants as tried
use Rattle.pami_major.proofs.Runs.{told_parts, Runs, AreChosen}

-- ---- the pivots that are told
pivots_append : (xs ys : List Move) → pivots_in (xs ++ ys) ≡ pivots_in xs + pivots_in ys
pivots_append [] ys = omega arith
pivots_append (x ∷ xs) ys = let h = pivots_append xs ys in omega (arith, h)

pivots_drops : (ps : List ℕ) → pivots_in (drops ps) ≡ 0
pivots_drops [] = refl
pivots_drops (p ∷ ps) = let h = pivots_drops ps in omega (arith, h)

pivots_flips : (stand : ℕ → Stand) (vs : List ℕ) → pivots_in (map (λ v. moved.Flipped v (stand v)) vs) ≡ 0
pivots_flips stand [] = refl
pivots_flips stand (v ∷ vs) = let h = pivots_flips stand vs in omega (arith, h)

-- one for each minor
pivots_minor : (m : Minor) → pivots_in (minor_moves m) ≡ 1
pivots_minor m =
    let stand : ℕ → Stand = λ v. flipped (stand_at m.reached.basis v) in
    let flips : List Move = map (λ v. moved.Flipped v (stand v)) m.step.flips in
    let pivot : List Move = moved.Pivoted (suc m.reached.count) m.step.place m.step.leaving m.step.side m.step.entering m.step.tau ∷ [] in
    let all : pivots_in (minor_moves m) ≡ pivots_in (drops m.dropped) + pivots_in (flips ++ pivot) = pivots_append (drops m.dropped) (flips ++ pivot) in
    let behind : pivots_in (flips ++ pivot) ≡ pivots_in flips + 1 = pivots_append flips pivot in
    let no_drop = pivots_drops m.dropped in
    let no_flip : pivots_in flips ≡ 0 = pivots_flips stand m.step.flips in
    omega (arith, all, behind, no_drop, no_flip)

pivots_minors : (ms : List Minor) → pivots_in (flat_map minor_moves ms) ≡ length ms
pivots_minors [] = refl
pivots_minors (m ∷ ms) =
    let all = pivots_append (minor_moves m) (flat_map minor_moves ms) in
    let one = pivots_minor m in
    let h = pivots_minors ms in
    omega (arith, all, one, h)

pivots_last : (r : Reached) (t : Turn) → pivots_in (last_moves r t) ≡ 0
pivots_last r AtLimit = refl
pivots_last r (NoRow dropped) = pivots_drops dropped
pivots_last r (Stuck dropped row) =
    let all = pivots_append (drops dropped) (moved.Stuck row.place (head_at r.basis row.place) row.violation.side ∷ []) in
    let none = pivots_drops dropped in
    omega (arith, all, none)
pivots_last r (Pivots dropped row step) = refl

-- a record tells the pivots of its batch
pub told_pivots : (ms : List Minor) (r : Reached) (t : Turn) → pivots_in (flat_map minor_moves ms ++ last_moves r t) ≡ length ms
told_pivots ms r t =
    let all = pivots_append (flat_map minor_moves ms) (last_moves r t) in
    let minors = pivots_minors ms in
    let last = pivots_last r t in
    omega (arith, all, minors, last)

-- ---- the rows and the pivots of a run
-- as many rows as are chosen
pub chosen_many : (form : Form) (o : Options) (mode : Mode) (st : State) (rows : List ChosenRow) → AreChosen form o mode st rows
    → (s : Fresh) → IsFresh (form_of form) (basis_of st) s → length rows ≡ rows_chosen form o mode st s
chosen_many form o mode st rows c s fresh =
    let f = form_of form in
    let xs : List InfeasibleRow = the_chosen f (basis_of st) s st.weights (most o mode) in
    sym (ap length (told_parts Choose (choose_script f (basis_of st) s) (map chosen_row xs) rows (c s fresh)).1) ∙ length-map xs chosen_row

-- as many pivots as are told
run_moves : (form : Form) (o : Options) (mode : Mode) (st new : State) (h : History) (used : Product) (rows : List ChosenRow) (left : ℕ)
    (pivots : List Pivot) (moves : List Move) → IsDueAt form o st → AreChosen form o mode st rows → IsFactorOf (form_of form) h (basis_of st) used
    → Runs form st left used rows (Collected new pivots moves) → length pivots ≡ pivots_in moves
run_moves form o mode st new h used rows left pivots moves d c of run =
    let f = form_of form in
    let s = d.ready.solved.fresh in
    let fresh = d.ready.solved.solved in
    let xs : List InfeasibleRow = the_chosen f (basis_of st) s st.weights (most o mode) in
    let parts = told_parts Choose (choose_script f (basis_of st) s) (map chosen_row xs) rows (c s fresh) in
    let r = run s (most o mode) h fresh (sym parts.1) of in
    let many : length pivots ≡ length r.0 = sym (length-map pivots column_pivot) ∙ ap length r.3.3 ∙ length-map r.0 pivot_of in
    let told : pivots_in moves ≡ length r.0 = ap pivots_in r.3.4 ∙ told_pivots r.0 r.1 (turn f (st.pivots + left) r.1) in
    many ∙ sym told

-- ---- before the state is changed
pub fault_steps : (n a c : ℕ) (result : Result Tried (Fault Place)) (y : Fault Place) → result ≡ Err y → c ≤ a + (n + n + 2) → c ≤ a + most_tried n result
fault_steps n a c result y e l = subst (λ r. c ≤ a + most_tried n r) (sym e) l

pub taken_steps : (form : Form) (o : Options) (mode : Mode) (st : State) (h : History) (used : Product) (rows : List ChosenRow) (left : ℕ) (outcome : Outcome)
    (places : List ℕ) (result : Result Tried (Fault Place)) (a b c : ℕ) → IsDueAt form o st → AreChosen form o mode st rows
    → IsFactorOf (form_of form) h (basis_of st) used → Runs form st left used rows outcome
    → places ≡ map (λ (row : ChosenRow). row.place) rows → Takes places used outcome result
    → b ≤ a + 1 → c ≤ b + most_solves (length rows) (Ok outcome) → c ≤ b + (2 * length rows + 1)
    → (s : Fresh) → IsFresh (form_of form) (basis_of st) s → c ≤ a + most_tried (rows_chosen form o mode st s) result
taken_steps form o mode st h used rows left outcome places (Ok (tried.Kept new behind chosen moves)) a b c d are of run e (pivots, is, next, same) one m few s fresh =
    let k = run_moves form o mode st new h used rows left pivots moves d are of (subst (Runs form st left used rows) is run) in
    let solves : c ≤ b + (length rows + length pivots + 1) = subst (λ (x : Outcome). c ≤ b + most_solves (length rows) (Ok x)) is m in
    let told : length chosen ≡ length rows = ap length (same ∙ e) ∙ length-map rows (λ (row : ChosenRow). row.place) in
    omega (arith, one, solves, k, told)
taken_steps form o mode st h used rows left outcome places (Ok (tried.Stuck chosen rho moves)) a b c d are of run e (is, same) one m few s fresh =
    let solves : c ≤ b + length rows = subst (λ (x : Outcome). c ≤ b + most_solves (length rows) (Ok x)) is m in
    let told : length chosen ≡ length rows = ap length (same ∙ e) ∙ length-map rows (λ (row : ChosenRow). row.place) in
    omega (arith, one, solves, told)
taken_steps form o mode st h used rows left outcome places (Err fault) a b c d are of run e t one m few s fresh =
    let many = chosen_many form o mode st rows are s fresh in
    omega (arith, one, few, many)

-- where memory runs out behind the run
pub short_steps : (form : Form) (o : Options) (mode : Mode) (st : State) (rows : List ChosenRow) (result : Result Tried (Fault Place)) (y : Fault Place)
    (a b c : ℕ) → AreChosen form o mode st rows → result ≡ Err y → b ≤ a + 1 → c ≤ b + (2 * length rows + 1)
    → (s : Fresh) → IsFresh (form_of form) (basis_of st) s → c ≤ a + most_tried (rows_chosen form o mode st s) result
short_steps form o mode st rows result y a b c are e one few s fresh =
    let many = chosen_many form o mode st rows are s fresh in
    fault_steps (rows_chosen form o mode st s) a c result y e (omega (arith, one, few, many))

-- ---- behind it
pub kept_steps : (n a c : ℕ) (t : Tried) (new : State) (made : Product) (chosen : List ℕ) (moves : List Move) → c ≤ a + most_tried n (Ok t)
    → t ≡ tried.Kept new made chosen moves → c ≤ a + attempt_steps (length chosen) (pivots_in moves)
kept_steps n a c t new made chosen moves l e = subst (λ (x : Tried). c ≤ a + most_tried n (Ok x)) e l

pub stuck_steps : (n a c : ℕ) (t : Tried) (chosen : List ℕ) (rho : List Fraction) (moves : List Move) → c ≤ a + most_tried n (Ok t)
    → t ≡ tried.Stuck chosen rho moves → c ≤ a + (length chosen + 1)
stuck_steps n a c t chosen rho moves l e = subst (λ (x : Tried). c ≤ a + most_tried n (Ok x)) e l
