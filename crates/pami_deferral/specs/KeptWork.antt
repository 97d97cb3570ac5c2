-- The scripts of a major with what is kept and deferred as their inputs: nothing in them is solved afresh but what the
-- major begins with.
use Rattle.std.specs.Prelude.{ℕ, suc, Bool, List, [], ◌∷◌, ◌++◌, map, length, Option, Result, Ok, not, cond, nat_eq}
use Rattle.std.specs.List.{filter}
use Rattle.pami_algebra.specs.Fraction.{Fraction}
use Rattle.pami_frac.specs.Arithmetic.{sub_outcome, div_outcome}
use Rattle.pami_frac.specs.declared.arithmetic.Refused.{Refused}
use Rattle.pami_linear.specs.Lists.{get}
use Rattle.pami_script.specs.Script.{then, each_member, sub_product, add_dot}
use Rattle.pami_factoring.specs.Solve.{ColumnPivot, transform_script}
use Rattle.pami_theory.specs.Form.{Form, limits, coefficient, zero_f}
use Rattle.pami_theory.specs.Basis.{head_at}
use Rattle.pami_theory.specs.Fresh.{column_at, value_at_place}
use Rattle.pami_theory.specs.Violation.{passed_bound}
use Rattle.pami_theory.specs.declared.words.Violation.{Violation}
use Rattle.pami_theory.specs.Ratio.{row_entry}
use Rattle.pami_theory.specs.Step.{Step, flips_change}
use Rattle.pami_theory.specs.Choice.{InfeasibleRow}
use Rattle.pami_method.specs.Task.{Task, task}
use Rattle.pami_method.specs.declared.words.Spot.TheVariants.{Row, Price, Ratio, Step as StepSpot, Reach, Shift, Transform, Values}
use Rattle.pami_method.specs.Factor.{History}
use Rattle.pami_method.specs.Scripts.{violation_script, price_script, ratio_script, flips_script, ascending, zeros, shift_script, each_number}
use Rattle.pami_method.specs.Batch.{Reached, Minor, Turn, AtLimit, NoRow, Stuck, Pivots}
use Rattle.pami_method.specs.Work.{slices, backward_task, column_tasks, flips_task, before_tasks, all_flips_at}
use Rattle.pami_deferral.specs.Collected.{deferred_pivot, deferred_pivots}
use Rattle.pami_deferral.specs.Inside.{KeptRow, Inside, place_of, row_for, value_for, kept_staying, kept_leaving, kept_theta, kept_turn, inside_behind, insides_behind, fresh_inside, step_of}
use Rattle.pami_deferral.specs.Factored.{ReachedRow}
use Rattle.pami_deferral.specs.Listed.{exchange_at, exchanges_script}

-- ---- the scripts of a minor, by what is kept

-- the rows that remain, in order of choice
abbrev pub kept_row_script : Form → Inside → List KeptRow → Result (List (Option Violation)) Refused
kept_row_script f d ks = each_member (λ i k. violation_script (limits f (head_at d.basis (place_of k))) k.value) 0 ks

-- the primal step length
abbrev pub kept_step_script : Form → Inside → Step → Result Fraction Refused
kept_step_script f d t =
    then (flips_script f d.basis (ascending f t.flips) (zeros f.rows)) (λ rows.
    then (add_dot f.rows (get (row_for d t.place)) (get rows) zero_f) (λ u.
    then (sub_outcome (value_for d t.place) u) (λ x.
    then (sub_outcome x (passed_bound (limits f t.leaving) t.side)) (λ y.
    div_outcome y (row_entry f (row_for d t.place) t.entering)))))

-- a row that remains behind the pivot: its value and its row of the inverse
abbrev pub kept_reach_script : Form → Inside → Step → Fraction → KeptRow → Result ReachedRow Refused
kept_reach_script f d t step k =
    then (add_dot f.rows (get k.rho) (coefficient f t.entering) zero_f) (λ alpha.
    then (add_dot f.rows (get k.rho) (flips_change f d.basis t.flips) zero_f) (λ phi.
    then (sub_outcome k.value phi) (λ x.
    then (sub_product x step alpha) (λ y.
    then (div_outcome alpha (row_entry f (row_for d t.place) t.entering)) (λ c.
    then (each_member (λ h u. sub_product u c (get (row_for d t.place) h)) 0 k.rho) (λ rho. Ok (record { value = y; rho = rho })))))))

-- ---- its tasks

abbrev pub kept_row_task : Form → ℕ → ℕ → Inside → Task
kept_row_task f limit minor d = task (Row minor) (kept_row_script f d (cond (nat_eq d.count limit) [] d.rows))

abbrev pub kept_price_tasks : Form → ℕ → Inside → InfeasibleRow → List Task
kept_price_tasks f minor d row = map (λ slice. task (Price minor slice) (price_script f d.basis (row_for d row.place) slice)) (slices f)

abbrev pub kept_ratio_task : Form → ℕ → Inside → InfeasibleRow → Task
kept_ratio_task f minor d row = task (Ratio minor) (ratio_script f d.basis (kept_leaving d row.place row.violation))

abbrev pub kept_reach_tasks : Form → ℕ → Inside → Step → List Task
kept_reach_tasks f minor d t =
    map (λ k. task (Reach minor (place_of k)) (kept_reach_script f d t (kept_theta f d t) k))
    (filter (λ k. not (nat_eq (place_of k) t.place)) (kept_staying f d))

abbrev pub kept_shift_tasks : Form → ℕ → Inside → InfeasibleRow → Step → List Task
kept_shift_tasks f minor d row t =
    map (λ slice. task (Shift minor slice) (shift_script f d.basis (kept_leaving d row.place row.violation) t slice)) (slices f)

abbrev pub kept_minor_tasks : Form → ℕ → ℕ → Inside → InfeasibleRow → Step → List Task
kept_minor_tasks f limit minor d row t =
    kept_row_task f limit minor d
    ∷ (kept_price_tasks f minor d row ++ kept_ratio_task f minor d row ∷ task (StepSpot minor) (kept_step_script f d t) ∷
    (kept_reach_tasks f minor d t ++ kept_shift_tasks f minor d row t))

-- the minors one after the other, what is kept brought up to date by each; rows and steps are those of the turns
abbrev pub kept_minors : Form → ℕ → ℕ → Inside → List Minor → List Task
kept_minors f limit minor d [] = []
kept_minors f limit minor d (m ∷ ms) = kept_minor_tasks f limit minor d m.row m.step ++ kept_minors f limit (suc minor)
    (inside_behind f d m.step) ms

-- ---- the collective update, by deferred pivots

abbrev pub deferred_transforms : Reached → ℕ → List ColumnPivot → List Minor → List Task
deferred_transforms first minor earlier [] = []
deferred_transforms first minor earlier (m ∷ ms) =
    task (Transform minor) (transform_script earlier (column_at first.fresh m.step.entering))
    ∷ deferred_transforms first (suc minor) (earlier ++ deferred_pivot first earlier m ∷ []) ms

abbrev pub deferred_values : Form → Reached → List Minor → Result (List Fraction) Refused
deferred_values f first ms =
    then (each_number f.rows 0 (λ p. sub_outcome (value_at_place first.basis first.fresh p) (all_flips_at f first ms p))) (λ v.
    then (exchanges_script (map (exchange_at f first) ms) v) (λ w. transform_script (deferred_pivots first [] ms) w))

abbrev pub deferred_tasks : Form → History → Reached → List Minor → List Task
deferred_tasks f h first ms =
    column_tasks f h 1 ms ++ flips_task f h ms ∷ (deferred_transforms first 1 [] ms ++ task Values (deferred_values f first ms) ∷ [])

-- ---- the whole list

abbrev pub kept_last : Form → History → Reached → List Minor → ℕ → Inside → Turn → List Task
kept_last f h first ms minor d AtLimit = deferred_tasks f h first ms
kept_last f h first ms minor d (NoRow dropped) = deferred_tasks f h first ms
kept_last f h first ms minor d (Stuck dropped row) = kept_price_tasks f minor d row ++ kept_ratio_task f minor d row ∷ []
kept_last f h first ms minor d (Pivots dropped row step) = []

abbrev pub kept_behind : Form → ℕ → History → Reached → List Minor → Inside → List Task
kept_behind f limit h first ms end =
    kept_row_task f limit (suc (length ms)) end ∷ kept_last f h first ms (suc (length ms)) end (kept_turn f limit end)

abbrev pub kept_work : Form → ℕ → History → Bool → Reached → List Minor → List Task
kept_work f limit h anew first ms =
    before_tasks f h anew first ++ (map (backward_task f h) (map place_of (fresh_inside first).rows)
    ++ (kept_minors f limit 1 (fresh_inside first) ms ++ kept_behind f limit h first ms
    (insides_behind f (fresh_inside first) (map step_of ms))))
