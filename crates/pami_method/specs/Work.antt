-- The arithmetic of one major iteration: the list of its scripts in their order, each with inputs that are solved afresh.
-- It says where an operation is refused: the first one of the list is the major's outcome.
use Rattle.std.specs.Prelude.{ℕ, suc, ◌+◌, ◌/◌, Bool, true, false, List, [], ◌∷◌, ◌++◌, map, length, Option, None, Some, Result, Ok, set, not, cond, nat_eq}
use Rattle.std.specs.List.{filter, range_with_len}
use Rattle.pami_algebra.specs.Fraction.{Fraction}
use Rattle.pami_algebra.specs.Operations.{◌+ᶠ◌}
use Rattle.pami_frac.specs.declared.arithmetic.Refused.{Refused}
use Rattle.pami_frac.specs.Arithmetic.{add_outcome, sub_outcome}
use Rattle.pami_linear.specs.Lists.{get}
use Rattle.pami_linear.specs.Sums.{dot, unit}
use Rattle.pami_script.specs.Script.{then, each_member, add_product}
use Rattle.pami_factoring.specs.Solve.{ColumnPivot, forward_script, backward_script, transform_script}
use Rattle.pami_theory.specs.Form.{Form, limits, coefficient, variables, zero_f}
use Rattle.pami_theory.specs.Fresh.{row_at, column_at, value_at_place}
use Rattle.pami_theory.specs.Violation.{passed_bound}
use Rattle.pami_theory.specs.Ratio.{Leaving}
use Rattle.pami_theory.specs.Step.{leaving_at, flips_change, theta}
use Rattle.pami_theory.specs.Choice.{InfeasibleRow}
use Rattle.pami_method.specs.Task.{Task, task}
use Rattle.pami_method.specs.declared.words.Place.{Place}
use Rattle.pami_method.specs.declared.words.Spot.{Spot}
use Rattle.pami_method.specs.declared.words.Spot.TheVariants.{Choose, Factor, Backward, Row, Price, Ratio, Step as StepSpot, Reach, Shift, Column, Flips, Transform, Values}
use Rattle.pami_method.specs.Factor.{History, elimination, unfit, solve_task}
use Rattle.pami_method.specs.Scripts as Scripts
use Rattle.pami_method.specs.Batch.{Reached, Minor, Turn, AtLimit, NoRow, Stuck, Pivots, turn, staying, places}

-- ---- one minor iteration; minors count from 1

abbrev pub slices : Form → List ℕ
slices f = range_with_len 0 ((variables f + 63) / 64)

-- the row that leaves in a minor
abbrev pub leaving_of : Reached → InfeasibleRow → Leaving
leaving_of r row = leaving_at r.fresh row.place row.violation

-- the rows that remain, as they are looked at; there is nothing to look at where the limit is met
abbrev pub row_task : Form → ℕ → ℕ → Reached → Task
row_task f limit minor r = task (Row minor) (Scripts.row_script f r.basis r.fresh (cond (nat_eq r.count limit) [] (places r.rows)))

abbrev pub price_tasks : Form → ℕ → Reached → InfeasibleRow → List Task
price_tasks f minor r row = map (λ slice. task (Price minor slice) (Scripts.price_script f r.basis (row_at r.fresh row.place) slice)) (slices f)

abbrev pub ratio_task : Form → ℕ → Reached → InfeasibleRow → Task
ratio_task f minor r row = task (Ratio minor) (Scripts.ratio_script f r.basis (leaving_of r row))

abbrev pub step_task : Form → ℕ → Minor → Task
step_task f minor m = task (StepSpot minor) (Scripts.step_script f m.reached.basis m.reached.fresh m.step)

-- the places that remain behind the pivot, in order of choice
abbrev pub remaining : Form → Minor → List ℕ
remaining f m = filter (λ p. not (nat_eq p m.step.place)) (places (staying f m.reached))

abbrev pub reach_tasks : Form → ℕ → Minor → List Task
reach_tasks f minor m =
    map (λ p. task (Reach minor p) (Scripts.reach_script f m.reached.basis m.reached.fresh m.step (theta f m.reached.basis m.reached.fresh m.step) p)) (remaining f m)

abbrev pub shift_tasks : Form → ℕ → Minor → List Task
shift_tasks f minor m =
    map (λ slice. task (Shift minor slice) (Scripts.shift_script f m.reached.basis (leaving_of m.reached m.row) m.step slice)) (slices f)

abbrev pub minor_tasks : Form → ℕ → ℕ → Minor → List Task
minor_tasks f limit minor m =
    row_task f limit minor m.reached ∷ (price_tasks f minor m.reached m.row ++ ratio_task f minor m.reached m.row ∷ step_task f minor m ∷ (reach_tasks f minor m ++ shift_tasks f minor m))

abbrev pub all_minors : Form → ℕ → ℕ → List Minor → List Task
all_minors f limit minor [] = []
all_minors f limit minor (m ∷ ms) = minor_tasks f limit minor m ++ all_minors f limit (suc minor) ms

-- ---- solves with the factor that the major has

-- the unit vector of a place
abbrev pub unit_at : Form → ℕ → List Fraction
unit_at f p = map (unit p) (range_with_len 0 f.rows)

-- the column of a variable, by row
abbrev pub column_of : Form → ℕ → List Fraction
column_of f v = map (coefficient f v) (range_with_len 0 f.rows)

abbrev pub backward_task : Form → History → ℕ → Task
backward_task f h p = solve_task (Backward p) f h (λ steps. backward_script steps h.pivots (unit_at f p))

abbrev pub column_tasks : Form → History → ℕ → List Minor → List Task
column_tasks f h minor [] = []
column_tasks f h minor (m ∷ ms) =
    solve_task (Column minor) f h (λ steps. forward_script steps h.pivots (column_of f m.step.entering)) ∷ column_tasks f h (suc minor) ms

-- what the flips of some minors change in each row, minor by minor
abbrev pub all_flips_script : Form → List Minor → List Fraction → Result (List Fraction) Refused
all_flips_script f [] rows = Ok rows
all_flips_script f (m ∷ ms) rows =
    then (each_member (λ i t. add_outcome t (flips_change f m.reached.basis m.step.flips i)) 0 rows) (λ next. all_flips_script f ms next)

abbrev pub flips_task : Form → History → List Minor → Task
flips_task f h ms = solve_task Flips f h (λ steps. then (all_flips_script f ms (Scripts.zeros f.rows)) (λ rows. forward_script steps h.pivots rows))

-- ---- the collective update, from what the batch began with

-- a minor's pivot, with its column by the basis before it
abbrev pub pivot_of : Minor → ColumnPivot
pivot_of m = record { place = m.step.place; column = column_at m.reached.fresh m.step.entering }

-- each entering column by the first basis goes through the pivots before its own
abbrev pub transform_tasks : Reached → ℕ → List ColumnPivot → List Minor → List Task
transform_tasks first minor earlier [] = []
transform_tasks first minor earlier (m ∷ ms) =
    task (Transform minor) (transform_script earlier (column_at first.fresh m.step.entering)) ∷ transform_tasks first (suc minor) (earlier ++ pivot_of m ∷ []) ms

-- what the flips of all minors change in a row
abbrev pub all_flips_change : Form → List Minor → ℕ → Fraction
all_flips_change f [] i = zero_f
all_flips_change f (m ∷ ms) i = flips_change f m.reached.basis m.step.flips i +ᶠ all_flips_change f ms i

-- the change of the first basis's value at a place by all flips
abbrev pub all_flips_at : Form → Reached → List Minor → ℕ → Fraction
all_flips_at f first ms p = dot f.rows (get (row_at first.fresh p)) (all_flips_change f ms)

-- the value of a minor's entering variable when it enters, and the bound to which the leaving one goes
abbrev pub entering_value : Minor → Fraction
entering_value m = get m.reached.fresh.values m.step.entering

abbrev pub leaving_bound : Form → Minor → Fraction
leaving_bound f m = passed_bound (limits f m.step.leaving) m.step.side

abbrev pub sub_at : ℕ → Fraction → List Fraction → Result (List Fraction) Refused
sub_at p bound v = then (sub_outcome (get v p) bound) (λ x. Ok (set v p x))

-- v by place: each entering variable's column by the first basis is added with its value, and the leaving one's bound is
-- taken away at its place
abbrev pub moved_script : Form → Reached → List Minor → List Fraction → Result (List Fraction) Refused
moved_script f first [] v = Ok v
moved_script f first (m ∷ ms) v =
    then (each_member (λ i x. add_product x (entering_value m) (get (column_at first.fresh m.step.entering) i)) 0 v) (λ w.
    then (sub_at m.step.place (leaving_bound f m) w) (λ next. moved_script f first ms next))

-- the values by place behind the batch
abbrev pub values_script : Form → Reached → List Minor → Result (List Fraction) Refused
values_script f first ms =
    then (Scripts.each_number f.rows 0 (λ p. sub_outcome (value_at_place first.basis first.fresh p) (all_flips_at f first ms p))) (λ v.
    then (moved_script f first ms v) (λ w. transform_script (map pivot_of ms) w))

abbrev pub collect_tasks : Form → History → Reached → List Minor → List Task
collect_tasks f h first ms =
    column_tasks f h 1 ms ++ flips_task f h ms ∷ (transform_tasks first 1 [] ms ++ task Values (values_script f first ms) ∷ [])

-- ---- the whole list

-- behind the minors: nothing more where no variable enters, else the collective update
abbrev pub last_tasks : Form → History → Reached → List Minor → ℕ → Reached → Turn → List Task
last_tasks f h first ms minor last AtLimit = collect_tasks f h first ms
last_tasks f h first ms minor last (NoRow dropped) = collect_tasks f h first ms
last_tasks f h first ms minor last (Stuck dropped row) = price_tasks f minor last row ++ ratio_task f minor last row ∷ []
last_tasks f h first ms minor last (Pivots dropped row step) = []

abbrev pub factor_tasks : Form → History → Bool → List Task
factor_tasks f h false = []
factor_tasks f h true = record { spot = Factor; refusal = unfit (elimination f h.head) } ∷ []

-- what comes before the major's tasks: the choice of its rows, and the factor where it eliminates
abbrev pub before_tasks : Form → History → Bool → Reached → List Task
before_tasks f h anew first = task Choose (Scripts.choose_script f first.basis first.fresh) ∷ factor_tasks f h anew

-- the tasks, in the order in which they count: the rows of the chosen places, the minors, what follows the last pivot
abbrev pub later_tasks : Form → ℕ → History → Reached → List Minor → Reached → List Task
later_tasks f limit h first ms last =
    map (backward_task f h) (places first.rows)
    ++ (all_minors f limit 1 ms
    ++ row_task f limit (suc (length ms)) last ∷ last_tasks f h first ms (suc (length ms)) last (turn f limit last))

-- the scripts of a major that begins with `first`, takes the pivots ms and ends with `last`, where h is the history of its
-- factor and `anew` says whether it eliminates
abbrev pub work : Form → ℕ → History → Bool → Reached → List Minor → Reached → List Task
work f limit h anew first ms last = before_tasks f h anew first ++ later_tasks f limit h first ms last

abbrev pub refused_or : Option Refused → Spot → Option Place → Option Place
refused_or (Some refused) spot later = Some (record { task = spot; refused = refused })
refused_or None spot later = later

-- the first operation of a list of scripts that doesn't fit, with its script
abbrev pub first_refused : List Task → Option Place
first_refused [] = None
first_refused (t ∷ ts) = refused_or t.refusal t.spot (first_refused ts)
