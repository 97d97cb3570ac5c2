-- The scripts with what is kept and deferred as inputs are those of the major, whose inputs are solved afresh.
use Rattle.std.proofs.Common.{◌≡◌, ℕ, suc, inl, Bool, true, false, not, nat_eq, cond, List, [], ◌∷◌, ◌++◌, map, length, Option, None, Some, Result, Ok, refl, sym, ap, ◌∙◌, subst}
use Rattle.std.specs.List.{filter, filter_map}
use Rattle.pami_algebra.specs.Fraction.{Fraction}
use Rattle.pami_frac.specs.Arithmetic.{sub_outcome, div_outcome}
use Rattle.pami_frac.specs.declared.arithmetic.Refused.{Refused}
use Rattle.pami_linear.specs.Lists.{get}
use Rattle.pami_script.specs.Script.{then, each_member, sub_product, add_dot}
use Rattle.pami_factoring.specs.Solve.{transform_script}
use Rattle.pami_theory.specs.Form.{Form, limits, coefficient, zero_f}
use Rattle.pami_theory.specs.Basis.{head_at, IsBasis}
use Rattle.pami_theory.specs.Fresh.{IsFresh, row_at, column_at, value_at_place}
use Rattle.pami_theory.specs.Violation.{passed_bound}
use Rattle.pami_theory.specs.Ratio.{row_entry}
use Rattle.pami_theory.specs.Step.{Step, step_at, flips_change, theta}
use Rattle.pami_theory.specs.Order.{ordered}
use Rattle.pami_theory.specs.Choice.{InfeasibleRow, is_chosen_before}
use Rattle.pami_theory.proofs.Members.{Has}
use Rattle.pami_method.specs.Task.{Task, task, refusal}
use Rattle.pami_method.specs.declared.words.Spot.{Spot}
use Rattle.pami_method.specs.declared.words.Spot.TheVariants.{Row, Price, Ratio, Step as StepSpot, Reach, Shift, Transform, Values}
use Rattle.pami_method.specs.Factor.{History}
use Rattle.pami_method.specs.Scripts.{violation_script, place_script, row_script, price_script, ratio_script, flips_script, ascending, zeros, step_script, reach_script, shift_script, each_number}
use Rattle.pami_method.specs.Batch.{Reached, Minor, Turn, AtLimit, NoRow, Stuck, Pivots, places, row_now, staying, dropped, with_step, with_rows, turn, IsBatch}
use Rattle.pami_method.specs.Work.{slices, leaving_of, row_task, price_tasks, ratio_task, step_task, reach_tasks, shift_tasks, minor_tasks, all_minors, pivot_of, backward_task, column_tasks, flips_task, transform_tasks, collect_tasks, last_tasks, before_tasks, work, all_flips_at, moved_script, values_script}
use Rattle.pami_script.proofs.Scripts.{then_same}
use Rattle.pami_deferral.specs.Collected.{deferred_pivot, deferred_pivots}
use Rattle.pami_deferral.specs.Inside.{KeptRow, fresh_row, fresh_inside, place_of, value_for, kept_leaving, kept_theta, kept_turn, step_of, inside_behind, insides_behind, IsPlaced}
use Rattle.pami_deferral.specs.Factored.{ReachedRow, reached_script}
use Rattle.pami_deferral.specs.KeptWork.{kept_row_script, kept_step_script, kept_reach_script, kept_row_task, kept_price_tasks, kept_ratio_task, kept_reach_tasks, kept_shift_tasks, kept_minor_tasks, kept_minors, deferred_transforms, deferred_values, deferred_tasks, kept_last, kept_behind, kept_work}
use Rattle.pami_deferral.proofs.Filters.{filter-map, map-map, map_same}
use Rattle.pami_deferral.proofs.KeptTurns.{row_is, value_is, staying_is, turn_is, now_has}
use Rattle.pami_deferral.proofs.Chains.{HasPlace, Links, IsChain, ended, linked, batch_chain}
use Rattle.pami_deferral.proofs.CollectedValues.{deferred_are, deferred_column, chain_more, map_more}
use Rattle.pami_deferral.proofs.Pivots.{theta_is, next_placed, inside_is, step_place}
use Rattle.pami_deferral.proofs.ReachScripts.{reached_refusal}
use Rattle.pami_deferral.proofs.Insides.{inside_at_end}
use Rattle.pami_deferral.proofs.ListScripts.{exchanges_are}

-- ---- a minor
members_map : {A B C : Type 0} (g : A → B) (step : B → Result C Refused) (i : ℕ) (xs : List A)
    → each_member (λ j x. step x) i (map g xs) ≡ each_member (λ j x. step (g x)) i xs
members_map g step i [] = refl
members_map g step i (x ∷ xs) = ap (λ r. then (step (g x)) (λ y. then r (λ ys. Ok (y ∷ ys)))) (members_map g step (suc i) xs)

members_places : (f : Form) (r : Reached) (i : ℕ) (rows : List InfeasibleRow)
    → each_member (λ j p. place_script f r.basis r.fresh p) i (places rows)
    ≡ each_member (λ j (row : InfeasibleRow). place_script f r.basis r.fresh row.place) i rows
members_places f r i rows = members_map (λ (row : InfeasibleRow). row.place) (place_script f r.basis r.fresh) i rows

row_script_is : (f : Form) (limit : ℕ) (r : Reached) (b : Bool) → kept_row_script f (fresh_inside r) (cond b [] (map (fresh_row r) r.rows))
    ≡ row_script f r.basis r.fresh (cond b [] (places r.rows))
row_script_is f limit r true = refl
row_script_is f limit r false =
    members_map (fresh_row r) (λ k. violation_script (limits f (head_at r.basis (place_of k))) k.value) 0 r.rows
    ∙ sym (members_places f r 0 r.rows)

row_task_is : (f : Form) (limit minor : ℕ) (r : Reached) → kept_row_task f limit minor (fresh_inside r) ≡ row_task f limit minor r
row_task_is f limit minor r = ap (λ s. task (Row minor) s) (row_script_is f limit r (nat_eq r.count limit))

price_tasks_are : (f : Form) (minor : ℕ) (r : Reached) (row : InfeasibleRow) → HasPlace r.rows row.place
    → kept_price_tasks f minor (fresh_inside r) row ≡ price_tasks f minor r row
price_tasks_are f minor r row h = ap (λ rho. map (λ slice. task (Price minor slice) (price_script f r.basis rho slice)) (slices f))
    (row_is r row.place h)

leaving_is : (r : Reached) (row : InfeasibleRow) → HasPlace r.rows row.place
    → kept_leaving (fresh_inside r) row.place row.violation ≡ leaving_of r row
leaving_is r row h = ap (λ rho. record { violation = row.violation; row = rho; reduced = r.fresh.reduced }) (row_is r row.place h)

ratio_task_is : (f : Form) (minor : ℕ) (r : Reached) (row : InfeasibleRow) → HasPlace r.rows row.place
    → kept_ratio_task f minor (fresh_inside r) row ≡ ratio_task f minor r row
ratio_task_is f minor r row h = ap (λ l. task (Ratio minor) (ratio_script f r.basis l)) (leaving_is r row h)

shift_tasks_are : (f : Form) (minor : ℕ) (m : Minor) → HasPlace m.reached.rows m.row.place
    → kept_shift_tasks f minor (fresh_inside m.reached) m.row m.step ≡ shift_tasks f minor m
shift_tasks_are f minor m h = ap (λ l. map (λ slice. task (Shift minor slice) (shift_script f m.reached.basis l m.step slice)) (slices f))
    (leaving_is m.reached m.row h)

step_by_row : Form → Reached → Step → List Fraction → Fraction → Result Fraction Refused
step_by_row f r t rho value =
    then (flips_script f r.basis (ascending f t.flips) (zeros f.rows)) (λ rows.
    then (add_dot f.rows (get rho) (get rows) zero_f) (λ u.
    then (sub_outcome value u) (λ x.
    then (sub_outcome x (passed_bound (limits f t.leaving) t.side)) (λ y.
    div_outcome y (row_entry f rho t.entering)))))

step_script_is : (f : Form) (m : Minor) → HasPlace m.reached.rows m.step.place
    → kept_step_script f (fresh_inside m.reached) m.step ≡ step_script f m.reached.basis m.reached.fresh m.step
unfolding step_by_row
step_script_is f m h =
    ap (λ rho. step_by_row f m.reached m.step rho (value_for (fresh_inside m.reached) m.step.place)) (row_is m.reached m.step.place h)
    ∙ ap (step_by_row f m.reached m.step (row_at m.reached.fresh m.step.place)) (value_is m.reached m.step.place h)

-- ---- the rows that remain
reach_with : Form → Reached → Step → List Fraction → Fraction → InfeasibleRow → Result ReachedRow Refused
reach_with f r t rho step row =
    then (add_dot f.rows (get (row_at r.fresh row.place)) (coefficient f t.entering) zero_f) (λ alpha.
    then (add_dot f.rows (get (row_at r.fresh row.place)) (flips_change f r.basis t.flips) zero_f) (λ phi.
    then (sub_outcome (value_at_place r.basis r.fresh row.place) phi) (λ x.
    then (sub_product x step alpha) (λ y.
    then (div_outcome alpha (row_entry f rho t.entering)) (λ c.
    then (each_member (λ h u. sub_product u c (get rho h)) 0 (row_at r.fresh row.place)) (λ xs. Ok (record { value = y; rho = xs })))))))

pub reach_script_is : (f : Form) (m : Minor) (next : Reached) (row : InfeasibleRow) → Links f m next →
    kept_reach_script f (fresh_inside m.reached) m.step (kept_theta f (fresh_inside m.reached) m.step) (fresh_row m.reached row)
    ≡ reached_script f m.reached.basis m.reached.fresh m.step (theta f m.reached.basis m.reached.fresh m.step) row.place
unfolding reach_with
reach_script_is f m next row k =
    ap (λ rho. reach_with f m.reached m.step rho (kept_theta f (fresh_inside m.reached) m.step) row) (row_is m.reached m.step.place k.place)
    ∙ ap (λ th. reach_with f m.reached m.step (row_at m.reached.fresh m.step.place) th row) (theta_is f m next k)

same_task : {A B : Type 0} (spot : Spot) (r : Result A Refused) (s : Result B Refused) → refusal r ≡ refusal s → task spot r ≡ task spot s
same_task spot r s e = ap (λ z. record { spot = spot; refusal = z }) e

reach_tasks_are : (f : Form) (minor : ℕ) (m : Minor) (next : Reached) → Links f m next
    → kept_reach_tasks f minor (fresh_inside m.reached) m.step ≡ reach_tasks f minor m
reach_tasks_are f minor m next k =
    let r = m.reached in
    let t = m.step in
    let d = fresh_inside r in
    let left : InfeasibleRow → Bool = λ (row : InfeasibleRow). not (nat_eq row.place t.place) in
    let other : ℕ → Bool = λ p. not (nat_eq p t.place) in
    let place : InfeasibleRow → ℕ = λ (row : InfeasibleRow). row.place in
    let g : KeptRow → Task = λ kept. task (Reach minor (place_of kept)) (kept_reach_script f d t (kept_theta f d t) kept) in
    let h : ℕ → Task = λ p. task (Reach minor p) (reach_script f r.basis r.fresh t (theta f r.basis r.fresh t) p) in
    ap (λ ks. map g (filter (λ kept. not (nat_eq (place_of kept) t.place)) ks)) (staying_is f r)
    ∙ ap (map g) (filter-map (λ kept. not (nat_eq (place_of kept) t.place)) (fresh_row r) (staying f r))
    ∙ map-map g (fresh_row r) (filter left (staying f r))
    ∙ map_same (λ row. g (fresh_row r row)) (λ row. h row.place) (filter left (staying f r))
    (λ row q. ap (task (Reach minor row.place)) (reach_script_is f m next row k)
    ∙ same_task (Reach minor row.place) (reached_script f r.basis r.fresh t (theta f r.basis r.fresh t) row.place)
    (reach_script f r.basis r.fresh t (theta f r.basis r.fresh t) row.place)
    (reached_refusal f r.basis r.fresh t (theta f r.basis r.fresh t) row.place))
    ∙ sym (map-map h place (filter left (staying f r)))
    ∙ ap (map h) (sym (filter-map other place (staying f r)))

minor_tasks_are : (f : Form) (limit minor : ℕ) (m : Minor) (next : Reached) → Links f m next
    → kept_minor_tasks f limit minor (fresh_inside m.reached) m.row m.step ≡ minor_tasks f limit minor m
minor_tasks_are f limit minor m next k =
    let d = fresh_inside m.reached in
    let h : HasPlace m.reached.rows m.row.place = subst (HasPlace m.reached.rows) (step_place f m next k) k.place in
    let behind : List Task = kept_reach_tasks f minor d m.step ++ kept_shift_tasks f minor d m.row m.step in
    let walked : List Task = kept_ratio_task f minor d m.row ∷ task (StepSpot minor) (kept_step_script f d m.step) ∷ behind in
    ap (λ t. t ∷ (kept_price_tasks f minor d m.row ++ walked)) (row_task_is f limit minor m.reached)
    ∙ ap (λ ts. row_task f limit minor m.reached ∷ (ts ++ walked)) (price_tasks_are f minor m.reached m.row h)
    ∙ ap (λ t. row_task f limit minor m.reached ∷
    (price_tasks f minor m.reached m.row ++ t ∷ task (StepSpot minor) (kept_step_script f d m.step) ∷ behind))
    (ratio_task_is f minor m.reached m.row h)
    ∙ ap (λ s. row_task f limit minor m.reached ∷
    (price_tasks f minor m.reached m.row ++ ratio_task f minor m.reached m.row ∷ task (StepSpot minor) s ∷ behind))
    (step_script_is f m k.place)
    ∙ ap (λ ts. row_task f limit minor m.reached ∷
    (price_tasks f minor m.reached m.row ++ ratio_task f minor m.reached m.row ∷ step_task f minor m ∷
    (ts ++ kept_shift_tasks f minor d m.row m.step))) (reach_tasks_are f minor m next k)
    ∙ ap (λ ts. row_task f limit minor m.reached ∷
    (price_tasks f minor m.reached m.row ++ ratio_task f minor m.reached m.row ∷ step_task f minor m ∷ (reach_tasks f minor m ++ ts)))
    (shift_tasks_are f minor m h)

minors_are : (f : Form) (limit minor : ℕ) (first : Reached) (ms : List Minor) (last : Reached) → IsChain f first ms last → IsPlaced f first
    → kept_minors f limit minor (fresh_inside first) ms ≡ all_minors f limit minor ms
minors_are f limit minor _ _ _ (ended r) p = refl
minors_are f limit minor _ _ _ (linked m next ms last k rest) p =
    ap (λ ts. ts ++ kept_minors f limit (suc minor) (inside_behind f (fresh_inside m.reached) m.step) ms)
    (minor_tasks_are f limit minor m next k)
    ∙ ap (λ d. minor_tasks f limit minor m ++ kept_minors f limit (suc minor) d ms) (inside_is f m next k p)
    ∙ ap (λ ts. minor_tasks f limit minor m ++ ts) (minors_are f limit (suc minor) next ms last rest (next_placed f m next k p))

-- ---- the collective update
transforms_are : (f : Form) (first : Reached) (minor : ℕ) (es : List Minor) (r : Reached) (ms : List Minor) (last : Reached)
    → IsFresh f first.basis first.fresh → IsChain f first es r → IsChain f r ms last →
    deferred_transforms first minor (map pivot_of es) ms ≡ transform_tasks first minor (map pivot_of es) ms
transforms_are f first minor es _ _ _ s h (ended r) = refl
transforms_are f first minor es _ _ _ s h (linked m next ms last k rest) =
    let one : Task = task (Transform minor) (transform_script (map pivot_of es) (column_at first.fresh m.step.entering)) in
    let same : deferred_pivot first (map pivot_of es) m ≡ pivot_of m =
    ap (λ c. record { place = m.step.place; column = c }) (deferred_column f first es m next s h k) in
    ap (λ e. one ∷ deferred_transforms first (suc minor) (map pivot_of es ++ e ∷ []) ms) same
    ∙ ap (λ ps. one ∷ deferred_transforms first (suc minor) ps ms) (map_more es m)
    ∙ ap (λ ts. one ∷ ts) (transforms_are f first (suc minor) (es ++ m ∷ []) next ms last s (chain_more f first es m next h k) rest)
    ∙ ap (λ ps. one ∷ transform_tasks first (suc minor) ps ms) (sym (map_more es m))

values_are : (f : Form) (first : Reached) (ms : List Minor) (last : Reached) → IsFresh f first.basis first.fresh → IsChain f first ms last
    → deferred_values f first ms ≡ values_script f first ms
values_are f first ms last s h =
    then_same (each_number f.rows 0 (λ p. sub_outcome (value_at_place first.basis first.fresh p) (all_flips_at f first ms p))) _ _
    (λ v. ap (λ r. then r (λ w. transform_script (deferred_pivots first [] ms) w)) (exchanges_are f first ms v)
    ∙ ap (λ es. then (moved_script f first ms v) (λ w. transform_script es w)) (deferred_are f first ms last s h))

collect_tasks_are : (f : Form) (h : History) (first : Reached) (ms : List Minor) (last : Reached) → IsFresh f first.basis first.fresh
    → IsChain f first ms last → deferred_tasks f h first ms ≡ collect_tasks f h first ms
collect_tasks_are f h first ms last s c =
    ap (λ ts. column_tasks f h 1 ms ++ flips_task f h ms ∷ (ts ++ task Values (deferred_values f first ms) ∷ []))
    (transforms_are f first 1 [] first ms last s (ended first) c)
    ∙ ap (λ v. column_tasks f h 1 ms ++ flips_task f h ms ∷ (transform_tasks first 1 [] ms ++ task Values v ∷ []))
    (values_are f first ms last s c)

-- ---- behind the minors
stuck_by : (d e : List ℕ) (row now : InfeasibleRow) (o : Option Step) → with_step d now o ≡ Stuck e row → row ≡ now
stuck_by d e row now None h = cc
stuck_by d e row now (Some t) h = absurd (cc)

stuck_in : (f : Form) (r : Reached) (rows : List InfeasibleRow) (e : List ℕ) (row : InfeasibleRow) → with_rows f r rows ≡ Stuck e row
    → Has rows row
stuck_in f r [] e row h = absurd (cc)
stuck_in f r (now ∷ rows) e row h = inl (sym (stuck_by (dropped f r) e row now (step_at f r.basis r.fresh now.place now.violation) h))

stuck_below : (f : Form) (r : Reached) (b : Bool) (rows : List InfeasibleRow) (e : List ℕ) (row : InfeasibleRow)
    → cond b AtLimit (with_rows f r rows) ≡ Stuck e row → Has rows row
stuck_below f r true rows e row h = absurd (cc)
stuck_below f r false rows e row h = stuck_in f r rows e row h

stuck_place : (f : Form) (limit : ℕ) (r : Reached) (e : List ℕ) (row : InfeasibleRow) → turn f limit r ≡ Stuck e row
    → HasPlace r.rows row.place
stuck_place f limit r e row h =
    now_has f r row (stuck_below f r (nat_eq r.count limit) (ordered is_chosen_before (filter_map (row_now f r) (staying f r))) e row h)

last_by : (f : Form) (limit : ℕ) (h : History) (first : Reached) (ms : List Minor) (last : Reached) (minor : ℕ) (t : Turn)
    → IsFresh f first.basis first.fresh → IsChain f first ms last → turn f limit last ≡ t →
    kept_last f h first ms minor (fresh_inside last) t ≡ last_tasks f h first ms minor last t
last_by f limit h first ms last minor AtLimit s c e = collect_tasks_are f h first ms last s c
last_by f limit h first ms last minor (NoRow d) s c e = collect_tasks_are f h first ms last s c
last_by f limit h first ms last minor (Stuck d row) s c e =
    let p = stuck_place f limit last d row e in
    ap (λ ts. ts ++ kept_ratio_task f minor (fresh_inside last) row ∷ []) (price_tasks_are f minor last row p)
    ∙ ap (λ t. price_tasks f minor last row ++ t ∷ []) (ratio_task_is f minor last row p)
last_by f limit h first ms last minor (Pivots d row t) s c e = refl

behind_is : (f : Form) (limit : ℕ) (h : History) (first : Reached) (ms : List Minor) (last : Reached) → IsFresh f first.basis first.fresh
    → IsChain f first ms last →
    kept_behind f limit h first ms (fresh_inside last) ≡ row_task f limit (suc (length ms)) last ∷ last_tasks f h first ms
    (suc (length ms)) last (turn f limit last)
behind_is f limit h first ms last s c =
    ap (λ t. t ∷ kept_last f h first ms (suc (length ms)) (fresh_inside last) (kept_turn f limit (fresh_inside last)))
    (row_task_is f limit (suc (length ms)) last)
    ∙ ap (λ t. row_task f limit (suc (length ms)) last ∷ kept_last f h first ms (suc (length ms)) (fresh_inside last) t)
    (turn_is f limit last)
    ∙ ap (λ ts. row_task f limit (suc (length ms)) last ∷ ts)
    (last_by f limit h first ms last (suc (length ms)) (turn f limit last) s c refl)

-- ---- the whole list
pub work_is : (f : Form) (limit : ℕ) (h : History) (anew : Bool) (first : Reached) (ms : List Minor) (last : Reached)
    → IsBasis f first.basis → IsFresh f first.basis first.fresh → IsPlaced f first
    → IsBatch f limit first ms last → kept_work f limit h anew first ms ≡ work f limit h anew first ms last
work_is f limit h anew first ms last b s p k =
    let c = batch_chain f limit first ms last b s k in
    let backward : List ℕ → List Task = map (backward_task f h) in
    ap (λ ps. before_tasks f h anew first ++
    (backward ps ++
    (kept_minors f limit 1 (fresh_inside first) ms ++ kept_behind f limit h first ms
    (insides_behind f (fresh_inside first) (map step_of ms)))))
    (map-map place_of (fresh_row first) first.rows)
    ∙ ap (λ ts. before_tasks f h anew first ++
    (backward (places first.rows) ++ (ts ++ kept_behind f limit h first ms (insides_behind f (fresh_inside first) (map step_of ms)))))
    (minors_are f limit 1 first ms last c p)
    ∙ ap (λ d. before_tasks f h anew first ++
    (backward (places first.rows) ++ (all_minors f limit 1 ms ++ kept_behind f limit h first ms d)))
    (inside_at_end f limit first ms last b s p k)
    ∙ ap (λ ts. before_tasks f h anew first ++ (backward (places first.rows) ++ (all_minors f limit 1 ms ++ ts)))
    (behind_is f limit h first ms last s c)
