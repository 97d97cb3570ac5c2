-- The tasks of the collective update, part by part, and the values behind it.
use Rattle.std.proofs.Common.{◌≡◌, ℕ, ◌<◌, List, [], ◌∷◌, ◌++◌, map, length, Option, None, Some, Result, Ok, Err}
use Rattle.std.proofs.Common.{refl, sym, ap, ◌∙◌, subst, arith}
use Rattle.std.specs.List.{All}
use Rattle.std.proofs.lemmas.Option.{none-some}
use Rattle.std.proofs.lemmas.List.{length-map}
use Rattle.std.proofs.lemmas.List.Elements.{All-nil, All-cons}
use Rattle.pami_algebra.specs.Fraction.{Fraction}
use Rattle.pami_linear.specs.Lists.{get}
use Rattle.pami_frac.specs.Answers.{Follows}
use Rattle.pami_frac.specs.declared.arithmetic.Refused.{Refused}
use Rattle.pami_frac.specs.declared.fault.Fault.{Fault}
use Rattle.pami_frac.specs.declared.fault.Fault.TheVariants as faults
use Rattle.pami_theory.specs.Form as theory
use Rattle.pami_theory.specs.Form.{zero_f}
use Rattle.pami_theory.specs.Basis.{IsBasis}
use Rattle.pami_theory.specs.Fresh.{IsFresh, value_at_place}
use Rattle.pami_theory.proofs.Solved.{only_fresh}
use Rattle.pami_theory.proofs.Tables.{tabled_length}
use Rattle.pami_method.specs.Task.{Task, refusal, task}
use Rattle.pami_method.specs.declared.words.Place.{Place}
use Rattle.pami_method.specs.declared.words.Spot.{Spot}
use Rattle.pami_method.specs.declared.words.Spot.TheVariants.{Flips, Values}
use Rattle.pami_method.specs.Batch.{Minor}
use Rattle.pami_method.specs.Work.{pivot_of, entering_value, all_flips_at, column_tasks}
use Rattle.pami_method.specs.Work.{flips_task, transform_tasks, values_script, collect_tasks, refused_or, first_refused}
use Rattle.pami_method.proofs.Tasks.{none_refused, first_behind}
use Rattle.pami_method.proofs.Batches.{batch_ends_fresh}
use Rattle.pami_deferral.specs.Listed.{exchange_at, collect_script}
use Rattle.pami_deferral.proofs.Chains.{AllLeave, all_leave, solved_chain}
use Rattle.pami_deferral.proofs.ListScripts.{collect_is}
use Rattle.pami_deferral.proofs.CollectScripts.{values_value}
use Rattle.pami_vec.specs.declared.step.Step.{Step}
use Rattle.pami_vec.specs.declared.step.Pivot.{Pivot}
use Rattle.pami_vec.specs.Pivots.{column_pivots, ArePivots}
use Rattle.pami_factor.specs.Value.{Product}
use Rattle.pami_state.specs.State.{basis_of, IsSolvedAfresh, values_by_place}
use Rattle.pami_state.specs.declared.state.State.{State}
use Rattle.pami_collect.specs.Exchanges.{exchange_of, exchanges_of}
use Rattle.pami_minor.specs.Steps.{IsStepOf, AreStepsOf}
use Rattle.pami_batch.specs.Factors.{IsFactorOf}
use Rattle.pami_batch.specs.FinishedBatch.{FinishedBatch, HasSteps, BeginsAt, first_column, first_columns}
use Rattle.pami_batch.proofs.BatchSteps.{as_many, columns_long, all_pivots_ready}
use Rattle.pami_batch.proofs.FlipTasks.{flips_by, flips_exact}

-- ---- tasks behind one another
pub front_fits : (ts us : List Task) → first_refused ts ≡ None → first_refused (ts ++ us) ≡ first_refused us
front_fits ts us e = first_behind ts us (none_refused ts e)

front_by : (o : Option Refused) (spot : Spot) (x y : Option Place) (r : Place) → (x ≡ Some r → y ≡ Some r) → refused_or o spot x ≡ Some r
    → refused_or o spot y ≡ Some r
front_by None spot x y r g e = g e
front_by (Some d) spot x y r g e = e

pub front_refused : (ts us : List Task) (r : Place) → first_refused ts ≡ Some r → first_refused (ts ++ us) ≡ Some r
front_refused [] us r e = absurd (none-some r e)
front_refused (t ∷ ts) us r e = front_by t.refusal t.spot (first_refused ts) (first_refused (ts ++ us)) r (front_refused ts us r) e

-- ---- the parts
abbrev behind_flips : theory.Form → FinishedBatch → List Task
behind_flips f b = transform_tasks b.first 1 [] b.minors ++ task Values (values_script f b.first b.minors) ∷ []

abbrev columns_fit : theory.Form → FinishedBatch → Type 0
columns_fit f b = first_refused (column_tasks f b.history 1 b.minors) ≡ None

abbrev tasks_of : theory.Form → FinishedBatch → List Task
tasks_of f b = collect_tasks f b.history b.first b.minors

columns_pass : (f : theory.Form) (b : FinishedBatch) → columns_fit f b
    → first_refused (tasks_of f b) ≡ refused_or (flips_task f b.history b.minors).refusal Flips (first_refused (behind_flips f b))
columns_pass f b e = front_fits (column_tasks f b.history 1 b.minors) (flips_task f b.history b.minors ∷ behind_flips f b) e

pub flips_stop : (f : theory.Form) (b : FinishedBatch) (r : Refused) → columns_fit f b → (flips_task f b.history b.minors).refusal ≡ Some r
    → first_refused (tasks_of f b) ≡ Some (record { task = Flips; refused = r })
flips_stop f b r e h = columns_pass f b e ∙ ap (λ o. refused_or o Flips (first_refused (behind_flips f b))) h

flips_pass : (f : theory.Form) (b : FinishedBatch) → columns_fit f b → (flips_task f b.history b.minors).refusal ≡ None
    → first_refused (tasks_of f b) ≡ first_refused (behind_flips f b)
flips_pass f b e h = columns_pass f b e ∙ ap (λ o. refused_or o Flips (first_refused (behind_flips f b))) h

pub values_left : (f : theory.Form) (b : FinishedBatch) → columns_fit f b → (flips_task f b.history b.minors).refusal ≡ None
    → first_refused (transform_tasks b.first 1 [] b.minors) ≡ None
    → first_refused (tasks_of f b) ≡ refused_or (refusal (values_script f b.first b.minors)) Values None
values_left f b e h k =
    flips_pass f b e h ∙ front_fits (transform_tasks b.first 1 [] b.minors) (task Values (values_script f b.first b.minors) ∷ []) k

-- by the answers of calls that refuse
pub follows_columns : {A : Type 0} (f : theory.Form) (b : FinishedBatch) (fault : Fault Place) (result : Result A (Fault Place)) → result ≡ Err fault
    → Follows {A = List Fraction} (first_refused (column_tasks f b.history 1 b.minors)) (Err fault) → Follows (first_refused (tasks_of f b)) result
follows_columns {A} f b (faults.Named r) result e h =
    subst (λ (x : Result A (Fault Place)). Follows (first_refused (tasks_of f b)) x) (sym e)
    (front_refused (column_tasks f b.history 1 b.minors) (flips_task f b.history b.minors ∷ behind_flips f b) r h)
follows_columns {A} f b faults.OutOfMemory result e h = subst (λ (x : Result A (Fault Place)). Follows (first_refused (tasks_of f b)) x) (sym e) tt

pub follows_transforms : {A : Type 0} (f : theory.Form) (b : FinishedBatch) (fault : Fault Place) (result : Result A (Fault Place)) → columns_fit f b
    → (flips_task f b.history b.minors).refusal ≡ None
    → result ≡ Err fault → Follows {A = List Fraction} (first_refused (transform_tasks b.first 1 [] b.minors)) (Err fault)
    → Follows (first_refused (tasks_of f b)) result
follows_transforms {A} f b (faults.Named r) result c k e h =
    subst (λ (x : Result A (Fault Place)). Follows (first_refused (tasks_of f b)) x) (sym e)
    (flips_pass f b c k ∙ front_refused (transform_tasks b.first 1 [] b.minors) (task Values (values_script f b.first b.minors) ∷ []) r h)
follows_transforms {A} f b faults.OutOfMemory result c k e h = subst (λ (x : Result A (Fault Place)). Follows (first_refused (tasks_of f b)) x) (sym e) tt

-- ---- the values
exchange_is : (f : theory.Form) (b : FinishedBatch) (m : Minor) (s : Step) → IsStepOf f m.reached.basis m.reached.fresh m.step s
    → exchange_of s (first_column b m) ≡ exchange_at f b.first m
exchange_is f b m s h =
    ap (λ p. record { place = p; value = s.old_value; bound = s.bound; column = first_column b m }) h.place
    ∙ ap (λ v. record { place = m.step.place; value = v; bound = s.bound; column = first_column b m }) h.old_value
    ∙ ap (λ l. record { place = m.step.place; value = entering_value m; bound = l; column = first_column b m }) h.bound

exchanges_are : (f : theory.Form) (b : FinishedBatch) (ms : List Minor) (ss : List Step) → AreStepsOf f ms ss
    → exchanges_of ss (map (first_column b) ms) ≡ map (exchange_at f b.first) ms
exchanges_are f b [] [] h = refl
exchanges_are f b [] (s ∷ ss) h = absurd h
exchanges_are f b (m ∷ ms) [] h = absurd h
exchanges_are f b (m ∷ ms) (s ∷ ss) h =
    ap (λ e. e ∷ exchanges_of ss (map (first_column b) ms)) (exchange_is f b m s h.0) ∙ ap (λ es. exchange_at f b.first m ∷ es) (exchanges_are f b ms ss h.1)

-- what the program's lists are at the values
pub record Gathered (f : theory.Form) (b : FinishedBatch) (ss : List Step) (values flips : List Fraction) (columns : List (List Fraction))
    (pivots : List Pivot) : Type 0 where
  pub steps : HasSteps f ss b
  pub values_are : values ≡ values_by_place f b.first.basis b.first.fresh
  pub flips_are : (length flips ≡ f.rows) × ((p : ℕ) → p < f.rows → get flips p ≡ all_flips_at f b.first b.minors p)
  pub columns_are : columns ≡ first_columns b
  pub pivots_are : column_pivots pivots ≡ map pivot_of b.minors

pub values_script_is : (f : theory.Form) (b : FinishedBatch) (ss : List Step) (values flips : List Fraction) (columns : List (List Fraction))
    (pivots : List Pivot) → Gathered f b ss values flips columns pivots
    → collect_script values flips (exchanges_of ss columns) (column_pivots pivots) ≡ values_script f b.first b.minors
values_script_is f b ss values flips columns pivots h =
    ap (λ vs. collect_script vs flips (exchanges_of ss columns) (column_pivots pivots)) h.values_are
    ∙ ap (λ cs. collect_script (values_by_place f b.first.basis b.first.fresh) flips (exchanges_of ss cs) (column_pivots pivots)) h.columns_are
    ∙ ap (λ es. collect_script (values_by_place f b.first.basis b.first.fresh) flips es (column_pivots pivots))
    (exchanges_are f b b.minors ss h.steps.steps_are)
    ∙ ap (collect_script (values_by_place f b.first.basis b.first.fresh) flips (map (exchange_at f b.first) b.minors)) h.pivots_are
    ∙ collect_is f b.first b.minors flips h.flips_are.1

pub values_exact : (f : theory.Form) (b : FinishedBatch) (ss : List Step) (values flips : List Fraction) (columns : List (List Fraction))
    (pivots : List Pivot) (xs : List Fraction) → Gathered f b ss values flips columns pivots
    → collect_script values flips (exchanges_of ss columns) (column_pivots pivots) ≡ Ok xs → xs ≡ values_by_place f b.last.basis b.last.fresh
values_exact f b ss values flips columns pivots xs h e =
    let s = h.steps.solved in
    values_value f b.first b.minors b.last xs s.fresh (batch_ends_fresh f b.limit b.first b.minors b.last s.basis s.fresh s.batch).1
    (solved_chain f b.limit b.first b.minors b.last s) (sym (values_script_is f b ss values flips columns pivots h) ∙ e)

-- ---- what the call of the values asks for
values_long : (f : theory.Form) (b : FinishedBatch) (ss : List Step) (values flips : List Fraction) (columns : List (List Fraction)) (pivots : List Pivot)
    → Gathered f b ss values flips columns pivots → length values ≡ f.rows
values_long f b ss values flips columns pivots h = ap length h.values_are ∙ tabled_length f.rows (value_at_place b.first.basis b.first.fresh)

pub ask_flips : (f : theory.Form) (b : FinishedBatch) (ss : List Step) (values flips : List Fraction) (columns : List (List Fraction)) (pivots : List Pivot)
    → Gathered f b ss values flips columns pivots → length flips ≡ length values
ask_flips f b ss values flips columns pivots h = h.flips_are.0 ∙ sym (values_long f b ss values flips columns pivots h)

pub ask_as_many : (f : theory.Form) (b : FinishedBatch) (ss : List Step) (values flips : List Fraction) (columns : List (List Fraction)) (pivots : List Pivot)
    → Gathered f b ss values flips columns pivots → length columns ≡ length ss
ask_as_many f b ss values flips columns pivots h =
    ap length h.columns_are ∙ length-map b.minors (first_column b) ∙ as_many f b.minors ss h.steps.steps_are

pub ask_columns : (f : theory.Form) (b : FinishedBatch) (ss : List Step) (values flips : List Fraction) (columns : List (List Fraction)) (pivots : List Pivot)
    → Gathered f b ss values flips columns pivots → All (λ (c : List Fraction). length c ≡ length values) columns
ask_columns f b ss values flips columns pivots h =
    subst (λ n. All (λ (c : List Fraction). length c ≡ n) columns) (sym (values_long f b ss values flips columns pivots h))
    (subst (λ (cs : List (List Fraction)). All (λ (c : List Fraction). length c ≡ f.rows) cs) (sym h.columns_are) (columns_long f b ss h.steps))

places_low : (f : theory.Form) (b : FinishedBatch) (ss : List Step) → HasSteps f ss b → All (λ (s : Step). s.place < f.rows) ss
places_low f b ss h = go b.minors ss (all_leave f b.first b.minors b.last (solved_chain f b.limit b.first b.minors b.last h.solved)) h.steps_are
  where
    go : (ms : List Minor) (ts : List Step) → AllLeave f b.first ms → AreStepsOf f ms ts → All (λ (s : Step). s.place < f.rows) ts
    go [] [] a k = All-nil (λ (s : Step). s.place < f.rows)
    go [] (t ∷ ts) a k = absurd k
    go (m ∷ ms) [] a k = absurd k
    go (m ∷ ms) (t ∷ ts) a k =
        let low = a.0.place in
        let at = k.0.place in
        All-cons (λ (s : Step). s.place < f.rows) t ts (omega (arith, low, at)) (go ms ts a.1 k.1)

pub ask_places : (f : theory.Form) (b : FinishedBatch) (ss : List Step) (values flips : List Fraction) (columns : List (List Fraction)) (pivots : List Pivot)
    → Gathered f b ss values flips columns pivots → All (λ (s : Step). s.place < length values) ss
ask_places f b ss values flips columns pivots h =
    subst (λ n. All (λ (s : Step). s.place < n) ss) (sym (values_long f b ss values flips columns pivots h)) (places_low f b ss h.steps)

pub ask_pivots : (f : theory.Form) (b : FinishedBatch) (ss : List Step) (values flips : List Fraction) (columns : List (List Fraction)) (pivots : List Pivot)
    → Gathered f b ss values flips columns pivots → ArePivots (length values) pivots
ask_pivots f b ss values flips columns pivots h =
    subst (λ n. ArePivots n pivots) (sym (values_long f b ss values flips columns pivots h)) (all_pivots_ready f b ss pivots h.steps h.pivots_are)

-- the values of the state at which the batch began
pub state_values : (f : theory.Form) (st : State) (b : FinishedBatch) (ss : List Step) → IsSolvedAfresh f st → BeginsAt st b → HasSteps f ss b
    → st.values ≡ values_by_place f b.first.basis b.first.fresh
state_values f st b ss solved begins has =
    let own : IsFresh f (basis_of st) b.first.fresh = subst (λ x. IsFresh f x b.first.fresh) begins.basis has.solved.fresh in
    let same : solved.fresh ≡ b.first.fresh =
    only_fresh f (basis_of st) solved.fresh b.first.fresh (subst (IsBasis f) begins.basis has.solved.basis) solved.solved own in
    solved.values ∙ ap (values_by_place f (basis_of st)) same ∙ ap (λ x. values_by_place f x b.first.fresh) (sym begins.basis)

-- what the calls before it answered
pub gather : (f : theory.Form) (b : FinishedBatch) (ss : List Step) (st : State) (factor : Product) (rows : ℕ) (values flips : List Fraction)
    (columns : List (List Fraction)) (pivots : List Pivot)
    → IsSolvedAfresh f st → BeginsAt st b → HasSteps f ss b → IsFactorOf f b.history b.first.basis factor → rows ≡ f.rows
    → values ≡ st.values → flips_by factor ss rows ≡ Ok flips → columns ≡ first_columns b → column_pivots pivots ≡ map pivot_of b.minors
    → Gathered f b ss values flips columns pivots
gather f b ss st factor rows values flips columns pivots solved begins has is tall v z c p = record {
  steps = has;
  values_are = v ∙ state_values f st b ss solved begins has;
  flips_are = flips_exact f b ss factor rows flips has is tall z;
  columns_are = c;
  pivots_are = p;
}
