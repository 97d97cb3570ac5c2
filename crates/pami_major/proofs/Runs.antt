-- What the run of a batch comes to, as the end of the major that was begun with it.
use Rattle.std.proofs.Common.{◌≡◌, ℕ, zero, suc, ◌+◌, ◌-◌, ◌*◌, ◌<◌, ◌≤◌, ◌^◌, List, [], ◌∷◌, map, take, length, Option, None, Some, Result, Ok, Err, false, refl, sym, ap, ◌∙◌, subst, arith}
use Rattle.std.specs.List.{All}
use Rattle.std.specs.Global.{Vec}
use Rattle.std.proofs.lemmas.List.{length-map}
use Rattle.std.proofs.lemmas.List.Elements.{All-nil, All-cons, All-head, All-tail}
use Rattle.pami_algebra.specs.Fraction.{Fraction}
use Rattle.pami_linear.specs.Lists.{get}
use Rattle.pami_frac.specs.declared.arithmetic.Refused.{Refused}
use Rattle.pami_frac.specs.Answers.{FollowsBy}
use Rattle.pami_frac.specs.declared.fault.Fault.{Fault}
use Rattle.pami_frac.specs.declared.fault.Fault.TheVariants as faults
use Rattle.pami_frac.specs.Signs.{is_zero}
use Rattle.pami_frac.proofs.Outcomes.{not_zero_by_test}
use Rattle.pami_factoring.specs.History.{IsColumnPivot}
use Rattle.pami_factoring.proofs.Programs.{step_count}
use Rattle.pami_theory.specs.Form as theory
use Rattle.pami_theory.specs.Basis.{Basis}
use Rattle.pami_theory.specs.Fresh.{Fresh, IsFresh}
use Rattle.pami_theory.specs.Order.{ordered}
use Rattle.pami_theory.specs.Choice.{InfeasibleRow, infeasible_rows, is_chosen_before, chosen as the_chosen}
use Rattle.pami_method.specs.Task.{refusal}
use Rattle.pami_method.specs.declared.words.Mode.{Mode}
use Rattle.pami_method.specs.declared.words.Mode.TheVariants.{Full, Single}
use Rattle.pami_method.specs.declared.words.Options.{Options}
use Rattle.pami_method.specs.declared.words.Place.{Place}
use Rattle.pami_method.specs.declared.words.Spot.{Spot}
use Rattle.pami_method.specs.declared.words.Spot.TheVariants.{Choose}
use Rattle.pami_method.specs.Scripts.{choose_script}
use Rattle.pami_method.specs.Factor.{History, head_matrix}
use Rattle.pami_method.specs.Batch.{places}
use Rattle.pami_method.specs.Work.{pivot_of}
use Rattle.pami_method.specs.Walk.{IsOptions, most}
use Rattle.pami_method.proofs.Counts.{batch_rows}
use Rattle.pami_deferral.proofs.Chains.{batch_chain}
use Rattle.pami_deferral.proofs.Histories.{history_new, history_after, matrix_length, matrix_square}
use Rattle.pami_vec.specs.Pivots.{column_pivot, column_pivots, ArePivots}
use Rattle.pami_vec.specs.declared.step.Pivot.{Pivot}
use Rattle.pami_chuzr.specs.Choice.{chosen_row}
use Rattle.pami_chuzr.specs.declared.row.ChosenRow.{ChosenRow}
use Rattle.pami_log.specs.declared.event.Move.{Move}
use Rattle.pami_log.specs.declared.event.Event.TheVariants as told
use Rattle.pami_form.specs.declared.form.Form.{Form}
use Rattle.pami_form.specs.FormOf.{form_of}
use Rattle.pami_state.specs.State.{basis_of}
use Rattle.pami_state.specs.declared.state.State.{State}
use Rattle.pami_factor.specs.Value.{Product}
use Rattle.pami_minor.specs.Opening.{IsOpenable, first_reached}
use Rattle.pami_batch.specs.Factors.{IsFactorOf}
use Rattle.pami_batch.specs.Batches.{HasOutcome}
use Rattle.pami_batch.specs.declared.outcome.Outcome.{Outcome}
use Rattle.pami_batch.specs.declared.outcome.Outcome.TheVariants.{Collected, NoEntering, Refused as Unfit}
use Rattle.pami_major.specs.Beginnings.{told_at, choice_outcome, history_in, factor_refusal, IsUsed}
use Rattle.pami_major.specs.Ready.{IsDueAt}
use Rattle.pami_major.specs.EndsMajor.{walk_state, IsKnownFor, IsKept, IsRefused}
use Rattle.pami_major.specs.Tried.{IsBehind, CanTake, Takes, IsStuckSo, FollowsTried}
use Rattle.pami_major.specs.declared.majors.Tried.{Tried}
use Rattle.pami_major.specs.declared.majors.Tried.TheVariants as tried
use Rattle.pami_major.proofs.Attempts.{first_in, choice_refusal, choice_refused, factor_refused, batch_refused, batch_stuck, batch_kept}

-- ---- the parts of a choice
pub told_parts : {A B : Type 0} (spot : Spot) (r : Result A Refused) (x y : B) → told_at spot r x ≡ Ok y → (refusal r ≡ None) × (x ≡ y)
told_parts spot (Ok found) x y e = let same : x ≡ y = cc in (refl, same)
told_parts spot (Err d) x y e = absurd (cc)

told_refusal : {A B : Type 0} (spot : Spot) (r : Result A Refused) (x : B) (place : Place) → told_at spot r x ≡ Err place
    → (d : Refused) × (refusal r ≡ Some d) × (place ≡ record { task = spot; refused = d })
told_refusal spot (Ok found) x place e = absurd (cc)
told_refusal spot (Err d) x place e = let same : record { task = spot; refused = d } ≡ place = cc in (d, refl, sym same)

-- the places that are told are those of the chosen rows
places_told : (xs : List InfeasibleRow) → map (λ (row : ChosenRow). row.place) (map chosen_row xs) ≡ places xs
places_told [] = refl
places_told (x ∷ xs) = ap (λ ps. x.place ∷ ps) (places_told xs)

take_few : {A : Type 0} (n : ℕ) (xs : List A) → length (take n xs) ≤ n
take_few zero xs = omega arith
take_few (suc n) [] = omega arith
take_few (suc n) (x ∷ xs) = let h = take_few n xs in omega arith

-- at most as many as there may be
pub few_chosen : (form : Form) (st : State) (s : Fresh) (n : ℕ) (rows : List ChosenRow)
    → choice_outcome (form_of form) (basis_of st) s st.weights n ≡ Ok rows → length rows ≤ n
few_chosen form st s n rows e =
    let f = form_of form in
    let all = ordered is_chosen_before (infeasible_rows f (basis_of st) s st.weights) in
    let parts = told_parts Choose (choose_script f (basis_of st) s) (map chosen_row (take n all)) rows e in
    let few : length (take n all) ≤ n = take_few n all in
    subst (λ k. k ≤ n) (sym (length-map (take n all) chosen_row) ∙ ap length parts.1) few

-- ---- a major that has chosen its rows and has its factor
pub record IsBegun (form : Form) (o : Options) (mode : Mode) (st : State) (h : Option History) (s : Fresh) (used : Product)
    (rows : List ChosenRow) : Type 0 where
  pub due : IsDueAt form o st
  pub fresh : IsFresh (form_of form) (basis_of st) s
  pub choice : choice_outcome (form_of form) (basis_of st) s st.weights (most o mode) ≡ Ok rows
  pub used_is : IsUsed (form_of form) o mode h st used

begun_fits : (form : Form) (o : Options) (mode : Mode) (st : State) (h : Option History) (s : Fresh) (used : Product) (rows : List ChosenRow)
    → IsBegun form o mode st h s used rows
    → (choice_refusal form st s ≡ None) × (map chosen_row (the_chosen (form_of form) (basis_of st) s st.weights (most o mode)) ≡ rows)
begun_fits form o mode st h s used rows b =
    let f = form_of form in
    told_parts Choose (choose_script f (basis_of st) s) (map chosen_row (the_chosen f (basis_of st) s st.weights (most o mode))) rows b.choice

-- what the run of its batch promises
abbrev pub Runs : Form → State → ℕ → Product → List ChosenRow → Outcome → Type 0
Runs form st left used rows outcome = (s : Fresh) (n : ℕ) (h : History)
    → IsFresh (form_of form) (basis_of st) s
    → rows ≡ map chosen_row (the_chosen (form_of form) (basis_of st) s st.weights n)
    → IsFactorOf (form_of form) h (basis_of st) used
    → HasOutcome (form_of form) (st.pivots + left) h (first_reached form st s n) outcome

all_left : (n limit left : ℕ) → n < limit → left ≡ limit - n → n + left ≡ limit
all_left n limit left l e = omega arith

run_has : (form : Form) (o : Options) (mode : Mode) (st : State) (h : Option History) (s : Fresh) (used : Product) (rows : List ChosenRow) (left : ℕ)
    (outcome : Outcome)
    → IsBegun form o mode st h s used rows → left ≡ o.limit - st.pivots → Runs form st left used rows outcome
    → HasOutcome (form_of form) o.limit (history_in o mode h st) (first_in form o mode st s) outcome
run_has form o mode st h s used rows left outcome b e run =
    subst (λ n. HasOutcome (form_of form) n (history_in o mode h st) (first_in form o mode st s) outcome) (all_left st.pivots o.limit left b.due.below e)
    (run s (most o mode) (history_in o mode h st) b.fresh (sym (begun_fits form o mode st h s used rows b).1) b.used_is.factor)

chosen_are : (form : Form) (o : Options) (mode : Mode) (st : State) (h : Option History) (s : Fresh) (used : Product) (rows : List ChosenRow)
    (chosen : List ℕ) → IsBegun form o mode st h s used rows
    → chosen ≡ map (λ (row : ChosenRow). row.place) rows → chosen ≡ places (first_in form o mode st s).rows
chosen_are form o mode st h s used rows chosen b e =
    e ∙ ap (map (λ (row : ChosenRow). row.place)) (sym (begun_fits form o mode st h s used rows b).1)
    ∙ places_told (the_chosen (form_of form) (basis_of st) s st.weights (most o mode))

pub run_kept : (form : Form) (o : Options) (number : ℕ) (mode : Mode) (st new : State) (h : Option History) (s : Fresh) (used behind : Product)
    (rows : List ChosenRow) (left : ℕ) (pivots : List Pivot) (moves : List Move) (chosen : List ℕ)
    → IsBegun form o mode st h s used rows → left ≡ o.limit - st.pivots → Runs form st left used rows (Collected new pivots moves)
    → chosen ≡ map (λ (row : ChosenRow). row.place) rows → IsBehind used behind pivots
    → IsKept form o number mode (walk_state st h) new (Some behind) (told.Major number mode chosen moves)
run_kept form o number mode st new h s used behind rows left pivots moves chosen b e run places_are next =
    let r = run_has form o mode st h s used rows left (Collected new pivots moves) b e run in
    batch_kept form o number mode st new h s r.0 r.1 used behind pivots chosen moves b.due b.fresh
    (begun_fits form o mode st h s used rows b).0 b.used_is.fits r.2
    (chosen_are form o mode st h s used rows chosen b places_are) b.used_is.factor next r.3

pub run_stuck : (form : Form) (o : Options) (number : ℕ) (mode : Mode) (st : State) (h : Option History) (s : Fresh) (used : Product) (rows : List ChosenRow)
    (left : ℕ) (rho : List Fraction) (moves : List Move) (chosen : List ℕ)
    → IsBegun form o mode st h s used rows → left ≡ o.limit - st.pivots → Runs form st left used rows (NoEntering rho moves)
    → chosen ≡ map (λ (row : ChosenRow). row.place) rows → IsStuckSo form o number mode h st chosen rho moves
run_stuck form o number mode st h s used rows left rho moves chosen b e run places_are =
    let r = run_has form o mode st h s used rows left (NoEntering rho moves) b e run in
    batch_stuck form o number mode st h s r.0 r.1 chosen rho moves b.due b.fresh (begun_fits form o mode st h s used rows b).0 b.used_is.fits r.2
    (chosen_are form o mode st h s used rows chosen b places_are) r.3

pub run_refused : (form : Form) (o : Options) (number : ℕ) (mode : Mode) (st : State) (h : Option History) (s : Fresh) (used : Product)
    (rows : List ChosenRow) (left : ℕ) (place : Place)
    → IsBegun form o mode st h s used rows → left ≡ o.limit - st.pivots → Runs form st left used rows (Unfit place)
    → IsRefused form o number mode (walk_state st h) place
run_refused form o number mode st h s used rows left place b e run =
    let r = run_has form o mode st h s used rows left (Unfit place) b e run in
    batch_refused form o number mode st h s r.0 r.1 place b.due b.fresh (begun_fits form o mode st h s used rows b).0 b.used_is.fits r.2 r.3

-- before the run
pub begin_refused : (form : Form) (o : Options) (number : ℕ) (mode : Mode) (st : State) (h : Option History) (s : Fresh) (place : Place)
    → IsDueAt form o st → IsFresh (form_of form) (basis_of st) s → choice_outcome (form_of form) (basis_of st) s st.weights (most o mode) ≡ Err place
    → IsRefused form o number mode (walk_state st h) place
begin_refused form o number mode st h s place d fresh e =
    let f = form_of form in
    let r = told_refusal Choose (choose_script f (basis_of st) s) (map chosen_row (the_chosen f (basis_of st) s st.weights (most o mode))) place e in
    subst (IsRefused form o number mode (walk_state st h)) (sym r.2) (choice_refused form o number mode st h s r.0 d fresh r.1)

pub begin_unfit : (form : Form) (o : Options) (number : ℕ) (mode : Mode) (st : State) (h : Option History) (s : Fresh) (rows : List ChosenRow) (place : Place)
    → IsDueAt form o st → IsFresh (form_of form) (basis_of st) s → choice_outcome (form_of form) (basis_of st) s st.weights (most o mode) ≡ Ok rows
    → factor_refusal (form_of form) o mode h st ≡ Some place → IsRefused form o number mode (walk_state st h) place
begin_unfit form o number mode st h s rows place d fresh c e =
    let f = form_of form in
    let parts = told_parts Choose (choose_script f (basis_of st) s) (map chosen_row (the_chosen f (basis_of st) s st.weights (most o mode))) rows c in
    factor_refused form o number mode st h s place d fresh parts.0 e

-- ---- the pivots that a factor takes in
pub factor_steps : (f : theory.Form) (h : History) (b : Basis) (used : Product) → IsFactorOf f h b used → length used.steps ≡ f.rows
factor_steps f h b used of =
    step_count (head_matrix f h.head) used.steps (matrix_square f h.head of.stands.places) of.steps ∙ matrix_length f h.head

are_pivots : (n : ℕ) (ps : List Pivot) → All (IsColumnPivot n) (column_pivots ps) → ArePivots n ps
are_pivots n [] a = All-nil (λ (p : Pivot). (p.place < n) × (length p.column ≡ n) × (is_zero (get p.column p.place) ≡ false))
are_pivots n (p ∷ ps) a =
    let h = All-head (IsColumnPivot n) (column_pivot p) (column_pivots ps) a in
    All-cons (λ (p : Pivot). (p.place < n) × (length p.column ≡ n) × (is_zero (get p.column p.place) ≡ false)) p ps
    (h.place_low, h.column_length, not_zero_by_test (get p.column p.place) h.nonzero)
    (are_pivots n ps (All-tail (IsColumnPivot n) (column_pivot p) (column_pivots ps) a))

-- those of a batch: as many as the chosen rows at most
pub record AreTaken (used : Product) (count : ℕ) (pivots : List Pivot) : Type 0 where
  pub are : ArePivots (length used.steps) pivots
  pub few : length pivots ≤ count

pub run_pivots : (form : Form) (o : Options) (mode : Mode) (st new : State) (s : Fresh) (h : History) (used : Product) (rows : List ChosenRow) (left : ℕ)
    (pivots : List Pivot) (moves : List Move)
    → IsDueAt form o st → IsFresh (form_of form) (basis_of st) s → choice_outcome (form_of form) (basis_of st) s st.weights (most o mode) ≡ Ok rows
    → IsFactorOf (form_of form) h (basis_of st) used → left ≡ o.limit - st.pivots → Runs form st left used rows (Collected new pivots moves)
    → AreTaken used (length rows) pivots
run_pivots form o mode st new s h used rows left pivots moves d fresh c of e run =
    let f = form_of form in
    let first = first_in form o mode st s in
    let parts = told_parts Choose (choose_script f (basis_of st) s) (map chosen_row first.rows) rows c in
    let r = run s (most o mode) h fresh (sym parts.1) of in
    let ms = r.0 in
    let last = r.1 in
    let chain = batch_chain f (st.pivots + left) first ms last d.ready.basis fresh r.2 in
    let columns = (history_after f (record { head = st.head; pivots = [] }) first ms last (history_new f (basis_of st) d.ready.basis) chain).pivots in
    let same : column_pivots pivots ≡ map pivot_of ms = r.3.3 in
    let many : length pivots ≡ length ms = sym (length-map pivots column_pivot) ∙ ap length same ∙ length-map ms pivot_of in
    let rows_many : length first.rows ≡ length rows = sym (length-map first.rows chosen_row) ∙ ap length parts.1 in
    let counted : length last.rows + length ms ≤ length first.rows = batch_rows f (st.pivots + left) first ms last r.2 in
    record {
      are = subst (λ n. ArePivots n pivots) (sym (factor_steps f h (basis_of st) used of))
          (are_pivots f.rows pivots (subst (All (IsColumnPivot f.rows)) (sym same) columns));
      few = omega arith;
    }

-- ---- what is asked of the run
-- the rows that were chosen, at all that is solved at the basis
abbrev pub AreChosen : Form → Options → Mode → State → List ChosenRow → Type 0
AreChosen form o mode st rows = (s : Fresh) → IsFresh (form_of form) (basis_of st) s
    → choice_outcome (form_of form) (basis_of st) s st.weights (most o mode) ≡ Ok rows

limit_small : (p limit left : ℕ) → p < limit → limit ≤ 1000000 → left ≡ limit - p → p + left < 2 ^ 32
limit_small p limit left l m e = omega arith

pub openable : (form : Form) (o : Options) (mode : Mode) (st : State) (rows lent : List ChosenRow) (left : ℕ) → IsDueAt form o st
    → AreChosen form o mode st rows
    → lent ≡ rows → left ≡ o.limit - st.pivots → IsOpenable form st lent left
openable form o mode st rows lent left d c e k =
    let f = form_of form in
    let s = d.ready.solved.fresh in
    let xs = the_chosen f (basis_of st) s st.weights (most o mode) in
    record {
      basis = d.ready.basis;
      solved = d.ready.solved;
      weights = d.ready.weights;
      range = d.ready.range;
      most = most o mode;
      chosen_are = e ∙ sym (told_parts Choose (choose_script f (basis_of st) s) (map chosen_row xs) rows (c s d.ready.solved.solved)).1;
      few = limit_small st.pivots o.limit left d.below d.options.limit k;
    }

most_few : (o : Options) (mode : Mode) → IsOptions o → most o mode ≤ 8
most_few o Full h = h.batch
most_few o Single h = omega arith

-- the pivots of a batch can be taken in
pub can_take : (form : Form) (o : Options) (mode : Mode) (st : State) (h : History) (used : Product) (rows : List ChosenRow) (left : ℕ) (outcome : Outcome)
    → IsDueAt form o st → AreChosen form o mode st rows → IsFactorOf (form_of form) h (basis_of st) used → length used.pivots ≤ o.refactor
    → left ≡ o.limit - st.pivots → Runs form st left used rows outcome → CanTake used outcome
can_take form o mode st h used rows left (Collected new pivots moves) d c of few k run =
    let s = d.ready.solved.fresh in
    let fresh = d.ready.solved.solved in
    let t = run_pivots form o mode st new s h used rows left pivots moves d fresh (c s fresh) of k run in
    let n : length pivots ≤ length rows = t.few in
    let m : length rows ≤ most o mode = few_chosen form st s (most o mode) rows (c s fresh) in
    let small : most o mode ≤ 8 = most_few o mode d.options in
    let kept : o.refactor ≤ 64 = d.options.refactor in
    (t.are, omega (arith, n, m, small, kept, few))
can_take form o mode st h used rows left (NoEntering rho moves) d c of few k run = tt
can_take form o mode st h used rows left (Unfit place) d c of few k run = tt

-- ---- the end of the major
begun_at : (form : Form) (o : Options) (mode : Mode) (st : State) (h : Option History) (used : Product) (rows : List ChosenRow) → (d : IsDueAt form o st)
    → AreChosen form o mode st rows
    → IsUsed (form_of form) o mode h st used → IsBegun form o mode st h d.ready.solved.fresh used rows
begun_at form o mode st h used rows d c u = record {
  due = d;
  fresh = d.ready.solved.solved;
  choice = c d.ready.solved.fresh d.ready.solved.solved;
  used_is = u;
}

pub taken_follows : (form : Form) (o : Options) (number : ℕ) (mode : Mode) (st : State) (h : Option History) (used : Product) (rows : List ChosenRow)
    (left : ℕ) (outcome : Outcome) (places : List ℕ) (result : Result Tried (Fault Place))
    → IsDueAt form o st → AreChosen form o mode st rows → IsUsed (form_of form) o mode h st used → left ≡ o.limit - st.pivots
    → Runs form st left used rows outcome
    → places ≡ map (λ (row : ChosenRow). row.place) rows → Takes places used outcome result → FollowsTried form o number mode h st result
taken_follows form o number mode st h used rows left outcome places (Ok (tried.Kept new behind chosen moves)) d c u k run e (pivots, is, next, same) =
    run_kept form o number mode st new h d.ready.solved.fresh used behind rows left pivots moves chosen (begun_at form o mode st h used rows d c u) k
    (subst (Runs form st left used rows) is run) (same ∙ e) next
taken_follows form o number mode st h used rows left outcome places (Ok (tried.Stuck chosen rho moves)) d c u k run e (is, same) =
    run_stuck form o number mode st h d.ready.solved.fresh used rows left rho moves chosen (begun_at form o mode st h used rows d c u) k
    (subst (Runs form st left used rows) is run) (same ∙ e)
taken_follows form o number mode st h used rows left outcome places (Err (faults.Named place)) d c u k run e is =
    run_refused form o number mode st h d.ready.solved.fresh used rows left place (begun_at form o mode st h used rows d c u) k
    (subst (Runs form st left used rows) is run)
taken_follows form o number mode st h used rows left outcome places (Err faults.OutOfMemory) d c u k run e is = tt

-- ---- the faults before it
-- the rows as they were lent, and as many as the mode allows
pub are_chosen : (form : Form) (o : Options) (mode : Mode) (st : State) (rows lent : List ChosenRow) (n : ℕ) → n ≡ most o mode → lent ≡ rows
    → ((s : Fresh) → IsFresh (form_of form) (basis_of st) s → choice_outcome (form_of form) (basis_of st) s st.weights n ≡ Ok rows)
    → AreChosen form o mode st lent
are_chosen form o mode st rows lent n e l h = λ s fresh.
    ap (choice_outcome (form_of form) (basis_of st) s st.weights) (sym e) ∙ h s fresh ∙ ap Ok (sym l)

begin_by : (form : Form) (o : Options) (number : ℕ) (mode : Mode) (st : State) (h : Option History) (fault : Fault Place) → (d : IsDueAt form o st)
    → FollowsBy (λ (v : Vec ChosenRow). v.items) (choice_outcome (form_of form) (basis_of st) d.ready.solved.fresh st.weights (most o mode)) (Err fault)
    → FollowsTried form o number mode h st (Err fault)
begin_by form o number mode st h (faults.Named place) d f = begin_refused form o number mode st h d.ready.solved.fresh place d d.ready.solved.solved f
begin_by form o number mode st h faults.OutOfMemory d f = tt

pub begin_follows : (form : Form) (o : Options) (number : ℕ) (mode : Mode) (st : State) (h : Option History) (n : ℕ) (result : Result Tried (Fault Place))
    (y fault : Fault Place)
    → IsDueAt form o st → n ≡ most o mode
    → ((s : Fresh) → IsFresh (form_of form) (basis_of st) s
    → FollowsBy (λ (v : Vec ChosenRow). v.items) (choice_outcome (form_of form) (basis_of st) s st.weights n) (Err fault))
    → result ≡ Err y → y ≡ fault → FollowsTried form o number mode h st result
begin_follows form o number mode st h n result y fault d e f g i =
    let s = d.ready.solved.fresh in
    let at = subst (λ k. FollowsBy (λ (v : Vec ChosenRow). v.items) (choice_outcome (form_of form) (basis_of st) s st.weights k) (Err fault)) e
    (f s d.ready.solved.solved) in
    subst (FollowsTried form o number mode h st) (sym (g ∙ ap Err i)) (begin_by form o number mode st h fault d at)

unfit_by : (form : Form) (o : Options) (number : ℕ) (mode : Mode) (st : State) (h : Option History) (rows : List ChosenRow) (fault : Fault Place)
    → IsDueAt form o st
    → AreChosen form o mode st rows → ((place : Place) → fault ≡ faults.Named place → factor_refusal (form_of form) o mode h st ≡ Some place)
    → FollowsTried form o number mode h st (Err fault)
unfit_by form o number mode st h rows (faults.Named place) d c f =
    begin_unfit form o number mode st h d.ready.solved.fresh rows place d d.ready.solved.solved (c d.ready.solved.fresh d.ready.solved.solved) (f place refl)
unfit_by form o number mode st h rows faults.OutOfMemory d c f = tt

pub unfit_follows : (A : Type 0) (form : Form) (o : Options) (number : ℕ) (mode : Mode) (st : State) (h : Option History) (factor : Option Product)
    (rows : List ChosenRow)
    (result : Result Tried (Fault Place)) (y fault : Fault Place) → IsDueAt form o st → AreChosen form o mode st rows
    → IsKnownFor (form_of form) mode h st factor
    → ((place : Place) → ◌≡◌ {A = Result A (Fault Place)} (Err fault) (Err (faults.Named place)) → (g : Option History) → IsKnownFor (form_of form) mode g st
    factor
    → factor_refusal (form_of form) o mode g st ≡ Some place)
    → result ≡ Err y → y ≡ fault → FollowsTried form o number mode h st result
unfit_follows A form o number mode st h factor rows result y fault d c k f g i =
    subst (FollowsTried form o number mode h st) (sym (g ∙ ap Err i))
    (unfit_by form o number mode st h rows fault d c (λ place e. f place (ap (λ x. Err x) e) h k))

-- ---- the steps
few_by : (a b c n m : ℕ) → c ≤ b + (2 * n + 1) → b ≤ a + 1 → n ≤ m → c ≤ a + (2 * m + 2)
few_by a b c n m h k l = omega arith

pub few_steps : (form : Form) (o : Options) (mode : Mode) (st : State) (rows : List ChosenRow) (a b c : ℕ) → IsDueAt form o st → AreChosen form o mode st rows
    → c ≤ b + (2 * length rows + 1) → b ≤ a + 1 → c ≤ a + (2 * most o mode + 2)
few_steps form o mode st rows a b c d chosen h k =
    few_by a b c (length rows) (most o mode) h k
    (few_chosen form st d.ready.solved.fresh (most o mode) rows (chosen d.ready.solved.fresh d.ready.solved.solved))
