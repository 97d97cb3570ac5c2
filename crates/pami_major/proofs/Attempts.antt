-- A major that is tried: it is due, and what it comes to is decided by its first refusal and by its last turn.
use Rattle.std.proofs.Common.{◌≡◌, ℕ, ◌<◌, ◌≤◌, inl, inr, ⊎_elim, List, [], ◌∷◌, ◌++◌, map, length, Option, None, Some, Ok, refl, sym, ap, ◌∙◌, subst, append_assoc, arith}
use Rattle.std.specs.List.{flat_map}
use Rattle.pami_algebra.specs.Fraction.{Fraction}
use Rattle.pami_frac.specs.declared.arithmetic.Refused.{Refused}
use Rattle.pami_theory.specs.Form as theory
use Rattle.pami_theory.specs.Basis.{Basis, head_at, IsBasis}
use Rattle.pami_theory.specs.Fresh.{Fresh, IsFresh, row_at, column_at, IsDualFeasible}
use Rattle.pami_theory.specs.Choice.{InfeasibleRow}
use Rattle.pami_theory.specs.Weights.{weight_after}
use Rattle.pami_theory.proofs.Tables.{tabled_length}
use Rattle.pami_theory.proofs.NextCosts.{step_keeps_feasible}
use Rattle.pami_method.specs.Task.{Task, refusal}
use Rattle.pami_method.specs.declared.words.Place.{Place}
use Rattle.pami_method.specs.declared.words.Spot.{Spot}
use Rattle.pami_method.specs.declared.words.Spot.TheVariants.{Choose}
use Rattle.pami_method.specs.Factor.{History}
use Rattle.pami_method.specs.Scripts.{choose_script}
use Rattle.pami_method.specs.Batch.{Reached, Minor, Turn, Stuck, turn, places, IsBatch}
use Rattle.pami_method.specs.Work.{pivot_of, factor_tasks, later_tasks, refused_or, first_refused}
use Rattle.pami_method.specs.declared.words.Mode.{Mode}
use Rattle.pami_method.specs.declared.words.Mode.TheVariants.{Full, Single}
use Rattle.pami_method.specs.declared.words.Options.{Options}
use Rattle.pami_method.specs.Walk as method
use Rattle.pami_method.specs.Walk.{IsOptions, most, eliminates_anew}
use Rattle.pami_method.proofs.Counts.{major_within}
use Rattle.pami_method.proofs.BatchExists as batches
use Rattle.pami_method.proofs.Sound.{major_sound}
use Rattle.pami_method.proofs.Stuck.{stuck_row}
use Rattle.pami_deferral.specs.Factored.{IsHistoryOf}
use Rattle.pami_deferral.proofs.Chains.{IsChain, ended, linked, batch_chain}
use Rattle.pami_deferral.proofs.Histories.{history_after}
use Rattle.pami_vec.specs.Pivots.{column_pivots}
use Rattle.pami_vec.specs.declared.step.Pivot.{Pivot}
use Rattle.pami_log.specs.declared.event.Move.{Move}
use Rattle.pami_log.specs.declared.event.Move.TheVariants as told_moves
use Rattle.pami_log.specs.declared.event.Event.TheVariants as told
use Rattle.pami_log.specs.Events.{drops, minor_moves, last_moves}
use Rattle.pami_form.specs.declared.form.Form.{Form}
use Rattle.pami_form.specs.FormOf.{form_of}
use Rattle.pami_state.specs.State.{basis_of, values_by_place}
use Rattle.pami_state.specs.declared.state.State.{State}
use Rattle.pami_factor.specs.Value.{Product}
use Rattle.pami_minor.specs.Opening.{first_reached}
use Rattle.pami_batch.specs.Factors.{IsFactorOf}
use Rattle.pami_batch.specs.Batches.{IsStop, IsStateOf, batch_moves, IsOutcome}
use Rattle.pami_batch.specs.declared.outcome.Outcome.TheVariants.{Collected, NoEntering}
use Rattle.pami_major.specs.Ready.{IsReady, IsDueAt}
use Rattle.pami_major.specs.EndsMajor.{walk_state, IsKept, EndsStuck, IsRefused}
use Rattle.pami_major.specs.Tried.{IsBehind, IsStuckSo}
use Rattle.pami_major.specs.Beginnings.{history_in, factor_refusal}
use Rattle.pami_major.proofs.Places.{some_outside}

-- ---- the major that is tried, with these pivots up to what it has reached
abbrev pub first_in : Form → Options → Mode → State → Fresh → Reached
first_in form o mode st s = first_reached form st s (most o mode)

abbrev pub tried_major : Form → Options → ℕ → Mode → State → Fresh → List Minor → Reached → method.Major
tried_major form o number mode st s ms last = record { number = number; mode = mode; first = first_in form o mode st s; minors = ms; last = last }

is_major : (form : Form) (o : Options) (number : ℕ) (mode : Mode) (st : State) (h : Option History) (s : Fresh) (ms : List Minor) (last : Reached)
    → IsFresh (form_of form) (basis_of st) s → IsBatch (form_of form) o.limit (first_in form o mode st s) ms last
    → method.IsMajor (form_of form) o (walk_state st h) (tried_major form o number mode st s ms last)
is_major form o number mode st h s ms last fresh batch = record {
  basis = refl;
  fresh = fresh;
  weights = refl;
  count = refl;
  rows = refl;
  batch = batch;
}

not_equal : (n m : ℕ) → n < m → ¬ (n ≡ m)
not_equal n m l e = absurd (omega arith)

is_due : (form : Form) (o : Options) (number : ℕ) (mode : Mode) (st : State) (h : Option History) (s : Fresh) (ms : List Minor) (last : Reached)
    → IsDueAt form o st → IsFresh (form_of form) (basis_of st) s → IsBatch (form_of form) o.limit (first_in form o mode st s) ms last
    → method.IsDue (form_of form) o number mode (walk_state st h) (tried_major form o number mode st s ms last)
is_due form o number mode st h s ms last d fresh batch = record {
  numbered = refl;
  in_mode = refl;
  major = is_major form o number mode st h s ms last fresh batch;
  infeasible = some_outside form o.limit st s d.ready fresh d.outside;
  below_limit = not_equal st.pivots o.limit d.below;
}

-- ---- first refusals of lists
front_or : (x : Option Refused) (spot : Spot) (u v : Option Place) (at : Place) → refused_or x spot u ≡ Some at → (u ≡ Some at → v ≡ Some at)
    → refused_or x spot v ≡ Some at
front_or None spot u v at e h = h e
front_or (Some r) spot u v at e h = e

-- a refusal in the front of a list is that of the list
front_refused : (ts us : List Task) (at : Place) → first_refused ts ≡ Some at → first_refused (ts ++ us) ≡ Some at
front_refused [] us at e = absurd (cc)
front_refused (t ∷ ts) us at e = front_or t.refusal t.spot (first_refused ts) (first_refused (ts ++ us)) at e (front_refused ts us at)

back_or : (x : Option Refused) (spot : Spot) (u v w : Option Place) → refused_or x spot u ≡ None → (u ≡ None → v ≡ w) → refused_or x spot v ≡ w
back_or None spot u v w e h = h e
back_or (Some r) spot u v w e h = absurd (cc)

-- where the front isn't refused, what is left decides
front_fits : (ts us : List Task) → first_refused ts ≡ None → first_refused (ts ++ us) ≡ first_refused us
front_fits [] us e = refl
front_fits (t ∷ ts) us e =
    back_or t.refusal t.spot (first_refused ts) (first_refused (ts ++ us)) (first_refused us) e (front_fits ts us)

-- ---- refusals of the major
-- those of its choice, and of its batch
abbrev pub choice_refusal : Form → State → Fresh → Option Refused
choice_refusal form st s = refusal (choose_script (form_of form) (basis_of st) s)

abbrev pub batch_refusal : Form → Options → Mode → State → Option History → Fresh → List Minor → Reached → Option Place
batch_refusal form o mode st h s ms last = first_refused (later_tasks (form_of form) o.limit (history_in o mode h st) (first_in form o mode st s) ms last)

refused_at : (form : Form) (o : Options) (number : ℕ) (mode : Mode) (st : State) (h : Option History) (s : Fresh) (ms : List Minor) (last : Reached)
    (place : Place)
    → IsDueAt form o st → IsFresh (form_of form) (basis_of st) s → IsBatch (form_of form) o.limit (first_in form o mode st s) ms last
    → method.refused_in (form_of form) o (walk_state st h) (tried_major form o number mode st s ms last) ≡ Some place
    → IsRefused form o number mode (walk_state st h) place
refused_at form o number mode st h s ms last place d fresh batch e = record {
  major = tried_major form o number mode st s ms last;
  due = is_due form o number mode st h s ms last d fresh batch;
  refused = place;
  is_refused = e;
  told = refl;
}

-- where the choice is refused, whatever batch it would have been
pub choice_refused : (form : Form) (o : Options) (number : ℕ) (mode : Mode) (st : State) (h : Option History) (s : Fresh) (r : Refused)
    → IsDueAt form o st → IsFresh (form_of form) (basis_of st) s → choice_refusal form st s ≡ Some r
    → IsRefused form o number mode (walk_state st h) (record { task = Choose; refused = r })
choice_refused form o number mode st h s r d fresh e =
    let f = form_of form in
    let first = first_in form o mode st s in
    let b = batches.has_batch f o.limit first d.ready.basis fresh in
    let history = history_in o mode h st in
    let anew = eliminates_anew o mode h in
    refused_at form o number mode st h s b.0 b.1 (record { task = Choose; refused = r }) d fresh b.2
    (ap (λ x. refused_or x Choose (first_refused (factor_tasks f history anew ++ later_tasks f o.limit history first b.0 b.1))) e)

-- where the elimination is
pub factor_refused : (form : Form) (o : Options) (number : ℕ) (mode : Mode) (st : State) (h : Option History) (s : Fresh) (place : Place)
    → IsDueAt form o st → IsFresh (form_of form) (basis_of st) s → choice_refusal form st s ≡ None → factor_refusal (form_of form) o mode h st ≡ Some place
    → IsRefused form o number mode (walk_state st h) place
factor_refused form o number mode st h s place d fresh c e =
    let f = form_of form in
    let first = first_in form o mode st s in
    let b = batches.has_batch f o.limit first d.ready.basis fresh in
    let history = history_in o mode h st in
    let anew = eliminates_anew o mode h in
    let later = later_tasks f o.limit history first b.0 b.1 in
    refused_at form o number mode st h s b.0 b.1 place d fresh b.2
    (ap (λ x. refused_or x Choose (first_refused (factor_tasks f history anew ++ later))) c
    ∙ front_refused (factor_tasks f history anew) later place e)

-- behind both, what the batch has decides
pub behind_both : (form : Form) (o : Options) (number : ℕ) (mode : Mode) (st : State) (h : Option History) (s : Fresh) (ms : List Minor) (last : Reached)
    → choice_refusal form st s ≡ None → factor_refusal (form_of form) o mode h st ≡ None
    → method.refused_in (form_of form) o (walk_state st h) (tried_major form o number mode st s ms last) ≡ batch_refusal form o mode st h s ms last
behind_both form o number mode st h s ms last c e =
    let f = form_of form in
    let history = history_in o mode h st in
    let anew = eliminates_anew o mode h in
    let later = later_tasks f o.limit history (first_in form o mode st s) ms last in
    ap (λ x. refused_or x Choose (first_refused (factor_tasks f history anew ++ later))) c
    ∙ front_fits (factor_tasks f history anew) later e

-- where the batch is refused
pub batch_refused : (form : Form) (o : Options) (number : ℕ) (mode : Mode) (st : State) (h : Option History) (s : Fresh) (ms : List Minor) (last : Reached)
    (place : Place)
    → IsDueAt form o st → IsFresh (form_of form) (basis_of st) s → choice_refusal form st s ≡ None → factor_refusal (form_of form) o mode h st ≡ None
    → IsBatch (form_of form) o.limit (first_in form o mode st s) ms last → batch_refusal form o mode st h s ms last ≡ Some place
    → IsRefused form o number mode (walk_state st h) place
batch_refused form o number mode st h s ms last place d fresh c e batch r =
    refused_at form o number mode st h s ms last place d fresh batch (behind_both form o number mode st h s ms last c e ∙ r)

-- ---- what is told
told_so : (number : ℕ) (mode : Mode) (chosen : List ℕ) (moves : List Move) (first : List ℕ) (all : List Move) → chosen ≡ first → moves ≡ all
    → told.Major number mode chosen moves ≡ told.Major number mode first all
told_so number mode chosen moves first all e m = ap (λ ps. told.Major number mode ps moves) e ∙ ap (told.Major number mode first) m

-- ---- the batch's last row has no entering variable
last_stuck : (f : theory.Form) (o : Options) (st : method.State) (g : method.Major) (dropped : List ℕ) (row : InfeasibleRow) (rho : List Fraction)
    → method.refused_in f o st g ≡ None → turn f o.limit g.last ≡ Stuck dropped row → rho ≡ row_at g.last.fresh row.place
    → method.after f o st g ≡ method.Ends (method.NoEntering row.place row.violation.side rho)
last_stuck f o st g dropped row rho n t e =
    ap (method.after_by f o st g) n ∙ ap (method.turn_after o st g) t
    ∙ ap (λ x. method.Ends (method.NoEntering row.place row.violation.side x)) (sym e)

stuck_told : (f : theory.Form) (limit : ℕ) (ms : List Minor) (last : Reached) (dropped : List ℕ) (row : InfeasibleRow) (moves : List Move)
    → turn f limit last ≡ Stuck dropped row → moves ≡ batch_moves f limit ms last → EndsStuck moves row.place row.violation.side
stuck_told f limit ms last dropped row moves t e =
    let end = told_moves.Stuck row.place (head_at last.basis row.place) row.violation.side ∷ [] in
    record {
      before = flat_map minor_moves ms ++ drops dropped;
      leaving = head_at last.basis row.place;
      last = e ∙ ap (λ x. flat_map minor_moves ms ++ last_moves last x) t ∙ sym (append_assoc (flat_map minor_moves ms) (drops dropped) end);
    }

pub batch_stuck : (form : Form) (o : Options) (number : ℕ) (mode : Mode) (st : State) (h : Option History) (s : Fresh) (ms : List Minor) (last : Reached)
    (chosen : List ℕ) (rho : List Fraction) (moves : List Move)
    → IsDueAt form o st → IsFresh (form_of form) (basis_of st) s → choice_refusal form st s ≡ None → factor_refusal (form_of form) o mode h st ≡ None
    → IsBatch (form_of form) o.limit (first_in form o mode st s) ms last → chosen ≡ places (first_in form o mode st s).rows
    → IsOutcome (form_of form) o.limit (history_in o mode h st) (first_in form o mode st s) ms last (NoEntering rho moves)
    → IsStuckSo form o number mode h st chosen rho moves
batch_stuck form o number mode st h s ms last chosen rho moves d fresh c e batch places_are (fits, (dropped, row, stuck, rho_is), moves_are) =
    let f = form_of form in
    let g = tried_major form o number mode st s ms last in
    let state = walk_state st h in
    let none = behind_both form o number mode st h s ms last c e ∙ fits in
    let m = is_major form o number mode st h s ms last fresh batch in
    let sound = major_sound f (IsDualFeasible f) (step_keeps_feasible f) o state g d.ready.basis d.ready.feasible m in
    let place = (stuck_row f o.limit last dropped row sound.within stuck).0 in (
      row.place,
      row.violation.side,
      stuck_told f o.limit ms last dropped row moves stuck moves_are,
      record {
        major = g;
        due = is_due form o number mode st h s ms last d fresh batch;
        fits = none;
        ends = last_stuck f o state g dropped row rho none stuck rho_is;
        told = told_so number mode chosen moves (places g.first.rows) (batch_moves f o.limit ms last) places_are moves_are;
        by_row = ap length rho_is ∙ sound.fresh.row_by_row row.place place;
      },
    )

-- ---- the batch stops, and is collected
stop_goes : (o : Options) (st : method.State) (g : method.Major) (t : Turn) → IsStop t
    → method.turn_after o st g t ≡ method.GoesOn Full (method.state_after o st g)
stop_goes o st g t (inl e) = ap (method.turn_after o st g) e
stop_goes o st g t (inr (dropped, e)) = ap (method.turn_after o st g) e

stop_not_stuck : (t : Turn) → IsStop t → batches.IsStuck t → ⊥
stop_not_stuck t (inl e) k = subst batches.IsStuck e k
stop_not_stuck t (inr (dropped, e)) k = subst batches.IsStuck e k

-- there is a weight for each place all along
weights_kept : (f : theory.Form) (first : Reached) (ms : List Minor) (last : Reached) → IsChain f first ms last → length last.weights ≡ length first.weights
weights_kept f _ _ _ (ended r) = refl
weights_kept f _ _ _ (linked m next ms last k rest) =
    weights_kept f next ms last rest
    ∙ (ap length k.reaches.weights ∙ tabled_length (length m.reached.weights)
    (weight_after (column_at m.reached.fresh m.step.entering) m.step.place m.reached.weights))

some_rows : (o : Options) (mode : Mode) → IsOptions o → 1 ≤ most o mode
some_rows o Full h = h.some_row
some_rows o Single h = omega arith

-- the state of the method behind the major
state_is : (new : State) (last : Reached) (f : theory.Form) (history : History) → IsStateOf f last new
    → walk_state new (Some history) ≡ record { basis = last.basis; weights = last.weights; count = last.count; history = Some history }
state_is new last f history is =
    let made : Basis → List ℕ → ℕ → method.State = λ basis weights count. record
    { basis = basis; weights = weights; count = count; history = Some history } in
    ap (λ b. made b new.weights new.pivots) is.basis ∙ ap (λ w. made last.basis w new.pivots) is.weights ∙ ap (made last.basis last.weights) is.count

-- the state behind the major is ready again
ready_again : (form : Form) (o : Options) (number : ℕ) (mode : Mode) (st new : State) (h : Option History) (s : Fresh) (ms : List Minor) (last : Reached)
    → IsDueAt form o st → IsFresh (form_of form) (basis_of st) s → IsBatch (form_of form) o.limit (first_in form o mode st s) ms last
    → IsStateOf (form_of form) last new → IsReady form o.limit new
ready_again form o number mode st new h s ms last d fresh batch is =
    let f = form_of form in
    let g = tried_major form o number mode st s ms last in
    let m = is_major form o number mode st h s ms last fresh batch in
    let sound = major_sound f (IsDualFeasible f) (step_keeps_feasible f) o (walk_state st h) g d.ready.basis d.ready.feasible m in
    let basis : IsBasis f (basis_of new) = subst (IsBasis f) (sym is.basis) sound.basis in
    let chain = batch_chain f o.limit g.first ms last d.ready.basis fresh batch in
    let heads : length new.head ≡ f.rows = basis.places in
    let old_heads : length st.head ≡ f.rows = d.ready.basis.places in
    let within : last.count ≤ o.limit = major_within f o (walk_state st h) g d.ready.within m in
    record {
      basis = basis;
      feasible = subst (IsDualFeasible f) (sym is.basis) sound.kept;
      solved = record {
        fresh = last.fresh;
        solved = subst (λ b. IsFresh f b last.fresh) (sym is.basis) sound.fresh;
        values = is.values ∙ ap (λ b. values_by_place f b last.fresh) (sym is.basis);
        reduced = is.reduced;
      };
      weights = ap length is.weights ∙ weights_kept f g.first ms last chain ∙ d.ready.weights ∙ old_heads ∙ sym heads;
      range = is.range;
      within = subst (λ n. n ≤ o.limit) (sym is.count) within;
    }

-- the factor behind it has the new history
factor_behind : (form : Form) (o : Options) (mode : Mode) (st new : State) (h : Option History) (s : Fresh) (ms : List Minor) (last : Reached)
    (used behind : Product) (pivots : List Pivot)
    → IsDueAt form o st → IsFresh (form_of form) (basis_of st) s → IsBatch (form_of form) o.limit (first_in form o mode st s) ms last
    → IsFactorOf (form_of form) (history_in o mode h st) (basis_of st) used → basis_of new ≡ last.basis → column_pivots pivots ≡ map pivot_of ms
    → IsBehind used behind pivots
    → IsFactorOf (form_of form) (record { head = (history_in o mode h st).head; pivots = (history_in o mode h st).pivots ++ map pivot_of ms })
    (basis_of new) behind
factor_behind form o mode st new h s ms last used behind pivots d fresh batch of basis same b =
    let f = form_of form in
    let first = first_in form o mode st s in
    let history = history_in o mode h st in
    let next : History = record { head = history.head; pivots = history.pivots ++ map pivot_of ms } in
    record {
      stands = subst (IsHistoryOf f next) (sym basis) (history_after f history first ms last of.stands
          (batch_chain f o.limit first ms last d.ready.basis fresh batch));
      steps = of.steps ∙ ap Ok (sym b.steps);
      pivots = b.pivots_are ∙ ap (λ ps. ps ++ column_pivots pivots) of.pivots ∙ ap (λ ps. history.pivots ++ ps) same;
    }

pub batch_kept : (form : Form) (o : Options) (number : ℕ) (mode : Mode) (st new : State) (h : Option History) (s : Fresh) (ms : List Minor) (last : Reached)
    (used behind : Product) (pivots : List Pivot) (chosen : List ℕ) (moves : List Move)
    → IsDueAt form o st → IsFresh (form_of form) (basis_of st) s → choice_refusal form st s ≡ None → factor_refusal (form_of form) o mode h st ≡ None
    → IsBatch (form_of form) o.limit (first_in form o mode st s) ms last → chosen ≡ places (first_in form o mode st s).rows
    → IsFactorOf (form_of form) (history_in o mode h st) (basis_of st) used → IsBehind used behind pivots
    → IsOutcome (form_of form) o.limit (history_in o mode h st) (first_in form o mode st s) ms last (Collected new pivots moves)
    → IsKept form o number mode (walk_state st h) new (Some behind) (told.Major number mode chosen moves)
batch_kept form o number mode st new h s ms last used behind pivots chosen moves d fresh c e batch places_are of b (fits, stop, is, same, moves_are) =
    let f = form_of form in
    let g = tried_major form o number mode st s ms last in
    let state = walk_state st h in
    let history = history_in o mode h st in
    let next : History = record { head = history.head; pivots = history.pivots ++ map pivot_of ms } in
    let none = behind_both form o number mode st h s ms last c e ∙ fits in
    let due = is_due form o number mode st h s ms last d fresh batch in
    let rises : st.pivots < last.count =
    ⊎_elim
    (λ (k : batches.IsStuck (turn f o.limit last)). absurd (stop_not_stuck (turn f o.limit last) stop k))
    (λ (k : st.pivots < last.count). k)
    (batches.major_moves f o state g (some_rows o mode d.options) due.major due.infeasible due.below_limit) in
    record {
      major = g;
      due = due;
      fits = none;
      history = next;
      goes = ap (method.after_by f o state g) none ∙ stop_goes o state g (turn f o.limit last) stop
          ∙ ap (method.GoesOn Full) (sym (state_is new last f next is));
      factor = factor_behind form o mode st new h s ms last used behind pivots d fresh batch of is.basis same b;
      told = told_so number mode chosen moves (places g.first.rows) (batch_moves f o.limit ms last) places_are moves_are;
      ready = ready_again form o number mode st new h s ms last d fresh batch is;
      counted = subst (λ n. st.pivots < n) (sym is.count) rises;
    }
