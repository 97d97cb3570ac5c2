-- How many steps a walk counts: each major that it tries by its rows and its pivots.
use Rattle.std.proofs.Common.{◌≡◌, ℕ, suc, ◌+◌, ◌≤◌, inl, inr, List, [], ◌∷◌, length, Option, None, Some, Ok, Err, refl, sym, ap, ◌∙◌, subst, add-one, arith}
use Rattle.std.proofs.lemmas.List.{length-map}
use Rattle.pami_algebra.specs.Fraction.{Fraction}
use Rattle.pami_theory.specs.Form as theory
use Rattle.pami_theory.specs.Fresh.{Fresh, IsFresh}
use Rattle.pami_theory.specs.Choice.{InfeasibleRow, chosen as the_chosen}
use Rattle.pami_theory.specs.declared.words.Side.{Side}
use Rattle.pami_method.specs.declared.words.Mode.{Mode}
use Rattle.pami_method.specs.declared.words.Mode.TheVariants as modes
use Rattle.pami_method.specs.declared.words.Mode.TheVariants.{Full, Single}
use Rattle.pami_method.specs.declared.words.Options.{Options}
use Rattle.pami_method.specs.declared.words.Place.{Place}
use Rattle.pami_method.specs.Factor.{History}
use Rattle.pami_method.specs.Batch.{turn}
use Rattle.pami_method.specs.Walk as method
use Rattle.pami_log.specs.declared.event.Move.{Move}
use Rattle.pami_log.specs.declared.event.Event.{Event}
use Rattle.pami_log.specs.declared.event.Event.TheVariants as told
use Rattle.pami_log.specs.Events.{major_event}
use Rattle.pami_form.specs.declared.form.Form.{Form}
use Rattle.pami_form.specs.FormOf.{form_of}
use Rattle.pami_state.specs.State.{basis_of}
use Rattle.pami_state.specs.declared.state.State.{State}
use Rattle.pami_factor.specs.Value.{Product}
use Rattle.pami_batch.specs.Factors.{HasFactor}
use Rattle.pami_major.specs.EndsMajor.{walk_state, IsKept, IsStuck, IsRefused}
use Rattle.pami_major.specs.MostSteps.{rows_chosen, pivots_in, attempt_steps, most_steps}
use Rattle.pami_major.specs.Walks.{FollowsTold, FollowsKept}
use Rattle.pami_major.specs.Spent.{pivots_by, major_steps, steps_after, walk_steps, IsSpent, IsSpending, FollowsSpending}
use Rattle.pami_major.specs.declared.majors.MajorEnd.{MajorEnd}
use Rattle.pami_major.specs.declared.walk.WalkEnd.TheVariants as ends
use Rattle.pami_major.specs.declared.walk.Turned.{Turned}
use Rattle.pami_major.specs.declared.walk.Turned.TheVariants as turns
use Rattle.pami_major.proofs.Steps.{told_pivots}
use Rattle.pami_major.proofs.Turns.{after_refused}

-- ---- one major
-- the rows and the pivots that an event tells
abbrev rows_told : Event → ℕ
rows_told (told.Major number mode chosen moves) = length chosen
rows_told told.Header = 0
rows_told (told.Phase phase) = 0
rows_told (told.Rollback number place) = 0

abbrev moves_told : Event → ℕ
moves_told (told.Major number mode chosen moves) = pivots_in moves
moves_told told.Header = 0
moves_told (told.Phase phase) = 0
moves_told (told.Rollback number place) = 0

-- one that isn't refused counts by what it tells
told_steps : (f : theory.Form) (o : Options) (st : method.State) (g : method.Major) (number : ℕ) (mode : Mode) (chosen : List ℕ) (moves : List Move)
    → method.refused_in f o st g ≡ None → told.Major number mode chosen moves ≡ major_event f o.limit g
    → major_steps f o st g ≡ attempt_steps (length chosen) (pivots_in moves)
told_steps f o st g number mode chosen moves fits e =
    let rows : length chosen ≡ length g.first.rows = ap rows_told e ∙ length-map g.first.rows (λ (row : InfeasibleRow). row.place) in
    let pivots : pivots_in moves ≡ length g.minors = ap moves_told e ∙ told_pivots g.minors g.last (turn f o.limit g.last) in
    let all : major_steps f o st g ≡ length g.first.rows + length g.minors + 2 = ap (λ (x : Option Place). attempt_steps (length g.first.rows) (pivots_by g x)) fits in
    omega (arith, rows, pivots, all)

-- and a refused one by its rows
refused_steps : (form : Form) (o : Options) (number : ℕ) (mode : Mode) (old : State) (h : Option History) (place : Place)
    → (r : IsRefused form o number mode (walk_state old h) place)
    → major_steps (form_of form) o (walk_state old h) r.major
    ≡ attempt_steps (rows_chosen form o mode old r.major.first.fresh) (rows_chosen form o mode old r.major.first.fresh)
refused_steps form o number mode old h place r =
    let f = form_of form in
    let g = r.major in
    let rows : length g.first.rows ≡ rows_chosen form o mode old g.first.fresh = ap length r.due.major.rows
    ∙ ap (λ (m : Mode). length (the_chosen f (basis_of old) g.first.fresh old.weights (method.most o m))) r.due.in_mode in
    let all : major_steps f o (walk_state old h) g ≡ length g.first.rows + length g.first.rows + 2 =
    ap (λ (x : Option Place). attempt_steps (length g.first.rows) (pivots_by g x)) r.is_refused in
    omega (arith, rows, all)

-- by the end of a major
pub end_steps : (E : Type 0) (n a c : ℕ) (end found : MajorEnd) → c ≤ a + most_steps {E = E} n (Ok end) → end ≡ found
    → c ≤ a + most_steps {E = E} n (Ok found)
end_steps E n a c end found l e = subst (λ (x : MajorEnd). c ≤ a + most_steps {E = E} n (Ok x)) e l

-- ---- the walk begins
pub spending_begins : (f : theory.Form) (o : Options) (tried : ℕ) (first : State) (factor : Option Product) (h : Option History) (steps : ℕ)
    → HasFactor f h (basis_of first) factor → IsSpending f o tried (walk_state first h) steps first factor modes.Full tried steps
spending_begins f o tried first factor h steps k = record { history = h; factor_is = k; rest = λ gs end w. (gs, w, omega arith) }

-- ---- what follows a major of a walk on its way
module _ (form : Form) (o : Options) (tried : ℕ) (first : method.State) (steps : ℕ) (old : State) (factor : Option Product) (mode : Mode) (now a c : ℕ)
    (u : IsSpending (form_of form) o tried first steps old factor mode now a) where
  -- no major is due
  pub none_spent : (end : method.WalkEnd) → method.EndsAt (form_of form) o (walk_state old u.history) end → c ≤ a + 0
      → IsSpent (form_of form) o tried first steps c
  none_spent end at l =
      let all = u.rest [] end at in
      let most : a + 0 ≤ steps + walk_steps (form_of form) o first all.0 = all.2 in
      record { majors = all.0; end = end; walk = all.1; most = omega (arith, most, l) }

  pub kept_spends : (new : State) (behind : Option Product) (chosen : List ℕ) (moves : List Move)
      → IsKept form o (now + 1) mode (walk_state old u.history) new behind (told.Major (now + 1) mode chosen moves)
      → c ≤ a + attempt_steps (length chosen) (pivots_in moves) → IsSpending (form_of form) o tried first steps new behind modes.Full (now + 1) c
  kept_spends new behind chosen moves k l =
      let number = now + 1 in
      let f = form_of form in
      let st = walk_state old u.history in
      let next = walk_state new (Some k.history) in
      let one = told_steps f o st k.major number mode chosen moves k.fits k.told in
      record {
        history = Some k.history;
        factor_is = k.factor;
        rest = λ gs end w.
            let onward : method.IsWalk f o (suc number) Full next gs end = subst (λ n. method.IsWalk f o n Full next gs end) (add-one number) w in
            let all = u.rest (k.major ∷ gs) end
            (k.due, subst (λ (x : method.After). method.GoesAfter gs end x (λ m t. method.IsWalk f o (suc number) m t gs end)) (sym k.goes) onward) in
            let later : steps_after (method.after f o st k.major) (λ t. walk_steps f o t gs) ≡ walk_steps f o next gs =
            ap (λ (x : method.After). steps_after x (λ t. walk_steps f o t gs)) k.goes in
            let most : a + (major_steps f o st k.major + steps_after (method.after f o st k.major) (λ t. walk_steps f o t gs)) ≤ steps + walk_steps f o first all.0 = all.2 in
            (all.0, all.1, omega (arith, one, later, most, l));
      }

  pub stuck_spent : (place : ℕ) (side : Side) (rho : List Fraction) (chosen : List ℕ) (moves : List Move)
      → IsStuck form o (now + 1) mode (walk_state old u.history) (told.Major (now + 1) mode chosen moves) place side rho
      → c ≤ a + (length chosen + 1) → IsSpent (form_of form) o tried first steps c
  stuck_spent place side rho chosen moves k l =
      let number = now + 1 in
      let f = form_of form in
      let st = walk_state old u.history in
      let end = method.NoEntering place side rho in
      let one = told_steps f o st k.major number mode chosen moves k.fits k.told in
      let all = u.rest (k.major ∷ []) end
      (k.due, subst (λ (x : method.After). method.GoesAfter [] end x (λ m t. method.IsWalk f o (suc number) m t [] end)) (sym k.ends) (refl, refl)) in
      let most : a + (major_steps f o st k.major + steps_after (method.after f o st k.major) (λ t. walk_steps f o t [])) ≤ steps + walk_steps f o first all.0 = all.2 in
      record { majors = all.0; end = end; walk = all.1; most = omega (arith, one, most, l) }

  -- where the state is as before
  abbrev pub Follows : Option Product → Turned → Type 0
  Follows behind turned = FollowsSpending (form_of form) o tried first steps old behind (now + 1) c turned

  pub told_spends : (event : Event) (next turned : Turned) (behind : Option Product) (stood stands stopped : List Event → Type 0) (n m : ℕ)
      → Follows behind next → FollowsTold event next stood stands stopped n m turned → Follows behind turned
  told_spends event next turned behind stood stands stopped n m h (inl (e, g, k)) = subst (Follows behind) (sym e) h
  told_spends event next turned behind stood stands stopped n m h (inr (fault, e, t)) = subst (Follows behind) (sym e) tt

  pub kept_spent_on : (event : Event) (before moved new : State) (made behind : Option Product) (stood stands stopped : List Event → Type 0) (n m : ℕ) (turned : Turned)
      → IsSpending (form_of form) o tried first steps moved made modes.Full (now + 1) c
      → FollowsKept event before moved new made behind stood stands stopped n m turned
      → FollowsSpending (form_of form) o tried first steps new behind (now + 1) c turned
  kept_spent_on event before moved new made behind stood stands stopped n m (turns.GoesOn next) s h =
      subst (λ (x : Mode). IsSpending (form_of form) o tried first steps new behind x (now + 1) c) (sym h.0)
      (subst (λ (x : State). IsSpending (form_of form) o tried first steps x behind modes.Full (now + 1) c) (sym h.1)
      (subst (λ (x : Option Product). IsSpending (form_of form) o tried first steps moved x modes.Full (now + 1) c) (sym h.2) s))
  kept_spent_on event before moved new made behind stood stands stopped n m (turns.Ends (Ok end)) s h = absurd h
  kept_spent_on event before moved new made behind stood stands stopped n m (turns.Ends (Err fault)) s h = tt

-- ---- what follows a refused one
-- a Single major follows a Full one
rolled_spends : (form : Form) (o : Options) (tried : ℕ) (first : method.State) (steps : ℕ) (old : State) (factor : Option Product) (now a c : ℕ) (place : Place)
    (behind : Option Product) → (u : IsSpending (form_of form) o tried first steps old factor modes.Full now a)
    → (r : IsRefused form o (now + 1) Full (walk_state old u.history) place) → c ≤ a + major_steps (form_of form) o (walk_state old u.history) r.major
    → IsSpending (form_of form) o tried first steps old behind modes.Single (now + 1) c
rolled_spends form o tried first steps old factor now a c place behind u r l =
    let number = now + 1 in
    let f = form_of form in
    let st = walk_state old u.history in
    let goes = after_refused form o number Full st place r in
    record {
      history = u.history;
      factor_is = (r.major.first.fresh, r.due.major.fresh, r.due.infeasible);
      rest = λ gs end w.
          let onward : method.IsWalk f o (suc number) Single st gs end = subst (λ n. method.IsWalk f o n Single st gs end) (add-one number) w in
          let all = u.rest (r.major ∷ gs) end
          (r.due, subst (λ (x : method.After). method.GoesAfter gs end x (λ m t. method.IsWalk f o (suc number) m t gs end)) (sym goes) onward) in
          let later : steps_after (method.after f o st r.major) (λ t. walk_steps f o t gs) ≡ walk_steps f o st gs =
          ap (λ (x : method.After). steps_after x (λ t. walk_steps f o t gs)) goes in
          let most : a + (major_steps f o st r.major + steps_after (method.after f o st r.major) (λ t. walk_steps f o t gs)) ≤ steps + walk_steps f o first all.0 = all.2 in
          (all.0, all.1, omega (arith, later, most, l));
    }

-- and the walk ends behind a Single one
overflow_spent : (form : Form) (o : Options) (tried : ℕ) (first : method.State) (steps : ℕ) (old : State) (factor : Option Product) (now a c : ℕ) (place : Place)
    → (u : IsSpending (form_of form) o tried first steps old factor modes.Single now a)
    → (r : IsRefused form o (now + 1) Single (walk_state old u.history) place) → c ≤ a + major_steps (form_of form) o (walk_state old u.history) r.major
    → IsSpent (form_of form) o tried first steps c
overflow_spent form o tried first steps old factor now a c place u r l =
    let number = now + 1 in
    let f = form_of form in
    let st = walk_state old u.history in
    let end = method.Overflow r.refused in
    let goes = after_refused form o number Single st place r in
    let all = u.rest (r.major ∷ []) end
    (r.due, subst (λ (x : method.After). method.GoesAfter [] end x (λ m t. method.IsWalk f o (suc number) m t [] end)) (sym goes) (refl, refl)) in
    let most : a + (major_steps f o st r.major + steps_after (method.after f o st r.major) (λ t. walk_steps f o t [])) ≤ steps + walk_steps f o first all.0 = all.2 in
    record { majors = all.0; end = end; walk = all.1; most = omega (arith, most, l) }

pub refused_spends : (form : Form) (o : Options) (tried : ℕ) (first : method.State) (steps : ℕ) (old : State) (factor : Option Product) (mode : Mode) (now a c : ℕ)
    (place : Place) (behind : Option Product) (turned : Turned) (stood stands stopped : List Event → Type 0) (n m : ℕ)
    → (u : IsSpending (form_of form) o tried first steps old factor mode now a) → IsRefused form o (now + 1) mode (walk_state old u.history) place
    → ((s : Fresh) → IsFresh (form_of form) (basis_of old) s → c ≤ a + attempt_steps (rows_chosen form o mode old s) (rows_chosen form o mode old s))
    → (mode ≡ modes.Full → FollowsTold (told.Rollback (now + 1) place) (turns.GoesOn modes.Single) stood stands stopped n m turned)
    → (mode ≡ modes.Single → turned ≡ turns.Ends (Ok (ends.Overflow place)))
    → FollowsSpending (form_of form) o tried first steps old behind (now + 1) c turned
refused_spends form o tried first steps old factor modes.Full now a c place behind turned stood stands stopped n m u r l full single =
    let most = l r.major.first.fresh r.due.major.fresh in
    let one = refused_steps form o (now + 1) Full old u.history place r in
    told_spends form o tried first steps old factor modes.Full now a c u (told.Rollback (now + 1) place) (turns.GoesOn modes.Single) turned behind
    stood stands stopped n m
    (rolled_spends form o tried first steps old factor now a c place behind u r (omega (arith, most, one))) (full refl)
refused_spends form o tried first steps old factor modes.Single now a c place behind turned stood stands stopped n m u r l full single =
    let most = l r.major.first.fresh r.due.major.fresh in
    let one = refused_steps form o (now + 1) Single old u.history place r in
    subst (FollowsSpending (form_of form) o tried first steps old behind (now + 1) c) (sym (single refl))
    (overflow_spent form o tried first steps old factor now a c place u r (omega (arith, most, one)))
