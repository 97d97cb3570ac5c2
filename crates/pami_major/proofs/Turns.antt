-- A walk on its way: where it begins and ends, and what follows a major.
use Rattle.std.proofs.Common.{◌≡◌, ℕ, suc, ◌+◌, ◌*◌, ◌<◌, ◌≤◌, List, [], ◌∷◌, ◌++◌, length, None, Some, Option, Result, Ok, Err, inl, inr, refl, sym, ap, ◌∙◌, subst, append_assoc, append-nil, add-one, arith}
use Rattle.std.specs.Result.{IfOk}
use Rattle.pami_algebra.specs.Fraction.{Fraction}
use Rattle.pami_frac.specs.declared.fault.Fault.{Fault}
use Rattle.pami_frac.specs.declared.fault.Fault.TheVariants as faults
use Rattle.pami_theory.specs.Form as theory
use Rattle.pami_theory.specs.Basis.{IsBasis}
use Rattle.pami_theory.specs.Fresh.{Fresh}
use Rattle.pami_theory.specs.Choice.{infeasible_rows}
use Rattle.pami_theory.specs.declared.words.Side.{Side}
use Rattle.pami_theory.proofs.Solved.{only_fresh}
use Rattle.pami_method.specs.Factor.{History}
use Rattle.pami_method.specs.declared.words.Place.{Place}
use Rattle.pami_method.specs.declared.words.Mode.{Mode}
use Rattle.pami_method.specs.declared.words.Mode.TheVariants as modes
use Rattle.pami_method.specs.declared.words.Mode.TheVariants.{Full, Single}
use Rattle.pami_method.specs.declared.words.Options.{Options}
use Rattle.pami_method.specs.Walk as method
use Rattle.pami_method.proofs.WalkExists.{has_walk}
use Rattle.pami_form.specs.declared.form.Form.{Form}
use Rattle.pami_form.specs.FormOf.{form_of}
use Rattle.pami_state.specs.State.{basis_of}
use Rattle.pami_state.specs.declared.state.State.{State}
use Rattle.pami_log.specs.declared.event.Event.{Event}
use Rattle.pami_log.specs.declared.event.Event.TheVariants as told
use Rattle.pami_log.specs.declared.teller.TellFailed.{TellFailed}
use Rattle.pami_log.specs.Events.{major_event, refused_events, events_by, events_after, events_of}
use Rattle.pami_log.specs.Tellers.{GoesOn, Tells}
use Rattle.pami_factor.specs.Value.{Product}
use Rattle.pami_batch.specs.Factors.{HasFactor}
use Rattle.pami_major.specs.Ready.{IsReady}
use Rattle.pami_major.specs.EndsMajor.{walk_state, IsKnownFor, IsKept, IsStuck, IsRefused, LeavesFactor}
use Rattle.pami_major.specs.Walks.{IsFactorFor, IsUnderway, majors_left, AreCounted, HasSomeFactor, IsTold, IsRowOfEnd, IsFactorOfEnd, IsWalkedWhole, BeginsWalk, IsReached, EndsSo, FollowsTurn, FollowsTold, FollowsKept, state_by, last_state}
use Rattle.pami_major.specs.declared.majors.MajorEnd.{MajorEnd}
use Rattle.pami_major.specs.declared.majors.MajorEnd.TheVariants as majors
use Rattle.pami_major.specs.declared.walk.WalkEnd.{WalkEnd}
use Rattle.pami_major.specs.declared.walk.WalkEnd.TheVariants as ends
use Rattle.pami_major.specs.declared.walk.Turned.{Turned}
use Rattle.pami_major.specs.declared.walk.Turned.TheVariants as turns

plus_nil : (k : ℕ) → k + 0 ≡ k
plus_nil k = omega arith

-- what a major asks of its factor
pub known : (f : theory.Form) (mode : Mode) (h : Option History) (st : State) (factor : Option Product) → IsFactorFor f mode h st factor → IsKnownFor f mode h st factor
known f modes.Full h st factor k = k
known f modes.Single h st factor k = tt

pub known_any : (f : theory.Form) (mode : Mode) (h : Option History) (st : State) (factor : Option Product) → HasFactor f h (basis_of st) factor → IsKnownFor f mode h st factor
known_any f modes.Full h st factor k = k
known_any f modes.Single h st factor k = tt

-- where nothing is due the factor is as before
pub optimal_leaves : (E : Type 0) (end : MajorEnd) (old new : Option Product) → end ≡ majors.Optimal → LeavesFactor {E = E} (Ok end) old new → new ≡ old
optimal_leaves E end old new e h = subst (λ (x : MajorEnd). LeavesFactor {E = E} (Ok x) old new) e h

pub limit_leaves : (E : Type 0) (end : MajorEnd) (old new : Option Product) → end ≡ majors.Limit → LeavesFactor {E = E} (Ok end) old new → new ≡ old
limit_leaves E end old new e h = subst (λ (x : MajorEnd). LeavesFactor {E = E} (Ok x) old new) e h

-- whatever becomes of a kept major, the factor is one of the state, or there is none
pub kept_factor : (f : theory.Form) (event : Event) (before old new : State) (factor factor_now : Option Product) (stood stands stopped : List Event → Type 0) (n m : ℕ) (turned : Turned) → HasSomeFactor f old factor
    → FollowsKept event before old new factor factor_now stood stands stopped n m turned → HasSomeFactor f new factor_now
kept_factor f event before old new factor factor_now stood stands stopped n m (turns.GoesOn mode) k h =
    subst (λ (x : Option Product). HasSomeFactor f new x) (sym h.2) (subst (λ (s : State). HasSomeFactor f s factor) (sym h.1) k)
kept_factor f event before old new factor factor_now stood stands stopped n m (turns.Ends (Ok end)) k h = absurd h
kept_factor f event before old new factor factor_now stood stands stopped n m (turns.Ends (Err (faults.Named failed))) k h =
    subst (λ (x : Option Product). HasSomeFactor f new x) (sym h.1) (subst (λ (s : State). HasSomeFactor f s factor) (sym h.0) k)
kept_factor f event before old new factor factor_now stood stands stopped n m (turns.Ends (Err faults.OutOfMemory)) k h =
    (None, subst (λ (x : Option Product). HasFactor f None (basis_of new) x) (sym h.1) tt)

-- ---- the walk begins, and ends where no major is due
begins : (form : Form) (o : Options) (tried : ℕ) (first : State) (factor : Option Product) (h : Option History) → IsReady form o.limit first → HasFactor (form_of form) h (basis_of first) factor
    → IsUnderway form o tried (walk_state first h) first factor modes.Full tried []
begins form o tried first factor h r k = record { ready = r; history = h; factor_is = k; rest = λ gs end w. (gs, w, refl, refl, refl) }

-- nothing more was told
whole_more : (form : Form) (o : Options) (tried : ℕ) (first : method.State) (end : WalkEnd) (st : State) (factor : Option Product) (now : ℕ) (events : List Event) → IsWalkedWhole form o tried first end st factor now events
    → IsWalkedWhole form o tried first end st factor now (events ++ [])
whole_more form o tried first end st factor now events w = subst (IsWalkedWhole form o tried first end st factor now) (sym (append-nil events)) w

-- a Single major is due, so an optimal end is that of a walk whose factor has its history
factor_at_optimal : (f : theory.Form) (o : Options) (mode : Mode) (h : Option History) (st : State) (factor : Option Product) → IsFactorFor f mode h st factor
    → method.EndsAt f o (walk_state st h) (method.Optimal (walk_state st h)) → IsBasis f (basis_of st) → HasFactor f h (basis_of st) factor
factor_at_optimal f o modes.Full h st factor k e is = k
factor_at_optimal f o modes.Single h st factor k e is =
    let same : e.1.0 ≡ k.0 = only_fresh f (basis_of st) e.1.0 k.0 is e.1.1 k.1 in
    absurd (k.2 (subst (λ (s : Fresh). infeasible_rows f (basis_of st) s st.weights ≡ []) same e.1.2))

-- no major is due
ends_here : (form : Form) (o : Options) (tried : ℕ) (first : method.State) (st : State) (factor : Option Product) (mode : Mode) (now : ℕ) (events : List Event) (told : WalkEnd) (end : method.WalkEnd) → (u : IsUnderway form o tried first st factor mode now events)
    → method.EndsAt (form_of form) o (walk_state st u.history) end → IsTold told st end → IsRowOfEnd form told → IsFactorOfEnd (form_of form) end st factor
    → IsWalkedWhole form o tried first told st factor now events
ends_here form o tried first st factor mode now events told end u e is row factor_is =
    let all = u.rest [] end e in
    record {
      walked = record {
        majors = all.0;
        end = end;
        walk = all.1;
        told_end = is;
        told_state = (u.history, all.3);
        told_events = sym (all.2 ∙ append-nil events);
        counted = sym (all.4 ∙ plus_nil now);
      };
      ready = u.ready;
      row = row;
      factor_is = factor_is;
    }

pub optimal_ends : (form : Form) (o : Options) (tried : ℕ) (first : method.State) (st : State) (factor : Option Product) (mode : Mode) (now : ℕ) (events : List Event) → (u : IsUnderway form o tried first st factor mode now events)
    → method.EndsAt (form_of form) o (walk_state st u.history) (method.Optimal (walk_state st u.history)) → IsWalkedWhole form o tried first ends.Optimal st factor now events
optimal_ends form o tried first st factor mode now events u e =
    ends_here form o tried first st factor mode now events ends.Optimal (method.Optimal (walk_state st u.history)) u e (refl, refl) tt
    (factor_at_optimal (form_of form) o mode u.history st factor u.factor_is e u.ready.basis)

pub limit_ends : (form : Form) (o : Options) (tried : ℕ) (first : method.State) (st : State) (factor : Option Product) (mode : Mode) (now : ℕ) (events : List Event) → (u : IsUnderway form o tried first st factor mode now events)
    → method.EndsAt (form_of form) o (walk_state st u.history) (method.Limit (walk_state st u.history)) → IsWalkedWhole form o tried first ends.Limit st factor now events
limit_ends form o tried first st factor mode now events u e =
    ends_here form o tried first st factor mode now events ends.Limit (method.Limit (walk_state st u.history)) u e (refl, refl) tt tt

-- ---- what follows a major
one_less : (tried now k l : ℕ) → tried + k ≡ now + suc l → tried + k ≡ now + 1 + l
one_less tried now k l e = omega arith

-- the walk goes on behind a kept major
kept_goes : (form : Form) (o : Options) (tried : ℕ) (first : method.State) (old : State) (factor : Option Product) (mode : Mode) (now : ℕ) (events : List Event) (new : State) (behind : Option Product) (event : Event)
    → (u : IsUnderway form o tried first old factor mode now events) → IsKept form o (now + 1) mode (walk_state old u.history) new behind event
    → IsUnderway form o tried first new behind modes.Full (now + 1) (events ++ event ∷ [])
kept_goes form o tried first old factor mode now events new behind event u k =
    let number = now + 1 in
    let f = form_of form in
    let p = o in
    let st = walk_state old u.history in
    let next = walk_state new (Some k.history) in
    record {
      ready = k.ready;
      history = Some k.history;
      factor_is = k.factor;
      rest = λ gs end w.
          let onward : method.IsWalk f p (suc number) Full next gs end = subst (λ n. method.IsWalk f p n Full next gs end) (add-one number) w in
          let all = u.rest (k.major ∷ gs) end
          (k.due, subst (λ (a : method.After). method.GoesAfter gs end a (λ m t. method.IsWalk f p (suc number) m t gs end)) (sym k.goes) onward) in (
            all.0,
            all.1,
            all.2
                ∙ ap (λ (x : Option Place). events ++ (events_by f o.limit k.major x ++ events_after (method.after f p st k.major) (λ t. events_of f p t gs))) k.fits
                ∙ ap (λ (a : method.After). events ++ (major_event f o.limit k.major ∷ events_after a (λ t. events_of f p t gs))) k.goes
                ∙ ap (λ (e : Event). events ++ (e ∷ events_of f p next gs)) (sym k.told)
                ∙ sym (append_assoc events (event ∷ []) (events_of f p next gs)),
            all.3 ∙ ap (λ (a : method.After). state_by a st (λ t. last_state f p t gs)) k.goes,
            one_less tried now (length all.0) (length gs) all.4,
          );
    }

-- what becomes of a refused major
pub after_refused : (form : Form) (o : Options) (number : ℕ) (mode : Mode) (st : method.State) (place : Place) → (r : IsRefused form o number mode st place)
    → method.after (form_of form) o st r.major ≡ method.refused_after mode st r.refused
after_refused form o number mode st place r =
    ap (method.after_by (form_of form) o st r.major) r.is_refused ∙ ap (λ m. method.refused_after m st r.refused) r.due.in_mode

-- a Full major is rolled back, and the walk goes on in Single from the same state, whatever becomes of the factor
rolled_back : (form : Form) (o : Options) (tried : ℕ) (first : method.State) (old : State) (factor : Option Product) (now : ℕ) (events : List Event) (place : Place) (behind : Option Product)
    → (u : IsUnderway form o tried first old factor modes.Full now events) → IsRefused form o (now + 1) Full (walk_state old u.history) place
    → IsUnderway form o tried first old behind modes.Single (now + 1) (events ++ told.Rollback (now + 1) place ∷ [])
rolled_back form o tried first old factor now events place behind u r =
    let number = now + 1 in
    let f = form_of form in
    let p = o in
    let st = walk_state old u.history in
    let goes = after_refused form o number Full st place r in
    record {
      ready = u.ready;
      history = u.history;
      factor_is = (r.major.first.fresh, r.due.major.fresh, r.due.infeasible);
      rest = λ gs end w.
          let onward : method.IsWalk f p (suc number) Single st gs end = subst (λ n. method.IsWalk f p n Single st gs end) (add-one number) w in
          let all = u.rest (r.major ∷ gs) end
          (r.due, subst (λ (a : method.After). method.GoesAfter gs end a (λ m t. method.IsWalk f p (suc number) m t gs end)) (sym goes) onward) in (
            all.0,
            all.1,
            all.2
                ∙ ap (λ (x : Option Place). events ++ (events_by f o.limit r.major x ++ events_after (method.after f p st r.major) (λ t. events_of f p t gs))) r.is_refused
                ∙ ap (λ (a : method.After). events ++ (refused_events r.major.number r.major.mode r.refused ++ events_after a (λ t. events_of f p t gs))) goes
                ∙ ap (λ (m : Mode). events ++ (refused_events r.major.number m r.refused ++ events_of f p st gs)) r.due.in_mode
                ∙ ap (λ n. events ++ (told.Rollback n r.refused ∷ events_of f p st gs)) r.due.numbered
                ∙ ap (λ (x : Place). events ++ (told.Rollback number x ∷ events_of f p st gs)) (sym r.told)
                ∙ sym (append_assoc events (told.Rollback number place ∷ []) (events_of f p st gs)),
            all.3 ∙ ap (λ (a : method.After). state_by a st (λ t. last_state f p t gs)) goes,
            one_less tried now (length all.0) (length gs) all.4,
          );
    }

-- a Single major that is refused ends the walk, and isn't told
overflow_ends : (form : Form) (o : Options) (tried : ℕ) (first : method.State) (old : State) (factor : Option Product) (now : ℕ) (events : List Event) (place : Place) (behind : Option Product)
    → (u : IsUnderway form o tried first old factor modes.Single now events) → IsRefused form o (now + 1) Single (walk_state old u.history) place
    → IsWalkedWhole form o tried first (ends.Overflow place) old behind (now + 1) events
overflow_ends form o tried first old factor now events place behind u r =
    let number = now + 1 in
    let f = form_of form in
    let p = o in
    let st = walk_state old u.history in
    let end = method.Overflow r.refused in
    let goes = after_refused form o number Single st place r in
    let all = u.rest (r.major ∷ []) end
    (r.due, subst (λ (a : method.After). method.GoesAfter [] end a (λ m t. method.IsWalk f p (suc number) m t [] end)) (sym goes) (refl, refl)) in
    record {
      walked = record {
        majors = all.0;
        end = end;
        walk = all.1;
        told_end = r.told;
        told_state = (u.history, all.3 ∙ ap (λ (a : method.After). state_by a st (λ t. last_state f p t [])) goes);
        told_events = sym (
            all.2
            ∙ ap (λ (x : Option Place). events ++ (events_by f o.limit r.major x ++ events_after (method.after f p st r.major) (λ t. events_of f p t []))) r.is_refused
            ∙ ap (λ (a : method.After). events ++ (refused_events r.major.number r.major.mode r.refused ++ events_after a (λ t. events_of f p t []))) goes
            ∙ ap (λ (m : Mode). events ++ (refused_events r.major.number m r.refused ++ [])) r.due.in_mode
            ∙ append-nil events
            );
        counted = sym all.4;
      };
      ready = u.ready;
      row = tt;
      factor_is = tt;
    }

-- a row without an entering variable ends it too
stuck_ends : (form : Form) (o : Options) (tried : ℕ) (first : method.State) (old : State) (factor : Option Product) (mode : Mode) (now : ℕ) (events : List Event) (event : Event) (place : ℕ) (side : Side) (rho : List Fraction) (behind : Option Product)
    → (u : IsUnderway form o tried first old factor mode now events) → IsStuck form o (now + 1) mode (walk_state old u.history) event place side rho
    → IsWalkedWhole form o tried first (ends.NoEntering place side rho) old behind (now + 1) (events ++ event ∷ [])
stuck_ends form o tried first old factor mode now events event place side rho behind u k =
    let number = now + 1 in
    let f = form_of form in
    let p = o in
    let st = walk_state old u.history in
    let end = method.NoEntering place side rho in
    let all = u.rest (k.major ∷ []) end
    (k.due, subst (λ (a : method.After). method.GoesAfter [] end a (λ m t. method.IsWalk f p (suc number) m t [] end)) (sym k.ends) (refl, refl)) in
    record {
      walked = record {
        majors = all.0;
        end = end;
        walk = all.1;
        told_end = (refl, refl, refl);
        told_state = (u.history, all.3 ∙ ap (λ (a : method.After). state_by a st (λ t. last_state f p t [])) k.ends);
        told_events = sym (
            all.2
            ∙ ap (λ (x : Option Place). events ++ (events_by f o.limit k.major x ++ events_after (method.after f p st k.major) (λ t. events_of f p t []))) k.fits
            ∙ ap (λ (a : method.After). events ++ (major_event f o.limit k.major ∷ events_after a (λ t. events_of f p t []))) k.ends
            ∙ ap (λ (e : Event). events ++ (e ∷ [])) (sym k.told)
            );
        counted = sym all.4;
      };
      ready = u.ready;
      row = k.by_row;
      factor_is = tt;
    }

-- ---- fewer majors are left
fewer_behind : (limit : ℕ) (old new : State) (mode : Mode) → old.pivots < new.pivots → new.pivots ≤ limit → majors_left limit new modes.Full < majors_left limit old mode
fewer_behind limit old new modes.Full l e = omega arith
fewer_behind limit old new modes.Single l e = omega arith

fewer_in_single : (limit : ℕ) (old : State) → majors_left limit old modes.Single < majors_left limit old modes.Full
fewer_in_single limit old = omega arith

-- ---- what was told so far are the first events of a walk
begins_on : (form : Form) (o : Options) (tried : ℕ) (first : method.State) (st : State) (factor : Option Product) (mode : Mode) (now : ℕ) (events : List Event) → 1 ≤ o.batch → IsUnderway form o tried first st factor mode now events
    → BeginsWalk (form_of form) o tried first events
begins_on form o tried first st factor mode now events some u =
    let f = form_of form in
    let here = walk_state st u.history in
    let w = has_walk f o (now + 1) mode here some (record { basis = u.ready.basis; fresh = u.ready.solved.fresh; solved = u.ready.solved.solved; within = u.ready.within }) in
    let all = u.rest w.0 w.1 w.2 in
    record { majors = all.0; end = w.1; walk = all.1; later = events_of f o here w.0; whole = all.2 }

reached_on : (form : Form) (o : Options) (tried : ℕ) (first : method.State) (st : State) (factor : Option Product) (mode : Mode) (now : ℕ) (events : List Event) → 1 ≤ o.batch → IsUnderway form o tried first st factor mode now events
    → IsReached form o tried first st events
reached_on form o tried first st factor mode now events some u =
    record { begins = begins_on form o tried first st factor mode now events some u; at = inl (mode, now, factor, u) }

reached_end : (form : Form) (o : Options) (tried : ℕ) (first : method.State) (st : State) (factor : Option Product) (end : WalkEnd) (now : ℕ) (events : List Event) → IsWalkedWhole form o tried first end st factor now events
    → IsReached form o tried first st events
reached_end form o tried first st factor end now events w = record {
  begins = record { majors = w.walked.majors; end = w.walked.end; walk = w.walked.walk; later = []; whole = sym w.walked.told_events ∙ sym (append-nil events) };
  at = inr (end, now, factor, w);
}

pub stands_on : (stood : List Event → Type 0) → GoesOn stood stood []
stands_on stood = λ xs h. subst stood (sym (append-nil xs)) h

-- ---- what follows a major of a walk on its way
module _ (form : Form) (o : Options) (tried : ℕ) (first : method.State) (old : State) (factor : Option Product) (mode : Mode) (now : ℕ) (events : List Event)
    (some : 1 ≤ o.batch) (u : IsUnderway form o tried first old factor mode now events) (stood stands stopped : List Event → Type 0) (n m : ℕ) where
  abbrev pub Follows : State → Option Product → ℕ → Turned → Type 0
  Follows new behind tried_now turned = FollowsTurn form o tried first events old mode now new behind tried_now stood stands stopped n m turned

  -- memory ran out, and the state is as before
  pub short_follows : (new : State) (behind : Option Product) (tried_now : ℕ) → new ≡ old → GoesOn stood stands [] → m ≡ n → Follows new behind tried_now (turns.Ends (Err faults.OutOfMemory))
  short_follows new behind tried_now e g k = (
    (
      [],
      subst (λ (s : State). IsReached form o tried first s (events ++ [])) (sym e)
          (subst (IsReached form o tried first old) (sym (append-nil events)) (reached_on form o tried first old factor mode now events some u)),
      g,
      k,
    ),
    tt,
  )

  -- the walk ends with nothing told
  pub quiet_follows : (end : WalkEnd) (new : State) (behind : Option Product) (tried_now : ℕ) → IsWalkedWhole form o tried first end new behind tried_now events → tried_now ≤ now + 1 → GoesOn stood stands [] → m ≡ n
      → Follows new behind tried_now (turns.Ends (Ok end))
  quiet_follows end new behind tried_now w l g k = (([], whole_more form o tried first end new behind tried_now events w, g, k), l)

  -- nothing is due
  pub optimal_follows : (new : State) (behind : Option Product) → new ≡ old → behind ≡ factor → method.EndsAt (form_of form) o (walk_state old u.history) (method.Optimal (walk_state old u.history)) → GoesOn stood stands [] → m ≡ n
      → Follows new behind now (turns.Ends (Ok ends.Optimal))
  optimal_follows new behind e k at g l =
      quiet_follows ends.Optimal new behind now
      (subst (λ (s : State). IsWalkedWhole form o tried first ends.Optimal s behind now events) (sym e)
      (subst (λ (x : Option Product). IsWalkedWhole form o tried first ends.Optimal old x now events) (sym k) (optimal_ends form o tried first old factor mode now events u at))) (omega arith) g l

  pub limit_follows : (new : State) (behind : Option Product) → new ≡ old → behind ≡ factor → method.EndsAt (form_of form) o (walk_state old u.history) (method.Limit (walk_state old u.history)) → GoesOn stood stands [] → m ≡ n
      → Follows new behind now (turns.Ends (Ok ends.Limit))
  limit_follows new behind e k at g l =
      quiet_follows ends.Limit new behind now
      (subst (λ (s : State). IsWalkedWhole form o tried first ends.Limit s behind now events) (sym e)
      (subst (λ (x : Option Product). IsWalkedWhole form o tried first ends.Limit old x now events) (sym k) (limit_ends form o tried first old factor mode now events u at))) (omega arith) g l

  -- where the state is as before
  pub same_follows : (new : State) (behind : Option Product) (turned : Turned) → new ≡ old → Follows old behind (now + 1) turned → Follows new behind (now + 1) turned
  same_follows new behind turned e h = subst (λ (s : State). Follows s behind (now + 1) turned) (sym e) h

  -- a major that isn't kept was to be told, and the state is as before
  told_follows : (event : Event) (next turned : Turned) (behind : Option Product) → IsReached form o tried first old (events ++ event ∷ [])
      → (GoesOn stood stands (event ∷ []) → m ≡ n → Follows old behind (now + 1) next) → FollowsTold event next stood stands stopped n m turned → Follows old behind (now + 1) turned
  told_follows event next turned behind r follows (inl (e, g, k)) = subst (Follows old behind (now + 1)) (sym e) (follows g k)
  told_follows event next turned behind r follows (inr (fault, e, t)) = subst (Follows old behind (now + 1)) (sym e) (go fault t)
    where
      go : (fault : Fault TellFailed) → Tells {A = Turned} stood stands stopped n m event (Err fault) → Follows old behind (now + 1) (turns.Ends (Err fault))
      go (faults.Named failed) t = (([], event, r, t.0, t.1), tt)
      go faults.OutOfMemory t = short_follows old behind (now + 1) refl t.0 t.1

  pub stuck_follows : (event : Event) (place : ℕ) (side : Side) (rho : List Fraction) (behind : Option Product) (turned : Turned) → IsStuck form o (now + 1) mode (walk_state old u.history) event place side rho
      → FollowsTold event (turns.Ends (Ok (ends.NoEntering place side rho))) stood stands stopped n m turned → Follows old behind (now + 1) turned
  stuck_follows event place side rho behind turned k =
      let w = stuck_ends form o tried first old factor mode now events event place side rho behind u k in
      told_follows event (turns.Ends (Ok (ends.NoEntering place side rho))) turned behind
      (reached_end form o tried first old behind (ends.NoEntering place side rho) (now + 1) (events ++ event ∷ []) w)
      (λ g e. ((event ∷ [], w, g, e), omega arith))

  pub kept_follows : (event : Event) (moved new : State) (before behind : Option Product) (turned : Turned) → IsKept form o (now + 1) mode (walk_state old u.history) moved before event
      → FollowsKept event old moved new before behind stood stands stopped n m turned → Follows new behind (now + 1) turned
  kept_follows event moved new before behind (turns.GoesOn next) k h =
      let goes = kept_goes form o tried first old factor mode now events moved before event u k in (
        (
          event ∷ [],
          subst (λ (x : Mode). IsUnderway form o tried first new behind x (now + 1) (events ++ event ∷ [])) (sym h.0)
              (subst (λ (s : State). IsUnderway form o tried first s behind modes.Full (now + 1) (events ++ event ∷ [])) (sym h.1)
              (subst (λ (x : Option Product). IsUnderway form o tried first moved x modes.Full (now + 1) (events ++ event ∷ [])) (sym h.2) goes)),
          h.3,
          h.4,
        ),
        refl,
        subst (λ (x : Mode). majors_left o.limit new x < majors_left o.limit old mode) (sym h.0)
            (subst (λ (s : State). majors_left o.limit s modes.Full < majors_left o.limit old mode) (sym h.1) (fewer_behind o.limit old moved mode k.counted k.ready.within)),
      )
  kept_follows event moved new before behind (turns.Ends (Ok end)) k h = absurd h
  kept_follows event moved new before behind (turns.Ends (Err (faults.Named failed))) k h =
      let goes = kept_goes form o tried first old factor mode now events moved before event u k in (
        (
          [],
          event,
          subst (λ (s : State). IsReached form o tried first s (events ++ event ∷ [])) (sym h.0) (reached_on form o tried first moved before modes.Full (now + 1) (events ++ event ∷ []) some goes),
          h.2,
          h.3,
        ),
        tt,
      )
  kept_follows event moved new before behind (turns.Ends (Err faults.OutOfMemory)) k h = short_follows new behind (now + 1) h.0 h.2 h.3

-- a refused one, by its mode
pub refused_follows : (form : Form) (o : Options) (tried : ℕ) (first : method.State) (old : State) (factor : Option Product) (mode : Mode) (now : ℕ) (events : List Event) (some : 1 ≤ o.batch)
    (u : IsUnderway form o tried first old factor mode now events) (stood stands stopped : List Event → Type 0) (n m : ℕ) (place : Place) (behind : Option Product) (turned : Turned)
    → IsRefused form o (now + 1) mode (walk_state old u.history) place
    → (mode ≡ modes.Full → FollowsTold (told.Rollback (now + 1) place) (turns.GoesOn modes.Single) stood stands stopped n m turned)
    → (mode ≡ modes.Single → (turned ≡ turns.Ends (Ok (ends.Overflow place))) × GoesOn stood stands [] × (m ≡ n))
    → FollowsTurn form o tried first events old mode now old behind (now + 1) stood stands stopped n m turned
refused_follows form o tried first old factor modes.Full now events some u stood stands stopped n m place behind turned r full single =
    let event : Event = told.Rollback (now + 1) place in
    let goes = rolled_back form o tried first old factor now events place behind u r in
    told_follows form o tried first old factor modes.Full now events some u stood stands stopped n m event (turns.GoesOn modes.Single) turned behind
    (reached_on form o tried first old behind modes.Single (now + 1) (events ++ event ∷ []) some goes)
    (λ g e. ((event ∷ [], goes, g, e), refl, fewer_in_single o.limit old)) (full refl)
refused_follows form o tried first old factor modes.Single now events some u stood stands stopped n m place behind turned r full single =
    let s = single refl in
    subst (FollowsTurn form o tried first events old modes.Single now old behind (now + 1) stood stands stopped n m) (sym s.0)
    (quiet_follows form o tried first old factor modes.Single now events some u stood stands stopped n m (ends.Overflow place) old behind (now + 1)
    (overflow_ends form o tried first old factor now events place behind u r) (omega arith) s.1 s.2)

-- ---- turns in a row
goes_further : (stood between stands : List Event → Type 0) (before more : List Event) → GoesOn stood between before → GoesOn between stands more → GoesOn stood stands (before ++ more)
goes_further stood between stands before more h k = λ xs s. subst stands (append_assoc xs before more) (k (xs ++ before) (h xs s))

pub ends_further : (form : Form) (o : Options) (tried : ℕ) (first : method.State) (before : List Event) (state : State) (factor : Option Product) (now : ℕ) (stood between stands stopped : List Event → Type 0) (n k m : ℕ) (outcome : Result WalkEnd (Fault TellFailed))
    → GoesOn stood between before → k ≡ n → EndsSo form o tried first before state factor now between stands stopped k m outcome → EndsSo form o tried first [] state factor now stood stands stopped n m outcome
ends_further form o tried first before state factor now stood between stands stopped n k m (Ok end) g e h =
    (before ++ h.0, h.1, goes_further stood between stands before h.0 g h.2, h.3 ∙ e)
ends_further form o tried first before state factor now stood between stands stopped n k m (Err (faults.Named failed)) g e h = (
  before ++ h.0,
  h.1,
  subst (IsReached form o tried first state) (sym (append_assoc before h.0 (h.1 ∷ []))) h.2,
  subst (GoesOn stood stopped) (sym (append_assoc before h.0 (h.1 ∷ []))) (goes_further stood between stopped before (h.0 ++ h.1 ∷ []) g h.3),
  subst (λ x. x < m) e h.4,
)
ends_further form o tried first before state factor now stood between stands stopped n k m (Err faults.OutOfMemory) g e h =
    (before ++ h.0, h.1, goes_further stood between stands before h.0 g h.2, h.3 ∙ e)

-- what holds between two turns
abbrev pub IsTelling : Form → Options → ℕ → method.State → State → Option Product → Mode → ℕ → (List Event → Type 0) → (List Event → Type 0) → ℕ → ℕ → Type 0
IsTelling form o tried first state factor mode now stood stands n m =
    (more : List Event) × IsUnderway form o tried first state factor mode now more × GoesOn stood stands more × (m ≡ n)

pub telling_begins : (form : Form) (o : Options) (tried : ℕ) (first : State) (factor : Option Product) (h : Option History) (stood : List Event → Type 0) (n : ℕ) → IsReady form o.limit first → HasFactor (form_of form) h (basis_of first) factor
    → IsTelling form o tried (walk_state first h) first factor modes.Full tried stood stood n n
telling_begins form o tried first factor h stood n r k = ([], begins form o tried first factor h r k, stands_on stood, refl)

pub telling_further : (form : Form) (o : Options) (tried : ℕ) (first : method.State) (before : List Event) (state : State) (factor : Option Product) (mode : Mode) (now : ℕ) (stood between stands : List Event → Type 0) (n k m : ℕ)
    → GoesOn stood between before → k ≡ n → ((more : List Event) × IsUnderway form o tried first state factor mode now (before ++ more) × GoesOn between stands more × (m ≡ k))
    → IsTelling form o tried first state factor mode now stood stands n m
telling_further form o tried first before state factor mode now stood between stands n k m g e h = (before ++ h.0, h.1, goes_further stood between stands before h.0 g h.2, h.3 ∙ e)

pub few_so : (outcome : Result WalkEnd (Fault TellFailed)) (t k n : ℕ) → IfOk outcome (λ end. t ≤ k) → k ≤ n → IfOk outcome (λ end. t ≤ n)
few_so (Ok end) t k n h l = omega arith
few_so (Err fault) t k n h l = tt

-- ---- counts
pub counted_none : (tried each steps : ℕ) → AreCounted tried tried each steps steps
counted_none tried each steps = record { majors = 0; tried_are = omega arith; steps_are = omega arith }

pub counted_still : (tried each steps steps_now : ℕ) → steps_now ≤ steps + 0 → AreCounted tried tried each steps steps_now
counted_still tried each steps steps_now l = record { majors = 0; tried_are = omega arith; steps_are = omega (arith, l) }

pub counted_one : (tried tried_now each steps steps_now : ℕ) → tried_now ≡ tried + 1 → steps_now ≤ steps + each → AreCounted tried tried_now each steps steps_now
counted_one tried tried_now each steps steps_now e l = record { majors = 1; tried_are = e; steps_are = omega arith }

pub counted_further : (tried between now each steps steps_between steps_now : ℕ) → AreCounted tried between each steps steps_between → AreCounted between now each steps_between steps_now → AreCounted tried now each steps steps_now
counted_further tried between now each steps steps_between steps_now a b =
    let t : between ≡ tried + a.majors = a.tried_are in
    let v : now ≡ between + b.majors = b.tried_are in
    let l : steps_between ≤ steps + a.majors * each = a.steps_are in
    let k : steps_now ≤ steps_between + b.majors * each = b.steps_are in
    record { majors = a.majors + b.majors; tried_are = omega arith; steps_are = omega arith }
