-- Whatever a stage has told so far, some run of the form begins with it.
use Rattle.std.proofs.Common.{◌≡◌, ℕ, ◌+◌, ◌≤◌, ⊎_elim, List, [], ◌∷◌, ◌++◌, length, Option, None, Some, refl, sym, ap, ◌∙◌, append_assoc, append-nil, arith}
use Rattle.pami_frac.specs.declared.arithmetic.Refused.{Refused}
use Rattle.pami_theory.specs.Form.{Form}
use Rattle.pami_theory.specs.Basis.{Basis, IsBasis}
use Rattle.pami_theory.specs.Fresh.{Fresh, IsFresh, IsDualFeasible}
use Rattle.pami_theory.specs.Start.{starting_basis}
use Rattle.pami_theory.specs.Boxes.{boxes_of, switched_basis, CanBeDualFeasible}
use Rattle.pami_theory.proofs.Starts.{start_is_basis}
use Rattle.pami_theory.proofs.Solved.{has_fresh, fresh_regular, start_regular}
use Rattle.pami_theory.proofs.Switched.{switch_is_basis, switch_regular}
use Rattle.pami_theory.proofs.Decided.{can_or_not}
use Rattle.pami_method.specs.declared.words.Mode.TheVariants.{Full}
use Rattle.pami_method.specs.declared.words.Options.{Options}
use Rattle.pami_method.specs.Walk as method
use Rattle.pami_method.specs.Walk.{State, Major, WalkEnd}
use Rattle.pami_method.specs.Phases as phases
use Rattle.pami_method.specs.Phases.{start_refused, starting_state, switch_refused, switched_state, IsAnswer, IsPhaseOne, IsSwitch, in_phase_two, refused_boxes, in_phase_one, dual_infeasible, refused_switch, in_both}
use Rattle.pami_method.proofs.Counts.{EndsWithin, walk_within}
use Rattle.pami_method.proofs.Sound.{EndHolds, AnyBasis, any_walk_holds}
use Rattle.pami_method.proofs.Answers.{phase_one_enters, switched_start}
use Rattle.pami_method.proofs.WalkExists.{IsReady, has_walk}
use Rattle.pami_method.proofs.RunExists.{has_run}
use Rattle.pami_log.specs.declared.event.Event.{Event}
use Rattle.pami_log.specs.declared.event.Event.TheVariants as told
use Rattle.pami_log.specs.Events.{events_of}
use Rattle.pami_major.specs.Walks.{BeginsWalk}
use Rattle.pami_phase.specs.Runs.{BeginsRun, Starts, StartsInBoxes, LeadsOn, boxes_events, EndsInBoxes}
use Rattle.pami_phase.proofs.Further.{begins_front}

pub begins_any : (f : Form) (o : Options) → 1 ≤ o.batch → BeginsRun f o []
begins_any f o some =
    let r = has_run f o some in
    record { answer = r.1; later = _; run = record { record_of = r.0; run = r.2; whole = refl } }

-- ---- where a walk leads on
pub end_answer : (f : Form) (end : WalkEnd) → EndHolds f AnyBasis end → (a : phases.Answer) × IsAnswer f end a
end_answer f (method.Optimal st) h = (phases.Optimal st h.2.0, (h.2.0, h.2.1, refl))
end_answer f (method.Limit st) h = (phases.Limit st, refl)
end_answer f (method.NoEntering p side row) h = (phases.Infeasible (phases.ray side row), refl)
end_answer f (method.Overflow r) h = (phases.Overflow r, refl)

-- the first events of such a walk
pub walk_begins : (f : Form) (o : Options) (before : List Event) (tried : ℕ) (first : State) (events : List Event) → LeadsOn f o before tried first → IsBasis f first.basis → BeginsWalk f o tried first events → BeginsRun f o (before ++ events)
walk_begins f o before tried first events leads is b =
    let a = end_answer f b.end (any_walk_holds f o (tried + 1) Full first b.majors b.end is b.walk) in
    let c = (leads b.majors b.end a.0 b.walk a.1).0 in
    record {
      answer = a.0;
      later = b.later;
      run = record { record_of = c.record_of; run = c.run; whole = c.whole ∙ ap (λ es. before ++ es) b.whole ∙ sym (append_assoc before events b.later) };
    }

pub leads_begins : (f : Form) (o : Options) (before : List Event) (tried : ℕ) (first : State) → 1 ≤ o.batch → LeadsOn f o before tried first → IsReady f o first → BeginsRun f o before
leads_begins f o before tried first some leads r =
    let w = has_walk f o (tried + 1) Full first some r in
    begins_front f o before []
    (walk_begins f o before tried first [] leads r.basis (record { majors = w.0; end = w.1; walk = w.2; later = events_of f o first w.0; whole = refl }))

-- ---- phase two alone
pub start_leads : (f : Form) (o : Options) → Starts f → IsDualFeasible f (starting_basis f) → LeadsOn f o (told.Phase 2 ∷ []) 0 (starting_state f)
start_leads f o s dual = λ majors end a w i.
    (record { record_of = _; run = in_phase_two s.fresh majors end a s.fresh_is s.fits dual w i; whole = refl }, refl)

pub start_begins : (f : Form) (o : Options) → 1 ≤ o.batch → Starts f → IsDualFeasible f (starting_basis f) → BeginsRun f o (told.Phase 2 ∷ [])
start_begins f o some s dual =
    leads_begins f o (told.Phase 2 ∷ []) 0 (starting_state f) some (start_leads f o s dual) (record { basis = start_is_basis f; fresh = s.fresh; solved = s.fresh_is; within = omega arith })

-- ---- behind the switch
-- the walk from the switched state is that of phase two
pub switch_leads : (f : Form) (o : Options) (majors : List Major) (st : State) (b : Basis) (t : Fresh) → EndsInBoxes f o majors st → IsSwitch f st b t → switch_refused f b t ≡ None
    → LeadsOn f o (boxes_events f o majors ++ told.Phase 2 ∷ []) (length majors) (switched_state f b st.count)
switch_leads f o majors st b t ended w e = λ later end a walk i.
    let s = ended.starts.starts in (
      record {
        record_of = _;
        run = in_both s.fresh majors st b t later end a s.fresh_is s.fits ended.starts.not_feasible ended.phase w e walk i;
        whole = sym (append_assoc (boxes_events f o majors) (told.Phase 2 ∷ []) (events_of f o (switched_state f b st.count) later));
      },
      refl,
    )

switch_begins_by : (f : Form) (o : Options) (majors : List Major) (st : State) (b : Basis) (t : Fresh) (x : Option Refused) → 1 ≤ o.batch → EndsInBoxes f o majors st → IsSwitch f st b t → st.count ≤ o.limit → switch_refused f b t ≡ x
    → BeginsRun f o (boxes_events f o majors ++ told.Phase 2 ∷ [])
switch_begins_by f o majors st b t (Some refused) some ended w within e =
    let s = ended.starts.starts in
    record {
      answer = _;
      later = [];
      run = record {
        record_of = _;
        run = refused_switch s.fresh majors st b t refused s.fresh_is s.fits ended.starts.not_feasible ended.phase w e;
        whole = sym (append-nil (boxes_events f o majors ++ told.Phase 2 ∷ []));
      };
    }
switch_begins_by f o majors st b t None some ended w within e =
    let start = switched_start f o majors st b t ended.phase w in
    leads_begins f o (boxes_events f o majors ++ told.Phase 2 ∷ []) (length majors) (switched_state f b st.count) some
    (switch_leads f o majors st b t ended w e) (record { basis = start.0; fresh = t; solved = w.fresh; within = within })

pub switch_begins : (f : Form) (o : Options) (majors : List Major) (st : State) (b : Basis) (t : Fresh) → 1 ≤ o.batch → EndsInBoxes f o majors st → IsSwitch f st b t → st.count ≤ o.limit
    → BeginsRun f o (boxes_events f o majors ++ told.Phase 2 ∷ [])
switch_begins f o majors st b t some ended w within = switch_begins_by f o majors st b t (switch_refused f b t) some ended w within refl

-- ---- phase one
-- the basis to switch to, with what is solved there
pub switch_of : (f : Form) (o : Options) (majors : List Major) (st : State) (u : Fresh) → EndsInBoxes f o majors st → IsBasis (boxes_of f) st.basis → IsFresh (boxes_of f) st.basis u → CanBeDualFeasible f st.basis
    → (t : Fresh) × IsSwitch f st (switched_basis f st.basis u.reduced) t
switch_of f o majors st u ended is solved can =
    let b = switched_basis f st.basis u.reduced in
    let t = has_fresh f b (switch_is_basis f st.basis u.reduced is) (switch_regular f st.basis u.reduced (fresh_regular (boxes_of f) st.basis u solved)) in
    (t.0, record { boxed = u; boxed_is = solved; feasible = can; basis = refl; fresh = t.1 })

phase_one_begins_by : (f : Form) (o : Options) (majors : List Major) (end : WalkEnd) → 1 ≤ o.batch → StartsInBoxes f → IsPhaseOne f o majors end → EndHolds (boxes_of f) AnyBasis end → EndsWithin o.limit end → BeginsRun f o (boxes_events f o majors)
phase_one_begins_by f o majors (method.Optimal st) some h one holds within =
    let u = holds.2.0 in
    let solved = holds.2.1 in
    let s = h.starts in
    let ended : EndsInBoxes f o majors st = record { starts = h; phase = one } in
    ⊎_elim
    (λ (can : CanBeDualFeasible f st.basis).
    let w = switch_of f o majors st u ended holds.0 solved can in
    begins_front f o (boxes_events f o majors) (told.Phase 2 ∷ []) (switch_begins f o majors st (switched_basis f st.basis u.reduced) w.0 some ended w.1 within))
    (λ (never : ¬ CanBeDualFeasible f st.basis).
    record {
      answer = _;
      later = [];
      run = record { record_of = _; run = dual_infeasible s.fresh u majors st s.fresh_is s.fits h.not_feasible one never solved; whole = refl };
    })
    (can_or_not f st.basis u holds.0 solved)
phase_one_begins_by f o majors (method.Limit st) some h one holds within =
    let s = h.starts in
    record { answer = _; later = []; run = record { record_of = _; run = in_phase_one s.fresh majors (method.Limit st) (phases.Limit st) s.fresh_is s.fits h.not_feasible one refl; whole = refl } }
phase_one_begins_by f o majors (method.NoEntering p side row) some h one holds within = absurd (phase_one_enters f o majors p side row one)
phase_one_begins_by f o majors (method.Overflow r) some h one holds within =
    let s = h.starts in
    record { answer = _; later = []; run = record { record_of = _; run = in_phase_one s.fresh majors (method.Overflow r) (phases.Overflow r) s.fresh_is s.fits h.not_feasible one refl; whole = refl } }

pub phase_one_begins : (f : Form) (o : Options) (majors : List Major) (end : WalkEnd) → 1 ≤ o.batch → StartsInBoxes f → IsPhaseOne f o majors end → BeginsRun f o (boxes_events f o majors)
phase_one_begins f o majors end some h one =
    let g = boxes_of f in
    phase_one_begins_by f o majors end some h one (any_walk_holds g o 1 Full (starting_state g) majors end (start_is_basis g) one.walk)
    (walk_within g o 1 Full (starting_state g) majors end (omega arith) one.walk).1

boxes_begin_by : (f : Form) (o : Options) (t : Fresh) (x : Option Refused) → 1 ≤ o.batch → StartsInBoxes f → IsFresh (boxes_of f) (starting_basis (boxes_of f)) t → start_refused (boxes_of f) t ≡ x → BeginsRun f o (told.Phase 1 ∷ [])
boxes_begin_by f o t (Some refused) some h solved e =
    let s = h.starts in
    record { answer = _; later = []; run = record { record_of = _; run = refused_boxes s.fresh t refused s.fresh_is s.fits h.not_feasible solved e; whole = refl } }
boxes_begin_by f o t None some h solved e =
    let g = boxes_of f in
    let w = has_walk g o 1 Full (starting_state g) some (record { basis = start_is_basis g; fresh = t; solved = solved; within = omega arith }) in
    begins_front f o (told.Phase 1 ∷ []) (events_of g o (starting_state g) w.0)
    (phase_one_begins f o w.0 w.1 some h (record { fresh = t; fresh_is = solved; fits = e; walk = w.2 }))

pub boxes_begin : (f : Form) (o : Options) → 1 ≤ o.batch → StartsInBoxes f → BeginsRun f o (told.Phase 1 ∷ [])
boxes_begin f o some h =
    let g = boxes_of f in
    let t = has_fresh g (starting_basis g) (start_is_basis g) (start_regular g) in
    boxes_begin_by f o t.0 (start_refused g t.0) some h t.1 refl
