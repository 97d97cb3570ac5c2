-- What phase one comes to, by the end of its walk in the boxes.
use Rattle.std.proofs.Common.{◌≡◌, ◌+◌, ◌≤◌, ℕ, List, [], ◌∷◌, ◌++◌, length, Option, None, Result, Ok, Err, refl, sym, ap, ◌∙◌, subst, append-nil, arith}
use Rattle.pami_algebra.specs.Fraction.{Fraction}
use Rattle.pami_frac.specs.declared.fault.Fault.{Fault}
use Rattle.pami_frac.specs.declared.fault.Fault.TheVariants as faults
use Rattle.pami_theory.specs.Form as theory
use Rattle.pami_theory.specs.Basis.{IsBasis}
use Rattle.pami_theory.specs.declared.words.Side.{Side}
use Rattle.pami_theory.specs.Boxes.{boxes_of}
use Rattle.pami_method.specs.declared.words.Mode.TheVariants.{Full}
use Rattle.pami_method.specs.declared.words.Options.{Options}
use Rattle.pami_method.specs.declared.words.Place.{Place}
use Rattle.pami_method.specs.Walk as method
use Rattle.pami_method.specs.Phases as phases
use Rattle.pami_method.specs.Phases.{IsPhaseOne, IsEarlyAnswer, starting_state, in_phase_one}
use Rattle.pami_method.proofs.Answers.{phase_one_enters}
use Rattle.pami_form.specs.declared.form.Form.{Form}
use Rattle.pami_state.specs.declared.state.State.{State}
use Rattle.pami_state.specs.State.{basis_of, IsSolvedAfresh}
use Rattle.pami_log.specs.declared.event.Event.{Event}
use Rattle.pami_log.specs.declared.event.Event.TheVariants as told
use Rattle.pami_log.specs.declared.teller.TellFailed.{TellFailed}
use Rattle.pami_log.specs.Tellers.{GoesOn}
use Rattle.pami_log.specs.Events.{events_of}
use Rattle.pami_form.specs.FormOf.{form_of}
use Rattle.pami_major.specs.declared.walk.WalkEnd.{WalkEnd}
use Rattle.pami_major.specs.declared.walk.WalkEnd.TheVariants as ends
use Rattle.pami_factor.specs.Value.{Product}
use Rattle.pami_major.specs.EndsMajor.{walk_state}
use Rattle.pami_major.specs.Walks.{IsWalked, BeginsWalk, EndsSo}
use Rattle.pami_phase.specs.declared.answer.Answer.{Answer}
use Rattle.pami_phase.specs.declared.answer.Answer.TheVariants as answers
use Rattle.pami_phase.specs.Starts.{IsStart}
use Rattle.pami_phase.specs.Runs.{IsAnswerOf, HasSolvedState, BeginsRun, EndsRun, StartsInBoxes, boxes_events, IsBoxesEnd}
use Rattle.pami_phase.proofs.Starting.{start_state, starts_of}
use Rattle.pami_phase.proofs.Further.{begins_front, told_further}
use Rattle.pami_phase.proofs.Beginnings.{phase_one_begins}
use Rattle.pami_phase.proofs.LastStates.{optimal_end, limit_end}
use Rattle.pami_phase.proofs.WalkAnswers.{stuck_end, overflow_end}

from_none : (k : ℕ) → 0 + k ≡ k
from_none k = omega arith

module _ (form boxes : Form) (o : Options) (first last : State) (factor : Option Product) (now : ℕ) (stood stands stopped : List Event → Type 0) (n m : ℕ)
    (e : form_of boxes ≡ boxes_of (form_of form)) (start : IsStart (boxes_of (form_of form)) first) where
  abbrev f : theory.Form
  f = form_of form

  -- the walk of the program's boxes is that of the boxes of its form
  phase_is : (majors : List method.Major) (end : method.WalkEnd) → method.IsWalk (form_of boxes) o (0 + 1) Full (walk_state first None) majors end → IsPhaseOne f o majors end
  phase_is majors end w =
      let s = starts_of (boxes_of f) first start in
      record {
        fresh = s.fresh;
        fresh_is = s.fresh_is;
        fits = s.fits;
        walk = subst (λ (g : theory.Form). method.IsWalk g o 1 Full (starting_state (boxes_of f)) majors end) e
            (subst (λ (st : method.State). method.IsWalk (form_of boxes) o 1 Full st majors end) (start_state (boxes_of f) first start) w);
      }

  events_are : (majors : List method.Major) → events_of (form_of boxes) o (walk_state first None) majors ≡ events_of (boxes_of f) o (starting_state (boxes_of f)) majors
  events_are majors =
      ap (λ (g : theory.Form). events_of g o (walk_state first None) majors) e
      ∙ ap (λ (st : method.State). events_of (boxes_of f) o st majors) (start_state (boxes_of f) first start)

  -- no variable can lack
  pub never_stuck : (place : ℕ) (side : Side) (rho : List Fraction) → EndsSo boxes o 0 (walk_state first None) [] last factor now stood stands stopped n m (Ok (ends.NoEntering place side rho)) → ⊥
  never_stuck place side rho h =
      let w = h.1.walked in
      phase_one_enters f o w.majors place side rho
      (phase_is w.majors (method.NoEntering place side rho)
      (subst (λ (x : method.WalkEnd). method.IsWalk (form_of boxes) o 1 Full (walk_state first None) w.majors x) (stuck_end last place side rho w.end w.told_end) w.walk))

  module _ (starts : StartsInBoxes f) where
    -- the run ends with phase one
    early : (end : method.WalkEnd) (answer : Answer) (a : phases.Answer) (told_end : WalkEnd) (more : List Event) → (w : IsWalked (form_of boxes) o 0 (walk_state first None) told_end last now more) → w.end ≡ end
        → IsEarlyAnswer end a → IsAnswerOf f answer a → HasSolvedState (boxes_of f) answer → GoesOn stood stands more → m ≡ n → EndsRun f o (told.Phase 1 ∷ []) stood stands stopped n m (Ok answer)
    early end answer a told_end more w k i is solved g l =
        let s = starts.starts in
        let one = phase_is w.majors end (subst (λ (x : method.WalkEnd). method.IsWalk (form_of boxes) o 1 Full (walk_state first None) w.majors x) k w.walk) in (
          more,
          a,
          record {
            record_of = _;
            run = in_phase_one s.fresh w.majors end a s.fresh_is s.fits starts.not_feasible one i;
            whole = append-nil (boxes_events f o w.majors) ∙ ap (λ es. told.Phase 1 ∷ es) (sym (events_are w.majors) ∙ sym w.told_events);
          },
          record { is = is; state = solved },
          g,
          l,
        )

    pub limit_early : EndsSo boxes o 0 (walk_state first None) [] last factor now stood stands stopped n m (Ok ends.Limit) → EndsRun f o (told.Phase 1 ∷ []) stood stands stopped n m (Ok (answers.Limit last))
    limit_early h =
        let w = h.1.walked in
        let r = h.1.ready in
        let t = limit_end (form_of boxes) o 0 (walk_state first None) last now h.0 w in
        let st = walk_state last t.0 in
        let basis : IsBasis (boxes_of f) (basis_of last) = subst (λ (g : theory.Form). IsBasis g (basis_of last)) e r.basis in
        early (method.Limit st) (answers.Limit last) (phases.Limit st) ends.Limit h.0 w t.1 refl
        (record { same = refl; counted = refl; weights = refl; stands = basis.variables_stand })
        (record { basis = basis; solved = subst (λ (g : theory.Form). IsSolvedAfresh g last) e r.solved }) h.2 h.3

    pub overflow_early : (place : Place) → EndsSo boxes o 0 (walk_state first None) [] last factor now stood stands stopped n m (Ok (ends.Overflow place)) → EndsRun f o (told.Phase 1 ∷ []) stood stands stopped n m (Ok (answers.Overflow place))
    overflow_early place h =
        let w = h.1.walked in
        early (method.Overflow place) (answers.Overflow place) (phases.Overflow place) (ends.Overflow place) h.0 w (overflow_end last place w.end w.told_end) refl refl tt h.2 h.3

    -- what was told of the walk
    begins_so : (events : List Event) → 1 ≤ o.batch → BeginsWalk (form_of boxes) o 0 (walk_state first None) events → BeginsRun f o (told.Phase 1 ∷ events)
    begins_so events some b =
        begins_front f o (told.Phase 1 ∷ events) b.later
        (subst (BeginsRun f o) (ap (λ es. told.Phase 1 ∷ es) (sym (events_are b.majors) ∙ b.whole)) (phase_one_begins f o b.majors b.end some starts (phase_is b.majors b.end b.walk)))

    fault_early : (fault : Fault TellFailed) → 1 ≤ o.batch → EndsSo boxes o 0 (walk_state first None) [] last factor now stood stands stopped n m (Err fault) → EndsRun f o (told.Phase 1 ∷ []) stood stands stopped n m (Err fault)
    fault_early (faults.Named failed) some h = (h.0, h.1, begins_so (h.0 ++ h.1 ∷ []) some h.2.begins, h.3, h.4)
    fault_early faults.OutOfMemory some h = (h.0, begins_so h.0 some h.1.begins, h.2, h.3)

    pub fault_exit : (r : Result Answer (Fault TellFailed)) (y fault : Fault TellFailed) → r ≡ Err y → y ≡ fault → 1 ≤ o.batch → EndsSo boxes o 0 (walk_state first None) [] last factor now stood stands stopped n m (Err fault)
        → EndsRun f o (told.Phase 1 ∷ []) stood stands stopped n m r
    fault_exit r y fault p q some h = subst (EndsRun f o (told.Phase 1 ∷ []) stood stands stopped n m) (sym (p ∙ ap Err q)) (fault_early fault some h)

    -- an optimal end, and what follows it
    pub optimal_on : (k : ℕ) (later : List Event → Type 0) (over : List Event → Type 0) (r : Result Answer (Fault TellFailed)) → EndsSo boxes o 0 (walk_state first None) [] last factor now stood stands stopped n m (Ok ends.Optimal)
        → ((majors : List method.Major) (st : method.State) → IsBoxesEnd f o majors st last now → EndsRun f o (boxes_events f o majors) stands later over m k r)
        → EndsRun f o (told.Phase 1 ∷ []) stood later over n k r
    optimal_on k later over r h next =
        let w = h.1.walked in
        let t = optimal_end (form_of boxes) o 0 (walk_state first None) last now h.0 w in
        let st = walk_state last t.0 in
        let one = phase_is w.majors (method.Optimal st) (subst (λ (x : method.WalkEnd). method.IsWalk (form_of boxes) o 1 Full (walk_state first None) w.majors x) t.1 w.walk) in
        told_further f o (told.Phase 1 ∷ []) h.0 stood stands later over n m k r h.2 h.3
        (subst (λ es. EndsRun f o (told.Phase 1 ∷ es) stands later over m k r) (sym (events_are w.majors) ∙ sym w.told_events)
        (next w.majors st
        (record { ended = record { starts = starts; phase = one }; same = refl; counted = refl; weights = refl; tried_is = w.counted ∙ from_none (length w.majors) })))
