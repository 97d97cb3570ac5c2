-- What phase two answers, by the end of its walk.
use Rattle.std.proofs.Common.{◌≡◌, ℕ, List, [], ◌∷◌, ◌++◌, length, Ok, Err, Option, refl, sym, ap, ◌∙◌, subst, append-nil}
use Rattle.std.proofs.lemmas.List.{length-map}
use Rattle.pami_algebra.specs.Fraction.{Fraction}
use Rattle.pami_algebra.specs.Operations.{neg_f}
use Rattle.pami_frac.specs.declared.fault.Fault.{Fault}
use Rattle.pami_frac.specs.declared.fault.Fault.TheVariants as faults
use Rattle.pami_theory.specs.Form as theory
use Rattle.pami_theory.specs.declared.words.Side.{Side}
use Rattle.pami_theory.specs.declared.words.Side.TheVariants.{Above, Below}
use Rattle.pami_method.specs.declared.words.Options.{Options}
use Rattle.pami_method.specs.declared.words.Place.{Place}
use Rattle.pami_method.specs.Factor.{History}
use Rattle.pami_method.specs.Walk as method
use Rattle.pami_method.specs.Phases as phases
use Rattle.pami_method.specs.Phases.{IsAnswer}
use Rattle.pami_form.specs.declared.form.Form.{Form}
use Rattle.pami_state.specs.declared.state.State.{State}
use Rattle.pami_log.specs.declared.event.Event.{Event}
use Rattle.pami_log.specs.declared.teller.TellFailed.{TellFailed}
use Rattle.pami_log.specs.Tellers.{GoesOn}
use Rattle.pami_form.specs.FormOf.{form_of}
use Rattle.pami_major.specs.Ready.{IsReady}
use Rattle.pami_major.specs.declared.walk.WalkEnd.{WalkEnd}
use Rattle.pami_major.specs.declared.walk.WalkEnd.TheVariants as ends
use Rattle.pami_factor.specs.Value.{Product}
use Rattle.pami_major.specs.EndsMajor.{walk_state}
use Rattle.pami_major.specs.Walks.{IsTold, IsWalked, IsFactorOfEnd, EndsSo}
use Rattle.pami_phase.specs.declared.answer.Answer.{Answer}
use Rattle.pami_phase.specs.declared.answer.Answer.TheVariants as answers
use Rattle.pami_phase.specs.Runs.{IsAnswerOf, HasSolvedState, EndsRun, LeadsOn}
use Rattle.pami_phase.proofs.LastStates.{optimal_end, limit_end}
use Rattle.pami_phase.proofs.Beginnings.{walk_begins}

pub stuck_end : (last : State) (place : ℕ) (side : Side) (rho : List Fraction) (end : method.WalkEnd) → IsTold (ends.NoEntering place side rho) last end → end ≡ method.NoEntering place side rho
stuck_end last place side rho (method.NoEntering p s row) h =
    ap (λ x. method.NoEntering x s row) h.0 ∙ ap (λ x. method.NoEntering place x row) h.1 ∙ ap (method.NoEntering place side) h.2
stuck_end last place side rho (method.Optimal st) h = absurd h
stuck_end last place side rho (method.Limit st) h = absurd h
stuck_end last place side rho (method.Overflow refused) h = absurd h

pub overflow_end : (last : State) (place : Place) (end : method.WalkEnd) → IsTold (ends.Overflow place) last end → end ≡ method.Overflow place
overflow_end last place (method.Overflow refused) h = ap method.Overflow (sym h)
overflow_end last place (method.Optimal st) h = absurd h
overflow_end last place (method.Limit st) h = absurd h
overflow_end last place (method.NoEntering p s row) h = absurd h

ray_length : (side : Side) (row : List Fraction) → length (phases.ray side row) ≡ length row
ray_length Above row = refl
ray_length Below row = length-map row neg_f

module _ (form : Form) (o : Options) (tried : ℕ) (first last : State) (history : Option History) (factor : Option Product) (now : ℕ) (stood stands stopped : List Event → Type 0) (n m : ℕ) (before : List Event)
    (start : IsReady form o.limit first) (leads : LeadsOn (form_of form) o before tried (walk_state first history)) where
  -- the rest of a run is this walk, with the answer of its end
  goes : (end : method.WalkEnd) (answer : Answer) (a : phases.Answer) (told : WalkEnd) (more : List Event) → (w : IsWalked (form_of form) o tried (walk_state first history) told last now more) → w.end ≡ end
      → IsAnswer (form_of form) end a → IsAnswerOf (form_of form) answer a → HasSolvedState (form_of form) answer → GoesOn stood stands more → m ≡ n
      → EndsRun (form_of form) o before stood stands stopped n m (Ok answer)
  goes end answer a told more w e i is solved g l =
      let c = leads w.majors w.end a w.walk (subst (λ (x : method.WalkEnd). IsAnswer (form_of form) x a) (sym e) i) in (
        more,
        a,
        record { record_of = c.0.record_of; run = c.0.run; whole = c.0.whole ∙ ap (λ es. before ++ es) (sym w.told_events) },
        record { is = is; state = subst (λ (h : theory.Form). HasSolvedState h answer) (sym c.1) solved },
        g,
        l,
      )

  pub optimal_arm : EndsSo form o tried (walk_state first history) [] last factor now stood stands stopped n m (Ok ends.Optimal) → EndsRun (form_of form) o before stood stands stopped n m (Ok (answers.Optimal last factor))
  optimal_arm h =
      let w = h.1.walked in
      let r = h.1.ready in
      let t = optimal_end (form_of form) o tried (walk_state first history) last now h.0 w in
      let st = walk_state last t.0 in
      goes (method.Optimal st) (answers.Optimal last factor) (phases.Optimal st r.solved.fresh) ends.Optimal h.0 w t.1 (r.solved.fresh, r.solved.solved, refl) (
        record { same = refl; counted = refl; weights = refl; basis = r.basis; solved = r.solved; fresh = refl },
        subst (λ (x : method.WalkEnd). IsFactorOfEnd (form_of form) x last factor) t.1 h.1.factor_is,
      ) (record { basis = r.basis; solved = r.solved }) h.2 h.3

  pub limit_arm : EndsSo form o tried (walk_state first history) [] last factor now stood stands stopped n m (Ok ends.Limit) → EndsRun (form_of form) o before stood stands stopped n m (Ok (answers.Limit last))
  limit_arm h =
      let w = h.1.walked in
      let r = h.1.ready in
      let t = limit_end (form_of form) o tried (walk_state first history) last now h.0 w in
      let st = walk_state last t.0 in
      goes (method.Limit st) (answers.Limit last) (phases.Limit st) ends.Limit h.0 w t.1 refl (record { same = refl; counted = refl; weights = refl; stands = r.basis.variables_stand })
      (record { basis = r.basis; solved = r.solved }) h.2 h.3

  pub infeasible_arm : (place : ℕ) (side : Side) (rho y : List Fraction) → y ≡ phases.ray side rho → EndsSo form o tried (walk_state first history) [] last factor now stood stands stopped n m (Ok (ends.NoEntering place side rho))
      → EndsRun (form_of form) o before stood stands stopped n m (Ok (answers.Infeasible y))
  infeasible_arm place side rho y e h =
      let w = h.1.walked in
      goes (method.NoEntering place side rho) (answers.Infeasible y) (phases.Infeasible (phases.ray side rho)) (ends.NoEntering place side rho) h.0 w (stuck_end last place side rho w.end w.told_end) refl
      (e, ap length e ∙ ray_length side rho ∙ h.1.row) tt h.2 h.3

  pub overflow_arm : (place : Place) → EndsSo form o tried (walk_state first history) [] last factor now stood stands stopped n m (Ok (ends.Overflow place)) → EndsRun (form_of form) o before stood stands stopped n m (Ok (answers.Overflow place))
  overflow_arm place h =
      let w = h.1.walked in
      goes (method.Overflow place) (answers.Overflow place) (phases.Overflow place) (ends.Overflow place) h.0 w (overflow_end last place w.end w.told_end) refl refl tt h.2 h.3

  -- memory ran out behind the walk
  pub short_arm : (end : WalkEnd) → EndsSo form o tried (walk_state first history) [] last factor now stood stands stopped n m (Ok end) → EndsRun (form_of form) o before stood stands stopped n m (Err faults.OutOfMemory)
  short_arm end h =
      let w = h.1.walked in (
        h.0,
        walk_begins (form_of form) o before tried (walk_state first history) h.0 leads start.basis
            (record { majors = w.majors; end = w.end; walk = w.walk; later = []; whole = sym w.told_events ∙ sym (append-nil h.0) }),
        h.2,
        h.3,
      )

  pub fault_arm : (fault : Fault TellFailed) → EndsSo form o tried (walk_state first history) [] last factor now stood stands stopped n m (Err fault) → EndsRun (form_of form) o before stood stands stopped n m (Err fault)
  fault_arm (faults.Named failed) h = (h.0, h.1, walk_begins (form_of form) o before tried (walk_state first history) (h.0 ++ h.1 ∷ []) leads start.basis h.2.begins, h.3, h.4)
  fault_arm faults.OutOfMemory h = (h.0, walk_begins (form_of form) o before tried (walk_state first history) h.0 leads start.basis h.1.begins, h.2, h.3)
