-- A run that ends optimal ends at a dual feasible basis where no place is infeasible.
use Rattle.std.proofs.Common.{◌+◌, List, length, sym, subst}
use Rattle.pami_linear.specs.Lists.{get}
use Rattle.pami_theory.specs.Form.{Form, limits}
use Rattle.pami_theory.specs.Basis.{head_at, IsBasis}
use Rattle.pami_theory.specs.Fresh.{Fresh, IsFresh, IsDualFeasible, HasInfeasible, value_at_place}
use Rattle.pami_theory.proofs.Starts.{start_is_basis}
use Rattle.pami_theory.proofs.Violations.{violation_none}
use Rattle.pami_method.specs.declared.words.Mode.TheVariants.{Full}
use Rattle.pami_method.specs.declared.words.Options.{Options}
use Rattle.pami_method.specs.Walk.{State, WalkEnd, Optimal as WalkOptimal, Limit as WalkLimit, NoEntering, Overflow as WalkOverflow}
use Rattle.pami_method.specs.Phases.{starting_state, switched_state, Record, Answer, IsAnswer, IsEarlyAnswer, IsRun, refused_start, in_phase_two, refused_boxes, in_phase_one, dual_infeasible, refused_switch, in_both}
use Rattle.pami_method.proofs.Answers.{switched_start}
use Rattle.pami_method.proofs.Sound.{EndHolds, NoneInfeasible, feasible_walk_holds, none_violated}
use Rattle.pami_log.specs.declared.event.Event.{Event}
use Rattle.pami_phase.specs.declared.answer.Answer.{Answer as Solved}
use Rattle.pami_cli.specs.Solved.{EndsBest, IsReadable, IsTold}

none_infeasible : (f : Form) (st : State) (s : Fresh) → IsBasis f st.basis → NoneInfeasible f st → IsFresh f st.basis s → ¬ HasInfeasible f st.basis (get s.values)
none_infeasible f st s b none k =
    λ h. (violation_none (limits f (head_at st.basis h.0)) (value_at_place st.basis s h.0)).0 (none_violated f st s b none k h.0 h.1) h.2

best_end : (f : Form) (end : WalkEnd) (a : Answer) → EndHolds f (IsDualFeasible f) end → IsAnswer f end a → EndsBest f a
best_end f (WalkOptimal st) a h k = subst (EndsBest f) (sym k.2) (h.1, none_infeasible f st k.0 h.0 h.2 k.1)
best_end f (WalkLimit st) a h k = subst (EndsBest f) (sym k) tt
best_end f (NoEntering p side row) a h k = subst (EndsBest f) (sym k) tt
best_end f (WalkOverflow r) a h k = subst (EndsBest f) (sym k) tt

early_best : (f : Form) (end : WalkEnd) (a : Answer) → IsEarlyAnswer end a → EndsBest f a
early_best f (WalkOptimal st) a k = absurd k
early_best f (WalkLimit st) a k = subst (EndsBest f) (sym k) tt
early_best f (NoEntering p side row) a k = absurd k
early_best f (WalkOverflow r) a k = subst (EndsBest f) (sym k) tt

pub run_ends_best : (f : Form) (o : Options) (r : Record) (a : Answer) → IsRun f o r a → EndsBest f a
run_ends_best f o _ _ (refused_start s refused h e) = tt
run_ends_best f o _ a (in_phase_two s majors end _ h e d w i) = best_end f end a (feasible_walk_holds f o 1 Full (starting_state f) majors end (start_is_basis f) d w) i
run_ends_best f o _ _ (refused_boxes s t refused h e n k g) = tt
run_ends_best f o _ a (in_phase_one s majors end _ h e n one i) = early_best f end a i
run_ends_best f o _ _ (dual_infeasible s t majors st h e n one c k) = tt
run_ends_best f o _ _ (refused_switch s majors st b t refused h e n one w g) = tt
run_ends_best f o _ a (in_both s majors st b t later end _ h e n one w g walk i) =
    let start = switched_start f o majors st b t one w in
    best_end f end a (feasible_walk_holds f o (length majors + 1) Full (switched_state f b st.count) later end start.0 start.1 walk) i

-- so an answer that was told may be read
pub told_readable : (f : Form) (o : Options) (answer : Solved) (events : List Event) → IsTold f o answer events → IsReadable f answer
told_readable f o answer events t =
    record { given = t.given; is = t.is; best = run_ends_best f o t.run.record_of t.given t.run.run }
