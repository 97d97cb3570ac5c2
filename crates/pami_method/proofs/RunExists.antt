-- Each form has a run.
use Rattle.std.proofs.Common.{◌≡◌, ◌+◌, ◌≤◌, ⊎_elim, List, length, Option, None, Some, refl, arith}
use Rattle.pami_frac.specs.declared.arithmetic.Refused.{Refused}
use Rattle.pami_theory.specs.Form.{Form}
use Rattle.pami_theory.specs.Basis.{Basis}
use Rattle.pami_theory.specs.Fresh.{Fresh, IsFresh, IsDualFeasible}
use Rattle.pami_theory.specs.Start.{starting_basis}
use Rattle.pami_theory.specs.Boxes.{boxes_of, switched_basis, CanBeDualFeasible}
use Rattle.pami_theory.proofs.Starts.{start_is_basis}
use Rattle.pami_theory.proofs.Solved.{has_fresh, fresh_regular, start_regular}
use Rattle.pami_theory.proofs.Switched.{switch_is_basis, switch_regular}
use Rattle.pami_method.specs.declared.words.Mode.TheVariants.{Full}
use Rattle.pami_method.specs.declared.words.Options.{Options}
use Rattle.pami_method.specs.Walk.{State, Major, WalkEnd, Optimal as WalkOptimal, Limit as WalkLimit, NoEntering, Overflow as WalkOverflow}
use Rattle.pami_method.specs.Phases.{start_refused, starting_state, switch_refused, switched_state, Record, Answer, Optimal, Infeasible, Limit, Overflow, ray, IsAnswer, IsPhaseOne, IsSwitch, IsRun, refused_start, in_phase_two, refused_boxes, in_phase_one, dual_infeasible, refused_switch, in_both}
use Rattle.pami_theory.proofs.Decided.{feasible_or_not, can_or_not}
use Rattle.pami_method.proofs.Counts.{EndsWithin, walk_within}
use Rattle.pami_method.proofs.Sound.{EndHolds, AnyBasis, any_walk_holds}
use Rattle.pami_method.proofs.Answers.{phase_one_enters, switched_start}
use Rattle.pami_method.proofs.WalkExists.{IsReady, has_walk}

-- ---- runs
abbrev HasRun : Form → Options → Type 0
HasRun f o = (r : Record) × (a : Answer) × IsRun f o r a

start_ready : (f : Form) (o : Options) (s : Fresh) → IsFresh f (starting_basis f) s → IsReady f o (starting_state f)
start_ready f o s h = record { basis = start_is_basis f; fresh = s; solved = h; within = omega arith }

has_answer : (f : Form) (end : WalkEnd) → EndHolds f AnyBasis end → (a : Answer) × IsAnswer f end a
has_answer f (WalkOptimal st) h = (Optimal st h.2.0, (h.2.0, h.2.1, refl))
has_answer f (WalkLimit st) h = (Limit st, refl)
has_answer f (NoEntering p side row) h = (Infeasible (ray side row), refl)
has_answer f (WalkOverflow r) h = (Overflow r, refl)

-- phase two alone
run_on_form : (f : Form) (o : Options) (s : Fresh) → 1 ≤ o.batch → IsFresh f (starting_basis f) s → start_refused f s ≡ None → IsDualFeasible f (starting_basis f) → HasRun f o
run_on_form f o s some h e dual =
    let w = has_walk f o 1 Full (starting_state f) some (start_ready f o s h) in
    let a = has_answer f w.1 (any_walk_holds f o 1 Full (starting_state f) w.0 w.1 (start_is_basis f) w.2) in
    (_, a.0, in_phase_two s w.0 w.1 a.0 h e dual w.2 a.1)

-- a start that isn't dual feasible and whose values fit
record Begins (f : Form) (o : Options) (s : Fresh) : Type 0 where
  some : 1 ≤ o.batch
  fresh : IsFresh f (starting_basis f) s
  fits : start_refused f s ≡ None
  infeasible : ¬ IsDualFeasible f (starting_basis f)

-- behind the switch
switch_on : (f : Form) (o : Options) (s : Fresh) (majors : List Major) (st : State) (b : Basis) (t : Fresh) (x : Option Refused) → Begins f o s → IsPhaseOne f o majors (WalkOptimal st) → IsSwitch f st b t
    → switch_refused f b t ≡ x → st.count ≤ o.limit → HasRun f o
switch_on f o s majors st b t (Some refused) h one w e l = (_, _, refused_switch s majors st b t refused h.fresh h.fits h.infeasible one w e)
switch_on f o s majors st b t None h one w e l =
    let start = switched_start f o majors st b t one w in
    let walk = has_walk f o (length majors + 1) Full (switched_state f b st.count) h.some (record { basis = start.0; fresh = t; solved = w.fresh; within = l }) in
    let a = has_answer f walk.1 (any_walk_holds f o (length majors + 1) Full (switched_state f b st.count) walk.0 walk.1 start.0 walk.2) in
    (_, a.0, in_both s majors st b t walk.0 walk.1 a.0 h.fresh h.fits h.infeasible one w e walk.2 a.1)

-- an optimum of phase one
from_optimum : (f : Form) (o : Options) (s : Fresh) (majors : List Major) (st : State) → Begins f o s → IsPhaseOne f o majors (WalkOptimal st) → EndHolds (boxes_of f) AnyBasis (WalkOptimal st) → st.count ≤ o.limit → HasRun f o
from_optimum f o s majors st h one end l =
    let u = end.2.0 in
    let solved = end.2.1 in
    ⊎_elim
    (λ (can : CanBeDualFeasible f st.basis).
    let b = switched_basis f st.basis u.reduced in
    let t = has_fresh f b (switch_is_basis f st.basis u.reduced end.0) (switch_regular f st.basis u.reduced (fresh_regular (boxes_of f) st.basis u solved)) in
    switch_on f o s majors st b t.0 (switch_refused f b t.0) h one (record { boxed = u; boxed_is = solved; feasible = can; basis = refl; fresh = t.1 }) refl l)
    (λ (never : ¬ CanBeDualFeasible f st.basis). (_, _, dual_infeasible s u majors st h.fresh h.fits h.infeasible one never solved))
    (can_or_not f st.basis u end.0 solved)

from_end : (f : Form) (o : Options) (s : Fresh) (majors : List Major) (end : WalkEnd) → Begins f o s → IsPhaseOne f o majors end → EndHolds (boxes_of f) AnyBasis end → EndsWithin o.limit end → HasRun f o
from_end f o s majors (WalkOptimal st) h one e l = from_optimum f o s majors st h one e l
from_end f o s majors (WalkLimit st) h one e l = (_, _, in_phase_one s majors (WalkLimit st) (Limit st) h.fresh h.fits h.infeasible one refl)
from_end f o s majors (NoEntering p side row) h one e l = absurd (phase_one_enters f o majors p side row one)
from_end f o s majors (WalkOverflow r) h one e l = (_, _, in_phase_one s majors (WalkOverflow r) (Overflow r) h.fresh h.fits h.infeasible one refl)

run_in_boxes : (f : Form) (o : Options) (s t : Fresh) (x : Option Refused) → Begins f o s → IsFresh (boxes_of f) (starting_basis (boxes_of f)) t → start_refused (boxes_of f) t ≡ x → HasRun f o
run_in_boxes f o s t (Some refused) h k e = (_, _, refused_boxes s t refused h.fresh h.fits h.infeasible k e)
run_in_boxes f o s t None h k e =
    let w = has_walk (boxes_of f) o 1 Full (starting_state (boxes_of f)) h.some (start_ready (boxes_of f) o t k) in
    let holds = any_walk_holds (boxes_of f) o 1 Full (starting_state (boxes_of f)) w.0 w.1 (start_is_basis (boxes_of f)) w.2 in
    from_end f o s w.0 w.1 h (record { fresh = t; fresh_is = k; fits = e; walk = w.2 }) holds (walk_within (boxes_of f) o 1 Full (starting_state (boxes_of f)) w.0 w.1 (omega arith) w.2).1

from_start : (f : Form) (o : Options) (s : Fresh) (x : Option Refused) → 1 ≤ o.batch → IsFresh f (starting_basis f) s → start_refused f s ≡ x → HasRun f o
from_start f o s (Some refused) some h e = (_, _, refused_start s refused h e)
from_start f o s None some h e = ⊎_elim
    (λ (dual : IsDualFeasible f (starting_basis f)). run_on_form f o s some h e dual)
    (λ (n : ¬ IsDualFeasible f (starting_basis f)).
    let t = has_fresh (boxes_of f) (starting_basis (boxes_of f)) (start_is_basis (boxes_of f)) (start_regular (boxes_of f)) in
    run_in_boxes f o s t.0 (start_refused (boxes_of f) t.0) (record { some = some; fresh = h; fits = e; infeasible = n }) t.1 refl)
    (feasible_or_not f (starting_basis f) s h)

pub has_run : (f : Form) (o : Options) → 1 ≤ o.batch → (r : Record) × (a : Answer) × IsRun f o r a
has_run f o some =
    let s = has_fresh f (starting_basis f) (start_is_basis f) (start_regular f) in
    from_start f o s.0 (start_refused f s.0) some s.1 refl
