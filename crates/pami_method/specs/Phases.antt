-- A whole run on a form: the start, phase one in the boxes where the starting basis isn't dual feasible, the switch to the
-- form's own bounds, phase two.
use Rattle.std.specs.Prelude.{◌≡◌, ℕ, ◌+◌, List, [], ◌∷◌, length, map, replicate, Option, None, Some, Result, Ok}
use Rattle.std.specs.List.{filter, range_with_len}
use Rattle.pami_algebra.specs.Fraction.{Fraction}
use Rattle.pami_algebra.specs.Operations.{neg_f}
use Rattle.pami_frac.specs.declared.arithmetic.Refused.{Refused}
use Rattle.pami_linear.specs.Lists.{get}
use Rattle.pami_script.specs.Script.{then, each_member, sub_product}
use Rattle.pami_factoring.specs.Solve.{forward_script}
use Rattle.pami_theory.specs.Form.{Form, variables, coefficient}
use Rattle.pami_theory.specs.Basis.{Basis, stand_at}
use Rattle.pami_theory.specs.Fresh.{Fresh, IsFresh, IsDualFeasible}
use Rattle.pami_theory.specs.declared.words.Side.{Side}
use Rattle.pami_theory.specs.declared.words.Side.TheVariants.{Above, Below}
use Rattle.pami_theory.specs.Start.{starting_basis}
use Rattle.pami_theory.specs.Boxes.{boxes_of, CanBeDualFeasible, switched_basis}
use Rattle.pami_method.specs.Task.{refusal}
use Rattle.pami_method.specs.declared.words.Place.{Place}
use Rattle.pami_method.specs.declared.words.Spot.TheVariants.{Start, Switch}
use Rattle.pami_method.specs.Factor.{elimination, unfit, refusal_by}
use Rattle.pami_method.specs.Scripts.{start_script, zeros, is_nonbasic}
use Rattle.pami_method.specs.declared.words.Mode.TheVariants.{Full}
use Rattle.pami_method.specs.declared.words.Options.{Options}
use Rattle.pami_method.specs.Walk.{State, Major, WalkEnd, Optimal as WalkOptimal, Limit as WalkLimit, NoEntering, Overflow as WalkOverflow, IsWalk}

-- ---- the start

-- the first operation of the starting values that doesn't fit, where the starting basis has the fresh values s
abbrev pub start_refused : Form → Fresh → Option Refused
start_refused f s = refusal (start_script f (get s.values))

abbrev pub starting_state : Form → State
starting_state f = record { basis = starting_basis f; weights = replicate f.rows 1; count = 0; history = None }

-- ---- the switch

-- b := b - x_j a_j for each of these variables
abbrev pub nonbasic_script : Form → (ℕ → Fraction) → List ℕ → List Fraction → Result (List Fraction) Refused
nonbasic_script f x [] rows = Ok rows
nonbasic_script f x (v ∷ vs) rows = then (each_member (λ i t. sub_product t (x v) (coefficient f v i)) 0 rows) (λ next. nonbasic_script f x vs next)

abbrev pub nonbasic : Form → Basis → List ℕ
nonbasic f b = filter (λ v. is_nonbasic (stand_at b v)) (range_with_len 0 (variables f))

abbrev pub first_of : Option Refused → Option Refused → Option Refused
first_of (Some refused) later = Some refused
first_of None later = later

-- the first operation of the switch to the basis b, which has the fresh values s, that doesn't fit: a new elimination, and
-- the values solved with it
abbrev pub switch_refused : Form → Basis → Fresh → Option Refused
switch_refused f b s =
    first_of (unfit (elimination f b.head))
    (refusal_by (elimination f b.head) (λ steps. then (nonbasic_script f (get s.values) (nonbasic f b) (zeros f.rows)) (λ rows. forward_script steps [] rows)))

-- phase two begins with the elimination of the switch and with new weights; the count of pivots goes on
abbrev pub switched_state : Form → Basis → ℕ → State
switched_state f b count = record { basis = b; weights = replicate f.rows 1; count = count; history = Some (record { head = b.head; pivots = [] }) }

-- ---- the run

-- a phase that began: the form that it walks on, where it begins, and the majors that were tried
pub record Phase : Type 0 where
  pub form : Form
  pub start : State
  pub majors : List Major

-- what is recorded of a run: the phases that began
pub record Record : Type 0 where
  pub phase_one : Option Phase
  pub phase_two : Option Phase

abbrev pub in_boxes : Form → List Major → Option Phase
in_boxes f majors = Some (record { form = boxes_of f; start = starting_state (boxes_of f); majors = majors })

abbrev pub on_form : Form → State → List Major → Option Phase
on_form f start majors = Some (record { form = f; start = start; majors = majors })

pub data Answer : Type 0 where
  -- the last state and what is solved there
  Optimal : State → Fresh → Answer
  -- y by row
  Infeasible : (y : List Fraction) → Answer
  -- the values of phase one, by variable, with its last state
  DualInfeasible : State → Fresh → Answer
  Limit : State → Answer
  Overflow : Place → Answer

-- the ray of a row without an entering variable, by row
abbrev pub ray : Side → List Fraction → List Fraction
ray Above row = row
ray Below row = map neg_f row

-- the answer of phase two by the end of its walk
abbrev pub IsAnswer : Form → WalkEnd → Answer → Type 0
IsAnswer f (WalkOptimal st) answer = (s : Fresh) × IsFresh f st.basis s × (answer ≡ Optimal st s)
IsAnswer f (WalkLimit st) answer = answer ≡ Limit st
IsAnswer f (NoEntering place side row) answer = answer ≡ Infeasible (ray side row)
IsAnswer f (WalkOverflow refused) answer = answer ≡ Overflow refused

-- phase one ends the run only so; it never lacks an entering variable
abbrev pub IsEarlyAnswer : WalkEnd → Answer → Type 0
IsEarlyAnswer (WalkOptimal st) answer = ⊥
IsEarlyAnswer (WalkLimit st) answer = answer ≡ Limit st
IsEarlyAnswer (NoEntering place side row) answer = ⊥
IsEarlyAnswer (WalkOverflow refused) answer = answer ≡ Overflow refused

-- the walk in the boxes, whose starting values fit
pub record IsPhaseOne (f : Form) (o : Options) (majors : List Major) (end : WalkEnd) : Type 0 where
  pub fresh : Fresh
  pub fresh_is : IsFresh (boxes_of f) (starting_basis (boxes_of f)) fresh
  pub fits : start_refused (boxes_of f) fresh ≡ None
  pub walk : IsWalk (boxes_of f) o 1 Full (starting_state (boxes_of f)) majors end

-- the basis b, with the fresh values t, is where phase two begins behind the state st of phase one
pub record IsSwitch (f : Form) (st : State) (b : Basis) (t : Fresh) : Type 0 where
  pub boxed : Fresh
  pub boxed_is : IsFresh (boxes_of f) st.basis boxed
  pub feasible : CanBeDualFeasible f st.basis
  pub basis : b ≡ switched_basis f st.basis boxed.reduced
  pub fresh : IsFresh f b t

-- the record and the answer of a run; each case is decided by what is solved
pub data IsRun (f : Form) (o : Options) : Record → Answer → Type 0 where
  -- the starting values don't fit
  refused_start : (s : Fresh) (refused : Refused) →
      IsFresh f (starting_basis f) s → start_refused f s ≡ Some refused →
      IsRun f o (record { phase_one = None; phase_two = None }) (Overflow (record { task = Start; refused = refused }))
  -- the starting basis is dual feasible
  in_phase_two : (s : Fresh) (majors : List Major) (end : WalkEnd) (answer : Answer) →
      IsFresh f (starting_basis f) s → start_refused f s ≡ None → IsDualFeasible f (starting_basis f) →
      IsWalk f o 1 Full (starting_state f) majors end → IsAnswer f end answer →
      IsRun f o (record { phase_one = None; phase_two = on_form f (starting_state f) majors }) answer
  -- else phase one begins; its starting values don't fit
  refused_boxes : (s t : Fresh) (refused : Refused) →
      IsFresh f (starting_basis f) s → start_refused f s ≡ None → ¬ IsDualFeasible f (starting_basis f) →
      IsFresh (boxes_of f) (starting_basis (boxes_of f)) t → start_refused (boxes_of f) t ≡ Some refused →
      IsRun f o (record { phase_one = in_boxes f []; phase_two = None }) (Overflow (record { task = Start; refused = refused }))
  -- phase one meets the limit or an overflow
  in_phase_one : (s : Fresh) (majors : List Major) (end : WalkEnd) (answer : Answer) →
      IsFresh f (starting_basis f) s → start_refused f s ≡ None → ¬ IsDualFeasible f (starting_basis f) →
      IsPhaseOne f o majors end → IsEarlyAnswer end answer →
      IsRun f o (record { phase_one = in_boxes f majors; phase_two = None }) answer
  -- its last basis isn't dual feasible for the form's own bounds
  dual_infeasible : (s t : Fresh) (majors : List Major) (st : State) →
      IsFresh f (starting_basis f) s → start_refused f s ≡ None → ¬ IsDualFeasible f (starting_basis f) →
      IsPhaseOne f o majors (WalkOptimal st) → ¬ CanBeDualFeasible f st.basis → IsFresh (boxes_of f) st.basis t →
      IsRun f o (record { phase_one = in_boxes f majors; phase_two = None }) (DualInfeasible st t)
  -- the values behind the switch don't fit
  refused_switch : (s : Fresh) (majors : List Major) (st : State) (b : Basis) (t : Fresh) (refused : Refused) →
      IsFresh f (starting_basis f) s → start_refused f s ≡ None → ¬ IsDualFeasible f (starting_basis f) →
      IsPhaseOne f o majors (WalkOptimal st) → IsSwitch f st b t → switch_refused f b t ≡ Some refused →
      IsRun f o (record { phase_one = in_boxes f majors; phase_two = on_form f (switched_state f b st.count) [] }) (Overflow (record { task = Switch; refused = refused }))
  -- both phases
  in_both : (s : Fresh) (majors : List Major) (st : State) (b : Basis) (t : Fresh) (later : List Major) (end : WalkEnd) (answer : Answer) →
      IsFresh f (starting_basis f) s → start_refused f s ≡ None → ¬ IsDualFeasible f (starting_basis f) →
      IsPhaseOne f o majors (WalkOptimal st) → IsSwitch f st b t → switch_refused f b t ≡ None →
      IsWalk f o (length majors + 1) Full (switched_state f b st.count) later end → IsAnswer f end answer →
      IsRun f o (record { phase_one = in_boxes f majors; phase_two = on_form f (switched_state f b st.count) later }) answer
