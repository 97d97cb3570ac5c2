-- A history stands for the basis of its state: from one major to the next, along a walk, and in both phases of a run.
use Rattle.std.proofs.Common.{ℕ, suc, ◌+◌, Bool, true, false, List, [], ◌∷◌, ◌++◌, length, map, Option, None, Some, refl, sym, subst}
use Rattle.pami_theory.specs.Form.{Form}
use Rattle.pami_theory.specs.Basis.{Basis, IsBasis}
use Rattle.pami_theory.specs.Fresh.{Fresh, IsFresh}
use Rattle.pami_theory.specs.Boxes.{boxes_of}
use Rattle.pami_theory.proofs.Starts.{start_is_basis}
use Rattle.pami_method.specs.declared.words.Mode.{Mode}
use Rattle.pami_method.specs.declared.words.Mode.TheVariants.{Full, Single}
use Rattle.pami_method.specs.declared.words.Options.{Options}
use Rattle.pami_method.specs.declared.words.Place.{Place}
use Rattle.pami_method.specs.Factor.{History}
use Rattle.pami_method.specs.Batch.{Turn, AtLimit, NoRow, Stuck, Pivots, turn}
use Rattle.pami_method.specs.Work.{pivot_of}
use Rattle.pami_method.specs.Walk.{State, Major, IsMajor, eliminates_anew, history_by, history_of, refused_in, state_after}
use Rattle.pami_method.specs.Walk.{WalkEnd, Optimal, Limit, NoEntering, Overflow, EndsAt, After, Ends, GoesOn, refused_after, turn_after, after_by, after, GoesAfter, IsWalk}
use Rattle.pami_method.specs.Phases.{starting_state, switched_state, Record, Answer, IsPhaseOne, IsSwitch, IsRun}
use Rattle.pami_method.specs.Phases.{refused_start, in_phase_two, refused_boxes, in_phase_one, dual_infeasible, refused_switch, in_both}
use Rattle.pami_method.proofs.Walks.{major_ends_fresh}
use Rattle.pami_method.proofs.Answers.{switched_start}
use Rattle.pami_deferral.specs.Factored.{IsHistoryOf}
use Rattle.pami_deferral.specs.SolvedBatch.{IsSolvedBatch}
use Rattle.pami_deferral.specs.Factors.{IsNoneOrHistoryOf, IsFactored, HasFactor, WhereItGoesOn, AllStates, IsFactoredPhase}
use Rattle.pami_deferral.proofs.Chains.{solved_chain}
use Rattle.pami_deferral.proofs.Histories.{history_new, history_after}

-- ---- one major
by_choice : (f : Form) (b : Basis) (anew : Bool) (h : Option History) → IsBasis f b → IsNoneOrHistoryOf f b h → IsHistoryOf f (history_by anew b h) b
by_choice f b true h is k = history_new f b is
by_choice f b false None is k = history_new f b is
by_choice f b false (Some h) is k = k

pub major_works : (f : Form) (o : Options) (st : State) (g : Major) → IsFactored f st → IsHistoryOf f (history_of o st g) st.basis
major_works f o st g h = by_choice f st.basis (eliminates_anew o g.mode st.history) st.history h.basis h.history

major_solved : (f : Form) (o : Options) (st : State) (g : Major) → IsBasis f st.basis → IsMajor f o st g → IsSolvedBatch f o.limit g.first g.minors g.last
major_solved f o st g b m = record {
  basis = subst (IsBasis f) (sym m.basis) b;
  fresh = subst (λ b. IsFresh f b g.first.fresh) (sym m.basis) m.fresh;
  batch = m.batch;
}

-- what a kept major leaves
abbrev left_by : Options → State → Major → History
left_by o st g = record { head = (history_of o st g).head; pivots = (history_of o st g).pivots ++ map pivot_of g.minors }

left_stands : (f : Form) (o : Options) (st : State) (g : Major) → IsFactored f st → IsMajor f o st g
    → IsHistoryOf f (left_by o st g) g.last.basis
left_stands f o st g h m =
    history_after f (history_of o st g) g.first g.minors g.last
    (subst (IsHistoryOf f (history_of o st g)) (sym m.basis) (major_works f o st g h))
    (solved_chain f o.limit g.first g.minors g.last (major_solved f o st g h.basis m))

pub major_leaves : (f : Form) (o : Options) (st : State) (g : Major) → IsFactored f st → IsMajor f o st g → HasFactor f (state_after o st g)
major_leaves f o st g h m = record { history = left_by o st g; is = refl; stands = left_stands f o st g h m }

behind_factored : (f : Form) (o : Options) (st : State) (g : Major) → IsFactored f st → IsMajor f o st g → IsFactored f (state_after o st g)
behind_factored f o st g h m = record { basis = (major_ends_fresh f o st g h.basis m).0; history = left_stands f o st g h m }

-- ---- what follows it
abbrev EndsFactored : Form → WalkEnd → Type 0
EndsFactored f (Optimal st) = IsFactored f st
EndsFactored f (Limit st) = IsFactored f st
EndsFactored f (NoEntering p side row) = Unit {0}
EndsFactored f (Overflow r) = Unit {0}

abbrev FollowsFactored : Form → After → Type 0
FollowsFactored f (Ends end) = EndsFactored f end
FollowsFactored f (GoesOn mode st) = IsFactored f st

refused_factored : (f : Form) (mode : Mode) (st : State) (r : Place) → IsFactored f st → FollowsFactored f (refused_after mode st r)
refused_factored f Full st r h = h
refused_factored f Single st r h = tt

turn_factored : (f : Form) (o : Options) (st : State) (g : Major) (t : Turn) → IsFactored f (state_after o st g)
    → FollowsFactored f (turn_after o st g t)
turn_factored f o st g AtLimit h = h
turn_factored f o st g (NoRow d) h = h
turn_factored f o st g (Stuck d row) h = tt
turn_factored f o st g (Pivots d row s) h = h

after_by_factored : (f : Form) (o : Options) (st : State) (g : Major) (r : Option Place) → IsFactored f st → IsMajor f o st g
    → FollowsFactored f (after_by f o st g r)
after_by_factored f o st g None h m = turn_factored f o st g (turn f o.limit g.last) (behind_factored f o st g h m)
after_by_factored f o st g (Some r) h m = refused_factored f g.mode st r h

-- ---- the walk
no_major_ends : (f : Form) (o : Options) (st : State) (end : WalkEnd) → IsFactored f st → EndsAt f o st end → EndsFactored f end
no_major_ends f o st (Optimal x) h k = subst (IsFactored f) (sym k.0) h
no_major_ends f o st (Limit x) h k = subst (IsFactored f) (sym k.0) h
no_major_ends f o st (NoEntering p side row) h k = absurd k
no_major_ends f o st (Overflow r) h k = absurd k

later_factored : (f : Form) (o : Options) (number : ℕ) (gs : List Major) (end : WalkEnd) (a : After) → FollowsFactored f a
    → ((mode : Mode) (st : State) → IsFactored f st → IsWalk f o number mode st gs end → AllStates (IsFactored f) f o st gs × EndsFactored f end)
    → GoesAfter gs end a (λ mode st. IsWalk f o number mode st gs end)
    → WhereItGoesOn (λ next. AllStates (IsFactored f) f o next gs) a × EndsFactored f end
later_factored f o number gs end (Ends found) b rest h = (tt, subst (EndsFactored f) (sym h.1) b)
later_factored f o number gs end (GoesOn mode st) b rest h = rest mode st b h

pub walk_factored : (f : Form) (o : Options) (number : ℕ) (mode : Mode) (st : State) (gs : List Major) (end : WalkEnd) → IsFactored f st
    → IsWalk f o number mode st gs end → AllStates (IsFactored f) f o st gs × EndsFactored f end
walk_factored f o number mode st [] end h k = (h, no_major_ends f o st end h k)
walk_factored f o number mode st (g ∷ gs) end h k =
    let rest = later_factored f o (suc number) gs end (after f o st g) (after_by_factored f o st g (refused_in f o st g) h k.0.major)
    (λ m t c x. walk_factored f o (suc number) m t gs end c x) k.1 in
    ((h, rest.0), rest.1)

-- ---- the run
pub start_factored : (f : Form) → IsFactored f (starting_state f)
start_factored f = record { basis = start_is_basis f; history = tt }

pub switch_has_factor : (f : Form) (b : Basis) (count : ℕ) → IsBasis f b → HasFactor f (switched_state f b count)
switch_has_factor f b count is = record { history = record { head = b.head; pivots = [] }; is = refl; stands = history_new f b is }

switched_factored : (f : Form) (o : Options) (majors : List Major) (st : State) (b : Basis) (t : Fresh) (count : ℕ)
    → IsPhaseOne f o majors (Optimal st) → IsSwitch f st b t → IsFactored f (switched_state f b count)
switched_factored f o majors st b t count one w =
    let is = (switched_start f o majors st b t one w).0 in
    record { basis = is; history = history_new f b is }

boxed : (f : Form) (o : Options) (majors : List Major) (end : WalkEnd) → IsPhaseOne f o majors end
    → AllStates (IsFactored (boxes_of f)) (boxes_of f) o (starting_state (boxes_of f)) majors
boxed f o majors end one =
    (walk_factored (boxes_of f) o 1 Full (starting_state (boxes_of f)) majors end (start_factored (boxes_of f)) one.walk).0

pub phases_factored : (f : Form) (o : Options) (r : Record) (a : Answer) → IsRun f o r a
    → IsFactoredPhase o r.phase_one × IsFactoredPhase o r.phase_two
phases_factored f o _ _ (refused_start s refused h e) = (tt, tt)
phases_factored f o _ _ (in_phase_two s majors end a h e d w i) =
    (tt, (walk_factored f o 1 Full (starting_state f) majors end (start_factored f) w).0)
phases_factored f o _ _ (refused_boxes s t refused h e n k g) = (start_factored (boxes_of f), tt)
phases_factored f o _ _ (in_phase_one s majors end a h e n one i) = (boxed f o majors end one, tt)
phases_factored f o _ _ (dual_infeasible s t majors st h e n one c k) = (boxed f o majors (Optimal st) one, tt)
phases_factored f o _ _ (refused_switch s majors st b t refused h e n one w g) =
    (boxed f o majors (Optimal st) one, switched_factored f o majors st b t st.count one w)
phases_factored f o _ _ (in_both s majors st b t later end a h e n one w g walk i) = (
  boxed f o majors (Optimal st) one,
  (walk_factored f o (length majors + 1) Full (switched_state f b st.count) later end
      (switched_factored f o majors st b t st.count one w) walk).0,
)
