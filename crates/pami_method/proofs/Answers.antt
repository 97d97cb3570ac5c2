-- The answers of a run have their certificates.
use Rattle.std.proofs.Common.{◌≡◌, ℕ, zero, suc, ◌+◌, ◌<◌, List, [], ◌∷◌, map, length, refl, sym, subst}
use Rattle.pami_algebra.specs.Fraction.{Fraction}
use Rattle.pami_algebra.specs.Operations.{neg_f}
use Rattle.pami_algebra.proofs.Field.{neg_nil_f}
use Rattle.pami_linear.specs.Lists.{get}
use Rattle.pami_theory.specs.Form.{Form, variables, limits, zero_f, IsUncrossed}
use Rattle.pami_theory.specs.Basis.{Basis, IsBasis}
use Rattle.pami_theory.specs.Fresh.{Fresh, IsDualFeasible}
use Rattle.pami_theory.specs.declared.words.Side.{Side}
use Rattle.pami_theory.specs.declared.words.Side.TheVariants.{Above, Below}
use Rattle.pami_theory.specs.Boxes.{boxes_of}
use Rattle.pami_theory.specs.Ratio.{toward}
use Rattle.pami_theory.specs.Certificate.{HoldsOptimal, HoldsInfeasible, HoldsDualInfeasible}
use Rattle.pami_theory.proofs.Starts.{start_is_basis}
use Rattle.pami_theory.proofs.Switched.{switch_is_basis}
use Rattle.pami_theory.proofs.Farkas.{no_feasible_point}
use Rattle.pami_method.specs.declared.words.Mode.TheVariants.{Full}
use Rattle.pami_method.specs.declared.words.Options.{Options}
use Rattle.pami_method.specs.Walk.{State, Major, WalkEnd, Optimal as WalkOptimal, Limit as WalkLimit, NoEntering, Overflow as WalkOverflow}
use Rattle.pami_method.specs.Phases.{starting_state, switched_state, Record, Answer, Optimal, Infeasible, DualInfeasible, Limit, Overflow, ray, IsAnswer, IsEarlyAnswer, IsPhaseOne, IsSwitch, IsRun, refused_start, in_phase_two, refused_boxes, in_phase_one, dual_infeasible, refused_switch, in_both}
use Rattle.pami_method.proofs.Walks.{walk_ends_at_basis}
use Rattle.pami_theory.proofs.Decided.{infeasible_same}
use Rattle.pami_theory.proofs.Boxed.{can_iff, boxes_ray, boxes_start, zero_feasible}
use Rattle.pami_method.proofs.Sound.{EndHolds, feasible_walk_holds, any_walk_holds, none_violated, optimal_holds}

-- ---- rays
negated_at : (xs : List Fraction) (i : ℕ) → get (map neg_f xs) i ≡ neg_f (get xs i)
negated_at [] i = sym neg_nil_f
negated_at (x ∷ xs) zero = refl
negated_at (x ∷ xs) (suc i) = negated_at xs i

ray_at : (side : Side) (row : List Fraction) (i : ℕ) → toward side (get row i) ≡ get (ray side row) i
ray_at Above row i = refl
ray_at Below row i = sym (negated_at row i)

-- ---- phase two
abbrev pub Uncrossed : Form → Type 0
Uncrossed f = (v : ℕ) → v < variables f → IsUncrossed (limits f v)

abbrev pub AnswerHolds : Form → Answer → Type 0
AnswerHolds f (Optimal st s) = Uncrossed f → HoldsOptimal f (get s.values) (get s.reduced)
AnswerHolds f (Infeasible y) = HoldsInfeasible f (get y)
AnswerHolds f (DualInfeasible st s) = length f.bounds ≡ variables f → HoldsDualInfeasible f (get s.values)
AnswerHolds f (Limit st) = Unit {0}
AnswerHolds f (Overflow refused) = Unit {0}

answer_holds : (f : Form) (end : WalkEnd) (a : Answer) → EndHolds f (IsDualFeasible f) end → IsAnswer f end a → AnswerHolds f a
answer_holds f (WalkOptimal st) a h k = subst (AnswerHolds f) (sym k.2) (λ u. optimal_holds f st k.0 u h k.1)
answer_holds f (WalkLimit st) a h k = subst (AnswerHolds f) (sym k) tt
answer_holds f (NoEntering p side row) a h k = subst (AnswerHolds f) (sym k) (infeasible_same f (λ i. toward side (get row i)) (get (ray side row)) (λ i l. ray_at side row i) h)
answer_holds f (WalkOverflow r) a h k = subst (AnswerHolds f) (sym k) tt

early_holds : (f : Form) (end : WalkEnd) (a : Answer) → IsEarlyAnswer end a → AnswerHolds f a
early_holds f (WalkOptimal st) a k = absurd k
early_holds f (WalkLimit st) a k = subst (AnswerHolds f) (sym k) tt
early_holds f (NoEntering p side row) a k = absurd k
early_holds f (WalkOverflow r) a k = subst (AnswerHolds f) (sym k) tt

-- ---- behind the switch
pub switched_start : (f : Form) (o : Options) (majors : List Major) (st : State) (b : Basis) (t : Fresh) → IsPhaseOne f o majors (WalkOptimal st) → IsSwitch f st b t → IsBasis f b × IsDualFeasible f b
switched_start f o majors st b t one w =
    let at = walk_ends_at_basis (boxes_of f) o 1 Full (starting_state (boxes_of f)) majors (WalkOptimal st) (start_is_basis (boxes_of f)) one.walk in
    (subst (IsBasis f) (sym w.basis) (switch_is_basis f st.basis w.boxed.reduced at), subst (IsDualFeasible f) (sym w.basis) ((can_iff f st.basis w.boxed at w.boxed_is).0 w.feasible))

-- ---- the run
pub run_holds : (f : Form) (o : Options) (r : Record) (a : Answer) → IsRun f o r a → AnswerHolds f a
run_holds f o _ _ (refused_start s refused h e) = tt
run_holds f o _ a (in_phase_two s majors end _ h e d w i) = answer_holds f end a (feasible_walk_holds f o 1 Full (starting_state f) majors end (start_is_basis f) d w) i
run_holds f o _ _ (refused_boxes s t refused h e n k g) = tt
run_holds f o _ a (in_phase_one s majors end _ h e n one i) = early_holds f end a i
run_holds f o _ _ (dual_infeasible s t majors st h e n one c k) = λ whole.
    let end = feasible_walk_holds (boxes_of f) o 1 Full (starting_state (boxes_of f)) majors (WalkOptimal st) (start_is_basis (boxes_of f)) (boxes_start f whole) one.walk in
    boxes_ray f st.basis t whole end.0 k end.1 (none_violated (boxes_of f) st t end.0 end.2 k) c
run_holds f o _ _ (refused_switch s majors st b t refused h e n one w g) = tt
run_holds f o _ a (in_both s majors st b t later end _ h e n one w g walk i) =
    let start = switched_start f o majors st b t one w in
    answer_holds f end a (feasible_walk_holds f o (length majors + 1) Full (switched_state f b st.count) later end start.0 start.1 walk) i

-- ---- phase one never lacks an entering variable
pub phase_one_enters : (f : Form) (o : Options) (majors : List Major) (p : ℕ) (side : Side) (row : List Fraction) → IsPhaseOne f o majors (NoEntering p side row) → ⊥
phase_one_enters f o majors p side row one =
    no_feasible_point (boxes_of f) (λ i. toward side (get row i)) (λ v. zero_f)
    (any_walk_holds (boxes_of f) o 1 Full (starting_state (boxes_of f)) majors (NoEntering p side row) (start_is_basis (boxes_of f)) one.walk)
    (zero_feasible f)
