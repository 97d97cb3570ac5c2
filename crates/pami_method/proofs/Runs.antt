-- One run of a form: a run is taken as a tree of decisions, each by what is solved, and two such trees are the same.
use Rattle.std.proofs.Common.{◌≡◌, ℕ, ◌+◌, ◌⊎◌, inl, inr, List, [], length, refl, sym, ap, ◌∙◌, subst, Option, None, Some}
use Rattle.pami_frac.specs.declared.arithmetic.Refused.{Refused}
use Rattle.pami_theory.specs.Form.{Form}
use Rattle.pami_theory.specs.Basis.{Basis, IsBasis}
use Rattle.pami_theory.specs.Fresh.{Fresh, IsFresh, IsDualFeasible}
use Rattle.pami_theory.specs.Start.{starting_basis}
use Rattle.pami_theory.specs.Boxes.{boxes_of, CanBeDualFeasible, switched_basis}
use Rattle.pami_theory.proofs.Starts.{start_is_basis}
use Rattle.pami_theory.proofs.Solved.{only_fresh}
use Rattle.pami_theory.proofs.Switched.{switch_is_basis}
use Rattle.pami_method.specs.declared.words.Spot.TheVariants.{Start, Switch}
use Rattle.pami_method.specs.declared.words.Mode.TheVariants.{Full}
use Rattle.pami_method.specs.declared.words.Options.{Options}
use Rattle.pami_method.specs.Walk.{State, Major, WalkEnd, Optimal as WalkOptimal, Limit as WalkLimit, NoEntering, Overflow as WalkOverflow, IsWalk}
use Rattle.pami_method.specs.Phases.{start_refused, starting_state, switch_refused, switched_state, Record, in_boxes, on_form, Answer, Optimal, DualInfeasible, Limit, Overflow, IsAnswer, IsEarlyAnswer, IsPhaseOne, IsSwitch, IsRun, refused_start, in_phase_two, refused_boxes, in_phase_one, dual_infeasible, refused_switch, in_both}
use Rattle.pami_method.proofs.Walks.{EndsAtBasis, walk_only, walk_ends_at_basis}

-- ---- the tree
abbrev Gives : Record → Answer → Record → Answer → Type 0
Gives wanted found r a = (r ≡ wanted) × (a ≡ found)

-- behind the switch to the basis b
abbrev FromSwitch : Form → Options → List Major → State → Basis → Option Refused → Record → Answer → Type 0
FromSwitch f o majors st b (Some refused) r a =
    Gives (record { phase_one = in_boxes f majors; phase_two = on_form f (switched_state f b st.count) [] }) (Overflow (record { task = Switch; refused = refused })) r a
FromSwitch f o majors st b None r a =
    (later : List Major) × (end : WalkEnd) × IsWalk f o (length majors + 1) Full (switched_state f b st.count) later end × IsAnswer f end a
    × (r ≡ record { phase_one = in_boxes f majors; phase_two = on_form f (switched_state f b st.count) later })

-- at the last basis of phase one
abbrev Switches : Form → Options → List Major → State → Fresh → Record → Answer → Type 0
Switches f o majors st boxed r a =
    (t : Fresh) × IsFresh f (switched_basis f st.basis boxed.reduced) t
    × FromSwitch f o majors st (switched_basis f st.basis boxed.reduced) (switch_refused f (switched_basis f st.basis boxed.reduced) t) r a

abbrev FromOptimal : Form → Options → List Major → State → Fresh → Record → Answer → Type 0
FromOptimal f o majors st boxed r a =
    (¬ CanBeDualFeasible f st.basis × Gives (record { phase_one = in_boxes f majors; phase_two = None }) (DualInfeasible st boxed) r a)
    ⊎ (CanBeDualFeasible f st.basis × Switches f o majors st boxed r a)

abbrev FromEnd : Form → Options → List Major → WalkEnd → Record → Answer → Type 0
FromEnd f o majors (WalkOptimal st) r a = (boxed : Fresh) × IsFresh (boxes_of f) st.basis boxed × FromOptimal f o majors st boxed r a
FromEnd f o majors (WalkLimit st) r a = Gives (record { phase_one = in_boxes f majors; phase_two = None }) (Limit st) r a
FromEnd f o majors (NoEntering place side row) r a = ⊥
FromEnd f o majors (WalkOverflow refused) r a = Gives (record { phase_one = in_boxes f majors; phase_two = None }) (Overflow refused) r a

-- the boxes, by their start
abbrev FromBoxes : Form → Options → Option Refused → Record → Answer → Type 0
FromBoxes f o (Some refused) r a = Gives (record { phase_one = in_boxes f []; phase_two = None }) (Overflow (record { task = Start; refused = refused })) r a
FromBoxes f o None r a = (majors : List Major) × (end : WalkEnd) × IsWalk (boxes_of f) o 1 Full (starting_state (boxes_of f)) majors end × FromEnd f o majors end r a

abbrev InBoxes : Form → Options → Record → Answer → Type 0
InBoxes f o r a = (t : Fresh) × IsFresh (boxes_of f) (starting_basis (boxes_of f)) t × FromBoxes f o (start_refused (boxes_of f) t) r a

abbrev OnForm : Form → Options → Record → Answer → Type 0
OnForm f o r a = (majors : List Major) × (end : WalkEnd) × IsWalk f o 1 Full (starting_state f) majors end × IsAnswer f end a
    × (r ≡ record { phase_one = None; phase_two = on_form f (starting_state f) majors })

-- the whole, by its start
abbrev FromStart : Form → Options → Option Refused → Record → Answer → Type 0
FromStart f o (Some refused) r a = Gives (record { phase_one = None; phase_two = None }) (Overflow (record { task = Start; refused = refused })) r a
FromStart f o None r a = (IsDualFeasible f (starting_basis f) × OnForm f o r a) ⊎ (¬ IsDualFeasible f (starting_basis f) × InBoxes f o r a)

abbrev Tree : Form → Options → Record → Answer → Type 0
Tree f o r a = (s : Fresh) × IsFresh f (starting_basis f) s × FromStart f o (start_refused f s) r a

-- ---- each run is such a tree
at_start : (f : Form) (o : Options) (r : Record) (a : Answer) (s : Fresh) (x : Option Refused) → IsFresh f (starting_basis f) s → start_refused f s ≡ x → FromStart f o x r a → Tree f o r a
at_start f o r a s x h e t = (s, h, subst (λ y. FromStart f o y r a) (sym e) t)

early : (f : Form) (o : Options) (majors : List Major) (end : WalkEnd) (a : Answer) → IsEarlyAnswer end a → FromEnd f o majors end (record { phase_one = in_boxes f majors; phase_two = None }) a
early f o majors (WalkOptimal st) a h = absurd h
early f o majors (WalkLimit st) a h = (refl, h)
early f o majors (NoEntering p i r) a h = absurd h
early f o majors (WalkOverflow x) a h = (refl, h)

boxes_tree : (f : Form) (o : Options) (majors : List Major) (end : WalkEnd) (r : Record) (a : Answer) (s : Fresh) → IsFresh f (starting_basis f) s → start_refused f s ≡ None
    → ¬ IsDualFeasible f (starting_basis f) → IsPhaseOne f o majors end → FromEnd f o majors end r a → Tree f o r a
boxes_tree f o majors end r a s h e n one t =
    at_start f o r a s None h e (inr (n, (one.fresh, one.fresh_is, subst (λ y. FromBoxes f o y r a) (sym one.fits) (majors, end, one.walk, t))))

switch_tree : (f : Form) (o : Options) (majors : List Major) (st : State) (b : Basis) (t : Fresh) (x : Option Refused) (r : Record) (a : Answer)
    → IsSwitch f st b t → switch_refused f b t ≡ x → FromSwitch f o majors st b x r a → FromEnd f o majors (WalkOptimal st) r a
switch_tree f o majors st b t x r a h e g =
    let c = switched_basis f st.basis h.boxed.reduced in (
      h.boxed,
      h.boxed_is,
      inr (
        h.feasible,
        (
          t,
          subst (λ (d : Basis). IsFresh f d t) h.basis h.fresh,
          subst (λ (d : Basis). FromSwitch f o majors st d (switch_refused f d t) r a) h.basis (subst (λ y. FromSwitch f o majors st b y r a) (sym e) g),
        ),
      ),
    )

stopped_in_boxes : (f : Form) (o : Options) (refused : Refused) (x : Option Refused) → x ≡ Some refused
    → FromBoxes f o x (record { phase_one = in_boxes f []; phase_two = None }) (Overflow (record { task = Start; refused = refused }))
stopped_in_boxes f o refused x e =
    subst (λ y. FromBoxes f o y (record { phase_one = in_boxes f []; phase_two = None }) (Overflow (record { task = Start; refused = refused }))) (sym e) (refl, refl)

tree : {f : Form} {o : Options} {r : Record} {a : Answer} → IsRun f o r a → Tree f o r a
tree {f} {o} (refused_start s refused h e) = at_start f o _ _ s (Some refused) h e (refl, refl)
tree {f} {o} (in_phase_two s majors end answer h e d w i) = at_start f o _ answer s None h e (inl (d, (majors, end, w, i, refl)))
tree {f} {o} (refused_boxes s t refused h e n k g) =
    at_start f o _ _ s None h e (inr (n, (t, k, stopped_in_boxes f o refused (start_refused (boxes_of f) t) g)))
tree {f} {o} (in_phase_one s majors end answer h e n one i) = boxes_tree f o majors end _ answer s h e n one (early f o majors end answer i)
tree {f} {o} (dual_infeasible s t majors st h e n one c k) = boxes_tree f o majors (WalkOptimal st) _ _ s h e n one (t, k, inl (c, (refl, refl)))
tree {f} {o} (refused_switch s majors st b t refused h e n one w g) =
    boxes_tree f o majors (WalkOptimal st) _ _ s h e n one (switch_tree f o majors st b t (Some refused) _ _ w g (refl, refl))
tree {f} {o} (in_both s majors st b t later end answer h e n one w g walk i) =
    boxes_tree f o majors (WalkOptimal st) _ _ s h e n one (switch_tree f o majors st b t None _ _ w g (later, end, walk, i, refl))

-- ---- two such trees are the same
abbrev SameRun : Record → Record → Answer → Answer → Type 0
SameRun r q a b = (r ≡ q) × (a ≡ b)

gives_only : (w : Record) (x : Answer) (r q : Record) (a b : Answer) → Gives w x r a → Gives w x q b → SameRun r q a b
gives_only w x r q a b h k = (h.0 ∙ sym k.0, h.1 ∙ sym k.1)

-- the answer behind one end
answer_only : (f : Form) (end : WalkEnd) (a b : Answer) → EndsAtBasis f end → IsAnswer f end a → IsAnswer f end b → a ≡ b
answer_only f (WalkOptimal st) a b at h k = h.2 ∙ ap (Optimal st) (only_fresh f st.basis h.0 k.0 at h.1 k.1) ∙ sym k.2
answer_only f (WalkLimit st) a b at h k = h ∙ sym k
answer_only f (NoEntering p i r) a b at h k = h ∙ sym k
answer_only f (WalkOverflow x) a b at h k = h ∙ sym k

-- two walks of phase two with their answers
phase_two_only : (f : Form) (o : Options) (number : ℕ) (st : State) (gs hs : List Major) (d e : WalkEnd) (a b : Answer) → IsBasis f st.basis
    → IsWalk f o number Full st gs d → IsWalk f o number Full st hs e → IsAnswer f d a → IsAnswer f e b → (gs ≡ hs) × (a ≡ b)
phase_two_only f o number st gs hs d e a b at h k i j =
    let same = walk_only f o number Full st gs hs d e at h k in
    (same.0, answer_only f d a b (walk_ends_at_basis f o number Full st gs d at h) i (subst (λ x. IsAnswer f x b) (sym same.1) j))

from_switch_only : (f : Form) (o : Options) (majors : List Major) (st : State) (b : Basis) (x : Option Refused) (r q : Record) (a c : Answer) → IsBasis f b
    → FromSwitch f o majors st b x r a → FromSwitch f o majors st b x q c → SameRun r q a c
from_switch_only f o majors st b (Some refused) r q a c at h k = gives_only _ _ r q a c h k
from_switch_only f o majors st b None r q a c at h k =
    let same = phase_two_only f o (length majors + 1) (switched_state f b st.count) h.0 k.0 h.1 k.1 a c at h.2 k.2 h.3 k.3 in
    (h.4 ∙ ap (λ later. record { phase_one = in_boxes f majors; phase_two = on_form f (switched_state f b st.count) later }) same.0 ∙ sym k.4, same.1)

switches_only : (f : Form) (o : Options) (majors : List Major) (st : State) (boxed : Fresh) (r q : Record) (a c : Answer) → IsBasis (boxes_of f) st.basis
    → Switches f o majors st boxed r a → Switches f o majors st boxed q c → SameRun r q a c
switches_only f o majors st boxed r q a c at h k =
    let b = switched_basis f st.basis boxed.reduced in
    let is = switch_is_basis f st.basis boxed.reduced at in
    from_switch_only f o majors st b (switch_refused f b h.0) r q a c is h.2
    (subst (λ (t : Fresh). FromSwitch f o majors st b (switch_refused f b t) q c) (only_fresh f b k.0 h.0 is k.1 h.1) k.2)

from_optimal_only : (f : Form) (o : Options) (majors : List Major) (st : State) (boxed : Fresh) (r q : Record) (a c : Answer) → IsBasis (boxes_of f) st.basis
    → FromOptimal f o majors st boxed r a → FromOptimal f o majors st boxed q c → SameRun r q a c
from_optimal_only f o majors st boxed r q a c at (inl h) (inl k) = gives_only _ _ r q a c h.1 k.1
from_optimal_only f o majors st boxed r q a c at (inl h) (inr k) = absurd (h.0 k.0)
from_optimal_only f o majors st boxed r q a c at (inr h) (inl k) = absurd (k.0 h.0)
from_optimal_only f o majors st boxed r q a c at (inr h) (inr k) = switches_only f o majors st boxed r q a c at h.1 k.1

from_end_only : (f : Form) (o : Options) (majors : List Major) (end : WalkEnd) (r q : Record) (a c : Answer) → EndsAtBasis (boxes_of f) end
    → FromEnd f o majors end r a → FromEnd f o majors end q c → SameRun r q a c
from_end_only f o majors (WalkOptimal st) r q a c at h k =
    from_optimal_only f o majors st h.0 r q a c at h.2
    (subst (λ (t : Fresh). FromOptimal f o majors st t q c) (only_fresh (boxes_of f) st.basis k.0 h.0 at k.1 h.1) k.2)
from_end_only f o majors (WalkLimit st) r q a c at h k = gives_only _ _ r q a c h k
from_end_only f o majors (NoEntering p i x) r q a c at h k = absurd h
from_end_only f o majors (WalkOverflow x) r q a c at h k = gives_only _ _ r q a c h k

from_boxes_only : (f : Form) (o : Options) (x : Option Refused) (r q : Record) (a c : Answer)
    → FromBoxes f o x r a → FromBoxes f o x q c → SameRun r q a c
from_boxes_only f o (Some refused) r q a c h k = gives_only _ _ r q a c h k
from_boxes_only f o None r q a c h k =
    let at = start_is_basis (boxes_of f) in
    let same = walk_only (boxes_of f) o 1 Full (starting_state (boxes_of f)) k.0 h.0 k.1 h.1 at k.2 h.2 in
    from_end_only f o h.0 h.1 r q a c (walk_ends_at_basis (boxes_of f) o 1 Full (starting_state (boxes_of f)) h.0 h.1 at h.2) h.3
    (subst (λ gs. FromEnd f o gs h.1 q c) same.0 (subst (λ e. FromEnd f o k.0 e q c) same.1 k.3))

in_boxes_only : (f : Form) (o : Options) (r q : Record) (a c : Answer) → InBoxes f o r a → InBoxes f o q c → SameRun r q a c
in_boxes_only f o r q a c h k =
    from_boxes_only f o (start_refused (boxes_of f) h.0) r q a c h.2
    (subst (λ (t : Fresh). FromBoxes f o (start_refused (boxes_of f) t) q c) (only_fresh (boxes_of f) (starting_basis (boxes_of f)) k.0 h.0 (start_is_basis (boxes_of f)) k.1 h.1) k.2)

on_form_only : (f : Form) (o : Options) (r q : Record) (a c : Answer) → OnForm f o r a → OnForm f o q c → SameRun r q a c
on_form_only f o r q a c h k =
    let same = phase_two_only f o 1 (starting_state f) h.0 k.0 h.1 k.1 a c (start_is_basis f) h.2 k.2 h.3 k.3 in
    (h.4 ∙ ap (λ majors. record { phase_one = None; phase_two = on_form f (starting_state f) majors }) same.0 ∙ sym k.4, same.1)

from_start_only : (f : Form) (o : Options) (x : Option Refused) (r q : Record) (a c : Answer)
    → FromStart f o x r a → FromStart f o x q c → SameRun r q a c
from_start_only f o (Some refused) r q a c h k = gives_only _ _ r q a c h k
from_start_only f o None r q a c (inl h) (inl k) = on_form_only f o r q a c h.1 k.1
from_start_only f o None r q a c (inl h) (inr k) = absurd (k.0 h.0)
from_start_only f o None r q a c (inr h) (inl k) = absurd (h.0 k.0)
from_start_only f o None r q a c (inr h) (inr k) = in_boxes_only f o r q a c h.1 k.1

pub run_only : (f : Form) (o : Options) (r q : Record) (a c : Answer) → IsRun f o r a → IsRun f o q c → (r ≡ q) × (a ≡ c)
run_only f o r q a c x y =
    let h = tree x in let k = tree y in
    from_start_only f o (start_refused f h.0) r q a c h.2
    (subst (λ (s : Fresh). FromStart f o (start_refused f s) q c) (only_fresh f (starting_basis f) k.0 h.0 (start_is_basis f) k.1 h.1) k.2)
