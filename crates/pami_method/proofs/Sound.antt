-- What steps keep, a walk keeps; and its ends have certificates. A walk from a dual feasible state stays dual feasible.
use Rattle.std.proofs.Common.{◌≡◌, ℕ, suc, ◌<◌, List, [], ◌∷◌, Option, None, Some, refl, sym, ap, ◌∙◌, subst}
use Rattle.pami_linear.specs.Lists.{get}
use Rattle.pami_theory.specs.Form.{Form, variables, limits, IsUncrossed}
use Rattle.pami_theory.specs.Basis.{Basis, head_at, IsBasis}
use Rattle.pami_theory.specs.Fresh.{Fresh, IsFresh, IsDualFeasible, value_at_place}
use Rattle.pami_theory.specs.Ratio.{toward}
use Rattle.pami_theory.specs.Choice.{infeasible_rows}
use Rattle.pami_theory.specs.Certificate.{HoldsOptimal, HoldsInfeasible}
use Rattle.pami_theory.specs.declared.words.Violation.{Violation}
use Rattle.pami_theory.specs.Violation.{violation}
use Rattle.pami_theory.specs.Step.{Step, TakesStep, basis_after}
use Rattle.pami_theory.proofs.Solved.{only_fresh}
use Rattle.pami_theory.proofs.NextCosts.{step_keeps_feasible}
use Rattle.pami_theory.proofs.NoEntering.{infeasible_without_step}
use Rattle.pami_theory.proofs.Optimal.{optimal_solved}
use Rattle.pami_theory.proofs.Chosen.{no_rows}
use Rattle.pami_method.specs.declared.words.Place.{Place}
use Rattle.pami_method.specs.Batch.{Reached, Minor, Turn, AtLimit, NoRow, Stuck, Pivots, turn, IsNext, IsBatch}
use Rattle.pami_method.specs.declared.words.Mode.{Mode}
use Rattle.pami_method.specs.declared.words.Mode.TheVariants.{Full, Single}
use Rattle.pami_method.specs.declared.words.Options.{Options}
use Rattle.pami_method.specs.Walk.{State, most, Major, IsMajor, refused_in, WalkEnd, Optimal, Limit, NoEntering, Overflow, EndsAt, After, Ends, GoesOn, refused_after, turn_after, after_by, after, GoesAfter, IsWalk}
use Rattle.pami_method.proofs.Turns.{pivot_takes_step}
use Rattle.pami_method.proofs.Batches.{next_is_basis}
use Rattle.pami_method.proofs.Stuck.{PlacesWithin, stuck_row, chosen_within, next_within}

-- ---- a batch
-- P is kept by each step
abbrev pub StepsKeep : Form → (Basis → Type 0) → Type 0
StepsKeep f P = (b : Basis) (s : Fresh) (p : ℕ) (v : Violation) (t : Step) → TakesStep f b s p v t → P b → P (basis_after b t)

-- a basis with P, with what is solved there and rows at places of the form
pub record IsSound (f : Form) (P : Basis → Type 0) (r : Reached) : Type 0 where
  pub basis : IsBasis f r.basis
  pub fresh : IsFresh f r.basis r.fresh
  pub kept : P r.basis
  pub within : PlacesWithin f r.rows

next_kept : (f : Form) (P : Basis → Type 0) → StepsKeep f P → (limit : ℕ) (first : Reached) (m : Minor) (next : Reached) → IsSound f P first → m.reached ≡ first → turn f limit first ≡ Pivots m.dropped m.row m.step → IsNext f m next → P next.basis
next_kept f P keep limit first m next h r t n =
    subst P (ap (λ (x : Reached). basis_after x.basis m.step) (sym r) ∙ sym n.basis)
    (keep first.basis first.fresh m.row.place m.row.violation m.step (pivot_takes_step f limit first m.dropped m.row m.step h.basis h.fresh t) h.kept)

next_sound : (f : Form) (P : Basis → Type 0) → StepsKeep f P → (limit : ℕ) (first : Reached) (m : Minor) (next : Reached) → IsSound f P first → m.reached ≡ first → turn f limit first ≡ Pivots m.dropped m.row m.step → IsNext f m next → IsSound f P next
next_sound f P keep limit first m next h r t n = record {
  basis = next_is_basis f limit first m next h.basis h.fresh r t n;
  fresh = n.fresh;
  kept = next_kept f P keep limit first m next h r t n;
  within = next_within f m next (subst (λ (x : Reached). PlacesWithin f x.rows) (sym r) h.within) n;
}

pub batch_sound : (f : Form) (P : Basis → Type 0) → StepsKeep f P → (limit : ℕ) (first : Reached) (ms : List Minor) (last : Reached) → IsSound f P first → IsBatch f limit first ms last → IsSound f P last
batch_sound f P keep limit first [] last h k = subst (IsSound f P) (sym k.0) h
batch_sound f P keep limit first (m ∷ ms) last h k = batch_sound f P keep limit k.2 ms last (next_sound f P keep limit first m k.2 h k.0 k.1 k.3) k.4

pub major_sound : (f : Form) (P : Basis → Type 0) → StepsKeep f P → (o : Options) (st : State) (g : Major) → IsBasis f st.basis → P st.basis → IsMajor f o st g → IsSound f P g.last
major_sound f P keep o st g b d h = batch_sound f P keep o.limit g.first g.minors g.last (record {
  basis = subst (IsBasis f) (sym h.basis) b;
  fresh = subst (λ (x : Basis). IsFresh f x g.first.fresh) (sym h.basis) h.fresh;
  kept = subst P (sym h.basis) d;
  within = subst (PlacesWithin f) (sym h.rows) (chosen_within f st.basis g.first.fresh st.weights (most o g.mode));
}) h.batch

-- ---- the ends of a walk
-- optimal in the end: at this state no place is infeasible
abbrev pub NoneInfeasible : Form → State → Type 0
NoneInfeasible f st = (s : Fresh) × IsFresh f st.basis s × (infeasible_rows f st.basis s st.weights ≡ [])

abbrev pub EndHolds : Form → (Basis → Type 0) → WalkEnd → Type 0
EndHolds f P (Optimal st) = IsBasis f st.basis × P st.basis × NoneInfeasible f st
EndHolds f P (Limit st) = Unit {0}
EndHolds f P (NoEntering place side row) = HoldsInfeasible f (λ i. toward side (get row i))
EndHolds f P (Overflow refused) = Unit {0}

abbrev AfterHolds : Form → (Basis → Type 0) → After → Type 0
AfterHolds f P (Ends end) = EndHolds f P end
AfterHolds f P (GoesOn mode st) = IsBasis f st.basis × P st.basis

refused_holds : (f : Form) (P : Basis → Type 0) (m : Mode) (st : State) (r : Place) → IsBasis f st.basis → P st.basis → AfterHolds f P (refused_after m st r)
refused_holds f P Full st r b d = (b, d)
refused_holds f P Single st r b d = tt

turn_holds : (f : Form) (P : Basis → Type 0) (o : Options) (st : State) (g : Major) (t : Turn) → turn f o.limit g.last ≡ t → IsSound f P g.last → AfterHolds f P (turn_after o st g t)
turn_holds f P o st g AtLimit e h = (h.basis, h.kept)
turn_holds f P o st g (NoRow d) e h = (h.basis, h.kept)
turn_holds f P o st g (Stuck d row) e h =
    let k = stuck_row f o.limit g.last d row h.within e in
    infeasible_without_step f g.last.basis g.last.fresh row.place row.violation h.basis h.fresh k.0 k.1 k.2
turn_holds f P o st g (Pivots d row s) e h = (h.basis, h.kept)

after_holds : (f : Form) (P : Basis → Type 0) (o : Options) (st : State) (g : Major) (r : Option Place) → IsBasis f st.basis → P st.basis → IsSound f P g.last → AfterHolds f P (after_by f o st g r)
after_holds f P o st g None b d h = turn_holds f P o st g (turn f o.limit g.last) refl h
after_holds f P o st g (Some r) b d h = refused_holds f P g.mode st r b d

no_major_holds : (f : Form) (P : Basis → Type 0) (o : Options) (st : State) (end : WalkEnd) → IsBasis f st.basis → P st.basis → EndsAt f o st end → EndHolds f P end
no_major_holds f P o st (Optimal x) b d h =
    (subst (λ (t : State). IsBasis f t.basis) (sym h.0) b, subst (λ (t : State). P t.basis) (sym h.0) d, subst (NoneInfeasible f) (sym h.0) h.1)
no_major_holds f P o st (Limit x) b d h = tt
no_major_holds f P o st (NoEntering p i r) b d h = absurd h
no_major_holds f P o st (Overflow r) b d h = tt

later_holds : (f : Form) (P : Basis → Type 0) (o : Options) (number : ℕ) (gs : List Major) (end : WalkEnd) (a : After) → AfterHolds f P a
    → ((mode : Mode) (st : State) → IsBasis f st.basis → P st.basis → IsWalk f o number mode st gs end → EndHolds f P end)
    → GoesAfter gs end a (λ mode st. IsWalk f o number mode st gs end) → EndHolds f P end
later_holds f P o number gs end (Ends found) h rest k = subst (EndHolds f P) (sym k.1) h
later_holds f P o number gs end (GoesOn mode st) h rest k = rest mode st h.0 h.1 k

pub walk_holds : (f : Form) (P : Basis → Type 0) → StepsKeep f P → (o : Options) (number : ℕ) (mode : Mode) (st : State) (gs : List Major) (end : WalkEnd) → IsBasis f st.basis → P st.basis
    → IsWalk f o number mode st gs end → EndHolds f P end
walk_holds f P keep o number mode st [] end b d h = no_major_holds f P o st end b d h
walk_holds f P keep o number mode st (g ∷ gs) end b d h =
    later_holds f P o (suc number) gs end (after f o st g) (after_holds f P o st g (refused_in f o st g) b d (major_sound f P keep o st g b d h.0.major))
    (λ m t c e x. walk_holds f P keep o (suc number) m t gs end c e x) h.1

-- at an optimal end no place is violated, and what is solved there is a certificate
pub none_violated : (f : Form) (st : State) (s : Fresh) → IsBasis f st.basis → NoneInfeasible f st → IsFresh f st.basis s → (p : ℕ) → p < f.rows → violation (limits f (head_at st.basis p)) (value_at_place st.basis s p) ≡ None
none_violated f st s b h k =
    (no_rows f st.basis s st.weights).0 (ap (λ (t : Fresh). infeasible_rows f st.basis t st.weights) (sym (only_fresh f st.basis h.0 s b h.1 k)) ∙ h.2)

pub optimal_holds : (f : Form) (st : State) (s : Fresh) → ((v : ℕ) → v < variables f → IsUncrossed (limits f v)) → EndHolds f (IsDualFeasible f) (Optimal st) → IsFresh f st.basis s → HoldsOptimal f (get s.values) (get s.reduced)
optimal_holds f st s u h k = optimal_solved f st.basis s h.0 k h.1 (none_violated f st s h.0 h.2 k) (λ v l n. u v l)

-- ---- a walk from a dual feasible state, and one from any state
pub feasible_walk_holds : (f : Form) (o : Options) (number : ℕ) (mode : Mode) (st : State) (gs : List Major) (end : WalkEnd) → IsBasis f st.basis → IsDualFeasible f st.basis
    → IsWalk f o number mode st gs end → EndHolds f (IsDualFeasible f) end
feasible_walk_holds f = walk_holds f (IsDualFeasible f) (step_keeps_feasible f)

abbrev pub AnyBasis : Basis → Type 0
AnyBasis b = Unit {0}

pub any_walk_holds : (f : Form) (o : Options) (number : ℕ) (mode : Mode) (st : State) (gs : List Major) (end : WalkEnd) → IsBasis f st.basis → IsWalk f o number mode st gs end → EndHolds f AnyBasis end
any_walk_holds f o number mode st gs end b h = walk_holds f AnyBasis (λ c s p v t k d. tt) o number mode st gs end b tt h
