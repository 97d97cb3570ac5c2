-- One walk from a state: its majors and its end.
use Rattle.std.proofs.Common.{◌≡◌, ℕ, suc, List, [], ◌∷◌, refl, sym, ap, ◌∙◌, subst, Option, None, Some}
use Rattle.pami_theory.specs.Form.{Form}
use Rattle.pami_theory.specs.Basis.{Basis, IsBasis}
use Rattle.pami_theory.specs.Fresh.{Fresh, IsFresh}
use Rattle.pami_theory.specs.Choice.{infeasible_rows, chosen}
use Rattle.pami_theory.proofs.Solved.{only_fresh}
use Rattle.pami_method.specs.declared.words.Place.{Place}
use Rattle.pami_method.specs.Batch.{Reached, Turn, AtLimit, NoRow, Stuck, Pivots, turn, IsBatch}
use Rattle.pami_method.specs.declared.words.Mode.{Mode}
use Rattle.pami_method.specs.declared.words.Mode.TheVariants.{Full, Single}
use Rattle.pami_method.specs.declared.words.Options.{Options}
use Rattle.pami_method.specs.Walk.{State, most, Major, IsMajor, refused_in, WalkEnd, Optimal, Limit, NoEntering, Overflow, NeedsMajor, EndsAt, IsDue, After, Ends, GoesOn, refused_after, turn_after, after_by, after, GoesAfter, IsWalk}
use Rattle.pami_method.proofs.Batches.{reached_same, batch_only, batch_ends_fresh}

-- ---- a major
major_same : (g h : Major) → g.number ≡ h.number → g.mode ≡ h.mode → g.first ≡ h.first → g.minors ≡ h.minors → g.last ≡ h.last → g ≡ h
major_same g h n m f ms l =
    ap (λ z. record g { number = z }) n
    ∙ ap (λ z. record g { number = h.number; mode = z }) m
    ∙ ap (λ z. record h { first = z; minors = g.minors; last = g.last }) f
    ∙ ap (λ z. record h { minors = z; last = g.last }) ms
    ∙ ap (λ z. record h { last = z }) l

first_is_basis : (f : Form) (o : Options) (st : State) (g : Major) → IsBasis f st.basis → IsMajor f o st g → IsBasis f g.first.basis
first_is_basis f o st g b h = subst (IsBasis f) (sym h.basis) b

first_is_fresh : (f : Form) (o : Options) (st : State) (g : Major) → IsMajor f o st g → IsFresh f g.first.basis g.first.fresh
first_is_fresh f o st g h = subst (λ (b : Basis). IsFresh f b g.first.fresh) (sym h.basis) h.fresh

pub first_only : (f : Form) (o : Options) (st : State) (g h : Major) → IsBasis f st.basis → g.mode ≡ h.mode → IsMajor f o st g → IsMajor f o st h → g.first ≡ h.first
first_only f o st g h b e x y =
    let s = only_fresh f st.basis g.first.fresh h.first.fresh b x.fresh y.fresh in
    reached_same g.first h.first (x.basis ∙ sym y.basis) s (x.weights ∙ sym y.weights) (x.count ∙ sym y.count)
    (x.rows ∙ ap (λ (t : Fresh). chosen f st.basis t st.weights (most o g.mode)) s ∙ ap (λ (m : Mode). chosen f st.basis h.first.fresh st.weights (most o m)) e ∙ sym y.rows)

pub major_only : (f : Form) (o : Options) (st : State) (g h : Major) → IsBasis f st.basis → g.number ≡ h.number → g.mode ≡ h.mode → IsMajor f o st g → IsMajor f o st h → g ≡ h
major_only f o st g h b n m x y =
    let e = first_only f o st g h b m x y in
    let rest = batch_only f o.limit g.first g.minors h.minors g.last h.last (first_is_basis f o st g b x) (first_is_fresh f o st g x) x.batch
    (subst (λ (r : Reached). IsBatch f o.limit r h.minors h.last) (sym e) y.batch) in
    major_same g h n m e rest.0 rest.1

pub major_ends_fresh : (f : Form) (o : Options) (st : State) (g : Major) → IsBasis f st.basis → IsMajor f o st g → IsBasis f g.last.basis × IsFresh f g.last.basis g.last.fresh
major_ends_fresh f o st g b h = batch_ends_fresh f o.limit g.first g.minors g.last (first_is_basis f o st g b h) (first_is_fresh f o st g h) h.batch

-- ---- what follows a major goes on from a basis
abbrev pub EndsAtBasis : Form → WalkEnd → Type 0
EndsAtBasis f (Optimal st) = IsBasis f st.basis
EndsAtBasis f (Limit st) = IsBasis f st.basis
EndsAtBasis f (NoEntering place side row) = Unit {0}
EndsAtBasis f (Overflow refused) = Unit {0}

abbrev GoesOnAtBasis : Form → After → Type 0
GoesOnAtBasis f (Ends end) = EndsAtBasis f end
GoesOnAtBasis f (GoesOn mode st) = IsBasis f st.basis

refused_keeps : (f : Form) (m : Mode) (st : State) (r : Place) → IsBasis f st.basis → GoesOnAtBasis f (refused_after m st r)
refused_keeps f Full st r b = b
refused_keeps f Single st r b = tt

turn_keeps : (f : Form) (o : Options) (st : State) (g : Major) (t : Turn) → IsBasis f g.last.basis → GoesOnAtBasis f (turn_after o st g t)
turn_keeps f o st g AtLimit b = b
turn_keeps f o st g (NoRow d) b = b
turn_keeps f o st g (Stuck d r) b = tt
turn_keeps f o st g (Pivots d r s) b = b

after_keeps_by : (f : Form) (o : Options) (st : State) (g : Major) (r : Option Place) → IsBasis f st.basis → IsBasis f g.last.basis → GoesOnAtBasis f (after_by f o st g r)
after_keeps_by f o st g None b l = turn_keeps f o st g (turn f o.limit g.last) l
after_keeps_by f o st g (Some r) b l = refused_keeps f g.mode st r b

after_keeps : (f : Form) (o : Options) (st : State) (g : Major) → IsBasis f st.basis → IsMajor f o st g → GoesOnAtBasis f (after f o st g)
after_keeps f o st g b h = after_keeps_by f o st g (refused_in f o st g) b (major_ends_fresh f o st g b h).0

-- ---- ends exclude each other
optimal_not_due : (f : Form) (st : State) (s t : Fresh) → IsBasis f st.basis → IsFresh f st.basis s → IsFresh f st.basis t → infeasible_rows f st.basis s st.weights ≡ [] → NeedsMajor f st t → ⊥
optimal_not_due f st s t b x y e n = n (ap (λ (u : Fresh). infeasible_rows f st.basis u st.weights) (only_fresh f st.basis t s b y x) ∙ e)

ends_only : (f : Form) (o : Options) (st : State) (d e : WalkEnd) → IsBasis f st.basis → EndsAt f o st d → EndsAt f o st e → d ≡ e
ends_only f o st (Optimal x) (Optimal y) b h k = ap Optimal (h.0 ∙ sym k.0)
ends_only f o st (Optimal x) (Limit y) b h k = absurd (optimal_not_due f st h.1.0 k.2.0 b h.1.1 k.2.1 h.1.2 k.2.2)
ends_only f o st (Optimal x) (NoEntering p i r) b h k = absurd k
ends_only f o st (Optimal x) (Overflow r) b h k = absurd k
ends_only f o st (Limit x) (Optimal y) b h k = absurd (optimal_not_due f st k.1.0 h.2.0 b k.1.1 h.2.1 k.1.2 h.2.2)
ends_only f o st (Limit x) (Limit y) b h k = ap Limit (h.0 ∙ sym k.0)
ends_only f o st (Limit x) (NoEntering p i r) b h k = absurd k
ends_only f o st (Limit x) (Overflow r) b h k = absurd k
ends_only f o st (NoEntering p i r) e b h k = absurd h
ends_only f o st (Overflow r) e b h k = absurd h

not_ended_and_due : (f : Form) (o : Options) (number : ℕ) (mode : Mode) (st : State) (e : WalkEnd) (g : Major) → IsBasis f st.basis → EndsAt f o st e → IsDue f o number mode st g → ⊥
not_ended_and_due f o number mode st (Optimal x) g b h k = optimal_not_due f st h.1.0 g.first.fresh b h.1.1 k.major.fresh h.1.2 k.infeasible
not_ended_and_due f o number mode st (Limit x) g b h k = k.below_limit h.1
not_ended_and_due f o number mode st (NoEntering p i r) g b h k = h
not_ended_and_due f o number mode st (Overflow r) g b h k = h

due_only : (f : Form) (o : Options) (number : ℕ) (mode : Mode) (st : State) (g h : Major) → IsBasis f st.basis → IsDue f o number mode st g → IsDue f o number mode st h → g ≡ h
due_only f o number mode st g h b x y = major_only f o st g h b (x.numbered ∙ sym y.numbered) (x.in_mode ∙ sym y.in_mode) x.major y.major

-- ---- the walk
abbrev SameWalk : List Major → List Major → WalkEnd → WalkEnd → Type 0
SameWalk gs hs d e = (gs ≡ hs) × (d ≡ e)

later_only : (f : Form) (o : Options) (number : ℕ) (gs hs : List Major) (d e : WalkEnd) (a : After) → GoesOnAtBasis f a
    → ((mode : Mode) (st : State) → IsBasis f st.basis → IsWalk f o number mode st gs d → IsWalk f o number mode st hs e → SameWalk gs hs d e)
    → GoesAfter gs d a (λ mode st. IsWalk f o number mode st gs d) → GoesAfter hs e a (λ mode st. IsWalk f o number mode st hs e) → SameWalk gs hs d e
later_only f o number gs hs d e (Ends end) b rest h k = (h.0 ∙ sym k.0, h.1 ∙ sym k.1)
later_only f o number gs hs d e (GoesOn mode st) b rest h k = rest mode st b h k

pub walk_only : (f : Form) (o : Options) (number : ℕ) (mode : Mode) (st : State) (gs hs : List Major) (d e : WalkEnd) → IsBasis f st.basis
    → IsWalk f o number mode st gs d → IsWalk f o number mode st hs e → (gs ≡ hs) × (d ≡ e)
walk_only f o number mode st [] [] d e b h k = (refl, ends_only f o st d e b h k)
walk_only f o number mode st [] (i ∷ is) d e b h k = absurd (not_ended_and_due f o number mode st d i b h k.0)
walk_only f o number mode st (g ∷ gs) [] d e b h k = absurd (not_ended_and_due f o number mode st e g b k h.0)
walk_only f o number mode st (g ∷ gs) (i ∷ is) d e b h k =
    let same = due_only f o number mode st g i b h.0 k.0 in
    let rest = later_only f o (suc number) gs is d e (after f o st g) (after_keeps f o st g b h.0.major)
    (λ m t c x y. walk_only f o (suc number) m t gs is d e c x y) h.1
    (subst (λ (x : Major). GoesAfter is e (after f o st x) (λ m t. IsWalk f o (suc number) m t is e)) (sym same) k.1) in
    (ap (λ x. x ∷ gs) same ∙ ap (λ xs. i ∷ xs) rest.0, rest.1)

-- ---- it ends at a basis
no_major_ends : (f : Form) (o : Options) (st : State) (end : WalkEnd) → IsBasis f st.basis → EndsAt f o st end → EndsAtBasis f end
no_major_ends f o st (Optimal x) b h = subst (λ (t : State). IsBasis f t.basis) (sym h.0) b
no_major_ends f o st (Limit x) b h = subst (λ (t : State). IsBasis f t.basis) (sym h.0) b
no_major_ends f o st (NoEntering p i r) b h = absurd h
no_major_ends f o st (Overflow r) b h = absurd h

later_ends : (f : Form) (o : Options) (number : ℕ) (gs : List Major) (end : WalkEnd) (a : After) → GoesOnAtBasis f a
    → ((mode : Mode) (st : State) → IsBasis f st.basis → IsWalk f o number mode st gs end → EndsAtBasis f end)
    → GoesAfter gs end a (λ mode st. IsWalk f o number mode st gs end) → EndsAtBasis f end
later_ends f o number gs end (Ends found) b rest h = subst (EndsAtBasis f) (sym h.1) b
later_ends f o number gs end (GoesOn mode st) b rest h = rest mode st b h

pub walk_ends_at_basis : (f : Form) (o : Options) (number : ℕ) (mode : Mode) (st : State) (gs : List Major) (end : WalkEnd) → IsBasis f st.basis
    → IsWalk f o number mode st gs end → EndsAtBasis f end
walk_ends_at_basis f o number mode st [] end b h = no_major_ends f o st end b h
walk_ends_at_basis f o number mode st (g ∷ gs) end b h =
    later_ends f o (suc number) gs end (after f o st g) (after_keeps f o st g b h.0.major)
    (λ m t c x. walk_ends_at_basis f o (suc number) m t gs end c x) h.1
