-- From a state at a basis with what is solved there, within the limit, there is a walk: the kept pivots rise up to the limit.
use Rattle.std.proofs.Common.{◌≡◌, ℕ, zero, suc, ◌+◌, ◌-◌, ◌*◌, ◌<◌, ◌≤◌, ◌⊎◌, inl, inr, ⊎_elim, List, [], ◌∷◌, Option, None, Some, refl, sym, subst, arith}
use Rattle.std.proofs.lemmas.Bool.{cases_eq}
use Rattle.pami_theory.specs.Form.{Form}
use Rattle.pami_theory.specs.Basis.{IsBasis}
use Rattle.pami_theory.specs.Fresh.{Fresh, IsFresh}
use Rattle.pami_theory.specs.Choice.{InfeasibleRow, infeasible_rows, chosen}
use Rattle.pami_method.specs.declared.words.Place.{Place}
use Rattle.pami_method.specs.Batch.{Reached, Turn, AtLimit, NoRow, Stuck, Pivots, turn}
use Rattle.pami_method.specs.declared.words.Mode.{Mode}
use Rattle.pami_method.specs.declared.words.Mode.TheVariants.{Full, Single}
use Rattle.pami_method.specs.declared.words.Options.{Options}
use Rattle.pami_method.specs.Walk.{State, most, Major, IsMajor, refused_in, state_after, WalkEnd, Optimal, Limit, NeedsMajor, IsDue, After, Ends, GoesOn, refused_after, turn_after, after_by, after, GoesAfter, IsWalk}
use Rattle.pami_method.proofs.Walks.{major_ends_fresh}
use Rattle.pami_method.proofs.Counts.{major_within}
use Rattle.pami_method.proofs.BatchExists.{IsStuck, has_batch, major_moves}

-- ---- a major
major_first : Form → Options → State → Mode → Fresh → Reached
major_first f o st mode s = record { basis = st.basis; fresh = s; weights = st.weights; count = st.count; rows = chosen f st.basis s st.weights (most o mode) }

pub has_major : (f : Form) (o : Options) (number : ℕ) (mode : Mode) (st : State) (s : Fresh) → IsBasis f st.basis → IsFresh f st.basis s
    → (g : Major) × (g.number ≡ number) × (g.mode ≡ mode) × (g.first.fresh ≡ s) × IsMajor f o st g
unfolding major_first
has_major f o number mode st s b h =
    let x = has_batch f o.limit (major_first f o st mode s) b h in (
      record { number = number; mode = mode; first = major_first f o st mode s; minors = x.0; last = x.1 },
      refl,
      refl,
      refl,
      record { basis = refl; fresh = h; weights = refl; count = refl; rows = refl; batch = x.2 },
    )

-- ---- a measure of what is left of a walk
abbrev tries : Mode → ℕ
tries Full = 1
tries Single = 0

abbrev left : Options → Mode → State → ℕ
left o mode st = 2 * (o.limit - st.count) + tries mode

-- a state to go on from
pub record IsReady (f : Form) (o : Options) (st : State) : Type 0 where
  pub basis : IsBasis f st.basis
  pub fresh : Fresh
  pub solved : IsFresh f st.basis fresh
  pub within : st.count ≤ o.limit

abbrev GoesDown : Form → Options → ℕ → After → Type 0
GoesDown f o n (Ends end) = Unit {0}
GoesDown f o n (GoesOn mode st) = IsReady f o st × (left o mode st < n)

refused_down : (f : Form) (o : Options) (mode : Mode) (st : State) (r : Place) → IsReady f o st → GoesDown f o (left o mode st) (refused_after mode st r)
refused_down f o Full st r h = (h, omega arith)
refused_down f o Single st r h = tt

tries_one : (mode : Mode) → tries mode ≤ 1
tries_one Full = omega arith
tries_one Single = omega arith

less_left : (limit c d k j : ℕ) → c < d → d ≤ limit → j ≤ 1 → 2 * (limit - d) + j < 2 * (limit - c) + k
less_left limit c d k j h l m = omega arith

kept_down : (f : Form) (o : Options) (mode : Mode) (st : State) (g : Major) → IsReady f o st → IsMajor f o st g → st.count < g.last.count → GoesDown f o (left o mode st) (GoesOn Full (state_after o st g))
kept_down f o mode st g h m l =
    let e = major_ends_fresh f o st g h.basis m in
    let w = major_within f o st g h.within m in
    (record { basis = e.0; fresh = g.last.fresh; solved = e.1; within = w }, less_left o.limit st.count g.last.count (tries mode) 1 l w (omega arith))

turn_down : (f : Form) (o : Options) (mode : Mode) (st : State) (g : Major) (t : Turn) → IsReady f o st → IsMajor f o st g → (IsStuck t) ⊎ (st.count < g.last.count) → GoesDown f o (left o mode st) (turn_after o st g t)
turn_down f o mode st g AtLimit h m (inl k) = absurd k
turn_down f o mode st g AtLimit h m (inr k) = kept_down f o mode st g h m k
turn_down f o mode st g (NoRow d) h m (inl k) = absurd k
turn_down f o mode st g (NoRow d) h m (inr k) = kept_down f o mode st g h m k
turn_down f o mode st g (Stuck d row) h m k = tt
turn_down f o mode st g (Pivots d row s) h m (inl k) = absurd k
turn_down f o mode st g (Pivots d row s) h m (inr k) = kept_down f o mode st g h m k

after_down : (f : Form) (o : Options) (mode : Mode) (st : State) (g : Major) (r : Option Place) → g.mode ≡ mode → IsReady f o st → IsMajor f o st g
    → (IsStuck (turn f o.limit g.last)) ⊎ (st.count < g.last.count) → GoesDown f o (left o mode st) (after_by f o st g r)
after_down f o mode st g None e h m k = turn_down f o mode st g (turn f o.limit g.last) h m k
after_down f o mode st g (Some r) e h m k = subst (λ (i : Mode). GoesDown f o (left o i st) (refused_after g.mode st r)) e (refused_down f o g.mode st r h)

-- ---- walks
abbrev HasWalk : Form → Options → ℕ → Mode → State → Type 0
HasWalk f o number mode st = (gs : List Major) × (end : WalkEnd) × IsWalk f o number mode st gs end

most_some : (o : Options) (mode : Mode) → 1 ≤ o.batch → 1 ≤ most o mode
most_some o Full h = h
most_some o Single h = omega arith

goes_on : (f : Form) (o : Options) (number : ℕ) (mode : Mode) (st : State) (g : Major) (n : ℕ) (a : After) → IsDue f o number mode st g → after f o st g ≡ a → GoesDown f o n a
    → ((m : Mode) (t : State) → IsReady f o t → left o m t < n → HasWalk f o (suc number) m t) → HasWalk f o number mode st
goes_on f o number mode st g n (Ends end) due e h rest =
    (g ∷ [], end, (due, subst (λ a. GoesAfter [] end a (λ m t. IsWalk f o (suc number) m t [] end)) (sym e) (refl, refl)))
goes_on f o number mode st g n (GoesOn m t) due e h rest =
    let w = rest m t h.0 h.1 in
    (g ∷ w.0, w.1, (due, subst (λ a. GoesAfter w.0 w.1 a (λ i u. IsWalk f o (suc number) i u w.0 w.1)) (sym e) w.2))

major_walks : (f : Form) (o : Options) (number : ℕ) (mode : Mode) (st : State) → 1 ≤ o.batch → (h : IsReady f o st) → NeedsMajor f st h.fresh → ¬ (st.count ≡ o.limit)
    → ((m : Mode) (t : State) → IsReady f o t → left o m t < left o mode st → HasWalk f o (suc number) m t) → HasWalk f o number mode st
major_walks f o number mode st some h needs below rest =
    let x = has_major f o number mode st h.fresh h.basis h.solved in
    let g = x.0 in
    let due : NeedsMajor f st g.first.fresh = subst (NeedsMajor f st) (sym x.3) needs in
    let moves = major_moves f o st g (most_some o g.mode some) x.4 due below in
    goes_on f o number mode st g (left o mode st) (after f o st g) (record { numbered = x.1; in_mode = x.2; major = x.4; infeasible = due; below_limit = below }) refl
    (after_down f o mode st g (refused_in f o st g) x.2 h x.4 moves) rest

by_rows : (f : Form) (o : Options) (number : ℕ) (mode : Mode) (st : State) → 1 ≤ o.batch → (h : IsReady f o st) → (rows : List InfeasibleRow) → infeasible_rows f st.basis h.fresh st.weights ≡ rows
    → ((m : Mode) (t : State) → IsReady f o t → left o m t < left o mode st → HasWalk f o (suc number) m t) → HasWalk f o number mode st
by_rows f o number mode st some h [] e rest = ([], Optimal st, (refl, (h.fresh, h.solved, e)))
by_rows f o number mode st some h (x ∷ xs) e rest =
    let needs : NeedsMajor f st h.fresh = λ k. cc in
    ⊎_elim
    (λ (k : st.count ≡ o.limit). ([], Limit st, (refl, k, (h.fresh, h.solved, needs))))
    (λ (k : ¬ (st.count ≡ o.limit)). major_walks f o number mode st some h needs k rest)
    (cases_eq st.count o.limit)

walk_within_left : (n : ℕ) (f : Form) (o : Options) (number : ℕ) (mode : Mode) (st : State) → left o mode st < n → 1 ≤ o.batch → IsReady f o st → HasWalk f o number mode st
walk_within_left zero f o number mode st l some h = absurd (omega arith)
walk_within_left (suc n) f o number mode st l some h =
    by_rows f o number mode st some h (infeasible_rows f st.basis h.fresh st.weights) refl (λ m t k i. walk_within_left n f o (suc number) m t (omega arith) some k)

pub has_walk : (f : Form) (o : Options) (number : ℕ) (mode : Mode) (st : State) → 1 ≤ o.batch → IsReady f o st → (gs : List Major) × (end : WalkEnd) × IsWalk f o number mode st gs end
has_walk f o number mode st some h = walk_within_left (suc (left o mode st)) f o number mode st (omega arith) some h
