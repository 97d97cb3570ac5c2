-- From a basis with what is solved there, there is a batch; and a major that is due pivots or lacks an entering variable.
use Rattle.std.proofs.Common.{◌≡◌, ℕ, zero, suc, ◌<◌, ◌≤◌, ◌⊎◌, inl, inr, ⊎_elim, Bool, true, false, cond, not, nat_eq, int_lt, List, [], ◌∷◌, take, length, Option, None, Some, refl, sym, ap, ◌∙◌, subst, arith}
use Rattle.std.specs.List.{filter, filter_map}
use Rattle.std.proofs.lemmas.Bool.{eqb-true}
use Rattle.std.proofs.lemmas.Int.{ints}
use lib.IntN.{ℤ, pos, ◌-ℤ◌}
use Rattle.pami_theory.specs.Form.{Form}
use Rattle.pami_theory.specs.Basis.{Basis, IsBasis}
use Rattle.pami_theory.specs.Fresh.{Fresh, IsFresh, column_at}
use Rattle.pami_theory.specs.Order.{ordered}
use Rattle.pami_theory.specs.Step.{Step, basis_after}
use Rattle.pami_theory.specs.Weights.{weights_after}
use Rattle.pami_theory.specs.Choice.{InfeasibleRow, infeasible_at, is_chosen_before, infeasible_rows, chosen}
use Rattle.pami_theory.proofs.Members.{Has, contains_from, has_filter}
use Rattle.pami_theory.proofs.Orders.{ordered_has, has_ordered}
use Rattle.pami_theory.proofs.Chosen.{has_filter_map, rows_are}
use Rattle.pami_theory.proofs.Solved.{has_fresh}
use Rattle.pami_theory.proofs.Steps.{step_is_basis, step_regular}
use Rattle.pami_method.specs.Batch.{Reached, Minor, Turn, AtLimit, NoRow, Stuck, Pivots, row_now, keeps_merit, is_attractive, staying, dropped, with_step, with_rows, turn, IsNext, EndsBatch, IsBatch}
use Rattle.pami_method.specs.declared.words.Options.{Options}
use Rattle.pami_method.specs.Walk.{State, most, Major, IsMajor, NeedsMajor}
use Rattle.pami_method.proofs.Turns.{pivot_takes_step, next_rows_fewer}
use Rattle.pami_method.proofs.Counts.{batch_counts}

-- ---- batches
abbrev HasBatch : Form → ℕ → Reached → Type 0
HasBatch f limit first = (ms : List Minor) × (last : Reached) × IsBatch f limit first ms last

next_reached : (f : Form) (first : Reached) (d : List ℕ) (row : InfeasibleRow) (t : Step) → Fresh → Reached
next_reached f first d row t s = record {
  basis = basis_after first.basis t;
  fresh = s;
  weights = weights_after (column_at first.fresh t.entering) t.place first.weights;
  count = suc first.count;
  rows = filter (λ (x : InfeasibleRow). not (nat_eq x.place t.place)) (staying f first);
}

is_next : (f : Form) (first : Reached) (d : List ℕ) (row : InfeasibleRow) (t : Step) (s : Fresh) → IsFresh f (basis_after first.basis t) s
    → IsNext f (record { reached = first; dropped = d; row = row; step = t }) (next_reached f first d row t s)
unfolding next_reached
is_next f first d row t s h = record { basis = refl; fresh = h; weights = refl; count = refl; rows = refl }

next_is_reached : (f : Form) (first : Reached) (d : List ℕ) (row : InfeasibleRow) (t : Step) (s : Fresh) → IsBasis f (basis_after first.basis t) → IsFresh f (basis_after first.basis t) s
    → IsBasis f (next_reached f first d row t s).basis × IsFresh f (next_reached f first d row t s).basis (next_reached f first d row t s).fresh
unfolding next_reached
next_is_reached f first d row t s b h = (b, h)

one_more : (f : Form) (limit : ℕ) (first : Reached) (d : List ℕ) (row : InfeasibleRow) (t : Step) → IsBasis f first.basis → IsFresh f first.basis first.fresh → turn f limit first ≡ Pivots d row t
    → ((next : Reached) → IsBasis f next.basis → IsFresh f next.basis next.fresh → length next.rows < length first.rows → HasBatch f limit next) → HasBatch f limit first
one_more f limit first d row t b s e rest =
    let m : Minor = record { reached = first; dropped = d; row = row; step = t } in
    let takes = pivot_takes_step f limit first d row t b s e in
    let nb = step_is_basis f first.basis first.fresh row.place row.violation t takes in
    let fresh = has_fresh f (basis_after first.basis t) nb (step_regular f first.basis first.fresh row.place row.violation t takes) in
    let next = next_reached f first d row t fresh.0 in
    let n = is_next f first d row t fresh.0 fresh.1 in
    let r = next_is_reached f first d row t fresh.0 nb fresh.1 in
    let fewer = next_rows_fewer f limit m next e n in
    let more = rest next r.0 r.1 (omega arith) in
    (m ∷ more.0, more.1, (refl, e, next, n, more.2))

by_turn : (f : Form) (limit : ℕ) (first : Reached) (t : Turn) → turn f limit first ≡ t → IsBasis f first.basis → IsFresh f first.basis first.fresh
    → ((next : Reached) → IsBasis f next.basis → IsFresh f next.basis next.fresh → length next.rows < length first.rows → HasBatch f limit next) → HasBatch f limit first
by_turn f limit first AtLimit e b s rest = ([], first, (refl, subst EndsBatch (sym e) tt))
by_turn f limit first (NoRow d) e b s rest = ([], first, (refl, subst EndsBatch (sym e) tt))
by_turn f limit first (Stuck d row) e b s rest = ([], first, (refl, subst EndsBatch (sym e) tt))
by_turn f limit first (Pivots d row t) e b s rest = one_more f limit first d row t b s e rest

batch_within_rows : (n : ℕ) (f : Form) (limit : ℕ) (first : Reached) → length first.rows < n → IsBasis f first.basis → IsFresh f first.basis first.fresh → HasBatch f limit first
batch_within_rows zero f limit first l b s = absurd (omega arith)
batch_within_rows (suc n) f limit first l b s = by_turn f limit first (turn f limit first) refl b s (λ next c t k. batch_within_rows n f limit next (omega arith) c t)

pub has_batch : (f : Form) (limit : ℕ) (first : Reached) → IsBasis f first.basis → IsFresh f first.basis first.fresh → (ms : List Minor) × (last : Reached) × IsBatch f limit first ms last
has_batch f limit first b s = batch_within_rows (suc (length first.rows)) f limit first (omega arith) b s

-- ---- the first turn of a major that is due
abbrev pub IsBusy : Turn → Type 0
IsBusy AtLimit = ⊥
IsBusy (NoRow dropped) = ⊥
IsBusy (Stuck dropped row) = Unit {0}
IsBusy (Pivots dropped row step) = Unit {0}

busy_step : (d : List ℕ) (row : InfeasibleRow) (o : Option Step) → IsBusy (with_step d row o)
busy_step d row None = tt
busy_step d row (Some t) = tt

busy_rows : (f : Form) (r : Reached) (rows : List InfeasibleRow) (x : InfeasibleRow) → Has rows x → IsBusy (with_rows f r rows)
busy_rows f r [] x h = absurd h
busy_rows f r (row ∷ rows) x h = busy_step (dropped f r) row _

busy_by : (f : Form) (r : Reached) (rows : List InfeasibleRow) (x : InfeasibleRow) (b : Bool) → ¬ (b ≡ true) → Has rows x → IsBusy (cond b AtLimit (with_rows f r rows))
busy_by f r rows x true n h = absurd (n refl)
busy_by f r rows x false n h = busy_rows f r rows x h

below_itself : (m : ℤ) → int_lt m (m -ℤ pos 2) ≡ false
below_itself m = grind (arith, ints)

-- a row that is as it was when it was chosen is attractive
same_merit : (row : InfeasibleRow) (now : Option InfeasibleRow) → now ≡ Some row → keeps_merit row now ≡ true
same_merit row now e = ap (keeps_merit row) e ∙ ap not (below_itself row.merit)

chosen_stays : (f : Form) (r : Reached) (x : InfeasibleRow) → Has r.rows x → row_now f r x ≡ Some x → Has (filter_map (row_now f r) (staying f r)) x
chosen_stays f r x h e =
    has_filter_map (row_now f r) (staying f r) x x (has_filter (is_attractive f r) r.rows x h (same_merit x (row_now f r x) e)) e

some_row : (rows : List InfeasibleRow) → ¬ (rows ≡ []) → (x : InfeasibleRow) × Has rows x
some_row [] n = absurd (n refl)
some_row (x ∷ xs) n = (x, inl refl)

ordered_some : (rows : List InfeasibleRow) → (x : InfeasibleRow) × Has rows x → ¬ (ordered is_chosen_before rows ≡ [])
ordered_some rows h e = subst (λ xs. Has xs h.0) e (has_ordered is_chosen_before rows h.0 h.1)

take_some : (n : ℕ) (rows : List InfeasibleRow) → 1 ≤ n → ¬ (rows ≡ []) → (x : InfeasibleRow) × Has (take n rows) x × Has rows x
take_some zero rows l h = absurd (omega arith)
take_some (suc n) [] l h = absurd (h refl)
take_some (suc n) (x ∷ xs) l h = (x, inl refl, inl refl)

chosen_some : (f : Form) (b : Basis) (s : Fresh) (weights : List ℕ) (n : ℕ) → 1 ≤ n → ¬ (infeasible_rows f b s weights ≡ []) → (x : InfeasibleRow) × Has (chosen f b s weights n) x × (infeasible_at f b s weights x.place ≡ Some x)
chosen_some f b s weights n l h =
    let rows = infeasible_rows f b s weights in
    let x = take_some n (ordered is_chosen_before rows) l (ordered_some rows (some_row rows h)) in
    (x.0, x.1, ((rows_are f b s weights x.0).0 (contains_from rows x.0 (ordered_has is_chosen_before rows x.0 x.2))).1)

first_row : (f : Form) (o : Options) (st : State) (g : Major) → 1 ≤ most o g.mode → IsMajor f o st g → NeedsMajor f st g.first.fresh → (x : InfeasibleRow) × Has g.first.rows x × (row_now f g.first x ≡ Some x)
first_row f o st g l h n =
    let x = chosen_some f st.basis g.first.fresh st.weights (most o g.mode) l n in (
      x.0,
      subst (λ rows. Has rows x.0) (sym h.rows) x.1,
      ap (λ b. infeasible_at f b g.first.fresh g.first.weights x.0.place) h.basis ∙ ap (λ w. infeasible_at f st.basis g.first.fresh w x.0.place) h.weights ∙ x.2,
    )

pub first_turn_busy : (f : Form) (o : Options) (st : State) (g : Major) → 1 ≤ most o g.mode → IsMajor f o st g → NeedsMajor f st g.first.fresh → ¬ (st.count ≡ o.limit) → IsBusy (turn f o.limit g.first)
first_turn_busy f o st g l h n below =
    let x = first_row f o st g l h n in
    let rows = filter_map (row_now f g.first) (staying f g.first) in
    busy_by f g.first (ordered is_chosen_before rows) x.0 (nat_eq g.first.count o.limit) (λ e. below (sym h.count ∙ eqb-true g.first.count o.limit e))
    (has_ordered is_chosen_before rows x.0 (chosen_stays f g.first x.0 x.1 x.2))

-- ---- a major pivots, or no variable enters at once
abbrev pub IsStuck : Turn → Type 0
IsStuck AtLimit = ⊥
IsStuck (NoRow dropped) = ⊥
IsStuck (Stuck dropped row) = Unit {0}
IsStuck (Pivots dropped row step) = ⊥

busy_end : (t : Turn) → IsBusy t → EndsBatch t → IsStuck t
busy_end AtLimit h k = h
busy_end (NoRow d) h k = h
busy_end (Stuck d row) h k = tt
busy_end (Pivots d row s) h k = k

batch_moves : (f : Form) (limit : ℕ) (first : Reached) (ms : List Minor) (last : Reached) → IsBusy (turn f limit first) → IsBatch f limit first ms last → (IsStuck (turn f limit last)) ⊎ (first.count < last.count)
batch_moves f limit first [] last b h = inl (subst (λ (r : Reached). IsStuck (turn f limit r)) (sym h.0) (busy_end (turn f limit first) b h.1))
batch_moves f limit first (m ∷ ms) last b h = let e = batch_counts f limit first (m ∷ ms) last h in inr (omega arith)

pub major_moves : (f : Form) (o : Options) (st : State) (g : Major) → 1 ≤ most o g.mode → IsMajor f o st g → NeedsMajor f st g.first.fresh → ¬ (st.count ≡ o.limit) → (IsStuck (turn f o.limit g.last)) ⊎ (st.count < g.last.count)
major_moves f o st g l h n below = ⊎_elim
    (λ (k : IsStuck (turn f o.limit g.last)). inl k)
    (λ (k : g.first.count < g.last.count). let e : g.first.count ≡ st.count = h.count in inr (omega arith))
    (batch_moves f o.limit g.first g.minors g.last (first_turn_busy f o st g l h n below) h.batch)
