-- How many pivots a batch and a walk take.
use Rattle.std.proofs.Common.{◌≡◌, ℕ, suc, ◌+◌, ◌≤◌, List, [], ◌∷◌, length, Option, None, Some, sym, ap, ◌∙◌, subst, arith}
use Rattle.std.specs.List.{All}
use Rattle.std.proofs.lemmas.List.Elements.{All-nil, All-cons}
use Rattle.pami_theory.specs.Form.{Form}
use Rattle.pami_method.specs.declared.words.Place.{Place}
use Rattle.pami_method.specs.Batch.{Reached, Minor, Turn, AtLimit, NoRow, Stuck, Pivots, turn, IsBatch}
use Rattle.pami_method.specs.declared.words.Mode.{Mode}
use Rattle.pami_method.specs.declared.words.Mode.TheVariants.{Full, Single}
use Rattle.pami_method.specs.declared.words.Options.{Options}
use Rattle.pami_method.specs.Walk.{State, Major, IsMajor, refused_in, WalkEnd, Optimal, Limit, NoEntering, Overflow, EndsAt, After, Ends, GoesOn, refused_after, turn_after, after_by, after, GoesAfter, IsWalk}
use Rattle.pami_method.proofs.Turns.{pivot_parts, next_rows_fewer}

-- ---- a batch
same_count : (r s : Reached) → r ≡ s → r.count ≡ s.count
same_count r s e = ap (λ (x : Reached). x.count) e

pub batch_counts : (f : Form) (limit : ℕ) (first : Reached) (ms : List Minor) (last : Reached) → IsBatch f limit first ms last → last.count ≡ first.count + length ms
batch_counts f limit first [] last h = same_count last first h.0 ∙ omega arith
batch_counts f limit first (m ∷ ms) last h =
    let e : last.count ≡ h.2.count + length ms = batch_counts f limit h.2 ms last h.4 in
    let c : h.2.count ≡ suc m.reached.count = h.3.count in
    let r : m.reached.count ≡ first.count = same_count m.reached first h.0 in
    omega arith

pub batch_within : (f : Form) (limit : ℕ) (first : Reached) (ms : List Minor) (last : Reached) → IsBatch f limit first ms last → first.count ≤ limit → last.count ≤ limit
batch_within f limit first [] last h l = let e : last.count ≡ first.count = same_count last first h.0 in omega arith
batch_within f limit first (m ∷ ms) last h l =
    let n = (pivot_parts f limit first m.dropped m.row m.step h.1).0 in
    let c : h.2.count ≡ suc m.reached.count = h.3.count in
    let r : m.reached.count ≡ first.count = same_count m.reached first h.0 in
    batch_within f limit h.2 ms last h.4 (omega (arith, n))

-- each pivot takes a row
pub batch_rows : (f : Form) (limit : ℕ) (first : Reached) (ms : List Minor) (last : Reached) → IsBatch f limit first ms last → length last.rows + length ms ≤ length first.rows
batch_rows f limit first [] last h = let e : length last.rows ≡ length first.rows = ap (λ (r : Reached). length r.rows) h.0 in omega arith
batch_rows f limit first (m ∷ ms) last h =
    let t : turn f limit m.reached ≡ Pivots m.dropped m.row m.step = ap (turn f limit) h.0 ∙ h.1 in
    let less = next_rows_fewer f limit m h.2 t h.3 in
    let rest = batch_rows f limit h.2 ms last h.4 in
    let r : length m.reached.rows ≡ length first.rows = ap (λ (x : Reached). length x.rows) h.0 in
    omega arith

-- ---- a walk
abbrev pub EndsWithin : ℕ → WalkEnd → Type 0
EndsWithin limit (Optimal st) = st.count ≤ limit
EndsWithin limit (Limit st) = st.count ≤ limit
EndsWithin limit (NoEntering place side row) = Unit {0}
EndsWithin limit (Overflow refused) = Unit {0}

abbrev GoesOnWithin : ℕ → After → Type 0
GoesOnWithin limit (Ends end) = EndsWithin limit end
GoesOnWithin limit (GoesOn mode st) = st.count ≤ limit

refused_within : (limit : ℕ) (mode : Mode) (st : State) (r : Place) → st.count ≤ limit → GoesOnWithin limit (refused_after mode st r)
refused_within limit Full st r l = l
refused_within limit Single st r l = tt

turn_within : (o : Options) (st : State) (g : Major) (t : Turn) → g.last.count ≤ o.limit → GoesOnWithin o.limit (turn_after o st g t)
turn_within o st g AtLimit l = l
turn_within o st g (NoRow d) l = l
turn_within o st g (Stuck d row) l = tt
turn_within o st g (Pivots d row s) l = l

after_within : (f : Form) (o : Options) (st : State) (g : Major) (r : Option Place) → st.count ≤ o.limit → g.last.count ≤ o.limit → GoesOnWithin o.limit (after_by f o st g r)
after_within f o st g None l m = turn_within o st g (turn f o.limit g.last) m
after_within f o st g (Some r) l m = refused_within o.limit g.mode st r l

pub major_within : (f : Form) (o : Options) (st : State) (g : Major) → st.count ≤ o.limit → IsMajor f o st g → g.last.count ≤ o.limit
major_within f o st g l h = let e : g.first.count ≡ st.count = h.count in batch_within f o.limit g.first g.minors g.last h.batch (omega arith)

abbrev pub MajorsWithin : ℕ → List Major → Type 0
MajorsWithin limit [] = Unit {0}
MajorsWithin limit (g ∷ gs) = (g.last.count ≤ limit) × MajorsWithin limit gs

pub all_majors_within : (limit : ℕ) (gs : List Major) → MajorsWithin limit gs → All (λ (g : Major). g.last.count ≤ limit) gs
all_majors_within limit [] h = All-nil (λ (g : Major). g.last.count ≤ limit)
all_majors_within limit (g ∷ gs) h = All-cons (λ (x : Major). x.last.count ≤ limit) g gs h.0 (all_majors_within limit gs h.1)

no_major_within : (f : Form) (o : Options) (st : State) (end : WalkEnd) → st.count ≤ o.limit → EndsAt f o st end → EndsWithin o.limit end
no_major_within f o st (Optimal x) l h = subst (λ (t : State). t.count ≤ o.limit) (sym h.0) l
no_major_within f o st (Limit x) l h = subst (λ (t : State). t.count ≤ o.limit) (sym h.0) l
no_major_within f o st (NoEntering p i r) l h = absurd h
no_major_within f o st (Overflow r) l h = absurd h

later_within : (f : Form) (o : Options) (number : ℕ) (gs : List Major) (end : WalkEnd) (a : After) → GoesOnWithin o.limit a
    → ((mode : Mode) (st : State) → st.count ≤ o.limit → IsWalk f o number mode st gs end → MajorsWithin o.limit gs × EndsWithin o.limit end)
    → GoesAfter gs end a (λ mode st. IsWalk f o number mode st gs end) → MajorsWithin o.limit gs × EndsWithin o.limit end
later_within f o number gs end (Ends found) l rest h = (subst (MajorsWithin o.limit) (sym h.0) tt, subst (EndsWithin o.limit) (sym h.1) l)
later_within f o number gs end (GoesOn mode st) l rest h = rest mode st l h

pub walk_within : (f : Form) (o : Options) (number : ℕ) (mode : Mode) (st : State) (gs : List Major) (end : WalkEnd) → st.count ≤ o.limit → IsWalk f o number mode st gs end
    → MajorsWithin o.limit gs × EndsWithin o.limit end
walk_within f o number mode st [] end l h = (tt, no_major_within f o st end l h)
walk_within f o number mode st (g ∷ gs) end l h =
    let m = major_within f o st g l h.0.major in
    let rest = later_within f o (suc number) gs end (after f o st g) (after_within f o st g (refused_in f o st g) l m) (λ i t k x. walk_within f o (suc number) i t gs end k x) h.1 in
    ((m, rest.0), rest.1)
