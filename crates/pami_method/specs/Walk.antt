-- A walk: major iterations from a basis on until there is an answer.
use Rattle.std.specs.Prelude.{◌≡◌, ℕ, ◌≤◌, suc, Bool, true, false, List, [], ◌∷◌, ◌++◌, map, Option, None, Some}
use Rattle.pami_algebra.specs.Fraction.{Fraction}
use Rattle.pami_theory.specs.Form.{Form}
use Rattle.pami_theory.specs.Basis.{Basis}
use Rattle.pami_theory.specs.Fresh.{Fresh, IsFresh, row_at}
use Rattle.pami_theory.specs.declared.words.Side.{Side}
use Rattle.pami_theory.specs.Choice.{infeasible_rows, chosen}
use Rattle.pami_method.specs.declared.words.Mode.{Mode}
use Rattle.pami_method.specs.declared.words.Mode.TheVariants.{Full, Single}
use Rattle.pami_method.specs.declared.words.Options.{Options}
use Rattle.pami_method.specs.declared.words.Place.{Place}
use Rattle.pami_method.specs.Factor.{History, is_worn}
use Rattle.pami_method.specs.Batch.{Reached, Minor, Turn, AtLimit, NoRow, Stuck, Pivots, turn, IsBatch}
use Rattle.pami_method.specs.Work.{work, first_refused, pivot_of}

-- the most rows of a batch, the most pivots that a factor is kept for, and the most pivots that may be allowed
abbrev pub greatest_batch : ℕ
greatest_batch = 8

abbrev pub greatest_refactor : ℕ
greatest_refactor = 64

abbrev pub greatest_limit : ℕ
greatest_limit = 1000000

-- the options in their ranges
pub record IsOptions (o : Options) : Type 0 where
  pub some_row : 1 ≤ o.batch
  pub batch : o.batch ≤ greatest_batch
  pub refactor : o.refactor ≤ greatest_refactor
  pub limit : o.limit ≤ greatest_limit

-- between two majors: a basis, the weights by place, the kept pivots, and the factor's history where there is a factor
pub record State : Type 0 where
  pub basis : Basis
  pub weights : List ℕ
  pub count : ℕ
  pub history : Option History

abbrev pub most : Options → Mode → ℕ
most o Full = o.batch
most o Single = 1

abbrev pub eliminates_anew : Options → Mode → Option History → Bool
eliminates_anew o Full h = is_worn o.refactor h
eliminates_anew o Single h = true

-- ---- one major

-- a major that was tried: its number, its mode, what it began with, its pivots, and what it had reached behind them
pub record Major : Type 0 where
  pub number : ℕ
  pub mode : Mode
  pub first : Reached
  pub minors : List Minor
  pub last : Reached

-- a major in this mode from a state: the chosen rows at fresh values, and their batch
pub record IsMajor (f : Form) (o : Options) (st : State) (g : Major) : Type 0 where
  pub basis : g.first.basis ≡ st.basis
  pub fresh : IsFresh f st.basis g.first.fresh
  pub weights : g.first.weights ≡ st.weights
  pub count : g.first.count ≡ st.count
  pub rows : g.first.rows ≡ chosen f st.basis g.first.fresh st.weights (most o g.mode)
  pub batch : IsBatch f o.limit g.first g.minors g.last

-- the history of the factor that the major works with
abbrev pub history_by : Bool → Basis → Option History → History
history_by true b h = record { head = b.head; pivots = [] }
history_by false b None = record { head = b.head; pivots = [] }
history_by false b (Some h) = h

abbrev pub history_of : Options → State → Major → History
history_of o st g = history_by (eliminates_anew o g.mode st.history) st.basis st.history

-- the first operation of the major's scripts that doesn't fit
abbrev pub refused_in : Form → Options → State → Major → Option Place
refused_in f o st g = first_refused (work f o.limit (history_of o st g) (eliminates_anew o g.mode st.history) g.first g.minors g.last)

-- the state behind a major that is kept
abbrev pub state_after : Options → State → Major → State
state_after o st g = record {
  basis = g.last.basis;
  weights = g.last.weights;
  count = g.last.count;
  history = Some (record { head = (history_of o st g).head; pivots = (history_of o st g).pivots ++ map pivot_of g.minors });
}

-- ---- the walk

pub data WalkEnd : Type 0 where
  Optimal : State → WalkEnd
  Limit : State → WalkEnd
  -- the row has no entering variable; `row` is its place's row of the inverse then, by row
  NoEntering : (place : ℕ) → Side → (row : List Fraction) → WalkEnd
  Overflow : Place → WalkEnd

-- some place is infeasible at these values
abbrev pub NeedsMajor : Form → State → Fresh → Type 0
NeedsMajor f st s = ¬ (infeasible_rows f st.basis s st.weights ≡ [])

-- no major is due
abbrev pub EndsAt : Form → Options → State → WalkEnd → Type 0
EndsAt f o st (Optimal end) = (end ≡ st) × ((s : Fresh) × IsFresh f st.basis s × (infeasible_rows f st.basis s st.weights ≡ []))
EndsAt f o st (Limit end) = (end ≡ st) × (st.count ≡ o.limit) × ((s : Fresh) × IsFresh f st.basis s × NeedsMajor f st s)
EndsAt f o st (NoEntering place side row) = ⊥
EndsAt f o st (Overflow refused) = ⊥

-- a major is due, and g is it
pub record IsDue (f : Form) (o : Options) (number : ℕ) (mode : Mode) (st : State) (g : Major) : Type 0 where
  pub numbered : g.number ≡ number
  pub in_mode : g.mode ≡ mode
  pub major : IsMajor f o st g
  pub infeasible : NeedsMajor f st g.first.fresh
  pub below_limit : ¬ (st.count ≡ o.limit)

-- what follows a major: a Full one that is refused is rolled back, and a Single one follows from the same state; a refusal
-- in a Single one ends the walk; so does a row without an entering variable; else the next one is Full
pub data After : Type 0 where
  Ends : WalkEnd → After
  GoesOn : Mode → State → After

abbrev pub refused_after : Mode → State → Place → After
refused_after Full st refused = GoesOn Single st
refused_after Single st refused = Ends (Overflow refused)

abbrev pub turn_after : Options → State → Major → Turn → After
turn_after o st g AtLimit = GoesOn Full (state_after o st g)
turn_after o st g (NoRow dropped) = GoesOn Full (state_after o st g)
turn_after o st g (Stuck dropped row) = Ends (NoEntering row.place row.violation.side (row_at g.last.fresh row.place))
turn_after o st g (Pivots dropped row step) = GoesOn Full (state_after o st g)

abbrev pub after_by : Form → Options → State → Major → Option Place → After
after_by f o st g (Some refused) = refused_after g.mode st refused
after_by f o st g None = turn_after o st g (turn f o.limit g.last)

abbrev pub after : Form → Options → State → Major → After
after f o st g = after_by f o st g (refused_in f o st g)

-- behind a major the walk ends with it, or goes on from what it leaves
abbrev pub GoesAfter : List Major → WalkEnd → After → (Mode → State → Type 0) → Type 0
GoesAfter gs end (Ends found) goes_on = (gs ≡ []) × (end ≡ found)
GoesAfter gs end (GoesOn mode st) goes_on = goes_on mode st

-- the majors that were tried from a state on, the first with this number and in this mode, and the walk's end
abbrev pub IsWalk : Form → Options → ℕ → Mode → State → List Major → WalkEnd → Type 0
IsWalk f o number mode st [] end = EndsAt f o st end
IsWalk f o number mode st (g ∷ gs) end =
    IsDue f o number mode st g × GoesAfter gs end (after f o st g) (λ mode st. IsWalk f o (suc number) mode st gs end)
