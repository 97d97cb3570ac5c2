-- Factors of a basis: an elimination and the pivots since, in product form.
use Rattle.std.specs.Prelude.{ℕ, Bool, true, List, length, map, Option, None, Some, Result, Ok, Err, nat_lt}
use Rattle.std.specs.List.{range_with_len}
use Rattle.pami_algebra.specs.Fraction.{Fraction}
use Rattle.pami_frac.specs.declared.arithmetic.Refused.{Refused}
use Rattle.pami_factoring.specs.declared.kept.Kept.{Kept}
use Rattle.pami_factoring.specs.declared.kept.LuFault.{LuFault}
use Rattle.pami_factoring.specs.declared.kept.LuFault.TheVariants.{Singular, Refused as Unfit}
use Rattle.pami_factoring.specs.Factor.{elimination_script}
use Rattle.pami_factoring.specs.Solve.{ColumnPivot}
use Rattle.pami_theory.specs.Form.{Form, coefficient}
use Rattle.pami_method.specs.Task.{Task, refusal}
use Rattle.pami_method.specs.declared.words.Spot.{Spot}

-- the head at the last elimination, and the pivots since, the first one first
pub record History : Type 0 where
  pub head : List ℕ
  pub pivots : List ColumnPivot

-- the matrix of a head: its rows, each by place
abbrev pub head_row : Form → List ℕ → ℕ → List Fraction
head_row f head i = map (λ v. coefficient f v i) head

abbrev pub head_matrix : Form → List ℕ → List (List Fraction)
head_matrix f head = map (head_row f head) (range_with_len 0 f.rows)

-- its elimination
abbrev pub elimination : Form → List ℕ → Result (List Kept) LuFault
elimination f head = elimination_script (head_matrix f head)

-- the first operation of an elimination that doesn't fit; that a matrix is singular is no operation
abbrev pub unfit : Result (List Kept) LuFault → Option Refused
unfit (Ok steps) = None
unfit (Err (Singular place)) = None
unfit (Err (Unfit refused)) = Some refused

-- the first refused operation of a script that uses the steps of a history's elimination; there is none without steps
abbrev pub refusal_by : {A : Type 0} → Result (List Kept) LuFault → (List Kept → Result A Refused) → Option Refused
refusal_by (Ok steps) script = refusal (script steps)
refusal_by (Err fault) script = None

-- as a task
abbrev pub solve_task : {A : Type 0} → Spot → Form → History → (List Kept → Result A Refused) → Task
solve_task spot f h script = record { spot = spot; refusal = refusal_by (elimination f h.head) script }

-- whether a Full major eliminates anew: there is no factor, or it has more pivots than `refactor`
abbrev pub is_worn : ℕ → Option History → Bool
is_worn refactor None = true
is_worn refactor (Some h) = nat_lt refactor (length h.pivots)
