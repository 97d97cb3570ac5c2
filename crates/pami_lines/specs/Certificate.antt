-- The lines of certificates: that values and reduced costs are best, that rows can't be met, that a direction never ends.
use Rattle.std.specs.Prelude.{ℕ, ◌+◌, suc, List, [], ◌∷◌, ◌++◌, map, length, Option, None, Some, Result, Ok, Err, codes}
use Rattle.pami_algebra.specs.Fraction.{Fraction}
use Rattle.pami_linear.specs.Lists.{get}
use Rattle.pami_frac.specs.Printed.{printed}
use Rattle.pami_frac.specs.declared.arithmetic.Refused.{Refused}
use Rattle.pami_script.specs.Script.{add_dot}
use Rattle.pami_lines.specs.Head.{Counts}
use Rattle.pami_lines.specs.Names.{Names}

-- a model as a text names it: its names, its counts, the constant of its objective and its own costs by column
pub record Named : Type 0 where
  pub names : Names
  pub counts : Counts
  pub constant : Fraction
  pub cost : ℕ → Fraction

-- the line of an answer, from the words behind its first
abbrev pub answer_line : List (List ℕ) → List (List ℕ)
answer_line words = codes "answer" ∷ words

-- ---- optimal

-- a name with the value and the reduced cost (of a row: the dual value) of its variable
pub record Valued : Type 0 where
  pub name : List ℕ
  pub value : Fraction
  pub reduced : Fraction

-- the names of variables from number v on, with their values and reduced costs
abbrev pub valued_from : ℕ → List (List ℕ) → (ℕ → Fraction) → (ℕ → Fraction) → List Valued
valued_from v [] x d = []
valued_from v (name ∷ names) x d = record { name = name; value = x v; reduced = d v } ∷ valued_from (v + 1) names x d

-- an optimal certificate: the objective (None where an operation of its sum is refused), each column, each row
pub record Optimal : Type 0 where
  pub objective : Option Fraction
  pub columns : List Valued
  pub rows : List Valued

-- a value; None for a refusal
abbrev pub kept_or_none : Result Fraction Refused → Option Fraction
kept_or_none (Ok value) = Some value
kept_or_none (Err refused) = None

-- the objective: the constant, and each cost times its value, columns ascending; None where an operation doesn't fit
abbrev pub objective_in : Named → (ℕ → Fraction) → Option Fraction
objective_in m x = kept_or_none (add_dot m.counts.columns m.cost x m.constant)

-- the certificate of these values and reduced costs, by variable
abbrev pub certificate_of : Named → (ℕ → Fraction) → (ℕ → Fraction) → Optimal
certificate_of m x d = record {
  objective = objective_in m x;
  columns = valued_from 0 m.names.columns x d;
  rows = valued_from (length m.names.columns) m.names.rows x d;
}

-- the objective; `wide` where there is none
abbrev pub objective_word : Option Fraction → List ℕ
objective_word None = codes "wide"
objective_word (Some v) = printed v

-- the line of a variable: a tag, its name, its value and its reduced cost
abbrev pub valued_line : List ℕ → Valued → List (List ℕ)
valued_line tag v = tag ∷ v.name ∷ printed v.value ∷ printed v.reduced ∷ []

-- the lines of an optimal certificate
abbrev pub optimal_lines : Optimal → List (List (List ℕ))
optimal_lines o =
    (codes "certificate" ∷ codes "1" ∷ codes "optimal" ∷ []) ∷
    (codes "objective" ∷ objective_word o.objective ∷ []) ∷
    (map (valued_line (codes "x")) o.columns ++ (map (valued_line (codes "r")) o.rows ++ (codes "end" ∷ []) ∷ []))

-- ---- infeasible, and dual infeasible

-- one value behind each name, from number v on
abbrev pub named_lines : List ℕ → ℕ → List (List ℕ) → (ℕ → Fraction) → List (List (List ℕ))
named_lines tag v [] x = []
named_lines tag v (name ∷ names) x = (tag ∷ name ∷ printed (x v) ∷ []) ∷ named_lines tag (suc v) names x

-- the lines of a certificate of infeasibility: the multiplier of each row
abbrev pub infeasible_lines : Named → List Fraction → List (List (List ℕ))
infeasible_lines m y =
    (codes "certificate" ∷ codes "1" ∷ codes "infeasible" ∷ []) ∷
    (named_lines (codes "r") 0 m.names.rows (get y) ++ (codes "end" ∷ []) ∷ [])

-- the direction, by variable
abbrev pub dual_infeasible_lines : Named → List Fraction → List (List (List ℕ))
dual_infeasible_lines m z =
    (codes "certificate" ∷ codes "1" ∷ codes "dual-infeasible" ∷ []) ∷
    (named_lines (codes "x") 0 m.names.columns (get z) ++
    (named_lines (codes "r") (length m.names.columns) m.names.rows (get z) ++ (codes "end" ∷ []) ∷ []))
