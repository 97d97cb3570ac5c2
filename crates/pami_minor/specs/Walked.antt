-- The ratio walk of a row that leaves and the step behind it, over a form's lists and those of a batch. Stands and reduced
-- costs go by variable, rho by row; alpha has the entries of the pivot row.
use Rattle.std.specs.Prelude.{ℕ, List, length, Option, None, Some, Result, Ok, slice_index_or}
use Rattle.pami_algebra.specs.Fraction.{Fraction}
use Rattle.pami_frac.specs.declared.arithmetic.Refused.{Refused}
use Rattle.pami_frac.specs.declared.list.Bounds.{Bounds}
use Rattle.pami_frac.specs.declared.list.Entry.{Entry}
use Rattle.pami_script.specs.Script.{then}
use Rattle.pami_script.specs.Dense.{at}
use Rattle.pami_theory.specs.declared.words.Stand.{Stand}
use Rattle.pami_theory.specs.declared.words.Stand.TheVariants.{Basic}
use Rattle.pami_theory.specs.Fresh.{standing_value}
use Rattle.pami_theory.specs.Violation.{passed_bound}
use Rattle.pami_theory.specs.Ratio.{Entering}
use Rattle.pami_method.specs.Scripts.{zeros}
use Rattle.pami_vec.specs.declared.step.Step.{Step}
use Rattle.pami_bfrt.specs.Candidates.{Table}
use Rattle.pami_bfrt.specs.Walks.{walk_script, found_by}
use Rattle.pami_bfrt.specs.declared.walk.Walk.{Walk}
use Rattle.pami_form.specs.declared.form.Form.{Form}
use Rattle.pami_minor.specs.declared.walk.Leaving.{Leaving}
use Rattle.pami_minor.specs.Flips.{flip_at, flips_by, ascending_to, length_by}

abbrev pub bounds_at : Form → ℕ → Bounds
bounds_at form v = slice_index_or form.bounds v (record { low = None; high = None })

-- what is known of all variables
abbrev pub table_of : Form → List Stand → List Fraction → Table
table_of form stands reduced = record { stands = stands; bounds = form.bounds; widths = form.widths; reduced = reduced }

-- the bound to which the row's variable goes
abbrev pub bound_of : Form → Leaving → Fraction
bound_of form row = passed_bound (bounds_at form row.variable) row.violation.side

-- the primal step length, and what the flips change in each row
pub record Moved : Type 0 where
  pub theta : Fraction
  pub flips : List Fraction

abbrev pub move_by : Form → List Stand → List Fraction → Fraction → Leaving → List ℕ → Result Moved Refused
move_by form stands rho pivot row flips =
    then (flips_by form.columns (flip_at stands form.widths) (ascending_to (length form.columns) flips) (zeros form.rows)) (λ changes.
    then (length_by rho changes row.value (bound_of form row) pivot) (λ theta. Ok (record { theta = theta; flips = changes })))

abbrev pub step_with : Form → List Stand → Leaving → Entering → Moved → Step
step_with form stands row e moved = record {
  place = row.place;
  leaving = row.variable;
  entering = e.variable;
  tau = e.tau;
  theta = moved.theta;
  bound = bound_of form row;
  old_value = standing_value (bounds_at form e.variable) (slice_index_or stands e.variable Basic);
  flip_column = moved.flips;
}

-- what the walk found, and the step where a variable enters
pub record Walked : Type 0 where
  pub found : Option Entering
  pub step : Option Step

abbrev pub step_behind : Form → List Stand → List Entry → List Fraction → Leaving → Option Entering → Result Walked Refused
step_behind form stands alpha rho row None = Ok (record { found = None; step = None })
step_behind form stands alpha rho row (Some e) =
    then (move_by form stands rho (at alpha e.variable) row e.flips) (λ moved.
    Ok (record { found = Some e; step = Some (step_with form stands row e moved) }))

-- all quotients and slopes of the walk, and then the operations of the step
abbrev pub walk_by : Form → List Stand → List Fraction → List Entry → List Fraction → Leaving → Result Walked Refused
walk_by form stands reduced alpha rho row =
    then (walk_script (table_of form stands reduced) alpha row.violation) (step_behind form stands alpha rho row)

-- the answer of a walk
abbrev pub walked : Walk × Option Step → Walked
walked answer = record { found = found_by answer.0; step = answer.1 }
