-- How many steps a major counts: it eliminates and solves so often at most.
use Rattle.std.specs.Prelude.{ℕ, ◌+◌, List, [], ◌∷◌, length, Result, Ok, Err}
use Rattle.pami_frac.specs.declared.fault.Fault.{Fault}
use Rattle.pami_theory.specs.Fresh.{Fresh}
use Rattle.pami_theory.specs.Choice.{chosen}
use Rattle.pami_method.specs.declared.words.Mode.{Mode}
use Rattle.pami_method.specs.declared.words.Options.{Options}
use Rattle.pami_method.specs.declared.words.Place.{Place}
use Rattle.pami_method.specs.Walk.{most}
use Rattle.pami_log.specs.declared.event.Move.{Move}
use Rattle.pami_log.specs.declared.event.Move.TheVariants as moves
use Rattle.pami_form.specs.declared.form.Form.{Form}
use Rattle.pami_form.specs.FormOf.{form_of}
use Rattle.pami_state.specs.State.{basis_of}
use Rattle.pami_state.specs.declared.state.State.{State}
use Rattle.pami_major.specs.declared.majors.MajorEnd.{MajorEnd}
use Rattle.pami_major.specs.declared.majors.MajorEnd.TheVariants as majors
use Rattle.pami_major.specs.declared.majors.Tried.{Tried}
use Rattle.pami_major.specs.declared.majors.Tried.TheVariants as tried

-- how many rows a major in this mode chooses, at what the basis of its state has solved afresh
abbrev pub rows_chosen : Form → Options → Mode → State → Fresh → ℕ
rows_chosen form o mode st s = length (chosen (form_of form) (basis_of st) s st.weights (most o mode))

-- how many pivots a record tells
abbrev pub pivots_of : Move → ℕ
pivots_of (moves.Dropped place) = 0
pivots_of (moves.Flipped variable stand) = 0
pivots_of (moves.Pivoted count place leaving side entering tau) = 1
pivots_of (moves.Stuck place leaving side) = 0

abbrev pub pivots_in : List Move → ℕ
pivots_in [] = 0
pivots_in (m ∷ ms) = pivots_of m + pivots_in ms

-- the most steps of one with so many chosen rows and so many pivots: an elimination, and a solve for each of the rows, for each
-- of the pivots, and for the flips
abbrev pub attempt_steps : (rows pivots : ℕ) → ℕ
attempt_steps rows pivots = rows + pivots + 2

-- The most steps of a major that chooses so many rows, by what it came to: none where none was due, and nothing is collected
-- behind a row without an entering variable. One that is refused may have taken as many pivots as rows.
abbrev pub most_steps : {E : Type 0} → ℕ → Result MajorEnd E → ℕ
most_steps rows (Ok majors.Optimal) = 0
most_steps rows (Ok majors.Limit) = 0
most_steps rows (Ok (majors.Moved chosen moves)) = attempt_steps (length chosen) (pivots_in moves)
most_steps rows (Ok (majors.NoEntering chosen rho moves)) = length chosen + 1
most_steps rows (Ok (majors.Refused place)) = attempt_steps rows rows
most_steps rows (Err e) = attempt_steps rows rows

-- and before the state is changed
abbrev pub most_tried : ℕ → Result Tried (Fault Place) → ℕ
most_tried rows (Ok (tried.Kept st behind chosen moves)) = attempt_steps (length chosen) (pivots_in moves)
most_tried rows (Ok (tried.Stuck chosen rho moves)) = length chosen + 1
most_tried rows (Err fault) = attempt_steps rows rows
