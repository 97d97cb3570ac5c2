-- What a major begins with: the rows that it chooses, and the factor that it works with.
use Rattle.std.specs.Prelude.{◌≡◌, ℕ, List, [], map, length, true, cond, nat_lt, Option, None, Some, Result, Ok, Err, slice_index_or}
use Rattle.pami_frac.specs.declared.arithmetic.Refused.{Refused}
use Rattle.pami_frac.specs.declared.list.Bounds.{Bounds}
use Rattle.pami_theory.specs.Form.{Form}
use Rattle.pami_theory.specs.Basis.{Basis}
use Rattle.pami_theory.specs.Fresh.{Fresh}
use Rattle.pami_theory.specs.Choice.{chosen}
use Rattle.pami_method.specs.declared.words.Mode.{Mode}
use Rattle.pami_method.specs.declared.words.Mode.TheVariants.{Full, Single}
use Rattle.pami_method.specs.declared.words.Options.{Options}
use Rattle.pami_method.specs.declared.words.Place.{Place}
use Rattle.pami_method.specs.declared.words.Spot.{Spot}
use Rattle.pami_method.specs.declared.words.Spot.TheVariants.{Choose}
use Rattle.pami_method.specs.Factor.{History}
use Rattle.pami_method.specs.Scripts.{choose_script}
use Rattle.pami_method.specs.Work.{factor_tasks, first_refused}
use Rattle.pami_method.specs.Walk.{eliminates_anew, history_by}
use Rattle.pami_chuzr.specs.Choice.{chosen_row}
use Rattle.pami_chuzr.specs.declared.row.ChosenRow.{ChosenRow}
use Rattle.pami_state.specs.State.{basis_of}
use Rattle.pami_state.specs.declared.state.State.{State}
use Rattle.pami_factor.specs.Value.{Product}
use Rattle.pami_batch.specs.Factors.{IsFactorOf}

-- ---- the rows
-- the bounds of the variable at each place
abbrev pub bounds_at_places : List Bounds → List ℕ → List Bounds
bounds_at_places bounds head = map (λ v. slice_index_or bounds v (record { low = None; high = None })) head

-- a value behind a script, or the script's refusal with where it stands
abbrev pub told_at : {A B : Type 0} → Spot → Result A Refused → B → Result B Place
told_at spot (Ok found) x = Ok x
told_at spot (Err r) x = Err (record { task = spot; refused = r })

-- the rows that are chosen, at most so many, or the first refused operation of the choice
abbrev pub choice_outcome : Form → Basis → Fresh → List ℕ → ℕ → Result (List ChosenRow) Place
choice_outcome f b s weights most = told_at Choose (choose_script f b s) (map chosen_row (chosen f b s weights most))

-- ---- the factor
-- the first refused operation of a new elimination of the head
abbrev pub anew_refusal : Form → List ℕ → Option Place
anew_refusal f head = first_refused (factor_tasks f (record { head = head; pivots = [] }) true)

-- the history of the factor that a major works with, and what is refused before it has it
abbrev pub history_in : Options → Mode → Option History → State → History
history_in o mode h st = history_by (eliminates_anew o mode h) (basis_of st) h

abbrev pub factor_refusal : Form → Options → Mode → Option History → State → Option Place
factor_refusal f o mode h st = first_refused (factor_tasks f (history_in o mode h st) (eliminates_anew o mode h))

-- the factor that it works with
pub record IsUsed (f : Form) (o : Options) (mode : Mode) (h : Option History) (st : State)
    (used : Product) : Type 0 where
  pub factor : IsFactorOf f (history_in o mode h st) (basis_of st) used
  pub fits : factor_refusal f o mode h st ≡ None

-- the factor that there is, where a major in this mode keeps it
abbrev pub kept_for : Options → Mode → Option Product → Option Product
kept_for o Single factor = None
kept_for o Full None = None
kept_for o Full (Some factor) = cond (nat_lt o.refactor (length factor.pivots)) None (Some factor)
