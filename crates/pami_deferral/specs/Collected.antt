-- The collective update (Huangfu and Hall 2018, section 3): the state behind a batch, worked out from what is solved at its
-- first basis. Everything is over fractions without bound; vectors go by place.
use Rattle.std.specs.Prelude.{ℕ, List, [], ◌∷◌, ◌++◌, map, length}
use Rattle.std.specs.List.{range_with_len}
use Rattle.pami_algebra.specs.Fraction.{Fraction}
use Rattle.pami_algebra.specs.Operations.{◌+ᶠ◌, ◌-ᶠ◌, ◌*ᶠ◌, ◌/ᶠ◌}
use Rattle.pami_linear.specs.Lists.{get}
use Rattle.pami_linear.specs.Sums.{unit}
use Rattle.pami_linear.specs.Systems.{stepped}
use Rattle.pami_factoring.specs.Solve.{ColumnPivot}
use Rattle.pami_theory.specs.Form.{Form, zero_f}
use Rattle.pami_theory.specs.Basis.{Basis}
use Rattle.pami_theory.specs.Fresh.{column_at, value_at_place}
use Rattle.pami_theory.specs.Step.{basis_after}
use Rattle.pami_theory.specs.Weights.{weights_after}
use Rattle.pami_method.specs.Batch.{Reached, Minor}
use Rattle.pami_method.specs.Work.{all_flips_at, entering_value, leaving_bound}

-- a solution through one pivot in product form: the quotient at its place, and from the others that times the column
abbrev pub through : ColumnPivot → List Fraction → List Fraction
through e x = map (stepped e.place (get e.column) (get x e.place /ᶠ get e.column e.place) (get x)) (range_with_len 0 (length x))

-- through all pivots, the first one first
abbrev pub through_all : List ColumnPivot → List Fraction → List Fraction
through_all [] x = x
through_all (e ∷ es) x = through_all es (through e x)

-- a minor's pivot: its entering variable's column by the first basis, taken through the pivots before it
abbrev pub deferred_pivot : Reached → List ColumnPivot → Minor → ColumnPivot
deferred_pivot first earlier m = record { place = m.step.place; column = through_all earlier (column_at first.fresh m.step.entering) }

-- those of all minors
abbrev pub deferred_pivots : Reached → List ColumnPivot → List Minor → List ColumnPivot
deferred_pivots first earlier [] = []
deferred_pivots first earlier (m ∷ ms) = deferred_pivot first earlier m ∷ deferred_pivots first
    (earlier ++ deferred_pivot first earlier m ∷ []) ms

-- the entering variables' columns by the first basis, each times its variable's value when it enters
abbrev pub entered : Reached → List Minor → ℕ → Fraction
entered first [] p = zero_f
entered first (m ∷ ms) p = entering_value m *ᶠ get (column_at first.fresh m.step.entering) p +ᶠ entered first ms p

-- at the place of each minor the bound to which its variable leaves
abbrev pub departed : Form → List Minor → ℕ → Fraction
departed f [] p = zero_f
departed f (m ∷ ms) p = leaving_bound f m *ᶠ unit m.step.place p +ᶠ departed f ms p

-- what goes through the pivots: the first values, less the change by all flips, with the variables that entered and
-- without those that left
abbrev pub gathered : Form → Reached → List Minor → ℕ → Fraction
gathered f first ms p = ((value_at_place first.basis first.fresh p -ᶠ all_flips_at f first ms p) +ᶠ entered first ms p) -ᶠ departed f ms p

-- the values by place behind the batch
abbrev pub collected_values : Form → Reached → List Minor → List Fraction
collected_values f first ms = through_all (deferred_pivots first [] ms) (map (gathered f first ms) (range_with_len 0 f.rows))

-- the weights of all places through the pivots, in order
abbrev pub reweighed : List ColumnPivot → List ℕ → List ℕ
reweighed [] weights = weights
reweighed (e ∷ es) weights = reweighed es (weights_after e.column e.place weights)

-- the basis through the steps, in order
abbrev pub stepped_through : List Minor → Basis → Basis
stepped_through [] b = b
stepped_through (m ∷ ms) b = stepped_through ms (basis_after b m.step)
