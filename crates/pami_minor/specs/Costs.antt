-- The reduced costs of some variables as entries, and entries put in at their places.
use Rattle.std.specs.Prelude.{ℕ, ◌/◌, Bool, not, List, [], ◌∷◌, set, cond, nat_eq, slice_index_or}
use Rattle.pami_algebra.specs.Fraction.{Fraction}
use Rattle.pami_frac.specs.declared.list.Entry.{Entry}
use Rattle.pami_theory.specs.declared.words.Stand.{Stand}
use Rattle.pami_theory.specs.declared.words.Stand.TheVariants.{Basic}
use Rattle.pami_method.specs.Scripts.{is_nonbasic}
use Rattle.pami_vec.specs.declared.step.Step.{Step}

-- of these variables those that pass the test, each with its cost
abbrev pub costs : (ℕ → Bool) → (ℕ → Fraction) → List ℕ → List Entry
costs p g [] = []
costs p g (v ∷ vs) = cond (p v) (record { place = v; value = g v } ∷ costs p g vs) (costs p g vs)

-- the variable wasn't basic before a step, by the stands behind it
abbrev pub had_cost : List Stand → Step → ℕ → Bool
had_cost stands step v = cond (is_nonbasic (slice_index_or stands v Basic)) (not (nat_eq v step.leaving)) (nat_eq v step.entering)

-- each entry put in at its place
abbrev pub put_all : List Entry → List Fraction → List Fraction
put_all [] xs = xs
put_all (e ∷ es) xs = put_all es (set xs e.place e.value)

-- the cost of a variable put in, if the variable is of this slice
abbrev pub cost_in : ℕ → ℕ → Fraction → List Fraction → List Fraction
cost_in slice v cost xs = cond (nat_eq (v / 64) slice) (set xs v cost) xs
