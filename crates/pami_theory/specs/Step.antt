-- One step of the dual simplex method (Lemke 1954; Koberstein 2005, section 3.1), on the whole form: what it exchanges,
-- and the basis behind it. Nothing is updated; what the next basis solves is solved there.
use Rattle.std.specs.Prelude.{◌≡◌, ℕ, ◌<◌, Bool, List, [], ◌∷◌, set, length, map, Option, Some, if◌then◌else◌, nat_eq}
use Rattle.std.specs.List.{range_with_len, list_any}
use Rattle.std.specs.Option.{option_map}
use Rattle.pami_algebra.specs.Fraction.{Fraction}
use Rattle.pami_algebra.specs.Operations.{◌+ᶠ◌, ◌-ᶠ◌, ◌*ᶠ◌, ◌/ᶠ◌, neg_f}
use Rattle.pami_linear.specs.Lists.{get}
use Rattle.pami_linear.specs.Sums.{dot}
use Rattle.pami_theory.specs.Form.{Form, limits, coefficient, zero_f}
use Rattle.pami_theory.specs.declared.words.Stand.{Stand}
use Rattle.pami_theory.specs.declared.words.Stand.TheVariants.{Basic, Lower, Upper, Zero}
use Rattle.pami_theory.specs.Basis.{Basis, head_at, stand_at, IsBasis}
use Rattle.pami_theory.specs.Fresh.{Fresh, row_at, value_at_place, IsFresh}
use Rattle.pami_theory.specs.declared.words.Side.{Side}
use Rattle.pami_theory.specs.declared.words.Side.TheVariants.{Above, Below}
use Rattle.pami_theory.specs.declared.words.Violation.{Violation}
use Rattle.pami_theory.specs.Violation.{violation, passed_bound, value_or_zero, width}
use Rattle.pami_theory.specs.Ratio.{Leaving, Entering, ratio_walk, row_entry}

-- what a step exchanges: the variable at a place leaves to the bound on this side, another one enters there, and some
-- boxed ones are flipped before, in this order
pub record Step : Type 0 where
  pub place : ℕ
  pub leaving : ℕ
  pub side : Side
  pub entering : ℕ
  pub tau : Fraction  -- the dual step length
  pub flips : List ℕ

-- the place p, whose variable is outside by v, as a row that leaves
abbrev pub leaving_at : Fresh → ℕ → Violation → Leaving
leaving_at s p v = record { violation = v; row = row_at s p; reduced = s.reduced }

abbrev pub step_by : Basis → ℕ → Side → Entering → Step
step_by b p side e = record { place = p; leaving = head_at b p; side = side; entering = e.variable; tau = e.tau; flips = e.flips }

-- the step at the place p, whose variable is outside by v; None where no variable enters
abbrev pub step_at : Form → Basis → Fresh → ℕ → Violation → Option Step
step_at f b s p v = option_map (step_by b p v.side) (ratio_walk f b (leaving_at s p v))

-- to the other bound
abbrev pub flipped : Stand → Stand
flipped Basic = Basic
flipped Lower = Upper
flipped Upper = Lower
flipped Zero = Zero

-- at the bound that was passed
abbrev pub stand_on : Side → Stand
stand_on Above = Upper
stand_on Below = Lower

abbrev pub is_among : ℕ → List ℕ → Bool
is_among v vs = list_any (nat_eq v) vs

-- where a variable stands behind a step
abbrev pub stand_after : Basis → Step → ℕ → Stand
stand_after b t v =
    if nat_eq v t.entering then Basic else
    if nat_eq v t.leaving then stand_on t.side else
    if is_among v t.flips then flipped (stand_at b v) else stand_at b v

-- the basis behind a step
abbrev pub basis_after : Basis → Step → Basis
basis_after b t = record {
  head = set b.head t.place t.entering;
  stands = map (stand_after b t) (range_with_len 0 (length b.stands));
}

-- from the basis b, where s is solved, the step t is taken at the infeasible place p, whose variable is outside by v
pub record TakesStep (f : Form) (b : Basis) (s : Fresh) (p : ℕ) (v : Violation) (t : Step) : Type 0 where
  pub basis : IsBasis f b
  pub fresh : IsFresh f b s
  pub place : p < f.rows
  pub outside : violation (limits f (head_at b p)) (value_at_place b s p) ≡ Some v
  pub taken : step_at f b s p v ≡ Some t

-- ---- how far the values move

-- by how much the value of a variable changes by its flip
abbrev pub change_by : Stand → Fraction → Fraction
change_by Basic w = zero_f
change_by Lower w = w
change_by Upper w = neg_f w
change_by Zero w = zero_f

abbrev pub flip_change : Form → Basis → ℕ → Fraction
flip_change f b v = change_by (stand_at b v) (value_or_zero (width (limits f v)))

-- what the flips of these variables change in a row: the sum of the changes times the entries
abbrev pub flips_change : Form → Basis → List ℕ → ℕ → Fraction
flips_change f b [] i = zero_f
flips_change f b (v ∷ vs) i = flip_change f b v *ᶠ coefficient f v i +ᶠ flips_change f b vs i

-- the primal step length: by how much the entering variable's value changes, so that the leaving one meets its bound
-- behind the flips
abbrev pub theta : Form → Basis → Fresh → Step → Fraction
theta f b s t =
    ((value_at_place b s t.place -ᶠ dot f.rows (get (row_at s t.place)) (flips_change f b t.flips)) -ᶠ passed_bound (limits f t.leaving) t.side)
    /ᶠ row_entry f (row_at s t.place) t.entering
