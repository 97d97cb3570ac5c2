-- The inside of a batch (Huangfu and Hall 2018, section 3): what is kept of the rows that remain, and how one pivot brings it
-- up to date from what is kept alone. Nothing is solved; everything is over fractions without bound.
use Rattle.std.specs.Prelude.{◌≡◌, ℕ, suc, ◌*◌, ◌^◌, ◌<◌, List, [], ◌∷◌, map, length, Bool, false, not, Option, None, Some, if◌then◌else◌, nat_eq, int_lt}
use Rattle.std.specs.List.{filter, filter_map, find, range_with_len, Contains}
use Rattle.std.specs.Option.{option_map}
use lib.IntN.{ℤ, pos, ◌-ℤ◌}
use Rattle.pami_algebra.specs.Fraction.{Fraction}
use Rattle.pami_algebra.specs.Operations.{◌-ᶠ◌, ◌*ᶠ◌, ◌/ᶠ◌, neg_f, is_zero}
use Rattle.pami_algebra.specs.Size.{size}
use Rattle.pami_linear.specs.Lists.{get}
use Rattle.pami_linear.specs.Sums.{dot}
use Rattle.pami_theory.specs.Form.{Form, variables, limits, zero_f}
use Rattle.pami_theory.specs.Basis.{Basis, head_at, stand_at}
use Rattle.pami_theory.specs.Fresh.{row_at, value_at_place}
use Rattle.pami_theory.specs.Order.{ordered}
use Rattle.pami_theory.specs.Violation.{violation, passed_bound}
use Rattle.pami_theory.specs.declared.words.Violation.{Violation}
use Rattle.pami_theory.specs.Ratio.{Leaving, row_entry, toward, ratio_walk}
use Rattle.pami_theory.specs.Step.{Step, step_by, basis_after, flips_change}
use Rattle.pami_theory.specs.Weights.{weight_at, greater, lesser, clamped}
use Rattle.pami_theory.specs.Choice.{InfeasibleRow, row_of, is_chosen_before}
use Rattle.pami_method.specs.Batch.{Reached, Minor, Turn, AtLimit, NoRow, with_step, EndsBatch, Pivots}
use Rattle.pami_method.specs.Scripts.{is_nonbasic}

-- a row that remains: its place, its merit when it was chosen, its row of the inverse, its value, its weight
pub record KeptRow : Type 0 where
  pub place : ℕ
  pub merit : ℤ
  pub rho : List Fraction  -- by row
  pub value : Fraction
  pub weight : ℕ

-- the basis is kept as it is, for it has the head and the stands alone
pub record Inside : Type 0 where
  pub basis : Basis
  pub reduced : List Fraction  -- by variable
  pub count : ℕ
  pub rows : List KeptRow  -- those that remain, in order of choice

-- ---- solved afresh

abbrev pub fresh_row : Reached → InfeasibleRow → KeptRow
fresh_row r row = record {
  place = row.place;
  merit = row.merit;
  rho = row_at r.fresh row.place;
  value = value_at_place r.basis r.fresh row.place;
  weight = weight_at r.weights row.place;
}

-- what is kept where a batch has reached r, all of it solved there
abbrev pub fresh_inside : Reached → Inside
fresh_inside r = record { basis = r.basis; reduced = r.fresh.reduced; count = r.count; rows = map (fresh_row r) r.rows }

-- ---- the turn, by what is kept

abbrev pub place_of : KeptRow → ℕ
place_of k = k.place

-- the row of a place; the rest where there is none is never looked at
abbrev pub row_or : Option KeptRow → List Fraction
row_or None = []
row_or (Some k) = k.rho

abbrev pub row_for : Inside → ℕ → List Fraction
row_for d p = row_or (find (λ (k : KeptRow). nat_eq (place_of k) p) d.rows)

abbrev pub value_or : Option KeptRow → Fraction
value_or None = zero_f
value_or (Some k) = k.value

abbrev pub value_for : Inside → ℕ → Fraction
value_for d p = value_or (find (λ (k : KeptRow). nat_eq (place_of k) p) d.rows)

abbrev pub weight_or : Option KeptRow → ℕ
weight_or None = 1
weight_or (Some k) = k.weight

abbrev pub weight_for : Inside → ℕ → ℕ
weight_for d p = weight_or (find (λ (k : KeptRow). nat_eq (place_of k) p) d.rows)

-- the row as it is now; None where its place is feasible
abbrev pub kept_now : Form → Inside → KeptRow → Option InfeasibleRow
kept_now f d k = option_map (row_of (place_of k) k.weight) (violation (limits f (head_at d.basis (place_of k))) k.value)

-- the merit now is at least this one less 2
abbrev pub keeps : ℤ → Option InfeasibleRow → Bool
keeps merit None = false
keeps merit (Some now) = not (int_lt now.merit (merit -ℤ pos 2))

abbrev pub stays : Form → Inside → KeptRow → Bool
stays f d k = keeps k.merit (kept_now f d k)

abbrev pub kept_staying : Form → Inside → List KeptRow
kept_staying f d = filter (stays f d) d.rows

abbrev pub kept_dropped : Form → Inside → List ℕ
kept_dropped f d = map place_of (filter (λ k. not (stays f d k)) d.rows)

abbrev pub kept_leaving : Inside → ℕ → Violation → Leaving
kept_leaving d p v = record { violation = v; row = row_for d p; reduced = d.reduced }

-- the step of a place by its kept row and the kept reduced costs
abbrev pub kept_step : Form → Inside → ℕ → Violation → Option Step
kept_step f d p v = option_map (step_by d.basis p v.side) (ratio_walk f d.basis (kept_leaving d p v))

abbrev pub kept_rows : Form → Inside → List InfeasibleRow → Turn
kept_rows f d [] = NoRow (kept_dropped f d)
kept_rows f d (row ∷ rows) = with_step (kept_dropped f d) row (kept_step f d row.place row.violation)

abbrev pub kept_turn : Form → ℕ → Inside → Turn
kept_turn f limit d =
    if nat_eq d.count limit then AtLimit else
    kept_rows f d (ordered is_chosen_before (filter_map (kept_now f d) (kept_staying f d)))

-- ---- the updates at a pivot

-- the primal step length, by the kept row and value of the pivot's place
abbrev pub kept_theta : Form → Inside → Step → Fraction
kept_theta f d t =
    ((value_for d t.place -ᶠ dot f.rows (get (row_for d t.place)) (flips_change f d.basis t.flips))
    -ᶠ passed_bound (limits f t.leaving) t.side)
    /ᶠ row_entry f (row_for d t.place) t.entering

-- x_i := x_i - rho_i F - theta alpha_iq
abbrev pub value_behind : Form → Inside → Step → KeptRow → Fraction
value_behind f d t k =
    (k.value -ᶠ dot f.rows (get k.rho) (flips_change f d.basis t.flips)) -ᶠ kept_theta f d t *ᶠ row_entry f k.rho t.entering

-- rho_i := rho_i - (alpha_iq / alpha_pq) rho_p
abbrev pub rho_behind : Form → Inside → Step → KeptRow → List Fraction
rho_behind f d t k =
    map (λ h. get k.rho h -ᶠ (row_entry f k.rho t.entering /ᶠ row_entry f (row_for d t.place) t.entering) *ᶠ get (row_for d t.place) h)
    (range_with_len 0 f.rows)

-- the weight of another place, from its entry and the pivot's
abbrev pub weight_beside : ℕ → Fraction → Fraction → ℕ → ℕ
weight_beside weight alpha_i alpha_p weight_p =
    if is_zero alpha_i then weight else greater weight (lesser (2 ^ (2 * clamped (size alpha_i -ℤ size alpha_p)) * weight_p) (2 ^ 40))

abbrev pub weight_behind : Form → Inside → Step → KeptRow → ℕ
weight_behind f d t k =
    weight_beside k.weight (row_entry f k.rho t.entering) (row_entry f (row_for d t.place) t.entering) (weight_for d t.place)

abbrev pub row_behind : Form → Inside → Step → KeptRow → KeptRow
row_behind f d t k = record {
  place = k.place;
  merit = k.merit;
  rho = rho_behind f d t k;
  value = value_behind f d t k;
  weight = weight_behind f d t k;
}

-- d_j := d_j - tau a_j for each nonbasic variable but the entering one, which has 0; the leaving one has the step length,
-- negated above its upper bound; what is basic stays
abbrev pub cost_behind : Form → Inside → Step → ℕ → Fraction
cost_behind f d t u =
    if nat_eq u t.entering then zero_f else
    if nat_eq u t.leaving then neg_f (toward t.side t.tau) else
    if is_nonbasic (stand_at d.basis u) then get d.reduced u -ᶠ t.tau *ᶠ toward t.side (row_entry f (row_for d t.place) u) else
    get d.reduced u

-- what is kept behind the step t: the rows that stay, but for its own
abbrev pub inside_behind : Form → Inside → Step → Inside
inside_behind f d t = record {
  basis = basis_after d.basis t;
  reduced = map (cost_behind f d t) (range_with_len 0 (variables f));
  count = suc d.count;
  rows = map (row_behind f d t) (filter (λ k. not (nat_eq (place_of k) t.place)) (kept_staying f d));
}

abbrev pub step_of : Minor → Step
step_of m = m.step

-- behind some steps
abbrev pub insides_behind : Form → Inside → List Step → Inside
insides_behind f d [] = d
insides_behind f d (t ∷ ts) = insides_behind f (inside_behind f d t) ts

-- ---- the batch

-- the places of the rows that remain exist, and each place has a weight
pub record IsPlaced (f : Form) (r : Reached) : Type 0 where
  pub rows : (row : InfeasibleRow) → Contains r.rows row → row.place < f.rows
  pub weights : length r.weights ≡ f.rows

-- a batch whose turns are taken by what is kept, from d on, with these steps, up to `end`, whose turn is no pivot
abbrev pub IsDeferred : Form → ℕ → Inside → List Step → Inside → Type 0
IsDeferred f limit d [] end = (end ≡ d) × EndsBatch (kept_turn f limit d)
IsDeferred f limit d (t ∷ ts) end =
    (dropped : List ℕ) × (row : InfeasibleRow) × (kept_turn f limit d ≡ Pivots dropped row t)
    × IsDeferred f limit (inside_behind f d t) ts end
