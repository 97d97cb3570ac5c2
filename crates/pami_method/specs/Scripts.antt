-- The scripts of a major iteration, apart from its solves: lists of single operations, each in its order. A script stops
-- at its first operation that doesn't fit. Operands with value 0 are among them; such an operation always fits.
use Rattle.std.specs.Prelude.{ℕ, zero, suc, ◌*◌, ◌-◌, Bool, true, false, List, [], ◌∷◌, replicate, Option, None, Some, Result, Ok, not, nat_eq, cond}
use Rattle.std.specs.List.{filter, range_with_len}
use Rattle.pami_algebra.specs.Fraction.{Fraction}
use Rattle.pami_algebra.specs.Operations.{is_below}
use Rattle.pami_frac.specs.Arithmetic.{sub_outcome, mul_outcome, div_outcome}
use Rattle.pami_frac.specs.declared.arithmetic.Refused.{Refused}
use Rattle.pami_linear.specs.Lists.{get}
use Rattle.pami_script.specs.Script.{then, each_member, add_product, sub_product, add_dot}
use Rattle.pami_frac.specs.declared.list.Bounds.{Bounds}
use Rattle.pami_theory.specs.Form.{Form, entry, limits, coefficient, variables, zero_f}
use Rattle.pami_theory.specs.declared.words.Stand.{Stand}
use Rattle.pami_theory.specs.declared.words.Stand.TheVariants.{Basic, Lower, Upper, Zero}
use Rattle.pami_theory.specs.Basis.{Basis, head_at, stand_at}
use Rattle.pami_theory.specs.Fresh.{Fresh, row_at, value_at_place}
use Rattle.pami_theory.specs.declared.words.Side.TheVariants.{Above, Below}
use Rattle.pami_theory.specs.declared.words.Violation.{Violation}
use Rattle.pami_theory.specs.Violation.{passed_bound, width}
use Rattle.pami_theory.specs.Ratio.{Leaving, turned_entry, row_entry, absolute, is_candidate, walk_order}
use Rattle.pami_theory.specs.Step.{Step, is_among, flip_change, flips_change}
use Rattle.pami_theory.specs.Weights.{lesser}

-- a step for each of n numbers from k on, ascending; the results make a list
abbrev pub each_number : {A : Type 0} → ℕ → ℕ → (ℕ → Result A Refused) → Result (List A) Refused
each_number zero k step = Ok []
each_number (suc n) k step = then (step k) (λ x. then (each_number n (suc k) step) (λ xs. Ok (x ∷ xs)))

abbrev pub zeros : ℕ → List Fraction
zeros n = replicate n zero_f

-- ---- the values at the start

-- x goes by column; for each row the sum of its products
abbrev pub start_script : Form → (ℕ → Fraction) → Result (List Fraction) Refused
start_script f x = each_number f.rows 0 (λ i. add_dot f.columns (entry f i) x zero_f)

-- ---- infeasible places

abbrev pub low_script : Option Fraction → Fraction → Result (Option Violation) Refused
low_script None value = Ok None
low_script (Some low) value =
    cond (is_below value low) (then (sub_outcome low value) (λ amount. Ok (Some (record { side = Below; amount = amount })))) (Ok None)

abbrev pub high_script : Option Fraction → Fraction → Result (Option Violation) Refused → Result (Option Violation) Refused
high_script None value otherwise = otherwise
high_script (Some high) value otherwise =
    cond (is_below high value) (then (sub_outcome value high) (λ amount. Ok (Some (record { side = Above; amount = amount })))) otherwise

-- how far a value is outside
abbrev pub violation_script : Bounds → Fraction → Result (Option Violation) Refused
violation_script l value = high_script l.high value (low_script l.low value)

-- the variable at a place
abbrev pub place_script : Form → Basis → Fresh → ℕ → Result (Option Violation) Refused
place_script f b s p = violation_script (limits f (head_at b p)) (value_at_place b s p)

-- all places, ascending
abbrev pub choose_script : Form → Basis → Fresh → Result (List (Option Violation)) Refused
choose_script f b s = each_number f.rows 0 (place_script f b s)

-- these places, in this order
abbrev pub row_script : Form → Basis → Fresh → List ℕ → Result (List (Option Violation)) Refused
row_script f b s places = each_member (λ k p. place_script f b s p) 0 places

-- ---- the pivot row, by slices of 64 variables

-- the variables of a slice that exist, ascending
abbrev pub slice_variables : ℕ → ℕ → List ℕ
slice_variables count slice = range_with_len (64 * slice) (lesser 64 (count - 64 * slice))

abbrev pub is_nonbasic : Stand → Bool
is_nonbasic Basic = false
is_nonbasic Lower = true
is_nonbasic Upper = true
is_nonbasic Zero = true

-- the nonbasic variables of a slice
abbrev pub nonbasic_in : Form → Basis → ℕ → List ℕ
nonbasic_in f b slice = filter (λ v. is_nonbasic (stand_at b v)) (slice_variables (variables f) slice)

-- the entry of each of them: the row times the column
abbrev pub price_script : Form → Basis → List Fraction → ℕ → Result (List Fraction) Refused
price_script f b row slice = each_member (λ k v. add_dot f.rows (get row) (coefficient f v) zero_f) 0 (nonbasic_in f b slice)

-- ---- the ratio walk

-- the ratio of each candidate
abbrev pub ratios_script : Form → Basis → Leaving → Result (List Fraction) Refused
ratios_script f b l = each_member (λ k v. div_outcome (get l.reduced v) (turned_entry f l v)) 0 (filter (is_candidate f b l) (range_with_len 0 (variables f)))

-- a candidate that is looked at: a boxed one lowers the slope, and is passed while it stays above 0
abbrev pub slope_at : Option Fraction → Fraction → (Fraction → Result Fraction Refused) → Fraction → Result Fraction Refused
slope_at None a passed slope = Ok slope
slope_at (Some w) a passed slope =
    then (mul_outcome (absolute a) w) (λ p. then (sub_outcome slope p) (λ next. cond (is_below zero_f next) (passed next) (Ok next)))

-- the slope behind those that are looked at
abbrev pub slope_script : Form → Leaving → List ℕ → Fraction → Result Fraction Refused
slope_script f l [] slope = Ok slope
slope_script f l (v ∷ vs) slope = slope_at (width (limits f v)) (turned_entry f l v) (slope_script f l vs) slope

abbrev pub ratio_script : Form → Basis → Leaving → Result Fraction Refused
ratio_script f b l = then (ratios_script f b l) (λ ratios. slope_script f l (walk_order f b l) l.violation.amount)

-- ---- the step

-- the column of a variable times a change, added to the rows ascending
abbrev pub add_column : Form → ℕ → Fraction → List Fraction → Result (List Fraction) Refused
add_column f v change rows = each_member (λ i t. add_product t change (coefficient f v i)) 0 rows

-- what flips change in each row: these variables, in this order
abbrev pub flips_script : Form → Basis → List ℕ → List Fraction → Result (List Fraction) Refused
flips_script f b [] rows = Ok rows
flips_script f b (v ∷ vs) rows = then (add_column f v (flip_change f b v) rows) (λ next. flips_script f b vs next)

-- the variables of a list, ascending
abbrev pub ascending : Form → List ℕ → List ℕ
ascending f vs = filter (λ v. is_among v vs) (range_with_len 0 (variables f))

-- the primal step length
abbrev pub step_script : Form → Basis → Fresh → Step → Result Fraction Refused
step_script f b s t =
    then (flips_script f b (ascending f t.flips) (zeros f.rows)) (λ rows.
    then (add_dot f.rows (get (row_at s t.place)) (get rows) zero_f) (λ u.
    then (sub_outcome (value_at_place b s t.place) u) (λ x.
    then (sub_outcome x (passed_bound (limits f t.leaving) t.side)) (λ y.
    div_outcome y (row_entry f (row_at s t.place) t.entering)))))

-- ---- bringing the rest of a batch up to date

-- a remaining row i at a pivot: its value, its entry in the entering column, its row of the inverse; `change` is what the
-- flips change in each row, `step` the primal step length
abbrev pub reach_script : Form → Basis → Fresh → Step → Fraction → ℕ → Result (List Fraction) Refused
reach_script f b s t step i =
    then (add_dot f.rows (get (row_at s i)) (coefficient f t.entering) zero_f) (λ alpha.
    then (add_dot f.rows (get (row_at s i)) (flips_change f b t.flips) zero_f) (λ phi.
    then (sub_outcome (value_at_place b s i) phi) (λ x.
    then (sub_product x step alpha) (λ y.
    then (div_outcome alpha (row_entry f (row_at s t.place) t.entering)) (λ k.
    each_member (λ h u. sub_product u k (get (row_at s t.place) h)) 0 (row_at s i))))))

-- the reduced costs of the nonbasic variables of a slice but the entering one; the stands are those before the pivot
abbrev pub shift_script : Form → Basis → Leaving → Step → ℕ → Result (List Fraction) Refused
shift_script f b l t slice =
    each_member (λ k v. sub_product (get l.reduced v) t.tau (turned_entry f l v)) 0 (filter (λ v. not (nat_eq v t.entering)) (nonbasic_in f b slice))
