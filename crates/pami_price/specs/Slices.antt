-- The pivot row by slices of 64 variables. Columns go by variable and then by row, stands by variable, and rho, the row of
-- the inverse, by row.
use Rattle.std.specs.Prelude.{ℕ, zero, suc, ◌+◌, ◌*◌, ◌-◌, ◌/◌, Bool, cond, List, [], ◌∷◌, ◌++◌, length, Result, Ok, Err, slice_index_or}
use Rattle.pami_algebra.specs.Fraction.{Fraction}
use Rattle.pami_frac.specs.Signs.{is_zero}
use Rattle.pami_frac.specs.declared.arithmetic.Refused.{Refused}
use Rattle.pami_frac.specs.declared.list.Entry.{Entry}
use Rattle.pami_script.specs.Script.{then}
use Rattle.pami_theory.specs.Weights.{lesser}
use Rattle.pami_vec.specs.Scripts.{dot_script}
use Rattle.pami_theory.specs.declared.words.Stand.{Stand}
use Rattle.pami_theory.specs.declared.words.Stand.TheVariants.{Basic}
use Rattle.pami_method.specs.Scripts.{is_nonbasic}
use Rattle.pami_price.specs.declared.price.SliceRefused.{SliceRefused}

-- the column of a variable
abbrev pub column_at : List (List Fraction) → ℕ → List Fraction
column_at columns v = slice_index_or columns v []

-- the variable isn't in the basis
abbrev pub is_nonbasic_at : List Stand → ℕ → Bool
is_nonbasic_at stands v = is_nonbasic (slice_index_or stands v Basic)

-- a variable's entry before those of later ones, unless it is 0
abbrev pub with_first : ℕ → Fraction → List Entry → List Entry
with_first v alpha es = cond (is_zero alpha) es (record { place = v; value = alpha } ∷ es)

-- of n variables from v on: for each nonbasic one, ascending, the row times its column
abbrev pub entries_script : List (List Fraction) → List Stand → List Fraction → ℕ → ℕ → Result (List Entry) Refused
entries_script columns stands rho zero v = Ok []
entries_script columns stands rho (suc n) v =
    cond (is_nonbasic_at stands v)
    (then (dot_script rho (column_at columns v)) (λ alpha. then (entries_script columns stands rho n (v + 1)) (λ es. Ok (with_first v alpha es))))
    (entries_script columns stands rho n (v + 1))

-- how many variables a slice has, of so many in all
abbrev pub slice_size : ℕ → ℕ → ℕ
slice_size count slice = lesser 64 (count - 64 * slice)

-- the entries of a slice: the variables from 64 slice on
abbrev pub slice_script : List (List Fraction) → List Stand → List Fraction → ℕ → Result (List Entry) Refused
slice_script columns stands rho slice = entries_script columns stands rho (slice_size (length columns) slice) (64 * slice)

-- ---- all slices

-- how many slices so many variables have
abbrev pub slices : ℕ → ℕ
slices count = (count + 63) / 64

-- goes on with a slice's entries, and stops at its refusal
abbrev pub then_slice : {B : Type 0} → ℕ → Result (List Entry) Refused → (List Entry → Result B SliceRefused) → Result B SliceRefused
then_slice slice (Ok es) f = f es
then_slice slice (Err r) f = Err (record { slice = slice; refused = r })

abbrev pub then_more : List Entry → Result (List Entry) SliceRefused → Result (List Entry) SliceRefused
then_more es (Ok fs) = Ok (es ++ fs)
then_more es (Err r) = Err r

-- n slices from this one on, one after the other
abbrev pub slices_script : List (List Fraction) → List Stand → List Fraction → ℕ → ℕ → Result (List Entry) SliceRefused
slices_script columns stands rho zero slice = Ok []
slices_script columns stands rho (suc n) slice =
    then_slice slice (slice_script columns stands rho slice) (λ es. then_more es (slices_script columns stands rho n (slice + 1)))

-- the entries of all variables
abbrev pub row_script : List (List Fraction) → List Stand → List Fraction → Result (List Entry) SliceRefused
row_script columns stands rho = slices_script columns stands rho (slices (length columns)) 0
