-- One step of an elimination by the entries that aren't 0. It is in the script's words in proofs/; here is what the code does.
use Rattle.std.specs.Prelude.{ℕ, cond, List, [], ◌∷◌, set, Result, Ok, slice_index_or}
use lib.IntN.{pos}
use Rattle.pami_algebra.specs.Fraction.{Fraction}
use Rattle.pami_algebra.specs.Operations.{of_int}
use Rattle.pami_frac.specs.Arithmetic.{div_outcome}
use Rattle.pami_frac.specs.Signs.{is_zero}
use Rattle.pami_frac.specs.declared.arithmetic.Refused.{Refused}
use Rattle.pami_frac.specs.declared.list.Entry.{Entry}
use Rattle.pami_linear.specs.Lists.{get}
use Rattle.pami_script.specs.Script.{then}
use Rattle.pami_vec.specs.Scripts.{take_times_script}
use Rattle.pami_factoring.specs.Factor.{row_at}
use Rattle.pami_lu.specs.Members.{with_row, without_row}

-- the set of rows at place g
abbrev pub set_of : List (List ℕ) → ℕ → List ℕ
set_of members g = slice_index_or members g []

-- a row below a pivot, and its multiplier; `rest` is the pivot's row with 0 at its place
abbrev pub plain_row : ℕ → Fraction → List Fraction → List Fraction → Result (List Fraction × Fraction) Refused
plain_row p pivot rest row = then (div_outcome (get row p) pivot) (λ l. then (take_times_script (set row p (of_int (pos 0))) l rest) (λ zs. Ok (zs, l)))

-- these rows in turn, each in its place; so are the multipliers
abbrev pub plain_rows : List ℕ → ℕ → Fraction → List Fraction → List (List Fraction) → List Fraction → Result (List (List Fraction) × List Fraction) Refused
plain_rows [] p pivot rest rows ls = Ok (rows, ls)
plain_rows (h ∷ hs) p pivot rest rows ls = then (plain_row p pivot rest (row_at rows h)) (λ one. plain_rows hs p pivot rest (set rows h one.0) (set ls h one.1))

-- the sets at the places of these entries, changed
abbrev pub change_all : List Entry → (ℕ → List ℕ → List ℕ) → List (List ℕ) → List (List ℕ)
change_all [] f members = members
change_all (e ∷ es) f members = change_all es f (set members e.place (f e.place (set_of members e.place)))

-- a row leaves, or stands there exactly where the new row has a nonzero
abbrev pub left_by : ℕ → ℕ → List ℕ → List ℕ
left_by h g ks = without_row h ks

abbrev pub noted : ℕ → List Fraction → ℕ → List ℕ → List ℕ
noted h row g ks = cond (is_zero (get row g)) (without_row h ks) (with_row h ks)
