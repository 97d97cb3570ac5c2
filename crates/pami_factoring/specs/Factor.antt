-- The elimination of a square matrix as a script, with the pivots of the rule of Markowitz (1957). A matrix is the list of
-- its rows, each row a list by place. Flags say which rows and which places are active.
use Rattle.std.specs.Prelude.{ℕ, zero, suc, Bool, true, false, List, [], ◌∷◌, map, set, length, replicate, Result, Ok, Err, slice_index_or}
use lib.IntN.{pos}
use Rattle.pami_algebra.specs.Fraction.{Fraction}
use Rattle.pami_algebra.specs.Operations.{of_int}
use Rattle.pami_linear.specs.Active.{first_from}
use Rattle.pami_linear.specs.Pivoting.{pivot, at_pivot}
use Rattle.pami_frac.specs.Arithmetic.{div_outcome}
use Rattle.pami_frac.specs.declared.arithmetic.Refused.{Refused}
use Rattle.pami_linear.specs.Lists.{get}
use Rattle.pami_script.specs.Script.{then, sub_product}
use Rattle.pami_factoring.specs.declared.kept.Kept.{Kept}
use Rattle.pami_factoring.specs.declared.kept.LuFault.{LuFault}
use Rattle.pami_factoring.specs.declared.kept.LuFault.TheVariants.{Singular, Refused as Unfit}

-- ---- matrices

-- a list of flags at an index; past the end nothing is active
abbrev pub flag : List Bool → ℕ → Bool
flag ts i = slice_index_or ts i false

-- row h
abbrev pub row_at : List (List Fraction) → ℕ → List Fraction
row_at rows h = slice_index_or rows h []

-- the entry of row h at place g
abbrev pub entry : List (List Fraction) → ℕ → ℕ → Fraction
entry rows h g = get (row_at rows h) g

-- row h of a matrix that is given by its columns, each a list by row
abbrev pub row_of : List (List Fraction) → ℕ → List Fraction
row_of columns h = map (λ c. get c h) columns

-- n rows of it, from row h on
abbrev pub rows_from : ℕ → ℕ → List (List Fraction) → List (List Fraction)
rows_from zero h columns = []
rows_from (suc n) h columns = row_of columns h ∷ rows_from n (suc h) columns

-- the columns that a head names, in its order: the one at place p is that of the variable at place p
abbrev pub columns_at : List (List Fraction) → List ℕ → List (List Fraction)
columns_at columns head = map (λ j. slice_index_or columns j []) head

-- the same columns over functions: by place, and then by row
abbrev pub basis_columns : List (List Fraction) → List ℕ → ℕ → ℕ → Fraction
basis_columns columns head k i = get (slice_index_or (columns_at columns head) k []) i

-- the square matrix of a head
unfoldable pub matrix_of : List (List Fraction) → List ℕ → List (List Fraction)
matrix_of columns head = rows_from (length head) 0 (columns_at columns head)

-- ---- one step

-- x - l y at an active place
abbrev pub sub_if : Bool → Fraction → Fraction → Fraction → Result Fraction Refused
sub_if true x l y = sub_product x l y
sub_if false x l y = Ok x

-- x_g - l y_g at the active places g ascending
abbrev pub sub_row : List Bool → List Fraction → Fraction → List Fraction → Result (List Fraction) Refused
sub_row (t ∷ ts) (x ∷ xs) l (y ∷ ys) = then (sub_if t x l y) (λ z. then (sub_row ts xs l ys) (λ zs. Ok (z ∷ zs)))
sub_row _ xs l _ = Ok xs

-- a row after a step with a pivot at place p, and its multiplier, which comes first; a row that isn't active is emptied
abbrev pub reduce_row : Bool → List Bool → ℕ → List Fraction → List Fraction → Result (List Fraction × Fraction) Refused
reduce_row false cs p row kept = Ok ([], of_int (pos 0))
reduce_row true cs p row kept = then (div_outcome (get row p) (get kept p)) (λ l. then (sub_row cs row l kept) (λ zs. Ok (zs, l)))

-- all rows ascending, and their multipliers
abbrev pub reduce_rows : List Bool → List Bool → ℕ → List (List Fraction) → List Fraction → Result (List (List Fraction) × List Fraction) Refused
reduce_rows (t ∷ ts) cs p (row ∷ rows) kept =
    then (reduce_row t cs p row kept) (λ one. then (reduce_rows ts cs p rows kept) (λ rest. Ok (one.0 ∷ rest.0, one.1 ∷ rest.1)))
reduce_rows _ cs p _ kept = Ok ([], [])

-- a step at a pivot (i, p), and the rows after it; the flags are those after it
abbrev pub step_at : List Bool → List Bool → List (List Fraction) → ℕ → ℕ → Result (Kept × List (List Fraction)) Refused
step_at ts cs rows i p =
    then (reduce_rows ts cs p rows (row_at rows i)) (λ low. Ok (record { row = i; place = p; kept = row_at rows i; multipliers = low.1 }, low.0))

-- ---- all steps

-- a step before others
abbrev pub then_more : Kept → Result (List Kept) LuFault → Result (List Kept) LuFault
then_more k (Ok ks) = Ok (k ∷ ks)
then_more k (Err e) = Err e

-- goes on after a step, and stops at a refusal
abbrev pub then_step : Result (Kept × List (List Fraction)) Refused → (List (List Fraction) → Result (List Kept) LuFault) → Result (List Kept) LuFault
then_step (Err r) f = Err (Unfit r)
then_step (Ok s) f = then_more s.0 (f s.1)

-- n steps more, or the first operation that doesn't fit, or the least active place where no pivot is left
abbrev pub elimination_from : ℕ → List Bool → List Bool → List (List Fraction) → Result (List Kept) LuFault
elimination_from zero ts cs rows = Ok []
elimination_from (suc n) ts cs rows =
    at_pivot (pivot (length rows) (flag ts) (flag cs) (entry rows)) (Err (Singular (first_from (length cs) 0 (flag cs))))
    (λ i p. then_step (step_at (set ts i false) (set cs p false) rows i p) (λ (next : List (List Fraction)). elimination_from n (set ts i false) (set cs p false) next))

-- the elimination of a whole matrix
unfoldable pub elimination_script : List (List Fraction) → Result (List Kept) LuFault
elimination_script rows = elimination_from (length rows) (replicate (length rows) true) (replicate (length rows) true) rows
