-- The script of an elimination whose rows are 0 beside the active part. It has the operations of the dense script, and each
-- of them in its place; only the numbers that no operation reads again are left out.
use Rattle.std.specs.Prelude.{ℕ, zero, suc, Bool, true, false, List, [], ◌∷◌, set, length, replicate, Result, Ok, Err}
use lib.IntN.{pos}
use Rattle.pami_algebra.specs.Fraction.{Fraction}
use Rattle.pami_algebra.specs.Operations.{of_int}
use Rattle.pami_linear.specs.Active.{first_from}
use Rattle.pami_linear.specs.Lists.{get}
use Rattle.pami_linear.specs.Pivoting.{pivot, at_pivot}
use Rattle.pami_frac.specs.Arithmetic.{div_outcome}
use Rattle.pami_frac.specs.declared.arithmetic.Refused.{Refused}
use Rattle.pami_script.specs.Script.{then, sub_product}
use Rattle.pami_factoring.specs.declared.kept.LuFault.{LuFault}
use Rattle.pami_factoring.specs.declared.kept.LuFault.TheVariants.{Singular, Refused as Unfit}
use Rattle.pami_factoring.specs.Factor.{flag, entry, row_at}
use Rattle.pami_lu.specs.declared.step.SparseStep.{SparseStep}

-- ---- one step

-- x - l y at an active place, and 0 at another one
abbrev pub sub_or_zero : Bool → Fraction → Fraction → Fraction → Result Fraction Refused
sub_or_zero true x l y = sub_product x l y
sub_or_zero false x l y = Ok (of_int (pos 0))

-- x_g - l y_g at the active places g ascending
abbrev pub clear_row : List Bool → List Fraction → Fraction → List Fraction → Result (List Fraction) Refused
clear_row (t ∷ ts) (x ∷ xs) l (y ∷ ys) = then (sub_or_zero t x l y) (λ z. then (clear_row ts xs l ys) (λ zs. Ok (z ∷ zs)))
clear_row _ xs l _ = Ok xs

-- a row after a step with a pivot at place p, and its multiplier; a row that isn't active is emptied
abbrev pub clear_reduce : Bool → List Bool → ℕ → List Fraction → List Fraction → Result (List Fraction × Fraction) Refused
clear_reduce false cs p row kept = Ok ([], of_int (pos 0))
clear_reduce true cs p row kept = then (div_outcome (get row p) (get kept p)) (λ l. then (clear_row cs row l kept) (λ zs. Ok (zs, l)))

-- all rows ascending, and their multipliers
abbrev pub clear_rows : List Bool → List Bool → ℕ → List (List Fraction) → List Fraction → Result (List (List Fraction) × List Fraction) Refused
clear_rows (t ∷ ts) cs p (row ∷ rows) kept =
    then (clear_reduce t cs p row kept) (λ one. then (clear_rows ts cs p rows kept) (λ rest. Ok (one.0 ∷ rest.0, one.1 ∷ rest.1)))
clear_rows _ cs p _ kept = Ok ([], [])

-- a step at a pivot (i, p), and the rows after it; the flags are those after it
abbrev pub clear_step : List Bool → List Bool → List (List Fraction) → ℕ → ℕ → Result (SparseStep × List (List Fraction)) Refused
clear_step ts cs rows i p =
    then (clear_rows ts cs p rows (row_at rows i)) (λ low. Ok (record { row = i; place = p; kept = row_at rows i; multipliers = low.1 }, low.0))

-- ---- all steps

-- a step before others
abbrev pub then_sparse : SparseStep → Result (List SparseStep) LuFault → Result (List SparseStep) LuFault
then_sparse s (Ok ss) = Ok (s ∷ ss)
then_sparse s (Err e) = Err e

-- goes on after a step, and stops at a refusal
abbrev pub then_clear : Result (SparseStep × List (List Fraction)) Refused → (List (List Fraction) → Result (List SparseStep) LuFault) → Result (List SparseStep) LuFault
then_clear (Err r) f = Err (Unfit r)
then_clear (Ok s) f = then_sparse s.0 (f s.1)

-- n steps more, or the first operation that doesn't fit, or the least active place where no pivot is left
abbrev pub clear_from : ℕ → List Bool → List Bool → List (List Fraction) → Result (List SparseStep) LuFault
clear_from zero ts cs rows = Ok []
clear_from (suc n) ts cs rows =
    at_pivot (pivot (length rows) (flag ts) (flag cs) (entry rows)) (Err (Singular (first_from (length cs) 0 (flag cs))))
    (λ i p. then_clear (clear_step (set ts i false) (set cs p false) rows i p) (λ (next : List (List Fraction)). clear_from n (set ts i false) (set cs p false) next))

-- the elimination of a whole matrix
unfoldable pub clear_script : List (List Fraction) → Result (List SparseStep) LuFault
clear_script rows = clear_from (length rows) (replicate (length rows) true) (replicate (length rows) true) rows
