-- The pivot's row may be another one in the script of a step.
use Rattle.std.proofs.Common.{◌≡◌, ℕ, zero, suc, List, [], ◌∷◌, set, get_or, refl, ap, Bool, true, false, Result, Ok}
use Rattle.std.proofs.lemmas.Bool.{true≢false}
use Rattle.pami_algebra.specs.Fraction.{Fraction}
use Rattle.pami_frac.specs.declared.arithmetic.Refused.{Refused}
use Rattle.pami_script.specs.Script.{then}
use Rattle.pami_lu.specs.Clear.{clear_reduce, clear_rows}

-- after one row
abbrev pub put_below : List Fraction × Fraction → List (List Fraction) × List Fraction → Result (List (List Fraction) × List Fraction) Refused
put_below one rest = Ok (one.0 ∷ rest.0, one.1 ∷ rest.1)

-- ---- the pivot's row, which isn't active any more
reduce_none : (t : Bool) (cs : List Bool) (p : ℕ) (row other kept : List Fraction) → t ≡ false → clear_reduce t cs p row kept ≡ clear_reduce t cs p other kept
reduce_none true cs p row other kept e = absurd (true≢false e)
reduce_none false cs p row other kept e = refl

-- such a row may be another one
pub reduce_without : (i : ℕ) (ts cs : List Bool) (p : ℕ) (rows : List (List Fraction)) (other kept : List Fraction) → get_or ts i false ≡ false → clear_rows ts cs p (set rows i other) kept ≡ clear_rows ts cs p rows kept
reduce_without i [] cs p rows other kept e = refl
reduce_without i (t ∷ ts) cs p [] other kept e = refl
reduce_without zero (t ∷ ts) cs p (row ∷ rows) other kept e = ap (λ r. then r (λ one. then (clear_rows ts cs p rows kept) (put_below one))) (reduce_none t cs p other row kept e)
reduce_without (suc i) (t ∷ ts) cs p (row ∷ rows) other kept e = ap (λ s. then (clear_reduce t cs p row kept) (λ one. then s (put_below one))) (reduce_without i ts cs p rows other kept e)
