-- The rows of a step that a loop hasn't come to.
use Rattle.std.proofs.Common.{◌≡◌, ℕ, suc, ◌+◌, ◌<◌, List, [], ◌∷◌, ◌++◌, length, drop, get_or, refl, sym, ap, ◌∙◌, append_assoc, arith, Bool, false, Result, Ok, Err}
use Rattle.std.proofs.Math.Seq.{drop-cons}
use Rattle.pami_algebra.specs.Fraction.{Fraction}
use Rattle.pami_frac.specs.declared.arithmetic.Refused.{Refused}
use Rattle.pami_script.specs.Script.{then}
use Rattle.pami_factoring.specs.Factor.{reduce_row, reduce_rows}

-- rows and their multipliers
abbrev pub Reduced : Type 0
Reduced = List (List Fraction) × List Fraction

-- a row before others, and others behind the rows `out` with the multipliers `ls`
abbrev put_before : List Fraction × Fraction → Reduced → Result Reduced Refused
put_before one rest = Ok (one.0 ∷ rest.0, one.1 ∷ rest.1)

abbrev put_after : List (List Fraction) → List Fraction → Reduced → Result Reduced Refused
put_after out ls rest = Ok (out ++ rest.0, ls ++ rest.1)

-- the rows that are left
abbrev pub rows_left : List Bool → List Bool → ℕ → List (List Fraction) → List Fraction → List (List Fraction) → List Fraction → Result Reduced Refused
rows_left ts cs p rows kept out ls = then (reduce_rows ts cs p rows kept) (put_after out ls)

abbrev ok : Reduced → Result Reduced Refused
ok r = Ok r

one_after : (row : List Fraction) (l : Fraction) (out : List (List Fraction)) (ls : List Fraction) (r : Result Reduced Refused) →
    then (then r (put_before (row, l))) (put_after out ls) ≡ then r (put_after (out ++ row ∷ []) (ls ++ l ∷ []))
one_after row l out ls (Ok rest) =
    ap (λ (z : List (List Fraction)). ok (z, ls ++ l ∷ rest.1)) (sym (append_assoc out (row ∷ []) rest.0))
    ∙ ap (λ (z : List Fraction). ok ((out ++ row ∷ []) ++ rest.0, z)) (sym (append_assoc ls (l ∷ []) rest.1))
one_after row l out ls (Err e) = refl

pub rows_next : (ts cs : List Bool) (p h : ℕ) (rows : List (List Fraction)) (kept : List Fraction) (out more : List (List Fraction)) (ls ms : List Fraction)
    (old row : List Fraction) (l : Fraction) → h < length ts → h < length rows → old ≡ get_or rows h [] →
    reduce_row (get_or ts h false) cs p old kept ≡ Ok (row, l) → more ≡ out ++ row ∷ [] → ms ≡ ls ++ l ∷ [] →
    rows_left (drop h ts) cs p (drop h rows) kept out ls ≡ rows_left (drop (h + 1) ts) cs p (drop (h + 1) rows) kept more ms
rows_next ts cs p h rows kept out more ls ms old row l a b d e f g =
    let n : suc h ≡ h + 1 = omega arith in
    let rest = reduce_rows (drop (suc h) ts) cs p (drop (suc h) rows) kept in
    ap (λ z. rows_left z cs p (drop h rows) kept out ls) (drop-cons ts h false a)
    ∙ ap (λ z. rows_left (get_or ts h false ∷ drop (suc h) ts) cs p z kept out ls) (drop-cons rows h [] b)
    ∙ ap (λ (z : Result (List Fraction × Fraction) Refused). then {B = Reduced} (then {B = Reduced} z (λ one. then rest (put_before one))) (put_after out ls))
    (ap (λ z. reduce_row (get_or ts h false) cs p z kept) (sym d) ∙ e)
    ∙ one_after row l out ls rest
    ∙ ap (λ k. rows_left (drop k ts) cs p (drop k rows) kept (out ++ row ∷ []) (ls ++ l ∷ [])) n
    ∙ ap (λ z. rows_left (drop (h + 1) ts) cs p (drop (h + 1) rows) kept z (ls ++ l ∷ [])) (sym f)
    ∙ ap (λ z. rows_left (drop (h + 1) ts) cs p (drop (h + 1) rows) kept more z) (sym g)
