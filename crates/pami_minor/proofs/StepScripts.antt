-- The scripts of a step on the whole form, by the program's lists.
use Rattle.std.proofs.Common.{◌≡◌, ℕ, zero, suc, ◌+◌, ◌<◌, List, [], ◌∷◌, length, refl, sym, ap, ◌∙◌, arith, Bool, true, false, cond, Some, Result, Ok, Err}
use Rattle.std.specs.List.{filter, range_with_len}
use Rattle.std.proofs.lemmas.List.{length-replicate, get_or-replicate}
use Rattle.pami_algebra.specs.Fraction.{Fraction}
use Rattle.pami_algebra.specs.Operations.{◌+ᶠ◌}
use Rattle.pami_algebra.proofs.Field.{nil_add_f}
use Rattle.pami_linear.specs.Lists.{get}
use Rattle.pami_frac.specs.Arithmetic.{sub_outcome, div_outcome}
use Rattle.pami_frac.specs.declared.arithmetic.Refused.{Refused}
use Rattle.pami_script.specs.Script.{then, each_member, add_product, add_dot}
use Rattle.pami_script.proofs.Scripts.{then_go, then_ok}
use Rattle.pami_script.proofs.Members.{length_members}
use Rattle.pami_vec.specs.Scripts.{dot_script}
use Rattle.pami_theory.specs.Form.{Form, limits, coefficient, zero_f}
use Rattle.pami_theory.specs.Basis.{Basis}
use Rattle.pami_theory.specs.Fresh.{Fresh, row_at, value_at_place}
use Rattle.pami_theory.specs.declared.words.Violation.{Violation}
use Rattle.pami_theory.specs.Violation.{passed_bound}
use Rattle.pami_theory.specs.Ratio.{row_entry}
use Rattle.pami_theory.specs.Step.{Step, step_at, flip_change, flips_change}
use Rattle.pami_method.specs.Scripts.{zeros, add_column, flips_script, ascending, step_script}
use Rattle.pami_method.proofs.Values.{flips_value}
use Rattle.pami_method.proofs.Flips.{step_changes}
use Rattle.pami_state.specs.Columns.{column_of}
use Rattle.pami_minor.specs.Flips.{flips_by, length_by}

-- ---- flips
members_same : {A B : Type 0} (step other : ℕ → A → Result B Refused) (k : ℕ) (xs : List A) → ((i : ℕ) (x : A) → i < k + length xs → step i x ≡ other i x) → each_member step k xs ≡ each_member other k xs
members_same step other k [] h = refl
members_same {A} {B} step other k (x ∷ xs) h =
    ap (λ r. then r (λ y. then (each_member step (suc k) xs) (λ ys. Ok (y ∷ ys)))) (h k x (omega arith))
    ∙ ap (λ (r : Result (List B) Refused). then (other k x) (λ y. then r (λ ys. Ok (y ∷ ys)))) (members_same step other (suc k) xs (λ i y l. h i y (omega arith)))

flips_on : (f : Form) (b : Basis) (vs : List ℕ) (g : List Fraction → Result (List Fraction) Refused) (r : Result (List Fraction) Refused) (n : ℕ) → ((next : List Fraction) → r ≡ Ok next → length next ≡ n)
    → ((next : List Fraction) → length next ≡ n → g next ≡ flips_script f b vs next) → then r g ≡ then r (λ next. flips_script f b vs next)
flips_on f b vs g (Ok next) n l h = h next (l next refl)
flips_on f b vs g (Err e) n l h = refl

one_tied : (f : Form) (b : Basis) (columns : List (List Fraction)) (change : ℕ → Fraction) (m v : ℕ) (vs : List ℕ) (rows : List Fraction) → length rows ≡ m → change v ≡ flip_change f b v
    → ((i : ℕ) → i < m → get (column_of columns v) i ≡ coefficient f v i) → ((next : List Fraction) → length next ≡ m → flips_by columns change vs next ≡ flips_script f b vs next)
    → flips_by columns change (v ∷ vs) rows ≡ flips_script f b (v ∷ vs) rows
one_tied f b columns change m v vs rows l c h rest =
    let same : each_member (λ i t. add_product t (change v) (get (column_of columns v) i)) 0 rows ≡ add_column f v (flip_change f b v) rows =
    members_same (λ i t. add_product t (change v) (get (column_of columns v) i)) (λ i t. add_product t (flip_change f b v) (coefficient f v i)) 0 rows
    (λ i x k. ap (λ z. add_product x z (get (column_of columns v) i)) c ∙ ap (add_product x (flip_change f b v)) (h i (omega arith))) in
    ap (λ r. then r (λ next. flips_by columns change vs next)) same
    ∙ flips_on f b vs (λ next. flips_by columns change vs next) (add_column f v (flip_change f b v) rows) m
    (λ next e. length_members (λ i t. add_product t (flip_change f b v) (coefficient f v i)) 0 rows next e ∙ l) rest

tied_by : (f : Form) (b : Basis) (columns : List (List Fraction)) (change : ℕ → Fraction) (m v : ℕ) (vs : List ℕ) (rows : List Fraction) (t : Bool) → length rows ≡ m → change v ≡ flip_change f b v
    → ((i : ℕ) → i < m → get (column_of columns v) i ≡ coefficient f v i) → ((next : List Fraction) → length next ≡ m → flips_by columns change vs next ≡ flips_script f b vs next)
    → flips_by columns change (cond t (v ∷ vs) vs) rows ≡ flips_script f b (cond t (v ∷ vs) vs) rows
tied_by f b columns change m v vs rows true l c h rest = one_tied f b columns change m v vs rows l c h rest
tied_by f b columns change m v vs rows false l c h rest = rest rows l

pub flips_tied : (f : Form) (b : Basis) (columns : List (List Fraction)) (change : ℕ → Fraction) (m : ℕ) (p : ℕ → Bool) (n k : ℕ) (rows : List Fraction) → length rows ≡ m
    → ((v : ℕ) → v < k + n → change v ≡ flip_change f b v) → ((v i : ℕ) → v < k + n → i < m → get (column_of columns v) i ≡ coefficient f v i)
    → flips_by columns change (filter p (range_with_len k n)) rows ≡ flips_script f b (filter p (range_with_len k n)) rows
flips_tied f b columns change m p zero k rows l c h = refl
flips_tied f b columns change m p (suc n) k rows l c h =
    tied_by f b columns change m k (filter p (range_with_len (k + 1) n)) rows (p k) l (c k (omega arith)) (λ i o. h k i (omega arith) o)
    (λ next e. flips_tied f b columns change m p n (k + 1) next e (λ v o. c v (omega arith)) (λ v i o u. h v i (omega arith) u))

flips_length : (f : Form) (b : Basis) (vs : List ℕ) (rows next : List Fraction) → flips_script f b vs rows ≡ Ok next → length next ≡ length rows
flips_length f b [] rows next e = let same : rows ≡ next = cc in ap length (sym same)
flips_length f b (v ∷ vs) rows next e =
    let a = then_ok (add_column f v (flip_change f b v) rows) (λ more. flips_script f b vs more) next e in
    flips_length f b vs a.0 next a.1.1 ∙ length_members (λ i t. add_product t (flip_change f b v) (coefficient f v i)) 0 rows a.0 a.1.0

pub rows_length : (f : Form) (b : Basis) (vs : List ℕ) (rows : List Fraction) → flips_script f b vs (zeros f.rows) ≡ Ok rows → length rows ≡ f.rows
rows_length f b vs rows e = flips_length f b vs (zeros f.rows) rows e ∙ length-replicate f.rows zero_f

-- what flips change in each row
pub rows_value : (f : Form) (b : Basis) (s : Fresh) (p : ℕ) (v : Violation) (t : Step) (rows : List Fraction) (i : ℕ) → step_at f b s p v ≡ Some t → flips_script f b (ascending f t.flips) (zeros f.rows) ≡ Ok rows → i < f.rows
    → get rows i ≡ flips_change f b t.flips i
rows_value f b s p v t rows i w e l =
    let n = length-replicate f.rows zero_f in
    flips_value f b (ascending f t.flips) (zeros f.rows) rows i e (omega arith)
    ∙ ap (λ x. x +ᶠ flips_change f b (ascending f t.flips) i) (get_or-replicate f.rows i zero_f zero_f l) ∙ nil_add_f (flips_change f b (ascending f t.flips) i)
    ∙ step_changes f b s p v t i w

-- ---- the primal step length
pub step_is_length : (f : Form) (b : Basis) (s : Fresh) (t : Step) (rows : List Fraction) → flips_script f b (ascending f t.flips) (zeros f.rows) ≡ Ok rows → length (row_at s t.place) ≡ f.rows
    → step_script f b s t ≡ length_by (row_at s t.place) rows (value_at_place b s t.place) (passed_bound (limits f t.leaving) t.side) (row_entry f (row_at s t.place) t.entering)
unfolding dot_script
step_is_length f b s t rows e l =
    let tail : Result Fraction Refused → Result Fraction Refused = λ r. then r (λ u.
    then (sub_outcome (value_at_place b s t.place) u) (λ x.
    then (sub_outcome x (passed_bound (limits f t.leaving) t.side)) (λ y. div_outcome y (row_entry f (row_at s t.place) t.entering)))) in
    then_go (flips_script f b (ascending f t.flips) (zeros f.rows)) (λ rows. tail (add_dot f.rows (get (row_at s t.place)) (get rows) zero_f)) rows e
    ∙ ap (λ n. tail (add_dot n (get (row_at s t.place)) (get rows) zero_f)) (sym l)
