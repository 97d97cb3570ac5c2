-- A right side that goes back through pivots: the sum over all other places is that over the entries, and the loop over pivots.
use Rattle.std.proofs.Common.{◌≡◌, ℕ, zero, suc, ◌+◌, ◌<◌, List, [], ◌∷◌, length, drop, get_or, refl, sym, ap, ◌∙◌, arith}
use Rattle.std.proofs.Common.{Bool, true, false, cond, nat_eq, Result, Ok, Err}
use lib.IntN.{pos}
use Rattle.pami_algebra.specs.Fraction.{Fraction}
use Rattle.pami_algebra.specs.Operations.{of_int}
use Rattle.pami_linear.specs.Lists.{get}
use Rattle.pami_frac.specs.declared.arithmetic.Refused.{Refused}
use Rattle.pami_frac.specs.declared.list.Entry.{Entry}
use Rattle.pami_script.specs.Script.{then, sub_product, each, each_entry}
use Rattle.pami_script.specs.Dense.{at}
use Rattle.pami_script.proofs.Scripts.{then_same, then_go, then_stop}
use Rattle.pami_script.proofs.Skipped.{sparse_is_dense, sub_zero_right}
use Rattle.pami_factoring.specs.Factor.{sub_if}
use Rattle.pami_factoring.specs.Solve.{ColumnPivot, sub_all, all_but, backward_transform_one, backward_transform_script}
use Rattle.pami_vec.specs.Entries.{AreEntriesOf}
use Rattle.pami_vec.specs.declared.step.Pivot.{Pivot}
use Rattle.pami_vec.specs.Pivots.{column_pivot, column_pivots}
use Rattle.pami_vec.proofs.Results.{shifted_at, at_start}
use Rattle.pami_vec.proofs.Scripted.{get_at}
use Rattle.pami_vec.proofs.ProductForm.{but_flag, by_flag, but_length}
use Rattle.pami_factor.proofs.Positions.{at_step}

-- ---- the sum
-- one member more, but for the place p
abbrev pub other_at : ℕ → List Fraction → ℕ → Fraction → Fraction → Result Fraction Refused
other_at p xs i a t = cond (nat_eq i p) (Ok t) (sub_product t (get xs i) a)

abbrev pub other_of : ℕ → List Fraction → Entry → Fraction → Result Fraction Refused
other_of p xs e t = other_at p xs e.place e.value t

sum_is_each : (ts : List Bool) (xs us : List Fraction) (k : ℕ) (step : ℕ → Fraction → Result Fraction Refused) (t : Fraction)
    → length ts ≡ length xs → length us ≡ length xs
    → ((i : ℕ) → i < length xs → (t : Fraction) → sub_if (get_or ts i true) t (get xs i) (get us i) ≡ step (k + i) t)
    → sub_all ts xs us t ≡ each (length xs) k step t
sum_is_each [] [] us k step t l m h = refl
sum_is_each [] (x ∷ xs) us k step t l m h = absurd (omega arith)
sum_is_each (b ∷ bs) [] us k step t l m h = absurd (omega arith)
sum_is_each (b ∷ bs) (x ∷ xs) [] k step t l m h = absurd (omega arith)
sum_is_each (b ∷ bs) (x ∷ xs) (u ∷ us) k step t l m h =
    ap (λ r. then r (λ s. sub_all bs xs us s)) (h 0 (omega arith) t ∙ at_start (λ j. step j t) k)
    ∙ then_same (step k t) (λ s. sub_all bs xs us s) (λ s. each (length xs) (suc k) step s)
    (λ s. sum_is_each bs xs us (suc k) step s (omega arith) (omega arith) (λ i j t. h (suc i) (omega arith) t ∙ shifted_at (λ j. step j t) k i))

other_zero : (b : Bool) (x t : Fraction) → cond b (Ok t) (sub_product t x (of_int (pos 0))) ≡ Ok t
other_zero true x t = refl
other_zero false x t = sub_zero_right t x

zero_and : (i : ℕ) → 0 + i ≡ i
zero_and i = omega arith

pub others_sparse : (q : ColumnPivot) (xs : List Fraction) (es : List Entry) (t : Fraction)
    → AreEntriesOf q.column es → length q.column ≡ length xs → q.place < length xs
    → sub_all (all_but (length xs) q.place) xs q.column t ≡ each_entry es (other_of q.place xs) t
others_sparse q xs es t a n l =
    sum_is_each (all_but (length xs) q.place) xs q.column 0 (λ i t. other_at q.place xs i (at es i) t) t (but_length (length xs) q.place) n
    (λ i j t. ap (λ b. sub_if b t (get xs i) (get q.column i)) (but_flag (length xs) q.place i j l)
    ∙ by_flag (nat_eq i q.place) t (get xs i) (get q.column i)
    ∙ ap (λ u. other_at q.place xs i u t) (get_at q.column es i a (omega arith))
    ∙ sym (ap (λ j. other_at q.place xs j (at es j) t) (zero_and i)))
    ∙ ap (λ m. each m 0 (λ i t. other_at q.place xs i (at es i) t) t) (sym n)
    ∙ sparse_is_dense (length q.column) es (λ i u t. other_at q.place xs i u t) t a.rising (λ i t. other_zero (nat_eq i q.place) (get xs i) t)

-- ---- the loop from the last pivot to the first
pub back_at : (k : ℕ) (ps : List Pivot) (p : Pivot) (c d : List Fraction) (r : Result (List Fraction) Refused) → k < length ps → p ≡ get_or ps k p
    → backward_transform_script (column_pivots (drop (k + 1) ps)) c ≡ Ok d → backward_transform_one (column_pivot p) d ≡ r
    → backward_transform_script (column_pivots (drop k ps)) c ≡ r
back_at k ps p c d r l e f g =
    ap (λ z. backward_transform_script (column_pivots z) c) (at_step k ps p l e)
    ∙ then_go (backward_transform_script (column_pivots (drop (k + 1) ps)) c) (λ d. backward_transform_one (column_pivot p) d) d f ∙ g

pub back_refused : (k : ℕ) (ps : List Pivot) (c : List Fraction) (r : Refused) → backward_transform_script (column_pivots (drop k ps)) c ≡ Err r
    → backward_transform_script (column_pivots ps) c ≡ Err r
back_refused zero ps c r e = e
back_refused (suc k) [] c r e = e
back_refused (suc k) (p ∷ ps) c r e =
    then_stop (backward_transform_script (column_pivots ps) c) (λ d. backward_transform_one (column_pivot p) d) r (back_refused k ps c r e)
