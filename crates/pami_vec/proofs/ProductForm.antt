-- A pivot in product form is a quotient and a change of all other members; and the loop over pivots.
use Rattle.std.proofs.Common.{◌≡◌, ℕ, zero, suc, ◌<◌, List, [], ◌∷◌, length, drop, get_or, set, replicate}
use Rattle.std.proofs.Common.{⊎_elim, refl, sym, ap, ◌∙◌, arith, Bool, true, false, not, cond, nat_eq, Result, Ok, Err}
use Rattle.std.proofs.lemmas.Bool.{cases_eq, eq-eqb, ne_eqb}
use Rattle.std.specs.Prelude.{All}
use Rattle.std.proofs.lemmas.List.Elements.{All-map}
use Rattle.std.proofs.lemmas.List.{length-set, length-replicate, get_or-replicate, get_or-set_same, get_or-set_other, get_or_default, set-get_or}
use lib.IntN.{pos}
use Rattle.pami_algebra.specs.Fraction.{Fraction}
use Rattle.pami_algebra.specs.Operations.{of_int}
use Rattle.pami_algebra.proofs.Tests.{not_zero_iff}
use Rattle.pami_linear.specs.Lists.{get}
use Rattle.pami_frac.specs.Arithmetic.{div_outcome}
use Rattle.pami_frac.specs.declared.arithmetic.Refused.{Refused}
use Rattle.pami_frac.specs.declared.list.Entry.{Entry}
use Rattle.pami_frac.proofs.Outcomes.{zero_div_fits}
use Rattle.pami_script.specs.Script.{then, sub_product}
use Rattle.pami_script.specs.Dense.{at}
use Rattle.pami_script.proofs.Scripts.{then_go, then_stop}
use Rattle.pami_script.proofs.Skipped.{sub_zero_right}
use Rattle.pami_factoring.specs.Factor.{sub_if}
use Rattle.pami_factoring.specs.Solve.{ColumnPivot, sub_multiples, all_but, transform_one, transform_script}
use Rattle.pami_factoring.specs.History.{IsColumnPivot}
use Rattle.pami_theory.specs.Form.{zero_f}
use Rattle.pami_vec.specs.Entries.{AreEntriesOf}
use Rattle.pami_vec.specs.declared.change.Change.TheVariants.{LessBy}
use Rattle.pami_vec.specs.declared.step.Pivot.{Pivot}
use Rattle.pami_vec.specs.Changes.{changed, AreChanged, IsStopped}
use Rattle.pami_vec.specs.Pivots.{column_pivot, column_pivots, ArePivots}
use Rattle.pami_vec.proofs.Scripted.{get_at}

-- ---- multiples of a column, member by member
multiples_ok : (ts : List Bool) (xs us : List Fraction) (v : Fraction) (ys : List Fraction)
    → length ts ≡ length xs → length us ≡ length xs → length ys ≡ length xs
    → ((i : ℕ) → i < length xs → sub_if (get_or ts i true) (get xs i) (get us i) v ≡ Ok (get ys i)) → sub_multiples ts xs us v ≡ Ok ys
multiples_ok [] [] us v [] k l m h = refl
multiples_ok [] [] us v (y ∷ ys) k l m h = absurd (omega arith)
multiples_ok [] (x ∷ xs) us v ys k l m h = absurd (omega arith)
multiples_ok (t ∷ ts) [] us v ys k l m h = absurd (omega arith)
multiples_ok (t ∷ ts) (x ∷ xs) [] v ys k l m h = absurd (omega arith)
multiples_ok (t ∷ ts) (x ∷ xs) (u ∷ us) v [] k l m h = absurd (omega arith)
multiples_ok (t ∷ ts) (x ∷ xs) (u ∷ us) v (y ∷ ys) k l m h =
    then_go (sub_if t x u v) (λ z. then (sub_multiples ts xs us v) (λ zs. Ok (z ∷ zs))) y (h 0 (omega arith))
    ∙ then_go (sub_multiples ts xs us v) (λ zs. Ok (y ∷ zs)) ys
    (multiples_ok ts xs us v ys (omega arith) (omega arith) (omega arith) (λ i j. h (suc i) (omega arith)))

multiples_err : (ts : List Bool) (xs us : List Fraction) (v : Fraction) (p : ℕ) (r : Refused)
    → length ts ≡ length xs → length us ≡ length xs → p < length xs
    → sub_if (get_or ts p true) (get xs p) (get us p) v ≡ Err r
    → ((i : ℕ) → i < p → (y : Fraction) × (sub_if (get_or ts i true) (get xs i) (get us i) v ≡ Ok y)) → sub_multiples ts xs us v ≡ Err r
multiples_err [] [] us v p r k l m e h = absurd (omega arith)
multiples_err [] (x ∷ xs) us v p r k l m e h = absurd (omega arith)
multiples_err (t ∷ ts) [] us v p r k l m e h = absurd (omega arith)
multiples_err (t ∷ ts) (x ∷ xs) [] v p r k l m e h = absurd (omega arith)
multiples_err (t ∷ ts) (x ∷ xs) (u ∷ us) v zero r k l m e h =
    then_stop (sub_if t x u v) (λ z. then (sub_multiples ts xs us v) (λ zs. Ok (z ∷ zs))) r e
multiples_err (t ∷ ts) (x ∷ xs) (u ∷ us) v (suc p) r k l m e h =
    let first = h 0 (omega arith) in
    then_go (sub_if t x u v) (λ z. then (sub_multiples ts xs us v) (λ zs. Ok (z ∷ zs))) first.0 first.1
    ∙ then_stop (sub_multiples ts xs us v) (λ zs. Ok (first.0 ∷ zs)) r
    (multiples_err ts xs us v p r (omega arith) (omega arith) (omega arith) e (λ i j. h (suc i) (omega arith)))

-- ---- all places but one
pub but_flag : (m p i : ℕ) → i < m → p < m → get_or (all_but m p) i true ≡ not (nat_eq i p)
but_flag m p i l k =
    let n : length (replicate m true) ≡ m = length-replicate m true in
    ⊎_elim
    (λ (e : i ≡ p). ap (λ j. get_or (all_but m p) j true) e
    ∙ get_or-set_same (replicate m true) p false true (omega arith) ∙ ap not (sym (eq-eqb i p e)))
    (λ (e : ¬ (i ≡ p)). get_or-set_other (replicate m true) p i false true e ∙ get_or-replicate m i true true l ∙ ap not (sym (ne_eqb i p e)))
    (cases_eq i p)

pub by_flag : (b : Bool) (x u v : Fraction) → sub_if (not b) x u v ≡ cond b (Ok x) (sub_product x u v)
by_flag true x u v = refl
by_flag false x u v = refl

pub but_length : (m p : ℕ) → length (all_but m p) ≡ m
but_length m p = length-set (replicate m true) p false ∙ length-replicate m true

-- a member of the script is that of a change
member_is : (m : ℕ) (q : ColumnPivot) (es : List Entry) (v x : Fraction) (i : ℕ)
    → AreEntriesOf q.column es → length q.column ≡ m → q.place < m → i < m
    → sub_if (get_or (all_but m q.place) i true) x (get q.column i) v ≡ changed (LessBy v q.place) i x (at es i)
member_is m q es v x i a n l k =
    ap (λ t. sub_if t x (get q.column i) v) (but_flag m q.place i k l)
    ∙ by_flag (nat_eq i q.place) x (get q.column i) v
    ∙ ap (changed (LessBy v q.place) i x) (get_at q.column es i a (omega arith))

-- ---- one pivot
abbrev others_script : ColumnPivot → List Fraction → Fraction → Result (List Fraction) Refused
others_script q values v = sub_multiples (all_but (length values) q.place) (set values q.place v) q.column v

-- what is read of the values and of the pivot
pub quotient_read : (q : ColumnPivot) (values : List Fraction) (x d v : Fraction) → q.place < length values
    → x ≡ get_or values q.place x → d ≡ get q.column q.place → Ok v ≡ div_outcome x d
    → div_outcome (get values q.place) (get q.column q.place) ≡ Ok v
quotient_read q values x d v l e f g =
    sym (g ∙ ap (λ (y : Fraction). div_outcome y d) (e ∙ get_or_default values q.place x zero_f l) ∙ ap (div_outcome (get values q.place)) f)

pub pivot_goes : (q : ColumnPivot) (values : List Fraction) (es : List Entry) (v : Fraction) (new : List Fraction)
    → AreEntriesOf q.column es → length q.column ≡ length values → q.place < length values
    → div_outcome (get values q.place) (get q.column q.place) ≡ Ok v
    → AreChanged (LessBy v q.place) (set values q.place v) (at es) new → transform_one q values ≡ Ok new
pivot_goes q values es v new a n l e h =
    let m : length (set values q.place v) ≡ length values = length-set values q.place v in
    let c = h.as_many in
    let b : length (all_but (length values) q.place) ≡ length values = but_length (length values) q.place in
    then_go (div_outcome (get values q.place) (get q.column q.place)) (others_script q values) v e
    ∙ multiples_ok (all_but (length values) q.place) (set values q.place v) q.column v new (omega arith) (omega arith) (omega arith)
    (λ i j. member_is (length values) q es v (get (set values q.place v) i) i a n l (omega arith) ∙ h.at i j)

pub pivot_stops : (q : ColumnPivot) (values : List Fraction) (es : List Entry) (v : Fraction) (p : ℕ) (r : Refused)
    → AreEntriesOf q.column es → length q.column ≡ length values → q.place < length values
    → div_outcome (get values q.place) (get q.column q.place) ≡ Ok v
    → IsStopped (LessBy v q.place) (set values q.place v) (at es) p r → transform_one q values ≡ Err r
pivot_stops q values es v p r a n l e h =
    let m : length (set values q.place v) ≡ length values = length-set values q.place v in
    let w = h.within in
    let b : length (all_but (length values) q.place) ≡ length values = but_length (length values) q.place in
    then_go (div_outcome (get values q.place) (get q.column q.place)) (others_script q values) v e
    ∙ multiples_err (all_but (length values) q.place) (set values q.place v) q.column v p r (omega arith) (omega arith) w
    (member_is (length values) q es v (get (set values q.place v) p) p a n l (omega arith) ∙ h.refused)
    (λ i j. let y = h.before i j in (y.0, member_is (length values) q es v (get (set values q.place v) i) i a n l (omega arith) ∙ y.1))

-- ---- a value 0 at the pivot's place changes nothing
sub_if_zero : (t : Bool) (x u : Fraction) → sub_if t x u (of_int (pos 0)) ≡ Ok x
sub_if_zero true x u = sub_zero_right x u
sub_if_zero false x u = refl

pub sub_multiples_zero : (ts : List Bool) (xs us : List Fraction) → sub_multiples ts xs us (of_int (pos 0)) ≡ Ok xs
sub_multiples_zero [] xs us = refl
sub_multiples_zero (t ∷ ts) [] us = refl
sub_multiples_zero (t ∷ ts) (x ∷ xs) [] = refl
sub_multiples_zero (t ∷ ts) (x ∷ xs) (u ∷ us) =
    then_go (sub_if t x u (of_int (pos 0))) (λ z. then (sub_multiples ts xs us (of_int (pos 0))) (λ zs. Ok (z ∷ zs))) x (sub_if_zero t x u)
    ∙ then_go (sub_multiples ts xs us (of_int (pos 0))) (λ zs. Ok (x ∷ zs)) xs (sub_multiples_zero ts xs us)

pub pivot_rests : (q : ColumnPivot) (values : List Fraction) → get values q.place ≡ of_int (pos 0) → transform_one q values ≡ Ok values
pivot_rests q values e =
    then_go (div_outcome (get values q.place) (get q.column q.place)) (others_script q values) (of_int (pos 0))
    (ap (λ x. div_outcome x (get q.column q.place)) e ∙ zero_div_fits (get q.column q.place))
    ∙ sub_multiples_zero (all_but (length values) q.place) (set values q.place (of_int (pos 0))) q.column
    ∙ ap Ok (ap (set values q.place) (sym e) ∙ set-get_or values q.place (of_int (pos 0)))

-- ---- the loop over pivots: what goes through those from index i on
abbrev pub pivots_left : List Pivot → ℕ → List Fraction → Result (List Fraction) Refused
pivots_left ps i values = transform_script (column_pivots (drop i ps)) values

-- ---- a program's pivots are those of a factor
pub pivots_are : (n : ℕ) (ps : List Pivot) → ArePivots n ps → All (IsColumnPivot n) (column_pivots ps)
pivots_are n ps h = All-map (IsColumnPivot n) column_pivot ps (λ i d l. let a = h i d l in record {
  place_low = a.0;
  column_length = a.1;
  nonzero = (not_zero_iff (get (get_or ps i d).column (get_or ps i d).place)).0 a.2;
})
