-- The scripts of the collective update over plain lists are those of the major, where the lists are its own.
use Rattle.std.proofs.Common.{◌≡◌, ℕ, zero, suc, ◌+◌, ◌≤◌, ◌<◌, List, [], ◌∷◌, length, map, Result, Ok, Err, refl, ap, ◌∙◌, arith}
use Rattle.std.specs.List.{range_with_len}
use Rattle.pami_algebra.specs.Fraction.{Fraction}
use Rattle.pami_frac.specs.Arithmetic.{add_outcome, sub_outcome}
use Rattle.pami_frac.specs.declared.arithmetic.Refused.{Refused}
use Rattle.pami_linear.specs.Lists.{get}
use Rattle.pami_script.specs.Script.{then, each_member, add_product}
use Rattle.pami_script.proofs.Scripts.{then_same}
use Rattle.pami_script.proofs.Members.{length_members}
use Rattle.pami_factoring.specs.Solve.{transform_script}
use Rattle.pami_theory.specs.Form.{Form}
use Rattle.pami_theory.specs.Fresh.{value_at_place, column_at}
use Rattle.pami_theory.specs.Step.{flips_change}
use Rattle.pami_method.specs.Batch.{Reached, Minor}
use Rattle.pami_method.specs.Scripts.{each_number}
use Rattle.pami_method.specs.Work.{pivot_of, all_flips_script, all_flips_at, entering_value, leaving_bound, sub_at, moved_script, values_script}
use Rattle.pami_deferral.specs.Listed.{AreChanges, total_script, exchange_at, exchanges_script, collect_script}

-- ---- scripts over members, with the same steps
pub members_same : {A B : Type 0} (step other : ℕ → A → Result B Refused) (k : ℕ) (xs : List A)
    → ((i : ℕ) (x : A) → k ≤ i → i < k + length xs → step i x ≡ other i x) → each_member step k xs ≡ each_member other k xs
members_same step other k [] h = refl
members_same step other k (x ∷ xs) h =
    ap (λ r. then r (λ y. then (each_member step (suc k) xs) (λ ys. Ok (y ∷ ys)))) (h k x (omega arith) (omega arith))
    ∙ ap (λ r. then (other k x) (λ y. then r (λ ys. Ok (y ∷ ys))))
    (members_same step other (suc k) xs (λ i z l m. h i z (omega arith) (omega arith)))

-- the members of a table, each with its number
pub members_numbers : {A B : Type 0} (g : ℕ → A) (step : ℕ → A → Result B Refused) (n k : ℕ)
    → each_member step k (map g (range_with_len k n)) ≡ each_number n k (λ i. step i (g i))
members_numbers g step zero k = refl
members_numbers g step (suc n) k =
    let at : k + 1 ≡ suc k = omega arith in
    ap (λ j. then (step k (g k)) (λ y. then (each_member step (suc k) (map g (range_with_len j n))) (λ ys. Ok (y ∷ ys)))) at
    ∙ ap (λ r. then (step k (g k)) (λ y. then r (λ ys. Ok (y ∷ ys)))) (members_numbers g step n (suc k))

pub numbers_same : {A : Type 0} (n k : ℕ) (step other : ℕ → Result A Refused) → ((i : ℕ) → k ≤ i → i < k + n → step i ≡ other i)
    → each_number n k step ≡ each_number n k other
numbers_same zero k step other h = refl
numbers_same (suc n) k step other h =
    ap (λ r. then r (λ x. then (each_number n (suc k) step) (λ xs. Ok (x ∷ xs)))) (h k (omega arith) (omega arith))
    ∙ ap (λ r. then (other k) (λ x. then r (λ xs. Ok (x ∷ xs))))
    (numbers_same n (suc k) step other (λ i l m. h i (omega arith) (omega arith)))

-- ---- the sum of the flips
then_with : {A B : Type 0} (r : Result A Refused) (g h : A → Result B Refused) → ((x : A) → r ≡ Ok x → g x ≡ h x) → then r g ≡ then r h
then_with (Ok x) g h e = e x refl
then_with (Err d) g h e = refl

pub total_is : (f : Form) (ms : List Minor) (cs : List (List Fraction)) (rows : List Fraction) → AreChanges f ms cs → length rows ≡ f.rows
    → total_script cs rows ≡ all_flips_script f ms rows
total_is f [] [] rows h l = refl
total_is f [] (c ∷ cs) rows h l = absurd h
total_is f (m ∷ ms) [] rows h l = absurd h
total_is f (m ∷ ms) (c ∷ cs) rows h l =
    ap (λ r. then r (λ next. total_script cs next))
    (members_same (λ i t. add_outcome t (get c i)) (λ i t. add_outcome t (flips_change f m.reached.basis m.step.flips i)) 0 rows
    (λ i t a b. ap (add_outcome t) (h.0 i (omega (arith, b, l)))))
    ∙ then_with (each_member (λ i t. add_outcome t (flips_change f m.reached.basis m.step.flips i)) 0 rows) (λ next. total_script cs next)
    (λ next. all_flips_script f ms next)
    (λ next e. total_is f ms cs next h.1
    (length_members (λ i t. add_outcome t (flips_change f m.reached.basis m.step.flips i)) 0 rows next e ∙ l))

-- ---- the values
pub exchanges_are : (f : Form) (first : Reached) (ms : List Minor) (v : List Fraction)
    → exchanges_script (map (exchange_at f first) ms) v ≡ moved_script f first ms v
exchanges_are f first [] v = refl
exchanges_are f first (m ∷ ms) v =
    then_same (each_member (λ i x. add_product x (entering_value m) (get (column_at first.fresh m.step.entering) i)) 0 v) _ _
    (λ w. then_same (sub_at m.step.place (leaving_bound f m) w) _ _ (λ next. exchanges_are f first ms next))

pub collect_is : (f : Form) (first : Reached) (ms : List Minor) (flips : List Fraction)
    → ((p : ℕ) → p < f.rows → get flips p ≡ all_flips_at f first ms p) →
    collect_script (map (value_at_place first.basis first.fresh) (range_with_len 0 f.rows)) flips (map (exchange_at f first) ms)
    (map pivot_of ms) ≡ values_script f first ms
collect_is f first ms flips h =
    let x : ℕ → Fraction = value_at_place first.basis first.fresh in
    ap (λ r. then r (λ v. then (exchanges_script (map (exchange_at f first) ms) v) (λ w. transform_script (map pivot_of ms) w)))
    (members_numbers x (λ i z. sub_outcome z (get flips i)) f.rows 0
    ∙ numbers_same f.rows 0 (λ p. sub_outcome (x p) (get flips p)) (λ p. sub_outcome (x p) (all_flips_at f first ms p))
    (λ i a b. ap (sub_outcome (x i)) (h i (omega (arith, b)))))
    ∙ then_same (each_number f.rows 0 (λ p. sub_outcome (x p) (all_flips_at f first ms p))) _ _
    (λ v. ap (λ r. then r (λ w. transform_script (map pivot_of ms) w)) (exchanges_are f first ms v))
