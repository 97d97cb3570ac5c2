-- Rows and scripts over lists by place are those of a basis that has these lists.
use Rattle.std.proofs.Common.{◌≡◌, ◌↔◌, ℕ, zero, suc, ◌+◌, ◌<◌, ◌≤◌, List, ◌∷◌, take, map, refl, sym, ap, ◌∙◌, arith, Option, Result, Ok, Err}
use Rattle.std.specs.List.{filter_map, range_with_len, cons_option}
use Rattle.std.specs.Option.{option_map}
use Rattle.pami_algebra.specs.Fraction.{Fraction}
use Rattle.pami_frac.specs.declared.arithmetic.Refused.{Refused}
use Rattle.pami_frac.specs.declared.list.Bounds.{Bounds}
use Rattle.pami_linear.specs.Lists.{get}
use Rattle.pami_script.specs.Script.{then}
use Rattle.pami_script.proofs.Scripts.{then_ok}
use Rattle.pami_theory.specs.Form.{Form, limits}
use Rattle.pami_theory.specs.Basis.{Basis, head_at}
use Rattle.pami_theory.specs.Fresh.{Fresh}
use Rattle.pami_theory.specs.Violation.{violation}
use Rattle.pami_theory.specs.Weights.{weight_at}
use Rattle.pami_theory.specs.Order.{ordered}
use Rattle.pami_theory.specs.Choice.{row_of, is_chosen_before, infeasible_at, chosen}
use Rattle.pami_method.specs.Scripts.{each_number, violation_script, place_script, choose_script}
use Rattle.pami_chuzr.specs.declared.row.ChosenRow.{ChosenRow}
use Rattle.pami_chuzr.specs.Choice.{AreOfPlaces, violation_at, places_script, infeasible_by, chosen_by, chosen_row, choice_script}

-- ---- what is the same at each place
pub filter_map_same : {A : Type 0} (n k : ℕ) (g h : ℕ → Option A) → ((p : ℕ) → k ≤ p → p < k + n → g p ≡ h p) → filter_map g (range_with_len k n) ≡ filter_map h (range_with_len k n)
filter_map_same zero k g h e = refl
filter_map_same (suc n) k g h e =
    ap (λ o. cons_option o (filter_map g (range_with_len (k + 1) n))) (e k (omega arith) (omega arith))
    ∙ ap (λ rows. cons_option (h k) rows) (filter_map_same n (k + 1) g h (λ p l m. e p (omega arith) (omega arith)))

each_number_same : {A : Type 0} (n k : ℕ) (g h : ℕ → Result A Refused) → ((p : ℕ) → k ≤ p → p < k + n → g p ≡ h p) → each_number n k g ≡ each_number n k h
each_number_same zero k g h e = refl
each_number_same (suc n) k g h e =
    ap (λ r. then r (λ x. then (each_number n (suc k) g) (λ xs. Ok (x ∷ xs)))) (e k (omega arith) (omega arith))
    ∙ ap (λ rest. then (h k) (λ x. then rest (λ xs. Ok (x ∷ xs)))) (each_number_same n (suc k) g h (λ p l m. e p (omega arith) (omega arith)))

-- ---- at a basis
pub rows_of_basis : (f : Form) (b : Basis) (s : Fresh) (bounds : List Bounds) (values : List Fraction) (weights : List ℕ) (most : ℕ) → AreOfPlaces f b s bounds values → chosen_by bounds values weights most ≡ chosen f b s weights most
rows_of_basis f b s bounds values weights most o =
    ap (λ n. take most (ordered is_chosen_before (filter_map (infeasible_by bounds values weights) (range_with_len 0 n)))) o.places
    ∙ ap (λ rows. take most (ordered is_chosen_before rows)) (filter_map_same f.rows 0 (infeasible_by bounds values weights) (infeasible_at f b s weights)
    (λ p l m. let w : p < f.rows = omega arith in ap (λ t. option_map (row_of p (weight_at weights p)) (violation t (get values p))) (o.bound p w) ∙ ap (λ v. option_map (row_of p (weight_at weights p)) (violation (limits f (head_at b p)) v)) (o.value p w)))

pub script_of_basis : (f : Form) (b : Basis) (s : Fresh) (bounds : List Bounds) (values : List Fraction) → AreOfPlaces f b s bounds values → places_script bounds values ≡ choose_script f b s
script_of_basis f b s bounds values o =
    ap (λ n. each_number n 0 (violation_at bounds values)) o.places
    ∙ each_number_same f.rows 0 (violation_at bounds values) (place_script f b s)
    (λ p l m. let w : p < f.rows = omega arith in ap (λ t. violation_script t (get values p)) (o.bound p w) ∙ ap (violation_script (limits f (head_at b p))) (o.value p w))

-- ---- what is answered
pub value_of_basis : (f : Form) (b : Basis) (s : Fresh) (bounds : List Bounds) (values : List Fraction) (weights : List ℕ) (most : ℕ) (rows : List ChosenRow) → AreOfPlaces f b s bounds values → choice_script bounds values weights most ≡ Ok rows →
    rows ≡ map chosen_row (chosen f b s weights most)
value_of_basis f b s bounds values weights most rows o e =
    let h = then_ok (places_script bounds values) (λ found. Ok (map chosen_row (chosen_by bounds values weights most))) rows e in
    let same : map chosen_row (chosen_by bounds values weights most) ≡ rows = ok_is (map chosen_row (chosen_by bounds values weights most)) rows h.1.1 in
    sym same ∙ ap (map chosen_row) (rows_of_basis f b s bounds values weights most o)
  where
    ok_is : (x y : List ChosenRow) → ◌≡◌ {A = Result (List ChosenRow) Refused} (Ok x) (Ok y) → x ≡ y
    ok_is x y h = cc

refused_iff : {A B : Type 0} (r : Result A Refused) (f : A → B) (e : Refused) → (then r (λ x. Ok (f x)) ≡ Err e) ↔ (r ≡ Err e)
refused_iff (Ok x) f e = (λ h. absurd (cc), λ h. absurd (cc))
refused_iff (Err d) f e = (λ h. let k : d ≡ e = cc in ap Err k, λ h. let k : d ≡ e = cc in ap Err k)

pub refusal_of_basis : (f : Form) (b : Basis) (s : Fresh) (bounds : List Bounds) (values : List Fraction) (weights : List ℕ) (most : ℕ) (r : Refused) → AreOfPlaces f b s bounds values → (choice_script bounds values weights most ≡ Err r) ↔ (choose_script f b s ≡ Err r)
refusal_of_basis f b s bounds values weights most r o =
    let same = script_of_basis f b s bounds values o in
    let i = refused_iff (places_script bounds values) (λ found. map chosen_row (chosen_by bounds values weights most)) r in
    (λ h. sym same ∙ i.0 h, λ h. i.1 (same ∙ h))
