-- What the loop over the places knows of those before the one that it has come to.
use Rattle.std.proofs.Common.{◌≡◌, ℕ, zero, suc, ◌+◌, ◌<◌, ◌≤◌, List, [], ◌∷◌, ◌++◌, length, take, map, get_or, refl, sym, ap, ◌∙◌, subst, arith, Bool, true, false, cond, Option, None, Some, Result, Ok, Err, ⊎_elim}
use Rattle.std.proofs.lemmas.Bool.{cases_lt}
use Rattle.std.proofs.lemmas.List.{get_or_default, take-map, append-nil}
use Rattle.std.proofs.lemmas.List.FromFn.{get_or-range_with_len}
use Rattle.std.specs.List.{filter_map, range_with_len, cons_option, IsDistinct}
use Rattle.std.specs.List.Sorted.{ties}
use Rattle.std.specs.Option.{option_map}
use Rattle.pami_algebra.specs.Fraction.{Fraction}
use Rattle.pami_frac.specs.declared.arithmetic.Refused.{Refused}
use Rattle.pami_frac.specs.declared.list.Bounds.{Bounds}
use Rattle.pami_linear.specs.Lists.{get}
use Rattle.pami_script.specs.Script.{then}
use Rattle.pami_script.proofs.Scripts.{then_go, then_stop}
use Rattle.pami_script.proofs.Loops.{get_is}
use Rattle.pami_theory.specs.Form.{Form, limits}
use Rattle.pami_theory.specs.Basis.{Basis, head_at}
use Rattle.pami_theory.specs.Fresh.{Fresh}
use Rattle.pami_theory.specs.declared.words.Violation.{Violation}
use Rattle.pami_theory.specs.Violation.{violation}
use Rattle.pami_theory.specs.Choice.{InfeasibleRow, row_of, is_chosen_before, infeasible_at}
use Rattle.pami_theory.specs.Order.{ordered, put_in}
use Rattle.pami_theory.specs.Weights.{weight_at}
use Rattle.pami_theory.proofs.Comparisons.{choice_is_order}
use Rattle.pami_theory.proofs.Chosen.{take_put, ordered_more, rows_no_ties}
use Rattle.pami_method.specs.Scripts.{each_number, violation_script}
use Rattle.pami_chuzr.specs.declared.row.RankedRow.{RankedRow}
use Rattle.pami_chuzr.specs.Choice.{bounds_at, violation_at, infeasible_by, choice_script, chosen_by, chosen_row, places_script, row_by, is_before}
use Rattle.pami_chuzr.proofs.Places.{filter_map_same}

-- the infeasible ones among the first n places
abbrev pub rows_below : List Bounds → List Fraction → List ℕ → ℕ → List InfeasibleRow
rows_below bounds values weights n = filter_map (infeasible_by bounds values weights) (range_with_len 0 n)

-- no operation is refused before this place, and the first `most` rows before it are in the order of choice
pub record Surveyed (bounds : List Bounds) (values : List Fraction) (weights : List ℕ) (most place : ℕ) (ranked : List InfeasibleRow) : Type 0 where
  pub values_found : (q : ℕ) → q < place → (x : Option Violation) × (violation_at bounds values q ≡ Ok x)
  pub first_rows : ranked ≡ take most (ordered is_chosen_before (rows_below bounds values weights place))

-- ---- the script
all_found : (n k : ℕ) (step : ℕ → Result (Option Violation) Refused) → ((q : ℕ) → k ≤ q → q < k + n → (x : Option Violation) × (step q ≡ Ok x)) → (found : List (Option Violation)) × (each_number n k step ≡ Ok found)
all_found zero k step h = ([], refl)
all_found (suc n) k step h =
    let x = h k (omega arith) (omega arith) in
    let rest = all_found n (suc k) step (λ q l m. h q (omega arith) (omega arith)) in (
      x.0 ∷ rest.0,
      then_go (step k) (λ x. then (each_number n (suc k) step) (λ xs. Ok (x ∷ xs))) x.0 x.1
          ∙ then_go (each_number n (suc k) step) (λ xs. Ok (x.0 ∷ xs)) rest.0 rest.1,
    )

first_refused : (n k i : ℕ) (step : ℕ → Result (Option Violation) Refused) (r : Refused) → k ≤ i → i < k + n → ((q : ℕ) → k ≤ q → q < i → (x : Option Violation) × (step q ≡ Ok x)) → step i ≡ Err r → each_number n k step ≡ Err r
first_refused zero k i step r l m h e = absurd (omega arith)
first_refused (suc n) k i step r l m h e = ⊎_elim
    (λ (a : k < i). let x = h k (omega arith) a in
    then_go (step k) (λ x. then (each_number n (suc k) step) (λ xs. Ok (x ∷ xs))) x.0 x.1
    ∙ then_stop (each_number n (suc k) step) (λ xs. Ok (x.0 ∷ xs)) r (first_refused n (suc k) i step r (omega arith) (omega arith) (λ q b c. h q (omega arith) c) e))
    (λ (a : i ≤ k). let same : i ≡ k = omega arith in
    then_stop (step k) (λ x. then (each_number n (suc k) step) (λ xs. Ok (x ∷ xs))) r (subst (λ j. step j ≡ Err r) same e))
    (cases_lt k i)

-- ---- the rows
cons_append : {A : Type 0} (o : Option A) (xs ys : List A) → cons_option o (xs ++ ys) ≡ cons_option o xs ++ ys
cons_append None xs ys = refl
cons_append (Some x) xs ys = refl

rows_more : {A : Type 0} (h : ℕ → Option A) (n k : ℕ) → filter_map h (range_with_len k (suc n)) ≡ filter_map h (range_with_len k n) ++ cons_option (h (k + n)) []
rows_more h zero k = let e : k ≡ k + 0 = omega arith in ap (λ j. cons_option (h j) []) e
rows_more h (suc n) k =
    let e : (k + 1) + n ≡ k + suc n = omega arith in
    ap (cons_option (h k)) (rows_more h n (k + 1))
    ∙ cons_append (h k) (filter_map h (range_with_len (k + 1) n)) (cons_option (h ((k + 1) + n)) [])
    ∙ ap (λ j. cons_option (h k) (filter_map h (range_with_len (k + 1) n)) ++ cons_option (h j) []) e

-- a form with one row for each of the first n places, and a basis with its variables at them
abbrev form_below : List Bounds → ℕ → Form
form_below bounds n = record { rows = n; columns = 0; entries = []; bounds = bounds; costs = [] }

abbrev basis_below : ℕ → Basis
basis_below n = record { head = range_with_len 0 n; stands = [] }

abbrev fresh_below : List Fraction → Fresh
fresh_below values = record { values = values; reduced = []; rows = []; columns = [] }

below_same : (bounds : List Bounds) (values : List Fraction) (weights : List ℕ) (n p : ℕ) → p < n → infeasible_at (form_below bounds n) (basis_below n) (fresh_below values) weights p ≡ infeasible_by bounds values weights p
below_same bounds values weights n p h =
    let here : head_at (basis_below n) p ≡ p = omega (arith, get_or-range_with_len 0 n p 0 h) in
    ap (λ q. option_map (row_of p (weight_at weights p)) (violation (limits (form_below bounds n) q) (get values q))) here

rows_apart : (bounds : List Bounds) (values : List Fraction) (weights : List ℕ) (n : ℕ) → IsDistinct (ties is_chosen_before) (rows_below bounds values weights n)
rows_apart bounds values weights n =
    let f = form_below bounds n in
    let b = basis_below n in
    let s = fresh_below values in
    subst (IsDistinct (ties is_chosen_before)) (filter_map_same n 0 (infeasible_at f b s weights) (infeasible_by bounds values weights) (λ p l m. below_same bounds values weights n p (omega arith))) (rows_no_ties f b s weights)

rows_next : (bounds : List Bounds) (values : List Fraction) (weights : List ℕ) (n : ℕ) (o : Option InfeasibleRow) → infeasible_by bounds values weights n ≡ o → rows_below bounds values weights (n + 1) ≡ rows_below bounds values weights n ++ cons_option o []
rows_next bounds values weights n o e =
    let next : n + 1 ≡ suc n = omega arith in
    let here : 0 + n ≡ n = omega arith in
    ap (rows_below bounds values weights) next
    ∙ rows_more (infeasible_by bounds values weights) n 0
    ∙ ap (λ j. rows_below bounds values weights n ++ cons_option (infeasible_by bounds values weights j) []) here
    ∙ ap (λ o. rows_below bounds values weights n ++ cons_option o []) e

-- ---- one place more
found_next : (bounds : List Bounds) (values : List Fraction) (i : ℕ) (x : Option Violation) → violation_at bounds values i ≡ Ok x → ((q : ℕ) → q < i → (x : Option Violation) × (violation_at bounds values q ≡ Ok x)) →
    (q : ℕ) → q < i + 1 → (x : Option Violation) × (violation_at bounds values q ≡ Ok x)
found_next bounds values i x e h q l = ⊎_elim (λ (a : q < i). h q a) (λ (a : i ≤ q). let same : i ≡ q = omega arith in subst (λ j. (x : Option Violation) × (violation_at bounds values j ≡ Ok x)) same (x, e)) (cases_lt q i)

pub surveyed_feasible : (bounds : List Bounds) (values : List Fraction) (weights : List ℕ) (most i : ℕ) (ranked : List InfeasibleRow) → violation_at bounds values i ≡ Ok None → infeasible_by bounds values weights i ≡ None →
    Surveyed bounds values weights most i ranked → Surveyed bounds values weights most (i + 1) ranked
surveyed_feasible bounds values weights most i ranked e o s = record {
  values_found = found_next bounds values i None e s.values_found;
  first_rows = s.first_rows ∙ ap (λ rows. take most (ordered is_chosen_before rows)) (sym (rows_next bounds values weights i None o ∙ append-nil (rows_below bounds values weights i)));
}

pub surveyed_infeasible : (bounds : List Bounds) (values : List Fraction) (weights : List ℕ) (most i : ℕ) (ranked next : List InfeasibleRow) (x : Option Violation) (row : InfeasibleRow) →
    violation_at bounds values i ≡ Ok x → infeasible_by bounds values weights i ≡ Some row → next ≡ take most (put_in is_chosen_before row ranked) →
    Surveyed bounds values weights most i ranked → Surveyed bounds values weights most (i + 1) next
surveyed_infeasible bounds values weights most i ranked next x row e o p s =
    let rows = rows_below bounds values weights i in
    let more : rows_below bounds values weights (i + 1) ≡ rows ++ row ∷ [] = rows_next bounds values weights i (Some row) o in
    record {
      values_found = found_next bounds values i x e s.values_found;
      first_rows = p ∙ ap (λ zs. take most (put_in is_chosen_before row zs)) s.first_rows
          ∙ sym (take_put is_chosen_before most row (ordered is_chosen_before rows))
          ∙ ap (take most) (sym (ordered_more is_chosen_before rows row choice_is_order (subst (IsDistinct (ties is_chosen_before)) more (rows_apart bounds values weights (i + 1)))))
          ∙ ap (λ zs. take most (ordered is_chosen_before zs)) (sym more);
    }

-- ---- what is read at a place
bounds_read : (bounds : List Bounds) (k : ℕ) (b : Bounds) → k < length bounds → b ≡ get_or bounds k b → b ≡ bounds_at bounds k
bounds_read bounds k b l e = e ∙ get_or_default bounds k b (record { low = None; high = None }) l

pub script_read : (bounds : List Bounds) (values : List Fraction) (k : ℕ) (b : Bounds) (v : Fraction) (r : Result (Option Violation) Refused) → k < length bounds →
    b ≡ get_or bounds k b → k < length values → v ≡ get_or values k v → r ≡ violation_script b v → violation_at bounds values k ≡ r
script_read bounds values k b v r lb eb lv ev s =
    sym (s ∙ ap (λ l. violation_script l v) (bounds_read bounds k b lb eb) ∙ ap (violation_script (bounds_at bounds k)) (get_is values k v lv ev))

pub row_read : (bounds : List Bounds) (values : List Fraction) (weights : List ℕ) (k : ℕ) (b : Bounds) (v : Fraction) (x : Option Violation) → k < length bounds →
    b ≡ get_or bounds k b → k < length values → v ≡ get_or values k v → x ≡ violation b v → infeasible_by bounds values weights k ≡ option_map (row_of k (weight_at weights k)) x
row_read bounds values weights k b v x lb eb lv ev s =
    ap (option_map (row_of k (weight_at weights k)))
    (sym (s ∙ ap (λ l. violation l v) (bounds_read bounds k b lb eb) ∙ ap (violation (bounds_at bounds k)) (get_is values k v lv ev)))

-- rows put in order in another form
map_put_in : {A B : Type 0} (f : A → B) (before : B → B → Bool) (x : A) (xs : List A) → map f (put_in (λ y z. before (f y) (f z)) x xs) ≡ put_in before (f x) (map f xs)
map_put_in f before x [] = refl
map_put_in f before x (y ∷ ys) = go (before (f x) (f y)) (map_put_in f before x ys)
  where
    go : (t : Bool) → map f (put_in (λ y z. before (f y) (f z)) x ys) ≡ put_in before (f x) (map f ys) →
        map f (cond t (x ∷ y ∷ ys) (y ∷ put_in (λ y z. before (f y) (f z)) x ys)) ≡ cond t (f x ∷ f y ∷ map f ys) (f y ∷ put_in before (f x) (map f ys))
    go true h = refl
    go false h = ap (λ zs. f y ∷ zs) h

-- the rows that were put in order
pub ranked_read : (most : ℕ) (row : RankedRow) (old new : List RankedRow) → new ≡ take most (put_in is_before row old) → map row_by new ≡ take most (put_in is_chosen_before (row_by row) (map row_by old))
ranked_read most row old new e = ap (map row_by) e ∙ sym (take-map row_by most (put_in is_before row old)) ∙ ap (take most) (map_put_in row_by is_chosen_before row old)

-- ---- all places, and the first refusal
pub chosen_all : (bounds : List Bounds) (values : List Fraction) (weights : List ℕ) (most i : ℕ) (ranked : List InfeasibleRow) → i ≡ length values → Surveyed bounds values weights most i ranked → choice_script bounds values weights most ≡ Ok (map chosen_row ranked)
chosen_all bounds values weights most i ranked e s =
    let found = all_found (length values) 0 (violation_at bounds values) (λ q l m. s.values_found q (omega arith)) in
    then_go (places_script bounds values) (λ found. Ok (map chosen_row (chosen_by bounds values weights most))) found.0 found.1
    ∙ ap (λ n. Ok (map chosen_row (take most (ordered is_chosen_before (rows_below bounds values weights n))))) (sym e)
    ∙ ap (λ rows. Ok (map chosen_row rows)) (sym s.first_rows)

pub refused_first : (bounds : List Bounds) (values : List Fraction) (weights : List ℕ) (most i : ℕ) (ranked : List InfeasibleRow) (r : Refused) → i < length values → violation_at bounds values i ≡ Err r → Surveyed bounds values weights most i ranked → choice_script bounds values weights most ≡ Err r
refused_first bounds values weights most i ranked r l e s =
    then_stop (places_script bounds values) (λ found. Ok (map chosen_row (chosen_by bounds values weights most))) r
    (first_refused (length values) 0 i (violation_at bounds values) r (omega arith) (omega arith) (λ q a b. s.values_found q b) e)
