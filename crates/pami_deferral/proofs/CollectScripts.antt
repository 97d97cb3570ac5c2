-- The scripts of the collective update that aren't refused have the exact values.
use Rattle.std.proofs.Common.{◌≡◌, ℕ, ◌+◌, ◌<◌, ⊎_elim, List, [], ◌∷◌, ◌++◌, length, map, set, Ok, refl, sym, ap, ◌∙◌, subst, arith}
use Rattle.std.specs.Prelude.{All}
use Rattle.std.specs.List.{range_with_len}
use Rattle.std.proofs.lemmas.Bool.{cases_eq}
use Rattle.std.proofs.lemmas.List.{get_or-set_same, get_or-set_other, length-set, length-replicate, get_or-replicate}
use Rattle.std.proofs.lemmas.List.Elements.{All-nil, All-cons}
use lib.IntN.{pos}
use Rattle.pami_algebra.specs.Fraction.{Fraction}
use Rattle.pami_algebra.specs.Operations.{◌+ᶠ◌, ◌-ᶠ◌, ◌*ᶠ◌, of_int}
use Rattle.pami_algebra.specs.Ring.{var, t0, t1, ◌⊕◌, ◌⊗◌, ⊖}
use Rattle.pami_algebra.proofs.Laws.{by_ring_f}
use Rattle.pami_frac.specs.Arithmetic.{add_outcome, sub_outcome}
use Rattle.pami_frac.proofs.Outcomes.{add_value, sub_value}
use Rattle.pami_linear.specs.Lists.{get}
use Rattle.pami_linear.specs.Sums.{unit}
use Rattle.pami_linear.proofs.Sums.{unit_same, unit_other}
use Rattle.pami_script.specs.Script.{then, each_member, add_product}
use Rattle.pami_script.proofs.Scripts.{then_ok}
use Rattle.pami_script.proofs.Members.{member_is, length_members}
use Rattle.pami_script.proofs.Values.{add_product_value}
use Rattle.pami_factoring.specs.Solve.{ColumnPivot, transform_one, transform_script}
use Rattle.pami_factoring.specs.History.{IsColumnPivot}
use Rattle.pami_factoring.proofs.Transforms.{transform_length, transform_value, history_head, history_tail}
use Rattle.pami_theory.specs.Form.{Form, zero_f}
use Rattle.pami_theory.specs.Basis.{IsBasis}
use Rattle.pami_theory.specs.Fresh.{IsFresh, column_at, value_at_place}
use Rattle.pami_theory.specs.Step.{flips_change}
use Rattle.pami_theory.proofs.Tables.{tabled, tabled_length, tabled_at}
use Rattle.pami_theory.proofs.Steps.{step_pivot}
use Rattle.pami_method.specs.Batch.{Reached, Minor, IsBatch}
use Rattle.pami_method.specs.Scripts.{each_number, zeros}
use Rattle.pami_method.specs.Work.{pivot_of, all_flips_script, all_flips_change, all_flips_at, entering_value, leaving_bound, sub_at, moved_script, values_script}
use Rattle.pami_method.proofs.Values.{numbers_are}
use Rattle.pami_deferral.specs.Collected.{through, through_all, entered, departed, gathered}
use Rattle.pami_deferral.proofs.Chains.{Links, IsChain, ended, linked, exchange_of}
use Rattle.pami_deferral.proofs.CollectedValues.{same_below, through_length, through_at, deferred_are, deferred_column, collected_are}
use Rattle.pami_deferral.proofs.Minors.{batch_parts}

-- ---- through the pivots
pub transform_is : (m : ℕ) (q : ColumnPivot) (x y : List Fraction) → IsColumnPivot m q → length x ≡ m → transform_one q x ≡ Ok y
    → y ≡ through q x
transform_is m q x y k l e =
    same_below m y (through q x) (transform_length q x y e ∙ l) (through_length q x ∙ l)
    (λ g h. transform_value m q x y k l e g h ∙ sym (through_at q x g (subst (λ n. g < n) (sym l) h)))

pub transforms_are : (m : ℕ) (qs : List ColumnPivot) (x y : List Fraction) → All (IsColumnPivot m) qs → length x ≡ m
    → transform_script qs x ≡ Ok y → y ≡ through_all qs x
transforms_are m [] x y a l e = cc
transforms_are m (q ∷ qs) x y a l e =
    let h = then_ok (transform_one q x) (λ z. transform_script qs z) y e in
    let same : h.0 ≡ through q x = transform_is m q x h.0 (history_head m q qs a) l h.1.0 in
    transforms_are m qs h.0 y (history_tail m q qs a) (ap length same ∙ through_length q x ∙ l) h.1.1 ∙ ap (through_all qs) same

-- the pivots of a batch
pub pivot_is_column : (f : Form) (m : Minor) (next : Reached) → Links f m next → IsColumnPivot f.rows (pivot_of m)
pivot_is_column f m next k =
    let x = exchange_of f m next k in
    record {
      place_low = x.place;
      column_length = k.step.fresh.column_by_place m.step.entering x.within;
      nonzero = step_pivot f m.reached.basis m.reached.fresh m.row.place m.row.violation m.step k.step;
    }

pub pivots_are_columns : (f : Form) (first : Reached) (ms : List Minor) (last : Reached) → IsChain f first ms last
    → All (IsColumnPivot f.rows) (map pivot_of ms)
pivots_are_columns f _ _ _ (ended r) = All-nil (IsColumnPivot f.rows)
pivots_are_columns f _ _ _ (linked m next ms last k rest) = All-cons (IsColumnPivot f.rows) (pivot_of m) (map pivot_of ms)
    (pivot_is_column f m next k) (pivots_are_columns f next ms last rest)

-- an entering column that is taken through the pivots before its own
pub transformed_in : (f : Form) (limit : ℕ) (first : Reached) (es : List Minor) (m : Minor) (ms : List Minor) (last : Reached)
    (y : List Fraction) → IsBasis f first.basis → IsFresh f first.basis first.fresh
    → IsBatch f limit first (es ++ m ∷ ms) last → transform_script (map pivot_of es) (column_at first.fresh m.step.entering) ≡ Ok y
    → y ≡ column_at m.reached.fresh m.step.entering
transformed_in f limit first es m ms last y b s h e =
    let p = batch_parts f limit first es m ms last b s h in
    transforms_are f.rows (map pivot_of es) (column_at first.fresh m.step.entering) y (pivots_are_columns f first es m.reached p.before)
    (s.column_by_place m.step.entering (exchange_of f m p.next p.link).within) e
    ∙ deferred_column f first es m p.next s p.before p.link

-- ---- the sum of the flips
added_value : (c : ℕ → Fraction) (rows next : List Fraction) (i : ℕ) → each_member (λ i t. add_outcome t (c i)) 0 rows ≡ Ok next
    → i < length rows → get next i ≡ get rows i +ᶠ c i
added_value c rows next i e l =
    let at : 0 + i ≡ i = omega arith in
    let h = member_is (λ i t. add_outcome t (c i)) 0 rows next i zero_f zero_f e l in
    add_value (get rows i) (c i) (get next i) (subst (λ j. add_outcome (get rows i) (c j) ≡ Ok (get next i)) at h)

pub total_value : (f : Form) (ms : List Minor) (rows total : List Fraction) (i : ℕ) → all_flips_script f ms rows ≡ Ok total
    → i < length rows → get total i ≡ get rows i +ᶠ all_flips_change f ms i
total_value f [] rows total i e l = let same : rows ≡ total = cc in ap (λ (xs : List Fraction). get xs i) (sym same)
    ∙ by_ring_f (get rows i ∷ []) (var 0) (var 0 ⊕ t0) refl
total_value f (m ∷ ms) rows total i e l =
    let c : ℕ → Fraction = flips_change f m.reached.basis m.step.flips in
    let h = then_ok (each_member (λ i t. add_outcome t (c i)) 0 rows) (λ next. all_flips_script f ms next) total e in
    let n = length_members (λ i t. add_outcome t (c i)) 0 rows h.0 h.1.0 in
    total_value f ms h.0 total i h.1.1 (subst (λ k. i < k) (sym n) l)
    ∙ ap (λ x. x +ᶠ all_flips_change f ms i) (added_value c rows h.0 i h.1.0 l)
    ∙ by_ring_f (get rows i ∷ c i ∷ all_flips_change f ms i ∷ []) ((var 0 ⊕ var 1) ⊕ var 2) (var 0 ⊕ (var 1 ⊕ var 2)) refl

pub total_length : (f : Form) (ms : List Minor) (rows total : List Fraction) → all_flips_script f ms rows ≡ Ok total
    → length total ≡ length rows
total_length f [] rows total e = let same : rows ≡ total = cc in sym (ap length same)
total_length f (m ∷ ms) rows total e =
    let h = then_ok (each_member (λ i t. add_outcome t (flips_change f m.reached.basis m.step.flips i)) 0 rows)
    (λ next. all_flips_script f ms next) total e in
    total_length f ms h.0 total h.1.1
    ∙ length_members (λ i t. add_outcome t (flips_change f m.reached.basis m.step.flips i)) 0 rows h.0 h.1.0

pub total_from_zeros : (f : Form) (ms : List Minor) (total : List Fraction) (i : ℕ) → all_flips_script f ms (zeros f.rows) ≡ Ok total
    → i < f.rows → get total i ≡ all_flips_change f ms i
total_from_zeros f ms total i e l =
    total_value f ms (zeros f.rows) total i e (subst (λ n. i < n) (sym (length-replicate f.rows zero_f)) l)
    ∙ ap (λ x. x +ᶠ all_flips_change f ms i) (get_or-replicate f.rows i zero_f zero_f l)
    ∙ by_ring_f (all_flips_change f ms i ∷ []) (t0 ⊕ var 0) (var 0) refl

-- ---- the values
entered_at : (v : Fraction) (column xs ys : List Fraction) (i : ℕ) → each_member (λ i x. add_product x v (get column i)) 0 xs ≡ Ok ys
    → i < length xs → get ys i ≡ get xs i +ᶠ v *ᶠ get column i
entered_at v column xs ys i e l =
    let at : 0 + i ≡ i = omega arith in
    let h = member_is (λ i x. add_product x v (get column i)) 0 xs ys i zero_f zero_f e l in
    add_product_value (get xs i) v (get column i) (get ys i) (subst (λ j. add_product (get xs i) v (get column j) ≡ Ok (get ys i)) at h)

departed_at : (p : ℕ) (bound : Fraction) (xs ys : List Fraction) (i : ℕ) → sub_at p bound xs ≡ Ok ys → i < length xs
    → get ys i ≡ get xs i -ᶠ bound *ᶠ unit p i
departed_at p bound xs ys i e l =
    let h = then_ok (sub_outcome (get xs p) bound) (λ x. Ok (set xs p x)) ys e in
    let same : set xs p h.0 ≡ ys = cc (h.1.1) in
    ap (λ (zs : List Fraction). get zs i) (sym same)
    ∙ ⊎_elim
    (λ (q : i ≡ p). subst (λ j. get (set xs p h.0) j ≡ get xs j -ᶠ bound *ᶠ unit p j) (sym q)
    (get_or-set_same xs p h.0 (of_int (pos 0)) (subst (λ j. j < length xs) q l) ∙ sub_value (get xs p) bound h.0 h.1.0
    ∙ by_ring_f (get xs p ∷ bound ∷ []) (var 0 ⊕ ⊖ (var 1)) (var 0 ⊕ ⊖ (var 1 ⊗ t1)) refl
    ∙ ap (λ u. get xs p -ᶠ bound *ᶠ u) (sym (unit_same p))))
    (λ (n : ¬ (i ≡ p)). get_or-set_other xs p i h.0 (of_int (pos 0)) n
    ∙ by_ring_f (get xs i ∷ bound ∷ []) (var 0) (var 0 ⊕ ⊖ (var 1 ⊗ t0)) refl
    ∙ ap (λ u. get xs i -ᶠ bound *ᶠ u) (sym (unit_other p i (λ d. n (sym d)))))
    (cases_eq i p)

departed_length : (p : ℕ) (bound : Fraction) (xs ys : List Fraction) → sub_at p bound xs ≡ Ok ys → length ys ≡ length xs
departed_length p bound xs ys e =
    let h = then_ok (sub_outcome (get xs p) bound) (λ x. Ok (set xs p x)) ys e in
    let same : set xs p h.0 ≡ ys = cc (h.1.1) in
    sym (ap length same) ∙ length-set xs p h.0

moved_value : (f : Form) (first : Reached) (ms : List Minor) (xs ys : List Fraction) (i : ℕ) → moved_script f first ms xs ≡ Ok ys
    → i < length xs → (length ys ≡ length xs) × (get ys i ≡ (get xs i +ᶠ entered first ms i) -ᶠ departed f ms i)
moved_value f first [] xs ys i e l =
    let same : xs ≡ ys = cc in
    (sym (ap length same), ap (λ (zs : List Fraction). get zs i) (sym same) ∙ by_ring_f (get xs i ∷ []) (var 0) ((var 0 ⊕ t0) ⊕ ⊖ t0) refl)
moved_value f first (m ∷ ms) xs ys i e l =
    let v : Fraction = entering_value m in
    let column : List Fraction = column_at first.fresh m.step.entering in
    let p : ℕ = m.step.place in
    let bound : Fraction = leaving_bound f m in
    let a = then_ok (each_member (λ i x. add_product x v (get column i)) 0 xs)
    (λ w. then (sub_at p bound w) (λ next. moved_script f first ms next)) ys e in
    let c = then_ok (sub_at p bound a.0) (λ next. moved_script f first ms next) ys a.1.1 in
    let na : length a.0 ≡ length xs = length_members (λ i x. add_product x v (get column i)) 0 xs a.0 a.1.0 in
    let nc : length c.0 ≡ length a.0 = departed_length p bound a.0 c.0 c.1.0 in
    let la : i < length a.0 = subst (λ n. i < n) (sym na) l in
    let rest = moved_value f first ms c.0 ys i c.1.1 (subst (λ n. i < n) (sym nc) la) in (
      rest.0 ∙ nc ∙ na,
      rest.1
          ∙ ap (λ z. (z +ᶠ entered first ms i) -ᶠ departed f ms i) (departed_at p bound a.0 c.0 i c.1.0 la
          ∙ ap (λ z. z -ᶠ bound *ᶠ unit p i) (entered_at v column xs a.0 i a.1.0 l))
          ∙ by_ring_f (get xs i ∷ v ∷ get column i ∷ bound ∷ unit p i ∷ entered first ms i ∷ departed f ms i ∷ [])
          ((((var 0 ⊕ var 1 ⊗ var 2) ⊕ ⊖ (var 3 ⊗ var 4)) ⊕ var 5) ⊕ ⊖ (var 6))
          ((var 0 ⊕ (var 1 ⊗ var 2 ⊕ var 5)) ⊕ ⊖ (var 3 ⊗ var 4 ⊕ var 6)) refl,
    )

pub values_value : (f : Form) (first : Reached) (ms : List Minor) (last : Reached) (xs : List Fraction) → IsFresh f first.basis first.fresh
    → IsFresh f last.basis last.fresh → IsChain f first ms last
    → values_script f first ms ≡ Ok xs → xs ≡ map (value_at_place last.basis last.fresh) (range_with_len 0 f.rows)
values_value f first ms last xs s g h e =
    let n : ℕ = f.rows in
    let less : ℕ → Fraction = λ p. value_at_place first.basis first.fresh p -ᶠ all_flips_at f first ms p in
    let less_step = λ (p : ℕ). sub_outcome (value_at_place first.basis first.fresh p) (all_flips_at f first ms p) in
    let a = then_ok (each_number n 0 less_step) (λ v. then (moved_script f first ms v) (λ w. transform_script (map pivot_of ms) w)) xs e in
    let c = then_ok (moved_script f first ms a.0) (λ w. transform_script (map pivot_of ms) w) xs a.1.1 in
    let v : a.0 ≡ tabled n less =
    numbers_are less n 0 less_step a.0
    (λ p x k. sub_value (value_at_place first.basis first.fresh p) (all_flips_at f first ms p) x k) a.1.0 in
    let la : length a.0 ≡ n = ap length v ∙ tabled_length n less in
    let lc : length c.0 ≡ n = moved_length f first ms a.0 c.0 c.1.0 ∙ la in
    let w : c.0 ≡ tabled n (gathered f first ms) = same_below n c.0 (tabled n (gathered f first ms)) lc
    (tabled_length n (gathered f first ms))
    (λ i l. (moved_value f first ms a.0 c.0 i c.1.0 (subst (λ k. i < k) (sym la) l)).1
    ∙ ap (λ z. (z +ᶠ entered first ms i) -ᶠ departed f ms i) (ap (λ (zs : List Fraction). get zs i) v ∙ tabled_at n less i zero_f l)
    ∙ sym (tabled_at n (gathered f first ms) i zero_f l)) in
    transforms_are n (map pivot_of ms) c.0 xs (pivots_are_columns f first ms last h) lc c.1.1
    ∙ ap (through_all (map pivot_of ms)) w
    ∙ ap (λ es. through_all es (tabled n (gathered f first ms))) (sym (deferred_are f first ms last s h))
    ∙ collected_are f first ms last s g h
  where
    moved_length : (f : Form) (first : Reached) (ms : List Minor) (xs ys : List Fraction) → moved_script f first ms xs ≡ Ok ys
        → length ys ≡ length xs
    moved_length f first [] xs ys e = let same : xs ≡ ys = cc in sym (ap length same)
    moved_length f first (m ∷ ms) xs ys e =
        let v : Fraction = entering_value m in
        let column : List Fraction = column_at first.fresh m.step.entering in
        let a = then_ok (each_member (λ i x. add_product x v (get column i)) 0 xs)
        (λ w. then (sub_at m.step.place (leaving_bound f m) w) (λ next. moved_script f first ms next)) ys e in
        let c = then_ok (sub_at m.step.place (leaving_bound f m) a.0) (λ next. moved_script f first ms next) ys a.1.1 in
        moved_length f first ms c.0 ys c.1.1 ∙ departed_length m.step.place (leaving_bound f m) a.0 c.0 c.1.0
        ∙ length_members (λ i x. add_product x v (get column i)) 0 xs a.0 a.1.0
