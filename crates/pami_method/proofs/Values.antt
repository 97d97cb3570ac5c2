-- The scripts of a major that aren't refused have the exact values.
use Rattle.std.proofs.Common.{◌≡◌, ℕ, zero, suc, ◌+◌, ◌<◌, List, [], ◌∷◌, map, length, refl, sym, ap, ◌∙◌, subst, arith, Bool, true, false, cond, Option, None, Some, Result, Ok, not, nat_eq}
use Rattle.std.specs.List.{filter, range_with_len}
use Rattle.pami_algebra.specs.Fraction.{Fraction}
use Rattle.pami_algebra.specs.Operations.{◌+ᶠ◌, ◌*ᶠ◌, ◌-ᶠ◌, ◌/ᶠ◌, is_below}
use Rattle.pami_algebra.specs.Ring.{var, t0, ◌⊕◌, ◌⊗◌}
use Rattle.pami_algebra.proofs.Laws.{by_ring_f}
use Rattle.pami_algebra.proofs.Field.{nil_add_f}
use Rattle.pami_frac.specs.Arithmetic.{sub_outcome, div_outcome}
use Rattle.pami_frac.specs.declared.arithmetic.Refused.{Refused}
use Rattle.pami_frac.proofs.Outcomes.{sub_value, div_value}
use Rattle.pami_linear.specs.Lists.{get}
use Rattle.pami_linear.specs.Sums.{dot}
use Rattle.pami_script.specs.Script.{then, each_member, add_dot, add_product, sub_product}
use Rattle.pami_script.proofs.Scripts.{then_ok}
use Rattle.pami_script.proofs.Members.{member_is, length_members}
use Rattle.pami_script.proofs.Values.{add_dot_value, add_product_value, sub_product_value}
use Rattle.pami_frac.specs.declared.list.Bounds.{Bounds}
use Rattle.pami_theory.specs.Form.{Form, limits, entry, coefficient, variables, zero_f}
use Rattle.pami_theory.specs.Basis.{Basis, head_at}
use Rattle.pami_theory.specs.Fresh.{Fresh, row_at, value_at_place}
use Rattle.pami_theory.specs.declared.words.Side.{Side}
use Rattle.pami_theory.specs.declared.words.Side.TheVariants.{Above, Below}
use Rattle.pami_theory.specs.declared.words.Violation.{Violation}
use Rattle.pami_theory.specs.Violation.{violation, below_low, above_high}
use Rattle.pami_theory.specs.Ratio.{Leaving, turned_entry, row_entry, ratio, is_candidate}
use Rattle.pami_theory.specs.Step.{Step, flip_change, flips_change}
use Rattle.pami_method.specs.Scripts.{each_number, start_script, low_script, high_script, violation_script, place_script, choose_script, row_script, nonbasic_in, price_script, ratios_script, add_column, flips_script, reach_script, shift_script}

-- ---- lists of results
pub numbers_are : {A : Type 0} (g : ℕ → A) (n k : ℕ) (step : ℕ → Result A Refused) (xs : List A) → ((i : ℕ) (x : A) → step i ≡ Ok x → x ≡ g i) → each_number n k step ≡ Ok xs → xs ≡ map g (range_with_len k n)
numbers_are g zero k step xs h e = cc
numbers_are g (suc n) k step xs h e =
    let a = then_ok (step k) (λ x. then (each_number n (suc k) step) (λ ys. Ok (x ∷ ys))) xs e in
    let b = then_ok (each_number n (suc k) step) (λ ys. Ok (a.0 ∷ ys)) xs a.1.1 in
    let same : a.0 ∷ b.0 ≡ xs = cc (b.1.1) in
    let at : suc k ≡ k + 1 = omega arith in
    sym same ∙ ap (λ x. x ∷ b.0) (h k a.0 a.1.0) ∙ ap (λ ys. g k ∷ ys) (numbers_are g n (suc k) step b.0 h b.1.0 ∙ ap (λ j. map g (range_with_len j n)) at)

pub members_are : {A B : Type 0} (g : A → B) (step : ℕ → A → Result B Refused) (k : ℕ) (xs : List A) (ys : List B) → ((i : ℕ) (x : A) (y : B) → step i x ≡ Ok y → y ≡ g x) → each_member step k xs ≡ Ok ys → ys ≡ map g xs
members_are g step k [] ys h e = cc
members_are g step k (x ∷ xs) ys h e =
    let a = then_ok (step k x) (λ y. then (each_member step (suc k) xs) (λ zs. Ok (y ∷ zs))) ys e in
    let b = then_ok (each_member step (suc k) xs) (λ zs. Ok (a.0 ∷ zs)) ys a.1.1 in
    let same : a.0 ∷ b.0 ≡ ys = cc (b.1.1) in
    sym same ∙ ap (λ y. y ∷ b.0) (h k x a.0 a.1.0) ∙ ap (λ zs. g x ∷ zs) (members_are g step (suc k) xs b.0 h b.1.0)

-- ---- sums from 0 on
pub dot_value : (n : ℕ) (u v : ℕ → Fraction) (s : Fraction) → add_dot n u v zero_f ≡ Ok s → s ≡ dot n u v
dot_value n u v s e = add_dot_value n u v zero_f s e ∙ nil_add_f (dot n u v)

pub start_value : (f : Form) (x : ℕ → Fraction) (xs : List Fraction) → start_script f x ≡ Ok xs → xs ≡ map (λ i. dot f.columns (entry f i) x) (range_with_len 0 f.rows)
start_value f x xs e = numbers_are (λ i. dot f.columns (entry f i) x) f.rows 0 (λ i. add_dot f.columns (entry f i) x zero_f) xs (λ i s h. dot_value f.columns (entry f i) x s h) e

-- ---- infeasible places
amount_is : (side : Side) (p q : Fraction) (r : Option Violation) → then (sub_outcome p q) (λ amount. Ok (Some (record { side = side; amount = amount }))) ≡ Ok r → r ≡ Some (record { side = side; amount = p -ᶠ q })
amount_is side p q r e =
    let a = then_ok (sub_outcome p q) (λ amount. Ok (Some (record { side = side; amount = amount }))) r e in
    let same : Some (record { side = side; amount = a.0 }) ≡ r = cc (a.1.1) in
    sym same ∙ ap (λ x. Some (record { side = side; amount = x })) (sub_value p q a.0 a.1.0)

low_value : (low : Option Fraction) (v : Fraction) (r : Option Violation) → low_script low v ≡ Ok r → r ≡ below_low low v
low_value None v r e = cc
low_value (Some low) v r e = go (is_below v low) e
  where
    go : (b : Bool) → cond b (then (sub_outcome low v) (λ amount. Ok (Some (record { side = Below; amount = amount })))) (Ok None) ≡ Ok r
        → r ≡ cond b (Some (record { side = Below; amount = low -ᶠ v })) None
    go true h = amount_is Below low v r h
    go false h = cc

high_value : (l : Bounds) (high : Option Fraction) (v : Fraction) (r : Option Violation) → high_script high v (low_script l.low v) ≡ Ok r → r ≡ above_high high v (below_low l.low v)
high_value l None v r e = low_value l.low v r e
high_value l (Some high) v r e = go (is_below high v) e
  where
    go : (b : Bool) → cond b (then (sub_outcome v high) (λ amount. Ok (Some (record { side = Above; amount = amount })))) (low_script l.low v) ≡ Ok r
        → r ≡ cond b (Some (record { side = Above; amount = v -ᶠ high })) (below_low l.low v)
    go true h = amount_is Above v high r h
    go false h = low_value l.low v r h

pub violation_value : (l : Bounds) (v : Fraction) (r : Option Violation) → violation_script l v ≡ Ok r → r ≡ violation l v
violation_value l v r e = high_value l l.high v r e

abbrev pub violation_at : Form → Basis → Fresh → ℕ → Option Violation
violation_at f b s p = violation (limits f (head_at b p)) (value_at_place b s p)

pub choose_value : (f : Form) (b : Basis) (s : Fresh) (rs : List (Option Violation)) → choose_script f b s ≡ Ok rs → rs ≡ map (violation_at f b s) (range_with_len 0 f.rows)
choose_value f b s rs e = numbers_are (violation_at f b s) f.rows 0 (place_script f b s) rs (λ p r h. violation_value (limits f (head_at b p)) (value_at_place b s p) r h) e

pub row_value : (f : Form) (b : Basis) (s : Fresh) (places : List ℕ) (rs : List (Option Violation)) → row_script f b s places ≡ Ok rs → rs ≡ map (violation_at f b s) places
row_value f b s places rs e = members_are (violation_at f b s) (λ k p. place_script f b s p) 0 places rs (λ k p r h. violation_value (limits f (head_at b p)) (value_at_place b s p) r h) e

-- ---- the pivot row and its ratios
pub price_value : (f : Form) (b : Basis) (row : List Fraction) (slice : ℕ) (xs : List Fraction) → price_script f b row slice ≡ Ok xs → xs ≡ map (row_entry f row) (nonbasic_in f b slice)
price_value f b row slice xs e = members_are (row_entry f row) (λ k v. add_dot f.rows (get row) (coefficient f v) zero_f) 0 (nonbasic_in f b slice) xs (λ k v x h. dot_value f.rows (get row) (coefficient f v) x h) e

pub ratios_value : (f : Form) (b : Basis) (l : Leaving) (xs : List Fraction) → ratios_script f b l ≡ Ok xs → xs ≡ map (ratio f l) (filter (is_candidate f b l) (range_with_len 0 (variables f)))
ratios_value f b l xs e =
    members_are (ratio f l) (λ k v. div_outcome (get l.reduced v) (turned_entry f l v)) 0 (filter (is_candidate f b l) (range_with_len 0 (variables f))) xs
    (λ k v x h. div_value (get l.reduced v) (turned_entry f l v) x h) e

pub shift_value : (f : Form) (b : Basis) (l : Leaving) (t : Step) (slice : ℕ) (xs : List Fraction) → shift_script f b l t slice ≡ Ok xs
    → xs ≡ map (λ v. get l.reduced v -ᶠ t.tau *ᶠ turned_entry f l v) (filter (λ v. not (nat_eq v t.entering)) (nonbasic_in f b slice))
shift_value f b l t slice xs e =
    members_are (λ v. get l.reduced v -ᶠ t.tau *ᶠ turned_entry f l v) (λ k v. sub_product (get l.reduced v) t.tau (turned_entry f l v)) 0
    (filter (λ v. not (nat_eq v t.entering)) (nonbasic_in f b slice)) xs (λ k v x h. sub_product_value (get l.reduced v) t.tau (turned_entry f l v) x h) e

-- ---- what flips change
column_value : (f : Form) (v : ℕ) (change : Fraction) (rows next : List Fraction) (i : ℕ) → add_column f v change rows ≡ Ok next → i < length rows → get next i ≡ get rows i +ᶠ change *ᶠ coefficient f v i
column_value f v change rows next i e l =
    let at : 0 + i ≡ i = omega arith in
    let h = member_is (λ i t. add_product t change (coefficient f v i)) 0 rows next i zero_f zero_f e l in
    add_product_value (get rows i) change (coefficient f v i) (get next i) (subst (λ j. add_product (get rows i) change (coefficient f v j) ≡ Ok (get next i)) at h)

pub flips_value : (f : Form) (b : Basis) (vs : List ℕ) (rows next : List Fraction) (i : ℕ) → flips_script f b vs rows ≡ Ok next → i < length rows → get next i ≡ get rows i +ᶠ flips_change f b vs i
flips_value f b [] rows next i e l = let same : rows ≡ next = cc in ap (λ (xs : List Fraction). get xs i) (sym same) ∙ by_ring_f (get rows i ∷ []) (var 0) (var 0 ⊕ t0) refl
flips_value f b (v ∷ vs) rows next i e l =
    let a = then_ok (add_column f v (flip_change f b v) rows) (λ more. flips_script f b vs more) next e in
    let n = length_members (λ i t. add_product t (flip_change f b v) (coefficient f v i)) 0 rows a.0 a.1.0 in
    flips_value f b vs a.0 next i a.1.1 (subst (λ k. i < k) (sym n) l)
    ∙ ap (λ x. x +ᶠ flips_change f b vs i) (column_value f v (flip_change f b v) rows a.0 i a.1.0 l)
    ∙ by_ring_f (get rows i ∷ flip_change f b v ∷ coefficient f v i ∷ flips_change f b vs i ∷ []) (var 0 ⊕ var 1 ⊗ var 2 ⊕ var 3) (var 0 ⊕ (var 1 ⊗ var 2 ⊕ var 3)) refl

-- ---- a row of the inverse behind a pivot
abbrev pub pivot_share : Form → Fresh → Step → ℕ → Fraction
pivot_share f s t i = row_entry f (row_at s i) t.entering /ᶠ row_entry f (row_at s t.place) t.entering

abbrev pub updated_row : Form → Fresh → Step → ℕ → ℕ → Fraction
updated_row f s t i h = get (row_at s i) h -ᶠ pivot_share f s t i *ᶠ get (row_at s t.place) h

-- the multiple of the pivot row that the script takes away
taken_share : (f : Form) (b : Basis) (s : Fresh) (t : Step) (step : Fraction) (i : ℕ) (xs : List Fraction) → reach_script f b s t step i ≡ Ok xs
    → (k : Fraction) × (k ≡ pivot_share f s t i) × (each_member (λ h u. sub_product u k (get (row_at s t.place) h)) 0 (row_at s i) ≡ Ok xs)
taken_share f b s t step i xs e =
    let a = then_ok (add_dot f.rows (get (row_at s i)) (coefficient f t.entering) zero_f) _ xs e in
    let c = then_ok (add_dot f.rows (get (row_at s i)) (flips_change f b t.flips) zero_f) _ xs a.1.1 in
    let d = then_ok (sub_outcome (value_at_place b s i) c.0) _ xs c.1.1 in
    let g = then_ok (sub_product d.0 step a.0) _ xs d.1.1 in
    let k = then_ok (div_outcome a.0 (row_entry f (row_at s t.place) t.entering)) (λ k. each_member (λ h u. sub_product u k (get (row_at s t.place) h)) 0 (row_at s i)) xs g.1.1 in
    (k.0, share_is f s t i a.0 k.0 a.1.0 k.1.0, k.1.1)
  where
    share_is : (f : Form) (s : Fresh) (t : Step) (i : ℕ) (a k : Fraction) → add_dot f.rows (get (row_at s i)) (coefficient f t.entering) zero_f ≡ Ok a
        → div_outcome a (row_entry f (row_at s t.place) t.entering) ≡ Ok k → k ≡ pivot_share f s t i
    share_is f s t i a k e h =
        div_value a (row_entry f (row_at s t.place) t.entering) k h
        ∙ ap (λ x. x /ᶠ row_entry f (row_at s t.place) t.entering) (dot_value f.rows (get (row_at s i)) (coefficient f t.entering) a e)

less_multiple : (row pivot xs : List Fraction) (k : Fraction) (h : ℕ) → each_member (λ h u. sub_product u k (get pivot h)) 0 row ≡ Ok xs → h < length row → get xs h ≡ get row h -ᶠ k *ᶠ get pivot h
less_multiple row pivot xs k h e l =
    let at : 0 + h ≡ h = omega arith in
    let m = member_is (λ h u. sub_product u k (get pivot h)) 0 row xs h zero_f zero_f e l in
    sub_product_value (get row h) k (get pivot h) (get xs h) (subst (λ j. sub_product (get row h) k (get pivot j) ≡ Ok (get xs h)) at m)

pub reach_value : (f : Form) (b : Basis) (s : Fresh) (t : Step) (step : Fraction) (i : ℕ) (xs : List Fraction) (h : ℕ) → reach_script f b s t step i ≡ Ok xs → h < length (row_at s i) → get xs h ≡ updated_row f s t i h
reach_value f b s t step i xs h e l =
    let k = taken_share f b s t step i xs e in
    less_multiple (row_at s i) (row_at s t.place) xs k.0 h k.2 l ∙ ap (λ x. get (row_at s i) h -ᶠ x *ᶠ get (row_at s t.place) h) k.1
