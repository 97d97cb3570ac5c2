-- What the nonbasic variables take from the rows: the script, and its value.
use Rattle.std.proofs.Common.{◌≡◌, ℕ, zero, suc, ◌+◌, ◌-◌, ◌<◌, List, [], ◌∷◌, length, refl, sym, ap, ◌∙◌, subst, arith, Bool, true, false, cond, Result, Ok, Err}
use Rattle.std.specs.List.{filter, range_with_len}
use Rattle.std.proofs.lemmas.List.{get_or-replicate, length-replicate}
use Rattle.pami_algebra.specs.Fraction.{Fraction}
use Rattle.pami_algebra.specs.Operations.{◌+ᶠ◌, ◌*ᶠ◌, neg_f}
use Rattle.pami_algebra.specs.Ring.{var, t0, ◌⊕◌, ◌⊗◌, ⊖}
use Rattle.pami_algebra.proofs.Laws.{by_ring_f}
use Rattle.pami_algebra.proofs.Field.{nil_add_f}
use Rattle.pami_algebra.proofs.Laws.{add_comm_f}
use Rattle.pami_linear.specs.Lists.{get}
use Rattle.pami_linear.specs.Sums.{sum_to}
use Rattle.pami_linear.proofs.Sums.{sum_same}
use Rattle.pami_frac.specs.declared.arithmetic.Refused.{Refused}
use Rattle.pami_script.specs.Dense.{dense, dense_from}
use Rattle.pami_script.specs.Script.{then, each_member, sub_product}
use Rattle.pami_script.proofs.Scripts.{then_ok, then_go, then_stop}
use Rattle.pami_script.proofs.Members.{member_is, length_members}
use Rattle.pami_script.proofs.Values.{sub_product_value}
use Rattle.pami_vec.specs.Scripts.{take_times_script}
use Rattle.pami_theory.specs.Form.{Form, variables, limits, coefficient, zero_f}
use Rattle.pami_theory.specs.declared.words.Stand.{Stand}
use Rattle.pami_theory.specs.declared.words.Stand.TheVariants.{Basic, Lower, Upper, Zero}
use Rattle.pami_theory.specs.Basis.{Basis, stand_at, StandsAt}
use Rattle.pami_theory.specs.Fresh.{Fresh, IsFresh, standing_value, nonbasic_sum}
use Rattle.pami_theory.proofs.Places.{nonbasic_standing}
use Rattle.pami_theory.proofs.Starts.{stands_one}
use Rattle.pami_method.specs.Scripts.{zeros, is_nonbasic}
use Rattle.pami_method.specs.Phases.{nonbasic_script, nonbasic}
use Rattle.std.proofs.Common.{slice_index_or}
use Rattle.std.proofs.lemmas.List.{get_or_default}
use Rattle.pami_frac.specs.declared.list.Bounds.{Bounds}
use Rattle.pami_frac.specs.declared.fault.Fault.{Fault}
use Rattle.pami_frac.specs.declared.fault.Fault.TheVariants as faults
use Rattle.pami_frac.specs.Answers.{FollowsBy}
use Rattle.pami_state.specs.Columns.{column_of, bounds_form, form_by, IsForm}
use Rattle.pami_state.specs.State.{basis_of}
use Rattle.pami_state.specs.declared.state.State.{State}
use Rattle.pami_state.proofs.Formed.{variables_are, coefficient_is}
use Rattle.pami_state.proofs.Signed.{stand_read}
use Rattle.pami_phase.specs.Switches.{side_script}

-- ---- a vector without entries
dense_none : (n k : ℕ) → dense_from n k [] ≡ zeros n
dense_none zero k = refl
dense_none (suc n) k = ap (λ xs. zero_f ∷ xs) (dense_none n (suc k))

pub dense_zeros : (n : ℕ) → dense n [] ≡ zeros n
unfolding dense
dense_zeros n = dense_none n 0

-- ---- the value of the script
column_less : (f : Form) (v : ℕ) (x : Fraction) (rows next : List Fraction) (i : ℕ) → each_member (λ i t. sub_product t x (coefficient f v i)) 0 rows ≡ Ok next → i < length rows → get next i ≡ get rows i +ᶠ neg_f (x *ᶠ coefficient f v i)
column_less f v x rows next i e l =
    let at : 0 + i ≡ i = omega arith in
    let m = member_is (λ h u. sub_product u x (coefficient f v h)) 0 rows next i zero_f zero_f e l in
    sub_product_value (get rows i) x (coefficient f v i) (get next i) (subst (λ j. sub_product (get rows i) x (coefficient f v j) ≡ Ok (get next i)) at m)

abbrev total : Form → (ℕ → Fraction) → List ℕ → ℕ → Fraction
total f x [] i = zero_f
total f x (v ∷ vs) i = x v *ᶠ coefficient f v i +ᶠ total f x vs i

script_length : (f : Form) (x : ℕ → Fraction) (vs : List ℕ) (rows next : List Fraction) → nonbasic_script f x vs rows ≡ Ok next → length next ≡ length rows
script_length f x [] rows next e = let same : rows ≡ next = cc in ap length (sym same)
script_length f x (v ∷ vs) rows next e =
    let a = then_ok (each_member (λ i t. sub_product t (x v) (coefficient f v i)) 0 rows) (λ more. nonbasic_script f x vs more) next e in
    script_length f x vs a.0 next a.1.1 ∙ length_members (λ i t. sub_product t (x v) (coefficient f v i)) 0 rows a.0 a.1.0

script_value : (f : Form) (x : ℕ → Fraction) (vs : List ℕ) (rows next : List Fraction) (i : ℕ) → nonbasic_script f x vs rows ≡ Ok next → i < length rows → get next i ≡ get rows i +ᶠ neg_f (total f x vs i)
script_value f x [] rows next i e l = let same : rows ≡ next = cc in ap (λ (xs : List Fraction). get xs i) (sym same) ∙ by_ring_f (get rows i ∷ []) (var 0) (var 0 ⊕ ⊖ t0) refl
script_value f x (v ∷ vs) rows next i e l =
    let a = then_ok (each_member (λ i t. sub_product t (x v) (coefficient f v i)) 0 rows) (λ more. nonbasic_script f x vs more) next e in
    let n = length_members (λ i t. sub_product t (x v) (coefficient f v i)) 0 rows a.0 a.1.0 in
    script_value f x vs a.0 next i a.1.1 (subst (λ k. i < k) (sym n) l)
    ∙ ap (λ z. z +ᶠ neg_f (total f x vs i)) (column_less f v (x v) rows a.0 i a.1.0 l)
    ∙ by_ring_f (get rows i ∷ x v ∷ coefficient f v i ∷ total f x vs i ∷ []) ((var 0 ⊕ ⊖ (var 1 ⊗ var 2)) ⊕ ⊖ (var 3)) (var 0 ⊕ ⊖ (var 1 ⊗ var 2 ⊕ var 3)) refl

-- ---- the sum over the variables
abbrev sum_front : ℕ → ℕ → (ℕ → Fraction) → Fraction
sum_front zero k g = zero_f
sum_front (suc n) k g = g k +ᶠ sum_front n (k + 1) g

front_last : (n k : ℕ) (g : ℕ → Fraction) → sum_front (suc n) k g ≡ sum_front n k g +ᶠ g (k + n)
front_last zero k g = (let e : k ≡ k + 0 = omega arith in ap (λ j. g j +ᶠ zero_f) e) ∙ add_comm_f (g (k + 0)) zero_f
front_last (suc n) k g =
    ap (λ z. g k +ᶠ z) (front_last n (k + 1) g)
    ∙ (let e : k + 1 + n ≡ k + suc n = omega arith in ap (λ j. g k +ᶠ (sum_front n (k + 1) g +ᶠ g j)) e)
    ∙ by_ring_f (g k ∷ sum_front n (k + 1) g ∷ g (k + suc n) ∷ []) (var 0 ⊕ (var 1 ⊕ var 2)) ((var 0 ⊕ var 1) ⊕ var 2) refl

front_sum : (n : ℕ) (g : ℕ → Fraction) → sum_front n 0 g ≡ sum_to n g
front_sum zero g = refl
front_sum (suc n) g = front_last n 0 g ∙ ap (λ z. z +ᶠ g (0 + n)) (front_sum n g) ∙ (let e : 0 + n ≡ n = omega arith in ap (λ j. sum_to n g +ᶠ g j) e)

range_step : (f : Form) (x : ℕ → Fraction) (p : ℕ → Bool) (n k i : ℕ) (b : Bool) → total f x (filter p (range_with_len (k + 1) n)) i ≡ sum_front n (k + 1) (λ v. cond (p v) (x v *ᶠ coefficient f v i) zero_f)
    → total f x (cond b (k ∷ filter p (range_with_len (k + 1) n)) (filter p (range_with_len (k + 1) n))) i
    ≡ cond b (x k *ᶠ coefficient f k i) zero_f +ᶠ sum_front n (k + 1) (λ v. cond (p v) (x v *ᶠ coefficient f v i) zero_f)
range_step f x p n k i true e = ap (λ z. x k *ᶠ coefficient f k i +ᶠ z) e
range_step f x p n k i false e = e ∙ sym (nil_add_f (sum_front n (k + 1) (λ v. cond (p v) (x v *ᶠ coefficient f v i) zero_f)))

total_range : (f : Form) (x : ℕ → Fraction) (p : ℕ → Bool) (n k i : ℕ) → total f x (filter p (range_with_len k n)) i ≡ sum_front n k (λ v. cond (p v) (x v *ᶠ coefficient f v i) zero_f)
total_range f x p zero k i = refl
total_range f x p (suc n) k i = range_step f x p n k i (p k) (total_range f x p n (k + 1) i)

not_basic : (s : Stand) → is_nonbasic s ≡ true → ¬ (s ≡ Basic)
not_basic Basic e h = absurd (cc)
not_basic Lower e h = absurd (cc)
not_basic Upper e h = absurd (cc)
not_basic Zero e h = absurd (cc)

product_is : (l : _) (s : Stand) (x c : Fraction) → (¬ (s ≡ Basic) → x ≡ standing_value l s) → cond (is_nonbasic s) (x *ᶠ c) zero_f ≡ c *ᶠ standing_value l s
product_is l Basic x c h = by_ring_f (c ∷ []) t0 (var 0 ⊗ t0) refl
product_is l Lower x c h = ap (λ z. z *ᶠ c) (h (not_basic Lower refl)) ∙ by_ring_f (standing_value l Lower ∷ c ∷ []) (var 0 ⊗ var 1) (var 1 ⊗ var 0) refl
product_is l Upper x c h = ap (λ z. z *ᶠ c) (h (not_basic Upper refl)) ∙ by_ring_f (standing_value l Upper ∷ c ∷ []) (var 0 ⊗ var 1) (var 1 ⊗ var 0) refl
product_is l Zero x c h = ap (λ z. z *ᶠ c) (h (not_basic Zero refl)) ∙ by_ring_f (standing_value l Zero ∷ c ∷ []) (var 0 ⊗ var 1) (var 1 ⊗ var 0) refl

-- the right side has what the nonbasic variables come to, negated
pub side_value : (f : Form) (b : Basis) (t : Fresh) (rows : List Fraction) (i : ℕ) → IsFresh f b t → side_script f b t ≡ Ok rows → i < f.rows → get rows i ≡ neg_f (nonbasic_sum f b i)
side_value f b t rows i h e l =
    let x = get t.values in
    let p : ℕ → Bool = λ v. is_nonbasic (stand_at b v) in
    script_value f x (nonbasic f b) (zeros f.rows) rows i e (subst (λ n. i < n) (sym (length-replicate f.rows zero_f)) l)
    ∙ ap (λ z. z +ᶠ neg_f (total f x (nonbasic f b) i)) (get_or-replicate f.rows i zero_f zero_f l)
    ∙ nil_add_f (neg_f (total f x (nonbasic f b) i))
    ∙ ap neg_f
    (total_range f x p (variables f) 0 i
    ∙ front_sum (variables f) (λ v. cond (p v) (x v *ᶠ coefficient f v i) zero_f)
    ∙ sum_same (variables f) (λ v. cond (p v) (x v *ᶠ coefficient f v i) zero_f) (λ v. coefficient f v i *ᶠ standing_value (limits f v) (stand_at b v))
    (λ v m. product_is (limits f v) (stand_at b v) (x v) (coefficient f v i) (λ n. nonbasic_standing f b x v h.values m n)))

pub side_length : (f : Form) (b : Basis) (t : Fresh) (rows : List Fraction) → side_script f b t ≡ Ok rows → length rows ≡ f.rows
side_length f b t rows e = script_length f (get t.values) (nonbasic f b) (zeros f.rows) rows e ∙ length-replicate f.rows zero_f

-- ---- the loop
member_same : (step other : ℕ → Fraction → Result Fraction Refused) (k : ℕ) (xs : List Fraction) → ((i : ℕ) (x : Fraction) → i < length xs → step (k + i) x ≡ other (k + i) x) → each_member step k xs ≡ each_member other k xs
member_same step other k [] h = refl
member_same step other k (x ∷ xs) h =
    let here : step k x ≡ other k x = (let e : k + 0 ≡ k = omega arith in subst (λ j. step j x ≡ other j x) e (h 0 x (omega arith))) in
    let rest : each_member step (suc k) xs ≡ each_member other (suc k) xs = member_same step other (suc k) xs (λ i y l. let e : k + suc i ≡ suc k + i = omega arith in subst (λ j. step j y ≡ other j y) e (h (suc i) y (omega arith))) in
    ap (λ r. then r (λ y. then (each_member step (suc k) xs) (λ ys. Ok (y ∷ ys)))) here
    ∙ ap (λ (r : Result (List Fraction) Refused). then (other k x) (λ y. then r (λ ys. Ok (y ∷ ys)))) rest

abbrev pub left_of : Form → Basis → ℕ → ℕ → List ℕ
left_of f b n v = filter (λ u. is_nonbasic (stand_at b u)) (range_with_len v (n - v))

left_here : (f : Form) (b : Basis) (n v : ℕ) → v < n → left_of f b n v ≡ cond (is_nonbasic (stand_at b v)) (v ∷ left_of f b n (v + 1)) (left_of f b n (v + 1))
left_here f b n v l = let e : n - v ≡ suc (n - (v + 1)) = omega arith in ap (λ k. filter (λ u. is_nonbasic (stand_at b u)) (range_with_len v k)) e

-- what is left of the script, for every solution at the basis
pub record IsOnTheWay (f : Form) (b : Basis) (n v : ℕ) (rows : List Fraction) : Type 0 where
  pub long : length rows ≡ f.rows
  pub left : (t : Fresh) → IsFresh f b t → side_script f b t ≡ nonbasic_script f (get t.values) (left_of f b n v) rows

pub way_begins : (f : Form) (b : Basis) (n : ℕ) (rows : List Fraction) → n ≡ variables f → rows ≡ zeros f.rows → IsOnTheWay f b n 0 rows
way_begins f b n rows e h = record {
  long = ap length h ∙ length-replicate f.rows zero_f;
  left = λ t k. ap (nonbasic_script f (get t.values) (nonbasic f b)) (sym h) ∙ (let z : variables f ≡ n - 0 = omega arith in ap (λ m. nonbasic_script f (get t.values) (filter (λ u. is_nonbasic (stand_at b u)) (range_with_len 0 m)) rows) z);
}

pub way_ends : (f : Form) (b : Basis) (n v : ℕ) (rows : List Fraction) → ¬ (v < n) → IsOnTheWay f b n v rows → (t : Fresh) → IsFresh f b t → side_script f b t ≡ Ok rows
way_ends f b n v rows l w t k = w.left t k ∙ (let z : n - v ≡ 0 = omega arith in ap (λ m. nonbasic_script f (get t.values) (filter (λ u. is_nonbasic (stand_at b u)) (range_with_len v m)) rows) z)

pub way_skips : (f : Form) (b : Basis) (n v : ℕ) (rows : List Fraction) → v < n → is_nonbasic (stand_at b v) ≡ false → IsOnTheWay f b n v rows → IsOnTheWay f b n (v + 1) rows
way_skips f b n v rows l e w = record {
  long = w.long;
  left = λ t k. w.left t k ∙ ap (λ vs. nonbasic_script f (get t.values) vs rows) (left_here f b n v l ∙ ap (λ z. cond z (v ∷ left_of f b n (v + 1)) (left_of f b n (v + 1))) e);
}

-- the column of a variable, with the value at which it stands
pub record IsColumnAt (f : Form) (b : Basis) (v : ℕ) (value : Fraction) (column : List Fraction) : Type 0 where
  pub within : v < variables f
  pub nonbasic : is_nonbasic (stand_at b v) ≡ true
  pub stands : StandsAt (limits f v) (stand_at b v) value
  pub entries : (i : ℕ) → i < f.rows → get column i ≡ coefficient f v i

here_is : (f : Form) (b : Basis) (n v : ℕ) (rows : List Fraction) (value : Fraction) (column : List Fraction) (t : Fresh) → v < n → IsOnTheWay f b n v rows → IsColumnAt f b v value column → IsFresh f b t
    → side_script f b t ≡ then (take_times_script rows value column) (λ next. nonbasic_script f (get t.values) (left_of f b n (v + 1)) next)
unfolding take_times_script
here_is f b n v rows value column t l w c k =
    w.left t k
    ∙ ap (λ vs. nonbasic_script f (get t.values) vs rows) (left_here f b n v l ∙ ap (λ z. cond z (v ∷ left_of f b n (v + 1)) (left_of f b n (v + 1))) c.nonbasic)
    ∙ ap (λ x. then (each_member (λ i z. sub_product z x (coefficient f v i)) 0 rows) (λ next. nonbasic_script f (get t.values) (left_of f b n (v + 1)) next))
    (stands_one (limits f v) (stand_at b v) (get t.values v) value (not_basic (stand_at b v) c.nonbasic) (k.values.nonbasic v c.within) c.stands)
    ∙ ap (λ (r : Result (List Fraction) Refused). then r (λ next. nonbasic_script f (get t.values) (left_of f b n (v + 1)) next))
    (member_same (λ i z. sub_product z value (coefficient f v i)) (λ i z. sub_product z value (get column i)) 0 rows
    (λ i z m. ap (λ y. sub_product z value y) (sym (c.entries (0 + i) (subst (λ j. 0 + i < j) w.long (omega (arith, m)))))))

pub way_goes : (f : Form) (b : Basis) (n v : ℕ) (rows next : List Fraction) (value : Fraction) (column : List Fraction) → v < n → IsOnTheWay f b n v rows → IsColumnAt f b v value column → take_times_script rows value column ≡ Ok next → IsOnTheWay f b n (v + 1) next
unfolding take_times_script
way_goes f b n v rows next value column l w c e = record {
  long = length_members (λ i x. sub_product x value (get column i)) 0 rows next e ∙ w.long;
  left = λ t k. here_is f b n v rows value column t l w c k ∙ then_go (take_times_script rows value column) (λ more. nonbasic_script f (get t.values) (left_of f b n (v + 1)) more) next e;
}

pub way_stops : (f : Form) (b : Basis) (n v : ℕ) (rows : List Fraction) (value : Fraction) (column : List Fraction) (r : Refused) → v < n → IsOnTheWay f b n v rows → IsColumnAt f b v value column → take_times_script rows value column ≡ Err r
    → (t : Fresh) → IsFresh f b t → side_script f b t ≡ Err r
way_stops f b n v rows value column r l w c e t k = here_is f b n v rows value column t l w c k ∙ then_stop (take_times_script rows value column) (λ more. nonbasic_script f (get t.values) (left_of f b n (v + 1)) more) r e

pub way_faults : (f : Form) (b : Basis) (n v : ℕ) (rows : List Fraction) (value : Fraction) (column : List Fraction) (e : Fault Refused) → v < n → IsOnTheWay f b n v rows → IsColumnAt f b v value column → FollowsBy {A = List Fraction} {B = List Fraction} (λ v. v) (take_times_script rows value column) (Err e)
    → (t : Fresh) → IsFresh f b t → FollowsBy {A = List Fraction} {B = List Fraction} (λ v. v) (side_script f b t) (Err e)
way_faults f b n v rows value column (faults.Named r) l w c h t k = way_stops f b n v rows value column r l w c h t k
way_faults f b n v rows value column faults.OutOfMemory l w c h t k = tt

-- the column of a variable of a program's lists
pub column_here : (columns : List (List Fraction)) (bounds lent : List Bounds) (costs : List Fraction) (st : State) (v : ℕ) (value : Fraction) (column : List Fraction) (stand : Stand) → IsForm columns bounds costs → v < length columns → lent ≡ bounds → length st.stands ≡ length columns
    → column ≡ slice_index_or columns v column → is_nonbasic (slice_index_or st.stands v stand) ≡ true → StandsAt (limits (bounds_form 0 lent) v) (stand_at (basis_of st) v) value
    → IsColumnAt (form_by columns bounds costs) (basis_of st) v value column
column_here columns bounds lent costs st v value column stand form l b n e h at =
    let k : column ≡ column_of columns v = e ∙ get_or_default columns v column [] l in
    record {
      within = subst (λ m. v < m) (sym (variables_are columns bounds costs form)) l;
      nonbasic = ap is_nonbasic (stand_read st.stands v stand (subst (λ m. v < m) (sym n) l)) ∙ h;
      stands = subst (λ (bs : List Bounds). StandsAt (limits (bounds_form 0 bs) v) (stand_at (basis_of st) v) value) b at;
      entries = λ i m. ap (λ (xs : List Fraction). get xs i) k ∙ sym (coefficient_is columns bounds costs v i form l m);
    }
