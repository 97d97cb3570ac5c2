-- A slice by its lists is the slice of the whole form, and a script that isn't refused gives the entries of the row.
use Rattle.std.proofs.Common.{◌≡◌, ℕ, zero, suc, ◌+◌, ◌*◌, ◌-◌, ◌<◌, ◌≤◌, Bool, true, false, cond, List, [], ◌∷◌, ◌++◌, length, refl, sym, ap, ◌∙◌, subst, arith, Result, Ok, Err, ◌⊎◌, ⊎_elim}
use Rattle.std.specs.List.{filter, range_with_len}
use Rattle.std.proofs.lemmas.List.{append-nil}
use Rattle.std.proofs.lemmas.List.Elements.{filter-append}
use Rattle.pami_algebra.specs.Fraction.{Fraction}
use Rattle.pami_algebra.specs.Ring.{var, t0, ◌⊕◌}
use Rattle.pami_algebra.proofs.Laws.{by_ring_f}
use Rattle.pami_frac.specs.Signs.{is_zero}
use Rattle.pami_frac.specs.declared.arithmetic.Refused.{Refused}
use Rattle.pami_frac.specs.declared.list.Entry.{Entry}
use Rattle.pami_linear.specs.Lists.{get}
use Rattle.pami_script.specs.Script.{then, each_member, add_product, add_dot}
use Rattle.pami_script.proofs.Scripts.{then_ok, each_same}
use Rattle.pami_script.proofs.Values.{add_dot_value}
use Rattle.pami_theory.specs.Form.{Form, variables, coefficient, zero_f}
use Rattle.pami_theory.specs.Basis as theory
use Rattle.pami_theory.specs.Ratio.{row_entry}
use Rattle.pami_theory.specs.Weights.{lesser}
use Rattle.pami_method.specs.Scripts as method
use Rattle.pami_vec.specs.Scripts.{dot_script}
use Rattle.pami_theory.specs.declared.words.Stand.{Stand}
use Rattle.pami_price.specs.Slices.{column_at, is_nonbasic_at, with_first, entries_script, slice_size, slice_script, slices, then_slice, then_more, slices_script, row_script}
use Rattle.pami_price.specs.Agreement.{AreListed, entries_at, nonzero_entries, all_nonbasic}
use Rattle.pami_price.specs.declared.price.SliceRefused.{SliceRefused}

-- ---- the whole form's way
abbrev pub nonbasic : theory.Basis → ℕ → Bool
nonbasic b v = method.is_nonbasic (theory.stand_at b v)

abbrev pub entry_script : Form → List Fraction → ℕ → ℕ → Result Fraction Refused
entry_script f rho k v = add_dot f.rows (get rho) (coefficient f v) zero_f

nonbasic_is : (f : Form) (b : theory.Basis) (columns : List (List Fraction)) (stands : List Stand) (v : ℕ) → AreListed f b columns stands → v < variables f → is_nonbasic_at stands v ≡ nonbasic b v
nonbasic_is f b columns stands v l h = ap method.is_nonbasic (sym (l.stand v h))

dot_is : (f : Form) (b : theory.Basis) (columns : List (List Fraction)) (stands : List Stand) (rho : List Fraction) (k v : ℕ) → AreListed f b columns stands → length rho ≡ f.rows → v < variables f → dot_script rho (column_at columns v) ≡ entry_script f rho k v
unfolding dot_script
dot_is f b columns stands rho k v l r h =
    ap (λ n. add_dot n (get rho) (get (column_at columns v)) zero_f) r
    ∙ each_same f.rows 0 (λ i t. add_product t (get rho i) (get (column_at columns v) i)) (λ i t. add_product t (get rho i) (coefficient f v i)) zero_f
    (λ i low high t. ap (add_product t (get rho i)) (l.column v h i (omega arith)))

-- ---- variable by variable
moved : (v : ℕ) (vs : List ℕ) (r : Result Fraction Refused) (s : Result (List Fraction) Refused) →
    then r (λ alpha. then (then s (λ alphas. Ok (entries_at vs alphas))) (λ es. Ok (with_first v alpha es))) ≡ then (then r (λ y. then s (λ ys. Ok (y ∷ ys)))) (λ alphas. Ok (entries_at (v ∷ vs) alphas))
moved v vs (Ok y) (Ok ys) = refl
moved v vs (Ok y) (Err e) = refl
moved v vs (Err e) s = refl

-- one variable, at either answer of the test
one : (f : Form) (rho : List Fraction) (k v : ℕ) (vs : List ℕ) (r : Result Fraction Refused) (s : Result (List Entry) Refused) (t u : Bool) → t ≡ u → r ≡ entry_script f rho k v →
    ((j : ℕ) → s ≡ then (each_member (entry_script f rho) j vs) (λ alphas. Ok (entries_at vs alphas))) →
    cond t (then r (λ alpha. then s (λ es. Ok (with_first v alpha es)))) s ≡ then (each_member (entry_script f rho) k (cond u (v ∷ vs) vs)) (λ alphas. Ok (entries_at (cond u (v ∷ vs) vs) alphas))
one f rho k v vs r s true true e d h =
    ap (λ r. then r (λ alpha. then s (λ es. Ok (with_first v alpha es)))) d
    ∙ ap (λ s. then (entry_script f rho k v) (λ alpha. then s (λ es. Ok (with_first v alpha es)))) (h (suc k))
    ∙ moved v vs (entry_script f rho k v) (each_member (entry_script f rho) (suc k) vs)
one f rho k v vs r s false false e d h = h k
one f rho k v vs r s true false e d h = absurd (cc)
one f rho k v vs r s false true e d h = absurd (cc)

entries_are : (f : Form) (b : theory.Basis) (columns : List (List Fraction)) (stands : List Stand) (rho : List Fraction) (n v k : ℕ) → AreListed f b columns stands → length rho ≡ f.rows → ((u : ℕ) → v ≤ u → u < v + n → u < variables f) →
    entries_script columns stands rho n v ≡ then (each_member (entry_script f rho) k (filter (nonbasic b) (range_with_len v n))) (λ alphas. Ok (entries_at (filter (nonbasic b) (range_with_len v n)) alphas))
entries_are f b columns stands rho zero v k l r h = refl
entries_are f b columns stands rho (suc n) v k l r h =
    let low : v < variables f = h v (omega arith) (omega arith) in
    one f rho k v (filter (nonbasic b) (range_with_len (v + 1) n)) (dot_script rho (column_at columns v)) (entries_script columns stands rho n (v + 1)) (is_nonbasic_at stands v) (nonbasic b v)
    (nonbasic_is f b columns stands v l low) (dot_is f b columns stands rho k v l r low)
    (λ j. entries_are f b columns stands rho n (v + 1) j l r (λ u a c. h u (omega arith) (omega arith)))

-- ---- a slice
lesser_within : (m n : ℕ) → lesser m n ≤ n
lesser_within m n = grind arith

size_within : (count slice u : ℕ) → 64 * slice ≤ u → u < 64 * slice + slice_size count slice → u < count
size_within count slice u a c = let h = lesser_within 64 (count - 64 * slice) in omega arith

pub slice_is : (f : Form) (b : theory.Basis) (columns : List (List Fraction)) (stands : List Stand) (rho : List Fraction) (slice : ℕ) → AreListed f b columns stands → length rho ≡ f.rows →
    slice_script columns stands rho slice ≡ then (method.price_script f b rho slice) (λ alphas. Ok (entries_at (method.nonbasic_in f b slice) alphas))
slice_is f b columns stands rho slice l r =
    ap (λ n. entries_script columns stands rho (slice_size n slice) (64 * slice)) l.count
    ∙ entries_are f b columns stands rho (slice_size (variables f) slice) (64 * slice) 0 l r (λ u a c. size_within (variables f) slice u a c)

-- ---- values
entry_value : (f : Form) (rho : List Fraction) (k v : ℕ) (alpha : Fraction) → entry_script f rho k v ≡ Ok alpha → alpha ≡ row_entry f rho v
entry_value f rho k v alpha e = add_dot_value f.rows (get rho) (coefficient f v) zero_f alpha e ∙ by_ring_f (row_entry f rho v ∷ []) (t0 ⊕ var 0) (var 0) refl

pub members_value : (f : Form) (rho : List Fraction) (k : ℕ) (vs : List ℕ) (alphas : List Fraction) → each_member (entry_script f rho) k vs ≡ Ok alphas → entries_at vs alphas ≡ nonzero_entries (row_entry f rho) vs
members_value f rho k [] alphas e = refl
members_value f rho k (v ∷ vs) alphas e =
    let h = then_ok (entry_script f rho k v) (λ y. then (each_member (entry_script f rho) (suc k) vs) (λ ys. Ok (y ∷ ys))) alphas e in
    let g = then_ok (each_member (entry_script f rho) (suc k) vs) (λ ys. Ok (h.0 ∷ ys)) alphas h.1.1 in
    let same : h.0 ∷ g.0 ≡ alphas = cc (g.1.1) in
    ap (entries_at (v ∷ vs)) (sym same)
    ∙ ap (λ x. with_first v x (entries_at vs g.0)) (entry_value f rho k v h.0 h.1.0)
    ∙ ap (with_first v (row_entry f rho v)) (members_value f rho (suc k) vs g.0 g.1.0)

pub slice_value : (f : Form) (b : theory.Basis) (columns : List (List Fraction)) (stands : List Stand) (rho : List Fraction) (slice : ℕ) (es : List Entry) → AreListed f b columns stands → length rho ≡ f.rows →
    slice_script columns stands rho slice ≡ Ok es → es ≡ nonzero_entries (row_entry f rho) (method.nonbasic_in f b slice)
slice_value f b columns stands rho slice es l r e =
    let h = then_ok (method.price_script f b rho slice) (λ alphas. Ok (entries_at (method.nonbasic_in f b slice) alphas)) es (sym (slice_is f b columns stands rho slice l r) ∙ e) in
    let same : entries_at (method.nonbasic_in f b slice) h.0 ≡ es = cc (h.1.1) in
    sym same ∙ members_value f rho 0 (method.nonbasic_in f b slice) h.0 h.1.0

-- ---- all slices
nonzero_by : (v : ℕ) (alpha : Fraction) (es fs : List Entry) → with_first v alpha (es ++ fs) ≡ with_first v alpha es ++ fs
nonzero_by v alpha es fs = go (is_zero alpha)
  where
    go : (t : Bool) → cond t (es ++ fs) (record { place = v; value = alpha } ∷ es ++ fs) ≡ cond t es (record { place = v; value = alpha } ∷ es) ++ fs
    go true = refl
    go false = refl

nonzero_append : (row : ℕ → Fraction) (us vs : List ℕ) → nonzero_entries row (us ++ vs) ≡ nonzero_entries row us ++ nonzero_entries row vs
nonzero_append row [] vs = refl
nonzero_append row (u ∷ us) vs = ap (with_first u (row u)) (nonzero_append row us vs) ∙ nonzero_by u (row u) (nonzero_entries row us) (nonzero_entries row vs)

range_append : (a m n : ℕ) → range_with_len a (m + n) ≡ range_with_len a m ++ range_with_len (a + m) n
range_append a zero n = let e : a ≡ a + 0 = omega arith in let z : 0 + n ≡ n = omega arith in ap (range_with_len a) z ∙ ap (λ k. range_with_len k n) e
range_append a (suc m) n = let e : (a + 1) + m ≡ a + suc m = omega arith in let z : suc m + n ≡ suc (m + n) = omega arith in ap (range_with_len a) z ∙ ap (λ xs. a ∷ xs) (range_append (a + 1) m n ∙ ap (λ k. range_with_len (a + 1) m ++ range_with_len k n) e)

lesser_cases : (n : ℕ) → (lesser 64 n ≡ 64) × (64 ≤ n) ⊎ (lesser 64 n ≡ n) × (n ≤ 64)
lesser_cases n = grind arith

-- from a slice on: its variables and then the later ones
slice_first : (count slice : ℕ) → range_with_len (64 * slice) (count - 64 * slice) ≡ range_with_len (64 * slice) (slice_size count slice) ++ range_with_len (64 * (slice + 1)) (count - 64 * (slice + 1))
slice_first count slice = ⊎_elim
    (λ (h : (slice_size count slice ≡ 64) × (64 ≤ count - 64 * slice)).
    let a : count - 64 * slice ≡ 64 + (count - 64 * (slice + 1)) = (let k = h.1 in omega arith) in
    let b : 64 * slice + 64 ≡ 64 * (slice + 1) = omega arith in
    ap (range_with_len (64 * slice)) a ∙ range_append (64 * slice) 64 (count - 64 * (slice + 1))
    ∙ ap (λ k. range_with_len (64 * slice) 64 ++ range_with_len k (count - 64 * (slice + 1))) b
    ∙ ap (λ k. range_with_len (64 * slice) k ++ range_with_len (64 * (slice + 1)) (count - 64 * (slice + 1))) (sym h.0))
    (λ (h : (slice_size count slice ≡ count - 64 * slice) × (count - 64 * slice ≤ 64)).
    let a : count - 64 * (slice + 1) ≡ 0 = (let k = h.1 in omega arith) in
    sym (ap (λ k. range_with_len (64 * slice) (slice_size count slice) ++ range_with_len (64 * (slice + 1)) k) a
    ∙ append-nil (range_with_len (64 * slice) (slice_size count slice)) ∙ ap (range_with_len (64 * slice)) h.0))
    (lesser_cases (count - 64 * slice))

pub row_from : (f : Form) (b : theory.Basis) (rho : List Fraction) (slice : ℕ) → nonzero_entries (row_entry f rho) (filter (nonbasic b) (range_with_len (64 * slice) (variables f - 64 * slice)))
    ≡ nonzero_entries (row_entry f rho) (method.nonbasic_in f b slice) ++ nonzero_entries (row_entry f rho) (filter (nonbasic b) (range_with_len (64 * (slice + 1)) (variables f - 64 * (slice + 1))))
row_from f b rho slice =
    ap (λ vs. nonzero_entries (row_entry f rho) (filter (nonbasic b) vs)) (slice_first (variables f) slice)
    ∙ ap (nonzero_entries (row_entry f rho)) (filter-append (nonbasic b) (range_with_len (64 * slice) (slice_size (variables f) slice)) (range_with_len (64 * (slice + 1)) (variables f - 64 * (slice + 1))))
    ∙ nonzero_append (row_entry f rho) (method.nonbasic_in f b slice) (filter (nonbasic b) (range_with_len (64 * (slice + 1)) (variables f - 64 * (slice + 1))))

slice_ok : (slice : ℕ) (s : Result (List Entry) Refused) (g : List Entry → Result (List Entry) SliceRefused) (es : List Entry) → then_slice slice s g ≡ Ok es → (fs : List Entry) × ((s ≡ Ok fs) × (g fs ≡ Ok es))
slice_ok slice (Ok fs) g es e = (fs, (refl, e))
slice_ok slice (Err r) g es e = absurd (cc)

more_ok : (fs : List Entry) (s : Result (List Entry) SliceRefused) (es : List Entry) → then_more fs s ≡ Ok es → (gs : List Entry) × ((s ≡ Ok gs) × (es ≡ fs ++ gs))
more_ok fs (Ok gs) es e = let h : fs ++ gs ≡ es = cc in (gs, (refl, sym h))
more_ok fs (Err r) es e = absurd (cc)

slices_value : (f : Form) (b : theory.Basis) (columns : List (List Fraction)) (stands : List Stand) (rho : List Fraction) (n slice : ℕ) (es : List Entry) → AreListed f b columns stands → length rho ≡ f.rows → variables f ≤ 64 * (slice + n) →
    slices_script columns stands rho n slice ≡ Ok es → es ≡ nonzero_entries (row_entry f rho) (filter (nonbasic b) (range_with_len (64 * slice) (variables f - 64 * slice)))
slices_value f b columns stands rho zero slice es l r h e =
    let same : [] ≡ es = cc in
    let none : 0 ≡ variables f - 64 * slice = omega arith in
    sym same ∙ ap (λ n. nonzero_entries (row_entry f rho) (filter (nonbasic b) (range_with_len (64 * slice) n))) none
slices_value f b columns stands rho (suc n) slice es l r h e =
    let s = slice_ok slice (slice_script columns stands rho slice) (λ es. then_more es (slices_script columns stands rho n (slice + 1))) es e in
    let m = more_ok s.0 (slices_script columns stands rho n (slice + 1)) es s.1.1 in
    m.1.1
    ∙ ap (λ xs. xs ++ m.0) (slice_value f b columns stands rho slice s.0 l r s.1.0)
    ∙ ap (λ xs. nonzero_entries (row_entry f rho) (method.nonbasic_in f b slice) ++ xs) (slices_value f b columns stands rho n (slice + 1) m.0 l r (omega arith) m.1.0)
    ∙ sym (row_from f b rho slice)

slices_enough : (count : ℕ) → count ≤ 64 * (0 + slices count)
slices_enough count = omega arith

pub row_value : (f : Form) (b : theory.Basis) (columns : List (List Fraction)) (stands : List Stand) (rho : List Fraction) (es : List Entry) → AreListed f b columns stands → length rho ≡ f.rows → row_script columns stands rho ≡ Ok es →
    es ≡ nonzero_entries (row_entry f rho) (all_nonbasic f b)
row_value f b columns stands rho es l r e =
    let all : variables f - 64 * 0 ≡ variables f = omega arith in
    subst (λ n. es ≡ nonzero_entries (row_entry f rho) (filter (nonbasic b) (range_with_len 0 n))) all
    (slices_value f b columns stands rho (slices (length columns)) 0 es l r (subst (λ n. n ≤ 64 * (0 + slices (length columns))) l.count (slices_enough (length columns))) e)
