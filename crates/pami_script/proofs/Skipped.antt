-- A script over entries alone is the script over all places, where a place with no entry changes nothing.
use Rattle.std.proofs.Common.{◌≡◌, ℕ, zero, suc, ◌+◌, ◌<◌, ◌≤◌, List, [], ◌∷◌, length, get_or, refl, ap, ◌∙◌, subst, arith, Bool, true, false, cond, Result, Ok, ⊎_elim}
use Rattle.std.proofs.lemmas.Bool.{cases_lt}
use lib.IntN.{pos}
use lib.Dec.{T, eqb, eqb→eq, eqb_refl}
use Rattle.pami_algebra.specs.Fraction.{Fraction}
use Rattle.pami_algebra.specs.Operations.{of_int}
use Rattle.pami_frac.specs.Arithmetic.{add_outcome, sub_outcome, mul_outcome}
use Rattle.pami_frac.specs.declared.arithmetic.Refused.{Refused}
use Rattle.pami_frac.specs.declared.list.Entry.{Entry}
use Rattle.pami_frac.proofs.Outcomes.{zero_mul_fits, mul_zero_fits, add_zero_fits, sub_zero_fits}
use Rattle.pami_script.specs.Script.{then, add_product, sub_product, each, each_entry, add_dot, sub_dot, add_entries, add_entries_right, sub_entries, sub_entries_right}
use Rattle.pami_linear.specs.Lists.{get}
use Rattle.pami_script.specs.Dense.{at, dense_from, dense, Rising, LeavesOut}
use Rattle.pami_script.proofs.Scripts.{then_same, then_go}

-- ---- the heart: places that change nothing may be left out
pub each_skips : {A : Type 0} (n k high : ℕ) (es : List Entry) (step : ℕ → A → Result A Refused) (own : Entry → A → Result A Refused) (a : A) → k + n ≡ high → Rising k high es → LeavesOut step own k high es →
    each n k step a ≡ each_entry es own a
each_skips zero k high [] step own a e r h = refl
each_skips zero k high (x ∷ es) step own a e r h = absurd (let s = r.0 in let t = r.1 in omega arith)
each_skips (suc n) k high [] step own a e r h =
    then_go (step k a) (λ b. each n (suc k) step b) a (h k (omega arith) (omega arith) a)
    ∙ each_skips n (suc k) high [] step own a (omega arith) (let l : suc k ≤ high = omega arith in l) (λ p l m b. h p (omega arith) m b)
each_skips (suc n) k high (x ∷ es) step own a e r h = ⊎_elim
    (λ (l : k < x.place).
    then_go (step k a) (λ b. each n (suc k) step b) a (h.0 k (omega arith) l a)
    ∙ each_skips n (suc k) high (x ∷ es) step own a (omega arith) (l, r.1, r.2) (λ p m i b. h.0 p (omega arith) i b, h.1, h.2))
    (λ (l : x.place ≤ k). let q : x.place ≡ k = (let s = r.0 in omega arith) in
    ap (λ s. then s (λ b. each n (suc k) step b)) (subst (λ j. step j a ≡ own x a) q (h.1 a))
    ∙ then_same (own x a) (λ b. each n (suc k) step b) (λ b. each_entry es own b)
    (λ b. each_skips n (suc k) high es step own b (omega arith) (subst (λ j. Rising (suc j) high es) q r.2) (subst (λ j. LeavesOut step own (suc j) high es) q h.2)))
    (cases_lt k x.place)

-- ---- the value at a place
pub at_here : (e : Entry) (es : List Entry) (p : ℕ) → e.place ≡ p → at (e ∷ es) p ≡ e.value
at_here e es p h = go (eqb e.place p) (subst (λ k. T (eqb e.place k)) h (eqb_refl e.place))
  where
    go : (b : Bool) → T b → cond b e.value (at es p) ≡ e.value
    go true k = refl
    go false k = absurd k

pub at_other : (e : Entry) (es : List Entry) (p : ℕ) → ¬ (e.place ≡ p) → at (e ∷ es) p ≡ at es p
at_other e es p h = go (eqb e.place p) (eqb→eq e.place p)
  where
    go : (b : Bool) → (T b → e.place ≡ p) → cond b e.value (at es p) ≡ at es p
    go true k = absurd (h (k tt))
    go false k = refl

pub at_below : (es : List Entry) (low high p : ℕ) → Rising low high es → p < low → at es p ≡ of_int (pos 0)
at_below [] low high p r h = refl
at_below (e ∷ es) low high p r h = at_other e es p (λ k. let a = r.0 in omega arith) ∙ at_below es (suc e.place) high p r.2 (let a = r.0 in omega arith)

-- ---- a step by the value at its place changes nothing where a zero changes nothing
pub leaves_zeros : {A : Type 0} (es : List Entry) (low high : ℕ) (f : ℕ → Fraction) (step : ℕ → Fraction → A → Result A Refused) → Rising low high es → ((p : ℕ) → low ≤ p → f p ≡ at es p) → ((p : ℕ) (a : A) → step p (of_int (pos 0)) a ≡ Ok a) →
    LeavesOut (λ p a. step p (f p) a) (λ (e : Entry) a. step e.place e.value a) low high es
leaves_zeros [] low high f step r h z = λ p l m a. ap (λ x. step p x a) (h p l) ∙ z p a
leaves_zeros {A} (e ∷ es) low high f step r h z = (
  λ p l m a. ap (λ x. step p x a) (h p l ∙ at_below (e ∷ es) (suc p) high p (m, r.1, r.2) (omega arith)) ∙ z p a,
  λ a. ap (λ x. step e.place x a) (h e.place r.0 ∙ at_here e es e.place refl),
  leaves_zeros es (suc e.place) high f step r.2 (λ p l. h p (let a = r.0 in omega arith) ∙ at_other e es p (λ k. omega arith)) z,
)

-- the script over all places by the values of entries is that over the entries
pub sparse_is_dense : {A : Type 0} (n : ℕ) (es : List Entry) (step : ℕ → Fraction → A → Result A Refused) (a : A) → Rising 0 n es → ((p : ℕ) (b : A) → step p (of_int (pos 0)) b ≡ Ok b) →
    each n 0 (λ p b. step p (at es p) b) a ≡ each_entry es (λ e b. step e.place e.value b) a
sparse_is_dense n es step a r z =
    each_skips n 0 n es (λ p b. step p (at es p) b) (λ e b. step e.place e.value b) a (omega arith) r (leaves_zeros es 0 n (at es) step r (λ p l. refl) z)

-- ---- operations with a zero operand change nothing
pub add_zero_left : (t y : Fraction) → add_product t (of_int (pos 0)) y ≡ Ok t
add_zero_left t y = then_go (mul_outcome (of_int (pos 0)) y) (λ p. add_outcome t p) (of_int (pos 0)) (zero_mul_fits y) ∙ add_zero_fits t

pub add_zero_right : (t x : Fraction) → add_product t x (of_int (pos 0)) ≡ Ok t
add_zero_right t x = then_go (mul_outcome x (of_int (pos 0))) (λ p. add_outcome t p) (of_int (pos 0)) (mul_zero_fits x) ∙ add_zero_fits t

pub sub_zero_left : (t y : Fraction) → sub_product t (of_int (pos 0)) y ≡ Ok t
sub_zero_left t y = then_go (mul_outcome (of_int (pos 0)) y) (λ p. sub_outcome t p) (of_int (pos 0)) (zero_mul_fits y) ∙ sub_zero_fits t

pub sub_zero_right : (t x : Fraction) → sub_product t x (of_int (pos 0)) ≡ Ok t
sub_zero_right t x = then_go (mul_outcome x (of_int (pos 0))) (λ p. sub_outcome t p) (of_int (pos 0)) (mul_zero_fits x) ∙ sub_zero_fits t

-- ---- sums of products over all places are those over the entries
pub add_dot_sparse : (n : ℕ) (es : List Entry) (v : ℕ → Fraction) (t : Fraction) → Rising 0 n es → add_dot n (at es) v t ≡ add_entries es v t
add_dot_sparse n es v t r = sparse_is_dense n es (λ p x t. add_product t x (v p)) t r (λ p t. add_zero_left t (v p))

pub add_dot_sparse_right : (n : ℕ) (u : ℕ → Fraction) (es : List Entry) (t : Fraction) → Rising 0 n es → add_dot n u (at es) t ≡ add_entries_right u es t
add_dot_sparse_right n u es t r = sparse_is_dense n es (λ p x t. add_product t (u p) x) t r (λ p t. add_zero_right t (u p))

pub sub_dot_sparse : (n : ℕ) (es : List Entry) (v : ℕ → Fraction) (t : Fraction) → Rising 0 n es → sub_dot n (at es) v t ≡ sub_entries es v t
sub_dot_sparse n es v t r = sparse_is_dense n es (λ p x t. sub_product t x (v p)) t r (λ p t. sub_zero_left t (v p))

pub sub_dot_sparse_right : (n : ℕ) (u : ℕ → Fraction) (es : List Entry) (t : Fraction) → Rising 0 n es → sub_dot n u (at es) t ≡ sub_entries_right u es t
sub_dot_sparse_right n u es t r = sparse_is_dense n es (λ p x t. sub_product t (u p) x) t r (λ p t. sub_zero_right t (u p))

-- ---- a vector and its entries
pub length_dense_from : (n k : ℕ) (es : List Entry) → length (dense_from n k es) ≡ n
length_dense_from zero k es = refl
length_dense_from (suc n) k es = ap suc (length_dense_from n (suc k) es)

pub get_dense_from : (n k p : ℕ) (es : List Entry) → p < n → get_or (dense_from n k es) p (of_int (pos 0)) ≡ at es (k + p)
get_dense_from zero k p es h = absurd (omega arith)
get_dense_from (suc n) k zero es h = ap (at es) (omega arith)
get_dense_from (suc n) k (suc p) es h = get_dense_from n (suc k) p es (omega arith) ∙ ap (at es) (omega arith)

pub length_dense : (n : ℕ) (es : List Entry) → length (dense n es) ≡ n
unfolding dense
length_dense n es = length_dense_from n 0 es

pub get_dense : (n : ℕ) (es : List Entry) (p : ℕ) → p < n → get (dense n es) p ≡ at es p
unfolding dense
get_dense n es p h = get_dense_from n 0 p es h ∙ ap (at es) (omega arith)
