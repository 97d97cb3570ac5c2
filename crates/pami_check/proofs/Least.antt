-- What the tests of infeasibility decide, and the total that they carry.
use Rattle.std.proofs.Common.{◌≡◌, ◌↔◌, ℕ, ◌<◌, [], ◌∷◌, ◌++◌, Bool, true, false, Option, None, Some, Result, Ok, Err, refl, sym, ap, ◌∙◌, subst, IsTrue, true≢false, if◌then◌else◌, ◌⊎◌, ⊎_elim}
use Rattle.pami_algebra.specs.Fraction.{Fraction}
use Rattle.pami_algebra.specs.Operations.{◌+ᶠ◌, ◌*ᶠ◌, neg_f, ◌<ᶠ◌, is_below}
use Rattle.pami_algebra.specs.Ring.{var, t0, ◌⊕◌, ◌⊗◌, ⊖}
use Rattle.pami_algebra.proofs.Laws.{by_ring_f}
use Rattle.pami_algebra.proofs.Field.{neg_neg_f}
use Rattle.pami_algebra.proofs.Tests.{is_below_iff}
use Rattle.pami_algebra.proofs.Products.{neg_above_f, neg_below_f}
use Rattle.pami_algebra.proofs.Strict.{lt_asymm_f, lt_trichotomy_f, lt_other_f}
use Rattle.pami_frac.specs.declared.arithmetic.Refused.{Refused}
use Rattle.pami_frac.specs.declared.list.Bounds.{Bounds}
use Rattle.pami_linear.specs.Sums.{sum_to, dot}
use Rattle.pami_linear.proofs.Sums.{sum_same, sum_append}
use Rattle.pami_script.specs.Script.{then, add_product, sub_product}
use Rattle.pami_script.proofs.Values.{add_product_value, sub_product_value}
use Rattle.pami_theory.specs.Form.{Form, entry, limits, coefficient, variables, row_variable, zero_f}
use Rattle.pami_theory.specs.Certificate.{IsLeastProduct, HoldsInfeasible}
use Rattle.pami_theory.proofs.Forms.{by_variable, dot_row_variable, dot_column}
use Rattle.pami_check.specs.declared.verdict.Condition.{Condition}
use Rattle.pami_check.specs.declared.verdict.Condition.TheVariants as conditions
use Rattle.pami_check.specs.declared.verdict.Verdict.{Verdict}
use Rattle.pami_check.specs.declared.verdict.Verdict.TheVariants as verdicts
use Rattle.pami_check.specs.Tests.{behind}
use Rattle.pami_check.specs.Verdict.{with_bound, column_least, combination_script, finite_row, finite_column, finite_rows, finite_columns}
use Rattle.pami_check.proofs.Decides.{Adds, Each, adds_by, adds_both, adds_each}
use Rattle.pami_check.proofs.Points.{sum_is}

-- a bound, 0 where there is none
abbrev pub or_zero : Option Fraction → Fraction
or_zero None = zero_f
or_zero (Some b) = b

-- the least value of k times a value within the bounds, where there is one
abbrev pub least_by : Bool → Bool → Bounds → Fraction → Fraction
least_by up down l k = if up then k *ᶠ or_zero l.low else if down then k *ᶠ or_zero l.high else zero_f

abbrev pub least_at : Bounds → Fraction → Fraction
least_at l k = least_by (is_below zero_f k) (is_below k zero_f) l k

abbrev pub IsSome : Option Fraction → Type 0
IsSome b = (x : Fraction) × (b ≡ Some x)

-- the bound that the sign of k asks for is finite
pub record IsFinite (l : Bounds) (k : Fraction) : Type 0 where
  pub low : zero_f <ᶠ k → IsSome l.low
  pub high : k <ᶠ zero_f → IsSome l.high

bound_is : (b : Option Fraction) (x : Fraction) → b ≡ Some x → x ≡ or_zero b
bound_is b x e = sym (ap or_zero e)

-- a truth value that says of k that it is above 0, and one that says that it is below
abbrev Up : Bool → Fraction → Type 0
Up b k = IsTrue b ↔ (zero_f <ᶠ k)

abbrev Down : Bool → Fraction → Type 0
Down b k = IsTrue b ↔ (k <ᶠ zero_f)

-- ---- the least product is that, and no other
least_holds_by : (up down : Bool) (l : Bounds) (k : Fraction) → Up up k → Down down k → IsFinite l k → IsLeastProduct l k (least_by up down l k)
least_holds_by true down l k h i f = (
  λ p. let b = f.low p in (b.0, b.1, ap (λ z. k *ᶠ z) (sym (bound_is l.low b.0 b.1))),
  λ n. absurd (lt_asymm_f zero_f k (h.0 refl) n),
  λ e. absurd (lt_other_f zero_f k (h.0 refl) (sym e)),
)
least_holds_by false true l k h i f = (
  λ p. absurd (true≢false (sym (h.1 p))),
  λ n. let b = f.high n in (b.0, b.1, ap (λ z. k *ᶠ z) (sym (bound_is l.high b.0 b.1))),
  λ e. absurd (lt_other_f k zero_f (i.0 refl) e),
)
least_holds_by false false l k h i f = (λ p. absurd (true≢false (sym (h.1 p))), λ n. absurd (true≢false (sym (i.1 n))), λ e. refl)

least_holds : (l : Bounds) (k : Fraction) → IsFinite l k → IsLeastProduct l k (least_at l k)
least_holds l k f = least_holds_by (is_below zero_f k) (is_below k zero_f) l k (is_below_iff zero_f k) (is_below_iff k zero_f) f

none_zero : (k : Fraction) → ¬ (zero_f <ᶠ k) → ¬ (k <ᶠ zero_f) → k ≡ zero_f
none_zero k a b = ⊎_elim
    (λ (n : k <ᶠ zero_f). absurd (b n))
    (λ (h : (k ≡ zero_f) ⊎ (zero_f <ᶠ k)). ⊎_elim (λ (e : k ≡ zero_f). e) (λ (p : zero_f <ᶠ k). absurd (a p)) h)
    (lt_trichotomy_f k zero_f)

least_only_by : (up down : Bool) (l : Bounds) (k t : Fraction) → Up up k → Down down k → IsLeastProduct l k t → t ≡ least_by up down l k
least_only_by true down l k t h i f = let b = f.0 (h.0 refl) in b.2 ∙ ap (λ z. k *ᶠ z) (bound_is l.low b.0 b.1)
least_only_by false true l k t h i f = let b = f.1 (i.0 refl) in b.2 ∙ ap (λ z. k *ᶠ z) (bound_is l.high b.0 b.1)
least_only_by false false l k t h i f = f.2 (none_zero k (λ p. true≢false (sym (h.1 p))) (λ n. true≢false (sym (i.1 n))))

least_only : (l : Bounds) (k t : Fraction) → IsLeastProduct l k t → t ≡ least_at l k
least_only l k t f = least_only_by (is_below zero_f k) (is_below k zero_f) l k t (is_below_iff zero_f k) (is_below_iff k zero_f) f

least_finite : (l : Bounds) (k t : Fraction) → IsLeastProduct l k t → IsFinite l k
least_finite l k t f = record { low = λ p. let b = f.0 p in (b.0, b.1); high = λ n. let b = f.1 n in (b.0, b.1) }

-- ---- a test that adds a product with a bound
abbrev Outcome : Option ℕ → Result (Option Fraction) Refused → Result Fraction Verdict
Outcome v o = behind conditions.Finite v o (λ s. Ok s)

bound_passed : (v : Option ℕ) (b : Option Fraction) (step : Fraction → Result Fraction Refused) (r : Fraction) →
    Outcome v (with_bound b step) ≡ Ok r → (x : Fraction) × (b ≡ Some x) × (step x ≡ Ok r)
bound_passed v None step r e = absurd cc
bound_passed v (Some b) step r e = (b, refl, go (step b) e)
  where
    go : (o : Result Fraction Refused) → Outcome v ((then) o (λ s. Ok (Some s))) ≡ Ok r → o ≡ Ok r
    go (Ok s) e = let h : s ≡ r = cc in ap Ok h
    go (Err d) e = absurd cc

bound_failed : (v : Option ℕ) (b : Option Fraction) (step : Fraction → Result Fraction Refused) (c : Condition) (w : Option ℕ) →
    Outcome v (with_bound b step) ≡ Err (verdicts.Invalid c w) → b ≡ None
bound_failed v None step c w e = refl
bound_failed v (Some b) step c w e = go (step b) e
  where
    go : (o : Result Fraction Refused) → Outcome v ((then) o (λ s. Ok (Some s))) ≡ Err (verdicts.Invalid c w) → Some b ≡ None
    go (Ok s) e = absurd cc
    go (Err d) e = absurd cc

-- what a test by the sign of a factor does
abbrev Signed : Bool → Bool → Option ℕ → Option Fraction → Option Fraction → (Fraction → Result Fraction Refused) → Fraction → Result Fraction Verdict
Signed up down v above below step s = Outcome v (if up then with_bound above step else if down then with_bound below step else Ok (Some s))

record IsFiniteAt (above below : Option Fraction) (k : Fraction) : Type 0 where
  above_is : zero_f <ᶠ k → IsSome above
  below_is : k <ᶠ zero_f → IsSome below

abbrev gain_by : Bool → Bool → Option Fraction → Option Fraction → Fraction → Fraction
gain_by up down above below k = if up then k *ᶠ or_zero above else if down then k *ᶠ or_zero below else zero_f

-- s + k b, or s - k b
abbrev IsStep : (Fraction → Fraction) → Fraction → Fraction → (Fraction → Result Fraction Refused) → Type 0
IsStep sign k s step = (b r : Fraction) → step b ≡ Ok r → r ≡ s +ᶠ sign (k *ᶠ b)

signed_passed : (sign : Fraction → Fraction) → sign zero_f ≡ zero_f → (up down : Bool) (v : Option ℕ) (above below : Option Fraction) (k s r : Fraction)
    (step : Fraction → Result Fraction Refused) → Up up k → Down down k → IsStep sign k s step →
    Signed up down v above below step s ≡ Ok r → IsFiniteAt above below k × (r ≡ s +ᶠ sign (gain_by up down above below k))
signed_passed sign z true down v above below k s r step h i q e =
    let b = bound_passed v above step r e in
    let finite : IsFiniteAt above below k = record { above_is = λ p. (b.0, b.1); below_is = λ n. absurd (lt_asymm_f zero_f k (h.0 refl) n) } in
    (finite, q b.0 r b.2 ∙ ap (λ x. s +ᶠ sign (k *ᶠ x)) (bound_is above b.0 b.1))
signed_passed sign z false true v above below k s r step h i q e =
    let b = bound_passed v below step r e in
    let finite : IsFiniteAt above below k = record { above_is = λ p. absurd (true≢false (sym (h.1 p))); below_is = λ n. (b.0, b.1) } in
    (finite, q b.0 r b.2 ∙ ap (λ x. s +ᶠ sign (k *ᶠ x)) (bound_is below b.0 b.1))
signed_passed sign z false false v above below k s r step h i q e =
    let g : s ≡ r = cc in
    let finite : IsFiniteAt above below k = record { above_is = λ p. absurd (true≢false (sym (h.1 p))); below_is = λ n. absurd (true≢false (sym (i.1 n))) } in
    (finite, sym g ∙ by_ring_f (s ∷ []) (var 0) (var 0 ⊕ t0) refl ∙ ap (λ x. s +ᶠ x) (sym z))

signed_failed : (up down : Bool) (v : Option ℕ) (above below : Option Fraction) (k s : Fraction) (step : Fraction → Result Fraction Refused)
    (c : Condition) (w : Option ℕ) → Up up k → Down down k →
    Signed up down v above below step s ≡ Err (verdicts.Invalid c w) → ¬ IsFiniteAt above below k
signed_failed true down v above below k s step c w h i e f =
    let b = f.above_is (h.0 refl) in
    let n = bound_failed v above step c w e in
    absurd cc
signed_failed false true v above below k s step c w h i e f =
    let b = f.below_is (i.0 refl) in
    let n = bound_failed v below step c w e in
    absurd cc
signed_failed false false v above below k s step c w h i e f = absurd cc

-- ---- the test of a row
row_adds : (f : Form) (y : ℕ → Fraction) (i : ℕ) →
    Adds (finite_row f y i ∷ []) (IsFinite (limits f (row_variable f i)) (y i)) (least_at (limits f (row_variable f i)) (y i))
row_adds f y i =
    let v = Some (row_variable f i) in
    let l = limits f (row_variable f i) in
    let k = y i in
    let up = is_below zero_f k in
    let down = is_below k zero_f in
    record {
      passed = λ s r e.
          let h = signed_passed (λ z. z) refl up down v l.low l.high k s r (add_product s k) (is_below_iff zero_f k) (is_below_iff k zero_f)
          (λ b r e. add_product_value s k b r e) e in
          (record { low = h.0.above_is; high = h.0.below_is }, h.1);
      failed = λ s c w e p.
          signed_failed up down v l.low l.high k s (add_product s k) c w (is_below_iff zero_f k) (is_below_iff k zero_f) e
          (record { above_is = p.low; below_is = p.high });
    }

-- ---- the test of a column: the factor is minus the combination
turned_low : (g : Fraction) → zero_f <ᶠ neg_f g → g <ᶠ zero_f
turned_low g h = subst (λ z. z <ᶠ zero_f) (neg_neg_f g) (neg_below_f (neg_f g) h)

turned_high : (g : Fraction) → neg_f g <ᶠ zero_f → zero_f <ᶠ g
turned_high g h = subst (λ z. zero_f <ᶠ z) (neg_neg_f g) (neg_above_f (neg_f g) h)

turned_finite : (l : Bounds) (g : Fraction) → IsFiniteAt l.high l.low g → IsFinite l (neg_f g)
turned_finite l g f = record { low = λ p. f.below_is (turned_low g p); high = λ n. f.above_is (turned_high g n) }

finite_turned : (l : Bounds) (g : Fraction) → IsFinite l (neg_f g) → IsFiniteAt l.high l.low g
finite_turned l g f = record { above_is = λ p. f.high (neg_below_f g p); below_is = λ n. f.low (neg_above_f g n) }

turned_product : (b : Option Fraction) (g x : Fraction) → b ≡ Some x → neg_f (g *ᶠ or_zero b) ≡ neg_f g *ᶠ x
turned_product b g x e =
    ap (λ z. neg_f (g *ᶠ z)) (sym (bound_is b x e)) ∙ by_ring_f (g ∷ x ∷ []) (⊖ (var 0 ⊗ var 1)) (⊖ (var 0) ⊗ var 1) refl

turned_by : (up down : Bool) (l : Bounds) (g : Fraction) → Up up g → Down down g → IsFiniteAt l.high l.low g →
    IsLeastProduct l (neg_f g) (neg_f (gain_by up down l.high l.low g))
turned_by true down l g h i f = (
  λ p. absurd (lt_asymm_f zero_f g (h.0 refl) (turned_low g p)),
  λ n. let b = f.above_is (h.0 refl) in (b.0, b.1, turned_product l.high g b.0 b.1),
  λ e. absurd (lt_other_f (neg_f g) zero_f (neg_below_f g (h.0 refl)) e),
)
turned_by false true l g h i f = (
  λ p. let b = f.below_is (i.0 refl) in (b.0, b.1, turned_product l.low g b.0 b.1),
  λ n. absurd (true≢false (sym (h.1 (turned_high g n)))),
  λ e. absurd (lt_other_f zero_f (neg_f g) (neg_above_f g (i.0 refl)) (sym e)),
)
turned_by false false l g h i f = (
  λ p. absurd (true≢false (sym (i.1 (turned_low g p)))),
  λ n. absurd (true≢false (sym (h.1 (turned_high g n)))),
  λ e. by_ring_f [] (⊖ t0) t0 refl,
)

turned_least : (l : Bounds) (g : Fraction) → IsFiniteAt l.high l.low g →
    neg_f (gain_by (is_below zero_f g) (is_below g zero_f) l.high l.low g) ≡ least_at l (neg_f g)
turned_least l g f =
    least_only l (neg_f g) _ (turned_by (is_below zero_f g) (is_below g zero_f) l g (is_below_iff zero_f g) (is_below_iff g zero_f) f)

-- what the test does, by the script of its combination
abbrev ColumnFound : Bounds → ℕ → Result Fraction Refused → Fraction → Result Fraction Verdict
ColumnFound l j script s = Outcome (Some j) ((then) script (λ g. column_least l g s))

column_passed : (l : Bounds) (j : ℕ) (o : Result Fraction Refused) (t s r : Fraction) → ((g : Fraction) → o ≡ Ok g → g ≡ t) →
    ColumnFound l j o s ≡ Ok r → IsFinite l (neg_f t) × (r ≡ s +ᶠ least_at l (neg_f t))
column_passed l j (Ok g) t s r h e =
    let k = signed_passed neg_f (by_ring_f [] (⊖ t0) t0 refl) (is_below zero_f g) (is_below g zero_f) (Some j) l.high l.low g s r (sub_product s g)
    (is_below_iff zero_f g) (is_below_iff g zero_f) (λ b r e. sub_product_value s g b r e) e in
    subst (λ q. IsFinite l (neg_f q) × (r ≡ s +ᶠ least_at l (neg_f q))) (h g refl)
    (turned_finite l g k.0, k.1 ∙ ap (λ z. s +ᶠ z) (turned_least l g k.0))
column_passed l j (Err d) t s r h e = absurd cc

column_failed : (l : Bounds) (j : ℕ) (o : Result Fraction Refused) (t s : Fraction) (c : Condition) (w : Option ℕ) → ((g : Fraction) → o ≡ Ok g → g ≡ t) →
    ColumnFound l j o s ≡ Err (verdicts.Invalid c w) → ¬ IsFinite l (neg_f t)
column_failed l j (Ok g) t s c w h e f =
    signed_failed (is_below zero_f g) (is_below g zero_f) (Some j) l.high l.low g s (sub_product s g) c w (is_below_iff zero_f g) (is_below_iff g zero_f) e
    (finite_turned l g (subst (λ q. IsFinite l (neg_f q)) (sym (h g refl)) f))
column_failed l j (Err d) t s c w h e f = absurd cc

abbrev combined : Form → (ℕ → Fraction) → ℕ → Fraction
combined f y j = dot f.rows y (λ i. entry f i j)

column_adds : (f : Form) (y : ℕ → Fraction) (j : ℕ) →
    Adds (finite_column f y j ∷ []) (IsFinite (limits f j) (neg_f (combined f y j))) (least_at (limits f j) (neg_f (combined f y j)))
column_adds f y j =
    let l = limits f j in
    let o = combination_script f y j in
    let is : (g : Fraction) → o ≡ Ok g → g ≡ combined f y j = λ g e. sum_is f.rows y (λ i. entry f i j) g e in
    record {
      passed = λ s r e. column_passed l j o (combined f y j) s r is e;
      failed = λ s c w e. column_failed l j o (combined f y j) s c w is e;
    }

-- ---- all of them
abbrev pub factor : Form → (ℕ → Fraction) → ℕ → Fraction
factor f y v = neg_f (dot f.rows y (coefficient f v))

row_factor : (f : Form) (y : ℕ → Fraction) (i : ℕ) → i < f.rows → y i ≡ factor f y (row_variable f i)
row_factor f y i l = sym (ap neg_f (dot_row_variable f y i l) ∙ neg_neg_f (y i))

column_factor : (f : Form) (y : ℕ → Fraction) (j : ℕ) → j < f.columns → neg_f (combined f y j) ≡ factor f y j
column_factor f y j l = ap neg_f (sym (dot_column f y j l))

abbrev pub least_of : Form → (ℕ → Fraction) → ℕ → Fraction
least_of f y v = least_at (limits f v) (factor f y v)

abbrev pub AreFinite : Form → (ℕ → Fraction) → ℕ → Type 0
AreFinite f y v = IsFinite (limits f v) (factor f y v)

abbrev pub RowIsFinite : Form → (ℕ → Fraction) → ℕ → Type 0
RowIsFinite f y i = AreFinite f y (row_variable f i)

abbrev pub row_least_of : Form → (ℕ → Fraction) → ℕ → Fraction
row_least_of f y i = least_of f y (row_variable f i)

rows_add : (f : Form) (y : ℕ → Fraction) → Adds (finite_rows f y) (Each f.rows (RowIsFinite f y)) (sum_to f.rows (row_least_of f y))
rows_add f y = adds_each f.rows (λ i. finite_row f y i ∷ []) (RowIsFinite f y) (row_least_of f y)
    (λ i l. let b = limits f (row_variable f i) in
    subst (λ k. Adds (finite_row f y i ∷ []) (IsFinite b k) (least_at b k)) (row_factor f y i l) (row_adds f y i))

columns_add : (f : Form) (y : ℕ → Fraction) → Adds (finite_columns f y) (Each f.columns (AreFinite f y)) (sum_to f.columns (least_of f y))
columns_add f y = adds_each f.columns (λ j. finite_column f y j ∷ []) (AreFinite f y) (least_of f y)
    (λ j l. let b = limits f j in
    subst (λ k. Adds (finite_column f y j ∷ []) (IsFinite b k) (least_at b k)) (column_factor f y j l) (column_adds f y j))

abbrev total_of : Form → (ℕ → Fraction) → Fraction
total_of f y = sum_to f.rows (row_least_of f y) +ᶠ sum_to f.columns (least_of f y)

total_is : (f : Form) (y : ℕ → Fraction) → total_of f y ≡ sum_to (variables f) (least_of f y)
total_is f y =
    by_ring_f (sum_to f.rows (row_least_of f y) ∷ sum_to f.columns (least_of f y) ∷ []) (var 0 ⊕ var 1) (var 1 ⊕ var 0) refl
    ∙ sym (sum_append f.columns f.rows (least_of f y))

pub parts_add : (f : Form) (y : ℕ → Fraction) →
    Adds (finite_rows f y ++ finite_columns f y) (Each f.rows (RowIsFinite f y) × Each f.columns (AreFinite f y)) (sum_to (variables f) (least_of f y))
parts_add f y =
    let both = adds_both (finite_rows f y) (finite_columns f y) _ _ _ _ (rows_add f y) (columns_add f y) in
    adds_by _ _ _ (total_of f y) (sum_to (variables f) (least_of f y)) both (λ p. p) (λ p. p) (total_is f y)

-- ---- what is said of the certificate
pub holds_by : (f : Form) (y : ℕ → Fraction) → Each f.rows (RowIsFinite f y) → Each f.columns (AreFinite f y) →
    zero_f <ᶠ sum_to (variables f) (least_of f y) → HoldsInfeasible f y
holds_by f y rows columns p = record {
  least = least_of f y;
  finite = λ v l. least_holds (limits f v) (factor f y v) (by_variable f (AreFinite f y) columns rows v l);
  positive = p;
}

pub holds_finite : (f : Form) (y : ℕ → Fraction) → HoldsInfeasible f y → (v : ℕ) → v < variables f → AreFinite f y v
holds_finite f y h v l = least_finite (limits f v) (factor f y v) (h.least v) (h.finite v l)

pub holds_positive : (f : Form) (y : ℕ → Fraction) → HoldsInfeasible f y → zero_f <ᶠ sum_to (variables f) (least_of f y)
holds_positive f y h =
    let same = sum_same (variables f) h.least (least_of f y) (λ v l. least_only (limits f v) (factor f y v) (h.least v) (h.finite v l)) in
    subst (λ z. zero_f <ᶠ z) same h.positive
