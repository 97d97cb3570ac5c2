-- What the tests of points, reduced costs and signs decide.
use Rattle.std.proofs.Common.{◌≡◌, ◌↔◌, ℕ, ◌<◌, [], ◌∷◌, Bool, true, false, not, ◌&&◌, Option, None, Some, Ok, refl, sym, ap, ◌∙◌, subst, arith, IsTrue, IsFalse, true≢false, if◌then◌else◌}
use Rattle.pami_algebra.specs.Fraction.{Fraction}
use Rattle.pami_algebra.specs.Operations.{◌-ᶠ◌, ◌≤ᶠ◌, ◌<ᶠ◌, is_below}
use Rattle.pami_algebra.specs.Ring.{var, t0, ◌⊕◌}
use Rattle.pami_algebra.proofs.Laws.{by_ring_f}
use Rattle.pami_algebra.proofs.Tests.{is_below_iff, not_below_iff}
use Rattle.pami_algebra.proofs.Strict.{lt_asymm_f}
use Rattle.pami_frac.specs.declared.list.Bounds.{Bounds}
use Rattle.pami_linear.specs.Sums.{dot}
use Rattle.pami_script.specs.Script.{add_dot}
use Rattle.pami_script.proofs.Values.{add_dot_value, sub_dot_value}
use Rattle.pami_theory.specs.Form.{Form, entry, limits, cost, variables, row_variable, zero_f, IsPoint, IsWithin}
use Rattle.pami_theory.specs.Start.{is_same}
use Rattle.pami_theory.specs.Certificate.{IsComplementary}
use Rattle.pami_theory.proofs.Signs.{is_same_iff}
use Rattle.pami_theory.proofs.Forms.{by_variable, rows_point, point_rows}
use Rattle.pami_check.specs.declared.verdict.Condition.TheVariants as conditions
use Rattle.pami_check.specs.Verdict.{is_at_least, is_at_most, is_within, is_at, is_complementary, bound_at, row_test, row_pair, column_tests, row_tests, point_tests, reduced_script, reduced_test, reduced_tests, sign_at, sign_tests}
use Rattle.pami_check.proofs.Decides.{Decides, Each, decides_by, decides_both, decides_each, decides_bool, decides_script}

-- ---- tests of single values
not_iff : (b : Bool) (P : Type 0) → IsFalse b ↔ P → IsTrue (not b) ↔ P
not_iff true P h = (λ e. absurd (true≢false (sym e)), λ p. absurd (true≢false (h.1 p)))
not_iff false P h = (λ e. h.0 refl, λ p. refl)

and_iff : (a b : Bool) (P Q : Type 0) → IsTrue a ↔ P → IsTrue b ↔ Q → IsTrue (a && b) ↔ (P × Q)
and_iff true b P Q h k = (λ e. (h.0 refl, k.0 e), λ p. k.1 p.1)
and_iff false b P Q h k = (λ e. absurd (true≢false (sym e)), λ p. absurd (true≢false (sym (h.1 p.0))))

at_least_iff : (low : Option Fraction) (x : Fraction) → IsTrue (is_at_least low x) ↔ ((b : Fraction) → low ≡ Some b → b ≤ᶠ x)
at_least_iff None x = (λ e b h. absurd cc, λ h. refl)
at_least_iff (Some l) x =
    let i = not_iff (is_below x l) (l ≤ᶠ x) (not_below_iff x l) in
    (λ e b h. let g : l ≡ b = cc in subst (λ z. z ≤ᶠ x) g (i.0 e), λ h. i.1 (h l refl))

at_most_iff : (high : Option Fraction) (x : Fraction) → IsTrue (is_at_most high x) ↔ ((b : Fraction) → high ≡ Some b → x ≤ᶠ b)
at_most_iff None x = (λ e b h. absurd cc, λ h. refl)
at_most_iff (Some l) x =
    let i = not_iff (is_below l x) (x ≤ᶠ l) (not_below_iff l x) in
    (λ e b h. let g : l ≡ b = cc in subst (λ z. x ≤ᶠ z) g (i.0 e), λ h. i.1 (h l refl))

within_iff : (l : Bounds) (x : Fraction) → IsTrue (is_within l x) ↔ IsWithin l x
within_iff l x =
    let i = and_iff (is_at_least l.low x) (is_at_most l.high x) _ _ (at_least_iff l.low x) (at_most_iff l.high x) in
    (λ e. record { above_low = (i.0 e).0; below_high = (i.0 e).1 }, λ h. i.1 (h.above_low, h.below_high))

-- ---- points
-- the value of a variable is within what `reach` makes of its bounds
abbrev IsInReach : Form → (Bounds → Bounds) → (ℕ → Fraction) → ℕ → Type 0
IsInReach f reach x v = IsWithin (reach (limits f v)) (x v)

bound_decided : (f : Form) (reach : Bounds → Bounds) (x : ℕ → Fraction) (v : ℕ) → Decides (bound_at f reach x v ∷ []) (IsInReach f reach x v)
bound_decided f reach x v =
    decides_bool conditions.Bound (Some v) (is_within (reach (limits f v)) (x v)) (IsInReach f reach x v) (within_iff (reach (limits f v)) (x v))

columns_decided : (f : Form) (reach : Bounds → Bounds) (x : ℕ → Fraction) → Decides (column_tests f reach x) (Each f.columns (IsInReach f reach x))
columns_decided f reach x = decides_each f.columns (λ j. bound_at f reach x j ∷ []) (IsInReach f reach x) (λ j l. bound_decided f reach x j)

-- a script from 0 on that isn't refused has the value of its sum
pub sum_is : (n : ℕ) (u v : ℕ → Fraction) (t : Fraction) → add_dot n u v zero_f ≡ Ok t → t ≡ dot n u v
sum_is n u v t e = add_dot_value n u v zero_f t e ∙ by_ring_f (dot n u v ∷ []) (t0 ⊕ var 0) (var 0) refl

same_for : (t u v : Fraction) → t ≡ u → IsTrue (is_same t v) ↔ (v ≡ u)
same_for t u v e = let i = is_same_iff t v in (λ h. sym (i.0 h) ∙ e, λ h. i.1 (e ∙ sym h))

abbrev IsSum : Form → (ℕ → Fraction) → ℕ → Type 0
IsSum f x i = x (row_variable f i) ≡ dot f.columns (entry f i) x

sum_decided : (f : Form) (x : ℕ → Fraction) (i : ℕ) → Decides (row_test f x i ∷ []) (IsSum f x i)
sum_decided f x i =
    let v = row_variable f i in
    decides_script conditions.Row (Some v) (add_dot f.columns (entry f i) x zero_f) (λ t. is_same t (x v)) (IsSum f x i)
    (λ t e. same_for t (dot f.columns (entry f i) x) (x v) (sum_is f.columns (entry f i) x t e))

abbrev RowIsGood : Form → (Bounds → Bounds) → (ℕ → Fraction) → ℕ → Type 0
RowIsGood f reach x i = IsSum f x i × IsInReach f reach x (row_variable f i)

rows_decided : (f : Form) (reach : Bounds → Bounds) (x : ℕ → Fraction) → Decides (row_tests f reach x) (Each f.rows (RowIsGood f reach x))
rows_decided f reach x = decides_each f.rows (row_pair f reach x) (RowIsGood f reach x)
    (λ i l. let v = row_variable f i in
    decides_both (row_test f x i ∷ []) (bound_at f reach x v ∷ []) (IsSum f x i) (IsInReach f reach x v) (sum_decided f x i) (bound_decided f reach x v))

-- a point whose values are within what `reach` makes of their bounds
pub record IsReached (f : Form) (reach : Bounds → Bounds) (x : ℕ → Fraction) : Type 0 where
  pub point : IsPoint f x
  pub within : (v : ℕ) → v < variables f → IsWithin (reach (limits f v)) (x v)

pub points_decided : (f : Form) (reach : Bounds → Bounds) (x : ℕ → Fraction) → Decides (point_tests f reach x) (IsReached f reach x)
points_decided f reach x =
    let both = decides_both (column_tests f reach x) (row_tests f reach x) _ _ (columns_decided f reach x) (rows_decided f reach x) in
    decides_by (point_tests f reach x) (Each f.columns (IsInReach f reach x) × Each f.rows (RowIsGood f reach x)) (IsReached f reach x) both
    (λ h. record { point = rows_point f x (λ i l. (h.1 i l).0); within = by_variable f (IsInReach f reach x) h.0 (λ i l. (h.1 i l).1) })
    (λ h. (λ j l. h.within j (omega arith), λ i l. (point_rows f x h.point i l, h.within (row_variable f i) (omega arith))))

-- ---- reduced costs
abbrev pub IsReduced : Form → (ℕ → Fraction) → ℕ → Type 0
IsReduced f d j = d j ≡ cost f j -ᶠ dot f.rows (λ i. d (row_variable f i)) (λ i. entry f i j)

reduced_is : (f : Form) (d : ℕ → Fraction) (j : ℕ) (t : Fraction) → reduced_script f d j ≡ Ok t →
    t ≡ cost f j -ᶠ dot f.rows (λ i. d (row_variable f i)) (λ i. entry f i j)
reduced_is f d j t e = sub_dot_value f.rows (λ i. d (row_variable f i)) (λ i. entry f i j) (cost f j) t e

pub reduced_decided : (f : Form) (d : ℕ → Fraction) → Decides (reduced_tests f d) (Each f.columns (IsReduced f d))
reduced_decided f d = decides_each f.columns (λ j. reduced_test f d j ∷ []) (IsReduced f d)
    (λ j l. decides_script conditions.Reduced (Some j) (reduced_script f d j) (λ t. is_same t (d j)) (IsReduced f d j)
    (λ t e. same_for t (cost f j -ᶠ dot f.rows (λ i. d (row_variable f i)) (λ i. entry f i j)) (d j) (reduced_is f d j t e)))

-- ---- signs
at_iff : (b : Option Fraction) (x : Fraction) → IsTrue (is_at b x) ↔ (b ≡ Some x)
at_iff None x = (λ e. absurd (true≢false (sym e)), λ h. absurd cc)
at_iff (Some b) x = let i = is_same_iff b x in (λ e. ap Some (i.0 e), λ h. let g : b ≡ x = cc in i.1 g)

sign_by : (up down : Bool) (l : Bounds) (x d : Fraction) → IsTrue up ↔ (zero_f <ᶠ d) → IsTrue down ↔ (d <ᶠ zero_f) →
    IsTrue (if up then is_at l.low x else if down then is_at l.high x else true) ↔ IsComplementary l x d
sign_by true down l x d h k = (
  λ e. record { positive = λ p. (at_iff l.low x).0 e; negative = λ n. absurd (lt_asymm_f zero_f d (h.0 refl) n) },
  λ q. (at_iff l.low x).1 (q.positive (h.0 refl)),
)
sign_by false true l x d h k = (
  λ e. record { positive = λ p. absurd (true≢false (sym (h.1 p))); negative = λ n. (at_iff l.high x).0 e },
  λ q. (at_iff l.high x).1 (q.negative (k.0 refl)),
)
sign_by false false l x d h k = (
  λ e. record { positive = λ p. absurd (true≢false (sym (h.1 p))); negative = λ n. absurd (true≢false (sym (k.1 n))) },
  λ q. refl,
)

complementary_iff : (l : Bounds) (x d : Fraction) → IsTrue (is_complementary l x d) ↔ IsComplementary l x d
complementary_iff l x d = sign_by (is_below zero_f d) (is_below d zero_f) l x d (is_below_iff zero_f d) (is_below_iff d zero_f)

abbrev IsSigned : Form → (ℕ → Fraction) → (ℕ → Fraction) → ℕ → Type 0
IsSigned f x d v = IsComplementary (limits f v) (x v) (d v)

pub signs_decided : (f : Form) (x d : ℕ → Fraction) → Decides (sign_tests f x d) (Each (variables f) (λ v. IsComplementary (limits f v) (x v) (d v)))
signs_decided f x d = decides_each (variables f) (λ v. sign_at f x d v ∷ []) (IsSigned f x d)
    (λ v l. decides_bool conditions.Sign (Some v) (is_complementary (limits f v) (x v) (d v)) (IsSigned f x d v) (complementary_iff (limits f v) (x v) (d v)))
