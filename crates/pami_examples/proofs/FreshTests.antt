-- Fresh data and dual feasible starts by tests that compute.
use Rattle.std.proofs.Common.{◌≡◌, ℕ, zero, suc, ◌<◌, ◌≤◌, nat_eq, Bool, true, false, cond, List, [], ◌∷◌, length, Option, None, Some, refl, sym, ap, subst, arith, true≢false, ⊎_elim}
use Rattle.std.proofs.lemmas.Bool.{cases_lt, eqb-true}
use Rattle.pami_algebra.specs.Fraction.{Fraction}
use Rattle.pami_algebra.specs.Operations.{◌*ᶠ◌, ◌-ᶠ◌, ◌≤ᶠ◌, is_at_most}
use Rattle.pami_algebra.proofs.Tests.{is_at_most_iff}
use Rattle.pami_linear.specs.Lists.{get}
use Rattle.pami_linear.specs.Sums.{sum_to, dot, unit}
use Rattle.pami_frac.specs.declared.list.Bounds.{Bounds}
use Rattle.pami_theory.specs.Form.{Form, limits, variables, row_variable, coefficient, cost, cost_of, zero_f}
use Rattle.pami_theory.specs.declared.words.Stand.{Stand}
use Rattle.pami_theory.specs.declared.words.Stand.TheVariants.{Basic, Lower, Upper, Zero}
use Rattle.pami_theory.specs.Basis.{Basis, head_at, stand_at, StandsAt, basis_column}
use Rattle.pami_theory.specs.Fresh.{Fresh, IsFresh, IsSignedFor, IsDualFeasible, row_at, column_at}
use Rattle.pami_theory.specs.Start.{is_same, starting_stand, starting_basis}
use Rattle.pami_theory.proofs.Signs.{is_same_iff, dual_feasible_start}

-- ---- a test for each number below n
abbrev pub all_below : ℕ → (ℕ → Bool) → Bool
all_below zero p = true
all_below (suc n) p = cond (p n) (all_below n p) false

both : (a b : Bool) → cond a b false ≡ true → (a ≡ true) × (b ≡ true)
both true b e = (refl, e)
both false b e = absurd (true≢false (sym e))

pub passes : (n : ℕ) (p : ℕ → Bool) (i : ℕ) → all_below n p ≡ true → i < n → p i ≡ true
passes zero p i e l = absurd (omega arith)
passes (suc n) p i e l =
    let h = both (p n) (all_below n p) e in
    ⊎_elim (λ (k : i < n). passes n p i h.1 k) (λ (k : n ≤ i). let m : n ≡ i = omega arith in subst (λ j. p j ≡ true) m h.0) (cases_lt i n)

same_by : (p q : Fraction) → is_same p q ≡ true → p ≡ q
same_by p q e = (is_same_iff p q).0 e

-- ---- where a variable stands
abbrev pub is_bound : Option Fraction → Fraction → Bool
is_bound None x = false
is_bound (Some b) x = is_same b x

abbrev pub is_none : Option Fraction → Bool
is_none None = true
is_none (Some b) = false

abbrev pub stands_test : Bounds → Stand → Fraction → Bool
stands_test l Basic x = true
stands_test l Lower x = is_bound l.low x
stands_test l Upper x = is_bound l.high x
stands_test l Zero x = cond (is_none l.low) (cond (is_none l.high) (is_same x zero_f) false) false

bound_by : (o : Option Fraction) (x : Fraction) → is_bound o x ≡ true → o ≡ Some x
bound_by None x e = absurd (true≢false (sym e))
bound_by (Some b) x e = ap Some (same_by b x e)

none_by : (o : Option Fraction) → is_none o ≡ true → o ≡ None
none_by None e = refl
none_by (Some b) e = absurd (true≢false (sym e))

stands_by : (l : Bounds) (s : Stand) (x : Fraction) → stands_test l s x ≡ true → StandsAt l s x
stands_by l Basic x e = tt
stands_by l Lower x e = bound_by l.low x e
stands_by l Upper x e = bound_by l.high x e
stands_by l Zero x e =
    let h = both (is_none l.low) (cond (is_none l.high) (is_same x zero_f) false) e in
    let k = both (is_none l.high) (is_same x zero_f) h.1 in
    (none_by l.low h.0, none_by l.high k.0, same_by x zero_f k.1)

-- ---- fresh data
abbrev pub multipliers : Form → Fresh → ℕ → Fraction
multipliers f s i = get s.reduced (row_variable f i)

-- each passes
abbrev pub every : List Bool → Bool
every [] = true
every (b ∷ bs) = cond b (every bs) false

-- the equations of fresh data
abbrev pub value_tests : Form → Basis → Fresh → List Bool
value_tests f b s =
    nat_eq (length s.values) (variables f)
    ∷ all_below f.rows (λ i. is_same (dot (variables f) (λ v. coefficient f v i) (get s.values)) zero_f)
    ∷ all_below (variables f) (λ v. stands_test (limits f v) (stand_at b v) (get s.values v))
    ∷ []

abbrev pub cost_tests : Form → Basis → Fresh → List Bool
cost_tests f b s =
    nat_eq (length s.reduced) (variables f)
    ∷ all_below f.rows (λ p. is_same (dot f.rows (multipliers f s) (coefficient f (head_at b p))) (cost_of f (head_at b p)))
    ∷ all_below (variables f) (λ v. is_same (get s.reduced v) (cost_of f v -ᶠ dot f.rows (multipliers f s) (coefficient f v)))
    ∷ []

abbrev pub row_tests : Form → Basis → Fresh → List Bool
row_tests f b s =
    nat_eq (length s.rows) f.rows
    ∷ all_below f.rows (λ p. nat_eq (length (row_at s p)) f.rows)
    ∷ all_below f.rows (λ p. all_below f.rows (λ k. is_same (dot f.rows (get (row_at s p)) (basis_column f b k)) (unit p k)))
    ∷ []

abbrev pub column_tests : Form → Basis → Fresh → List Bool
column_tests f b s =
    nat_eq (length s.columns) (variables f)
    ∷ all_below (variables f) (λ v. nat_eq (length (column_at s v)) f.rows)
    ∷ all_below (variables f) (λ v. all_below f.rows (λ i. is_same (sum_to f.rows (λ k. basis_column f b k i *ᶠ get (column_at s v) k)) (coefficient f v i)))
    ∷ []

three : (a b c : Bool) → every (a ∷ b ∷ c ∷ []) ≡ true → (a ≡ true) × (b ≡ true) × (c ≡ true)
three a b c e = let h = both a (every (b ∷ c ∷ [])) e in let k = both b (every (c ∷ [])) h.1 in (h.0, k.0, (both c true k.1).0)

pub fresh_by_tests : (f : Form) (b : Basis) (s : Fresh) → every (value_tests f b s) ≡ true → every (cost_tests f b s) ≡ true → every (row_tests f b s) ≡ true → every (column_tests f b s) ≡ true → IsFresh f b s
fresh_by_tests f b s x d r c =
    let values = three _ _ _ x in let costs = three _ _ _ d in let rows = three _ _ _ r in let columns = three _ _ _ c in record {
      values_by_variable = eqb-true _ _ values.0;
      values = record {
        point = record { at = λ i l. same_by _ _ (passes f.rows _ i values.1 l) };
        nonbasic = λ v l. stands_by (limits f v) (stand_at b v) (get s.values v) (passes (variables f) _ v values.2 l);
      };
      reduced_by_variable = eqb-true _ _ costs.0;
      reduced = record {
        basic = λ p l. same_by _ _ (passes f.rows _ p costs.1 l);
        reduced = λ v l. same_by _ _ (passes (variables f) _ v costs.2 l);
      };
      rows_by_place = eqb-true _ _ rows.0;
      row_by_row = λ p l. eqb-true _ _ (passes f.rows _ p rows.1 l);
      row = λ p l. record { at = λ k m. same_by _ _ (passes f.rows _ k (passes f.rows _ p rows.2 l) m) };
      columns_by_variable = eqb-true _ _ columns.0;
      column_by_place = λ v l. eqb-true _ _ (passes (variables f) _ v columns.1 l);
      column = λ v l. record { at = λ i m. same_by _ _ (passes f.rows _ i (passes (variables f) _ v columns.2 l) m) };
    }

-- ---- a start where no column's cost is below 0 and each stands at its lower bound
abbrev pub is_lower : Stand → Bool
is_lower Basic = false
is_lower Lower = true
is_lower Upper = false
is_lower Zero = false

signed_lower : (s : Stand) (d : Fraction) → is_lower s ≡ true → zero_f ≤ᶠ d → IsSignedFor s d
signed_lower Basic d e h = tt
signed_lower Lower d e h = h
signed_lower Upper d e h = absurd (true≢false (sym e))
signed_lower Zero d e h = absurd (true≢false (sym e))

pub dual_feasible_by_tests : (f : Form) → all_below f.columns (λ j. is_lower (starting_stand f j)) ≡ true → all_below f.columns (λ j. is_at_most zero_f (cost f j)) ≡ true → IsDualFeasible f (starting_basis f)
dual_feasible_by_tests f h k =
    (dual_feasible_start f).1 (λ j l n. signed_lower (starting_stand f j) (cost f j) (passes f.columns _ j h l) ((is_at_most_iff zero_f (cost f j)).0 (passes f.columns _ j k l)))

-- ---- a basis whose reduced costs have their signs, fixed variables too
abbrev pub sign_test : Stand → Fraction → Bool
sign_test Basic d = true
sign_test Lower d = is_at_most zero_f d
sign_test Upper d = is_at_most d zero_f
sign_test Zero d = is_same d zero_f

pub signed_by : (s : Stand) (d : Fraction) → sign_test s d ≡ true → IsSignedFor s d
signed_by Basic d e = tt
signed_by Lower d e = (is_at_most_iff zero_f d).0 e
signed_by Upper d e = (is_at_most_iff d zero_f).0 e
signed_by Zero d e = same_by d zero_f e

pub signed_by_tests : (f : Form) (b : Basis) (s : Fresh) → IsFresh f b s → all_below (variables f) (λ v. sign_test (stand_at b v) (get s.reduced v)) ≡ true → IsDualFeasible f b
signed_by_tests f b s h e = record {
  y = multipliers f s;
  d = get s.reduced;
  costs = h.reduced;
  signed = λ v l n. signed_by (stand_at b v) (get s.reduced v) (passes (variables f) _ v e l);
}
