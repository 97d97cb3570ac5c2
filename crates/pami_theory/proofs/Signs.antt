-- The signs of reduced costs at the starting basis, and the tests by which columns are placed.
use Rattle.std.proofs.Common.{◌≡◌, ◌↔◌, ℕ, ◌<◌, ◌⊎◌, inl, inr, refl, sym, ap, ◌∙◌, subst, arith, Bool, true, false, IsTrue, if◌then◌else◌, nat_eq, int_lt, Option, None, Some, ℤ, ◌<ℤ◌, ⊎_elim, eqb-true, eq-eqb}
use Rattle.std.proofs.lemmas.Bool.{cond-false}
use Rattle.std.proofs.lemmas.Option.{none-some, same_Some}
use Rattle.std.proofs.lemmas.Int.{ints}
use lib.IntN.{pos}
use Rattle.pami_algebra.specs.Fraction.{Fraction}
use Rattle.pami_algebra.specs.Lowest.{same_fraction}
use Rattle.pami_algebra.specs.Operations.{◌-ᶠ◌, ◌≤ᶠ◌, ◌<ᶠ◌, of_int}
use Rattle.pami_algebra.proofs.Field.{sub_zero_f, sub_self_f, zero_or_not}
use Rattle.pami_algebra.proofs.Strict.{le_by_not_f, lt_le_f}
use Rattle.pami_algebra.proofs.Products.{below_num}
use Rattle.pami_frac.specs.Signs.{is_negative}
use Rattle.pami_frac.proofs.Signs.{negative_means}
use Rattle.pami_frac.specs.declared.list.Bounds.{Bounds}
use Rattle.pami_theory.specs.Form.{Form, limits, cost, variables, row_variable, cost_of, zero_f}
use Rattle.pami_theory.specs.declared.words.Stand.TheVariants.{Lower, Upper}
use Rattle.pami_theory.specs.Basis.{stand_at}
use Rattle.pami_theory.specs.Fresh.{IsFixed, IsSignedFor, IsDualFeasible}
use Rattle.pami_theory.specs.Start.{is_same, boxed_stand, stand_by, starting_stand, starting_basis}
use Rattle.pami_theory.proofs.Forms.{by_variable, cost_of_column}
use Rattle.pami_theory.proofs.Starts.{start_row, start_stand, start_column, start_costs, start_costs_only}

-- ---- dual feasible, exactly
abbrev pub ColumnsSigned : Form → Type 0
ColumnsSigned f = (j : ℕ) → j < f.columns → ¬ IsFixed (limits f j) → IsSignedFor (starting_stand f j) (cost f j)

pub dual_feasible_columns : (f : Form) → IsDualFeasible f (starting_basis f) → ColumnsSigned f
dual_feasible_columns f h j l n =
    let k : j < variables f = omega arith in
    subst (λ s. IsSignedFor s (cost f j)) (start_stand f j k)
    (subst (IsSignedFor (stand_at (starting_basis f) j)) (start_costs_only f h.y h.d h.costs j k ∙ cost_of_column f j l) (h.signed j k n))

abbrev pub SignedUnlessFixed : Form → ℕ → Type 0
SignedUnlessFixed f v = ¬ IsFixed (limits f v) → IsSignedFor (starting_stand f v) (cost_of f v)

-- at each variable
signed_start : (f : Form) → ColumnsSigned f → (v : ℕ) → v < variables f → SignedUnlessFixed f v
signed_start f h = by_variable f (SignedUnlessFixed f)
    (λ j l n. subst (IsSignedFor (starting_stand f j)) (sym (cost_of_column f j l)) (h j l n))
    (λ i l n. subst (λ s. IsSignedFor s (cost_of f (row_variable f i))) (sym (start_row f i)) tt)

pub start_signed : (f : Form) → ColumnsSigned f → (v : ℕ) → v < variables f → ¬ IsFixed (limits f v) → IsSignedFor (stand_at (starting_basis f) v) (cost_of f v)
start_signed f h v l n = subst (λ s. IsSignedFor s (cost_of f v)) (sym (start_stand f v l)) (signed_start f h v l n)

pub columns_dual_feasible : (f : Form) → ColumnsSigned f → IsDualFeasible f (starting_basis f)
columns_dual_feasible f h = record { y = λ i. zero_f; d = cost_of f; costs = start_costs f; signed = start_signed f h }

pub dual_feasible_start : (f : Form) → IsDualFeasible f (starting_basis f) ↔ ColumnsSigned f
dual_feasible_start f = (dual_feasible_columns f, columns_dual_feasible f)

-- ---- the tests
lt_test : (m n : ℤ) → (int_lt m n ≡ true → m <ℤ n) × (m <ℤ n → int_lt m n ≡ true)
lt_test m n = (λ e. grind (arith, ints), λ l. grind (arith, ints))

pub is_negative_iff : (q : Fraction) → IsTrue (is_negative q) ↔ (q <ᶠ zero_f)
is_negative_iff q = negative_means q

pub not_negative : (q : Fraction) → is_negative q ≡ false → zero_f ≤ᶠ q
not_negative q e = le_by_not_f zero_f q (λ l. let k : is_negative q ≡ true = (is_negative_iff q).1 l in cc)

-- ---- fixed or not
abbrev pub FixedOrNot : Bounds → Type 0
FixedOrNot l = IsFixed l ⊎ (¬ IsFixed l)

fixed_cases : (low high : Option Fraction) → FixedOrNot (record { low = low; high = high })
fixed_cases None high = inr (λ h. none-some h.0 h.1)
fixed_cases (Some l) None = inr (λ h. none-some h.0 h.2)
fixed_cases (Some l) (Some h) = ⊎_elim
    (λ (e : l -ᶠ h ≡ of_int (pos 0)). inl (l, refl, ap Some (sym (sub_zero_f l h e))))
    (λ (n : ¬ (l -ᶠ h ≡ of_int (pos 0))). inr (λ k. n (ap (λ z. z -ᶠ h) (same_Some l k.0 k.1 ∙ sym (same_Some h k.0 k.2)) ∙ sub_self_f h)))
    (zero_or_not (l -ᶠ h))

pub fixed_or_not : (l : Bounds) → FixedOrNot l
fixed_or_not l = fixed_cases l.low l.high

-- ---- the same number
lt_itself : (n : ℤ) → int_lt n n ≡ false
lt_itself n = grind (arith, ints)

same_test : (p q : Fraction) (a b c : Bool) → (a ≡ false → b ≡ false → p.num ≡ q.num) → (c ≡ true → p.den ≡ q.den) → (if a then false else if b then false else c) ≡ true → (p.num ≡ q.num) × (p.den ≡ q.den)
same_test p q true b c h k e = absurd (cc)
same_test p q false true c h k e = absurd (cc)
same_test p q false false c h k e = (h refl refl, k e)

between : (m n : ℤ) → int_lt m n ≡ false → int_lt n m ≡ false → m ≡ n
between m n h k = grind (arith, ints)

pub is_same_iff : (p q : Fraction) → IsTrue (is_same p q) ↔ (p ≡ q)
is_same_iff p q = (
  λ e. let h : (p.num ≡ q.num) × (p.den ≡ q.den) = same_test p q (int_lt p.num q.num) (int_lt q.num p.num) (nat_eq p.den q.den) (between p.num q.num) (eqb-true p.den q.den) e in same_fraction p q h.0 h.1,
  λ e. subst (λ z. is_same p z ≡ true) e (itself_same p),
)
  where
    itself_same : (r : Fraction) → is_same r r ≡ true
    itself_same r = cond-false (int_lt r.num r.num) false _ (lt_itself r.num) ∙ cond-false (int_lt r.num r.num) false _ (lt_itself r.num) ∙ eq-eqb r.den r.den refl

-- ---- a column with both bounds
boxed_signed : (fixed : Bool) (cost : Fraction) → ¬ (fixed ≡ true) → IsSignedFor (boxed_stand fixed cost) cost
boxed_signed true cost n = absurd (n refl)
boxed_signed false cost n = go (is_negative cost) refl
  where
    go : (b : Bool) → is_negative cost ≡ b → IsSignedFor (if b then Upper else Lower) cost
    go true e = lt_le_f cost zero_f ((is_negative_iff cost).0 e)
    go false e = not_negative cost e

-- stands where the sign of its cost asks for, unless it is fixed
pub both_bounds_signed : (f : Form) (j : ℕ) (low high : Fraction) → j < f.columns → (limits f j).low ≡ Some low → (limits f j).high ≡ Some high → ¬ IsFixed (limits f j) → IsSignedFor (starting_stand f j) (cost f j)
both_bounds_signed f j low high l e k n =
    subst (λ s. IsSignedFor s (cost f j)) (sym (start_column f j l ∙ ap (λ o. stand_by o (limits f j).high (cost f j)) e ∙ ap (λ o. stand_by (Some low) o (cost f j)) k))
    (boxed_signed (is_same low high) (cost f j) (λ t. n (low, e, k ∙ ap Some (sym ((is_same_iff low high).0 t)))))
