-- The starting basis of a form whose columns are all bounded by 0 from below alone.
use Rattle.std.proofs.Common.{◌≡◌, ◌↔◌, ℕ, ◌<◌, refl, sym, ap, ◌∙◌, subst, arith, Some}
use Rattle.std.proofs.lemmas.Option.{none-some}
use Rattle.pami_algebra.specs.Fraction.{Fraction}
use Rattle.pami_algebra.specs.Operations.{◌+ᶠ◌, ◌≤ᶠ◌}
use Rattle.pami_algebra.proofs.Laws.{add_nil_f}
use Rattle.pami_linear.specs.Sums.{dot}
use Rattle.pami_linear.proofs.Sums.{dot_comm}
use Rattle.pami_theory.specs.Form.{Form, limits, entry, cost, variables, row_variable, cost_of, zero_f, IsWithin, IsUncrossed}
use Rattle.pami_theory.specs.declared.words.Stand.TheVariants.{Lower}
use Rattle.pami_theory.specs.Basis.{Basis, head_at, StandsAt}
use Rattle.pami_theory.specs.Fresh.{AreValues, IsFixed, IsSignedFor, IsDualFeasible, IsOutside, IsInfeasible}
use Rattle.pami_theory.specs.Start.{stand_by, starting_stand, starting_basis, IsStandard}
use Rattle.pami_theory.specs.Certificate.{HoldsOptimal, objective_of}
use Rattle.pami_linear.proofs.Units.{dot_none}
use Rattle.pami_theory.proofs.Forms.{by_variable, rows_point}
use Rattle.pami_theory.proofs.Starts.{start_row, start_head, start_column, start_values_only, stands_at_start}
use Rattle.pami_theory.proofs.Certificates.{within_not_outside, certificate_at_start}
use Rattle.pami_theory.proofs.Signs.{dual_feasible_columns, columns_dual_feasible}

pub standard_stand : (f : Form) → IsStandard f → (j : ℕ) → j < f.columns → starting_stand f j ≡ Lower
standard_stand f s j l = start_column f j l ∙ ap (λ o. stand_by o (limits f j).high (cost f j)) (s.low j l) ∙ ap (λ o. stand_by (Some zero_f) o (cost f j)) (s.high j l)

pub standard_not_fixed : (f : Form) → IsStandard f → (j : ℕ) → j < f.columns → ¬ IsFixed (limits f j)
standard_not_fixed f s j l x = none-some x.0 (sym (s.high j l) ∙ x.2)

pub standard_uncrossed : (f : Form) → IsStandard f → (j : ℕ) → j < f.columns → IsUncrossed (limits f j)
standard_uncrossed f s j l = record { ordered = λ low high e k. absurd (none-some high (sym (s.high j l) ∙ k)) }

dot_zeros : (n : ℕ) (u : ℕ → Fraction) → dot n u (λ v. zero_f) ≡ zero_f
dot_zeros n u = dot_comm n u (λ v. zero_f) ∙ dot_none n (λ v. zero_f) u (λ i l. refl)

-- ---- values
pub standard_values : (f : Form) → IsStandard f → AreValues f (starting_basis f) (λ v. zero_f)
standard_values f s = record {
  point = rows_point f (λ v. zero_f) (λ i l. sym (dot_zeros f.columns (entry f i)));
  nonbasic = stands_at_start f (λ v. zero_f) (by_variable f (λ v. StandsAt (limits f v) (starting_stand f v) zero_f)
      (λ j l. subst (λ t. StandsAt (limits f j) t zero_f) (sym (standard_stand f s j l)) (s.low j l))
      (λ i l. subst (λ t. StandsAt (limits f (row_variable f i)) t zero_f) (sym (start_row f i)) tt));
}

pub standard_values_only : (f : Form) (x : ℕ → Fraction) → IsStandard f → AreValues f (starting_basis f) x → (v : ℕ) → v < variables f → x v ≡ zero_f
standard_values_only f x s h v l = start_values_only f x (λ v. zero_f) h (standard_values f s) v l

-- ---- dual feasible
abbrev pub CostsNonnegative : Form → Type 0
CostsNonnegative f = (j : ℕ) → j < f.columns → zero_f ≤ᶠ cost f j

pub standard_dual_feasible : (f : Form) → IsStandard f → IsDualFeasible f (starting_basis f) ↔ CostsNonnegative f
standard_dual_feasible f s = (
  λ h j l. subst (λ t. IsSignedFor t (cost f j)) (standard_stand f s j l) (dual_feasible_columns f h j l (standard_not_fixed f s j l)),
  λ h. columns_dual_feasible f (λ j l n. subst (λ t. IsSignedFor t (cost f j)) (sym (standard_stand f s j l)) (h j l)),
)

-- ---- infeasible
pub standard_infeasible : (f : Form) (x : ℕ → Fraction) → IsStandard f → AreValues f (starting_basis f) x → (p : ℕ) → p < f.rows → IsInfeasible f (starting_basis f) x p ↔ IsOutside (limits f (row_variable f p)) zero_f
standard_infeasible f x s h p l =
    let b : Basis = starting_basis f in
    let k : row_variable f p ≡ head_at b p = sym (start_head f p l) in
    let e : x (row_variable f p) ≡ zero_f = standard_values_only f x s h (row_variable f p) (omega arith) in (
      λ o. subst (IsOutside (limits f (row_variable f p))) e (subst (λ v. IsOutside (limits f v) (x v)) (sym k) o),
      λ o. subst (λ v. IsOutside (limits f v) (x v)) k (subst (IsOutside (limits f (row_variable f p))) (sym e) o),
    )

-- ---- the certificate
-- where no cost is below 0 and the bounds of each row let 0 in, zeros are optimal
pub standard_optimal : (f : Form) → IsStandard f → CostsNonnegative f → ((i : ℕ) → i < f.rows → IsWithin (limits f (row_variable f i)) zero_f) → HoldsOptimal f (λ v. zero_f) (cost_of f)
standard_optimal f s h w = certificate_at_start f (λ v. zero_f) (standard_values f s) ((standard_dual_feasible f s).1 h)
    (λ k. within_not_outside (limits f (row_variable f k.0)) zero_f (w k.0 k.1) ((standard_infeasible f (λ v. zero_f) s (standard_values f s) k.0 k.1).0 k.2))
    (standard_uncrossed f s)

-- ---- the objective
pub objective_of_zeros : (constant : Fraction) (n : ℕ) (cost : ℕ → Fraction) → objective_of constant n cost (λ v. zero_f) ≡ constant
objective_of_zeros constant n cost = ap (λ z. constant +ᶠ z) (dot_zeros n cost) ∙ add_nil_f constant
