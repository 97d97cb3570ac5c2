-- The rows and columns behind a step.
use Rattle.std.proofs.Common.{◌≡◌, ℕ, ◌<◌, refl, sym}
use Rattle.pami_algebra.specs.Fraction.{Fraction}
use Rattle.pami_algebra.specs.Operations.{◌+ᶠ◌, ◌*ᶠ◌, ◌-ᶠ◌, ◌/ᶠ◌, neg_f}
use Rattle.pami_linear.specs.Lists.{get}
use Rattle.pami_linear.specs.Sums.{unit}
use Rattle.pami_linear.specs.Systems.{IsRow, replaced, stepped}
use Rattle.pami_linear.proofs.Systems.{combines_same, solves_same}
use Rattle.pami_linear.proofs.Pivoted.{row_after_pivot, pivot_row_after_pivot}
use Rattle.pami_linear.proofs.Regular.{one_combination, one_solution, solves_to_quotient}
use Rattle.pami_theory.specs.Form.{Form, variables, coefficient}
use Rattle.pami_theory.specs.Basis.{Basis, IsBasis, basis_column}
use Rattle.pami_theory.specs.Fresh.{Fresh, row_at, column_at, IsFresh}
use Rattle.pami_theory.specs.declared.words.Violation.{Violation}
use Rattle.pami_theory.specs.Ratio.{row_entry}
use Rattle.pami_theory.specs.Step.{Step, TakesStep, basis_after}
use Rattle.pami_theory.proofs.Solved.{fresh_regular}
use Rattle.pami_theory.proofs.Steps.{columns_after, step_exchanges, step_pivot_entry, step_pivot}

-- a row of the replaced columns is one of the basis behind the step
row_there : (f : Form) (b : Basis) (t : Step) (k : ℕ) (rho : ℕ → Fraction) → IsBasis f b → t.place < f.rows → IsRow f.rows (replaced (basis_column f b) t.place (coefficient f t.entering)) k rho → IsRow f.rows (basis_column f (basis_after b t)) k rho
row_there f b t k rho is l h =
    combines_same f.rows (replaced (basis_column f b) t.place (coefficient f t.entering)) (basis_column f (basis_after b t)) rho rho (unit k) (unit k)
    (λ j i m n. sym (columns_after f b t j i is l)) (λ i m. refl) (λ j m. refl) h

pub row_behind : (f : Form) (b : Basis) (s : Fresh) (p : ℕ) (v : Violation) (t : Step) (r : Fresh) (k i : ℕ) → TakesStep f b s p v t → IsFresh f (basis_after b t) r → k < f.rows → i < f.rows → ¬ (k ≡ t.place) →
    get (row_at r k) i ≡ get (row_at s k) i -ᶠ (row_entry f (row_at s k) t.entering /ᶠ row_entry f (row_at s t.place) t.entering) *ᶠ get (row_at s t.place) i
row_behind f b s p v t r k i h fresh l m n =
    let x = step_exchanges f b s p v t h in
    one_combination f.rows (basis_column f (basis_after b t)) (get (row_at r k))
    (λ j. get (row_at s k) j +ᶠ neg_f ((row_entry f (row_at s k) t.entering /ᶠ row_entry f (row_at s t.place) t.entering) *ᶠ get (row_at s t.place) j))
    (unit k) (fresh_regular f (basis_after b t) r fresh) (fresh.row k l)
    (row_there f b t k _ h.basis x.place
    (row_after_pivot f.rows t.place k (basis_column f b) (coefficient f t.entering) (get (row_at s t.place)) (get (row_at s k)) (λ e. n (sym e)) (h.fresh.row t.place x.place) (h.fresh.row k l) (step_pivot_entry f b s p v t h)))
    i m

pub pivot_row_behind : (f : Form) (b : Basis) (s : Fresh) (p : ℕ) (v : Violation) (t : Step) (r : Fresh) (i : ℕ) → TakesStep f b s p v t → IsFresh f (basis_after b t) r → i < f.rows →
    get (row_at r t.place) i ≡ get (row_at s t.place) i /ᶠ row_entry f (row_at s t.place) t.entering
pivot_row_behind f b s p v t r i h fresh m =
    let x = step_exchanges f b s p v t h in
    one_combination f.rows (basis_column f (basis_after b t)) (get (row_at r t.place)) (λ j. get (row_at s t.place) j /ᶠ row_entry f (row_at s t.place) t.entering)
    (unit t.place) (fresh_regular f (basis_after b t) r fresh) (fresh.row t.place x.place)
    (row_there f b t t.place _ h.basis x.place
    (pivot_row_after_pivot f.rows t.place (basis_column f b) (coefficient f t.entering) (get (row_at s t.place)) (h.fresh.row t.place x.place) (step_pivot_entry f b s p v t h)))
    i m

pub column_behind : (f : Form) (b : Basis) (s : Fresh) (p : ℕ) (v : Violation) (t : Step) (r : Fresh) (u k : ℕ) → TakesStep f b s p v t → IsFresh f (basis_after b t) r → u < variables f → k < f.rows →
    get (column_at r u) k ≡ stepped t.place (get (column_at s t.entering)) (get (column_at s u) t.place /ᶠ get (column_at s t.entering) t.place) (get (column_at s u)) k
column_behind f b s p v t r u k h fresh l m =
    let x = step_exchanges f b s p v t h in
    let alpha : ℕ → Fraction = get (column_at s t.entering) in
    let c : ℕ → Fraction = get (column_at s u) in
    let after : ℕ → Fraction = stepped t.place alpha (c t.place /ᶠ alpha t.place) c in
    one_solution f.rows (basis_column f (basis_after b t)) (get (column_at r u)) after (coefficient f u) (fresh_regular f (basis_after b t) r fresh) (fresh.column u l)
    (solves_same f.rows (replaced (basis_column f b) t.place (coefficient f t.entering)) (basis_column f (basis_after b t)) after after (coefficient f u) (coefficient f u)
    (λ j i a d. sym (columns_after f b t j i h.basis x.place)) (λ j a. refl) (λ i a. refl)
    (solves_to_quotient f.rows t.place (basis_column f b) (coefficient f t.entering) alpha c (coefficient f u) x.place (h.fresh.column t.entering x.within) (h.fresh.column u l) (step_pivot f b s p v t h)))
    k m
