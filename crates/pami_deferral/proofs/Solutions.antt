-- What solves a system at one basis of a batch, and what solves it at the next: solutions go through the pivot, and the
-- basic values take up what the nonbasic ones change.
use Rattle.std.proofs.Common.{◌≡◌, ℕ, ◌<◌, ⊎_elim, [], ◌∷◌, refl, sym, ap, ◌∙◌, subst}
use Rattle.std.proofs.lemmas.Bool.{cases_eq}
use Rattle.pami_algebra.specs.Fraction.{Fraction}
use Rattle.pami_algebra.specs.Ring.{var, ◌⊕◌, ◌⊗◌, ⊖}
use Rattle.pami_algebra.specs.Operations.{◌+ᶠ◌, ◌-ᶠ◌, ◌*ᶠ◌, ◌/ᶠ◌, neg_f}
use Rattle.pami_algebra.proofs.Laws.{by_ring_f}
use Rattle.pami_linear.specs.Lists.{get}
use Rattle.pami_linear.specs.Active.{set_at}
use Rattle.pami_linear.specs.Systems.{Solves, replaced, stepped}
use Rattle.pami_linear.proofs.Parts.{set_same, set_other}
use Rattle.pami_linear.proofs.Systems.{solves_same, solves_add}
use Rattle.pami_linear.proofs.Regular.{solution, solves_to_quotient}
use Rattle.pami_theory.specs.Form.{Form, limits, coefficient}
use Rattle.pami_theory.specs.Basis.{Basis, head_at, IsBasis, basis_column}
use Rattle.pami_theory.specs.Fresh.{Fresh, column_at, value_at_place, IsFresh}
use Rattle.pami_theory.specs.Violation.{passed_bound}
use Rattle.pami_theory.specs.declared.words.Violation.{Violation}
use Rattle.pami_theory.specs.Step.{Step, TakesStep, basis_after, flips_change, theta}
use Rattle.pami_theory.proofs.Solved.{fresh_regular}
use Rattle.pami_theory.proofs.Steps.{columns_after, step_exchanges, step_pivot, head_elsewhere}
use Rattle.pami_theory.proofs.NextValues.{step_value_solved, step_value_leaving, place_value_entering}
use Rattle.pami_deferral.proofs.Systems.{solves_equal, solves_sub, solves_exchanged}

-- the columns behind a step are those before it with one replaced
pub solves_there : (f : Form) (b : Basis) (t : Step) (x r : ℕ → Fraction) → IsBasis f b → t.place < f.rows
    → Solves f.rows (replaced (basis_column f b) t.place (coefficient f t.entering)) x r
    → Solves f.rows (basis_column f (basis_after b t)) x r
solves_there f b t x r is l h =
    solves_same f.rows (replaced (basis_column f b) t.place (coefficient f t.entering)) (basis_column f (basis_after b t)) x x r r
    (λ k i a c. sym (columns_after f b t k i is l)) (λ k a. refl) (λ i a. refl) h

-- a solution goes through the pivot
pub solves_behind : (f : Form) (b : Basis) (s : Fresh) (p : ℕ) (v : Violation) (t : Step) (x r : ℕ → Fraction) → TakesStep f b s p v t
    → Solves f.rows (basis_column f b) x r →
    Solves f.rows (basis_column f (basis_after b t))
    (stepped t.place (get (column_at s t.entering)) (x t.place /ᶠ get (column_at s t.entering) t.place) x) r
solves_behind f b s p v t x r h e =
    let c = step_exchanges f b s p v t h in
    solves_there f b t _ r h.basis c.place
    (solves_to_quotient f.rows t.place (basis_column f b) (coefficient f t.entering) (get (column_at s t.entering)) x r c.place
    (h.fresh.column t.entering c.within) e (step_pivot f b s p v t h))

-- ---- the values
-- the right side of the values behind a step: what the nonbasic variables come to, less the flips' change, with the entering
-- variable's column and without the leaving one's
abbrev pub side_behind : Form → Basis → Fresh → Step → (ℕ → Fraction) → ℕ → Fraction
side_behind f b s t r i =
    ((r i -ᶠ flips_change f b t.flips i) +ᶠ get s.values t.entering *ᶠ coefficient f t.entering i)
    -ᶠ passed_bound (limits f t.leaving) t.side *ᶠ coefficient f t.leaving i

-- the values of the variables that were basic, behind the step, solve this by the basis before it
kept_solve : (f : Form) (b : Basis) (s : Fresh) (p : ℕ) (v : Violation) (t : Step) (n : Fresh) (r : ℕ → Fraction) → TakesStep f b s p v t
    → IsFresh f (basis_after b t) n →
    Solves f.rows (basis_column f b) (value_at_place b s) r →
    Solves f.rows (basis_column f b) (λ k. get n.values (head_at b k))
    (λ i. (r i -ᶠ flips_change f b t.flips i) +ᶠ neg_f (theta f b s t) *ᶠ coefficient f t.entering i)
kept_solve f b s p v t n r h fresh e =
    let z = solution f.rows (basis_column f b) (flips_change f b t.flips) (fresh_regular f b s h.fresh) in
    let x : ℕ → Fraction = value_at_place b s in
    let a : ℕ → Fraction = get (column_at s t.entering) in
    let th : Fraction = theta f b s t in
    solves_equal f.rows (basis_column f b) (λ k. (x k -ᶠ z.0 k) +ᶠ neg_f th *ᶠ a k) (λ k. get n.values (head_at b k)) _ _
    (λ k l. by_ring_f (x k ∷ z.0 k ∷ th ∷ a k ∷ []) ((var 0 ⊕ ⊖ (var 1)) ⊕ (⊖ (var 2)) ⊗ var 3)
    ((var 0 ⊕ ⊖ (var 1)) ⊕ ⊖ (var 2 ⊗ var 3)) refl
    ∙ sym (step_value_solved f b s p v t n z.0 k h fresh z.1 l))
    (λ i l. refl)
    (solves_add f.rows (basis_column f b) (λ k. x k -ᶠ z.0 k) a (λ i. r i -ᶠ flips_change f b t.flips i) (coefficient f t.entering)
    (neg_f th)
    (solves_sub f.rows (basis_column f b) x z.0 r (flips_change f b t.flips) e z.1)
    (h.fresh.column t.entering (step_exchanges f b s p v t h).within))

-- by place behind the step
placed_value : (f : Form) (b : Basis) (s : Fresh) (p : ℕ) (v : Violation) (t : Step) (n : Fresh) (k : ℕ) → TakesStep f b s p v t
    → IsFresh f (basis_after b t) n → k < f.rows →
    set_at t.place (get s.values t.entering +ᶠ theta f b s t) (λ j. get n.values (head_at b j)) k ≡ value_at_place (basis_after b t) n k
placed_value f b s p v t n k h fresh l = ⊎_elim
    (λ (e : t.place ≡ k).
    subst (λ j. set_at t.place (get s.values t.entering +ᶠ theta f b s t) (λ j. get n.values (head_at b j)) j
    ≡ value_at_place (basis_after b t) n j) e
    (set_same t.place (get s.values t.entering +ᶠ theta f b s t) (λ j. get n.values (head_at b j))
    ∙ sym (place_value_entering f b s p v t n h fresh)))
    (λ (d : ¬ (t.place ≡ k)). set_other t.place k (get s.values t.entering +ᶠ theta f b s t) (λ j. get n.values (head_at b j)) d
    ∙ ap (get n.values) (sym (head_elsewhere b t k (λ e. d (sym e)))))
    (cases_eq t.place k)

pub values_behind : (f : Form) (b : Basis) (s : Fresh) (p : ℕ) (v : Violation) (t : Step) (n : Fresh) (r : ℕ → Fraction)
    → TakesStep f b s p v t → IsFresh f (basis_after b t) n →
    Solves f.rows (basis_column f b) (value_at_place b s) r
    → Solves f.rows (basis_column f (basis_after b t)) (value_at_place (basis_after b t) n) (side_behind f b s t r)
values_behind f b s p v t n r h fresh e =
    let c = step_exchanges f b s p v t h in
    let x : Fraction = get s.values t.entering in
    let th : Fraction = theta f b s t in
    let bound : Fraction = passed_bound (limits f t.leaving) t.side in
    let at : get n.values (head_at b t.place) ≡ bound = ap (get n.values) (sym c.leaves) ∙ step_value_leaving f b s p v t n h fresh in
    solves_there f b t (value_at_place (basis_after b t) n) (side_behind f b s t r) h.basis c.place
    (solves_same f.rows (replaced (basis_column f b) t.place (coefficient f t.entering))
    (replaced (basis_column f b) t.place (coefficient f t.entering)) _ _ _ _
    (λ k i a d. refl)
    (λ k l. placed_value f b s p v t n k h fresh l)
    (λ i l. ap (λ w. ((r i -ᶠ flips_change f b t.flips i) +ᶠ neg_f th *ᶠ coefficient f t.entering i) +ᶠ
    ((x +ᶠ th) *ᶠ coefficient f t.entering i -ᶠ coefficient f (head_at b t.place) i *ᶠ w)) at
    ∙ ap (λ u. ((r i -ᶠ flips_change f b t.flips i) +ᶠ neg_f th *ᶠ coefficient f t.entering i) +ᶠ
    ((x +ᶠ th) *ᶠ coefficient f t.entering i -ᶠ coefficient f u i *ᶠ bound)) (sym c.leaves)
    ∙ by_ring_f (r i ∷ flips_change f b t.flips i ∷ th ∷ coefficient f t.entering i ∷ x ∷ coefficient f t.leaving i ∷ bound ∷ [])
    (((var 0 ⊕ ⊖ (var 1)) ⊕ (⊖ (var 2)) ⊗ var 3) ⊕ ((var 4 ⊕ var 2) ⊗ var 3 ⊕ ⊖ (var 5 ⊗ var 6)))
    (((var 0 ⊕ ⊖ (var 1)) ⊕ var 4 ⊗ var 3) ⊕ ⊖ (var 6 ⊗ var 5)) refl)
    (solves_exchanged f.rows t.place (basis_column f b) (coefficient f t.entering) (λ k. get n.values (head_at b k))
    (λ i. (r i -ᶠ flips_change f b t.flips i) +ᶠ neg_f th *ᶠ coefficient f t.entering i) (x +ᶠ th) c.place
    (kept_solve f b s p v t n r h fresh e)))
