-- Solves through the pivots of a product form.
use Rattle.std.proofs.Common.{◌≡◌, ℕ, zero, suc, ◌<◌, List, [], ◌∷◌, refl, ap, ◌∙◌, arith, true}
use Rattle.std.specs.Prelude.{All}
use lib.IntN.{pos}
use Rattle.pami_algebra.specs.Fraction.{Fraction}
use Rattle.pami_algebra.specs.Ring.{var, ◌⊕◌, ⊖}
use Rattle.pami_algebra.specs.Operations.{◌+ᶠ◌, ◌*ᶠ◌, ◌/ᶠ◌, of_int}
use Rattle.pami_algebra.proofs.Laws.{by_ring_f}
use Rattle.pami_algebra.proofs.Field.{div_mul_f}
use Rattle.pami_linear.specs.Sums.{dot}
use Rattle.pami_linear.specs.Systems.{Solves, Combines, IsRegular, replaced}
use Rattle.pami_linear.specs.Active.{part, minus_to, but}
use Rattle.pami_linear.specs.Elimination.{EliminationStep, forward, backward}
use Rattle.pami_linear.specs.Chains.{Eliminates}
use Rattle.pami_linear.specs.Products.{ProductPivot, IsProductPivot, combination, columns_with, columns_after, AreAfter, transformed, transformed_by, gathered, gathered_by}
use Rattle.pami_linear.proofs.Parts.{part_but, part_same, minus_is, set_same, set_other, but_ne}
use Rattle.pami_linear.proofs.Systems.{solutions_meet, solves_same, combines_same, regular_same}
use Rattle.pami_linear.proofs.Pivoted.{replaced_combines}
use Rattle.pami_linear.proofs.Solutions.{forward_is, backward_is}
use Rattle.pami_linear.proofs.Regular.{regular_after_pivot, solves_to_quotient}

-- ---- one pivot
-- the gathered member makes up for the others
gathered_meets : (m : ℕ) (e : ProductPivot) (d : ℕ → Fraction) → e.place < m → ¬ (e.column e.place ≡ of_int (pos 0)) → dot m (gathered m e d) e.column ≡ d e.place
gathered_meets m e d l n =
    let p : ℕ = e.place in
    let t : Fraction = minus_to m (but p (λ k. true)) (λ k. d k *ᶠ e.column k) (d p) in
    let rest : Fraction = part m (but p (λ k. true)) (λ k. d k *ᶠ e.column k) in
    part_but m p (λ k. true) (λ k. gathered m e d k *ᶠ e.column k) l tt
    ∙ ap (λ z. z *ᶠ e.column p +ᶠ part m (but p (λ k. true)) (λ k. gathered m e d k *ᶠ e.column k)) (set_same p (t /ᶠ e.column p) d)
    ∙ ap (λ z. (t /ᶠ e.column p) *ᶠ e.column p +ᶠ z) (part_same m (but p (λ k. true)) (λ k. gathered m e d k *ᶠ e.column k) (λ k. d k *ᶠ e.column k)
    (λ k h u. ap (λ z. z *ᶠ e.column k) (set_other p k (t /ᶠ e.column p) d (but_ne p k (λ k. true) u))))
    ∙ ap (λ z. z +ᶠ rest) (div_mul_f t (e.column p) n ∙ minus_is m (but p (λ k. true)) (λ k. d k *ᶠ e.column k) (d p))
    ∙ by_ring_f (d p ∷ rest ∷ []) (var 0 ⊕ ⊖ (var 1) ⊕ var 1) (var 0) refl

pub gathered_combines : (m : ℕ) (e : ProductPivot) (b : ℕ → ℕ → Fraction) (new y d : ℕ → Fraction) → e.place < m → ¬ (e.column e.place ≡ of_int (pos 0)) →
    Solves m b e.column new → Combines m b y (gathered m e d) → Combines m (replaced b e.place new) y d
gathered_combines m e b new y d l n f g =
    let p : ℕ = e.place in
    replaced_combines m p b new y d
    (solutions_meet m b e.column new y (gathered m e d) f g ∙ gathered_meets m e d l n)
    (λ k h o. g.at k h ∙ set_other p k (minus_to m (but p (λ k. true)) (λ k. d k *ᶠ e.column k) (d p) /ᶠ e.column p) d o)

-- ---- all pivots
-- B alpha has the solution alpha
pub combination_solves : (m : ℕ) (b : ℕ → ℕ → Fraction) (alpha : ℕ → Fraction) → Solves m b alpha (combination m b alpha)
combination_solves m b alpha = record { at = λ i l. refl }

first_pivot : (m : ℕ) (e : ProductPivot) (es : List ProductPivot) → All (IsProductPivot m) (e ∷ es) → IsProductPivot m e
first_pivot m e es a = a zero e (omega arith)

later_pivots : (m : ℕ) (e : ProductPivot) (es : List ProductPivot) → All (IsProductPivot m) (e ∷ es) → All (IsProductPivot m) es
later_pivots m e es a = λ i d l. a (suc i) d (omega arith)

pub regular_after : (m : ℕ) (es : List ProductPivot) (b : ℕ → ℕ → Fraction) → All (IsProductPivot m) es → IsRegular m b → IsRegular m (columns_after m b es)
regular_after m [] b a g = g
regular_after m (e ∷ es) b a g =
    let k = first_pivot m e es a in
    regular_after m es (columns_with m b e) (later_pivots m e es a)
    (regular_after_pivot m e.place b (combination m b e.column) e.column k.place_low (combination_solves m b e.column) k.nonzero g)

pub solves_after : (m : ℕ) (es : List ProductPivot) (b : ℕ → ℕ → Fraction) (x r : ℕ → Fraction) → All (IsProductPivot m) es → Solves m b x r
    → Solves m (columns_after m b es) (transformed_by es x) r
solves_after m [] b x r a s = s
solves_after m (e ∷ es) b x r a s =
    let k = first_pivot m e es a in
    solves_after m es (columns_with m b e) (transformed e x) r (later_pivots m e es a)
    (solves_to_quotient m e.place b (combination m b e.column) e.column x r k.place_low (combination_solves m b e.column) s k.nonzero)

pub combines_after : (m : ℕ) (es : List ProductPivot) (b : ℕ → ℕ → Fraction) (y d : ℕ → Fraction) → All (IsProductPivot m) es → Combines m b y (gathered_by m es d)
    → Combines m (columns_after m b es) y d
combines_after m [] b y d a s = s
combines_after m (e ∷ es) b y d a s =
    let k = first_pivot m e es a in
    combines_after m es (columns_with m b e) y d (later_pivots m e es a)
    (gathered_combines m e b (combination m b e.column) y (gathered_by m es d) k.place_low k.nonzero (combination_solves m b e.column) s)

-- ---- on top of an elimination

-- ---- and so by other columns that agree with them
module _ (m : ℕ) (es : List ProductPivot) (b c : ℕ → ℕ → Fraction) where
  pub regular_by : All (IsProductPivot m) es → AreAfter m es b c → IsRegular m b → IsRegular m c
  regular_by a h g = regular_same m (columns_after m b es) c h (regular_after m es b a g)

  pub solves_by : (x r : ℕ → Fraction) → All (IsProductPivot m) es → AreAfter m es b c → Solves m b x r → Solves m c (transformed_by es x) r
  solves_by x r a h s =
      solves_same m (columns_after m b es) c (transformed_by es x) (transformed_by es x) r r h (λ k l. refl) (λ i l. refl) (solves_after m es b x r a s)

  pub combines_by : (y d : ℕ → Fraction) → All (IsProductPivot m) es → AreAfter m es b c → Combines m b y (gathered_by m es d) → Combines m c y d
  combines_by y d a h s = combines_same m (columns_after m b es) c y y d d h (λ i l. refl) (λ k l. refl) (combines_after m es b y d a s)

pub forward_by : (m : ℕ) (ss : List EliminationStep) (es : List ProductPivot) (b c : ℕ → ℕ → Fraction) (r : ℕ → Fraction) → Eliminates m b ss → All (IsProductPivot m) es
    → AreAfter m es b c → Solves m c (transformed_by es (forward m ss r)) r
forward_by m ss es b c r q a h = solves_by m es b c (forward m ss r) r a h (forward_is m b ss r q)

pub backward_by : (m : ℕ) (ss : List EliminationStep) (es : List ProductPivot) (b c : ℕ → ℕ → Fraction) (d : ℕ → Fraction) → Eliminates m b ss → All (IsProductPivot m) es
    → AreAfter m es b c → Combines m c (backward m ss (gathered_by m es d)) d
backward_by m ss es b c d q a h = combines_by m es b c (backward m ss (gathered_by m es d)) d a h (backward_is m b ss (gathered_by m es d) q)
