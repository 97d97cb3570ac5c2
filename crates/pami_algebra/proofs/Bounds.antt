-- Orders by sums of things that are at least 0.
use Rattle.std.proofs.Common.{◌≡◌, [], ◌∷◌, refl, sym, ◌∙◌, subst}
use lib.IntN.{pos}
use Rattle.pami_algebra.specs.Fraction.{Fraction}
use Rattle.pami_algebra.specs.Ring.{var, t0, ◌⊕◌, ⊖}
use Rattle.pami_algebra.specs.Operations.{◌+ᶠ◌, neg_f, of_int, ◌≤ᶠ◌}
use Rattle.pami_algebra.proofs.Laws.{by_ring_f}
use Rattle.pami_algebra.proofs.Order.{le_trans_f, add_le_f}

-- an order of equal fractions
pub le_moved_f : (p q p' q' : Fraction) → p ≡ p' → q ≡ q' → p ≤ᶠ q → p' ≤ᶠ q'
le_moved_f p q p' q' e f h = subst (λ z. z ≤ᶠ q') e (subst (λ z. p ≤ᶠ z) f h)

-- p is at most q where q is p and something that is at least 0
pub le_by : (p q r : Fraction) → of_int (pos 0) ≤ᶠ r → q ≡ p +ᶠ r → p ≤ᶠ q
le_by p q r h e = le_moved_f (of_int (pos 0) +ᶠ p) (r +ᶠ p) p q (by_ring_f (p ∷ []) (t0 ⊕ var 0) (var 0) refl) (by_ring_f (r ∷ p ∷ []) (var 0 ⊕ var 1) (var 1 ⊕ var 0) refl ∙ sym e) (add_le_f (of_int (pos 0)) r p h)

-- and then the difference is at least 0
pub gap_of : (p q : Fraction) → p ≤ᶠ q → of_int (pos 0) ≤ᶠ (q +ᶠ neg_f p)
gap_of p q h = le_moved_f (p +ᶠ neg_f p) (q +ᶠ neg_f p) (of_int (pos 0)) (q +ᶠ neg_f p) (by_ring_f (p ∷ []) (var 0 ⊕ ⊖ (var 0)) t0 refl) refl (add_le_f p q (neg_f p) h)

-- a sum of what is at least 0
pub add_nonneg_f : (p q : Fraction) → of_int (pos 0) ≤ᶠ p → of_int (pos 0) ≤ᶠ q → of_int (pos 0) ≤ᶠ (p +ᶠ q)
add_nonneg_f p q h k = le_trans_f (of_int (pos 0)) p (p +ᶠ q) h (le_by p (p +ᶠ q) q k refl)
