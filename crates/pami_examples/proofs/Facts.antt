-- Small facts that the worked runs cite.
use Rattle.std.proofs.Common.{◌≡◌, List, [], ◌∷◌, sym, true≢false}
use Rattle.pami_algebra.specs.Fraction.{gcd}
use Rattle.pami_algebra.specs.Operations.{of_int, ◌≤ᶠ◌}
use Rattle.pami_algebra.proofs.Tests.{is_at_most_iff}
use Rattle.pami_theory.specs.Form.{zero_f}
use Rattle.pami_examples.specs.Words.{minus}

pub not_empty : {A : Type 0} (x : A) (xs : List A) → ¬ (x ∷ xs ≡ [])
not_empty x xs e = cc

pub not_below : ¬ (zero_f ≤ᶠ minus 1)
unfolding of_int gcd
not_below h = true≢false (sym ((is_at_most_iff zero_f (minus 1)).1 h))
