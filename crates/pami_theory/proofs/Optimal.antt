-- The certificate of a dual feasible basis with no violation, by what is solved there.
use Rattle.std.proofs.Common.{◌≡◌, ℕ, ◌<◌, None}
use Rattle.pami_linear.specs.Lists.{get}
use Rattle.pami_theory.specs.Form.{Form, variables, limits, row_variable, IsUncrossed}
use Rattle.pami_theory.specs.declared.words.Stand.TheVariants.{Basic}
use Rattle.pami_theory.specs.Basis.{Basis, head_at, stand_at, IsBasis}
use Rattle.pami_theory.specs.Fresh.{IsDualFeasible, Fresh, value_at_place, IsFresh}
use Rattle.pami_theory.specs.Violation.{violation}
use Rattle.pami_theory.specs.Certificate.{HoldsOptimal}
use Rattle.pami_theory.proofs.Certificates.{certificate}
use Rattle.pami_theory.proofs.NextCosts.{signed_at}
use Rattle.pami_theory.proofs.Violations.{violation_none}

pub optimal_solved : (f : Form) (b : Basis) (s : Fresh) → IsBasis f b → IsFresh f b s → IsDualFeasible f b → ((p : ℕ) → p < f.rows → violation (limits f (head_at b p)) (value_at_place b s p) ≡ None) → ((v : ℕ) → v < variables f → ¬ (stand_at b v ≡ Basic) → IsUncrossed (limits f v)) → HoldsOptimal f (get s.values) (get s.reduced)
optimal_solved f b s is h dual none u =
    certificate f b (get s.values) (λ i. get s.reduced (row_variable f i)) (get s.reduced) is h.values h.reduced (signed_at f b s h dual)
    (λ k. (violation_none (limits f (head_at b k.0)) (value_at_place b s k.0)).0 (none k.0 k.1) k.2) u
