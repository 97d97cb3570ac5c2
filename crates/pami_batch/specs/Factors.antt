-- A program's factor, as the one that the method has at a basis.
use Rattle.std.specs.Prelude.{◌≡◌, Option, None, Some, Ok}
use Rattle.pami_theory.specs.Form.{Form}
use Rattle.pami_theory.specs.Basis.{Basis}
use Rattle.pami_method.specs.Factor.{History, elimination}
use Rattle.pami_deferral.specs.Factored.{IsHistoryOf}
use Rattle.pami_factor.specs.Value.{Product}

-- the factor has the steps and the pivots of the history, which stands for the basis
pub record IsFactorOf (f : Form) (h : History) (b : Basis) (factor : Product) : Type 0 where
  pub stands : IsHistoryOf f h b
  pub steps : elimination f h.head ≡ Ok factor.steps
  pub pivots : factor.pivots ≡ h.pivots

-- there is a factor exactly where there is a history, and it is its
abbrev pub HasFactor : Form → Option History → Basis → Option Product → Type 0
HasFactor f None b None = Unit {0}
HasFactor f (Some h) b (Some factor) = IsFactorOf f h b factor
HasFactor f None b (Some factor) = ⊥
HasFactor f (Some h) b None = ⊥
