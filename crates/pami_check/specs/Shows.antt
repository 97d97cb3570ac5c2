-- What a certificate that holds shows of a model: what cannot be.
use Rattle.std.specs.Prelude.{ℕ, ◌++◌}
use Rattle.pami_algebra.specs.Fraction.{Fraction}
use Rattle.pami_algebra.specs.Operations.{◌≤ᶠ◌}
use Rattle.pami_linear.specs.Lists.{get}
use Rattle.pami_linear.specs.Sums.{dot}
use Rattle.pami_theory.specs.Form.{Form, cost, IsFeasible}
use Rattle.pami_theory.specs.Certificate.{IsDualPoint}
use Rattle.pami_model.specs.Contents.{Contents}
use Rattle.pami_model_form.specs.ModelForm.{model_form}
use Rattle.pami_cert.specs.declared.cert.Cert.{Cert}
use Rattle.pami_cert.specs.declared.cert.Cert.TheVariants as certs

-- a point within all bounds, and no point within them costs less
pub record IsBest (f : Form) (x : ℕ → Fraction) : Type 0 where
  pub feasible : IsFeasible f x
  pub no_less : (z : ℕ → Fraction) → IsFeasible f z → dot f.columns (cost f) x ≤ᶠ dot f.columns (cost f) z

-- the values are best; or no point is within all bounds; or the dual program has no point
abbrev pub Shows : Contents → Cert → Type 0
Shows c (certs.Optimal objective x d r y) = IsBest (model_form c) (get (x ++ r))
Shows c (certs.Infeasible y) = (z : ℕ → Fraction) → ¬ IsFeasible (model_form c) z
Shows c (certs.DualInfeasible x r) = (y d : ℕ → Fraction) → ¬ IsDualPoint (model_form c) y d
