-- What a certificate says of a model, over fractions without bound.
use Rattle.std.specs.Prelude.{ℕ, ◌++◌, length, Option}
use Rattle.pami_algebra.specs.Fraction.{Fraction}
use Rattle.pami_linear.specs.Lists.{get}
use Rattle.pami_theory.specs.Certificate.{HoldsOptimal, HoldsInfeasible, HoldsDualInfeasible, HoldsObjective}
use Rattle.pami_model.specs.Contents.{Contents}
use Rattle.pami_model_form.specs.ModelForm.{file_cost, model_form}
use Rattle.pami_cert.specs.declared.cert.Cert.{Cert}
use Rattle.pami_cert.specs.declared.cert.Cert.TheVariants as certs

-- values x and reduced costs d of all variables are optimal, and the objective is that of the values
pub record HoldsBest (c : Contents) (objective : Option Fraction) (x d : ℕ → Fraction) : Type 0 where
  pub certificate : HoldsOptimal (model_form c) x d
  pub objective_is : HoldsObjective c.constant (length c.columns) (file_cost c) x objective

abbrev pub Holds : Contents → Cert → Type 0
Holds c (certs.Optimal objective x d r y) = HoldsBest c objective (get (x ++ r)) (get (d ++ y))
Holds c (certs.Infeasible y) = HoldsInfeasible (model_form c) (get y)
Holds c (certs.DualInfeasible x r) = HoldsDualInfeasible (model_form c) (get (x ++ r))
