use Rattle.std.proofs.Common.{◌≡◌, ◌-◌, length}
use Rattle.pami_algebra.specs.Fraction.{Fraction}
use Rattle.pami_linear.specs.Lists.{get}
use Rattle.pami_model.specs.declared.list.Column.{Column}
use Rattle.pami_script.specs.Script.{add_product, add_dot, each}
use Rattle.pami_theory.specs.Form.{zero_f}
use Rattle.pami_model_form.specs.ModelForm.{member}
use Rattle.pami_cert.specs.CertText.{Fit}
use Rattle.pami_cli.proofs.certificate.told_objective.Given as goal

abbrev pub invariant-loop-j : goal.invariant-loop-j
invariant-loop-j l =
    (add_dot (length l.columns) (λ j. member (λ (column : Column). column.cost) zero_f l.columns j) (get l.values) l.fn.constant
    ≡ each (length l.columns - l.j) l.j (λ j (t : Fraction). add_product t (member (λ (column : Column). column.cost) zero_f l.columns j) (get l.values j)) l.total) × Fit l.total
