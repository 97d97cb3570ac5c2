use Rattle.std.proofs.Common.{◌≡◌, ◌-◌, ◌∷◌, [], length}
use Rattle.pami_linear.specs.Lists.{get}
use Rattle.pami_model.specs.Contents.{contents}
use Rattle.pami_model_form.specs.ModelForm.{model_form}
use Rattle.pami_theory.specs.Form.{zero_f}
use Rattle.pami_check.specs.Tests.{tested, each_of}
use Rattle.pami_check.specs.Verdict.{finite_row, finite_rows}
use Rattle.pami_check.proofs.infeasible.rows_least.Given as goal

abbrev pub invariant-loop-i : goal.invariant-loop-i
invariant-loop-i l =
    let f = model_form (contents l.model) in
    tested (finite_rows f (get l.y)) zero_f ≡ tested (each_of l.i (length l.rows - l.i) (λ i. finite_row f (get l.y) i ∷ [])) l.total
