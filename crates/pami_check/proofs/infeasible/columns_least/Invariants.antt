use Rattle.std.proofs.Common.{◌≡◌, ◌-◌, ◌∷◌, [], length}
use Rattle.pami_linear.specs.Lists.{get}
use Rattle.pami_model.specs.Contents.{contents}
use Rattle.pami_model_form.specs.ModelForm.{model_form}
use Rattle.pami_check.specs.Tests.{tested, each_of}
use Rattle.pami_check.specs.Verdict.{finite_column, finite_columns}
use Rattle.pami_check.proofs.infeasible.columns_least.Given as goal

abbrev pub invariant-loop-j : goal.invariant-loop-j
invariant-loop-j l =
    let f = model_form (contents l.model) in
    tested (finite_columns f (get l.y)) l.fn.start ≡ tested (each_of l.j (length l.columns - l.j) (λ j. finite_column f (get l.y) j ∷ [])) l.total
