use Rattle.std.proofs.Common.{◌≡◌, ◌-◌, ◌∷◌, [], length}
use Rattle.pami_linear.specs.Lists.{get}
use Rattle.pami_model.specs.Contents.{contents}
use Rattle.pami_model_form.specs.ModelForm.{model_form}
use Rattle.pami_check.specs.Tests.{tested, each_of}
use Rattle.pami_check.specs.Verdict.{bound_at, column_tests}
use Rattle.pami_check.specs.Lists.{reached}
use Rattle.pami_check.proofs.point.columns_found.Given as goal

abbrev pub invariant-loop-j : goal.invariant-loop-j
invariant-loop-j l =
    let f = model_form (contents l.model) in
    tested (column_tests f (reached l.reach) (get l.x)) tt
    ≡ tested (each_of l.j (length l.columns - l.j) (λ j. bound_at f (reached l.reach) (get l.x) j ∷ [])) tt
