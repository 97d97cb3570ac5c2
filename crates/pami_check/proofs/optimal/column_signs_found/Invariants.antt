use Rattle.std.proofs.Common.{◌≡◌, ◌-◌, ◌∷◌, [], length}
use Rattle.pami_linear.specs.Lists.{get}
use Rattle.pami_model.specs.Contents.{contents}
use Rattle.pami_model_form.specs.ModelForm.{model_form}
use Rattle.pami_check.specs.Tests.{tested, each_of}
use Rattle.pami_theory.specs.Form.{limits}
use Rattle.pami_check.specs.Verdict.{sign_test}
use Rattle.pami_check.specs.Lists.{column_signs}
use Rattle.pami_check.proofs.optimal.column_signs_found.Given as goal

abbrev pub invariant-loop-j : goal.invariant-loop-j
invariant-loop-j l =
    let f = model_form (contents l.model) in
    tested (column_signs f (get l.x) (get l.d)) tt
    ≡ tested (each_of l.j (length l.columns - l.j) (λ j. sign_test (limits f j) j (get l.x j) (get l.d j) ∷ [])) tt
