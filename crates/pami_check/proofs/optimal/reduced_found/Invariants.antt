use Rattle.std.proofs.Common.{◌≡◌, ◌-◌, ◌∷◌, [], ◌++◌, length}
use Rattle.pami_linear.specs.Lists.{get}
use Rattle.pami_model.specs.Contents.{contents}
use Rattle.pami_model_form.specs.ModelForm.{model_form}
use Rattle.pami_check.specs.Tests.{tested, each_of}
use Rattle.pami_check.specs.Verdict.{reduced_test, reduced_tests}
use Rattle.pami_check.proofs.optimal.reduced_found.Given as goal

abbrev pub invariant-loop-j : goal.invariant-loop-j
invariant-loop-j l =
    let f = model_form (contents l.model) in
    let d = get (l.d ++ l.y) in
    tested (reduced_tests f d) tt ≡ tested (each_of l.j (length l.columns - l.j) (λ j. reduced_test f d j ∷ [])) tt
