use Rattle.std.proofs.Common.{◌≡◌, ◌-◌, ◌∷◌, [], length}
use Rattle.pami_linear.specs.Lists.{get}
use Rattle.pami_model.specs.Contents.{contents}
use Rattle.pami_model_form.specs.ModelForm.{model_form}
use Rattle.pami_check.specs.Tests.{tested, each_of}
use Rattle.pami_check.specs.Lists.{row_sign, row_signs}
use Rattle.pami_check.proofs.optimal.row_signs_found.Given as goal

abbrev pub invariant-loop-i : goal.invariant-loop-i
invariant-loop-i l =
    let f = model_form (contents l.model) in
    tested (row_signs f (get l.r) (get l.y)) tt ≡ tested (each_of l.i (length l.rows - l.i) (λ i. row_sign f (get l.r) (get l.y) i ∷ [])) tt
