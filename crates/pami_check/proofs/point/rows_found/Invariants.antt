use Rattle.std.proofs.Common.{◌≡◌, ◌-◌, ◌++◌, length}
use Rattle.pami_linear.specs.Lists.{get}
use Rattle.pami_model.specs.Contents.{contents}
use Rattle.pami_model_form.specs.ModelForm.{model_form}
use Rattle.pami_check.specs.Tests.{tested, each_of}
use Rattle.pami_check.specs.Verdict.{row_pair, row_tests}
use Rattle.pami_check.specs.Lists.{reached}
use Rattle.pami_check.proofs.point.rows_found.Given as goal

abbrev pub invariant-loop-i : goal.invariant-loop-i
invariant-loop-i l =
    let f = model_form (contents l.model) in
    let x = get (l.x ++ l.r) in
    tested (row_tests f (reached l.reach) x) tt ≡ tested (each_of l.i (length l.rows - l.i) (row_pair f (reached l.reach) x)) tt
