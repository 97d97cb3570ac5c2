use Rattle.std.proofs.Common.{◌≡◌, sym, ◌∙◌}
use Rattle.pami_method.specs.Scripts.{violation_script, low_script}
use Rattle.pami_chuzr.proofs.Exact.{answer_exact, above_script, below_script, not_above_script, unbounded_script, below_within}
use Rattle.pami_chuzr.proofs.outside.violation.Goals as goal
use Rattle.pami_chuzr.proofs.outside.violation.Goals.{in-Some+else-is_below, in_default}

pub returns-then-is_below-clause-exact : goal.returns-then-is_below-clause-exact
returns-then-is_below-clause-exact c =
    let b = c.args.bounds.now in
    let v = c.args.value.now in
    answer_exact b v c.by_difference.result (above_script b v c.in-Some.high c.by_difference.result c.in-Some.is (sym c.is_below.ensures ∙ c.if-is_below.true) c.by_difference.ensures)

pub returns-then-is_below-2-clause-exact : goal.returns-then-is_below-2-clause-exact
returns-then-is_below-2-clause-exact c =
    let b = c.args.bounds.now in
    let v = c.args.value.now in
    let r = c.by_difference-then-is_below-2.result in
    let s : violation_script b v ≡ low_script b.low v = elim c.match-bounds.branch [
      | in-Some+else-is_below w ↦ not_above_script b v w.in-Some.high w.in-Some.is (sym w.is_below.ensures ∙ w.if-is_below.false)
      | in_default w ↦ unbounded_script b v w.in_default.not-Some
    ] in
    answer_exact b v r (below_script b v c.in-Some-low.low r s c.in-Some-low.is (sym c.is_below-in-Some-low.ensures ∙ c.if-is_below-2.true) c.by_difference-then-is_below-2.ensures)

pub returns-then-is_below-2-clause-within : goal.returns-then-is_below-2-clause-within
returns-then-is_below-2-clause-within c =
    below_within c.args.bounds.now c.args.value.now c.in-Some-low.low c.by_difference-then-is_below-2.result c.in-Some-low.is (sym c.is_below-in-Some-low.ensures ∙ c.if-is_below-2.true) c.by_difference-then-is_below-2.ensures
