use Rattle.std.proofs.Common.{ap, ◌∙◌}
use Rattle.pami_theory.specs.declared.words.Stand.TheVariants as stands
use Rattle.pami_state.proofs.Listed.{stands_more, column_stands, row_stands}
use Rattle.pami_state.proofs.starting.starting_stands.Goals.{then-v-columns+in_ok-push, else-v-columns+in_ok-push-2}
use Rattle.pami_state.proofs.starting.starting_stands.Goals as goal

pub loop-v-preserved : goal.loop-v-preserved
loop-v-preserved c =
    let n = c.args.columns in
    let bounds = c.args.bounds.now in
    let costs = c.args.costs.now in
    let v = c.loop-v.v in
    elim c.if-v-columns.branch [
      | then-v-columns+in_ok-push w ↦
          ap (λ s. s.items) w.stands-is ∙ w.in_ok-push.ensures.items
          ∙ stands_more n bounds costs v c.loop-v.stands.items w.starting_stand.result c.loop-v.invariant
          (column_stands n bounds costs v c.index-bounds-v.result w.index-costs-v.result w.starting_stand.result w.if-v-columns.true c.loop-v-test.true c.requires.costs c.index-bounds-v.is w.index-costs-v.is w.starting_stand.ensures)
      | else-v-columns+in_ok-push-2 w ↦
          ap (λ s. s.items) w.stands-is ∙ w.in_ok-push-2.ensures.items
          ∙ stands_more n bounds costs v c.loop-v.stands.items stands.Basic c.loop-v.invariant (row_stands n bounds costs v w.if-v-columns.false)
    ]
