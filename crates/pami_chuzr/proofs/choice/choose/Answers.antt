use Rattle.std.proofs.Common.{◌≡◌, List, map}
use Rattle.std.specs.Global.{Vec}
use Rattle.pami_frac.proofs.Answers.{value_so}
use Rattle.pami_theory.specs.Choice.{chosen}
use Rattle.pami_chuzr.specs.declared.row.ChosenRow.{ChosenRow}
use Rattle.pami_chuzr.specs.Choice.{chosen_row, choice_script}
use Rattle.pami_chuzr.proofs.Places.{value_of_basis}
use Rattle.pami_chuzr.proofs.choice.choose.Goals as goal

pub returns-clause-rows : goal.returns-clause-rows
returns-clause-rows c = λ f b s places.
    value_so (λ (rows : Vec ChosenRow). rows.items) (choice_script c.args.bounds.now c.args.values.now c.args.weights.now c.args.most) c.chosen_rows.result
    (λ (rows : List ChosenRow). rows ≡ map chosen_row (chosen f b s c.args.weights.now c.args.most)) c.chosen_rows.ensures
    (λ rows e. value_of_basis f b s c.args.bounds.now c.args.values.now c.args.weights.now c.args.most rows places e)
