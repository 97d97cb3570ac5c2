use Rattle.std.proofs.Common.{map, sym, ◌∙◌}
use Rattle.std.proofs.lemmas.List.{length-replicate}
use Rattle.pami_theory.specs.Form.{zero_f}
use Rattle.pami_method.specs.Scripts.{zeros}
use Rattle.pami_collect.specs.Exchanges.{flips_of}
use Rattle.pami_batch.proofs.FlipTasks.{total_length}
use Rattle.pami_batch.proofs.collecting.solve_flips.Goals as goal

pub solve_changes-requires : goal.solve_changes-requires
solve_changes-requires g c = record {
  rows = total_length (map flips_of c.args.steps.now) (zeros c.args.rows) c.in_ok-total.total c.in_ok-total.ensures
      ∙ length-replicate c.args.rows zero_f ∙ sym c.requires.rows;
}
