use Rattle.std.proofs.Common.{◌≡◌}
use Rattle.pami_theory.specs.Fresh.{row_at}
use Rattle.pami_method.specs.declared.words.Spot.TheVariants as spots
use Rattle.pami_method.specs.Work.{backward_task}
use Rattle.pami_batch.proofs.Told.{one_told}
use Rattle.pami_batch.proofs.Scripts.{solved}
use Rattle.pami_batch.proofs.minors_parts.solve_row.Goals as goal

pub returns-clause-row : goal.returns-clause-row
returns-clause-row g c = λ f h b s is fresh l.
    one_told (λ rho. rho ≡ row_at s c.args.place) (spots.Backward c.args.place) (backward_task f h c.args.place).refusal c.solve_backward.result c.at.result c.at.ensures
    (solved f h b s c.args.factor.now c.args.place c.solve_backward.result is fresh l c.solve_backward.ensures.script)
