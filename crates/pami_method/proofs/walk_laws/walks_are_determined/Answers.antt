use Rattle.pami_method.specs.Walk.{Optimal, Limit}
use Rattle.pami_method.proofs.Walks.{walk_only, walk_ends_at_basis}
use Rattle.pami_method.proofs.walk_laws.walks_are_determined.Goals as goal

pub returns : goal.returns
returns c = record {
  only = walk_only;
  optimal = λ f o number mode st gs last. walk_ends_at_basis f o number mode st gs (Optimal last);
  limited = λ f o number mode st gs last. walk_ends_at_basis f o number mode st gs (Limit last);
}
