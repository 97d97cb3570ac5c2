use Rattle.pami_method.specs.Walk.{Optimal, Limit}
use Rattle.pami_deferral.proofs.WalkHistories.{major_works, major_leaves, walk_factored}
use Rattle.pami_deferral.proofs.walk_laws.factors_stand_along_walks.Goals as goal

pub returns : goal.returns
returns c = record {
  works = major_works;
  kept = major_leaves;
  states = λ f o number mode st gs end h k. (walk_factored f o number mode st gs end h k).0;
  optimal = λ f o number mode st gs last h k. (walk_factored f o number mode st gs (Optimal last) h k).1;
  limited = λ f o number mode st gs last h k. (walk_factored f o number mode st gs (Limit last) h k).1;
}
