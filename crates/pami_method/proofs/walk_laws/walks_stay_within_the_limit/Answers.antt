use Rattle.pami_method.specs.Walk.{Optimal, Limit}
use Rattle.pami_method.proofs.Counts.{walk_within, all_majors_within}
use Rattle.pami_method.proofs.walk_laws.walks_stay_within_the_limit.Goals as goal

pub returns : goal.returns
returns c = record {
  majors = λ f o number mode st gs end l h. all_majors_within o.limit gs (walk_within f o number mode st gs end l h).0;
  optimal = λ f o number mode st gs last l h. (walk_within f o number mode st gs (Optimal last) l h).1;
  limited = λ f o number mode st gs last l h. (walk_within f o number mode st gs (Limit last) l h).1;
}
