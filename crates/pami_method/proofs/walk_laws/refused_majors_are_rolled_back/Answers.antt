use Rattle.std.proofs.Common.{ap, ◌∙◌}
use Rattle.pami_method.specs.Walk.{after_by, refused_after}
use Rattle.pami_method.proofs.walk_laws.refused_majors_are_rolled_back.Goals as goal

pub returns : goal.returns
returns c = record {
  again = λ f o st g refused m e. ap (after_by f o st g) e ∙ ap (λ mode. refused_after mode st refused) m;
  ends = λ f o st g refused m e. ap (after_by f o st g) e ∙ ap (λ mode. refused_after mode st refused) m;
}
