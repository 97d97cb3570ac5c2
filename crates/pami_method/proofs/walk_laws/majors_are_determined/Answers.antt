use Rattle.pami_method.proofs.Walks.{first_only, major_only, major_ends_fresh}
use Rattle.pami_method.proofs.walk_laws.majors_are_determined.Goals as goal

pub returns : goal.returns
returns c = record { first = first_only; only = major_only; ends = major_ends_fresh }
