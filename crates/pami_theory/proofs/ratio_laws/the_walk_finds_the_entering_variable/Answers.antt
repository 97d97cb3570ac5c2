use Rattle.pami_theory.proofs.Candidates.{entered_by_walk, walk_enters, one_entering, none_entering}
use Rattle.pami_theory.proofs.ratio_laws.the_walk_finds_the_entering_variable.Goals as goal

pub returns : goal.returns
returns c = record { found = entered_by_walk; finds = walk_enters; only = one_entering; none = none_entering }
