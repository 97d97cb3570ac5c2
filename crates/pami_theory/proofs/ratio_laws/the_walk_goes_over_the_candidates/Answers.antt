use Rattle.pami_theory.proofs.Candidates.{no_ties, walk_contains}
use Rattle.pami_theory.proofs.ratio_laws.the_walk_goes_over_the_candidates.Goals as goal

pub returns : goal.returns
returns c = record { no_ties = no_ties; candidates = walk_contains }
