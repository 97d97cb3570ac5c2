use Rattle.pami_theory.proofs.Candidates.{flips_are, flips_boxed, flips_sorted}
use Rattle.pami_theory.proofs.ratio_laws.flips_are_the_candidates_before.Goals as goal

pub returns : goal.returns
returns c = record { flips = flips_are; boxed = flips_boxed; in_order = flips_sorted }
