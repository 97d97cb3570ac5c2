use Rattle.std.proofs.Common.{sym, ◌∙◌}
use Rattle.pami_bfrt.proofs.Tested.{positive_nonzero}
use Rattle.pami_bfrt.proofs.candidate.may_enter.Goals as goal

pub returns-in-Lower-clause-nonzero : goal.returns-in-Lower-clause-nonzero
returns-in-Lower-clause-nonzero c = λ h. positive_nonzero c.args.a (sym c.is_positive.ensures ∙ h)
