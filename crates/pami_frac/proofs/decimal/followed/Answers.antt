use Rattle.std.proofs.Common.{arith, subst}
use Rattle.pami_frac.specs.DecimalDigits.{IsRead}
use Rattle.pami_frac.proofs.DecimalLaws.{long_more}
use Rattle.pami_frac.proofs.decimal.followed.Goals as goal

pub returns-in-Wide-clause-read : goal.returns-in-Wide-clause-read
returns-in-Wide-clause-read c m h = long_more m c.args.digit (subst (λ x. IsRead x m) c.in-Wide.is h) (omega arith)
