use Rattle.std.proofs.Common.{◌≡◌, Option}
use Rattle.pami_frac.proofs.Answers.{value_so}
use Rattle.pami_theory.specs.Ratio.{Entering, ratio_walk}
use Rattle.pami_bfrt.specs.Candidates.{Table}
use Rattle.pami_bfrt.specs.Walks.{walk_script, found_by}
use Rattle.pami_bfrt.proofs.Ended.{walk_found}
use Rattle.pami_bfrt.proofs.walk.ratio_walk.Goals as goal

pub returns-clause-walk : goal.returns-clause-walk
returns-clause-walk c = λ f b l table entries outside.
    let t : Table = record { stands = c.args.stands.now; bounds = c.args.bounds.now; widths = c.args.widths.now; reduced = c.args.reduced.now } in
    value_so found_by (walk_script t c.args.alpha.now c.args.violation.now) c.walk_of.result
    (λ (found : Option Entering). found ≡ ratio_walk f b l) c.walk_of.ensures
    (λ found e. walk_found f b l t c.args.alpha.now c.args.violation.now found table entries outside e)
