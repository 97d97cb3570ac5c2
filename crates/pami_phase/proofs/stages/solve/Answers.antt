use Rattle.std.proofs.Common.{[]}
use Rattle.pami_phase.proofs.Certified.{certified}
use Rattle.pami_phase.proofs.stages.solve.Goals as goal

pub returns-clause-certificate : goal.returns-clause-certificate
returns-clause-certificate g c =
    certified c.args.form.now c.args.options.now [] (g.T.Teller.stands c.args.teller.now) (g.T.Teller.stands c.run.new.teller)
    (g.T.Teller.stopped c.run.new.teller) (g.T.Teller.faults c.args.teller.now) (g.T.Teller.faults c.run.new.teller)
    c.run.result c.args.form.now.kept c.run.ensures
