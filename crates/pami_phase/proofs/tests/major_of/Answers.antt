use Rattle.std.proofs.Common.{None, sym, subst}
use Rattle.pami_major.specs.Ready.{IsReady}
use Rattle.pami_phase.proofs.tests.major_of.Goals as goal

pub major-requires-clause-ready : goal.major-requires-clause-ready
major-requires-clause-ready c = subst (λ n. IsReady c.args.form.now n c.in_ok-state.state) (sym c.options_with-options.ensures.limit) c.in_ok-state.ensures

pub major-requires-clause-factor : goal.major-requires-clause-factor
major-requires-clause-factor c = (None, tt)
