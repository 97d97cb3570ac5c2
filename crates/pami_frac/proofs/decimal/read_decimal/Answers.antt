use Rattle.pami_frac.proofs.DecimalTest.{outcome_is}
use Rattle.pami_frac.proofs.decimal.read_decimal.Goals as goal

pub returns-clause-outcome : goal.returns-clause-outcome
returns-clause-outcome c = outcome_is c.args.text.now c.number_in.result c.number_in.ensures.not_a_number c.number_in.ensures.too_wide c.number_in.ensures.value
