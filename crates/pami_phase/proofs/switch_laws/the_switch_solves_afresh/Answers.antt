use Rattle.pami_state.specs.Columns.{form_by}
use Rattle.pami_theory.proofs.Solved.{fresh_regular}
use Rattle.pami_phase.proofs.Solved.{refused_is, values_are}
use Rattle.pami_phase.proofs.switch_laws.the_switch_solves_afresh.Goals as goal

pub returns-clause-refused : goal.returns-clause-refused
returns-clause-refused c = λ columns bounds costs b t form is fresh. refused_is columns bounds costs b t form is (fresh_regular (form_by columns bounds costs) b t fresh)

pub returns-clause-values : goal.returns-clause-values
returns-clause-values c = λ columns bounds costs b t x form is fresh h. values_are columns bounds costs b t x form is fresh h
