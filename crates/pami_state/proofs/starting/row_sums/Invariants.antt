use Rattle.pami_state.specs.Sums.{AreSums, standing_at}
use Rattle.pami_state.proofs.starting.row_sums.Given as goal

abbrev pub invariant-loop-j : goal.invariant-loop-j
invariant-loop-j l = AreSums l.columns l.rows l.j (standing_at l.bounds l.stands) l.sums.items
