use Rattle.pami_deferral.proofs.Chains.{solved_chain}
use Rattle.pami_deferral.proofs.Histories.{history_new, history_after, row_solved, column_solved, flips_solved}
use Rattle.pami_deferral.proofs.script_laws.histories_solve_their_bases.Goals as goal

pub returns : goal.returns
returns c = record {
  new = history_new;
  behind = λ f limit history first ms last h i. history_after f history first ms last i (solved_chain f limit first ms last h);
  row = row_solved;
  column = column_solved;
  flips = flips_solved;
}
