use Rattle.std.proofs.Common.{◌≡◌, ◌<◌, drop, length}
use Rattle.pami_lp.specs.Rules.{add_entries}
use Rattle.pami_lp.proofs.draft.add_entries.Given as goal

abbrev pub invariant-loop-entry : goal.invariant-loop-entry
invariant-loop-entry l = record {
  rest : add_entries l.fn.builder l.row l.sums ≡ add_entries l.builder l.row (drop l.entry-index l.sums);
  known : l.row < length l.builder.rows;
  columns : length l.builder.columns ≡ length l.fn.builder.columns;
}
