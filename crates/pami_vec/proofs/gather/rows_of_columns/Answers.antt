use Rattle.std.proofs.Common.{[], length, arith}
use Rattle.std.specs.Prelude.{slice_index_or}
use Rattle.std.proofs.lemmas.List.{length-map}
use Rattle.pami_factoring.specs.Factor.{columns_at}
use Rattle.pami_vec.proofs.Gathered.{rows_end}
use Rattle.pami_vec.proofs.gather.rows_of_columns.Goals as goal

pub returns : goal.returns
returns c =
    let few = c.len-row-end.ensures in
    let ok = c.in_ok-lists.lists.ok in
    let past = c.loop-row-test.false in
    rows_end (columns_at c.args.columns.now c.args.head.now) c.args.height (length c.args.head.now) c.loop-row.row c.in_ok-lists.lists.items c.loop-row.rows.items c.in_ok-lists.ensures
    (length-map c.args.head.now (λ j. slice_index_or c.args.columns.now j [])) (omega arith) c.loop-row.invariant
