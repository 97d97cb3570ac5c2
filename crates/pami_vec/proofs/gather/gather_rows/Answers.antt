use Rattle.pami_factoring.specs.Factor.{columns_at}
use Rattle.pami_vec.proofs.Gathered.{gathered_next, named_column}
use Rattle.pami_vec.proofs.gather.gather_rows.Goals as goal

pub loop-place-preserved : goal.loop-place-preserved
loop-place-preserved c =
    gathered_next (columns_at c.args.columns.now c.args.head.now) c.args.height c.loop-place.place c.index-columns-j.result c.loop-place.lists.items c.put_column.new.lists.items c.loop-place.invariant c.in_ok-put_column.ensures
    (named_column c.args.columns.now c.args.head.now c.loop-place.place 0 c.index-columns-j.result c.loop-place-test.true (c.requires.known c.loop-place.place 0 c.loop-place-test.true) c.index-columns-j.is)
