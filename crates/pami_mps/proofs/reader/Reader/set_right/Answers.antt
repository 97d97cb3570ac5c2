use Rattle.std.proofs.Common.{◌<◌, length, arith, refl}
use Rattle.pami_mps.specs.Reader.{seen_by_reader}
use Rattle.pami_mps.proofs.ToldLines.{right_set}
use Rattle.pami_mps.proofs.reader.Reader.set_right.Goals as goal

pub returns-clause-grown : goal.returns-clause-grown
returns-clause-grown c =
    let e = c.requires.even.told in
    let lt : c.args.row < length c.args.self.now.told.items = omega arith in
    right_set (seen_by_reader c.args.self.now) c.args.row c.args.value c.index_mut-told.result.now c.right_bounds-bounds.result c.set_row_bounds.new.self _ lt c.index_mut-told.ensures.value c.right_bounds-bounds.ensures refl c.set_row_bounds.ensures.set
