use Rattle.std.proofs.Common.{◌<◌, length, arith, refl}
use Rattle.pami_mps.specs.Reader.{seen_by_reader}
use Rattle.pami_mps.proofs.ToldLines.{range_set}
use Rattle.pami_mps.proofs.reader.Reader.set_range.Goals as goal

pub returns-clause-grown : goal.returns-clause-grown
returns-clause-grown c =
    let e = c.requires.even.told in
    let lt : c.args.row < length c.args.self.now.told.items = omega arith in
    range_set (seen_by_reader c.args.self.now) c.args.row c.args.range c.index_mut-told.result.now _ c.set_row_bounds.new.self _ lt c.index_mut-told.ensures.value c.in_ok-low.ensures.bounds refl c.set_row_bounds.ensures.set
