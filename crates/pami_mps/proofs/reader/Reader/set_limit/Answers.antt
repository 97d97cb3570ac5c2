use Rattle.std.proofs.Common.{◌<◌, length, arith, refl}
use Rattle.pami_mps.specs.Reader.{seen_by_reader}
use Rattle.pami_mps.proofs.ToldLines.{limit_set}
use Rattle.pami_mps.proofs.reader.Reader.set_limit.Goals as goal

pub returns : goal.returns
returns c =
    let e = c.requires.even.sides in
    let lt : c.args.column < length c.args.self.now.sides.items = omega arith in
    limit_set (seen_by_reader c.args.self.now) c.args.column c.args.kind c.args.value c.index_mut-sides.result.now c.effect.result c.set_column_bounds.new.self _ lt c.index_mut-sides.ensures.value c.effect.ensures refl c.set_column_bounds.ensures.set
