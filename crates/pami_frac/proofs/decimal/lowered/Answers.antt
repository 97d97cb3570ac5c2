use Rattle.std.proofs.Common.{◌-◌, ◌<◌, ◌≤◌, ◌^◌, arith}
use Rattle.pami_frac.proofs.DecimalLaws.{ten_le, ten_pos, ten_below}
use Rattle.pami_frac.proofs.decimal.lowered.Goals as goal

pub pow-requires : goal.pow-requires
pow-requires c = let k : 10 ^ c.args.power < 2 ^ 127 = ten_below c.args.power (omega arith) in omega arith

pub make-requires : goal.make-requires
make-requires c = let k : 1 ≤ 10 ^ c.args.power = ten_pos c.args.power in omega (arith, c.pow.ensures)

pub pow-requires-2 : goal.pow-requires-2
pow-requires-2 c = let k : 10 ^ (c.args.power - 1) < 2 ^ 127 = ten_below (c.args.power - 1) (omega arith) in omega arith

pub mixed-requires : goal.mixed-requires
mixed-requires c =
    let k : 1 ≤ 10 ^ (c.args.power - 1) = ten_pos (c.args.power - 1) in
    let l : 10 ^ (c.args.power - 1) ≤ 10 ^ 37 = ten_le (c.args.power - 1) 37 (omega arith) in
    (omega (arith, c.pow-2.ensures), omega (arith, c.pow-2.ensures))
