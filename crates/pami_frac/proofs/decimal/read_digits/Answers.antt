use Rattle.std.proofs.Common.{arith, sym, subst}
use Rattle.pami_frac.specs.DecimalDigits.{IsRead}
use Rattle.pami_frac.proofs.DecimalLaws.{after_more}
use Rattle.pami_frac.proofs.decimal.read_digits.Goals as goal

pub loop-byte-preserved : goal.loop-byte-preserved
loop-byte-preserved c = record {
  read = λ m h. subst (λ n. IsRead c.followed-mantissa.result n) (sym (after_more m c.args.digits.now c.loop-byte.byte-index c.loop-byte-test.true)) (c.followed-mantissa.ensures.read _ (c.loop-byte.invariant.read m h));
  zeros = omega arith;
}
