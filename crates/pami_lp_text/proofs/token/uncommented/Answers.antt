use Rattle.std.proofs.Common.{arith, eq-eqb}
use Rattle.pami_lp_text.specs.Lexeme.{is_backslash}
use Rattle.pami_lp_text.proofs.Pieces.{before_at, before_none}
use Rattle.pami_lp_text.proofs.token.uncommented.Goals as goal

pub returns-then-byte-eq92 : goal.returns-then-byte-eq92
returns-then-byte-eq92 c = before_at is_backslash c.args.line.now c.loop-i.i c.loop-i-test.true c.loop-i.invariant (eq-eqb _ 92 c.if-byte-eq92.true)

pub returns : goal.returns
returns c = before_none is_backslash c.args.line.now c.loop-i.i (omega (arith, c.loop-i-test.false, c.loop-i.auto.i-end)) c.loop-i.invariant
