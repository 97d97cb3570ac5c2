use Rattle.std.proofs.Common.{true, ap, arith, sym, ◌∙◌}
use Rattle.std.specs.List.{list_all}
use Rattle.std.proofs.lemmas.List.{take_all}
use Rattle.pami_lp_text.specs.Lexeme.{is_name_byte}
use Rattle.pami_lp_text.proofs.Classing.{name_broken, name_whole, names_more}
use Rattle.pami_lp_text.proofs.Pieces.{some_left}
use Rattle.pami_lp_text.proofs.class.is_name.Goals as goal

pub returns-then-not-is_name_byte : goal.returns-then-not-is_name_byte
returns-then-not-is_name_byte c =
    name_broken c.args.text.now c.loop-byte.byte-index 0 c.loop-byte-test.true (sym c.starts_name.ensures ∙ c.if-not-starts_name.false)
    (sym c.is_name_byte.ensures ∙ c.if-not-is_name_byte.true)

pub loop-byte-preserved : goal.loop-byte-preserved
loop-byte-preserved c =
    names_more c.args.text.now c.loop-byte.byte-index 0 true c.loop-byte-test.true c.loop-byte.invariant
    (sym c.is_name_byte.ensures ∙ c.if-not-is_name_byte.false)

pub returns : goal.returns
returns c =
    name_whole c.args.text.now true (some_left c.args.text.now c.is_empty.result c.is_empty.ensures c.if-is_empty.false)
    (sym c.starts_name.ensures ∙ c.if-not-starts_name.false)
    (ap (list_all is_name_byte) (sym (take_all c.loop-byte.byte-index c.args.text.now (omega (arith, c.loop-byte-test.false)))) ∙ c.loop-byte.invariant)
