use Rattle.std.proofs.Common.{get_or, sym, ◌∙◌}
use Rattle.std.proofs.lemmas.Bool.{ne_eqb}
use Rattle.pami_lp_text.proofs.Classing.{no_number_first, number_scanned}
use Rattle.pami_lp_text.proofs.Pieces.{some_left}
use Rattle.pami_lp_text.proofs.class.is_number.Goals as goal

pub returns-then-first-ne46 : goal.returns-then-first-ne46
returns-then-first-ne46 c =
    no_number_first c.args.text.now (some_left c.args.text.now c.is_empty.result c.is_empty.ensures c.if-is_empty.false)
    (sym c.is_digit.ensures ∙ c.if-not-is_digit.true) (ne_eqb (get_or c.args.text.now 0 0) 46 c.if-first-ne46.true)

pub returns : goal.returns
returns c = c.ends_number.ensures ∙ number_scanned c.args.text.now c.scan_of.result c.scan_of.ensures
