use Rattle.std.proofs.Common.{◌<◌, ◌&&◌, length, sym, ap, ◌∙◌, arith}
use Rattle.std.specs.List.{list_all}
use Rattle.pami_frac.specs.Decimal.{is_digit}
use Rattle.pami_frac.proofs.DecimalLaws.{digits_both, none_pos}
use Rattle.pami_frac.proofs.decimal.are_digits.Goals as goal

pub returns-then-are_all_digits : goal.returns-then-are_all_digits
returns-then-are_all_digits c =
    let p : 0 < length c.args.whole.now = none_pos (length c.args.whole.now) (sym c.is_empty.ensures ∙ c.if-is_empty.false) in
    c.are_all_digits-then-are_all_digits.ensures
    ∙ ap (λ b. b && list_all is_digit c.args.fraction.now) (sym c.if-are_all_digits.true ∙ c.are_all_digits.ensures)
    ∙ sym (digits_both c.args.whole.now c.args.fraction.now (omega arith))

pub returns-else-are_all_digits : goal.returns-else-are_all_digits
returns-else-are_all_digits c =
    let p : 0 < length c.args.whole.now = none_pos (length c.args.whole.now) (sym c.is_empty.ensures ∙ c.if-is_empty.false) in
    c.if-are_all_digits.false
    ∙ ap (λ b. b && list_all is_digit c.args.fraction.now) (sym c.if-are_all_digits.false ∙ c.are_all_digits.ensures)
    ∙ sym (digits_both c.args.whole.now c.args.fraction.now (omega arith))
