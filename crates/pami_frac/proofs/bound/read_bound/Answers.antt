use Rattle.std.proofs.Common.{◌∙◌, sym, ap, Ok, Err}
use Rattle.pami_frac.specs.BoundText.{is_infinite as the_infinite}
use Rattle.pami_frac.specs.declared.fault.DecimalFault.TheVariants.{TooWide}
use Rattle.pami_frac.proofs.BoundOutcome.{endless_word, endless_decimal, finite_decimal, not_a_bound, decimal_read, decimal_wide}
use Rattle.pami_frac.proofs.bound.read_bound.Goals as goal

pub returns-then-spells_infinity : goal.returns-then-spells_infinity
returns-then-spells_infinity c = record {
  outcome = endless_word c.args.text.now c.is_negative.result c.endless.result (sym c.spells_infinity.ensures ∙ c.if-spells_infinity.true) c.is_negative.ensures c.endless.ensures;
}

pub returns-then-is_infinite : goal.returns-then-is_infinite
returns-then-is_infinite c =
    let is = decimal_read c.args.text.now c.in-Ok.value c.in-Ok.ensures.outcome in
    record {
      outcome = endless_decimal c.args.text.now c.is_negative-then-is_infinite.result c.endless-then-is_infinite.result (sym c.spells_infinity.ensures ∙ c.if-spells_infinity.false) is.0
          (ap the_infinite (sym is.1) ∙ sym c.is_infinite.ensures ∙ c.if-is_infinite.true) c.is_negative-then-is_infinite.ensures c.endless-then-is_infinite.ensures;
    }

pub returns-then-is_far : goal.returns-then-is_far
returns-then-is_far c = record {
  outcome = endless_decimal c.args.text.now c.is_negative-then-is_far.result c.endless-then-is_far.result (sym c.spells_infinity.ensures ∙ c.if-spells_infinity.false)
      (decimal_wide c.args.text.now (ap Err (sym c.in-Err-TooWide.field-0-is) ∙ c.in-Err-TooWide.ensures.outcome)) (sym c.is_far.ensures ∙ c.if-is_far.true) c.is_negative-then-is_far.ensures c.endless-then-is_far.ensures;
}

pub returns-else-is_infinite : goal.returns-else-is_infinite
returns-else-is_infinite c =
    let is = decimal_read c.args.text.now c.in-Ok.value c.in-Ok.ensures.outcome in
    record {
      outcome = finite_decimal c.args.text.now (Ok c.in-Ok.value) (sym c.spells_infinity.ensures ∙ c.if-spells_infinity.false) (ap the_infinite (sym is.1) ∙ sym c.is_infinite.ensures ∙ c.if-is_infinite.false) c.in-Ok.ensures.outcome;
    }

pub returns-in-Err-NotANumber : goal.returns-in-Err-NotANumber
returns-in-Err-NotANumber c = record { outcome = not_a_bound c.args.text.now (sym c.spells_infinity.ensures ∙ c.if-spells_infinity.false) (ap Err (sym c.in-Err-NotANumber.field-0-is) ∙ c.in-Err-NotANumber.ensures.outcome) }

pub returns-else-is_far : goal.returns-else-is_far
returns-else-is_far c = record {
  outcome = finite_decimal c.args.text.now (Err TooWide) (sym c.spells_infinity.ensures ∙ c.if-spells_infinity.false) (sym c.is_far.ensures ∙ c.if-is_far.false) (ap Err (sym c.in-Err-TooWide.field-0-is) ∙ c.in-Err-TooWide.ensures.outcome);
}
