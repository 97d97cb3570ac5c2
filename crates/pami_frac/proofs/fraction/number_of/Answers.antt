use Rattle.std.proofs.Common.{◌≡◌, ◌∙◌, sym, ap, decimal, Some}
use Rattle.pami_frac.proofs.PrintedParts.{decimal_utf8, decimal_parsed, no_fault, one_value, not_same}
use Rattle.pami_frac.proofs.fraction.number_of.Goals as goal

pub returns-in-Err-clause-only : goal.returns-in-Err-clause-only
returns-in-Err-clause-only c = λ n l e. absurd (c.in-Err.ensures.cases.0 (decimal_utf8 n c.args.bytes.now l e))

pub returns-in-Err-from_str_radix-clause-only : goal.returns-in-Err-from_str_radix-clause-only
returns-in-Err-from_str_radix-clause-only c = λ n l e. no_fault c.from_str_radix.result (decimal_parsed n c.args.bytes.now c.in-Ok.text.now c.from_str_radix.result l e c.in-Ok.ensures.cases.0 c.from_str_radix.ensures.value) c.in-Err-from_str_radix.is

pub returns-then-eq-clause-only : goal.returns-then-eq-clause-only
returns-then-eq-clause-only c = λ n l e. ap Some (one_value c.from_str_radix.result (decimal_parsed n c.args.bytes.now c.in-Ok.text.now c.from_str_radix.result l e c.in-Ok.ensures.cases.0 c.from_str_radix.ensures.value) c.in-Ok-from_str_radix.is)

pub returns-else-eq-clause-only : goal.returns-else-eq-clause-only
returns-else-eq-clause-only c = λ n l e.
    let k : c.in-Ok-from_str_radix.number ≡ n = one_value c.from_str_radix.result (decimal_parsed n c.args.bytes.now c.in-Ok.text.now c.from_str_radix.result l e c.in-Ok.ensures.cases.0 c.from_str_radix.ensures.value) c.in-Ok-from_str_radix.is in
    let same : c.as_bytes.result.now ≡ c.args.bytes.now = c.as_bytes.ensures.value ∙ c.format.ensures.text ∙ ap decimal k ∙ sym e in
    absurd (not_same c.as_bytes.result.now c.args.bytes.now same (sym c.eq.ensures ∙ c.if-eq.false))
