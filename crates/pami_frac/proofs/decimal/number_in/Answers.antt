use Rattle.std.proofs.Common.{◌≡◌, true, refl, sym, ◌∙◌, rules}
use Rattle.pami_frac.specs.Decimal.{number_after}
use Rattle.pami_frac.specs.DecimalDigits.{IsRead}
use Rattle.pami_frac.proofs.DecimalLaws.{digits_parts}
use Rattle.pami_frac.proofs.DecimalOutcome.{IsParts, parts_by, parts_value, wide_of_parts, wide_in_parts, decimal_of_parts}
use Rattle.pami_frac.proofs.decimal.number_in.Goals as goal

pub read_digits-requires-clause-digits : goal.read_digits-requires-clause-digits
read_digits-requires-clause-digits c =
    let k : c.are_digits.result ≡ true = search rules in
    (digits_parts c.split_at-2.result.0.now c.after_point-fraction.result.now (sym c.are_digits.ensures ∙ k)).0

pub read_digits-mantissa-requires-clause-digits : goal.read_digits-mantissa-requires-clause-digits
read_digits-mantissa-requires-clause-digits c =
    let k : c.are_digits.result ≡ true = search rules in
    (digits_parts c.split_at-2.result.0.now c.after_point-fraction.result.now (sym c.are_digits.ensures ∙ k)).1

pub returns-in-Some-clause-too_wide : goal.returns-in-Some-clause-too_wide
returns-in-Some-clause-too_wide c =
    let text = c.args.text.now in let w = c.split_at-2.result.0.now in let f = c.after_point-fraction.result.now in let p = c.split_at.result.1.now in
    let k : IsParts text w f p =
    parts_by text c.unsigned-body.result.now c.split_at.result.0.now c.split_at-2.result.1.now w f p c.mark_place.result c.point_place.result
    c.unsigned-body.ensures c.mark_place.ensures.place c.split_at.ensures.front c.split_at.ensures.back c.point_place.ensures.place c.split_at-2.ensures.front c.split_at-2.ensures.back c.after_point-fraction.ensures in
    let read : IsRead c.read_digits-mantissa.result (number_after (number_after 0 w) f) = c.read_digits-mantissa.ensures.read _ (c.read_digits.ensures.read 0 refl) in
    (λ x. cc, λ x. absurd (let n = (c.in-Some.ensures.refused _ read).1 (wide_in_parts text w f p c.is_negative.result k c.is_negative.ensures x.1) in cc))

pub returns-in-Some-clause-value : goal.returns-in-Some-clause-value
returns-in-Some-clause-value c =
    let text = c.args.text.now in let w = c.split_at-2.result.0.now in let f = c.after_point-fraction.result.now in let p = c.split_at.result.1.now in
    let k : IsParts text w f p =
    parts_by text c.unsigned-body.result.now c.split_at.result.0.now c.split_at-2.result.1.now w f p c.mark_place.result c.point_place.result
    c.unsigned-body.ensures c.mark_place.ensures.place c.split_at.ensures.front c.split_at.ensures.back c.point_place.ensures.place c.split_at-2.ensures.front c.split_at-2.ensures.back c.after_point-fraction.ensures in
    let read : IsRead c.read_digits-mantissa.result (number_after (number_after 0 w) f) = c.read_digits-mantissa.ensures.read _ (c.read_digits.ensures.read 0 refl) in
    c.in-Some.ensures.value _ read ∙ parts_value text w f p c.is_negative.result k c.is_negative.ensures

pub returns-in-None-clause-too_wide : goal.returns-in-None-clause-too_wide
returns-in-None-clause-too_wide c =
    let text = c.args.text.now in let w = c.split_at-2.result.0.now in let f = c.after_point-fraction.result.now in let p = c.split_at.result.1.now in
    let k : IsParts text w f p =
    parts_by text c.unsigned-body.result.now c.split_at.result.0.now c.split_at-2.result.1.now w f p c.mark_place.result c.point_place.result
    c.unsigned-body.ensures c.mark_place.ensures.place c.split_at.ensures.front c.split_at.ensures.back c.point_place.ensures.place c.split_at-2.ensures.front c.split_at-2.ensures.back c.after_point-fraction.ensures in
    let read : IsRead c.read_digits-mantissa.result (number_after (number_after 0 w) f) = c.read_digits-mantissa.ensures.read _ (c.read_digits.ensures.read 0 refl) in
    let a : c.are_digits.result ≡ true = search rules in
    let b : c.is_exponent.result ≡ true = search rules in
    (λ x. (decimal_of_parts text w f p k (sym c.are_digits.ensures ∙ a) (sym c.is_exponent.ensures ∙ b), wide_of_parts text w f p c.is_negative.result k c.is_negative.ensures ((c.in-None.ensures.refused _ read).0 refl)), λ x. refl)
