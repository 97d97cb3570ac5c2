use Rattle.std.proofs.Common.{◌≡◌, ◌∙◌, ap, ℕ, ◌<◌, List, length, get_or, Err, arith}
use Rattle.std.proofs.lemmas.List.{get_or_default}
use Rattle.std.proofs.lemmas.Result.{err_from_is_err_and}
use Rattle.pami_algebra.specs.Fraction.{Fraction}
use Rattle.pami_linear.specs.Lists.{get}
use Rattle.pami_frac.specs.Arithmetic.{sub_outcome}
use Rattle.pami_theory.specs.Form.{zero_f}
use Rattle.pami_collect.specs.Exchanges.{exchange_of}
use Rattle.pami_collect.proofs.Exchanges.{one_exchange, entering_stops, leaving_stops, leaving_goes}
use Rattle.pami_collect.proofs.Movements.{becomes_err}
use Rattle.pami_collect.proofs.values.exchange.Goals as goal

read_is : (values w : List Fraction) (p : ℕ) (x : Fraction) → p < length values → length w ≡ length values → x ≡ get_or w p x → x ≡ get w p
read_is values w p x l n e = e ∙ get_or_default w p x zero_f (omega arith)

pub returns-in-Err : goal.returns-in-Err
returns-in-Err c =
    entering_stops c.args.values.now c.entries.result.now (exchange_of c.args.step.now c.args.column.now) c.in-Err.stop.place c.in-Err.stop.refused
    c.entries.ensures c.requires.entries c.in-Err.ensures

pub returns-in_err-values : goal.returns-in_err-values
returns-in_err-values c =
    let p = err_from_is_err_and c.from_residual.result c.from_residual.ensures.1 in
    let w = c.change_members.new.members in
    let bound = c.args.step.now.bound in
    becomes_err (one_exchange (exchange_of c.args.step.now c.args.column.now) c.args.values.now) _ c.from_residual.result c.in_err-values.field-0.0
    (p.1 ∙ ap Err p.2)
    (leaving_stops c.args.values.now c.entries.result.now (exchange_of c.args.step.now c.args.column.now) w c.in_err-values.field-0.0
    c.entries.ensures c.requires.entries c.in-Ok.ensures
    (c.in_err-values.ensures
    ∙ ap (λ (x : Fraction). sub_outcome x bound)
    (read_is c.args.values.now w c.args.step.now.place c.index-values-place.result c.requires.place c.in-Ok.ensures.as_many c.index-values-place.is)))

pub returns : goal.returns
returns c =
    let w = c.change_members.new.members in
    let bound = c.args.step.now.bound in
    leaving_goes c.args.values.now c.entries.result.now (exchange_of c.args.step.now c.args.column.now) w c.in_ok-values.field-0
    c.entries.ensures c.requires.entries c.in-Ok.ensures
    (c.in_ok-values.ensures
    ∙ ap (λ (x : Fraction). sub_outcome x bound)
    (read_is c.args.values.now w c.args.step.now.place c.index-values-place.result c.requires.place c.in-Ok.ensures.as_many c.index-values-place.is))
