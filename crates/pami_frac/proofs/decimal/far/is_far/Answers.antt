use Rattle.std.proofs.Common.{◌∙◌}
use Rattle.pami_frac.specs.Decimal.{is_negative}
use Rattle.pami_frac.proofs.DecimalOutcome.{IsParts, parts_by}
use Rattle.pami_frac.proofs.Infinite.{parts_digits, far_parts}
use Rattle.pami_frac.proofs.decimal.far.is_far.Goals as goal

-- what is cut off the text are the parts of its grammar
parts_of : (c : goal.After-after_point) → IsParts c.args.text.now c.split_at-2.result.0.now c.after_point.result.now c.split_at.result.1.now
parts_of c =
    parts_by c.args.text.now c.unsigned-body.result.now c.split_at.result.0.now c.split_at-2.result.1.now c.split_at-2.result.0.now c.after_point.result.now c.split_at.result.1.now c.mark_place.result c.point_place.result
    c.unsigned-body.ensures c.mark_place.ensures.place c.split_at.ensures.front c.split_at.ensures.back c.point_place.ensures.place c.split_at-2.ensures.front c.split_at-2.ensures.back c.after_point.ensures

pub is_far_by-requires-clause-whole : goal.is_far_by-requires-clause-whole
is_far_by-requires-clause-whole c = (parts_digits c.args.text.now c.split_at-2.result.0.now c.after_point.result.now c.split_at.result.1.now (parts_of c) c.requires).0

pub is_far_by-requires-clause-fraction : goal.is_far_by-requires-clause-fraction
is_far_by-requires-clause-fraction c = (parts_digits c.args.text.now c.split_at-2.result.0.now c.after_point.result.now c.split_at.result.1.now (parts_of c) c.requires).1

pub is_far_by-requires-clause-part : goal.is_far_by-requires-clause-part
is_far_by-requires-clause-part c = (parts_digits c.args.text.now c.split_at-2.result.0.now c.after_point.result.now c.split_at.result.1.now (parts_of c) c.requires).2

pub returns : goal.returns
returns c =
    let text = c.args.text.now in let w = c.split_at-2.result.0.now in let f = c.after_point.result.now in let p = c.split_at.result.1.now in
    let k : IsParts text w f p =
    parts_by text c.unsigned-body.result.now c.split_at.result.0.now c.split_at-2.result.1.now w f p c.mark_place.result c.point_place.result
    c.unsigned-body.ensures c.mark_place.ensures.place c.split_at.ensures.front c.split_at.ensures.back c.point_place.ensures.place c.split_at-2.ensures.front c.split_at-2.ensures.back c.after_point.ensures in
    c.is_far_by.ensures (is_negative text) ∙ far_parts text w f p k
