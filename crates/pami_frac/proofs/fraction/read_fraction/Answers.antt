use Rattle.std.proofs.Common.{◌∙◌, ap, Ok}
use Rattle.pami_frac.proofs.PrintedParts.{first_part, second_part, no_value, same_value}
use Rattle.pami_frac.proofs.fraction.read_fraction.Goals as goal

pub returns-in-Some-clause-only : goal.returns-in-Some-clause-only
returns-in-Some-clause-only c = λ v f e. ap Ok (same_value (c.in-Some.ensures.only v f
    (c.split_at.ensures.front ∙ first_part v c.args.text.now c.slash_place.result f e c.slash_place.ensures.place)
    (c.split_at.ensures.back ∙ second_part v c.args.text.now c.slash_place.result f e c.slash_place.ensures.place)))

pub returns-in-None-clause-only : goal.returns-in-None-clause-only
returns-in-None-clause-only c = λ v f e. no_value (c.in-None.ensures.only v f
    (c.split_at.ensures.front ∙ first_part v c.args.text.now c.slash_place.result f e c.slash_place.ensures.place)
    (c.split_at.ensures.back ∙ second_part v c.args.text.now c.slash_place.result f e c.slash_place.ensures.place))
