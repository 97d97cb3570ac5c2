use Rattle.std.proofs.Common.{◌≡◌, refl, subst}
use Rattle.std.specs.List.{All}
use Rattle.std.proofs.lemmas.List.{take_all}
use Rattle.std.proofs.lemmas.List.Elements.{All-more}
use Rattle.pami_devex.specs.Weights.{IsWeight}
use Rattle.pami_collect.proofs.tests.are_weights.Goals as goal

pub loop-k-preserved : goal.loop-k-preserved
loop-k-preserved c = All-more IsWeight c.args.weights.now c.loop-k.k 0 c.loop-k-test.true c.loop-k.invariant (c.if-not-is_weight.ensures refl)

pub returns : goal.returns
returns c = λ e. subst (All IsWeight) (take_all c.loop-k.k c.args.weights.now c.loop-k-test.false) c.loop-k.invariant
