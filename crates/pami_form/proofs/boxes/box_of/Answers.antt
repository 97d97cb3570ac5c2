use Rattle.pami_form.proofs.Boxings.{free_box, upper_box}
use Rattle.pami_form.proofs.boxes.box_of.Goals as goal

pub returns-in-None-None : goal.returns-in-None-None
returns-in-None-None c =
    free_box c.args.bounds.now c.between.result c.negate.result c.one.result c.one-in-None-None.result
    c.between.ensures c.negate.ensures c.one.ensures c.one-in-None-None.ensures c.in-None-None.is-0 c.in-None-None.is-1

pub returns-in-None-Some : goal.returns-in-None-Some
returns-in-None-Some c =
    upper_box c.args.bounds.now (c.between-in-None-Some.result) c.negate-in-None-Some.result c.one-in-None-Some.result c.zero.result c.in-None-Some.field-0-1
    c.between-in-None-Some.ensures c.negate-in-None-Some.ensures c.one-in-None-Some.ensures c.zero.ensures c.in-None-Some.is-0 c.in-None-Some.is-1
