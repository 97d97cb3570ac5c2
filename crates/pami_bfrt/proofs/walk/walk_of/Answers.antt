use Rattle.std.proofs.Common.{◌≡◌, length, sym, ap, ◌∙◌, subst, List, Option, Ok, ℕ}
use Rattle.pami_algebra.specs.Fraction.{Fraction}
use Rattle.pami_theory.specs.Order.{ordered}
use Rattle.pami_script.specs.Script.{then}
use Rattle.pami_bfrt.specs.Candidates.{Table, comes_before}
use Rattle.pami_bfrt.specs.Walks.{walk_over, onward, walk_script}
use Rattle.pami_bfrt.proofs.Walked.{walk_starts, walk_goes}
use Rattle.pami_bfrt.proofs.Distinct.{script_distinct, rest_distinct}
use Rattle.pami_bfrt.proofs.walk.walk_of.Goals as goal

pub loop-turn-init : goal.loop-turn-init
loop-turn-init c =
    let t : Table = record { stands = c.args.stands.now; bounds = c.args.bounds.now; widths = c.args.widths.now; reduced = c.args.reduced.now } in
    let walk = walk_over (ordered comes_before c.in-Ok.left.items) c.args.violation.now.amount in (
      ap (λ x. then x (λ cs. walk_over (ordered comes_before cs) c.args.violation.now.amount)) c.in-Ok.ensures
          ∙ walk_starts walk ∙ ap (λ (vs : List ℕ). onward vs walk) (sym c.new-flips.ensures.items),
      script_distinct t c.args.violation.now.side c.args.alpha.now (length c.args.stands.now) c.in-Ok.left.items c.requires.rising c.in-Ok.ensures,
    )

pub loop-turn-preserved : goal.loop-turn-preserved
loop-turn-preserved c =
    let t : Table = record { stands = c.args.stands.now; bounds = c.args.bounds.now; widths = c.args.widths.now; reduced = c.args.reduced.now } in
    let script = walk_script t c.args.alpha.now c.args.violation.now in
    let rest = c.take_first.new.candidates.items in (
      subst (λ (vs : List ℕ). script ≡ onward vs (walk_over (ordered comes_before rest) c.in-Ok-Some.next)) (sym c.in_ok-push-in-Ok-Some.ensures.items)
          (walk_goes c.loop-turn.left.items rest c.in-Some.candidate c.loop-turn.slope c.in-Ok-Some.next c.loop-turn.flips.items script c.loop-turn.invariant.0 c.in-Some.ensures.0 (ap (λ (o : Option Fraction). Ok o) (sym c.in-Ok-Some.field-0-is) ∙ c.in-Ok-Some.ensures)),
      rest_distinct c.loop-turn.left.items rest c.in-Some.candidate c.loop-turn.invariant.1 c.in-Some.ensures.0,
    )
