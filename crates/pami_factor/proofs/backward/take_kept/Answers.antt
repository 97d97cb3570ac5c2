use Rattle.std.proofs.Common.{sym, ◌∙◌, ◌+◌, drop, Ok, subst, refl}
use Rattle.std.proofs.lemmas.List.{get_or_default}
use lib.IntN.{pos}
use Rattle.pami_algebra.specs.Operations.{of_int}
use Rattle.pami_script.specs.Dense.{at}
use Rattle.pami_factor.specs.Reads.{rest_at}
use Rattle.pami_factor.proofs.Taken.{IsTaking, taking_start, taking_place, taking_own, taking_next, taking_end, zero_takes}
use Rattle.pami_factor.proofs.backward.take_kept.Goals.{then-entry-own, else-entry-own}
use Rattle.pami_factor.proofs.backward.take_kept.Goals as goal

pub returns-then-is_zero-clause-each : goal.returns-then-is_zero-clause-each
returns-then-is_zero-clause-each c = λ g n. zero_takes c.args.factor (at c.args.kept.now g) (rest_at c.args.rests.now g) (c.if-is_zero.ensures.value.0 refl)

pub loop-entry-init : goal.loop-entry-init
loop-entry-init c = taking_start c.args.factor c.args.own c.args.rests.now c.args.kept.now c.requires

pub bounds-rests-place : goal.bounds-rests-place
bounds-rests-place c = taking_place c.args.factor c.args.own c.args.rests.now c.args.kept.now c.loop-entry.entry-index c.entry-item.result c.loop-entry.rests c.loop-entry.invariant c.loop-entry-test.true c.entry-item.is

pub loop-entry-preserved : goal.loop-entry-preserved
loop-entry-preserved c =
    let f = c.args.factor in
    let own = c.args.own in
    let old = c.args.rests.now in
    let es = c.args.kept.now in
    let i = c.loop-entry.entry-index in
    let e = c.entry-item.result in
    elim c.if-entry-own.branch [
      | then-entry-own w ↦ subst (λ rs. IsTaking f own old es (drop (i + 1) es) rs) (sym w.rests-is)
          (taking_next f own old es i e c.loop-entry.rests w.index-rests-place.result w.less.result c.loop-entry.invariant c.loop-entry-test.true c.entry-item.is
          (w.index-rests-place.is ∙ get_or_default c.loop-entry.rests e.place w.index-rests-place.result (Ok (of_int (pos 0)))
          (taking_place f own old es i e c.loop-entry.rests c.loop-entry.invariant c.loop-entry-test.true c.entry-item.is)) w.less.ensures)
      | else-entry-own w ↦ subst (λ rs. IsTaking f own old es (drop (i + 1) es) rs) (sym w.rests-is)
          (taking_own f own old es i e c.loop-entry.rests c.loop-entry.invariant c.loop-entry-test.true c.entry-item.is w.if-entry-own.false)
    ]

pub returns-clause-each : goal.returns-clause-each
returns-clause-each c = taking_end c.args.factor c.args.own c.args.rests.now c.args.kept.now c.loop-entry.entry-index c.loop-entry.rests c.loop-entry.invariant c.loop-entry-test.false
