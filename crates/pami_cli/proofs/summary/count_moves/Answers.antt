use Rattle.std.proofs.Common.{◌≡◌, ◌≤◌, ◌+◌, sym, ◌∙◌, arith}
use Rattle.pami_log.specs.Events.{move_line}
use Rattle.pami_cli.proofs.FirstWords.{counted_more, counted_same, counted_all}
use Rattle.pami_cli.proofs.summary.count_moves.Goals as goal
use Rattle.pami_cli.proofs.summary.count_moves.Goals.{then-eq, else-eq}

pub loop-it-preserved : goal.loop-it-preserved
loop-it-preserved c =
    let w = c.args.word.now in
    let xs = c.args.moves.now in
    let i = c.loop-it.it-index in
    let small : c.loop-it.count ≤ c.loop-it.it-index = c.loop-it.invariant.0 in
    elim c.if-eq.branch [
      | then-eq b ↦ (
        (let n : c.if-eq.count ≡ c.loop-it.count + 1 = b.count-is in omega (arith, small, n)),
        λ names. counted_more w (move_line names) xs i c.it-item.result c.loop-it.count c.if-eq.count c.loop-it-test.true c.it-item.is (c.loop-it.invariant.1 names)
            (c.move_word.ensures names w ∙ sym c.eq.ensures ∙ b.if-eq.true) b.count-is,
      )
      | else-eq b ↦ (
        (let n : c.if-eq.count ≡ c.loop-it.count = b.count-is in omega (arith, small, n)),
        λ names. counted_same w (move_line names) xs i c.it-item.result c.loop-it.count c.if-eq.count c.loop-it-test.true c.it-item.is (c.loop-it.invariant.1 names)
            (c.move_word.ensures names w ∙ sym c.eq.ensures ∙ b.if-eq.false) b.count-is,
      )
    ]

pub returns : goal.returns
returns c = record {
  count = λ names. counted_all c.args.word.now (move_line names) c.args.moves.now c.loop-it.it-index c.loop-it.count (let t = c.loop-it-test.false in omega (arith, t)) (c.loop-it.invariant.1 names);
}
