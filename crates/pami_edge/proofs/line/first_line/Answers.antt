use Rattle.std.proofs.Common.{◌≡◌, ◌≢◌, ◌-◌, ℕ, subst, get_or, add-one, arith}
use Rattle.pami_edge.proofs.Cut.{last_line, plain_line, cut_line}
use Rattle.pami_edge.proofs.line.first_line.Goals as goal
use Rattle.pami_edge.proofs.line.first_line.Goals.{else-feed-gt0-via-then-feed-gt0+else-bytes-feed-eq13, else-feed-gt0-via-else-feed-gt0}

pub returns-then-feed-bytes-clause-first : goal.returns-then-feed-bytes-clause-first
returns-then-feed-bytes-clause-first c =
    let n = c.feed_place-feed.ensures in
    last_line c.args.bytes.now c.feed_place-feed.result (omega arith) c.requires n.before

pub returns-then-bytes-feed-eq13-clause-first : goal.returns-then-bytes-feed-eq13-clause-first
returns-then-bytes-feed-eq13-clause-first c =
    let n = c.feed_place-feed.ensures in
    cut_line c.args.bytes.now c.feed_place-feed.result (omega arith) (omega arith) n.before (n.found (omega arith)) c.if-bytes-feed-eq13.true

pub returns-clause-first : goal.returns-clause-first
returns-clause-first c =
    let n = c.feed_place-feed.ensures in
    rw add-one (plain_line c.args.bytes.now c.feed_place-feed.result (omega arith) n.before (n.found (omega arith))
    (λ j e. elim c.else-feed-gt0.branch [ else-feed-gt0-via-then-feed-gt0+else-bytes-feed-eq13 w ↦ (let back : c.feed_place-feed.result - 1 ≡ j = omega arith in subst (λ (m : ℕ). get_or c.args.bytes.now m 0 ≢ 13) back w.if-bytes-feed-eq13.false) | else-feed-gt0-via-else-feed-gt0 w ↦ absurd (omega arith) ]))
