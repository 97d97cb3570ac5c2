use Rattle.std.proofs.Common.{◌≡◌, map, ◌∷◌, ◌++◌, [], refl}
use Rattle.std.proofs.lemmas.List.{map_push}
use Rattle.pami_mps.proofs.Words.{some_left, starts, goes_on}
use Rattle.pami_mps.proofs.text.words.Goals as goal

pub loop-rest-init : goal.loop-rest-init
loop-rest-init c =
    let n = c.blanks.ensures in
    starts (map (λ x. x.now) c.new-out.result.items) c.args.line.now c.blanks.result (rw c.new-out.ensures.items refl) n.within n.before n.found

pub loop-rest-preserved : goal.loop-rest-preserved
loop-rest-preserved c =
    let e : map (λ x. x.now) c.push.new.self.items ≡ map (λ x. x.now) c.loop-rest.out.items ++ c.split_at.result.0.now ∷ [] =
    rw c.in_ok-push.ensures.items (map_push _ c.loop-rest.out.items c.split_at.result.0) in
    let n = c.word_length.ensures in
    let m = c.blanks-in-loop-rest.ensures in
    goes_on (map (λ x. x.now) c.loop-rest.out.items) (map (λ x. x.now) c.push.new.self.items) c.args.line.now c.loop-rest.rest.now c.split_at.result.0.now c.split_at.result.1.now c.word_length.result c.blanks-in-loop-rest.result
    c.loop-rest.invariant e c.split_at.ensures.front c.split_at.ensures.back
    (some_left c.loop-rest.rest.now c.is_empty.result c.is_empty.ensures c.loop-rest-test.true) n.within n.before n.found m.within m.before m.found
