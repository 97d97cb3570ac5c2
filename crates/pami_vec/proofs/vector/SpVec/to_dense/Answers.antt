use Rattle.std.proofs.Common.{◌<◌, length, sym, ap, ◌∙◌, subst, arith}
use Rattle.pami_vec.proofs.Members.{Writing, writing_start, entry_read, later_read, none_read}
use Rattle.pami_vec.proofs.vector.SpVec.to_dense.Goals.{then-next-entries+then-entries-next+in_ok-push, else-next-entries+in_ok-push-2, else-next-entries-via-then-next-entries+else-entries-next, else-next-entries-via-else-next-entries}
use Rattle.pami_vec.proofs.vector.SpVec.to_dense.Goals as goal

pub loop-place-init : goal.loop-place-init
loop-place-init c =
    subst (Writing c.args.self.now c.entries-entries.result.now 0) (sym c.new-members.ensures.items) (writing_start c.args.self.now c.entries-entries.result.now c.entries-entries.ensures)

pub loop-place-preserved : goal.loop-place-preserved
loop-place-preserved c =
    let row = c.args.self.now in
    let es = c.entries-entries.result.now in
    let i = c.loop-place.next in
    let j = c.if-next-entries.next in
    let k = c.loop-place.place in
    let out = c.loop-place.members.items in
    let new = c.if-next-entries.members.items in
    let within : k < length row = omega (arith, c.loop-place-test.true, c.len-place-end.ensures) in
    elim c.if-next-entries.branch [
      | then-next-entries+then-entries-next+in_ok-push w ↦
          entry_read row es i j k w.index-entries-next.result w.index-entries-next-then-entries-next.result out new c.loop-place.invariant within w.if-next-entries.true w.if-entries-next.true w.next-is
          (ap (λ v. v.items) w.members-is ∙ w.in_ok-push.ensures.items)
      | else-next-entries+in_ok-push-2 w ↦ elim w.else-next-entries.branch [
        | else-next-entries-via-then-next-entries+else-entries-next x ↦
            later_read row es i j k x.index-entries-next.result w.zero.result out new c.loop-place.invariant within x.if-next-entries.true x.if-entries-next.false w.next-is w.zero.ensures
            (ap (λ v. v.items) w.members-is ∙ w.in_ok-push-2.ensures.items)
        | else-next-entries-via-else-next-entries x ↦
            none_read row es i j k w.zero.result out new c.loop-place.invariant within x.if-next-entries.false w.next-is w.zero.ensures
            (ap (λ v. v.items) w.members-is ∙ w.in_ok-push-2.ensures.items)
      ]
    ]
