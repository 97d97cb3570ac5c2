use Rattle.std.proofs.Common.{◌≡◌, ◌+◌, ◌-◌, ◌<◌, ◌≤◌, ℕ, suc, length, drop, set, List, sym, ap, ◌∙◌, subst, arith, Some, Result, Ok, Err}
use Rattle.pami_algebra.specs.Fraction.{Fraction}
use Rattle.pami_frac.specs.declared.list.Entry.{Entry}
use Rattle.pami_script.specs.Script.{add_product}
use Rattle.pami_script.proofs.Loops.{get_is}
use Rattle.pami_script.proofs.Skipped.{at_below}
use Rattle.pami_vec.proofs.Built.{rising_from}
use Rattle.pami_price.specs.Sums.{AreSums, AreFrom, limit_of, with_row}
use Rattle.pami_price.proofs.Summed.{basic_passed, entry_added, entry_refused, row_ended, none_left, none_below, rising_next, read_place, from_first}
use Rattle.pami_price.proofs.sums.add_row.Goals.{then-is_nonbasic+in-Ok, else-is_nonbasic}
use Rattle.pami_price.proofs.sums.add_row.Goals as goal

pub returns-in-Err-clause-sums : goal.returns-in-Err-clause-sums
returns-in-Err-clause-sums c = λ rest outcome a.
    let es = c.args.entries.now in
    let k = c.loop-k.k in
    let x = c.index-entries-k-in-loop-k.result in
    let i = c.loop-k.invariant in
    let l = c.loop-k-test.true in
    let high = length c.args.stands.now in
    let n = rising_next es k c.args.first high x l c.index-entries-k-in-loop-k.is i.1 in
    let from = n.0 in
    let p = read_place es k x c.index-entries-k.result l c.index-entries-k-in-loop-k.is in
    let t = c.if-entries-k.true in
    let limit = c.limit-limit.ensures in
    let within = c.requires.stop in
    let size = c.requires.size in
    let as_many = i.0 in
    row_ended c.args.stands.now c.args.first c.args.last (k + 1) 0 high c.args.factor es rest outcome c.loop-k.sums (Some (record { place = x.place; refused = c.in-Err.refused })) (omega arith)
    (λ v h. at_below (drop (k + 1) es) (suc x.place) high v n.2 (omega arith))
    (entry_refused c.args.stands.now c.args.first c.args.last k x c.args.factor c.in-Err.refused es rest outcome c.loop-k.sums c.args.before l c.index-entries-k-in-loop-k.is from (omega arith) (omega arith)
    (sym c.is_nonbasic.ensures ∙ c.if-is_nonbasic.true)
    (ap (λ z. add_product z c.args.factor x.value) (sym (get_is c.loop-k.sums (x.place - c.args.first) c.index-sums-v.result (omega arith) c.index-sums-v.is)) ∙ sym c.in-Err.ensures)
    (i.2 rest outcome a))

pub loop-k-preserved : goal.loop-k-preserved
loop-k-preserved c =
    let es = c.args.entries.now in
    let k = c.loop-k.k in
    let x = c.index-entries-k-in-loop-k.result in
    let i = c.loop-k.invariant in
    let l = c.loop-k-test.true in
    let high = length c.args.stands.now in
    let n = rising_next es k c.args.first high x l c.index-entries-k-in-loop-k.is i.1 in
    let from = n.0 in
    let p = read_place es k x c.index-entries-k.result l c.index-entries-k-in-loop-k.is in
    let t = c.if-entries-k.true in
    let limit = c.limit-limit.ensures in
    let within = c.requires.stop in
    let size = c.requires.size in
    let as_many = i.0 in (
      c.if-is_nonbasic.auto.sums ∙ i.0,
      rising_from (drop (k + 1) es) (suc x.place) c.args.first high (omega arith) n.2,
      λ rest outcome a. elim c.if-is_nonbasic.branch [
        | then-is_nonbasic+in-Ok w ↦
            subst (λ (sums : List Fraction). AreSums c.args.stands.now c.args.first c.args.last (with_row c.args.factor (drop (k + 1) es) rest) outcome sums c.args.before) (sym w.sums-is)
            (entry_added c.args.stands.now c.args.first c.args.last k c.args.first high x c.args.factor w.in-Ok.sum es rest outcome c.loop-k.sums c.args.before l c.index-entries-k-in-loop-k.is i.1 from (omega arith) (omega arith)
            (sym c.is_nonbasic.ensures ∙ w.if-is_nonbasic.true)
            (ap (λ z. add_product z c.args.factor x.value) (sym (get_is c.loop-k.sums (x.place - c.args.first) w.index-sums-v.result (omega arith) w.index-sums-v.is)) ∙ sym w.in-Ok.ensures)
            (i.2 rest outcome a))
        | else-is_nonbasic w ↦
            subst (λ (sums : List Fraction). AreSums c.args.stands.now c.args.first c.args.last (with_row c.args.factor (drop (k + 1) es) rest) outcome sums c.args.before) (sym w.sums-is)
            (basic_passed c.args.stands.now c.args.first c.args.last k x c.args.factor es rest outcome c.loop-k.sums c.args.before l c.index-entries-k-in-loop-k.is (sym c.is_nonbasic.ensures ∙ w.if-is_nonbasic.false) (i.2 rest outcome a))
      ],
    )

pub returns-else-entries-k-clause-sums : goal.returns-else-entries-k-clause-sums
returns-else-entries-k-clause-sums c = λ rest outcome a.
    let es = c.args.entries.now in
    let k = c.loop-k.k in
    let x = c.index-entries-k.result in
    let i = c.loop-k.invariant in
    let l = c.loop-k-test.true in
    let p = read_place es k x x l c.index-entries-k.is in
    let t = c.if-entries-k.false in
    let limit = c.limit-limit.ensures in
    row_ended c.args.stands.now c.args.first c.args.last k 0 0 c.args.factor es rest outcome c.loop-k.sums c.args.before c.requires.stop
    (λ v h. none_below es k c.args.first (length c.args.stands.now) v x l c.index-entries-k.is i.1 (omega arith)) (i.2 rest outcome a)

pub returns-after-loop-k-clause-sums : goal.returns-after-loop-k-clause-sums
returns-after-loop-k-clause-sums c = λ rest outcome a.
    let es = c.args.entries.now in
    row_ended c.args.stands.now c.args.first c.args.last c.loop-k.k 0 0 c.args.factor es rest outcome c.loop-k.sums c.args.before c.requires.stop
    (λ v h. none_left es c.loop-k.k v c.loop-k-test.false) (c.loop-k.invariant.2 rest outcome a)
