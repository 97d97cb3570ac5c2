use Rattle.std.proofs.Common.{◌≡◌, ◌∙◌, ◌+◌, ◌-◌, ◌/◌, ◌<◌, ◌≤◌, sym, length, get_or, subst, arith}
use Rattle.pami_frac.specs.declared.list.Entry.{Entry}
use Rattle.pami_theory.specs.Form.{zero_f}
use Rattle.pami_check.proofs.Sought.{skipped, past}
use Rattle.pami_check.proofs.sums.entry_at.Goals as goal
use Rattle.pami_check.proofs.sums.entry_at.Goals.{else-low-entries-via-then-low-entries+else-entries-low, else-low-entries-via-else-low-entries}

pub loop-low-preserved-then-entries-middle : goal.loop-low-preserved-then-entries-middle
loop-low-preserved-then-entries-middle c =
    let es = c.args.entries.now in
    let e = c.index-entries-middle.result in
    let l = c.loop-low.low in
    let h = c.loop-low.high in
    let m = l + (h - l) / 2 in
    let inv = c.loop-low.invariant in
    let less : l < h = c.loop-low-test.true in
    let most : h ≤ length es = inv.1 in
    let inside : m < length es = omega arith in
    let below : (get_or es m e).place < c.args.row = c.if-entries-middle.true in
    (omega arith, most, skipped es m c.args.row e c.requires inside below, inv.3)

pub returns-clause-none : goal.returns-clause-none
returns-clause-none c =
    let es = c.args.entries.now in
    let l = c.loop-low.low in
    let h = c.loop-low.high in
    let inv = c.loop-low.invariant in
    let same : h ≡ l = (let a = inv.0 in let b = c.loop-low-test.false in omega (arith, a, b)) in
    inv.2 ∙ elim c.else-low-entries.branch [
      | else-low-entries-via-then-low-entries+else-entries-low w ↦
          let e = w.index-entries-low.result in
          past es l c.args.row e c.requires (λ b.
          let not_below = inv.3 e (subst (λ n. n < length es) (sym same) b) in
          let k : c.args.row ≤ (get_or es l e).place = subst (λ n. c.args.row ≤ (get_or es n e).place) same not_below in
          let n : ¬ ((get_or es l e).place ≡ c.args.row) = (λ q. w.if-entries-low.false q) in
          omega (arith, k, n))
      | else-low-entries-via-else-low-entries w ↦ (
          let b = w.if-low-entries.false in
          let none : Entry = record { place = 0; value = zero_f } in
          past es l c.args.row none c.requires (λ k. absurd (omega (arith, b, k))))
    ]
