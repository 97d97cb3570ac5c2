use Rattle.std.proofs.Common.{◌≡◌, ◌+◌, ◌-◌, ◌≤◌, ℕ, length, drop, List, pos, refl, sym, ap, ◌∙◌, subst, arith, Result}
use Rattle.std.proofs.lemmas.List.{length-replicate}
use Rattle.pami_algebra.specs.Fraction.{Fraction}
use Rattle.pami_frac.specs.declared.arithmetic.Refused.{Refused}
use Rattle.pami_algebra.specs.Operations.{of_int}
use Rattle.pami_vec.specs.Scripts.{dot_script}
use Rattle.pami_price.specs.Slices.{column_at}
use Rattle.pami_price.specs.Sums.{AreSums, limit_of, with_row}
use Rattle.pami_price.proofs.Summed.{sums_start, next_row, rows_ended, written, rest_of}
use Rattle.pami_price.proofs.sums.slice_sums.Goals as goal

pub loop-entry-init : goal.loop-entry-init
loop-entry-init c =
    let size = ap length c.in_ok-sums.ensures ∙ length-replicate (c.args.last - c.args.first) (of_int (pos 0)) in
    let order = c.requires.order in (
      omega arith,
      omega arith,
      sums_start c.args.by_row.now c.args.stands.now c.args.rho.now c.entries-entries.result.now c.args.first c.args.last (c.args.last - c.args.first) c.in_ok-sums.sums.items c.entries-entries.ensures refl c.in_ok-sums.ensures,
    )

pub loop-entry-preserved : goal.loop-entry-preserved
loop-entry-preserved c =
    let es = c.entries-entries.result.now in
    let i = c.loop-entry.invariant in
    let ok = c.loop-entry.sums.ok in
    let k = c.loop-entry.entry-index in
    let x = c.entry-item.result in
    let size = i.0 in
    let few = c.requires.few in
    let same = c.requires.same in
    let lent = c.as_mut_slice.ensures.value in
    let many = c.add_row-stop.ensures.as_many ∙ ap length lent in
    let back = written c.loop-entry.sums.len c.add_row-stop.new.sums c.loop-entry.sums.items many (omega arith) in
    let outcome : ℕ → Result Fraction Refused = λ v. dot_script c.args.rho.now (column_at c.args.by_row.now v) in
    let rest : ℕ → Fraction → Result Fraction Refused = rest_of c.args.by_row.now (drop (k + 1) es) in
    let before = next_row c.args.by_row.now c.args.stands.now c.args.first c.args.last k x es c.row-row.result.now outcome c.loop-entry.sums.items c.loop-entry.stop c.loop-entry-test.true c.entry-item.is c.row-row.ensures i.1 (omega arith) i.2 in (
      (let b = ap length back in omega arith),
      c.add_row-stop.ensures.stop,
      subst (λ (sums : List Fraction). AreSums c.args.stands.now c.args.first c.args.last rest outcome sums c.add_row-stop.result) (sym back)
          (c.add_row-stop.ensures.sums rest outcome (subst (λ (sums : List Fraction). AreSums c.args.stands.now c.args.first c.args.last (with_row x.value c.row-row.result.now rest) outcome sums c.loop-entry.stop) (sym lent) before)),
    )

pub returns-clause-sums : goal.returns-clause-sums
returns-clause-sums c =
    let i = c.loop-entry.invariant in
    rows_ended c.args.by_row.now c.args.stands.now c.args.first c.args.last c.loop-entry.entry-index c.entries-entries.result.now (λ v. dot_script c.args.rho.now (column_at c.args.by_row.now v)) c.loop-entry.sums.items c.loop-entry.stop
    c.loop-entry-test.false i.1 i.2
