use Rattle.std.proofs.Common.{◌≡◌, ◌+◌, ◌*◌, ◌-◌, arith, List, length, sym, ap, ◌∙◌, subst, Ok, Some, None, Result, Option}
use Rattle.pami_algebra.specs.Fraction.{Fraction}
use Rattle.pami_frac.specs.declared.arithmetic.Refused.{Refused}
use Rattle.pami_frac.specs.declared.list.Entry.{Entry}
use Rattle.pami_script.proofs.Loops.{get_is}
use Rattle.pami_vec.specs.Scripts.{dot_script}
use Rattle.pami_vec.specs.declared.change.Stop.{Stop}
use Rattle.pami_price.specs.Slices.{column_at, entries_script, slice_script, slice_size}
use Rattle.pami_price.specs.Sums.{AreSums}
use Rattle.pami_price.specs.Follow.{onto}
use Rattle.pami_price.proofs.Walked.{left, basic_goes, zero_goes, entry_goes}
use Rattle.pami_price.proofs.Summed.{slice_refused}
use Rattle.pami_price.proofs.price.price_onto.Goals.{then-is_nonbasic+then-not-is_zero+in_ok-push, then-is_nonbasic+else-not-is_zero, else-is_nonbasic}
use Rattle.pami_price.proofs.price.price_onto.Goals as goal

pub returns-in-Some : goal.returns-in-Some
returns-in-Some c =
    let first = 64 * c.args.slice in
    ap (λ n. entries_script c.args.by_row.now c.args.stands.now c.args.rho.now n first) (ap (λ n. slice_size n c.args.slice) (sym c.count.ensures) ∙ sym c.slice_size.ensures.value)
    ∙ slice_refused c.args.stands.now c.args.by_row.now c.args.rho.now c.in_ok-sums.field-0.sums.items first c.slice_size.result c.in-Some.stop
    (subst (λ (stop : Option Stop). AreSums c.args.stands.now first (first + c.slice_size.result) (λ v t. Ok t) (λ v. dot_script c.args.rho.now (column_at c.args.by_row.now v)) c.in_ok-sums.field-0.sums.items stop) c.in-Some.is c.in_ok-sums.ensures.sums)

pub loop-v-preserved : goal.loop-v-preserved
loop-v-preserved c =
    let first = 64 * c.args.slice in
    let last = first + c.slice_size.result in
    let v = c.loop-v.v in
    let h = c.loop-v-test.true in
    let low = c.loop-v.auto.v in
    let size = c.in_ok-sums.ensures.size in
    let columns = c.args.by_row.now in
    let stands = c.args.stands.now in
    let rho = c.args.rho.now in
    let items = c.in_ok-sums.field-0.sums.items in
    let a = subst (λ (stop : Option Stop). AreSums stands first last (λ v t. Ok t) (λ v. dot_script rho (column_at columns v)) items stop) c.in_default.is c.in_ok-sums.ensures.sums in
    let old = onto c.args.out.now.items (slice_script columns stands rho c.args.slice) in
    elim c.if-is_nonbasic.branch [
      | then-is_nonbasic+then-not-is_zero+in_ok-push w ↦
          subst (λ (es : List Entry). old ≡ onto es (left columns stands rho last (v + 1))) (sym (ap (λ o. o.items) w.out-is ∙ w.in_ok-push.ensures.items))
          (entry_goes columns stands rho last v w.index.result.now old c.loop-v.out.items c.loop-v.invariant h (sym c.is_nonbasic.ensures ∙ w.if-is_nonbasic.true)
          (a.sum v (omega arith) h (sym c.is_nonbasic.ensures ∙ w.if-is_nonbasic.true) ∙ ap (λ x. Ok x) (sym (get_is items (v - first) w.index.result.now (omega arith) w.index.ensures)))
          (sym w.is_zero.ensures.test ∙ w.if-not-is_zero.true))
      | then-is_nonbasic+else-not-is_zero w ↦
          subst (λ (es : List Entry). old ≡ onto es (left columns stands rho last (v + 1))) (sym (ap (λ o. o.items) w.out-is))
          (zero_goes columns stands rho last v w.index.result.now old c.loop-v.out.items c.loop-v.invariant h (sym c.is_nonbasic.ensures ∙ w.if-is_nonbasic.true)
          (a.sum v (omega arith) h (sym c.is_nonbasic.ensures ∙ w.if-is_nonbasic.true) ∙ ap (λ x. Ok x) (sym (get_is items (v - first) w.index.result.now (omega arith) w.index.ensures)))
          (sym w.if-not-is_zero.ensures.test))
      | else-is_nonbasic w ↦
          subst (λ (es : List Entry). old ≡ onto es (left columns stands rho last (v + 1))) (sym (ap (λ o. o.items) w.out-is))
          (basic_goes columns stands rho last v old c.loop-v.out.items c.loop-v.invariant h (sym c.is_nonbasic.ensures ∙ w.if-is_nonbasic.false))
    ]
