use Rattle.std.proofs.Common.{◌+◌, ◌*◌, ◌-◌, arith, sym, subst, take, get_or}
use Rattle.pami_frac.specs.Decimal.{number_after}
use Rattle.pami_frac.proofs.DecimalLaws.{IsCapped, capped_more, capped_rest, after_more}
use Rattle.pami_frac.proofs.decimal.number.Goals.{then-number-lt-FAR, else-number-lt-FAR}
use Rattle.pami_frac.proofs.decimal.number.Goals as goal

pub loop-byte-preserved : goal.loop-byte-preserved
loop-byte-preserved c =
    let ds = c.args.digits.now in
    let i = c.loop-byte.byte-index in
    let n = number_after 0 (take i ds) in
    let d = get_or ds i 0 - 48 in
    let small = c.type_inv.digits i in
    let k : IsCapped n c.loop-byte.number = record { near = c.loop-byte.invariant.near; far = c.loop-byte.invariant.far; bound = c.loop-byte.invariant.bound } in
    let now : IsCapped (number_after 0 (take (i + 1) ds)) c.if-number-lt-FAR.number =
    subst (λ m. IsCapped m c.if-number-lt-FAR.number) (sym (after_more 0 ds i c.loop-byte-test.true))
    (elim c.if-number-lt-FAR.branch [
      | then-number-lt-FAR w ↦ subst (λ s. IsCapped (n * 10 + d) s) (sym w.number-is) (capped_more n c.loop-byte.number d k w.if-number-lt-FAR.true (omega (arith, small)))
      | else-number-lt-FAR w ↦ subst (λ s. IsCapped (n * 10 + d) s) (sym w.number-is) (capped_rest n c.loop-byte.number d k w.if-number-lt-FAR.false)
    ]) in
    record { near = now.near; far = now.far; bound = now.bound }
