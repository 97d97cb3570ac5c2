use Rattle.std.proofs.Common.{◌≡◌, ◌*◌, ◌^◌, ◌%◌, min, max, ap, ◌∙◌, sym, arith, to_z, of_z}
use Rattle.std.proofs.lemmas.Int.{ints}
use mir.Syntax.{w32}
use lib.IntN.{ℤ, ◌-ℤ◌}
use Rattle.pami_algebra.specs.Size.{size}
use Rattle.pami_devex.proofs.Reweighed.{beside_other, shifted_one}
use Rattle.pami_devex.proofs.weights.reweigh_one.Goals as goal

pub returns-clause-value : goal.returns-clause-value
returns-clause-value c =
    let e = c.clamped.result in
    let a = c.args.alpha_i.now in
    let b = c.args.alpha_p.now in
    let z : ℤ = to_z w32 (of_z w32 (to_z w32 (of_z w32 c.size.result) -ℤ to_z w32 (of_z w32 c.size-2.result))) in
    let s : z ≡ size a -ℤ size b = omega (arith, ints) in
    c.max.ensures
    ∙ ap (λ m. max m c.args.weight) (c.min.ensures ∙ ap (λ m. min m (2 ^ 40)) c.saturating_mul.ensures)
    ∙ beside_other c.args.weight c.args.weight_p ((1 * 2 ^ (2 * e)) % 2 ^ 64) a b e z (sym c.is_zero.ensures.test ∙ c.if-is_zero.false)
    c.clamped.ensures.value s (shifted_one e c.clamped.ensures.small)
