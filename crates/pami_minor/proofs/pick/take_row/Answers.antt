use Rattle.std.proofs.Common.{◌≡◌, ◌<◌, ◌≤◌, get_or, length, sym, ap, ◌∙◌, arith, ⊎_elim}
use Rattle.std.proofs.lemmas.Bool.{cases_lt}
use Rattle.std.proofs.lemmas.List.{get_or_default}
use Rattle.pami_minor.specs.declared.kept.Kept.{Kept}
use Rattle.pami_minor.proofs.pick.take_row.Goals as goal

pub loop-i-init : goal.loop-i-init
loop-i-init c =
    let n = c.args.rows.now.ok.0 in
    let l = c.requires.2.0 in
    (c.requires.0, c.requires.1, omega arith, omega (arith, n, l), c.requires.2.1, c.requires.2.2)

pub loop-i-preserved : goal.loop-i-preserved
loop-i-preserved c =
    let inv = c.loop-i.invariant in
    let le = inv.2 in
    ⊎_elim
    (λ (m : c.loop-i.i < inv.0). (inv.0, inv.1, omega (arith, m), inv.3, inv.4, inv.5))
    (λ (m : inv.0 ≤ c.loop-i.i).
    let same : inv.0 ≡ c.loop-i.i = omega (arith, m, le) in
    let n = c.args.rows.now.ok.0 in
    let low = inv.3 in
    let l : c.loop-i.i < length c.args.rows.now.items = omega (arith, n, low, same) in
    let row : c.index.result.now ≡ inv.1 =
    c.index.ensures ∙ get_or_default c.args.rows.now.items c.loop-i.i c.index.result.now inv.1 l
    ∙ ap (λ i. get_or c.args.rows.now.items i inv.1) (sym same) ∙ inv.4 in
    absurd (c.loop-i-test.true (ap (λ (k : Kept). k.at.place) row ∙ inv.5)))
    (cases_lt c.loop-i.i inv.0)
