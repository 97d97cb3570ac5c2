use Rattle.std.proofs.Common.{◌≡◌, ◌<◌, ◌≤◌, get_or, length, sym, ap, ◌∙◌, arith, ⊎_elim}
use Rattle.std.proofs.lemmas.Bool.{cases_lt}
use Rattle.std.proofs.lemmas.List.{get_or_default}
use Rattle.pami_minor.specs.declared.kept.Kept.{Kept}
use Rattle.pami_minor.proofs.behind.index_of.Goals as goal

pub loop-i-preserved : goal.loop-i-preserved
loop-i-preserved c =
    let rows = c.args.rows.now in
    let inv = c.loop-i.invariant.1 in
    let le = inv.2 in
    let low = inv.3 in
    let here : c.loop-i.i < length rows = omega (arith, le, low) in
    let read : (k : Kept) → ¬ ((get_or rows c.loop-i.i k).at.place ≡ c.args.place) =
    λ k e. c.loop-i-test.true (ap (λ (z : Kept). z.at.place) (get_or_default rows c.loop-i.i c.index-rows-i.result k here) ∙ e) in (
      λ j k l. ⊎_elim
          (λ (m : j < c.loop-i.i). c.loop-i.invariant.0 j k m)
          (λ (m : c.loop-i.i ≤ j). let same : c.loop-i.i ≡ j = omega (arith, m, l) in
          λ e. read k (ap (λ i. (get_or rows i k).at.place) same ∙ e))
          (cases_lt j c.loop-i.i),
      ⊎_elim
          (λ (m : c.loop-i.i < inv.0). (inv.0, inv.1, omega (arith, m), inv.3, inv.4, inv.5))
          (λ (m : inv.0 ≤ c.loop-i.i).
          let same : inv.0 ≡ c.loop-i.i = omega (arith, m, le) in
          absurd (read inv.1 (ap (λ i. (get_or rows i inv.1).at.place) (sym same) ∙ ap (λ (z : Kept). z.at.place) inv.4 ∙ inv.5)))
          (cases_lt c.loop-i.i inv.0),
    )
