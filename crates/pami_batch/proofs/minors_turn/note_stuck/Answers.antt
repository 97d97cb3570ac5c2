use Rattle.std.proofs.Common.{length, inr, sym, ap, ◌∙◌, arith}
use Rattle.pami_script.specs.Dense.{dense}
use Rattle.pami_theory.specs.Fresh.{row_at}
use Rattle.pami_minor.proofs.Walking.{picked_low}
use Rattle.pami_batch.proofs.Noted.{copied_is}
use Rattle.pami_batch.proofs.minors_turn.note_stuck.Goals as goal

pub bounds-head-pick : goal.bounds-head-pick
bounds-head-pick c =
    let t = c.requires.turn in
    let low = picked_low t.0 t.1 t.2 t.3 t.4 c.args.minor.now t.5 in
    let many = ap length c.head.ensures ∙ ap length t.5.head ∙ t.5.reached.basis.places in
    let e = t.6 in
    omega (arith, low, many, e)

pub rho-rho-requires : goal.rho-rho-requires
rho-rho-requires c =
    let t = c.requires.turn in
    record { place = inr (t.5.picked.0, t.5.picked.1, t.5.picked.2.place ∙ t.6) }

pub returns-clause-rho : goal.returns-clause-rho
returns-clause-rho c = λ f limit r row n h e.
    copied_is c.from_entries.result (dense c.len.result c.entries.result.now) (row_at r.fresh row.place) c.from_entries.ensures
    (ap (λ k. dense k c.entries.result.now) c.len.ensures ∙ c.entries.ensures.values ∙ c.rho-rho.ensures.picked f limit r row n h e ∙ ap (row_at r.fresh) (sym e))
