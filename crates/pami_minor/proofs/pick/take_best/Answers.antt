use Rattle.std.proofs.Common.{Option, Some, refl, sym, subst}
use Rattle.pami_minor.specs.declared.row.RowNow.{RowNow}
use Rattle.pami_minor.specs.Picks.{TakesBest}
use Rattle.pami_minor.proofs.pick.take_best.Goals as goal

pub returns-in-Some : goal.returns-in-Some
returns-in-Some c =
    subst (λ (best : Option RowNow). TakesBest best c.args.rows.now.items c.take_row-kept.new.rows.items (Some (record { violation = c.in-Some.row.violation; at = c.take_row-kept.result.at }))) (sym c.in-Some.is)
    (c.take_row-kept.result, c.take_row-kept.ensures, refl, refl)
