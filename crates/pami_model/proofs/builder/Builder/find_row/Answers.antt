use Rattle.std.proofs.Common.{sym, ap, ◌∙◌}
use Rattle.pami_model.specs.Rules.{names_of_rows}
use Rattle.pami_model.specs.Draft.{Draft, place_of}
use Rattle.pami_model.proofs.Tables.{place_of-rows}
use Rattle.pami_model.proofs.builder.Builder.find_row.Goals as goal

pub returns-in_err-place : goal.returns-in_err-place
returns-in_err-place c =
    let e = place_of-rows c.args.name.now c.self.inside.rows.entries in
    c.from_residual.ensures ∙ c.in_err-place.ensures.index ∙ sym e ∙ ap (λ (d : Draft). place_of c.args.name.now (names_of_rows d.rows)) c.self.view_is

pub returns : goal.returns
returns c =
    let e = place_of-rows c.args.name.now c.self.inside.rows.entries in
    c.in_ok-place.ensures.index ∙ sym e ∙ ap (λ (d : Draft). place_of c.args.name.now (names_of_rows d.rows)) c.self.view_is
