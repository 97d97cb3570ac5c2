use Rattle.std.proofs.Common.{[], refl, sym, ap, ◌∙◌}
use Rattle.pami_model.specs.Draft.{Draft, column_at, new_column}
use Rattle.pami_model.specs.Build.{built_column}
use Rattle.pami_model.specs.declared.list.Column.{Column}
use Rattle.pami_model.specs.declared.builder.Building.{Building}
use Rattle.pami_model.proofs.Changed.{said-at}
use Rattle.pami_model.proofs.builder.Builder.cost_at.Goals as goal

pub returns : goal.returns
returns c =
    sym (said-at built_column (λ (x : Column). x.cost) (λ (b : Building). b.cost) (λ n v. refl) c.self.inside.columns.entries c.args.column c.index.result.now (new_column []) c.index.ensures)
    ∙ ap (λ (d : Draft). (column_at d.columns c.args.column).cost) c.self.view_is
