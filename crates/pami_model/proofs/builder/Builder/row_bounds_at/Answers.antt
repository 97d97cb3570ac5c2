use Rattle.std.proofs.Common.{ℕ, List, [], refl, sym, ap, ◌∙◌}
use Rattle.pami_frac.specs.declared.list.Bounds.{Bounds}
use Rattle.pami_model.specs.Draft.{Draft, row_at, new_row, nonnegative}
use Rattle.pami_model.specs.declared.list.Row.{Row}
use Rattle.pami_model.proofs.Changed.{said-at}
use Rattle.pami_model.proofs.builder.Builder.row_bounds_at.Goals as goal

pub returns : goal.returns
returns c =
    sym (said-at (λ (p : List ℕ × Bounds). new_row p.0 p.1) (λ (x : Row). x.bounds) (λ b. b) (λ n v. refl) c.self.inside.rows.entries c.args.row c.index.result.now (new_row [] nonnegative) c.index.ensures)
    ∙ ap (λ (d : Draft). (row_at d.rows c.args.row).bounds) c.self.view_is
