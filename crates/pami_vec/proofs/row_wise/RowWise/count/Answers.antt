use Rattle.std.proofs.Common.{length, sym, ap, ◌∙◌}
use Rattle.pami_vec.proofs.Turned.{length_rows}
use Rattle.pami_vec.proofs.row_wise.RowWise.count.Goals as goal

pub returns : goal.returns
returns c = sym (length_rows c.self.inside.count 0 c.self.inside.rows.items) ∙ ap length c.self.view_is
