use Rattle.std.proofs.Common.{length, refl, ap, ◌∙◌, arith}
use Rattle.pami_minor.proofs.Sizes.{changes_length}
use Rattle.pami_minor.proofs.flips.flip_column.Goals as goal

pub from_dense-requires : goal.from_dense-requires
from_dense-requires c =
    let long = changes_length _ _ _ c.args.form.now.rows c.args.form.now.rows c.in_ok-changes.changes refl c.in_ok-changes.ensures in
    let read = ap length c.as_slice.ensures in
    let few = c.args.form.now.kept.form.few in
    let tall = c.args.form.now.kept.tall in
    let within = c.args.form.now.kept.form.row_variables in
    omega (arith, long, read, few, tall, within)

pub returns-clause-rows : goal.returns-clause-rows
returns-clause-rows c =
    ap length (c.in_ok-from_dense.ensures ∙ c.as_slice.ensures)
    ∙ changes_length _ _ _ c.args.form.now.rows c.args.form.now.rows c.in_ok-changes.changes refl c.in_ok-changes.ensures
