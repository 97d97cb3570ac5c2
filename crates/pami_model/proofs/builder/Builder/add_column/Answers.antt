use Rattle.std.proofs.Common.{[], None, Some, ap, subst}
use Rattle.pami_frac.specs.Answers.{Follows}
use Rattle.pami_model.specs.Draft.{Draft}
use Rattle.pami_model.specs.Build.{rows_of}
use Rattle.pami_model.proofs.Tables.{column_fault-names}
use Rattle.pami_model.proofs.Kept.{kept-add_column}
use Rattle.pami_model.proofs.builder.Builder.add_column.Goals as goal

pub invariant_of-self : goal.invariant_of-self
invariant_of-self c =
    let e = c.add_name.ensures in
    kept-add_column (record { sense = c.self.inside.sense; constant = c.self.inside.constant; rows = rows_of c.self.inside.rows.entries; columns = []; pairs = c.self.inside.pairs.keys }) c.self.inside.stored c.self.inside.columns.entries c.add_name.new.table.entries c.args.name.now _ c.add_name.result (λ i. record { name = c.args.name.now; cost = c.zero-zero.ensures i; bounds = record { low = Some (c.zero-zero.ensures i); high = None }; entries = c.new.ensures.items i }) e.judged e.added e.kept c.self.invariant

pub returns-clause-judged : goal.returns-clause-judged
returns-clause-judged c = subst (λ f. Follows f c.add_name.result) (column_fault-names c.args.self.now c.self.inside.columns.entries c.args.name.now (ap (λ (d : Draft). d.columns) c.self.view_is)) c.add_name.ensures.judged
