use Rattle.std.proofs.Common.{[], ap, subst}
use Rattle.pami_frac.specs.Answers.{Follows}
use Rattle.pami_model.specs.Draft.{Draft}
use Rattle.pami_model.specs.Build.{columns_of}
use Rattle.pami_model.proofs.Tables.{row_fault-names}
use Rattle.pami_model.proofs.Kept.{kept-add_row}
use Rattle.pami_model.proofs.builder.Builder.add_row.Goals as goal

pub invariant_of-self : goal.invariant_of-self
invariant_of-self c =
    let e = c.add_name.ensures in
    kept-add_row (record { sense = c.self.inside.sense; constant = c.self.inside.constant; rows = []; columns = columns_of c.self.inside.columns.entries; pairs = c.self.inside.pairs.keys }) c.self.inside.stored c.self.inside.rows.entries c.add_name.new.table.entries c.args.name.now c.args.bounds c.add_name.result e.judged e.added e.kept c.self.invariant

pub returns-clause-judged : goal.returns-clause-judged
returns-clause-judged c = subst (λ f. Follows f c.add_name.result) (row_fault-names c.args.self.now c.self.inside.rows.entries c.args.name.now (ap (λ (d : Draft). d.rows) c.self.view_is)) c.add_name.ensures.judged
