use Rattle.std.proofs.Common.{◌≡◌, List, length, map, sym, subst, ◌∙◌}
use Rattle.pami_model.specs.declared.list.Row.{Row}
use Rattle.pami_model.specs.Rules.{AreColumns, AreRows, IsDistinct}
use Rattle.pami_model.specs.Draft.{Draft, finished}
use Rattle.pami_model.specs.Build.{columns_of, rows_of}
use Rattle.pami_model.proofs.Tables.{names_of-columns, names_of-rows}
use Rattle.pami_model.proofs.Finish.{all_apart, columns_kept, rows_kept}
use Rattle.pami_model.proofs.builder.Builder.finish.Goals as goal

pub finish_columns-requires-clause-apart : goal.finish_columns-requires-clause-apart
finish_columns-requires-clause-apart c =
    let d : Draft = record { sense = c.self.inside.sense; constant = c.self.inside.constant; rows = rows_of c.self.inside.rows.entries; columns = columns_of c.self.inside.columns.entries; pairs = c.self.inside.pairs.keys } in
    all_apart d c.self.inside.stored c.self.invariant

pub invariant_of-result : goal.invariant_of-result
invariant_of-result c =
    let d : Draft = record { sense = c.self.inside.sense; constant = c.self.inside.constant; rows = rows_of c.self.inside.rows.entries; columns = columns_of c.self.inside.columns.entries; pairs = c.self.inside.pairs.keys } in
    let rows : d.rows ≡ c.from_vec.result = sym (c.from_vec.ensures ∙ c.in_ok-rows.ensures.rows) in
    let columns : map finished d.columns ≡ c.from_vec-2.result = sym (c.from_vec-2.ensures ∙ c.in_ok-columns.ensures.columns) in
    let row_names = subst IsDistinct (sym (names_of-rows c.self.inside.rows.entries)) c.in_ok-rows.ensures.distinct in
    let column_names = subst IsDistinct (sym (names_of-columns c.self.inside.columns.entries)) c.in_ok-columns.ensures.distinct in
    record {
      rows_kept = subst AreRows rows (rows_kept d c.self.inside.stored c.self.invariant row_names c.in_ok-rows.ensures.judged);
      columns_kept =
          subst (λ (rs : List Row). AreColumns (length rs) c.from_vec-2.result) rows
          (subst (AreColumns (length d.rows)) columns (columns_kept d c.self.inside.stored c.self.invariant column_names c.in_ok-columns.ensures.judged));
    }
