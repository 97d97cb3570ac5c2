use Rattle.std.proofs.Common.{◌≡◌, ◌<◌, length, refl, sym, ap, ◌∙◌, subst, arith}
use Rattle.pami_model.specs.declared.builder.Building.{Building}
use Rattle.pami_model.specs.Draft.{Draft, changed, column_with_bounds}
use Rattle.pami_model.specs.Build.{IsKept, built_column, columns_of, rows_of}
use Rattle.indexmap.specs.Layout.{set_value_at}
use Rattle.pami_model.proofs.Changed.{changed-written, length-changed}
use Rattle.pami_model.proofs.Kept.{kept-changed}
use Rattle.pami_model.proofs.builder.Builder.set_column_bounds.Goals as goal

pub invariant_of-self : goal.invariant_of-self
invariant_of-self c =
    let old = c.self.inside.columns.entries in
    let d : Draft = record { sense = c.self.inside.sense; constant = c.self.inside.constant; rows = rows_of c.self.inside.rows.entries; columns = columns_of old; pairs = c.self.inside.pairs.keys } in
    let w : Building = record c.index_mut.result.now { bounds = c.args.bounds } in
    let e : columns_of (set_value_at old c.args.column w) ≡ changed c.args.column (column_with_bounds c.args.bounds) (columns_of old) = changed-written built_column (column_with_bounds c.args.bounds) c.index_mut.result.now w (λ n. refl) old c.args.column c.index_mut.ensures.value in
    let known : c.args.column < length (columns_of old) = omega (arith, c.requires, ap (λ (d : Draft). length d.columns) c.self.view_is) in
    subst (λ columns. IsKept (record d { columns = columns }) c.self.inside.stored) (sym e) (kept-changed d c.self.inside.stored c.args.column (column_with_bounds c.args.bounds) (λ x. refl) (λ x. refl) known c.self.invariant)

pub returns-clause-set : goal.returns-clause-set
returns-clause-set c =
    let old = c.self.inside.columns.entries in
    let w : Building = record c.index_mut.result.now { bounds = c.args.bounds } in
    let e : columns_of (set_value_at old c.args.column w) ≡ changed c.args.column (column_with_bounds c.args.bounds) (columns_of old) = changed-written built_column (column_with_bounds c.args.bounds) c.index_mut.result.now w (λ n. refl) old c.args.column c.index_mut.ensures.value in
    let d : Draft = record { sense = c.self.inside.sense; constant = c.self.inside.constant; rows = rows_of c.self.inside.rows.entries; columns = columns_of old; pairs = c.self.inside.pairs.keys } in
    ap (λ columns. record d { columns = columns }) e ∙ ap (λ (d : Draft). record d { columns = changed c.args.column (column_with_bounds c.args.bounds) d.columns }) c.self.view_is

pub returns-clause-counted : goal.returns-clause-counted
returns-clause-counted c = ap (λ (d : Draft). length d.columns) (returns-clause-set c) ∙ length-changed (column_with_bounds c.args.bounds) c.args.column c.args.self.now.columns
