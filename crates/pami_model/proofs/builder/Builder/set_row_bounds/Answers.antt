use Rattle.std.proofs.Common.{◌≡◌, List, length, ℕ, refl, sym, ap, ◌∙◌, subst}
use Rattle.indexmap.specs.Layout.{set_value_at}
use Rattle.pami_frac.specs.declared.list.Bounds.{Bounds}
use Rattle.pami_model.specs.Draft.{Draft, changed, new_row, row_with_bounds}
use Rattle.pami_model.specs.Build.{IsKept, columns_of, rows_of}
use Rattle.pami_model.proofs.Changed.{changed-written, length-changed}
use Rattle.pami_model.proofs.Kept.{kept-changed_row}
use Rattle.pami_model.proofs.builder.Builder.set_row_bounds.Goals as goal

pub invariant_of-self : goal.invariant_of-self
invariant_of-self c =
    let old = c.self.inside.rows.entries in
    let f = row_with_bounds c.args.bounds in
    let d : Draft = record { sense = c.self.inside.sense; constant = c.self.inside.constant; rows = rows_of old; columns = columns_of c.self.inside.columns.entries; pairs = c.self.inside.pairs.keys } in
    let e : rows_of (set_value_at old c.args.row c.args.bounds) ≡ changed c.args.row f (rows_of old) = changed-written (λ (p : List ℕ × Bounds). new_row p.0 p.1) f c.index_mut.result.now c.args.bounds (λ n. refl) old c.args.row c.index_mut.ensures.value in
    subst (λ rows. IsKept (record d { rows = rows }) c.self.inside.stored) (sym e) (kept-changed_row d c.self.inside.stored c.args.row f (λ x. refl) c.self.invariant)

pub returns-clause-set : goal.returns-clause-set
returns-clause-set c =
    let old = c.self.inside.rows.entries in
    let f = row_with_bounds c.args.bounds in
    let d : Draft = record { sense = c.self.inside.sense; constant = c.self.inside.constant; rows = rows_of old; columns = columns_of c.self.inside.columns.entries; pairs = c.self.inside.pairs.keys } in
    let e : rows_of (set_value_at old c.args.row c.args.bounds) ≡ changed c.args.row f (rows_of old) = changed-written (λ (p : List ℕ × Bounds). new_row p.0 p.1) f c.index_mut.result.now c.args.bounds (λ n. refl) old c.args.row c.index_mut.ensures.value in
    ap (λ rows. record d { rows = rows }) e ∙ ap (λ (d : Draft). record d { rows = changed c.args.row f d.rows }) c.self.view_is

pub returns-clause-counted : goal.returns-clause-counted
returns-clause-counted c = ap (λ (d : Draft). length d.rows) (returns-clause-set c) ∙ length-changed (row_with_bounds c.args.bounds) c.args.row c.args.self.now.rows
