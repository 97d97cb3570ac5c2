use Rattle.std.proofs.Common.{◌≡◌, ◌≢◌, ◌<◌, ◌+◌, ◌++◌, ◌∷◌, [], ℕ, List, length, if◌then◌else◌, Bool, true, false, true≢false, sym, ap, ◌∙◌, subst, arith}
use lib.IntN.{pos}
use Rattle.std.specs.List.{list_any}
use Rattle.pami_algebra.specs.Operations.{of_int}
use Rattle.pami_model.specs.Draft.{Draft, changed, is_pair, is_zero, stores}
use Rattle.pami_model.specs.Build.{IsKept, columns_of, rows_of}
use Rattle.pami_model.proofs.Changed.{changed-same, length-changed}
use Rattle.pami_model.proofs.Kept.{columns-kept, columns-stored, kept-entry, kept-pair, not-true, on_err, stores-zero}
use Rattle.pami_model.proofs.builder.Builder.add_entry.Goals as goal

-- the pairs after a pair that is new
recorded : (new : List (ℕ × ℕ)) (old : List (ℕ × ℕ)) (column row : ℕ) → new ≡ (if list_any (is_pair column row) old then old else old ++ (column, row) ∷ []) → list_any (is_pair column row) old ≡ false → new ≡ old ++ (column, row) ∷ []
recorded new old column row e none = e ∙ ap (λ b. if b then old else old ++ (column, row) ∷ []) none

and_then : {A : Type 0} (b : Bool) (x y z : A) → z ≡ (if b then x else y) → b ≡ true → z ≡ x
and_then true x y z e h = e
and_then false x y z e h = absurd (true≢false (sym h))

or_else : {A : Type 0} (b : Bool) (x y z : A) → z ≡ (if b then x else y) → b ≡ false → z ≡ y
or_else true x y z e h = absurd (true≢false h)
or_else false x y z e h = e

pub invariant_of-self-then-is_zero : goal.invariant_of-self-then-is_zero
invariant_of-self-then-is_zero c =
    let d : Draft = record { sense = c.self.inside.sense; constant = c.self.inside.constant; rows = rows_of c.self.inside.rows.entries; columns = columns_of c.self.inside.columns.entries; pairs = c.self.inside.pairs.keys } in
    let none : list_any (is_pair c.args.column c.args.row) c.self.inside.pairs.keys ≡ false = not-true _ c.in_ok-insert.field-0 c.in_ok-insert.ensures.added c.if-not-branch.false in
    let e = recorded c.insert.new.self.keys c.self.inside.pairs.keys c.args.column c.args.row c.in_ok-insert.ensures.keys none in
    subst (λ pairs. IsKept (record d { pairs = pairs }) c.self.inside.stored) (sym e) (kept-pair d c.self.inside.stored (c.args.column, c.args.row) c.self.invariant)

pub returns-then-is_zero-clause-added : goal.returns-then-is_zero-clause-added
returns-then-is_zero-clause-added c =
    let d : Draft = record { sense = c.self.inside.sense; constant = c.self.inside.constant; rows = rows_of c.self.inside.rows.entries; columns = columns_of c.self.inside.columns.entries; pairs = c.self.inside.pairs.keys } in
    let none : list_any (is_pair c.args.column c.args.row) c.self.inside.pairs.keys ≡ false = not-true _ c.in_ok-insert.field-0 c.in_ok-insert.ensures.added c.if-not-branch.false in
    let e = recorded c.insert.new.self.keys c.self.inside.pairs.keys c.args.column c.args.row c.in_ok-insert.ensures.keys none in
    let nil : is_zero c.args.value ≡ true = sym c.is_zero.ensures.test ∙ c.if-is_zero.true in
    let same = changed-same (stores c.args.row c.args.value) (stores-zero c.args.row c.args.value nil) c.args.column (columns_of c.self.inside.columns.entries) in
    (λ i. record d { pairs = e i; columns = sym same i })
    ∙ ap (λ (d : Draft). record d { pairs = d.pairs ++ (c.args.column, c.args.row) ∷ []; columns = changed c.args.column (stores c.args.row c.args.value) d.columns }) c.self.view_is

pub invariant_of-self-in_err-store : goal.invariant_of-self-in_err-store
invariant_of-self-in_err-store c =
    let d : Draft = record { sense = c.self.inside.sense; constant = c.self.inside.constant; rows = rows_of c.self.inside.rows.entries; columns = columns_of c.self.inside.columns.entries; pairs = c.self.inside.pairs.keys } in
    let e = columns-kept c.self.inside.columns.entries c.args.column c.index_mut-building.result.now c.store.new.building c.index_mut-building.ensures.value c.store.ensures.same_cost c.store.ensures.same_bounds c.in_err-store.ensures.same_entries in
    subst (λ (d : Draft). IsKept d c.self.inside.stored) (λ i. record d { columns = sym e i; pairs = sym c.in_err-store.ensures.same_pairs i }) c.self.invariant

pub returns-in_err-store-clause-kept : goal.returns-in_err-store-clause-kept
returns-in_err-store-clause-kept c =
    let d : Draft = record { sense = c.self.inside.sense; constant = c.self.inside.constant; rows = rows_of c.self.inside.rows.entries; columns = columns_of c.self.inside.columns.entries; pairs = c.self.inside.pairs.keys } in
    let e = columns-kept c.self.inside.columns.entries c.args.column c.index_mut-building.result.now c.store.new.building c.index_mut-building.ensures.value c.store.ensures.same_cost c.store.ensures.same_bounds c.in_err-store.ensures.same_entries in
    on_err c.from_residual-in_err-store.result _ ((λ i. record d { columns = e i; pairs = c.in_err-store.ensures.same_pairs i }) ∙ c.self.view_is)

pub invariant_of-self-then-not-branch-2 : goal.invariant_of-self-then-not-branch-2
invariant_of-self-then-not-branch-2 c =
    let d : Draft = record { sense = c.self.inside.sense; constant = c.self.inside.constant; rows = rows_of c.self.inside.rows.entries; columns = columns_of c.self.inside.columns.entries; pairs = c.self.inside.pairs.keys } in
    let said = c.in_ok-store.ensures in
    let e = columns-kept c.self.inside.columns.entries c.args.column c.index_mut-building.result.now c.store.new.building c.index_mut-building.ensures.value c.store.ensures.same_cost c.store.ensures.same_bounds (or_else c.in_ok-store.field-0 _ _ _ said.stored c.if-not-branch-2.true) in
    let p = or_else c.in_ok-store.field-0 _ _ _ said.recorded c.if-not-branch-2.true in
    subst (λ (d : Draft). IsKept d c.self.inside.stored) (λ i. record d { columns = sym e i; pairs = sym p i }) c.self.invariant

pub returns-then-not-branch-2-clause-kept : goal.returns-then-not-branch-2-clause-kept
returns-then-not-branch-2-clause-kept c =
    let d : Draft = record { sense = c.self.inside.sense; constant = c.self.inside.constant; rows = rows_of c.self.inside.rows.entries; columns = columns_of c.self.inside.columns.entries; pairs = c.self.inside.pairs.keys } in
    let said = c.in_ok-store.ensures in
    let e = columns-kept c.self.inside.columns.entries c.args.column c.index_mut-building.result.now c.store.new.building c.index_mut-building.ensures.value c.store.ensures.same_cost c.store.ensures.same_bounds (or_else c.in_ok-store.field-0 _ _ _ said.stored c.if-not-branch-2.true) in
    let p = or_else c.in_ok-store.field-0 _ _ _ said.recorded c.if-not-branch-2.true in
    (λ i. record d { columns = e i; pairs = p i }) ∙ c.self.view_is

pub invariant_of-self-2 : goal.invariant_of-self-2
invariant_of-self-2 c =
    let d : Draft = record { sense = c.self.inside.sense; constant = c.self.inside.constant; rows = rows_of c.self.inside.rows.entries; columns = columns_of c.self.inside.columns.entries; pairs = c.self.inside.pairs.keys } in
    let said = c.in_ok-store.ensures in
    let nonzero : is_zero c.args.value ≡ false = sym c.is_zero.ensures.test ∙ c.if-is_zero.false in
    let some : c.args.value ≢ of_int (pos 0) = λ h. true≢false (sym (c.is_zero.ensures.value.1 h) ∙ c.if-is_zero.false) in
    let e = columns-stored c.self.inside.columns.entries c.args.column c.index_mut-building.result.now c.store.new.building c.index_mut-building.ensures.value c.store.ensures.same_cost c.store.ensures.same_bounds c.args.row c.args.value nonzero (and_then c.in_ok-store.field-0 _ _ _ said.stored c.if-not-branch-2.false) in
    let p = and_then c.in_ok-store.field-0 _ _ _ said.recorded c.if-not-branch-2.false in
    let none : list_any (is_pair c.args.column c.args.row) c.self.inside.pairs.keys ≡ false = not-true _ c.in_ok-store.field-0 said.fresh c.if-not-branch-2.false in
    let column_known : c.args.column < length (columns_of c.self.inside.columns.entries) = omega (arith, c.requires.column_known, ap (λ (d : Draft). length d.columns) c.self.view_is) in
    let row_known : c.args.row < length (rows_of c.self.inside.rows.entries) = omega (arith, c.requires.row_known, ap (λ (d : Draft). length d.rows) c.self.view_is) in
    subst (λ (d : Draft). IsKept d (c.self.inside.stored + 1)) (λ i. record d { columns = sym e i; pairs = sym p i }) (kept-entry d c.self.inside.stored c.args.column c.args.row c.args.value column_known row_known nonzero some none (omega arith) c.self.invariant)

pub returns-clause-added : goal.returns-clause-added
returns-clause-added c =
    let d : Draft = record { sense = c.self.inside.sense; constant = c.self.inside.constant; rows = rows_of c.self.inside.rows.entries; columns = columns_of c.self.inside.columns.entries; pairs = c.self.inside.pairs.keys } in
    let said = c.in_ok-store.ensures in
    let nonzero : is_zero c.args.value ≡ false = sym c.is_zero.ensures.test ∙ c.if-is_zero.false in
    let e = columns-stored c.self.inside.columns.entries c.args.column c.index_mut-building.result.now c.store.new.building c.index_mut-building.ensures.value c.store.ensures.same_cost c.store.ensures.same_bounds c.args.row c.args.value nonzero (and_then c.in_ok-store.field-0 _ _ _ said.stored c.if-not-branch-2.false) in
    let p = and_then c.in_ok-store.field-0 _ _ _ said.recorded c.if-not-branch-2.false in
    (λ i. record d { columns = e i; pairs = p i })
    ∙ ap (λ (d : Draft). record d { pairs = d.pairs ++ (c.args.column, c.args.row) ∷ []; columns = changed c.args.column (stores c.args.row c.args.value) d.columns }) c.self.view_is

pub returns-then-is_zero-clause-counted : goal.returns-then-is_zero-clause-counted
returns-then-is_zero-clause-counted c = ap (λ (d : Draft). length d.columns) (returns-then-is_zero-clause-added c) ∙ length-changed (stores c.args.row c.args.value) c.args.column c.args.self.now.columns

pub returns-clause-counted : goal.returns-clause-counted
returns-clause-counted c = ap (λ (d : Draft). length d.columns) (returns-clause-added c) ∙ length-changed (stores c.args.row c.args.value) c.args.column c.args.self.now.columns
