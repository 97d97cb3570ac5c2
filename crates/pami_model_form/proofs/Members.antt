-- The members of a model's rows and columns, and where they stand in its form.
use Rattle.std.proofs.Common.{◌≡◌, ℕ, zero, suc, ◌+◌, ◌-◌, ◌<◌, List, [], ◌∷◌, ◌++◌, length, map, get_or, slice_get, option_map, None, Some, sym, ap, ◌∙◌, subst, arith, nat_eq}
use Rattle.std.proofs.lemmas.Bool.{cond-false, ne_eqb}
use Rattle.std.proofs.lemmas.Option.{slice_get-map, slice_get_within, get_or_from_slice_get}
use Rattle.std.proofs.lemmas.List.{get_or-append-add, length-map}
use Rattle.std.proofs.Math.ListN.{get_or-append}
use Rattle.pami_frac.specs.declared.list.Bounds.{Bounds}
use Rattle.pami_model.specs.declared.list.Row.{Row}
use Rattle.pami_model.specs.declared.list.Column.{Column}
use Rattle.pami_model.specs.Contents.{Contents}
use Rattle.pami_linear.specs.Lists.{get}
use Rattle.pami_script.specs.Dense.{at, dense}
use Rattle.pami_script.proofs.Skipped.{get_dense}
use Rattle.pami_theory.specs.Form.{entry, limits, cost, row_variable, zero_f}
use Rattle.pami_model_form.specs.ModelForm.{member, minimised, file_cost, model_form}

-- a member that was read
pub member_read : {X A : Type 0} (f : X → A) (d : A) (xs : List X) (i : ℕ) (x : X) → i < length xs → x ≡ get_or xs i x → f x ≡ member f d xs i
member_read f d [] i x l e = absurd (omega arith)
member_read f d (y ∷ xs) zero x l e = ap f e
member_read f d (y ∷ xs) (suc i) x l e =
    let k : suc i - 1 ≡ i = omega arith in
    member_read f d xs i x (omega arith) e
    ∙ ap (member f d xs) (sym k)
    ∙ sym (cond-false (nat_eq (suc i) 0) (f y) _ (ne_eqb (suc i) 0 (λ h. absurd (omega (arith, h)))))

pub member_is : {X A : Type 0} (f : X → A) (d : A) (xs : List X) (i : ℕ) (x : X) → slice_get xs i ≡ Some x → member f d xs i ≡ f x
member_is f d xs i x e = sym (member_read f d xs i x (slice_get_within xs i x e) (sym (get_or_from_slice_get xs i x x e)))

-- a member of a list that was made member by member
mapped : {X A : Type 0} (f : X → A) (d : A) (xs : List X) (i : ℕ) (x : X) → slice_get xs i ≡ Some x → get_or (map f xs) i d ≡ f x
mapped f d xs i x e = get_or_from_slice_get (map f xs) i (f x) d (slice_get-map f xs i ∙ ap (option_map f) e)

within_map : {X A : Type 0} (f : X → A) (xs : List X) (i : ℕ) (x : X) → slice_get xs i ≡ Some x → i < length (map f xs)
within_map f xs i x e = subst (λ n. i < n) (sym (length-map xs f)) (slice_get_within xs i x e)

-- ---- bounds
abbrev none : Bounds
none = record { low = None; high = None }

pub bounds_of_column : (c : Contents) (j : ℕ) (column : Column) → slice_get c.columns j ≡ Some column → limits (model_form c) j ≡ column.bounds
bounds_of_column c j column e =
    let own = λ (x : Column). x.bounds in
    get_or-append (map own c.columns) (map (λ (r : Row). r.bounds) c.rows) none j (within_map own c.columns j column e) ∙ mapped own none c.columns j column e

pub bounds_of_row : (c : Contents) (i : ℕ) (row : Row) → slice_get c.rows i ≡ Some row → limits (model_form c) (row_variable (model_form c) i) ≡ row.bounds
bounds_of_row c i row e =
    let first : List Bounds = map (λ (x : Column). x.bounds) c.columns in
    let rest : List Bounds = map (λ (r : Row). r.bounds) c.rows in
    ap (λ n. get_or (first ++ rest) (n + i) none) (sym (length-map c.columns (λ (x : Column). x.bounds)))
    ∙ get_or-append-add first rest i none
    ∙ mapped (λ (r : Row). r.bounds) none c.rows i row e

-- ---- costs and entries
pub cost_of_column : (c : Contents) (j : ℕ) (column : Column) → slice_get c.columns j ≡ Some column → cost (model_form c) j ≡ minimised c.sense column.cost
cost_of_column c j column e = mapped (λ (x : Column). minimised c.sense x.cost) zero_f c.columns j column e

pub own_cost : (c : Contents) (j : ℕ) (column : Column) → slice_get c.columns j ≡ Some column → file_cost c j ≡ column.cost
own_cost c j column e = member_is (λ (x : Column). x.cost) zero_f c.columns j column e

pub entry_of_column : (c : Contents) (j : ℕ) (column : Column) (i : ℕ) →
    slice_get c.columns j ≡ Some column → i < length c.rows → entry (model_form c) i j ≡ at column.entries i
entry_of_column c j column i e l =
    ap (λ xs. get xs i) (mapped (λ (x : Column). dense (length c.rows) x.entries) [] c.columns j column e)
    ∙ get_dense (length c.rows) column.entries i l
