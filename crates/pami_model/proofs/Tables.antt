-- Tables of names: what a map with vectors as keys holds, as the lists of a draft.
use Rattle.std.proofs.Common.{◌≡◌, ◌+◌, ◌≤◌, ◌<◌, ℕ, suc, Bool, true, false, true≢false, cond, not, eqb, List, [], ◌∷◌, ◌++◌, map, length, nat_lt, None, Some, is_some, refl, sym, ap, ◌∙◌}
use Rattle.std.proofs.lemmas.List.{length-map}
use borrow.Author.Tests.{ltb-false, ltb-true}
use Rattle.std.specs.Map.{lookup}
use Rattle.indexmap.specs.IndexMap.{insert_entry}
use Rattle.std.specs.Global.{Vec}
use Rattle.std.specs.List.{position_or_len, position}
use Rattle.std.specs.Option.{option_map}
use Rattle.std.specs.Str.{bytes_eq}
use Rattle.std.specs.Cmp.Lexicographic.{pointwise}
use Rattle.pami_frac.specs.declared.list.Bounds.{Bounds}
use Rattle.pami_model.specs.declared.builder.Building.{Building}
use Rattle.pami_model.specs.declared.builder.Side.{Side}
use Rattle.pami_model.specs.declared.builder.Side.TheVariants as sides
use Rattle.pami_model.specs.declared.fault.BuildFault.TheVariants as faults
use Rattle.pami_model.specs.declared.fault.What.TheVariants as what
use Rattle.pami_model.specs.Rules.{names_of_rows, names_of_columns, name_limit, row_limit, column_limit}
use Rattle.pami_model.specs.Judgement.{first_of, wrong_if}
use Rattle.pami_model.specs.Draft.{Draft, place_of, row_fault, column_fault}
use Rattle.pami_model.specs.Build.{rows_of, columns_of, names_of, named, name_fault, duplicate_on, too_many_on, limit_on}
use Rattle.pami_model.proofs.Judging.{both_none, unset}

pub names_of-rows : (es : List (Vec ℕ × Bounds)) → names_of_rows (rows_of es) ≡ names_of es
names_of-rows [] = refl
names_of-rows (e ∷ es) = ap (λ (ns : List (List ℕ)). e.0.items ∷ ns) (names_of-rows es)

pub names_of-columns : (es : List (Vec ℕ × Building)) → names_of_columns (columns_of es) ≡ names_of es
names_of-columns [] = refl
names_of-columns (e ∷ es) = ap (λ (ns : List (List ℕ)). e.0.items ∷ ns) (names_of-columns es)

module _ {V : Type 0} (q : List ℕ) where
  position_or_len-names : (es : List (Vec ℕ × V)) → position_or_len (bytes_eq q) (names_of es) ≡ position_or_len (λ k. pointwise eqb q k.items) (map (λ e. e.0) es)
  position_or_len-names [] = refl
  position_or_len-names (e ∷ es) = by (pointwise eqb q e.0.items) (position_or_len-names es)
    where
      by : (b : Bool) → position_or_len (bytes_eq q) (names_of es) ≡ position_or_len (λ k. pointwise eqb q k.items) (map (λ e. e.0) es)
          → cond (not b) (1 + position_or_len (bytes_eq q) (names_of es)) 0 ≡ cond (not b) (1 + position_or_len (λ k. pointwise eqb q k.items) (map (λ e. e.0) es)) 0
      by true h = refl
      by false h = ap (λ (n : ℕ). 1 + n) h

  length-names : (es : List (Vec ℕ × V)) → length (names_of es) ≡ length (map (λ e. e.0) es)
  length-names [] = refl
  length-names (e ∷ es) = ap suc (length-names es)

  -- the place of a name is the index of its key
  pub place_of-names : (es : List (Vec ℕ × V)) → place_of q (names_of es) ≡ position (λ k. pointwise eqb q k.items) (map (λ e. e.0) es)
  place_of-names es i = let n = position_or_len-names es i in cond (nat_lt n (length-names es i)) (Some n) None

pub place_of-rows : (q : List ℕ) (es : List (Vec ℕ × Bounds)) → place_of q (names_of_rows (rows_of es)) ≡ position (λ k. pointwise eqb q k.items) (map (λ e. e.0) es)
place_of-rows q es = ap (place_of q) (names_of-rows es) ∙ place_of-names q es

pub place_of-columns : (q : List ℕ) (es : List (Vec ℕ × Building)) → place_of q (names_of_columns (columns_of es)) ≡ position (λ k. pointwise eqb q k.items) (map (λ e. e.0) es)
place_of-columns q es = ap (place_of q) (names_of-columns es) ∙ place_of-names q es

-- a new name goes last
pub named-insert : {V : Type 0} (k : Vec ℕ) (v : V) (es : List (Vec ℕ × V)) → is_some (lookup (λ y. pointwise eqb k.items y.items) es) ≡ false
    → named (insert_entry (λ x y. pointwise eqb x.items y.items) es k v) ≡ named es ++ (k.items, v) ∷ []
named-insert {V = V} k v [] none = refl
named-insert {V = V} k v (e ∷ es) none = by (pointwise eqb k.items e.0.items) none (named-insert k v es)
  where
    by : (b : Bool) → is_some (cond b (Some e.1) (lookup (λ y. pointwise eqb k.items y.items) es)) ≡ false
        → (is_some (lookup (λ y. pointwise eqb k.items y.items) es) ≡ false → named (insert_entry (λ x y. pointwise eqb x.items y.items) es k v) ≡ named es ++ (k.items, v) ∷ [])
        → named (cond b ((e.0, v) ∷ es) (e ∷ insert_entry (λ x y. pointwise eqb x.items y.items) es k v)) ≡ (e.0.items, e.1) ∷ (named es ++ (k.items, v) ∷ [])
    by true h rest = absurd (true≢false h)
    by false h rest = ap (λ (xs : List (List ℕ × V)). (e.0.items, e.1) ∷ xs) (rest h)

-- the faults of names, one rule at a time
module _ (side : Side) (names : List (List ℕ)) (name : List ℕ) where
  pub name_fault-there : (i : ℕ) → nat_lt name_limit (length name) ≡ false → place_of name names ≡ Some i → name_fault side names name ≡ Some (duplicate_on side i)
  name_fault-there i e f = rw (e, f) refl

  pub name_fault-full : nat_lt name_limit (length name) ≡ false → place_of name names ≡ None → nat_lt (length names) (limit_on side) ≡ false → name_fault side names name ≡ Some (too_many_on side)
  name_fault-full e f g = rw (e, f, g) refl

  pub name_fault-none : nat_lt name_limit (length name) ≡ false → place_of name names ≡ None → nat_lt (length names) (limit_on side) ≡ true → name_fault side names name ≡ None
  name_fault-none e f g = rw (e, f, g) refl

-- what no fault says
not-false : (b : Bool) → not b ≡ false → b ≡ true
not-false true h = refl
not-false false h = absurd (true≢false h)

pub name_fault-short : (side : Side) (names : List (List ℕ)) (name : List ℕ) → name_fault side names name ≡ None → length name ≤ name_limit
name_fault-short side names name h =
    ltb-false _ _ (unset (nat_lt name_limit (length name)) faults.NameTooLong (both_none (wrong_if (nat_lt name_limit (length name)) faults.NameTooLong) _ h).0)

pub name_fault-room : (side : Side) (names : List (List ℕ)) (name : List ℕ) → name_fault side names name ≡ None → length names < limit_on side
name_fault-room side names name h =
    let second = (both_none (wrong_if (nat_lt name_limit (length name)) faults.NameTooLong) _ h).1 in
    let third = (both_none (option_map (λ earlier. duplicate_on side earlier) (place_of name names)) _ second).1 in
    ltb-true _ _ (not-false _ (unset (not (nat_lt (length names) (limit_on side))) (too_many_on side) third))

-- a draft's faults are those of its tables
pub row_fault-names : (d : Draft) (es : List (Vec ℕ × Bounds)) (name : List ℕ) → rows_of es ≡ d.rows → name_fault sides.Row (names_of es) name ≡ row_fault d name
row_fault-names d es name same =
    let e : names_of es ≡ names_of_rows d.rows = sym (names_of-rows es) ∙ ap names_of_rows same in
    let f : length (names_of es) ≡ length d.rows = ap length e ∙ length-map d.rows _ in
    λ i. first_of (wrong_if (nat_lt name_limit (length name)) faults.NameTooLong)
    (first_of (option_map (λ earlier. faults.DuplicateRow earlier) (place_of name (e i)))
    (wrong_if (not (nat_lt (f i) row_limit)) (faults.TooMany what.Rows row_limit)))

pub column_fault-names : (d : Draft) (es : List (Vec ℕ × Building)) (name : List ℕ) → columns_of es ≡ d.columns → name_fault sides.Column (names_of es) name ≡ column_fault d name
column_fault-names d es name same =
    let e : names_of es ≡ names_of_columns d.columns = sym (names_of-columns es) ∙ ap names_of_columns same in
    let f : length (names_of es) ≡ length d.columns = ap length e ∙ length-map d.columns _ in
    λ i. first_of (wrong_if (nat_lt name_limit (length name)) faults.NameTooLong)
    (first_of (option_map (λ earlier. faults.DuplicateColumn earlier) (place_of name (e i)))
    (wrong_if (not (nat_lt (f i) column_limit)) (faults.TooMany what.Columns column_limit)))
