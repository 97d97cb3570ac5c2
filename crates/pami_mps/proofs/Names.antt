-- Names once, and what the rows and columns of a draft are called.
use Rattle.std.proofs.Common.{◌≡◌, ℕ, Bool, true, false, cond, ◌||◌, List, [], ◌∷◌, ◌++◌, map, filter, fold, Some, refl, sym, ap, subst, ◌∙◌}
use Rattle.std.specs.List.{list_any, IsDistinct}
use Rattle.std.specs.Str.{bytes_eq}
use Rattle.std.proofs.lemmas.Bool.{or_parts}
use Rattle.std.proofs.lemmas.List.{map-append}
use Rattle.std.proofs.lemmas.List.Elements.{filter-append}
use Rattle.std.proofs.lemmas.List.Sums.{fold-append}
use Rattle.std.proofs.lemmas.List.Folds.{list_any-append}
use Rattle.std.proofs.lemmas.Map.Keys.{IsDistinct-push}
use Rattle.std.proofs.lemmas.Cmp.{nat_list_eq_equiv}
use Rattle.pami_model.specs.Rules.{names_of_rows, names_of_columns}
use Rattle.pami_mps.specs.Gather.{Declared, Pair, Value, Names, once, column_names, column_of, names_of, is_of, last_name}
use Rattle.pami_mps.specs.Rows.{row_of}
use Rattle.pami_mps.specs.Limits.{Limit, sides_of}
use Rattle.pami_mps.proofs.Changed.{same, itself, turned}

-- one name more
abbrev pub step : List (List ℕ) → List ℕ → List (List ℕ)
step seen n = cond (list_any (bytes_eq n) seen) seen (seen ++ n ∷ [])

pub once_more : (ns : List (List ℕ)) (n : List ℕ) → once (ns ++ n ∷ []) ≡ step (once ns) n
once_more ns n = fold-append step [] ns (n ∷ [])

pub column_names_more : (pairs : List Pair) (p : Pair) → column_names (pairs ++ p ∷ []) ≡ step (column_names pairs) p.column
column_names_more pairs p = ap once (map-append (λ (q : Pair). q.column) pairs (p ∷ [])) ∙ once_more (map (λ (q : Pair). q.column) pairs) p.column

or-false : (b : Bool) → (b || false) ≡ b
or-false true = refl
or-false false = refl

pub any_last : (c : List ℕ) (ns : List (List ℕ)) → list_any (bytes_eq c) (ns ++ c ∷ []) ≡ true
any_last c ns = list_any-append (bytes_eq c) ns (c ∷ []) ∙ rw (itself c) (by (list_any (bytes_eq c) ns))
  where
    by : (b : Bool) → (b || true) ≡ true
    by true = refl
    by false = refl

-- a name that is last stays
pub step_last : (c : List ℕ) (ns : List (List ℕ)) → step (ns ++ c ∷ []) c ≡ ns ++ c ∷ []
step_last c ns = ap (λ (b : Bool). cond b (ns ++ c ∷ []) ((ns ++ c ∷ []) ++ c ∷ [])) (any_last c ns)

module _ (c : List ℕ) where
  -- a name is in a list once exactly where it is in the list
  any_from : (ns seen : List (List ℕ)) → list_any (bytes_eq c) (fold step seen ns) ≡ (list_any (bytes_eq c) seen || list_any (bytes_eq c) ns)
  any_from [] seen = sym (or-false (list_any (bytes_eq c) seen))
  any_from (x ∷ xs) seen = any_from xs (step seen x) ∙ by (list_any (bytes_eq x) seen) refl
    where
      by : (b : Bool) → list_any (bytes_eq x) seen ≡ b
          → (list_any (bytes_eq c) (cond b seen (seen ++ x ∷ [])) || list_any (bytes_eq c) xs) ≡
          (list_any (bytes_eq c) seen || (bytes_eq c x || list_any (bytes_eq c) xs))
      by false e = ap (λ (z : Bool). z || list_any (bytes_eq c) xs) (list_any-append (bytes_eq c) seen (x ∷ []))
          ∙ regroup (list_any (bytes_eq c) seen) (bytes_eq c x) (list_any (bytes_eq c) xs)
        where
          regroup : (a b d : Bool) → ((a || (b || false)) || d) ≡ (a || (b || d))
          regroup true b d = refl
          regroup false true d = refl
          regroup false false d = refl
      by true e = known (bytes_eq c x) refl
        where
          known : (b : Bool) → bytes_eq c x ≡ b → (list_any (bytes_eq c) seen || list_any (bytes_eq c) xs) ≡
              (list_any (bytes_eq c) seen || (b || list_any (bytes_eq c) xs))
          known false f = refl
          known true f =
              let g : list_any (bytes_eq c) seen ≡ true = subst (λ (y : List ℕ). list_any (bytes_eq y) seen ≡ true) (sym (same c x f)) e in
              rw g refl

  pub any_once : (ns : List (List ℕ)) → list_any (bytes_eq c) (once ns) ≡ list_any (bytes_eq c) ns
  any_once ns = any_from ns []

-- names that stand once are distinct
distinct_from : (ns seen : List (List ℕ)) → IsDistinct bytes_eq seen → IsDistinct bytes_eq (fold step seen ns)
distinct_from [] seen d = d
distinct_from (n ∷ ns) seen d = distinct_from ns (step seen n) (by (list_any (bytes_eq n) seen) refl)
  where
    by : (b : Bool) → list_any (bytes_eq n) seen ≡ b → IsDistinct bytes_eq (cond b seen (seen ++ n ∷ []))
    by true e = d
    by false e = IsDistinct-push nat_list_eq_equiv seen n d e

pub once_distinct : (ns : List (List ℕ)) → IsDistinct bytes_eq (once ns)
unfolding IsDistinct
once_distinct ns = distinct_from ns [] tt

-- the pairs of a name

pub filter_other : (n : List ℕ) (pairs : List Pair) (p : Pair) → bytes_eq p.column n ≡ false → filter (is_of n) (pairs ++ p ∷ []) ≡ filter (is_of n) pairs
filter_other n [] p e = rw e refl
filter_other n (x ∷ pairs) p e = by (bytes_eq x.column n) (filter_other n pairs p e)
  where
    by : (b : Bool) → filter (is_of n) (pairs ++ p ∷ []) ≡ filter (is_of n) pairs
        → cond b (x ∷ filter (is_of n) (pairs ++ p ∷ [])) (filter (is_of n) (pairs ++ p ∷ [])) ≡ cond b (x ∷ filter (is_of n) pairs) (filter (is_of n) pairs)
    by true h = ap (λ (ps : List Pair). x ∷ ps) h
    by false h = h

pub filter_one : (n : List ℕ) (pairs : List Pair) (p : Pair) → bytes_eq p.column n ≡ true
    → filter (is_of n) (pairs ++ p ∷ []) ≡ filter (is_of n) pairs ++ p ∷ []
filter_one n pairs p e = filter-append (is_of n) pairs (p ∷ []) ∙ rw e refl

pub filter_none : (n : List ℕ) (pairs : List Pair) → list_any (bytes_eq n) (map (λ (p : Pair). p.column) pairs) ≡ false → filter (is_of n) pairs ≡ []
filter_none n [] h = refl
filter_none n (p ∷ pairs) h =
    let parts = or_parts (bytes_eq n p.column) (list_any (bytes_eq n) (map (λ (q : Pair). q.column) pairs)) h in
    let apart : bytes_eq p.column n ≡ false = turned n p.column false parts.0 in
    rw (apart, filter_none n pairs parts.1) refl

pub filter_new : (n : List ℕ) (pairs : List Pair) → list_any (bytes_eq n) (column_names pairs) ≡ false → filter (is_of n) pairs ≡ []
filter_new n pairs h = filter_none n pairs (sym (any_once n (map (λ (p : Pair). p.column) pairs)) ∙ h)

-- names of what is made of names

pub rows_back : (values ranges : List Value) (rows : List Declared) → names_of_rows (map (row_of values ranges) rows) ≡ names_of rows
rows_back values ranges [] = refl
rows_back values ranges (r ∷ rows) = ap (λ (ns : List (List ℕ)). r.name ∷ ns) (rows_back values ranges rows)

pub columns_back : (names : Names) (pairs : List Pair) (limits : List Limit) (ns : List (List ℕ))
    → names_of_columns (map (λ n. column_of names pairs (sides_of limits n).bounds n) ns) ≡ ns
columns_back names pairs limits [] = refl
columns_back names pairs limits (n ∷ ns) = ap (λ (ms : List (List ℕ)). n ∷ ms) (columns_back names pairs limits ns)

pub last_name_is : (ms : List (List ℕ)) (c : List ℕ) → last_name (ms ++ c ∷ []) ≡ Some c
last_name_is [] c = refl
last_name_is (m ∷ []) c = refl
last_name_is (m ∷ n ∷ ms) c = last_name_is (n ∷ ms) c
