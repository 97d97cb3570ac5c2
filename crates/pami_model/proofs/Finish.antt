-- What a finished model keeps, and where its first crossed bounds stand.
use Rattle.std.proofs.Common.{◌≡◌, ◌≢◌, ◌+◌, ◌≤◌, ◌<◌, ℕ, suc, zero, Bool, true, false, true≢false, not, eqb, cond, List, [], ◌∷◌, ◌++◌, map, length, nat_lt, Option, None, Some, slice_get, refl, sym, ap, ◌∙◌, subst, arith}
use lib.IntN.{pos}
use borrow.Author.Tests.{le-ltb, lt-ltb, ltb-false}
use Rattle.std.specs.Global.{Vec}
use Rattle.std.specs.List.{All, AllByRecursion, IsDistinct as IsDistinctBy, position, position_or_len}
use Rattle.std.specs.Option.{option_map}
use Rattle.std.specs.Cmp.Lexicographic.{pointwise}
use Rattle.std.proofs.lemmas.Bool.{eq-eqb}
use Rattle.std.proofs.lemmas.List.{append-nil, append_assoc, length-append, length-map}
use Rattle.std.proofs.lemmas.List.Elements.{All-nil, All-cons, All-head, All-tail, All-weaker, All-map, All-push}
use Rattle.std.proofs.lemmas.List.Sorted.{All-permutation}
use Rattle.std.proofs.lemmas.List.Sums.{fails_before_first, sum_by-cons}
use Rattle.pami_algebra.specs.Operations.{of_int}
use Rattle.pami_algebra.proofs.Strict.{le_by_not_f}
use Rattle.pami_algebra.proofs.Tests.{is_below_iff}
use Rattle.pami_frac.specs.declared.list.Bounds.{Bounds}
use Rattle.pami_frac.specs.declared.list.Entry.{Entry}
use Rattle.pami_model.specs.declared.fault.Crossed.TheVariants as crosseds
use Rattle.pami_model.specs.declared.list.Row.{Row}
use Rattle.pami_model.specs.declared.list.Column.{Column}
use Rattle.pami_model.specs.Rules.{IsDistinct, IsUncrossed, AreEntries, AreRows, AreColumns, names_of_rows, names_of_columns, name_limit, stored_count}
use Rattle.pami_model.specs.Draft.{Draft, by_row, crosses, crossed_row, crossed_column, finished, is_crossed}
use Rattle.pami_model.specs.Build.{AllPlaces, AreTaken, IsApart, IsKept, names_of}
use Rattle.pami_model.proofs.Order.{by_row-permutation, by_row-rise, length-by_row, rising}

-- ---- the first that passes a test
module _ {A : Type 0} (p : A → Bool) where
  position-none : (xs : List A) → position p xs ≡ None → All (λ x. p x ≡ false) xs
  position-none xs h = by (nat_lt (position_or_len p xs) (length xs)) refl h
    where
      by : (b : Bool) → nat_lt (position_or_len p xs) (length xs) ≡ b → cond b (Some (position_or_len p xs)) None ≡ None → All (λ x. p x ≡ false) xs
      by true t e = absurd cc
      by false t e = λ k d lt. let far : length xs ≤ position_or_len p xs = ltb-false _ _ t in fails_before_first p xs k d (omega arith)

  position_or_len-here : (xs : List A) (x : A) (rest : List A) → All (λ y. p y ≡ false) xs → p x ≡ true → position_or_len p (xs ++ x ∷ rest) ≡ length xs
  position_or_len-here [] x rest none here = ap (λ b. cond (not b) (1 + position_or_len p rest) 0) here
  position_or_len-here (y ∷ xs) x rest none here =
      let tail = position_or_len-here xs x rest (All-tail (λ y. p y ≡ false) y xs none) here in
      ap (λ b. cond (not b) (1 + position_or_len p (xs ++ x ∷ rest)) 0) (All-head (λ y. p y ≡ false) y xs none) ∙ omega arith

  within : (xs : List A) (x : A) (rest : List A) → length xs < length (xs ++ x ∷ rest)
  within [] x rest = omega arith
  within (y ∷ xs) x rest = let h = within xs x rest in omega arith

  position-here : (xs : List A) (x : A) (rest : List A) → position p xs ≡ None → p x ≡ true → position p (xs ++ x ∷ rest) ≡ Some (length xs)
  position-here xs x rest none here =
      let e = position_or_len-here xs x rest (position-none xs none) here in
      rw (e, lt-ltb _ _ (within xs x rest)) refl

  position-map : {B : Type 0} (f : B → A) (xs : List B) → position p (map f xs) ≡ position (λ x. p (f x)) xs
  position-map {B} f xs = let e = place xs in let l = length-map xs f in λ i. cond (nat_lt (e i) (l i)) (Some (e i)) None
    where
      place : (xs : List B) → position_or_len p (map f xs) ≡ position_or_len (λ x. p (f x)) xs
      place [] = refl
      place (x ∷ xs) = ap (λ n. cond (not (p (f x))) (1 + n) 0) (place xs)

mapped-none : {A B : Type 0} (f : A → B) (o : Option A) → option_map f o ≡ None → o ≡ None
mapped-none f None h = refl
mapped-none f (Some x) h = absurd cc

-- the first crossed row stands behind rows of which none is
pub crossed_row-here : (done : List Row) (r : Row) (rest all : List Row) → done ++ r ∷ rest ≡ all → crossed_row done ≡ None → is_crossed r.bounds ≡ true → crossed_row all ≡ Some (crosseds.Row (length done))
crossed_row-here done r rest all is none here =
    let first = position-here (λ (r : Row). is_crossed r.bounds) done r rest (mapped-none (λ i. crosseds.Row i) _ none) here in
    ap crossed_row (sym is) ∙ ap (option_map (λ i. crosseds.Row i)) first

pub crossed_column-finished : (columns : List Column) → crossed_column (map finished columns) ≡ crossed_column columns
crossed_column-finished columns = ap (option_map (λ i. crosseds.Column i)) (position-map (λ (c : Column). is_crossed c.bounds) finished columns)

pub crossed_column-here : (done : List Column) (c : Column) (rest all : List Column) → done ++ finished c ∷ rest ≡ map finished all → crossed_column done ≡ None → is_crossed c.bounds ≡ true → crossed_column all ≡ Some (crosseds.Column (length done))
crossed_column-here done c rest all is none here =
    let first = position-here (λ (c : Column). is_crossed c.bounds) done (finished c) rest (mapped-none (λ i. crosseds.Column i) _ none) here in
    sym (crossed_column-finished all) ∙ ap crossed_column (sym is) ∙ ap (option_map (λ i. crosseds.Column i)) first

-- ---- bounds
uncrossed : (b : Bounds) → is_crossed b ≡ false → IsUncrossed b
uncrossed b h low high l u = le_by_not_f low high (λ k. true≢false (sym ((is_below_iff high low).1 k) ∙ sym (λ i. crosses (l i) (u i)) ∙ h))

-- ---- names
equal_itself : (n : List ℕ) → pointwise eqb n n ≡ true
equal_itself [] = refl
equal_itself (x ∷ n) = rw (eq-eqb x x refl) (equal_itself n)

other_name : {V : Type 0} (k : Vec ℕ) (es : List (Vec ℕ × V)) → AllByRecursion (λ y. pointwise eqb k.items y.items ≡ false) (map (λ e. e.0) es) → (j : ℕ) → slice_get (names_of es) j ≡ Some k.items → ⊥
other_name k [] h j at = cc
other_name k (e ∷ es) h zero at = let same : e.0.items ≡ k.items = cc in true≢false (sym (equal_itself k.items) ∙ sym (ap (λ n. pointwise eqb k.items n) same) ∙ h.0)
other_name k (e ∷ es) h (suc j) at = other_name k es h.1 j at

-- the keys of a map, as names
pub distinct_names : {V : Type 0} (es : List (Vec ℕ × V)) → IsDistinctBy (λ x y. pointwise eqb x.items y.items) (map (λ e. e.0) es) → IsDistinct (names_of es)
unfolding IsDistinctBy
distinct_names [] h i j n a b = absurd cc
distinct_names (e ∷ es) h zero zero n a b = refl
distinct_names (e ∷ es) h zero (suc j) n a b = absurd (other_name e.0 es h.0 j (b ∙ sym a))
distinct_names (e ∷ es) h (suc i) zero n a b = absurd (other_name e.0 es h.0 i (a ∙ sym b))
distinct_names (e ∷ es) h (suc i) (suc j) n a b = ap suc (distinct_names es h.1 i j n a b)

-- ---- entries
entries_of : (rows : ℕ) (pairs : List (ℕ × ℕ)) (k : ℕ) (c : Column) → AreTaken rows pairs k c → AreEntries rows (finished c).entries
entries_of rows pairs k c h =
    let moves = by_row-permutation c.entries in
    record {
      rising = rising (by_row c.entries) (by_row-rise c.entries h.apart);
      within = All-permutation (λ (e : Entry). e.place < rows) c.entries (by_row c.entries) moves h.within;
      stored = All-permutation (λ (e : Entry). e.value ≢ of_int (pos 0)) c.entries (by_row c.entries) moves h.stored;
    }

from_places : {A : Type 0} (P : ℕ → A → Type 0) (Q : A → Type 0) → ((k : ℕ) (x : A) → P k x → Q x) → (k : ℕ) (xs : List A) → AllPlaces P k xs → All Q xs
from_places P Q f k [] h = All-nil Q
from_places P Q f k (x ∷ xs) h = All-cons Q x xs (f k x h.0) (from_places P Q f (suc k) xs h.1)

-- the entries of each column are at different rows
pub all_apart : (d : Draft) (stored : ℕ) → IsKept d stored → All (λ (c : Column). IsApart c.entries) d.columns
all_apart d stored h = from_places (AreTaken (length d.rows) d.pairs) (λ (c : Column). IsApart c.entries) (λ k c w. w.apart) 0 d.columns h.entries

count_finished : (columns : List Column) → stored_count (map finished columns) ≡ stored_count columns
count_finished [] = refl
count_finished (c ∷ columns) = omega (arith, sum_by-cons (λ (c : Column). length c.entries) (finished c) (map finished columns), sum_by-cons (λ (c : Column). length c.entries) c columns, length-by_row c.entries, count_finished columns)

names_finished : (columns : List Column) → names_of_columns (map finished columns) ≡ names_of_columns columns
names_finished [] = refl
names_finished (c ∷ columns) = ap (λ (ns : List (List ℕ)). c.name ∷ ns) (names_finished columns)

-- ---- the facts of a model
pub rows_kept : (d : Draft) (stored : ℕ) → IsKept d stored → IsDistinct (names_of_rows d.rows) → crossed_row d.rows ≡ None → AreRows d.rows
rows_kept d stored h distinct none = record {
  distinct = distinct;
  uncrossed = All-weaker (λ (r : Row). is_crossed r.bounds ≡ false) (λ (r : Row). IsUncrossed r.bounds) (λ r w. uncrossed r.bounds w) d.rows (position-none (λ (r : Row). is_crossed r.bounds) d.rows (mapped-none (λ i. crosseds.Row i) _ none));
  short_names = h.rows_short;
  limited = h.rows_limited;
}

pub columns_kept : (d : Draft) (stored : ℕ) → IsKept d stored → IsDistinct (names_of_columns d.columns) → crossed_column d.columns ≡ None → AreColumns (length d.rows) (map finished d.columns)
columns_kept d stored h distinct none = record {
  distinct = subst IsDistinct (sym (names_finished d.columns)) distinct;
  uncrossed = All-map (λ (c : Column). IsUncrossed c.bounds) finished d.columns (All-weaker (λ (c : Column). is_crossed c.bounds ≡ false) (λ (c : Column). IsUncrossed c.bounds) (λ c w. uncrossed c.bounds w) d.columns (position-none (λ (c : Column). is_crossed c.bounds) d.columns (mapped-none (λ i. crosseds.Column i) _ none)));
  entries = All-map (λ (c : Column). AreEntries (length d.rows) c.entries) finished d.columns (from_places (AreTaken (length d.rows) d.pairs) (λ (c : Column). AreEntries (length d.rows) (finished c).entries) (λ k c w. entries_of (length d.rows) d.pairs k c w) 0 d.columns h.entries);
  short_names = All-map (λ (c : Column). length c.name ≤ name_limit) finished d.columns h.columns_short;
  limited = omega (arith, length-map d.columns finished, h.columns_limited);
  stored = omega (arith, count_finished d.columns, h.counted, h.limited);
}

pub shorter : {A : Type 0} (xs ys zs : List A) → xs ++ ys ≡ zs → length xs ≤ length zs
shorter xs ys zs e = omega (arith, length-append xs ys, ap length e)

-- ---- one more column finished
module _ {A : Type 0} (p : A → Bool) where
  position_or_len-none : (xs : List A) → All (λ x. p x ≡ false) xs → position_or_len p xs ≡ length xs
  position_or_len-none [] h = refl
  position_or_len-none (x ∷ xs) h =
      let tail = position_or_len-none xs (All-tail (λ x. p x ≡ false) x xs h) in
      ap (λ b. cond (not b) (1 + position_or_len p xs) 0) (All-head (λ x. p x ≡ false) x xs h) ∙ omega arith

  position-push : (xs : List A) (x : A) → position p xs ≡ None → p x ≡ false → position p (xs ++ x ∷ []) ≡ None
  position-push xs x none here =
      let e = position_or_len-none (xs ++ x ∷ []) (All-push (λ x. p x ≡ false) xs x (position-none p xs none) here) in
      let far : nat_lt (position_or_len p (xs ++ x ∷ [])) (length (xs ++ x ∷ [])) ≡ false = le-ltb _ _ (omega arith) in
      ap (λ b. cond b (Some (position_or_len p (xs ++ x ∷ []))) None) far

pub crossed_column-push : (done : List Column) (c : Column) → crossed_column done ≡ None → is_crossed c.bounds ≡ false → crossed_column (done ++ finished c ∷ []) ≡ None
crossed_column-push done c none here = ap (option_map (λ i. crosseds.Column i)) (position-push (λ (c : Column). is_crossed c.bounds) done (finished c) (mapped-none (λ i. crosseds.Column i) _ none) here)

pub finished-more : (done : List Column) (c : Column) (rest all pushed : List Column) → pushed ≡ done ++ finished c ∷ [] → done ++ finished c ∷ rest ≡ map finished all → pushed ++ rest ≡ map finished all
finished-more done c rest all pushed e h = ap (λ cs. cs ++ rest) e ∙ append_assoc done (finished c ∷ []) rest ∙ h

pub crossed_column-end : (done all : List Column) → done ++ [] ≡ map finished all → crossed_column done ≡ None → crossed_column all ≡ None
crossed_column-end done all is none = sym (crossed_column-finished all) ∙ ap crossed_column (sym is ∙ append-nil done) ∙ none
