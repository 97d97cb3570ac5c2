-- What a builder keeps, through each of its calls.
use Rattle.std.proofs.Common.{slice_get, not, if◌then◌else◌, eq-eqb, true≢false, ◌≢◌, ◌≡◌, ◌+◌, ◌≤◌, ◌<◌, ℕ, suc, Bool, true, false, List, [], ◌∷◌, ◌++◌, ◌||◌, map, length, Some, Result, Ok, Err, refl, sym, ap, ◌∙◌, subst, arith}
use Rattle.std.specs.Result.{OnOk, OnErr}
use Rattle.std.specs.Global.{Vec}
use Rattle.std.specs.Map.{values_of}
use Rattle.indexmap.specs.Layout.{set_value_at}
use Rattle.std.specs.List.{All, list_any}
use Rattle.std.proofs.lemmas.List.{length-map, length-append, map-append}
use Rattle.std.proofs.lemmas.List.Elements.{All-nil, All-push, All-weaker, All-head, All-tail}
use Rattle.std.proofs.lemmas.List.Sums.{sum_by_push}
use Rattle.std.proofs.lemmas.List.Folds.{list_any-append}
use Rattle.pami_algebra.specs.Fraction.{Fraction}
use Rattle.pami_algebra.specs.Operations.{of_int}
use lib.IntN.{pos}
use Rattle.pami_frac.specs.Answers.{Follows}
use Rattle.pami_frac.specs.declared.fault.Fault.{Fault}
use Rattle.pami_frac.specs.declared.list.Bounds.{Bounds}
use Rattle.pami_frac.specs.declared.list.Entry.{Entry}
use Rattle.pami_model.specs.declared.builder.Building.{Building}
use Rattle.pami_model.specs.declared.builder.Side.TheVariants as sides
use Rattle.pami_model.specs.declared.fault.BuildFault.{BuildFault}
use Rattle.pami_model.specs.declared.list.Row.{Row}
use Rattle.pami_model.specs.declared.list.Column.{Column}
use Rattle.pami_model.specs.Rules.{name_limit, row_limit, column_limit, entry_limit}
use Rattle.pami_model.specs.Draft.{Draft, new_row, new_column, is_pair, is_zero, changed, stores}
use Rattle.pami_model.specs.Build.{IsApart, AllPlaces, AreTaken, IsKept, rows_of, columns_of, built_column, names_of, named, name_fault}
use Rattle.pami_model.proofs.Changed.{All-changed, AllPlaces-changed, changed-same, changed-written, length-changed, sum_by-changed}
use Rattle.pami_model.proofs.Tables.{name_fault-short, name_fault-room}

-- facts of each member and its place
AllPlaces-weaker : {A : Type 0} (P Q : ℕ → A → Type 0) → ((k : ℕ) (x : A) → P k x → Q k x) → (k : ℕ) (xs : List A) → AllPlaces P k xs → AllPlaces Q k xs
AllPlaces-weaker P Q f k [] h = tt
AllPlaces-weaker P Q f k (x ∷ xs) h = (f k x h.0, AllPlaces-weaker P Q f (suc k) xs h.1)

AllPlaces-push : {A : Type 0} (P : ℕ → A → Type 0) (k : ℕ) (xs : List A) (y : A) → AllPlaces P k xs → ((j : ℕ) → P j y) → AllPlaces P k (xs ++ y ∷ [])
AllPlaces-push P k [] y h one = (one k, tt)
AllPlaces-push P k (x ∷ xs) y h one = (h.0, AllPlaces-push P (suc k) xs y h.1 one)

any-more : (p : ℕ × ℕ → Bool) (xs ys : List (ℕ × ℕ)) → list_any p xs ≡ true → list_any p (xs ++ ys) ≡ true
any-more p xs ys h = list_any-append p xs ys ∙ ap (λ b. b || list_any p ys) h

-- a column keeps its facts as rows and pairs are added
AreTaken-rows : (rows more : ℕ) (pairs : List (ℕ × ℕ)) (k : ℕ) (c : Column) → rows ≤ more → AreTaken rows pairs k c → AreTaken more pairs k c
AreTaken-rows rows more pairs k c le h = record {
  apart = h.apart;
  within = All-weaker (λ (e : Entry). e.place < rows) (λ (e : Entry). e.place < more) (λ e w. omega arith) c.entries h.within;
  stored = h.stored;
  taken = h.taken;
}

AreTaken-pairs : (rows : ℕ) (pairs more : List (ℕ × ℕ)) (k : ℕ) (c : Column) → AreTaken rows pairs k c → AreTaken rows (pairs ++ more) k c
AreTaken-pairs rows pairs more k c h = record {
  apart = h.apart;
  within = h.within;
  stored = h.stored;
  taken = All-weaker (λ (e : Entry). list_any (is_pair k e.place) pairs ≡ true) (λ (e : Entry). list_any (is_pair k e.place) (pairs ++ more) ≡ true) (λ e w. any-more (is_pair k e.place) pairs more w) c.entries h.taken;
}

AreTaken-new : (rows : ℕ) (pairs : List (ℕ × ℕ)) (k : ℕ) (name : List ℕ) → AreTaken rows pairs k (new_column name)
AreTaken-new rows pairs k name = record { apart = tt; within = All-nil _; stored = All-nil _; taken = All-nil _ }

-- one more row
kept-row : (d : Draft) (stored : ℕ) (name : List ℕ) (bounds : Bounds) → length name ≤ name_limit → length d.rows < row_limit → IsKept d stored → IsKept (record d { rows = d.rows ++ new_row name bounds ∷ [] }) stored
kept-row d stored name bounds short room h = record {
  rows_short = All-push (λ (r : Row). length r.name ≤ name_limit) d.rows _ h.rows_short short;
  rows_limited = omega (arith, length-append d.rows (new_row name bounds ∷ []), room);
  columns_short = h.columns_short;
  columns_limited = h.columns_limited;
  entries = AllPlaces-weaker _ _ (λ k c. AreTaken-rows _ _ d.pairs k c (omega (arith, length-append d.rows (new_row name bounds ∷ [])))) 0 d.columns h.entries;
  counted = h.counted;
  limited = h.limited;
}

-- one more column
kept-column : (d : Draft) (stored : ℕ) (name : List ℕ) → length name ≤ name_limit → length d.columns < column_limit → IsKept d stored → IsKept (record d { columns = d.columns ++ new_column name ∷ [] }) stored
kept-column d stored name short room h = record {
  rows_short = h.rows_short;
  rows_limited = h.rows_limited;
  columns_short = All-push (λ (c : Column). length c.name ≤ name_limit) d.columns _ h.columns_short short;
  columns_limited = omega (arith, length-append d.columns (new_column name ∷ []), room);
  entries = AllPlaces-push _ 0 d.columns (new_column name) h.entries (λ j. AreTaken-new (length d.rows) d.pairs j name);
  counted = h.counted ∙ sym (sum_by_push (λ (c : Column). length c.entries) d.columns (new_column name) ∙ omega arith);
  limited = h.limited;
}

-- a call that adds a row, whatever it answers
pub kept-add_row : (d : Draft) (stored : ℕ) (old new : List (Vec ℕ × Bounds)) (name : List ℕ) (bounds : Bounds) (r : Result ℕ (Fault BuildFault))
    → Follows (name_fault sides.Row (names_of old) name) r → OnOk r (named new ≡ named old ++ (name, bounds) ∷ []) → OnErr r (new ≡ old)
    → IsKept (record d { rows = rows_of old }) stored → IsKept (record d { rows = rows_of new }) stored
kept-add_row d stored old new name bounds (Ok i) judged added kept h =
    let more : rows_of new ≡ rows_of old ++ new_row name bounds ∷ [] = ap (map (λ (p : List ℕ × Bounds). new_row p.0 p.1)) added ∙ map-append _ (named old) _ in
    let room = name_fault-room sides.Row (names_of old) name judged in
    subst (λ rows. IsKept (record d { rows = rows }) stored) (sym more) (kept-row (record d { rows = rows_of old }) stored name bounds (name_fault-short sides.Row (names_of old) name judged) (omega (arith, room, length-map old (λ (e : Vec ℕ × Bounds). e.0.items), length-map {B = List ℕ × Bounds} old (λ (e : Vec ℕ × Bounds). (e.0.items, e.1)), length-map (named old) (λ (p : List ℕ × Bounds). new_row p.0 p.1))) h)
kept-add_row d stored old new name bounds (Err e) judged added kept h = subst (λ es. IsKept (record d { rows = rows_of es }) stored) (sym kept) h

-- a call that adds a column, whatever it answers
pub kept-add_column : (d : Draft) (stored : ℕ) (old new : List (Vec ℕ × Building)) (name : List ℕ) (v : Building) (r : Result ℕ (Fault BuildFault)) → built_column (name, v) ≡ new_column name
    → Follows (name_fault sides.Column (names_of old) name) r → OnOk r (named new ≡ named old ++ (name, v) ∷ []) → OnErr r (new ≡ old)
    → IsKept (record d { columns = columns_of old }) stored → IsKept (record d { columns = columns_of new }) stored
kept-add_column d stored old new name v (Ok i) is judged added kept h =
    let more : columns_of new ≡ columns_of old ++ new_column name ∷ [] = ap (map built_column) added ∙ map-append _ (named old) _ ∙ ap (λ (c : Column). columns_of old ++ c ∷ []) is in
    let room = name_fault-room sides.Column (names_of old) name judged in
    subst (λ columns. IsKept (record d { columns = columns }) stored) (sym more) (kept-column (record d { columns = columns_of old }) stored name (name_fault-short sides.Column (names_of old) name judged) (omega (arith, room, length-map old (λ (e : Vec ℕ × Building). e.0.items), length-map {B = List ℕ × Building} old (λ (e : Vec ℕ × Building). (e.0.items, e.1)), length-map (named old) built_column)) h)
kept-add_column d stored old new name v (Err e) is judged added kept h = subst (λ es. IsKept (record d { columns = columns_of es }) stored) (sym kept) h

AreTaken-same : (rows : ℕ) (pairs : List (ℕ × ℕ)) (k : ℕ) (b c : Column) → b.entries ≡ c.entries → AreTaken rows pairs k c → AreTaken rows pairs k b
AreTaken-same rows pairs k b c same h = record {
  apart = subst IsApart (sym same) h.apart;
  within = subst (All (λ (e : Entry). e.place < rows)) (sym same) h.within;
  stored = subst (All (λ (e : Entry). e.value ≢ of_int (pos 0))) (sym same) h.stored;
  taken = subst (All (λ (e : Entry). list_any (is_pair k e.place) pairs ≡ true)) (sym same) h.taken;
}

-- a change of one column that leaves names and entries
pub kept-changed : (d : Draft) (stored i : ℕ) (f : Column → Column) → ((c : Column) → (f c).name ≡ c.name) → ((c : Column) → (f c).entries ≡ c.entries) → i < length d.columns
    → IsKept d stored → IsKept (record d { columns = changed i f d.columns }) stored
kept-changed d stored i f names entries known h = record {
  rows_short = h.rows_short;
  rows_limited = h.rows_limited;
  columns_short = All-changed f (λ (c : Column). length c.name ≤ name_limit) (λ c w. omega (arith, ap length (names c))) i d.columns h.columns_short;
  columns_limited = omega (arith, length-changed f i d.columns);
  entries = AllPlaces-changed f (AreTaken (length d.rows) d.pairs) (AreTaken (length d.rows) d.pairs) i (λ j c w. w) (λ c w. AreTaken-same (length d.rows) d.pairs i (f c) c (entries c) w) i 0 d.columns (omega arith) h.entries;
  counted = h.counted ∙ omega (arith, sum_by-changed f (λ (c : Column). length c.entries) 0 (λ c. ap length (entries c) ∙ omega arith) i d.columns known);
  limited = h.limited;
}

-- a change of one row that leaves names
pub kept-changed_row : (d : Draft) (stored i : ℕ) (f : Row → Row) → ((r : Row) → (f r).name ≡ r.name) → IsKept d stored → IsKept (record d { rows = changed i f d.rows }) stored
kept-changed_row d stored i f names h = record {
  rows_short = All-changed f (λ (r : Row). length r.name ≤ name_limit) (λ r w. omega (arith, ap length (names r))) i d.rows h.rows_short;
  rows_limited = omega (arith, length-changed f i d.rows);
  columns_short = h.columns_short;
  columns_limited = h.columns_limited;
  entries = subst (λ n. AllPlaces (AreTaken n d.pairs) 0 d.columns) (sym (length-changed f i d.rows)) h.entries;
  counted = h.counted;
  limited = h.limited;
}

-- one more pair
pub kept-pair : (d : Draft) (stored : ℕ) (pair : ℕ × ℕ) → IsKept d stored → IsKept (record d { pairs = d.pairs ++ pair ∷ [] }) stored
kept-pair d stored pair h = record {
  rows_short = h.rows_short;
  rows_limited = h.rows_limited;
  columns_short = h.columns_short;
  columns_limited = h.columns_limited;
  entries = AllPlaces-weaker (AreTaken (length d.rows) d.pairs) (AreTaken (length d.rows) (d.pairs ++ pair ∷ [])) (λ k c w. AreTaken-pairs (length d.rows) d.pairs (pair ∷ []) k c w) 0 d.columns h.entries;
  counted = h.counted;
  limited = h.limited;
}

IsApart-push : (es : List Entry) (e : Entry) → IsApart es → All (λ (f : Entry). f.place ≢ e.place) es → IsApart (es ++ e ∷ [])
IsApart-push [] e h other = (All-nil _, tt)
IsApart-push (x ∷ es) e h other = (All-push (λ (f : Entry). x.place ≢ f.place) es e h.0 (All-head (λ (f : Entry). f.place ≢ e.place) x es other), IsApart-push es e h.1 (All-tail (λ (f : Entry). f.place ≢ e.place) x es other))

any-push : (i j : ℕ) (pairs : List (ℕ × ℕ)) → list_any (is_pair i j) (pairs ++ (i, j) ∷ []) ≡ true
any-push i j [] = rw (eq-eqb i i refl, eq-eqb j j refl) refl
any-push i j (p ∷ pairs) = by (is_pair i j p) (any-push i j pairs)
  where
    by : (b : Bool) → list_any (is_pair i j) (pairs ++ (i, j) ∷ []) ≡ true → (b || list_any (is_pair i j) (pairs ++ (i, j) ∷ [])) ≡ true
    by true h = refl
    by false h = h

abbrev appended : ℕ → Fraction → Column → Column
appended row value c = record c { entries = c.entries ++ record { place = row; value = value } ∷ [] }

stores-some : (row : ℕ) (value : Fraction) → is_zero value ≡ false → stores row value ≡ appended row value
stores-some row value nonzero i = λ c. if nonzero i then c else appended row value c

pub stores-zero : (row : ℕ) (value : Fraction) → is_zero value ≡ true → (c : Column) → stores row value c ≡ c
stores-zero row value nil c i = if nil i then c else appended row value c

-- one more stored entry
AreTaken-push : (rows : ℕ) (pairs : List (ℕ × ℕ)) (k : ℕ) (c : Column) (e : Entry) → e.place < rows → e.value ≢ of_int (pos 0) → list_any (is_pair k e.place) pairs ≡ false
    → AreTaken rows pairs k c → AreTaken rows (pairs ++ (k, e.place) ∷ []) k (record c { entries = c.entries ++ e ∷ [] })
AreTaken-push rows pairs k c e within some new h =
    let other : All (λ (f : Entry). f.place ≢ e.place) c.entries = All-weaker (λ (f : Entry). list_any (is_pair k f.place) pairs ≡ true) (λ (f : Entry). f.place ≢ e.place) (λ f w same. true≢false (sym w ∙ ap (λ n. list_any (is_pair k n) pairs) same ∙ new)) c.entries h.taken in
    let old = AreTaken-pairs rows pairs ((k, e.place) ∷ []) k c h in
    record {
      apart = IsApart-push c.entries e h.apart other;
      within = All-push (λ (f : Entry). f.place < rows) c.entries e h.within within;
      stored = All-push (λ (f : Entry). f.value ≢ of_int (pos 0)) c.entries e h.stored some;
      taken = All-push (λ (f : Entry). list_any (is_pair k f.place) (pairs ++ (k, e.place) ∷ []) ≡ true) c.entries e old.taken (any-push k e.place pairs);
    }

pub kept-entry : (d : Draft) (stored column row : ℕ) (value : Fraction) → column < length d.columns → row < length d.rows → is_zero value ≡ false → value ≢ of_int (pos 0) → list_any (is_pair column row) d.pairs ≡ false → stored < entry_limit
    → IsKept d stored → IsKept (record d { pairs = d.pairs ++ (column, row) ∷ []; columns = changed column (stores row value) d.columns }) (stored + 1)
kept-entry d stored column row value column_known row_known nonzero some new room h = let f : Column → Column = appended row value in
    subst (λ g. IsKept (record d { pairs = d.pairs ++ (column, row) ∷ []; columns = changed column g d.columns }) (stored + 1)) (sym (stores-some row value nonzero)) (record {
      rows_short = h.rows_short;
      rows_limited = h.rows_limited;
      columns_short = All-changed f (λ (c : Column). length c.name ≤ name_limit) (λ c w. w) column d.columns h.columns_short;
      columns_limited = omega (arith, length-changed f column d.columns);
      entries = AllPlaces-changed f (AreTaken (length d.rows) d.pairs) (AreTaken (length d.rows) (d.pairs ++ (column, row) ∷ [])) column (λ j c w. AreTaken-pairs (length d.rows) d.pairs ((column, row) ∷ []) j c w) (λ c w. AreTaken-push (length d.rows) d.pairs column c (record { place = row; value = value }) row_known some new w) column 0 d.columns (omega arith) h.entries;
      counted = omega (arith, h.counted, sum_by-changed f (λ (c : Column). length c.entries) 1 (λ c. length-append c.entries _) column d.columns column_known);
      limited = omega (arith, h.limited);
    })

module _ (es : List (Vec ℕ × Building)) (i : ℕ) (v w : Building) (at : slice_get (values_of es) i ≡ Some v) (cost : w.cost ≡ v.cost) (bounds : w.bounds ≡ v.bounds) where
  -- a column that is written as it was
  pub columns-kept : w.entries.items ≡ v.entries.items → columns_of (set_value_at es i w) ≡ columns_of es
  columns-kept same = changed-written built_column (λ c. c) v w (λ n j. record { name = n; cost = cost j; bounds = bounds j; entries = same j }) es i at ∙ changed-same (λ c. c) (λ x. refl) i (columns_of es)

  -- and one with one more entry
  pub columns-stored : (row : ℕ) (value : Fraction) → is_zero value ≡ false → w.entries.items ≡ v.entries.items ++ record { place = row; value = value } ∷ [] → columns_of (set_value_at es i w) ≡ changed i (stores row value) (columns_of es)
  columns-stored row value nonzero more =
      changed-written built_column (appended row value) v w (λ n j. record { name = n; cost = cost j; bounds = bounds j; entries = more j }) es i at
      ∙ ap (λ f. changed i f (columns_of es)) (sym (stores-some row value nonzero))

pub on_err : {A E : Type 0} (r : Result A E) (P : Type 0) → P → OnErr r P
on_err (Ok x) P p = tt
on_err (Err e) P p = p

pub not-true : (b c : Bool) → c ≡ not b → c ≡ true → b ≡ false
not-true true c e h = absurd (true≢false (sym h ∙ e))
not-true false c e h = refl
