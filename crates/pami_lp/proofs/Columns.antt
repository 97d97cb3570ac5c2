-- The column of a name: what stands at the name's place, and what changes of columns leave of it.
use Rattle.std.proofs.Common.{◌≡◌, ◌+◌, ◌-◌, ◌≤◌, ◌⊎◌, inl, inr, ℕ, suc, Bool, true, false, cond, nat_eq, List, [], ◌∷◌, ◌++◌, length, Option, None, Some, Ok, eq-eqb, refl, sym, ap, subst, ◌∙◌, arith}
use Rattle.std.specs.Option.{option_map}
use Rattle.std.specs.Str.{bytes_eq}
use Rattle.std.proofs.lemmas.Bool.Decides.{nat_tests}
use Rattle.std.proofs.lemmas.List.{length-append, map-append}
use Rattle.pami_algebra.specs.Fraction.{Fraction}
use Rattle.pami_frac.specs.declared.list.Entry.{Entry}
use Rattle.pami_model.specs.declared.list.Column.{Column}
use Rattle.pami_model.specs.Draft.{Draft, changed, column_at, is_zero, new_column, place_of, stores}
use Rattle.pami_model.specs.Rules.{names_of_columns}
use Rattle.pami_lp.specs.Gather.{column_named}
use Rattle.pami_lp.specs.Rules.{stand, stand_at}
use Rattle.pami_lp.proofs.Chains.{judged_on}
use Rattle.pami_lp.proofs.Names.{none_some, place_apart, place_kept, place_push, place_step, same, some_same}
use Rattle.pami_lp.proofs.Parts.{IsCarried, KeptByEntries}
use Rattle.pami_lp.proofs.Stepped.{ok_same}

-- ---- another column

pub look_push : (cs : List Column) (n m : List ℕ) → column_named (cs ++ new_column n ∷ []) m ≡ column_named cs m
look_push [] n m = by (bytes_eq m n) refl
  where
    by : (b : Bool) → bytes_eq m n ≡ b → cond b (new_column n) (new_column m) ≡ new_column m
    by true e = ap new_column (sym (same m n e))
    by false e = refl
look_push (c ∷ cs) n m = ap (λ (x : Column). cond (bytes_eq m c.name) c x) (look_push cs n m)

pub names_push : (cs : List Column) (n : List ℕ) → names_of_columns (cs ++ new_column n ∷ []) ≡ names_of_columns cs ++ n ∷ []
names_push cs n = map-append (λ (c : Column). c.name) cs (new_column n ∷ [])

pub length_names : (cs : List Column) → length (names_of_columns cs) ≡ length cs
length_names [] = refl
length_names (c ∷ cs) = let h : length (names_of_columns cs) ≡ length cs = length_names cs in omega arith

-- ---- another setting of a column

abbrev pub Renames : (Column → Column) → Type 0
Renames f = (c : Column) → (f c).name ≡ c.name

pub changed-names : (cs : List Column) (i : ℕ) (f : Column → Column) → Renames f → names_of_columns (changed i f cs) ≡ names_of_columns cs
changed-names [] i f h = refl
changed-names (c ∷ cs) i f h = by (nat_eq i 0) (changed-names cs (i - 1) f h)
  where
    by : (b : Bool) → names_of_columns (changed (i - 1) f cs) ≡ names_of_columns cs
        → names_of_columns (cond b (f c ∷ cs) (c ∷ changed (i - 1) f cs)) ≡ c.name ∷ names_of_columns cs
    by true e = ap (λ (n : List ℕ). n ∷ names_of_columns cs) (h c)
    by false e = ap (λ (ns : List (List ℕ)). c.name ∷ ns) e

-- whether a name stands at this place
abbrev pub is_at : ℕ → Option ℕ → Bool
is_at j None = false
is_at j (Some k) = nat_eq k j

first_at : (j : ℕ) (b : Bool) → nat_eq j 0 ≡ b → nat_eq 0 j ≡ b
first_at j true h = grind (arith, nat_tests, h)
first_at j false h = grind (arith, nat_tests, h)

none_first : (j : ℕ) (o : Option ℕ) → nat_eq j 0 ≡ true → is_at j (option_map suc o) ≡ false
none_first j None h = refl
none_first j (Some k) h = grind (arith, nat_tests, h)

later_at : (j : ℕ) (o : Option ℕ) → nat_eq j 0 ≡ false → is_at (j - 1) o ≡ is_at j (option_map suc o)
later_at j None h = refl
later_at j (Some k) h = grind (arith, nat_tests, h)

-- the column of the name at the place is the changed one, and those of other names are as before
pub look_at : (cs : List Column) (j : ℕ) (f : Column → Column) → Renames f → (m : List ℕ)
    → column_named (changed j f cs) m ≡ cond (is_at j (place_of m (names_of_columns cs))) (f (column_named cs m)) (column_named cs m)
look_at [] j f keeps m = refl
look_at (c ∷ cs) j f keeps m =
    by (nat_eq j 0) refl (look_at cs (j - 1) f keeps m)
    ∙ ap (λ (o : Option ℕ). cond (is_at j o) (f (column_named (c ∷ cs) m)) (column_named (c ∷ cs) m)) (sym (place_step m c.name (names_of_columns cs)))
  where
    look : Column
    look = column_named cs m

    place : Option ℕ
    place = place_of m (names_of_columns cs)

    here : nat_eq j 0 ≡ true → (a : Bool) → cond a (f c) look ≡ cond (is_at j (cond a (Some 0) (option_map suc place))) (f (cond a c look)) (cond a c look)
    here h true = sym (ap (λ (b : Bool). cond b (f c) c) (first_at j true h))
    here h false = sym (ap (λ (b : Bool). cond b (f look) look) (none_first j place h))

    later : nat_eq j 0 ≡ false → column_named (changed (j - 1) f cs) m ≡ cond (is_at (j - 1) place) (f look) look
        → (a : Bool) → cond a c (column_named (changed (j - 1) f cs) m)
        ≡ cond (is_at j (cond a (Some 0) (option_map suc place))) (f (cond a c look)) (cond a c look)
    later h ih true = sym (ap (λ (b : Bool). cond b (f c) c) (first_at j false h))
    later h ih false = ih ∙ ap (λ (b : Bool). cond b (f look) look) (later_at j place h)

    by : (b : Bool) → nat_eq j 0 ≡ b → column_named (changed (j - 1) f cs) m ≡ cond (is_at (j - 1) place) (f look) look
        → column_named (cond b (f c ∷ cs) (c ∷ changed (j - 1) f cs)) m
        ≡ cond (is_at j (cond (bytes_eq m c.name) (Some 0) (option_map suc place))) (f (column_named (c ∷ cs) m)) (column_named (c ∷ cs) m)
    by true h ih = ap (λ (n : List ℕ). cond (bytes_eq m n) (f c) look) (keeps c) ∙ here h (bytes_eq m c.name)
    by false h ih = later h ih (bytes_eq m c.name)

-- the same where a name's place is known
pub look_changed : (cs : List Column) (name : List ℕ) (j : ℕ) (f : Column → Column) → Renames f → place_of name (names_of_columns cs) ≡ Some j → (m : List ℕ)
    → column_named (changed j f cs) m ≡ cond (bytes_eq m name) (f (column_named cs m)) (column_named cs m)
look_changed cs name j f keeps h m =
    look_at cs j f keeps m ∙ ap (λ (b : Bool). cond b (f (column_named cs m)) (column_named cs m)) (by (bytes_eq m name) refl)
  where
    away : bytes_eq m name ≡ false → (o : Option ℕ) → place_of m (names_of_columns cs) ≡ o → is_at j o ≡ false
    away e None g = refl
    away e (Some k) g = place_apart m name (names_of_columns cs) j k e h g

    by : (b : Bool) → bytes_eq m name ≡ b → is_at j (place_of m (names_of_columns cs)) ≡ b
    by true e = ap (λ (n : List ℕ). is_at j (place_of n (names_of_columns cs))) (same m name e) ∙ ap (λ (o : Option ℕ). is_at j o) h ∙ eq-eqb j j refl
    by false e = away e (place_of m (names_of_columns cs)) refl

-- the column at a name's place is the column of the name
pub column_here : (cs : List Column) (name : List ℕ) (j : ℕ) → place_of name (names_of_columns cs) ≡ Some j → column_at cs j ≡ column_named cs name
column_here [] name j h = none_some h
column_here (c ∷ cs) name j h = by (bytes_eq name c.name) (sym (place_step name c.name (names_of_columns cs)) ∙ h) (λ i e. column_here cs name i e)
  where
    Here : Type 0
    Here = (i : ℕ) → place_of name (names_of_columns cs) ≡ Some i → column_at cs i ≡ column_named cs name

    move : (o : Option ℕ) → place_of name (names_of_columns cs) ≡ o → option_map suc o ≡ Some j → Here → column_at (c ∷ cs) j ≡ column_named cs name
    move None e g ih = none_some g
    move (Some i) e g ih = ap (λ (k : ℕ). column_at (c ∷ cs) k) (sym (some_same g)) ∙ ih i e

    by : (b : Bool) → cond b (Some 0) (option_map suc (place_of name (names_of_columns cs))) ≡ Some j → Here
        → column_at (c ∷ cs) j ≡ cond b c (column_named cs name)
    by true g ih = ap (λ (k : ℕ). column_at (c ∷ cs) k) (sym (some_same g))
    by false g ih = move (place_of name (names_of_columns cs)) refl g ih

-- ---- a name stands at its place, and no column changes

-- a name is where it was, or stands behind the others now
abbrev pub IsPlaced : List Column → List Column → List ℕ → Type 0
IsPlaced old new m =
    (place_of m (names_of_columns new) ≡ place_of m (names_of_columns old))
    ⊎ ((place_of m (names_of_columns old) ≡ None) × (place_of m (names_of_columns new) ≡ Some (length old)))

pub record Stood (d : Draft) (name : List ℕ) (p : Draft × ℕ) : Type 0 where
  pub place : place_of name (names_of_columns p.0.columns) ≡ Some p.1
  pub looks : (m : List ℕ) → column_named p.0.columns m ≡ column_named d.columns m
  pub constant : p.0.constant ≡ d.constant
  pub rows : p.0.rows ≡ d.rows
  pub longer : length d.columns ≤ length p.0.columns
  pub places : (m : List ℕ) → IsPlaced d.columns p.0.columns m

pub stood : (d : Draft) (name : List ℕ) (p : Draft × ℕ) → stand d name ≡ Ok p → Stood d name p
stood d name p h = by (place_of name (names_of_columns d.columns)) refl h
  where
    pushed : List Column
    pushed = d.columns ++ new_column name ∷ []

    longer : length d.columns ≤ length pushed
    longer = let e : length pushed ≡ length d.columns + 1 = length-append d.columns (new_column name ∷ []) in omega (arith, e)

    last : place_of name (names_of_columns d.columns) ≡ None → place_of name (names_of_columns pushed) ≡ Some (length d.columns)
    last e =
        ap (λ (ns : List (List ℕ)). place_of name ns) (names_push d.columns name) ∙ place_push name (names_of_columns d.columns) e
        ∙ ap (λ (k : ℕ). Some k) (length_names d.columns)

    placed : place_of name (names_of_columns d.columns) ≡ None → (m : List ℕ) (b : Bool) → bytes_eq m name ≡ b → IsPlaced d.columns pushed m
    placed e m true f = subst (λ (n : List ℕ). IsPlaced d.columns pushed n) (sym (same m name f)) (inr (e, last e))
    placed e m false f = inl (ap (λ (ns : List (List ℕ)). place_of m ns) (names_push d.columns name) ∙ place_kept name m (names_of_columns d.columns) f)

    by : (o : Option ℕ) → place_of name (names_of_columns d.columns) ≡ o → stand_at o d name ≡ Ok p → Stood d name p
    by (Some j) e g =
        subst (λ (q : Draft × ℕ). Stood d name q) (ok_same g)
        (record { place = e; looks = λ m. refl; constant = refl; rows = refl; longer = omega arith; places = λ m. inl refl })
    by None e g =
        subst (λ (q : Draft × ℕ). Stood d name q) (judged_on _ (record d { columns = pushed }, length d.columns) p g)
        (record {
          place = last e;
          looks = λ m. look_push d.columns name m;
          constant = refl;
          rows = refl;
          longer = longer;
          places = λ m. placed e m
              (bytes_eq m name) refl;
        })

-- ---- what is read of the columns of all names

abbrev pub Same : {A : Type 0} → (Column → A) → Draft → Draft → List (List ℕ) → Type 0
Same read d e names = (m : List ℕ) → read (column_named e.columns m) ≡ read (column_named d.columns m)

pub same_carried : {A : Type 0} (read : Column → A) → IsCarried (Same read)
same_carried read = record {
  none = λ d m. refl;
  both = λ d e g names more a b m. b m ∙ a m;
  stood = λ d name p h m. ap read ((stood d name p h).looks m);
}

-- a change of a column that leaves what is read of it
pub same_changed : {A : Type 0} (read : Column → A) (d : Draft) (j : ℕ) (f : Column → Column) (pairs : List (ℕ × ℕ)) → Renames f
    → ((c : Column) → read (f c) ≡ read c)
    → (names : List (List ℕ)) → Same read d (record d { pairs = pairs; columns = changed j f d.columns }) names
same_changed read d j f pairs keeps leaves names m = ap read (look_at d.columns j f keeps m) ∙ by (is_at j (place_of m (names_of_columns d.columns)))
  where
    by : (b : Bool) → read (cond b (f (column_named d.columns m)) (column_named d.columns m)) ≡ read (column_named d.columns m)
    by true = leaves (column_named d.columns m)
    by false = refl

-- an entry more, where entries aren't what is read
pub stores_leave : {A : Type 0} (read : Column → A) → ((c : Column) (es : List Entry) → read (record c { entries = es }) ≡ read c)
    → (row : ℕ) (v : Fraction) (c : Column) → read (stores row v c) ≡ read c
stores_leave read leaves row v c = by (is_zero v)
  where
    by : (b : Bool) → read (cond b c (record c { entries = c.entries ++ record { place = row; value = v } ∷ [] })) ≡ read c
    by true = refl
    by false = leaves c (c.entries ++ record { place = row; value = v } ∷ [])

pub stores_renames : (row : ℕ) (v : Fraction) → Renames (stores row v)
stores_renames row v = stores_leave (λ (c : Column). c.name) (λ c es. refl) row v

pub entries_kept : {A : Type 0} (read : Column → A) → ((c : Column) (es : List Entry) → read (record c { entries = es }) ≡ read c) → KeptByEntries (Same read)
entries_kept read leaves d row x =
    same_changed read d x.place (stores row x.value) (d.pairs ++ (x.place, row) ∷ []) (stores_renames row x.value) (stores_leave read leaves row x.value) []
