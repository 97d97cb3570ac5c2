-- The sums of a row: what a column's sum is, how a term changes it, and what the complete row stores of it.
use Rattle.std.proofs.Common.{◌≡◌, ℕ, Bool, true, false, true≢false, cond, nat_eq, List, [], ◌∷◌, ◌++◌, Option, None, Some, Ok, refl, sym, ap, subst, ◌∙◌, arith, append-nil}
use Rattle.std.proofs.lemmas.Bool.{eqb-true}
use Rattle.std.proofs.lemmas.Bool.Decides.{nat_tests}
use Rattle.std.proofs.lemmas.List.{append_assoc}
use Rattle.pami_algebra.specs.Fraction.{Fraction}
use Rattle.pami_algebra.specs.Operations.{◌+ᶠ◌}
use Rattle.pami_algebra.proofs.Field.{nil_add_f}
use Rattle.pami_frac.specs.Answers.{then as chain}
use Rattle.pami_frac.specs.declared.list.Entry.{Entry}
use Rattle.pami_frac.proofs.Outcomes.{zero_is_zero}
use Rattle.pami_model.specs.declared.list.Column.{Column}
use Rattle.pami_model.specs.Draft.{Draft, entry_fault, is_zero, place_of, stores, zero}
use Rattle.pami_model.specs.Rules.{names_of_columns}
use Rattle.pami_lp.specs.Gather.{column_named, entries_at}
use Rattle.pami_lp.specs.Rules.{add_entries, add_one, add_term, entry, unless, with_entry}
use Rattle.pami_lp.specs.Values.{sum_of}
use Rattle.pami_lp.proofs.Chains.{judged_on, on}
use Rattle.pami_lp.proofs.Columns.{changed-names, is_at, look_at, stores_renames}
use Rattle.pami_lp.proofs.Prices.{sum_value}
use Rattle.pami_lp.proofs.Stepped.{ok_same}

-- a column's sum, and 0 where it has none
abbrev pub total : List Entry → ℕ → Fraction
total [] j = zero
total (e ∷ es) j = cond (nat_eq j e.place) e.value (total es j)

-- whether a column has a sum
abbrev pub is_summed : List Entry → ℕ → Bool
is_summed [] j = false
is_summed (e ∷ es) j = cond (nat_eq j e.place) true (is_summed es j)

-- each column has one sum at most
abbrev pub AreApart : List Entry → Type 0
AreApart [] = Unit {0}
AreApart (e ∷ es) = (is_summed es e.place ≡ false) × AreApart es

pub unsummed : (es : List Entry) (j : ℕ) → is_summed es j ≡ false → total es j ≡ zero
unsummed [] j h = refl
unsummed (e ∷ es) j h = by (nat_eq j e.place) h (λ k. unsummed es j k)
  where
    by : (b : Bool) → cond b true (is_summed es j) ≡ false → (is_summed es j ≡ false → total es j ≡ zero) → cond b e.value (total es j) ≡ zero
    by true k ih = absurd (true≢false k)
    by false k ih = ih k

-- ---- a term more

-- what a term of this value makes of a column's sum
pub record Grows (es fs : List Entry) (column : ℕ) (value : Fraction) : Type 0 where
  pub totals : (j : ℕ) → total fs j ≡ cond (nat_eq j column) (total es column +ᶠ value) (total es j)
  pub others : (j : ℕ) → nat_eq j column ≡ false → is_summed fs j ≡ is_summed es j
  pub apart : AreApart es → AreApart fs

turned : (i j : ℕ) (b : Bool) → nat_eq i j ≡ b → nat_eq j i ≡ b
turned i j true h = grind (arith, nat_tests, h)
turned i j false h = grind (arith, nat_tests, h)

-- the column's sum stands first
grows_here : (e : Entry) (es : List Entry) (value t : Fraction) → t ≡ e.value +ᶠ value → Grows (e ∷ es) (entry e.place t ∷ es) e.place value
grows_here e es value t h = record { totals = λ j. at j (nat_eq j e.place); others = λ j k. refl; apart = λ a. a }
  where
    at : (j : ℕ) (b : Bool) → cond b t (total es j) ≡ cond b (cond (nat_eq e.place e.place) e.value (total es e.place) +ᶠ value) (cond b e.value (total es j))
    at j true = h ∙ ap (λ (b : Bool). cond b e.value (total es e.place) +ᶠ value) (sym (itself e.place))
      where
        itself : (i : ℕ) → nat_eq i i ≡ true
        itself i = grind (arith, nat_tests)
    at j false = refl

-- or behind another's
grows_later : (e : Entry) (es fs : List Entry) (column : ℕ) (value : Fraction) → nat_eq e.place column ≡ false → Grows es fs column value
    → Grows (e ∷ es) (e ∷ fs) column value
grows_later e es fs column value h g = record {
  totals = λ j. ap (λ (t : Fraction). cond (nat_eq j e.place) e.value t) (g.totals j) ∙ at j (nat_eq j column) refl (nat_eq j e.place) refl
      ∙ ap (λ (b : Bool). cond (nat_eq j column) (cond b e.value (total es column) +ᶠ value) (cond (nat_eq j e.place) e.value (total es j)))
      (sym (turned e.place column false h));
  others = λ j k. ap (λ (b : Bool). cond (nat_eq j e.place) true b) (g.others j k);
  apart = λ a. (g.others e.place h ∙ a.0, g.apart a.1);
}
  where
    at : (j : ℕ) (b : Bool) → nat_eq j column ≡ b → (c : Bool) → nat_eq j e.place ≡ c
        → cond c e.value (cond b (total es column +ᶠ value) (total es j)) ≡ cond b (total es column +ᶠ value) (cond c e.value (total es j))
    at j true k true l = absurd (grind (arith, nat_tests, h, k, l))
    at j true k false l = refl
    at j false k c l = refl

pub term_grows : (es : List Entry) (column : ℕ) (value : Fraction) (fs : List Entry) → add_term es column value ≡ Ok fs → Grows es fs column value
term_grows [] column value fs h =
    subst (λ (xs : List Entry). Grows [] xs column value) (ok_same h)
    (record {
      totals = λ j. ap (λ (t : Fraction). cond (nat_eq j column) t zero) (sym (nil_add_f value));
      others = λ j k. ap (λ (b : Bool). cond b true false) k;
      apart = λ a. (refl, a);
    })
term_grows (e ∷ es) column value fs h = by (nat_eq e.place column) refl h (λ gs g. term_grows es column value gs g)
  where
    by : (b : Bool) → nat_eq e.place column ≡ b
        → cond b (chain (sum_of e.value value) (λ t. Ok (entry column t ∷ es))) (chain (add_term es column value) (λ rest. Ok (e ∷ rest))) ≡ Ok fs
        → ((gs : List Entry) → add_term es column value ≡ Ok gs → Grows es gs column value) → Grows (e ∷ es) fs column value
    by true k g ih =
        let o = on (sum_of e.value value) (λ t. Ok (entry column t ∷ es)) fs g in
        subst (λ (c : ℕ). Grows (e ∷ es) fs c value) (eqb-true e.place column k)
        (subst (λ (xs : List Entry). Grows (e ∷ es) xs e.place value) (ap (λ (c : ℕ). entry c o.value ∷ es) (eqb-true e.place column k) ∙ ok_same o.then)
        (grows_here e es value o.value (sum_value e.value value o.value o.is)))
    by false k g ih =
        let o = on (add_term es column value) (λ rest. Ok (e ∷ rest)) fs g in
        subst (λ (xs : List Entry). Grows (e ∷ es) xs column value) (ok_same o.then) (grows_later e es o.value column value k (ih o.value o.is))

-- ---- a complete row

-- the sum of the column at a name's place
abbrev pub total_for : List Entry → Option ℕ → Fraction
total_for es None = zero
total_for es (Some j) = total es j

pub total_none : (o : Option ℕ) → total_for [] o ≡ zero
total_none None = refl
total_none (Some j) = refl

abbrev pub entries_of : Draft → List ℕ → List Entry
entries_of d m = (column_named d.columns m).entries

zero_stores : (row : ℕ) → entries_at row zero ≡ []
zero_stores row = ap (λ (b : Bool). cond b [] (entry row zero ∷ [])) zero_is_zero

-- one sum stores what it gives in its column, and leaves the names
record Stores (d e : Draft) (row : ℕ) (x : Entry) : Type 0 where
  names : names_of_columns e.columns ≡ names_of_columns d.columns
  entries : (m : List ℕ) → entries_of e m ≡ entries_of d m ++ cond (is_at x.place (place_of m (names_of_columns d.columns))) (entries_at row x.value) []

one_stores : (d e : Draft) (row : ℕ) (x : Entry) → add_one d row x ≡ Ok e → Stores d e row x
one_stores d e row x h = by (is_zero x.value) refl h
  where
    nothing : (b : Bool) → [] ≡ cond b (cond true [] (entry row x.value ∷ [])) []
    nothing true = refl
    nothing false = refl

    here : (m : List ℕ) → is_zero x.value ≡ false → (b : Bool)
        → (cond b (stores row x.value (column_named d.columns m)) (column_named d.columns m)).entries ≡ entries_of d m ++ cond b (entries_at row x.value) []
    here m k true =
        ap (λ (z : Bool). (cond z (column_named d.columns m)
        (record (column_named d.columns m) { entries = entries_of d m ++ entry row x.value ∷ [] })).entries) k
        ∙ ap (λ (z : Bool). entries_of d m ++ cond z [] (entry row x.value ∷ [])) (sym k)
    here m k false = sym (append-nil (entries_of d m))

    by : (z : Bool) → is_zero x.value ≡ z → cond z (Ok d) (unless (entry_fault d x.place row x.value) (with_entry d row x)) ≡ Ok e → Stores d e row x
    by true k g =
        subst (λ (y : Draft). Stores d y row x) (ok_same g)
        (record {
          names = refl;
          entries = λ m. sym (append-nil (entries_of d m))
              ∙ ap (λ (es : List Entry). entries_of d m ++ es) (nothing (is_at x.place (place_of m (names_of_columns d.columns)))
              ∙ ap (λ (z : Bool). cond (is_at x.place (place_of m (names_of_columns d.columns))) (cond z [] (entry row x.value ∷ [])) []) (sym k));
        })
    by false k g =
        subst (λ (y : Draft). Stores d y row x) (judged_on _ (with_entry d row x) e g)
        (record {
          names = changed-names d.columns x.place (stores row x.value) (stores_renames row x.value);
          entries = λ m. ap (λ (c : Column). c.entries) (look_at d.columns x.place (stores row x.value) (stores_renames row x.value) m)
              ∙ here m k (is_at x.place (place_of m (names_of_columns d.columns)));
        })

-- the first sum and then the others store what all of them do
first_stores : (row : ℕ) (x : Entry) (xs : List Entry) → is_summed xs x.place ≡ false → (o : Option ℕ)
    → cond (is_at x.place o) (entries_at row x.value) [] ++ entries_at row (total_for xs o) ≡ entries_at row (total_for (x ∷ xs) o)
first_stores row x xs h None = refl
first_stores row x xs h (Some j) = by (nat_eq j x.place) refl
  where
    by : (b : Bool) → nat_eq j x.place ≡ b → cond b (entries_at row x.value) [] ++ entries_at row (total xs j) ≡ entries_at row (cond b x.value (total xs j))
    by true k =
        ap (λ (t : Fraction). entries_at row x.value ++ entries_at row t) (ap (λ (i : ℕ). total xs i) (eqb-true j x.place k) ∙ unsummed xs x.place h)
        ∙ ap (λ (es : List Entry). entries_at row x.value ++ es) (zero_stores row) ∙ append-nil (entries_at row x.value)
    by false k = refl

pub entries_stored : (xs : List Entry) (d e : Draft) (row : ℕ) → AreApart xs → add_entries d row xs ≡ Ok e → (m : List ℕ)
    → entries_of e m ≡ entries_of d m ++ entries_at row (total_for xs (place_of m (names_of_columns d.columns)))
entries_stored [] d e row apart h m =
    ap (λ (x : Draft). entries_of x m) (sym (ok_same h)) ∙ sym (append-nil (entries_of d m))
    ∙ ap (λ (es : List Entry). entries_of d m ++ es)
    (sym (ap (λ (t : Fraction). entries_at row t) (total_none (place_of m (names_of_columns d.columns))) ∙ zero_stores row))
entries_stored (x ∷ xs) d e row apart h m =
    let a = on (add_one d row x) (λ d. add_entries d row xs) e h in
    let s = one_stores d a.value row x a.is in
    let place = place_of m (names_of_columns d.columns) in
    entries_stored xs a.value e row apart.1 a.then m
    ∙ ap (λ (ns : List (List ℕ)). entries_of a.value m ++ entries_at row (total_for xs (place_of m ns))) s.names
    ∙ ap (λ (es : List Entry). es ++ entries_at row (total_for xs (place_of m (names_of_columns d.columns)))) (s.entries m)
    ∙ append_assoc (entries_of d m) (cond (is_at x.place place) (entries_at row x.value) []) (entries_at row (total_for xs place))
    ∙ ap (λ (es : List Entry). entries_of d m ++ es) (first_stores row x xs apart.0 place)
