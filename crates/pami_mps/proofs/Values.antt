-- What is seen behind one more line of RHS or RANGES.
use Rattle.std.proofs.Common.{◌≡◌, ℕ, suc, Bool, true, false, true≢false, cond, nat_eq, List, [], ◌∷◌, ◌++◌, map, filter, Option, None, Some, refl, sym, ap, subst, ◌∙◌, append_assoc, ◌⊎◌, inl, inr}
use Rattle.std.specs.List.{list_any, IsDistinct}
use Rattle.std.specs.Str.{bytes_eq}
use Rattle.std.proofs.lemmas.Bool.{eqb-true, or_parts}
use Rattle.std.proofs.lemmas.List.{append-nil, map-append}
use Rattle.std.proofs.lemmas.List.Elements.{filter-append}
use Rattle.pami_algebra.specs.Fraction.{Fraction}
use Rattle.pami_frac.specs.Decimal.{decimal_value}
use Rattle.pami_frac.specs.declared.bound.BoundValue.{BoundValue}
use Rattle.pami_model.specs.declared.list.Row.{Row}
use Rattle.pami_model.specs.Draft.{new_row, place_of, row_with_bounds}
use Rattle.pami_model.specs.Number.{judge_number, judge_limit, limit_value}
use Rattle.pami_model.specs.Judgement.{wrong_if}
use Rattle.pami_model.proofs.Judging.{some≢none, both_none, unset}
use Rattle.pami_mps.specs.declared.kind.Section.{Section}
use Rattle.pami_mps.specs.declared.kind.Told.{Told}
use Rattle.pami_mps.specs.Gather.{Declared, Value, Role, Objective, Dropped, value_words, values_in, column_names, names_of, is_any, role_of, role_by, goal_values, given_for, constant_by, sense_by, places_of, has_cost}
use Rattle.pami_mps.specs.Rows.{told_of, row_of, right_by, range_by, bounds_with, plain_bounds, bound_by}
use Rattle.pami_mps.specs.Limits.{sides_of}
use Rattle.pami_mps.specs.Seen.{Given, Seen, names_by, columns_of, seen_by}
use Rattle.pami_mps.specs.After.{told_at, with_value, with_ranged, right_as, range_as, after_values, after_ranges, role_for, with_right, with_range, with_constant}
use Rattle.pami_mps.specs.Judge.{judge_value, judge_right_role, judge_values, judge_ranged, judge_range_role, judge_ranges}
use Rattle.pami_mps.proofs.Changed.{same, place_cons, place_none, place_some, map_changed, map_missed}
use Rattle.pami_mps.proofs.Names.{rows_back}

-- what is seen, with these rows, and what is told of them, and constant
abbrev pub with_rows : Section → Given → List Told → List Row → Fraction → Bool → Seen
with_rows section g told out constant has = record {
  section = section;
  free = g.free;
  told = told;
  sides = map (sides_of g.limits) (column_names g.pairs);
  draft = record {
    sense = sense_by g.senses;
    constant = constant;
    rows = out;
    columns = columns_of (names_by g.rows g.free) g.pairs g.limits;
    pairs =
        places_of (names_by g.rows g.free) g.pairs;
  };
  has_cost = has_cost (names_by g.rows g.free) g.pairs;
  has_constant = has;
}

-- what is given with these right-hand sides and ranges
abbrev pub valued : Given → List Value → List Value → Given
valued g values ranges = record { senses = g.senses; rows = g.rows; free = g.free; pairs = g.pairs; values = values; ranges = ranges; limits = g.limits }

-- the words given for a name

given_hit : (values : List Value) (r v n : List ℕ) → bytes_eq r n ≡ true → given_for (values ++ value_words r v ∷ []) n ≡ given_for values n ++ v ∷ []
given_hit values r v n e = ap (map (λ (x : Value). x.value)) (filter-append (λ (x : Value). bytes_eq x.row n) values (value_words r v ∷ []))
    ∙ map-append (λ (x : Value). x.value) (filter (λ (x : Value). bytes_eq x.row n) values) (filter (λ (x : Value). bytes_eq x.row n) (value_words r v ∷ []))
    ∙ ap (λ (b : Bool). given_for values n ++ map (λ (x : Value). x.value) (cond b (value_words r v ∷ []) [])) e

given_missed : (values : List Value) (r v n : List ℕ) → bytes_eq r n ≡ false → given_for (values ++ value_words r v ∷ []) n ≡ given_for values n
given_missed values r v n e = ap (map (λ (x : Value). x.value)) (filter-append (λ (x : Value). bytes_eq x.row n) values (value_words r v ∷ []))
    ∙ map-append (λ (x : Value). x.value) (filter (λ (x : Value). bytes_eq x.row n) values) (filter (λ (x : Value). bytes_eq x.row n) (value_words r v ∷ []))
    ∙ ap (λ (b : Bool). given_for values n ++ map (λ (x : Value). x.value) (cond b (value_words r v ∷ []) [])) e
    ∙ append-nil (given_for values n)

none_given : {A : Type 0} (xs : List A) → is_any xs ≡ false → xs ≡ []
none_given [] h = refl
none_given (x ∷ xs) h = absurd (true≢false h)

-- the one value of a name that had none
first_given : (values : List Value) (r v n : List ℕ) → given_for values r ≡ [] → bytes_eq r n ≡ true → given_for (values ++ value_words r v ∷ []) n ≡ v ∷ []
first_given values r v n none e = given_hit values r v n e ∙ ap (λ (m : List ℕ). given_for values m ++ v ∷ []) (sym (same r n e))
    ∙ ap (λ (ws : List (List ℕ)). ws ++ v ∷ []) none

-- the row of a name: what is told at its place is told of it
pub record IsRowOf (values ranges : List Value) (rows : List Declared) (n : List ℕ) (i : ℕ) : Type 0 where
  pub row : Declared
  pub name : row.name ≡ n
  pub told : told_at (map (told_of values ranges) rows) i ≡ told_of values ranges row

pub row_at : (values ranges : List Value) (rows : List Declared) (n : List ℕ) (i : ℕ) → place_of n (names_of rows) ≡ Some i → IsRowOf values ranges rows n i
row_at values ranges [] n i e = absurd (some≢none (sym e))
row_at values ranges (r ∷ rows) n i e = by (row_at values ranges rows n) (place_cons n r.name (names_of rows) i e)
  where
    by : ((j : ℕ) → place_of n (names_of rows) ≡ Some j → IsRowOf values ranges rows n j)
        → ((bytes_eq n r.name ≡ true) × (i ≡ 0)) ⊎ ((bytes_eq n r.name ≡ false) × ((j : ℕ) × (i ≡ suc j) × (place_of n (names_of rows) ≡ Some j)))
        → IsRowOf values ranges (r ∷ rows) n i
    by rest (inl p) = record { row = r; name = sym (same n r.name p.0); told = ap (told_at (told_of values ranges r ∷ map (told_of values ranges) rows)) p.1 }
    by rest (inr p) = let found = rest p.1.0 p.1.2 in record {
      row = found.row;
      name = found.name;
      told =
          ap (told_at (told_of values ranges r ∷ map (told_of values ranges) rows)) p.1.1 ∙ found.told;
    }

-- no name is that of a row of the model and of an N row
abbrev pub AreApart : List (List ℕ) → List (List ℕ) → Type 0
AreApart kept free = (n : List ℕ) → list_any (bytes_eq n) kept ≡ true → list_any (bytes_eq n) free ≡ false

module _ (section : Section) (g : Given) (distinct : IsDistinct bytes_eq (names_of g.rows)) (apart : AreApart (names_of g.rows) g.free) (r v : List ℕ) where
  abbrev value : BoundValue
  value = limit_value v

  -- one more right-hand side, before RANGES
  module _ (values : List Value) where
    abbrev now : Seen
    now = seen_by section (valued g values [])

    abbrev more : List Value
    more = values ++ value_words r v ∷ []

    abbrev behind : Seen
    behind = seen_by section (valued g more [])

    -- rows of other names stay
    row_missed : (x : Declared) → bytes_eq r x.name ≡ false → row_of more [] x ≡ row_of values [] x
    row_missed x e = ap (λ (ws : List (List ℕ)). new_row x.name (bounds_with x.kind (right_by ws) None)) (given_missed values r v x.name e)

    told_missed : (x : Declared) → bytes_eq r x.name ≡ false → told_of more [] x ≡ told_of values [] x
    told_missed x e = ap (λ (ws : List (List ℕ)). let t : Told =
        record { kind = x.kind; right = right_by ws; has_right = is_any ws; has_range = false } in t) (given_missed values r v x.name e)

    goals_kept : (ns : List (List ℕ)) → list_any (bytes_eq r) ns ≡ false → goal_values ns more ≡ goal_values ns values
    goals_kept [] e = refl
    goals_kept (n ∷ ns) e = given_missed values r v n (or_parts (bytes_eq r n) (list_any (bytes_eq r) ns) e).0

    abbrev told_by : List Declared → ℕ → Told
    told_by xs i = told_at (map (told_of values []) xs) i

    to_row : (i : ℕ) → place_of r (names_of g.rows) ≡ Some i → (told_at now.told i).has_right ≡ false → with_right i value now ≡ behind
    to_row i e free_still =
        let at : IsRowOf values [] g.rows r i = row_at values [] g.rows r i e in
        let none : given_for values r ≡ [] = none_given (given_for values r)
        (ap (λ (n : List ℕ). is_any (given_for values n)) (sym at.name) ∙ ap (λ (t : Told). t.has_right) (sym at.told) ∙ free_still) in
        let row_hit : (x : Declared) (xs : List Declared) → bytes_eq r x.name ≡ true
        → row_of more [] x ≡ row_with_bounds (plain_bounds (told_by (x ∷ xs) 0).kind (bound_by value)) (row_of values [] x) =
        (λ x xs h. ap (λ (ws : List (List ℕ)). new_row x.name (bounds_with x.kind (right_by ws) None)) (first_given values r v x.name none h)) in
        let told_hit : (x : Declared) (xs : List Declared) → bytes_eq r x.name ≡ true
        → ◌≡◌ {A = Told} (told_of more [] x) (record (told_by (x ∷ xs) 0) { right = value; has_right = true }) =
        (λ x xs h. ap (λ (ws : List (List ℕ)). let t : Told = record { kind = x.kind; right = right_by ws; has_right = is_any ws; has_range = false } in t)
        (first_given values r v x.name none h)) in
        let out = sym (map_changed (λ (x : Declared). x.name) (row_of values []) (row_of more []) r
        (λ xs k. row_with_bounds (plain_bounds (told_by xs k).kind (bound_by value))) (λ x xs k. refl) row_hit row_missed g.rows i e distinct) in
        let told = sym (map_changed (λ (x : Declared). x.name) (told_of values []) (told_of more []) r
        (λ xs k. (λ (u : Told). record (told_by xs k) { right = value; has_right = true })) (λ x xs k. refl) told_hit told_missed g.rows i e distinct) in
        let goals : goal_values g.free values ≡ goal_values g.free more = sym (goals_kept g.free (apart r (place_some r (names_of g.rows) i e))) in
        (λ k. with_rows section g (told k) (out k) (constant_by (goals k)) (is_any (goals k)))

    abbrev not_kept : Type 0
    not_kept = list_any (bytes_eq r) (names_of g.rows) ≡ false

    rows_kept : not_kept → map (row_of values []) g.rows ≡ map (row_of more []) g.rows
    rows_kept e = sym (map_missed (λ (x : Declared). x.name) (row_of values []) (row_of more []) r row_missed g.rows e)

    told_kept : not_kept → map (told_of values []) g.rows ≡ map (told_of more []) g.rows
    told_kept e = sym (map_missed (λ (x : Declared). x.name) (told_of values []) (told_of more []) r told_missed g.rows e)

    goal_first : (ns : List (List ℕ)) → place_of r ns ≡ Some 0 → is_any (goal_values ns values) ≡ false → goal_values ns more ≡ v ∷ []
    goal_first [] e h = absurd (some≢none (sym e))
    goal_first (n ∷ ns) e h = by (place_cons r n ns 0 e)
      where
        by : ((bytes_eq r n ≡ true) × (◌≡◌ {A = ℕ} 0 0)) ⊎ ((bytes_eq r n ≡ false) × ((j : ℕ) × (◌≡◌ {A = ℕ} 0 (suc j)) × (place_of r ns ≡ Some j)))
            → given_for more n ≡ v ∷ []
        by (inl p) = given_hit values r v n p.0 ∙ ap (λ (ws : List (List ℕ)). ws ++ v ∷ []) (none_given (given_for values n) h)
        by (inr p) = absurd cc

    goal_later : (ns : List (List ℕ)) (i : ℕ) → place_of r ns ≡ Some i → nat_eq i 0 ≡ false → goal_values ns more ≡ goal_values ns values
    goal_later [] i e h = refl
    goal_later (n ∷ ns) i e h = by (place_cons r n ns i e)
      where
        by : ((bytes_eq r n ≡ true) × (i ≡ 0)) ⊎ ((bytes_eq r n ≡ false) × ((j : ℕ) × (i ≡ suc j) × (place_of r ns ≡ Some j)))
            → given_for more n ≡ given_for values n
        by (inl p) = absurd (true≢false (sym (ap (λ (k : ℕ). nat_eq k 0) p.1) ∙ h))
        by (inr p) = given_missed values r v n p.0

    to_objective : place_of r (names_of g.rows) ≡ None → place_of r g.free ≡ Some 0 → now.has_constant ≡ false → with_constant (decimal_value v) now ≡ behind
    to_objective none e free_still =
        let absent : not_kept = place_none r (names_of g.rows) none in
        let out = rows_kept absent in
        let told = told_kept absent in
        let goals : v ∷ [] ≡ goal_values g.free more = sym (goal_first g.free e free_still) in
        (λ k. with_rows section g (told k) (out k) (constant_by (goals k)) (is_any (goals k)))

    to_dropped : (i : ℕ) → place_of r (names_of g.rows) ≡ None → place_of r g.free ≡ Some i → nat_eq i 0 ≡ false → now ≡ behind
    to_dropped i none e later =
        let absent : not_kept = place_none r (names_of g.rows) none in
        let out = rows_kept absent in
        let told = told_kept absent in
        let goals : goal_values g.free values ≡ goal_values g.free more = sym (goal_later g.free i e later) in
        (λ k. with_rows section g (told k) (out k) (constant_by (goals k)) (is_any (goals k)))

    by_role : (a b : Option ℕ) → place_of r (names_of g.rows) ≡ a → place_of r g.free ≡ b → judge_right_role now (role_by a b) v ≡ None
        → right_as (role_by a b) v now ≡ behind
    by_role (Some i) b e f j = to_row i e (unset (told_at now.told i).has_right _
        (both_none (wrong_if (told_at now.told i).has_right _) _ (both_none (judge_limit v) _ j).1).0)
    by_role None None e f j = absurd (some≢none j)
    by_role None (Some i) e f j = by (nat_eq i 0) refl j
      where
        by : (b : Bool) → nat_eq i 0 ≡ b → judge_right_role now (Some (cond b Objective Dropped)) v ≡ None
            → right_as (Some (cond b Objective Dropped)) v now ≡ behind
        by true h j = to_objective e (f ∙ ap Some (eqb-true i 0 h)) (unset now.has_constant _ (both_none (judge_number v) _ j).1)
        by false h j = to_dropped i e f h

    role_back : role_for now r ≡ role_of (names_of g.rows) g.free r
    role_back = ap (λ (kept : List (List ℕ)). role_of kept g.free r) (rows_back values [] g.rows)

    pub value_more : judge_value now r v ≡ None → with_value r v now ≡ behind
    value_more j = ap (λ (o : Option Role). right_as o v now) role_back
        ∙ by_role (place_of r (names_of g.rows)) (place_of r g.free) refl refl (sym (ap (λ (o : Option Role). judge_right_role now o v) role_back) ∙ j)

  -- one more range
  module _ (ranges : List Value) where
    abbrev before : Seen
    before = seen_by section (valued g g.values ranges)

    abbrev wider : List Value
    wider = ranges ++ value_words r v ∷ []

    abbrev after_range : Seen
    after_range = seen_by section (valued g g.values wider)

    bounds_missed : (x : Declared) → bytes_eq r x.name ≡ false → row_of g.values wider x ≡ row_of g.values ranges x
    bounds_missed x e = ap (λ (ws : List (List ℕ)). new_row x.name (bounds_with x.kind (right_by (given_for g.values x.name)) (range_by ws)))
        (given_missed ranges r v x.name e)

    marks_missed : (x : Declared) → bytes_eq r x.name ≡ false → told_of g.values wider x ≡ told_of g.values ranges x
    marks_missed x e =
        ap (λ (ws : List (List ℕ)). let t : Told = record {
          kind = x.kind;
          right = right_by (given_for g.values x.name);
          has_right =
              is_any (given_for g.values x.name);
          has_range = is_any ws;
        } in t) (given_missed ranges r v x.name e)

    abbrev marked : List Declared → ℕ → Told
    marked xs i = told_at (map (told_of g.values ranges) xs) i

    ranged_row : (i : ℕ) → place_of r (names_of g.rows) ≡ Some i → (told_at before.told i).has_range ≡ false → with_range i value before ≡ after_range
    ranged_row i e free_still =
        let at : IsRowOf g.values ranges g.rows r i = row_at g.values ranges g.rows r i e in
        let none : given_for ranges r ≡ [] = none_given (given_for ranges r)
        (ap (λ (n : List ℕ). is_any (given_for ranges n)) (sym at.name) ∙ ap (λ (t : Told). t.has_range) (sym at.told) ∙ free_still) in
        let row_hit : (x : Declared) (xs : List Declared) → bytes_eq r x.name ≡ true
        → row_of g.values wider x ≡ row_with_bounds (bounds_with (marked (x ∷ xs) 0).kind (marked (x ∷ xs) 0).right (Some value)) (row_of g.values ranges x) =
        (λ x xs h. ap (λ (ws : List (List ℕ)). new_row x.name (bounds_with x.kind (right_by (given_for g.values x.name)) (range_by ws)))
        (first_given ranges r v x.name none h)) in
        let told_hit : (x : Declared) (xs : List Declared) → bytes_eq r x.name ≡ true
        → ◌≡◌ {A = Told} (told_of g.values wider x) (record (marked (x ∷ xs) 0) { has_range = true }) =
        (λ x xs h. ap (λ (ws : List (List ℕ)). let t : Told =
        record { kind = x.kind; right = right_by (given_for g.values x.name); has_right = is_any (given_for g.values x.name); has_range = is_any ws } in t)
        (first_given ranges r v x.name none h)) in
        let out = sym (map_changed (λ (x : Declared). x.name) (row_of g.values ranges) (row_of g.values wider) r
        (λ xs k. row_with_bounds (bounds_with (marked xs k).kind (marked xs k).right (Some value)))
        (λ x xs k. refl) row_hit bounds_missed g.rows i e distinct) in
        let told = sym (map_changed (λ (x : Declared). x.name) (told_of g.values ranges) (told_of g.values wider) r
        (λ xs k. (λ (u : Told). record (marked xs k) { has_range = true })) (λ x xs k. refl) told_hit marks_missed g.rows i e distinct) in
        (λ k. with_rows section g (told k) (out k) (constant_by (goal_values g.free g.values)) (is_any (goal_values g.free g.values)))

    ranged_by : (a b : Option ℕ) → place_of r (names_of g.rows) ≡ a → judge_range_role before (role_by a b) v ≡ None
        → range_as (role_by a b) v before ≡ after_range
    ranged_by (Some i) b e j = ranged_row i e (unset (told_at before.told i).has_range _
        (both_none (wrong_if (told_at before.told i).has_range _) _ (both_none (judge_limit v) _ j).1).0)
    ranged_by None None e j = absurd (some≢none j)
    ranged_by None (Some i) e j = by (nat_eq i 0) j
      where
        by : (b : Bool) → judge_range_role before (Some (cond b Objective Dropped)) v ≡ None → range_as (Some (cond b Objective Dropped)) v before ≡ after_range
        by true j = absurd (some≢none j)
        by false j = absurd (some≢none j)

    name_back : role_for before r ≡ role_of (names_of g.rows) g.free r
    name_back = ap (λ (kept : List (List ℕ)). role_of kept g.free r) (rows_back g.values ranges g.rows)

    pub range_more : judge_ranged before r v ≡ None → with_ranged r v before ≡ after_range
    range_more j = ap (λ (o : Option Role). range_as o v before) name_back
        ∙ ranged_by (place_of r (names_of g.rows)) (place_of r g.free) refl (sym (ap (λ (o : Option Role). judge_range_role before o v) name_back) ∙ j)

module _ (section : Section) (g : Given) (distinct : IsDistinct bytes_eq (names_of g.rows)) (apart : AreApart (names_of g.rows) g.free) where
  -- a line of RHS
  pub value_line : (values : List Value) (words : List (List ℕ)) → judge_values (seen_by section (valued g values [])) words ≡ None
      → seen_by section (valued g (values ++ values_in words) []) ≡ after_values (seen_by section (valued g values [])) words
  value_line values (r ∷ v ∷ []) j = sym (value_more section g distinct apart r v values j)
  value_line values (r ∷ v ∷ q ∷ w ∷ []) j =
      let now : Seen = seen_by section (valued g values []) in
      let both = both_none (judge_value now r v) _ j in
      let one : with_value r v now ≡ seen_by section (valued g (values ++ value_words r v ∷ []) []) = value_more section g distinct apart r v values both.0 in
      ap (λ (xs : List Value). seen_by section (valued g xs [])) (sym (append_assoc values (value_words r v ∷ []) (value_words q w ∷ [])))
      ∙ sym (value_more section g distinct apart q w (values ++ value_words r v ∷ []) (subst (λ (x : Seen). judge_value x q w ≡ None) one both.1))
      ∙ ap (with_value q w) (sym one)
  value_line values words j = absurd (some≢none j)

  -- a line of RANGES
  pub range_line : (ranges : List Value) (words : List (List ℕ)) → judge_ranges (seen_by section (valued g g.values ranges)) words ≡ None
      → seen_by section (valued g g.values (ranges ++ values_in words)) ≡ after_ranges (seen_by section (valued g g.values ranges)) words
  range_line ranges (r ∷ v ∷ []) j = sym (range_more section g distinct apart r v ranges j)
  range_line ranges (r ∷ v ∷ q ∷ w ∷ []) j =
      let now : Seen = seen_by section (valued g g.values ranges) in
      let both = both_none (judge_ranged now r v) _ j in
      let one : with_ranged r v now ≡ seen_by section (valued g g.values (ranges ++ value_words r v ∷ [])) =
      range_more section g distinct apart r v ranges both.0 in
      ap (λ (xs : List Value). seen_by section (valued g g.values xs)) (sym (append_assoc ranges (value_words r v ∷ []) (value_words q w ∷ [])))
      ∙ sym (range_more section g distinct apart q w (ranges ++ value_words r v ∷ []) (subst (λ (x : Seen). judge_ranged x q w ≡ None) one both.1))
      ∙ ap (with_ranged q w) (sym one)
  range_line ranges words j = absurd (some≢none j)
