-- What is seen behind one more line of COLUMNS.
use Rattle.std.proofs.Common.{◌≡◌, ◌+◌, ℕ, Bool, true, false, true≢false, cond, nat_lt, List, [], ◌∷◌, ◌++◌, map, filter, length, Option, None, Some, refl, sym, ap, subst, ◌∙◌, append_assoc, length-append, map-id, arith, ◌||◌}
use Rattle.std.specs.List.{list_any, flat_map}
use Rattle.std.specs.Option.{option_map}
use Rattle.std.specs.Str.{bytes_eq}
use Rattle.std.proofs.lemmas.Bool.{eqb-true}
use Rattle.std.proofs.lemmas.List.{append-nil, map-append, length-map}
use Rattle.std.proofs.lemmas.List.Concat.{flat_map-append}
use Rattle.pami_algebra.specs.Fraction.{Fraction}
use Rattle.pami_frac.specs.declared.list.Entry.{Entry}
use Rattle.pami_frac.specs.Decimal.{decimal_value}
use Rattle.pami_model.specs.declared.fault.BuildFault.{BuildFault}
use Rattle.pami_model.specs.declared.fault.BuildFault.TheVariants as faults
use Rattle.pami_model.specs.declared.list.Column.{Column}
use Rattle.pami_model.specs.Rules.{names_of_columns, name_limit}
use Rattle.pami_model.specs.Draft.{new_column, nonnegative, place_of, changed, stores, column_with_cost, is_zero, column_fault}
use Rattle.pami_model.specs.Number.{judge_number}
use Rattle.pami_model.specs.Judgement.{first_of, wrong_if}
use Rattle.pami_model.specs.Refusal.{judge_build}
use Rattle.pami_model.proofs.Judging.{some≢none, both_none, unset}
use Rattle.pami_mps.specs.declared.kind.Section.{Section}
use Rattle.pami_mps.specs.declared.kind.Sides.{Sides}
use Rattle.pami_mps.specs.Gather.{Pair, Names, Role, Kept, Objective, Dropped, pair, pairs_in, column_names, column_of, costs_of, is_any, only_of, cost_in, entry_in, entry_as, is_objective, places_in, places_as, role_in, role_of, is_of, last_name, goal_values, constant_by, sense_by}
use Rattle.pami_mps.specs.Rows.{told_of, row_of}
use Rattle.pami_mps.specs.Limits.{unstated}
use Rattle.pami_mps.specs.Seen.{Given, Seen, names_by, seen_by}
use Rattle.pami_mps.specs.After.{after_column, is_last, is_current, last_place, with_column, with_entry, with_pair, role_for}
use Rattle.pami_mps.specs.Judge.{judge_column_name, judge_pair, judge_role, judge_column, is_marker}
use Rattle.pami_mps.proofs.Changed.{itself, place_none, place_some, place_more, place_new, last_split, changed_last, map_missed}
use Rattle.pami_mps.proofs.Names.{step, column_names_more, any_once, step_last, filter_other, filter_one, filter_new, rows_back, columns_back, last_name_is}

-- what is seen, with these columns, their bounds, places of pairs and cost
abbrev pub shown : Section → Given → List Column → List Sides → List (ℕ × ℕ) → Bool → Seen
shown section g columns sides places has = record {
  section = section;
  free = g.free;
  told = map (told_of g.values g.ranges) g.rows;
  sides = sides;
  draft = record {
    sense = sense_by g.senses;
    constant = constant_by (goal_values g.free g.values);
    rows = map (row_of g.values g.ranges) g.rows;
    columns =
        columns;
    pairs = places;
  };
  has_cost = has;
  has_constant = is_any (goal_values g.free g.values);
}

-- what is given with these pairs, before BOUNDS
abbrev pub paired : Given → List Pair → Given
paired g pairs = record { senses = g.senses; rows = g.rows; free = g.free; pairs = pairs; values = g.values; ranges = g.ranges; limits = [] }

-- what is seen, with columns of these names
abbrev pub state : Section → Given → List (List ℕ) → List Pair → Seen
state section g ns pairs =
    shown section g (map (column_of (names_by g.rows g.free) pairs nonnegative) ns) (map (λ (n : List ℕ). unstated) ns)
    (flat_map (places_in (names_by g.rows g.free) ns) pairs)
    (is_any (costs_of (names_by g.rows g.free) pairs (last_name ns)))

-- the column of the pair stands

places_kept : (names : Names) (ns : List (List ℕ)) (c : List ℕ) (qs : List Pair)
    → ((p : List ℕ) → list_any (bytes_eq p) (map (λ (q : Pair). q.column) qs) ≡ true → list_any (bytes_eq p) ns ≡ true)
    → flat_map (places_in names (ns ++ c ∷ [])) qs ≡ flat_map (places_in names ns) qs
places_kept names ns c [] h = refl
places_kept names ns c (q ∷ qs) h =
    rw (place_more q.column ns (c ∷ []) (h q.column (rw (itself q.column) refl)), places_kept names ns c qs (λ p e. h p (after p e))) refl
  where
    after : (p : List ℕ) → list_any (bytes_eq p) (map (λ (x : Pair). x.column) qs) ≡ true
        → (bytes_eq p q.column || list_any (bytes_eq p) (map (λ (x : Pair). x.column) qs)) ≡ true
    after p e = rw e (by (bytes_eq p q.column))
      where
        by : (b : Bool) → (b || true) ≡ true
        by true = refl
        by false = refl

column_new : (names : Names) (pairs : List Pair) (c : List ℕ) → filter (is_of c) pairs ≡ [] → column_of names pairs nonnegative c ≡ new_column c
column_new names pairs c e = ap (λ (ps : List Pair). let x : Column =
    record { name = c; cost = only_of (flat_map (cost_in names) ps); bounds = nonnegative; entries = flat_map (entry_in names) ps } in x) e

-- a name that stands already is refused
known : (long : Bool) (o : Option ℕ) (rest : Option BuildFault) (i : ℕ) → o ≡ Some i
    → judge_build (first_of (wrong_if long faults.NameTooLong) (first_of (option_map (λ earlier. faults.DuplicateColumn earlier) o) rest)) ≡ None → ⊥
known true o rest i e j = some≢none j
known false None rest i e j = some≢none (sym e)
known false (Some k) rest i e j = some≢none j

module _ (section : Section) (g : Given) (pairs : List Pair) (c : List ℕ) where
  abbrev names : Names
  names = names_by g.rows g.free

  abbrev ns : List (List ℕ)
  ns = column_names pairs

  abbrev now : Seen
  now = seen_by section (paired g pairs)

  current_is : is_current now.draft.columns c ≡ is_last (place_of c ns) (length ns)
  current_is = ap (λ (ms : List (List ℕ)). is_last (place_of c ms) (length (map (column_of names pairs nonnegative) ns))) (columns_back names pairs [] ns)
      ∙ ap (is_last (place_of c ns)) (length-map ns (column_of names pairs nonnegative))

  pub record Stands : Type 0 where
    pub before : List (List ℕ)
    pub fresh : list_any (bytes_eq c) before ≡ false
    pub ends : step ns c ≡ before ++ c ∷ []
    pub is : with_column c now ≡ state section g (before ++ c ∷ []) pairs

  -- behind a pair of a column that stood, or of a new one
  stood : (i : ℕ) → place_of c ns ≡ Some i → is_last (place_of c ns) (length ns) ≡ true → Stands
  stood i e h =
      let found = last_split c ns i e (eqb-true (i + 1) (length ns) (sym (ap (λ (o : Option ℕ). is_last o (length ns)) e) ∙ h)) in
      let here : list_any (bytes_eq c) ns ≡ true = place_some c ns i e in
      let split : ns ≡ found.0 ++ c ∷ [] = found.1.split in
      record {
        before = found.0;
        fresh = found.1.fresh;
        ends = ap (λ (b : Bool). cond b ns (ns ++ c ∷ [])) here ∙ split;
        is = ap (λ (b : Bool). cond b now (record now {
          draft = record now.draft { columns = now.draft.columns ++ new_column c ∷ [] };
          sides =
              now.sides ++ unstated ∷ [];
          has_cost = false;
        })) (current_is ∙ h)
            ∙ ap (λ (ms : List (List ℕ)). state section g ms pairs) split;
      }

  new : place_of c ns ≡ None → Stands
  new e =
      let absent : list_any (bytes_eq c) ns ≡ false = place_none c ns e in
      let none : filter (is_of c) pairs ≡ [] = filter_new c pairs absent in
      let columns : now.draft.columns ++ new_column c ∷ [] ≡ map (column_of names pairs nonnegative) (ns ++ c ∷ []) =
      ap (λ (x : Column). now.draft.columns ++ x ∷ []) (sym (column_new names pairs c none))
      ∙ sym (map-append (column_of names pairs nonnegative) ns (c ∷ [])) in
      let sides : now.sides ++ unstated ∷ [] ≡ map (λ (n : List ℕ). unstated) (ns ++ c ∷ []) = sym (map-append (λ (n : List ℕ). unstated) ns (c ∷ [])) in
      let places : flat_map (places_in names ns) pairs ≡ flat_map (places_in names (ns ++ c ∷ [])) pairs =
      sym (places_kept names ns c pairs (λ p h. any_once p (map (λ (q : Pair). q.column) pairs) ∙ h)) in
      let cost : false ≡ is_any (costs_of names pairs (last_name (ns ++ c ∷ []))) =
      sym (ap (λ (o : Option (List ℕ)). is_any (costs_of names pairs o)) (last_name_is ns c)
      ∙ ap (λ (ps : List Pair). is_any (flat_map (cost_in names) ps)) none) in
      record {
        before = ns;
        fresh = absent;
        ends = ap (λ (b : Bool). cond b ns (ns ++ c ∷ [])) absent;
        is = ap (λ (b : Bool). cond b now (record now {
          draft = record now.draft { columns = now.draft.columns ++ new_column c ∷ [] };
          sides =
              now.sides ++ unstated ∷ [];
          has_cost = false;
        }))
            (current_is ∙ ap (λ (o : Option ℕ). is_last o (length ns)) e)
            ∙ (λ i. shown section g (columns i) (sides i) (places i) (cost i));
      }

  elsewhere : (i : ℕ) → place_of c ns ≡ Some i → is_last (place_of c ns) (length ns) ≡ false → judge_column_name now c ≡ None → ⊥
  elsewhere i e h j =
      let refused : judge_build (column_fault now.draft c) ≡ None =
      sym (ap (λ (b : Bool). cond b None (judge_build (column_fault now.draft c))) (current_is ∙ h)) ∙ j in
      known (nat_lt name_limit (length c)) (place_of c (names_of_columns now.draft.columns)) _ i (ap (place_of c) (columns_back names pairs [] ns) ∙ e) refused

  pub stands : judge_column_name now c ≡ None → Stands
  stands j = by (place_of c ns) refl
    where
      by : (o : Option ℕ) → place_of c ns ≡ o → Stands
      by None e = new e
      by (Some i) e = go (is_last (place_of c ns) (length ns)) refl
        where
          go : (b : Bool) → is_last (place_of c ns) (length ns) ≡ b → Stands
          go true h = stood i e h
          go false h = absurd (elsewhere i e h j)

-- one pair of the column that stands last

-- a column of these names whose function changes at the last name
module _ (f g : List ℕ → Column) (h : Column → Column) (before : List (List ℕ)) (c : List ℕ) (fresh : list_any (bytes_eq c) before ≡ false)
    (missed : (n : List ℕ) → bytes_eq c n ≡ false → g n ≡ f n) where
  pub with_last : g c ≡ h (f c) → map g (before ++ c ∷ []) ≡ map f before ++ h (f c) ∷ []
  with_last e = map-append g before (c ∷ [])
      ∙ rw (e, map_missed (λ (n : List ℕ). n) f g c missed before (ap (list_any (bytes_eq c)) (map-id before) ∙ fresh)) refl

  place_is : last_place (map f (before ++ c ∷ [])) ≡ length before
  place_is = ap last_place (map-append f before (c ∷ [])) ∙ omega (arith, length-append (map f before) (f c ∷ []), length-map before f)

  pub changed_at_last : g c ≡ h (f c) → map g (before ++ c ∷ []) ≡ changed (last_place (map f (before ++ c ∷ []))) h (map f (before ++ c ∷ []))
  changed_at_last e = with_last e ∙ sym (changed_last h (map f before) (f c))
      ∙ ap (λ (i : ℕ). changed i h (map f before ++ f c ∷ [])) (length-map before f ∙ sym place_is)
      ∙ ap (changed (last_place (map f (before ++ c ∷ []))) h) (sym (map-append f before (c ∷ [])))

module _ (section : Section) (g : Given) (pairs : List Pair) (before : List (List ℕ)) (c r v : List ℕ) (fresh : list_any (bytes_eq c) before ≡ false) where
  abbrev all : Names
  all = names_by g.rows g.free

  abbrev ends : List (List ℕ)
  ends = before ++ c ∷ []

  abbrev p : Pair
  p = pair c r v

  abbrev mine : List Pair
  mine = filter (is_of c) pairs

  abbrev costs : List Fraction
  costs = flat_map (cost_in all) mine

  abbrev value : Fraction
  value = decimal_value v

  abbrev old : Seen
  old = state section g ends pairs

  abbrev columns : List Column
  columns = map (column_of all pairs nonnegative) ends

  missed : (n : List ℕ) → bytes_eq c n ≡ false → column_of all (pairs ++ p ∷ []) nonnegative n ≡ column_of all pairs nonnegative n
  missed n e = ap (λ (ps : List Pair). let x : Column =
      record { name = n; cost = only_of (flat_map (cost_in all) ps); bounds = nonnegative; entries = flat_map (entry_in all) ps } in x)
      (filter_other n pairs p e)

  abbrev added : Option Role → List Fraction
  added o = cond (is_objective o) (value ∷ []) []

  costs_are : (o : Option Role) → role_in all r ≡ o → flat_map (cost_in all) (filter (is_of c) (pairs ++ p ∷ [])) ≡ costs ++ added o
  costs_are o e = ap (flat_map (cost_in all)) (filter_one c pairs p (itself c)) ∙ flat_map-append (cost_in all) mine (p ∷ [])
      ∙ ap (λ (x : Option Role). costs ++ (added x ++ [])) e ∙ ap (λ (fs : List Fraction). costs ++ fs) (append-nil (added o))

  entries_are : (o : Option Role) → role_in all r ≡ o
      → flat_map (entry_in all) (filter (is_of c) (pairs ++ p ∷ [])) ≡ flat_map (entry_in all) mine ++ entry_as o value
  entries_are o e = ap (flat_map (entry_in all)) (filter_one c pairs p (itself c)) ∙ flat_map-append (entry_in all) mine (p ∷ [])
      ∙ ap (λ (x : Option Role). flat_map (entry_in all) mine ++ (entry_as x value ++ [])) e
      ∙ ap (λ (es : List Entry). flat_map (entry_in all) mine ++ es) (append-nil (entry_as o value))

  column_is : (o : Option Role) → role_in all r ≡ o → (cost : Fraction) (entries : List Entry) → only_of (costs ++ added o) ≡ cost
      → flat_map (entry_in all) mine ++ entry_as o value ≡ entries
      → column_of all (pairs ++ p ∷ []) nonnegative c ≡ record { name = c; cost = cost; bounds = nonnegative; entries = entries }
  column_is o e cost entries h k =
      let first : only_of (flat_map (cost_in all) (filter (is_of c) (pairs ++ p ∷ []))) ≡ cost = ap only_of (costs_are o e) ∙ h in
      let second : flat_map (entry_in all) (filter (is_of c) (pairs ++ p ∷ [])) ≡ entries = entries_are o e ∙ k in
      (λ i. record { name = c; cost = first i; bounds = nonnegative; entries = second i })

  has_is : (o : Option Role) → role_in all r ≡ o → (has : Bool) → is_any (costs ++ added o) ≡ has
      → has ≡ is_any (costs_of all (pairs ++ p ∷ []) (last_name ends))
  has_is o e has h = sym (ap (λ (x : Option (List ℕ)). is_any (costs_of all (pairs ++ p ∷ []) x)) (last_name_is before c) ∙ ap is_any (costs_are o e) ∙ h)

  had : old.has_cost ≡ is_any costs
  had = ap (λ (x : Option (List ℕ)). is_any (costs_of all pairs x)) (last_name_is before c)

  places_are : (o : Option Role) → role_in all r ≡ o → flat_map (places_in all ends) (pairs ++ p ∷ []) ≡ old.draft.pairs ++ places_as (Some (length before)) o
  places_are o e = flat_map-append (places_in all ends) pairs (p ∷ [])
      ∙ ap (λ (x : Option ℕ). old.draft.pairs ++ (places_as x (role_in all r) ++ [])) (place_new c before fresh)
      ∙ ap (λ (x : Option Role). old.draft.pairs ++ (places_as (Some (length before)) x ++ [])) e
      ∙ ap (λ (ps : List (ℕ × ℕ)). old.draft.pairs ++ ps) (append-nil (places_as (Some (length before)) o))

  abbrev behind : Seen
  behind = state section g ends (pairs ++ p ∷ [])

  -- no cost changes
  kept_cost : only_of (costs ++ []) ≡ only_of costs
  kept_cost = ap only_of (append-nil costs)

  kept_has : (o : Option Role) → role_in all r ≡ o → added o ≡ [] → old.has_cost ≡ behind.has_cost
  kept_has o e none = has_is o e old.has_cost (ap (λ (fs : List Fraction). is_any (costs ++ fs)) none ∙ ap is_any (append-nil costs) ∙ sym had)

  to_row : (row : ℕ) → role_in all r ≡ Some (Kept row) → with_entry (Some (Kept row)) value old ≡ behind
  to_row row e =
      let stored : column_of all (pairs ++ p ∷ []) nonnegative c ≡ stores row value (column_of all pairs nonnegative c) = by (is_zero value) refl in
      let cols : changed (last_place columns) (stores row value) columns ≡ map (column_of all (pairs ++ p ∷ []) nonnegative) ends =
      sym (changed_at_last (column_of all pairs nonnegative) (column_of all (pairs ++ p ∷ []) nonnegative) (stores row value) before c fresh missed stored) in
      let last : last_place columns ≡ length before =
      place_is (column_of all pairs nonnegative) (column_of all (pairs ++ p ∷ []) nonnegative) (stores row value) before c fresh missed in
      let places : old.draft.pairs ++ (last_place columns, row) ∷ [] ≡ flat_map (places_in all ends) (pairs ++ p ∷ []) =
      ap (λ (i : ℕ). old.draft.pairs ++ (i, row) ∷ []) last ∙ sym (places_are (Some (Kept row)) e) in
      let has : old.has_cost ≡ behind.has_cost = kept_has (Some (Kept row)) e refl in
      (λ i. shown section g (cols i) (map (λ (n : List ℕ). unstated) ends) (places i) (has i))
    where
      by : (b : Bool) → is_zero value ≡ b → column_of all (pairs ++ p ∷ []) nonnegative c ≡ cond b (column_of all pairs nonnegative c)
          (record (column_of all pairs nonnegative c) { entries = (column_of all pairs nonnegative c).entries ++ record { place = row; value = value } ∷ [] })
      by true z = column_is (Some (Kept row)) e (only_of costs) (flat_map (entry_in all) mine) kept_cost
          (ap (λ (b : Bool). flat_map (entry_in all) mine ++ cond b [] (record { place = row; value = value } ∷ [])) z
          ∙ append-nil (flat_map (entry_in all) mine))
      by false z = column_is (Some (Kept row)) e (only_of costs) _ kept_cost
          (ap (λ (b : Bool). flat_map (entry_in all) mine ++ cond b [] (record { place = row; value = value } ∷ [])) z)

  to_objective : role_in all r ≡ Some Objective → old.has_cost ≡ false → with_entry (Some Objective) value old ≡ behind
  to_objective e free_still =
      let none : costs ≡ [] = no_costs costs (sym had ∙ free_still) in
      let given : column_of all (pairs ++ p ∷ []) nonnegative c ≡ record (column_of all pairs nonnegative c) { cost = value } =
      column_is (Some Objective) e value (flat_map (entry_in all) mine) (ap (λ (fs : List Fraction). only_of (fs ++ value ∷ [])) none)
      (append-nil (flat_map (entry_in all) mine)) in
      let cols : changed (last_place columns) (column_with_cost value) columns ≡ map (column_of all (pairs ++ p ∷ []) nonnegative) ends =
      sym (changed_at_last (column_of all pairs nonnegative) (column_of all (pairs ++ p ∷ []) nonnegative)
      (column_with_cost value) before c fresh missed given) in
      let places : old.draft.pairs ≡ flat_map (places_in all ends) (pairs ++ p ∷ []) = sym (places_are (Some Objective) e ∙ append-nil old.draft.pairs) in
      let has : true ≡ behind.has_cost = has_is (Some Objective) e true (ap (λ (fs : List Fraction). is_any (fs ++ value ∷ [])) none) in
      (λ i. shown section g (cols i) (map (λ (n : List ℕ). unstated) ends) (places i) (has i))
    where
      no_costs : (fs : List Fraction) → is_any fs ≡ false → fs ≡ []
      no_costs [] h = refl
      no_costs (x ∷ fs) h = absurd (true≢false h)

  to_dropped : role_in all r ≡ Some Dropped → old ≡ behind
  to_dropped e =
      let same_one : column_of all (pairs ++ p ∷ []) nonnegative c ≡ column_of all pairs nonnegative c =
      column_is (Some Dropped) e (only_of costs) (flat_map (entry_in all) mine) kept_cost (append-nil (flat_map (entry_in all) mine)) in
      let cols : columns ≡ map (column_of all (pairs ++ p ∷ []) nonnegative) ends =
      map-append (column_of all pairs nonnegative) before (c ∷ [])
      ∙ sym (with_last (column_of all pairs nonnegative) (column_of all (pairs ++ p ∷ []) nonnegative) (λ x. x) before c fresh missed same_one) in
      let places : old.draft.pairs ≡ flat_map (places_in all ends) (pairs ++ p ∷ []) = sym (places_are (Some Dropped) e ∙ append-nil old.draft.pairs) in
      let has : old.has_cost ≡ behind.has_cost = kept_has (Some Dropped) e refl in
      (λ i. shown section g (cols i) (map (λ (n : List ℕ). unstated) ends) (places i) (has i))

  role_back : role_for old r ≡ role_in all r
  role_back = ap (λ (kept : List (List ℕ)). role_of kept g.free r) (rows_back g.values g.ranges g.rows)

  pub pair_more : judge_pair old r v ≡ None → with_pair r v old ≡ behind
  pair_more j = ap (λ (o : Option Role). with_entry o value old) role_back
      ∙ by (role_in all r) refl (sym (ap (λ (o : Option Role). judge_role old o v) role_back) ∙ j)
    where
      by : (o : Option Role) → role_in all r ≡ o → judge_role old o v ≡ None → with_entry o value old ≡ behind
      by None e j = absurd (some≢none j)
      by (Some (Kept row)) e j = to_row row e
      by (Some Objective) e j = to_objective e (unset old.has_cost _ (both_none (judge_number v) _ j).1)
      by (Some Dropped) e j = to_dropped e

-- a line of COLUMNS
pub column_line : (section : Section) (g : Given) (pairs : List Pair) (words : List (List ℕ))
    → judge_column (seen_by section (paired g pairs)) words ≡ None
    → seen_by section (paired g (pairs ++ pairs_in words)) ≡ after_column (seen_by section (paired g pairs)) words
column_line section g pairs (c ∷ r ∷ v ∷ []) j =
    let s : Seen = seen_by section (paired g pairs) in
    let named = both_none (judge_column_name s c) _ j in
    let first = both_none (wrong_if (is_marker r) _) _ named.1 in
    let at : Stands section g pairs c = stands section g pairs c named.0 in
    ap (λ (ns : List (List ℕ)). state section g ns (pairs ++ pair c r v ∷ [])) (column_names_more pairs (pair c r v) ∙ at.ends)
    ∙ sym (pair_more section g pairs at.before c r v at.fresh (subst (λ (x : Seen). judge_pair x r v ≡ None) at.is first.1))
    ∙ ap (with_pair r v) (sym at.is)
column_line section g pairs (c ∷ r ∷ v ∷ q ∷ w ∷ []) j =
    let s : Seen = seen_by section (paired g pairs) in
    let named = both_none (judge_column_name s c) _ j in
    let first = both_none (wrong_if (is_marker r) _) _ named.1 in
    let two = both_none (judge_pair (with_column c s) r v) _ first.1 in
    let at : Stands section g pairs c = stands section g pairs c named.0 in
    let one : with_pair r v (with_column c s) ≡ state section g (at.before ++ c ∷ []) (pairs ++ pair c r v ∷ []) =
    ap (with_pair r v) at.is ∙ pair_more section g pairs at.before c r v at.fresh (subst (λ (x : Seen). judge_pair x r v ≡ None) at.is two.0) in
    let names : column_names ((pairs ++ pair c r v ∷ []) ++ pair c q w ∷ []) ≡ at.before ++ c ∷ [] =
    column_names_more (pairs ++ pair c r v ∷ []) (pair c q w) ∙ ap (λ (ns : List (List ℕ)). step ns c) (column_names_more pairs (pair c r v) ∙ at.ends)
    ∙ step_last c at.before in
    ap (λ (ps : List Pair). seen_by section (paired g ps)) (sym (append_assoc pairs (pair c r v ∷ []) (pair c q w ∷ [])))
    ∙ ap (λ (ns : List (List ℕ)). state section g ns ((pairs ++ pair c r v ∷ []) ++ pair c q w ∷ [])) names
    ∙ sym (pair_more section g (pairs ++ pair c r v ∷ []) at.before c q w at.fresh (subst (λ (x : Seen). judge_pair x q w ≡ None) one two.1))
    ∙ ap (with_pair q w) (sym one)
column_line section g pairs words j = absurd (some≢none j)
