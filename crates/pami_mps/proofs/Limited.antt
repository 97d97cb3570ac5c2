-- What is seen behind one more line of BOUNDS.
use Rattle.std.proofs.Common.{◌≡◌, ℕ, suc, Bool, true, false, cond, not, is_some, List, [], ◌∷◌, ◌++◌, map, filter, fold, Option, None, Some, refl, sym, ap, ◌∙◌, map-id}
use Rattle.std.specs.List.{IsDistinct}
use Rattle.std.specs.Str.{bytes_eq}
use Rattle.std.proofs.lemmas.List.{append-nil}
use Rattle.std.proofs.lemmas.List.Elements.{filter-append}
use Rattle.std.proofs.lemmas.List.Sums.{fold-append}
use Rattle.pami_frac.specs.declared.bound.BoundValue.{BoundValue}
use Rattle.pami_frac.specs.declared.bound.BoundValue.TheVariants.{Finite}
use Rattle.pami_model.specs.declared.list.Column.{Column}
use Rattle.pami_model.specs.declared.fault.FileKind.TheVariants as kinds
use Rattle.pami_model.specs.Rules.{names_of_columns}
use Rattle.pami_model.specs.Draft.{zero, place_of, column_with_bounds}
use Rattle.pami_model.specs.Number.{limit_value}
use Rattle.pami_model.proofs.Judging.{some≢none, both_none}
use Rattle.pami_mps.specs.declared.kind.LimitKind.{LimitKind}
use Rattle.pami_mps.specs.declared.kind.Section.{Section}
use Rattle.pami_mps.specs.declared.kind.Sides.{Sides}
use Rattle.pami_mps.specs.Gather.{Names, Pair, column_names, column_of, places_of, has_cost, goal_values, constant_by, sense_by, is_any}
use Rattle.pami_mps.specs.Rows.{told_of, row_of}
use Rattle.pami_mps.specs.Limits.{Limit, limit, limit_kind_of, has_value, effect, unstated, sides_of, valued_in, unvalued_in, limit_as, limits_in}
use Rattle.pami_mps.specs.Seen.{Given, Seen, names_by, seen_by}
use Rattle.pami_mps.specs.After.{sides_at, with_sides, limit_at, with_limit, with_limits, after_limits}
use Rattle.pami_mps.specs.Judge.{judge_known, judge_limited, judge_valued, judge_unvalued, judge_limit_kind, judge_whole_kind, judge_limits}
use Rattle.pami_mps.proofs.Changed.{map_changed}
use Rattle.pami_mps.proofs.Names.{columns_back, once_distinct}

-- what is given with these lines of BOUNDS
abbrev pub limited : Given → List Limit → Given
limited g limits = record { senses = g.senses; rows = g.rows; free = g.free; pairs = g.pairs; values = g.values; ranges = g.ranges; limits = limits }

-- what is seen, with these columns and their bounds
abbrev pub with_columns : Section → Given → List Sides → List Column → Seen
with_columns section g sides columns = record {
  section = section;
  free = g.free;
  told = map (told_of g.values g.ranges) g.rows;
  sides = sides;
  draft = record {
    sense = sense_by g.senses;
    constant = constant_by (goal_values g.free g.values);
    rows = map (row_of g.values g.ranges) g.rows;
    columns = columns;
    pairs = places_of (names_by g.rows g.free) g.pairs;
  };
  has_cost = has_cost (names_by g.rows g.free) g.pairs;
  has_constant = is_any (goal_values g.free g.values);
}

abbrev step : Sides → Limit → Sides
step s l = effect l.kind l.value s

-- one line more at a name, or at another

sides_hit : (limits : List Limit) (l : Limit) (n : List ℕ) → bytes_eq l.column n ≡ true
    → sides_of (limits ++ l ∷ []) n ≡ effect l.kind l.value (sides_of limits n)
sides_hit limits l n e = ap (fold step unstated) (filter-append (λ (x : Limit). bytes_eq x.column n) limits (l ∷ []))
    ∙ ap (λ (b : Bool). fold step unstated (filter (λ (x : Limit). bytes_eq x.column n) limits ++ cond b (l ∷ []) [])) e
    ∙ fold-append step unstated (filter (λ (x : Limit). bytes_eq x.column n) limits) (l ∷ [])

sides_missed : (limits : List Limit) (l : Limit) (n : List ℕ) → bytes_eq l.column n ≡ false → sides_of (limits ++ l ∷ []) n ≡ sides_of limits n
sides_missed limits l n e = ap (fold step unstated) (filter-append (λ (x : Limit). bytes_eq x.column n) limits (l ∷ []))
    ∙ ap (λ (b : Bool). fold step unstated (filter (λ (x : Limit). bytes_eq x.column n) limits ++ cond b (l ∷ []) [])) e
    ∙ ap (fold step unstated) (append-nil (filter (λ (x : Limit). bytes_eq x.column n) limits))

unknown : (o : Option ℕ) → o ≡ None → Rattle.pami_model.specs.Judgement.wrong_if (not (is_some o)) kinds.UnknownColumn ≡ None → ⊥
unknown None e j = some≢none j
unknown (Some i) e j = some≢none e

module _ (section : Section) (g : Given) (limits : List Limit) where
  abbrev names : Names
  names = names_by g.rows g.free

  abbrev ns : List (List ℕ)
  ns = column_names g.pairs

  abbrev now : Seen
  now = seen_by section (limited g limits)

  place_back : (n : List ℕ) → place_of n (names_of_columns now.draft.columns) ≡ place_of n ns
  place_back n = ap (place_of n) (columns_back names g.pairs limits ns)

  module _ (l : Limit) where
    abbrev more : List Limit
    more = limits ++ l ∷ []

    abbrev behind : Seen
    behind = seen_by section (limited g more)

    abbrev column_by : List Limit → List ℕ → Column
    column_by ls n = column_of names g.pairs (sides_of ls n).bounds n

    abbrev sides_by : List (List ℕ) → ℕ → Sides
    sides_by ms i = effect l.kind l.value (sides_at (map (sides_of limits) ms) i)

    to_column : (i : ℕ) → place_of l.column ns ≡ Some i → with_sides i (sides_by ns i) now ≡ behind
    to_column i e =
        let here : place_of l.column (map (λ (n : List ℕ). n) ns) ≡ Some i = ap (place_of l.column) (map-id ns) ∙ e in
        let apart : IsDistinct bytes_eq (map (λ (n : List ℕ). n) ns) =
        Rattle.std.proofs.Common.subst (IsDistinct bytes_eq) (sym (map-id ns)) (once_distinct (map (λ (p : Pair). p.column) g.pairs)) in
        let column_hit : (n : List ℕ) (ms : List (List ℕ)) → bytes_eq l.column n ≡ true
        → column_by more n ≡ column_with_bounds (sides_by (n ∷ ms) 0).bounds (column_by limits n) =
        (λ n ms h. ap (λ (s : Sides). column_of names g.pairs s.bounds n) (sides_hit limits l n h)) in
        let column_missed : (n : List ℕ) → bytes_eq l.column n ≡ false → column_by more n ≡ column_by limits n =
        (λ n h. ap (λ (s : Sides). column_of names g.pairs s.bounds n) (sides_missed limits l n h)) in
        let hit : (n : List ℕ) (ms : List (List ℕ)) → bytes_eq l.column n ≡ true → sides_of more n ≡ sides_by (n ∷ ms) 0 = (λ n ms h. sides_hit limits l n h) in
        let sides = sym (map_changed (λ (n : List ℕ). n) (sides_of limits) (sides_of more) l.column (λ ms k. (λ (u : Sides). sides_by ms k))
        (λ x xs k. refl) hit (sides_missed limits l) ns i here apart) in
        let columns = sym (map_changed (λ (n : List ℕ). n) (column_by limits) (column_by more) l.column (λ ms k. column_with_bounds (sides_by ms k).bounds)
        (λ x xs k. refl) column_hit column_missed ns i here apart) in
        (λ k. with_columns section g (sides k) (columns k))

    pub limit_more : judge_known now l.column ≡ None → with_limit l now ≡ behind
    limit_more j = ap (λ (o : Option ℕ). limit_at o l now) (place_back l.column) ∙ by (place_of l.column ns) refl
      where
        by : (o : Option ℕ) → place_of l.column ns ≡ o → limit_at o l now ≡ behind
        by None e = absurd (unknown (place_of l.column (names_of_columns now.draft.columns)) (place_back l.column ∙ e) j)
        by (Some i) e = to_column i e

  limit_one : (column : List ℕ) (kind : LimitKind) (value : BoundValue) → judge_known now column ≡ None
      → seen_by section (limited g (limits ++ limit column kind value ∷ [])) ≡ with_limits (limit column kind value ∷ []) now
  limit_one column kind value j = sym (limit_more (limit column kind value) j)

  limit_valued : (kind : LimitKind) (column value : List ℕ) → judge_limited now kind column value ≡ None
      → seen_by section (limited g (limits ++ limit column kind (limit_value value) ∷ [])) ≡ with_limits (limit column kind (limit_value value) ∷ []) now
  limit_valued kind column value j = limit_one column kind (limit_value value) (both_none (judge_known now column) _ j).0

  by_value : (kind : LimitKind) (words : List (List ℕ)) → judge_valued now kind words ≡ None
      → seen_by section (limited g (limits ++ valued_in kind words)) ≡ with_limits (valued_in kind words) now
  by_value kind [] j = absurd (some≢none j)
  by_value kind (a ∷ []) j = absurd (some≢none j)
  by_value kind (column ∷ value ∷ []) j = limit_valued kind column value j
  by_value kind (set ∷ column ∷ value ∷ []) j = limit_valued kind column value j
  by_value kind (a ∷ b ∷ c ∷ d ∷ words) j = absurd (some≢none j)

  by_mark : (kind : LimitKind) (words : List (List ℕ)) → judge_unvalued now words ≡ None
      → seen_by section (limited g (limits ++ unvalued_in kind words)) ≡ with_limits (unvalued_in kind words) now
  by_mark kind [] j = absurd (some≢none j)
  by_mark kind (column ∷ []) j = limit_one column kind (Finite zero) j
  by_mark kind (set ∷ column ∷ []) j = limit_one column kind (Finite zero) j
  by_mark kind (set ∷ column ∷ unread ∷ []) j = limit_one column kind (Finite zero) j
  by_mark kind (a ∷ b ∷ c ∷ d ∷ words) j = absurd (some≢none j)

  by_kind : (o : Option LimitKind) (words : List (List ℕ)) → judge_limit_kind now o words ≡ None
      → seen_by section (limited g (limits ++ limit_as o words)) ≡ with_limits (limit_as o words) now
  by_kind None words j = absurd (some≢none j)
  by_kind (Some kind) words j = by (has_value kind) j
    where
      by : (b : Bool) → cond b (judge_valued now kind words) (judge_unvalued now words) ≡ None
          → seen_by section (limited g (limits ++ cond b (valued_in kind words) (unvalued_in kind words))) ≡ with_limits
          (cond b (valued_in kind words) (unvalued_in kind words)) now
      by true j = by_value kind words j
      by false j = by_mark kind words j

  -- a line of BOUNDS
  pub limit_line : (words : List (List ℕ)) → judge_limits now words ≡ None → seen_by section (limited g (limits ++ limits_in words)) ≡ after_limits now words
  limit_line [] j = absurd (some≢none j)
  limit_line (kind ∷ words) j = by_kind (limit_kind_of kind) words (both_none (judge_whole_kind kind words) _ j).1
