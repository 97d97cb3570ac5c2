-- What is seen behind one more line of ROWS.
use Rattle.std.proofs.Common.{◌≡◌, ℕ, Bool, true, false, true≢false, cond, nat_lt, List, [], ◌∷◌, ◌++◌, map, length, Option, None, Some, refl, sym, ap, subst, ◌∙◌, ◌||◌}
use Rattle.std.specs.List.{list_any, IsDistinct}
use Rattle.std.specs.Option.{option_map}
use Rattle.std.specs.Str.{bytes_eq}
use Rattle.std.proofs.lemmas.Bool.{or_parts}
use Rattle.std.proofs.lemmas.List.{append-nil, map-append}
use Rattle.std.proofs.lemmas.List.Folds.{list_any-append}
use Rattle.std.proofs.lemmas.Map.Keys.{IsDistinct-push}
use Rattle.std.proofs.lemmas.Cmp.{nat_list_eq_equiv}
use Rattle.pami_algebra.specs.Fraction.{Fraction}
use Rattle.pami_model.specs.declared.fault.FileKind.TheVariants as kinds
use Rattle.pami_model.specs.declared.fault.BuildFault.{BuildFault}
use Rattle.pami_model.specs.declared.fault.BuildFault.TheVariants as faults
use Rattle.pami_model.specs.declared.list.Row.{Row}
use Rattle.pami_model.specs.Rules.{names_of_rows, name_limit}
use Rattle.pami_model.specs.Draft as draft
use Rattle.pami_model.specs.Draft.{place_of, row_fault}
use Rattle.pami_model.specs.Judgement.{first_of, wrong_if}
use Rattle.pami_model.specs.Refusal.{judge_build}
use Rattle.pami_model.proofs.Judging.{some≢none, both_none, unset}
use Rattle.pami_mps.specs.declared.kind.RowKind.{RowKind}
use Rattle.pami_mps.specs.declared.kind.Section.{Section}
use Rattle.pami_mps.specs.declared.kind.Told.{Told}
use Rattle.pami_mps.specs.Gather.{Declared, kept_as, free_as, kept_in, free_in, kind_of, is_free, names_of, goal_values, constant_by, sense_by, is_any}
use Rattle.pami_mps.specs.Rows.{told_of, row_of, plain_bounds}
use Rattle.pami_mps.specs.Seen.{Given, Seen, seen_by}
use Rattle.pami_mps.specs.After.{new_told, with_row, after_row}
use Rattle.pami_mps.specs.Judge.{judge_free, judge_kept, judge_kind, judge_row}
use Rattle.pami_mps.proofs.Changed.{same, place_none}
use Rattle.pami_mps.proofs.Names.{rows_back}
use Rattle.pami_mps.proofs.Values.{AreApart}

-- what rows alone give
abbrev pub declared : Section → Given → List (List ℕ) → List Told → List Row → Fraction → Bool → Seen
declared section g free told out constant has = record {
  section = section;
  free = free;
  told = told;
  sides = [];
  draft = record { sense = sense_by g.senses; constant = constant; rows = out; columns = []; pairs = [] };
  has_cost = false;
  has_constant = has;
}

-- what is given with these rows, before COLUMNS
abbrev pub rowed : Given → List Declared → List (List ℕ) → Given
rowed g rows free = record { senses = g.senses; rows = rows; free = free; pairs = []; values = []; ranges = []; limits = [] }

no_goals : (free : List (List ℕ)) → goal_values free [] ≡ []
no_goals [] = refl
no_goals (n ∷ free) = refl

module _ (section : Section) (g : Given) (rows : List Declared) (free : List (List ℕ)) where
  abbrev old : Seen
  old = seen_by section (rowed g rows free)

  -- a row of the model and an N row
  abbrev more : List Declared → List (List ℕ) → Seen
  more ds ns = seen_by section (rowed g (rows ++ ds) (free ++ ns))

  none_more : more [] [] ≡ old
  none_more = rw (append-nil rows, append-nil free) refl

  free_more : (name : List ℕ) → more [] (name ∷ []) ≡ record old { free = free ++ name ∷ [] }
  free_more name =
      let all : rows ++ [] ≡ rows = append-nil rows in
      let goals : goal_values (free ++ name ∷ []) [] ≡ goal_values free [] = no_goals (free ++ name ∷ []) ∙ sym (no_goals free) in
      (λ i. declared section g (free ++ name ∷ []) (map (told_of [] []) (all i)) (map (row_of [] []) (all i)) (constant_by (goals i)) (is_any (goals i)))

  kept_more : (name : List ℕ) (kind : RowKind) → is_free kind ≡ false → more (record { name = name; kind = kind } ∷ []) [] ≡ with_row (Some kind) name old
  kept_more name kind e =
      let d : Declared = record { name = name; kind = kind } in
      let all : free ++ [] ≡ free = append-nil free in
      let told = map-append (told_of [] []) rows (d ∷ []) in
      let out = map-append (row_of [] []) rows (d ∷ []) in
      (λ i. declared section g (all i) (told i) (out i) (constant_by (goal_values (all i) [])) (is_any (goal_values (all i) [])))
      ∙ ap (λ (b : Bool). cond b (record old { free = free ++ name ∷ [] })
      (declared section g free (map (told_of [] []) rows ++ new_told kind ∷ [])
      (map (row_of [] []) rows ++ draft.new_row name (plain_bounds kind (Some draft.zero)) ∷ []) (constant_by (goal_values free []))
      (is_any (goal_values free [])))) (sym e)

  kind_more : (name : List ℕ) (o : Option RowKind) → more (kept_as name o) (free_as name o) ≡ with_row o name old
  kind_more name None = none_more
  kind_more name (Some kind) = by (is_free kind) refl
    where
      by : (b : Bool) → is_free kind ≡ b → more (kept_as name (Some kind)) (free_as name (Some kind)) ≡ with_row (Some kind) name old
      by true e = ap (λ (b : Bool). more (cond b [] (record { name = name; kind = kind } ∷ [])) (cond b (name ∷ []) [])) e ∙ free_more name
          ∙ ap (λ (b : Bool). cond b (record old { free = free ++ name ∷ [] }) (with_row (Some kind) name old)) (sym e) ∙ settle (is_free kind) _ _
        where
          settle : (b : Bool) (x y : Seen) → cond b x (cond b x y) ≡ cond b x y
          settle true x y = refl
          settle false x y = refl
      by false e = ap (λ (b : Bool). more (cond b [] (record { name = name; kind = kind } ∷ [])) (cond b (name ∷ []) [])) e ∙ kept_more name kind e

  pub row_line : (words : List (List ℕ)) → more (kept_in words) (free_in words) ≡ after_row old words
  row_line [] = none_more
  row_line (a ∷ []) = none_more
  row_line (kind ∷ name ∷ []) = kind_more name (kind_of kind)
  row_line (a ∷ b ∷ c ∷ words) = none_more

-- names stay distinct

unplaced : (long : Bool) (o : Option ℕ) (rest : Option BuildFault)
    → judge_build (first_of (wrong_if long faults.NameTooLong) (first_of (option_map (λ earlier. faults.DuplicateRow earlier) o) rest)) ≡ None → o ≡ None
unplaced true o rest j = absurd (some≢none j)
unplaced false None rest j = refl
unplaced false (Some i) rest j = absurd (some≢none j)

-- an N row of another name
apart_free : (kept free : List (List ℕ)) (name : List ℕ) → list_any (bytes_eq name) kept ≡ false → AreApart kept free → AreApart kept (free ++ name ∷ [])
apart_free kept free name absent apart n here = list_any-append (bytes_eq n) free (name ∷ []) ∙ rw (apart n here) (by (bytes_eq n name) refl)
  where
    by : (b : Bool) → bytes_eq n name ≡ b → (b || false) ≡ false
    by true e = absurd (true≢false (sym here ∙ ap (λ (m : List ℕ). list_any (bytes_eq m) kept) (same n name e) ∙ absent))
    by false e = refl

-- a row of the model of another name
apart_kept : (kept free : List (List ℕ)) (name : List ℕ) → list_any (bytes_eq name) free ≡ false → AreApart kept free → AreApart (kept ++ name ∷ []) free
apart_kept kept free name absent apart n here =
    by (list_any (bytes_eq n) kept) refl (bytes_eq n name) refl (sym (list_any-append (bytes_eq n) kept (name ∷ [])) ∙ here)
  where
    by : (a : Bool) → list_any (bytes_eq n) kept ≡ a → (b : Bool) → bytes_eq n name ≡ b → (a || (b || false)) ≡ true → list_any (bytes_eq n) free ≡ false
    by true e b f h = apart n e
    by false e true f h = ap (λ (m : List ℕ). list_any (bytes_eq m) free) (same n name f) ∙ absent
    by false e false f h = absurd (true≢false (sym h))

pub record AreNames (kept free : List (List ℕ)) : Type 0 where
  pub distinct : IsDistinct bytes_eq kept
  pub apart : AreApart kept free

module _ (section : Section) (g : Given) (are : AreNames (names_of g.rows) g.free) where
  abbrev rows : List Declared
  rows = g.rows

  abbrev free : List (List ℕ)
  free = g.free

  abbrev now : Seen
  now = seen_by section g

  with_names : (xs ys : List (List ℕ)) (us vs : List (List ℕ)) → xs ≡ us → ys ≡ vs → AreNames us vs → AreNames xs ys
  with_names xs ys us vs e f h = subst (λ (zs : List (List ℕ)). AreNames zs ys) (sym e) (subst (λ (zs : List (List ℕ)). AreNames us zs) (sym f) h)

  by_kind : (name : List ℕ) (o : Option RowKind) → judge_kind now o name ≡ None → AreNames (names_of (rows ++ kept_as name o)) (free ++ free_as name o)
  by_kind name None j = absurd (some≢none j)
  by_kind name (Some kind) j = by (is_free kind) j
    where
      by : (b : Bool) → cond b (judge_free now name) (judge_kept now name) ≡ None
          → AreNames (names_of (rows ++ cond b [] (record { name = name; kind = kind } ∷ []))) (free ++ cond b (name ∷ []) [])
      by true j =
          let parts = or_parts (list_any (bytes_eq name) free) _ (unset _ kinds.DuplicateRow
          (both_none (wrong_if (nat_lt name_limit (length name)) kinds.NameLong) _ j).1) in
          with_names _ _ _ _ (ap names_of (append-nil rows)) refl
          (record {
            distinct = are.distinct;
            apart = apart_free (names_of rows) free name
                (ap (list_any (bytes_eq name)) (sym (rows_back g.values g.ranges g.rows)) ∙ parts.1) are.apart;
          })
      by false j =
          let rest = both_none (wrong_if (list_any (bytes_eq name) free) kinds.DuplicateRow) _
          (both_none (wrong_if (nat_lt name_limit (length name)) kinds.NameLong) _ j).1 in
          let away : list_any (bytes_eq name) free ≡ false = unset _ kinds.DuplicateRow rest.0 in
          let none : place_of name (names_of_rows (map (row_of g.values g.ranges) g.rows)) ≡ None =
          unplaced (nat_lt name_limit (length name)) (place_of name (names_of_rows (map (row_of g.values g.ranges) g.rows))) _ rest.1 in
          let absent : list_any (bytes_eq name) (names_of rows) ≡ false =
          place_none name (names_of rows) (ap (place_of name) (sym (rows_back g.values g.ranges g.rows)) ∙ none) in
          with_names _ _ _ _ (map-append (λ (r : Declared). r.name) rows (record { name = name; kind = kind } ∷ [])) (append-nil free)
          (record {
            distinct = IsDistinct-push nat_list_eq_equiv (names_of rows) name are.distinct absent;
            apart =
                apart_kept (names_of rows) free name away are.apart;
          })

  pub names_line : (words : List (List ℕ)) → judge_row now words ≡ None → AreNames (names_of (rows ++ kept_in words)) (free ++ free_in words)
  names_line (kind ∷ name ∷ []) j = by_kind name (kind_of kind) j
  names_line words j = absurd (some≢none j)
