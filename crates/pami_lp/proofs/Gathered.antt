-- A file gives the columns and the rows that are gathered from its parts.
use Rattle.std.proofs.Common.{◌≡◌, ◌<◌, ◌≤◌, ℕ, ◌+◌, arith, cond, List, [], ◌∷◌, ◌++◌, length, fold, Option, None, Some, is_some, refl, sym, ap, subst, ◌∙◌, append-nil, Ok}
use Rattle.std.specs.List.{flat_map}
use Rattle.std.proofs.lemmas.List.{append_assoc, length-append}
use Rattle.std.proofs.lemmas.List.Sums.{fold-append}
use Rattle.pami_model.specs.declared.list.Column.{Column}
use Rattle.pami_model.specs.declared.list.Row.{Row as ModelRow}
use Rattle.pami_model.specs.Draft.{Draft, changed, column_with_bounds, column_with_cost, new_column, new_row, place_of, stores}
use Rattle.pami_model.specs.Rules.{names_of_columns, row_limit}
use Rattle.pami_lp.specs.Gather.{IsGathered, goal_names, rows_from, section_names, side_names, sides_of, terms_of, with_name}
use Rattle.pami_lp.specs.Grammar.{File, Row, Side}
use Rattle.pami_lp.specs.Meaning.{draft_of, take_rows, take_side}
use Rattle.pami_lp.specs.Rules.{name_by, stand, stand_at}
use Rattle.pami_lp.proofs.Chains.{file_on, judged_on, on, rowed, side_on}
use Rattle.pami_lp.proofs.Columns.{Renames, changed-names, names_push, stores_renames}
use Rattle.pami_lp.proofs.Parts.{IsCarried, KeptByCosts, entries_carried, goal_carried, section_carried, terms_carried}
use Rattle.pami_lp.proofs.Stepped.{ok_same}

-- ---- names of drafts

abbrev cols : Draft → List (List ℕ)
cols d = names_of_columns d.columns

-- the same rows and sense, and these names
pub record Keeps (d e : Draft) (names : List (List ℕ)) : Type 0 where
  pub cols : names_of_columns e.columns ≡ fold with_name (names_of_columns d.columns) names
  pub rows : e.rows ≡ d.rows
  pub sense : e.sense ≡ d.sense

keeps_none : (d : Draft) → Keeps d d []
keeps_none d = record { cols = refl; rows = refl; sense = refl }

keeps_both : (d e g : Draft) (names more : List (List ℕ)) → Keeps d e names → Keeps e g more → Keeps d g (names ++ more)
keeps_both d e g names more a b = record {
  cols = b.cols ∙ ap (λ (ns : List (List ℕ)). fold with_name ns more) a.cols ∙ sym (fold-append with_name (names_of_columns d.columns) names more);
  rows = b.rows ∙ a.rows;
  sense = b.sense ∙ a.sense;
}

-- a change of columns that leaves their names
keeps_changed : (d : Draft) (i : ℕ) (f : Column → Column) (pairs : List (ℕ × ℕ)) → Renames f
    → Keeps d (record d { pairs = pairs; columns = changed i f d.columns }) []
keeps_changed d i f pairs h = record { cols = changed-names d.columns i f h; rows = refl; sense = refl }

stand_keeps : (d : Draft) (name : List ℕ) (p : Draft × ℕ) → stand d name ≡ Ok p → Keeps d p.0 (name ∷ [])
stand_keeps d name p h = by (place_of name (cols d)) refl h
  where
    named : (o : Option ℕ) → place_of name (cols d) ≡ o → fold with_name (cols d) (name ∷ []) ≡ cond (is_some o) (cols d) (cols d ++ name ∷ [])
    named o e = ap (λ (q : Option ℕ). cond (is_some q) (cols d) (cols d ++ name ∷ [])) e

    by : (o : Option ℕ) → place_of name (cols d) ≡ o → stand_at o d name ≡ Ok p → Keeps d p.0 (name ∷ [])
    by (Some j) e g = subst (λ (q : Draft × ℕ). Keeps d q.0 (name ∷ [])) (ok_same g) (record { cols = sym (named (Some j) e); rows = refl; sense = refl })
    by None e g =
        subst (λ (q : Draft × ℕ). Keeps d q.0 (name ∷ [])) (judged_on _ (record d { columns = d.columns ++ new_column name ∷ [] }, length d.columns) p g)
        (record { cols = names_push d.columns name ∙ sym (named None e); rows = refl; sense = refl })

keeps : IsCarried Keeps
keeps = record { none = keeps_none; both = keeps_both; stood = stand_keeps }

costs_keep : KeptByCosts Keeps
costs_keep =
    record { cost = λ d j v. keeps_changed d j (column_with_cost v) d.pairs (λ c. refl); constant = λ d v. record { cols = refl; rows = refl; sense = refl } }

-- ---- rows

-- one row more behind the others, and these names
pub record Rowed (d e : Draft) (r : ModelRow) (names : List (List ℕ)) : Type 0 where
  pub cols : names_of_columns e.columns ≡ fold with_name (names_of_columns d.columns) names
  pub rows : e.rows ≡ d.rows ++ r ∷ []
  pub sense : e.sense ≡ d.sense

pub side_rows : (l : Option (List ℕ)) (s : Side) (d e : Draft) → take_side l s d ≡ Ok e
    → Rowed d e (new_row (name_by (length d.rows) l) (sides_of s)) (side_names s)
side_rows l s d e h =
    let o = side_on l s d e h in
    let t = terms_carried Keeps keeps (terms_of s) d o.opened o.terms in
    let k =
    entries_carried Keeps keeps (λ x row y. keeps_changed x y.place (stores row y.value) _ (stores_renames row y.value)) o.opened.sums
    (rowed o.opened.draft (name_by (length o.opened.draft.rows) l) (sides_of s)) e (length o.opened.draft.rows) o.ends in
    record {
      cols = k.cols ∙ t.cols;
      rows = k.rows ∙ ap (λ (rs : List ModelRow). rs ++ new_row (name_by (length rs) l) (sides_of s) ∷ []) t.rows;
      sense = k.sense ∙ t.sense;
    }

record AllRowed (d e : Draft) (rs : List Row) : Type 0 where
  cols : names_of_columns e.columns ≡ fold with_name (names_of_columns d.columns) (flat_map (λ (r : Row). side_names r.side) rs)
  rows : e.rows ≡ d.rows ++ rows_from (length d.rows) rs
  sense : e.sense ≡ d.sense

rows_rowed : (rs : List Row) (d e : Draft) → take_rows rs d ≡ Ok e → AllRowed d e rs
rows_rowed [] d e h = subst (λ (x : Draft). AllRowed d x []) (ok_same h) (record { cols = refl; rows = sym (append-nil d.rows); sense = refl })
rows_rowed (r ∷ rs) d e h =
    let a = on (take_side r.label r.side d) (λ d. take_rows rs d) e h in
    let one = side_rows r.label r.side d a.value a.is in
    let more = rows_rowed rs a.value e a.then in
    record {
      cols =
          more.cols ∙ ap (λ (ns : List (List ℕ)). fold with_name ns (flat_map (λ (r : Row). side_names r.side) rs)) one.cols
          ∙ sym (fold-append with_name (names_of_columns d.columns) (side_names r.side) (flat_map (λ (r : Row). side_names r.side) rs));
      rows =
          more.rows ∙ ap (λ (xs : List ModelRow). xs ++ rows_from (length xs) rs) one.rows
          ∙ ap (λ (k : ℕ). (d.rows ++ new_row (name_by (length d.rows) r.label) (sides_of r.side) ∷ []) ++ rows_from k rs)
          (length-append d.rows (new_row (name_by (length d.rows) r.label) (sides_of r.side) ∷ []))
          ∙ append_assoc d.rows (new_row (name_by (length d.rows) r.label) (sides_of r.side) ∷ []) (rows_from (length d.rows + 1) rs);
      sense = more.sense ∙ one.sense;
    }

-- ---- files

pub gathered : (f : File) (d : Draft) → draft_of f ≡ Ok d → IsGathered f d
gathered f d h =
    let o = file_on f d h in
    let g = goal_carried Keeps keeps costs_keep f.goal _ o.priced o.goal in
    let r = rows_rowed f.rows o.priced o.rowed o.rows in
    let z = section_carried Keeps keeps (λ x j b. keeps_changed x j (column_with_bounds b) x.pairs (λ c. refl)) f.bounds o.rowed d o.section in
    let names = flat_map (λ (r : Row). side_names r.side) f.rows in
    record {
      sense = z.sense ∙ r.sense ∙ g.sense;
      rows = z.rows ∙ r.rows ∙ ap (λ (rs : List ModelRow). rs ++ rows_from (length rs) f.rows) g.rows;
      columns =
          z.cols ∙ ap (λ (ns : List (List ℕ)). fold with_name ns (section_names f.bounds))
          (r.cols ∙ ap (λ (ns : List (List ℕ)). fold with_name ns names) g.cols)
          ∙ sym (fold-append with_name [] (goal_names f.goal) (names ++ section_names f.bounds)
          ∙ fold-append with_name (fold with_name [] (goal_names f.goal)) names (section_names f.bounds));
    }

-- no file has more rows than a model may have
few_from : (rs : List Row) (d e : Draft) → take_rows rs d ≡ Ok e → length d.rows ≤ row_limit → length e.rows ≤ row_limit
few_from [] d e h few = subst (λ (x : Draft). length x.rows ≤ row_limit) (ok_same h) few
few_from (r ∷ rs) d e h few =
    let a = on (take_side r.label r.side d) (λ d. take_rows rs d) e h in
    let o = side_on r.label r.side d a.value a.is in
    let kept : length o.opened.draft.rows ≡ length d.rows = ap length (terms_carried Keeps keeps (terms_of r.side) d o.opened o.terms).rows in
    let count : length a.value.rows ≡ length d.rows + 1 = ap length (side_rows r.label r.side d a.value a.is).rows ∙ length-append d.rows _ in
    let below : length o.opened.draft.rows < row_limit = o.below in
    few_from rs a.value e a.then (omega (arith, kept, count, below))

pub few_rows : (f : File) (d : Draft) → draft_of f ≡ Ok d → length d.rows ≤ row_limit
few_rows f d h =
    let o = file_on f d h in
    let g = goal_carried Keeps keeps costs_keep f.goal _ o.priced o.goal in
    let z = section_carried Keeps keeps (λ x j b. keeps_changed x j (column_with_bounds b) x.pairs (λ c. refl)) f.bounds o.rowed d o.section in
    let few : length o.priced.rows ≤ row_limit = subst (λ (rs : List ModelRow). length rs ≤ row_limit) (sym g.rows) (omega arith) in
    subst (λ (rs : List ModelRow). length rs ≤ row_limit) (sym z.rows) (few_from f.rows o.priced o.rowed o.rows few)
