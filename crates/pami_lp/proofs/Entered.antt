-- A file gives each column an entry for each row where the coefficients of its name don't sum to 0.
use Rattle.std.proofs.Common.{◌≡◌, ◌+◌, ◌≤◌, inl, inr, ℕ, Bool, true, false, cond, nat_eq, List, [], ◌∷◌, ◌++◌, length, map, fold, Option, None, Some, Ok, eq-eqb, refl, sym, ap, subst, ◌∙◌, arith, append-nil}
use Rattle.std.specs.Str.{bytes_eq}
use Rattle.std.proofs.lemmas.Bool.{ne_eqb}
use Rattle.std.proofs.lemmas.List.{append_assoc, length-append}
use Rattle.pami_algebra.specs.Fraction.{Fraction}
use Rattle.pami_algebra.specs.Operations.{◌+ᶠ◌}
use Rattle.pami_frac.specs.declared.list.Entry.{Entry}
use Rattle.pami_model.specs.declared.list.Column.{Column}
use Rattle.pami_model.specs.declared.list.Row.{Row as ModelRow}
use Rattle.pami_model.specs.Draft.{Draft, column_with_bounds, column_with_cost, new_row, place_of, zero}
use Rattle.pami_model.specs.Rules.{names_of_columns}
use Rattle.pami_lp.specs.Gather.{IsEntered, coefficient_in, entries_at, entries_from, named_terms, plus_for, side_terms, sides_of, terms_of}
use Rattle.pami_lp.specs.Grammar.{File, Further, Row, Side, Term, Terms}
use Rattle.pami_lp.specs.Meaning.{Opened, opened, draft_of, is_minus, negated, take_further, take_rows, take_side, take_term, take_terms}
use Rattle.pami_lp.specs.Rules.{name_by, stand}
use Rattle.pami_lp.specs.Values.{coefficient_of}
use Rattle.pami_lp.proofs.Chains.{file_on, number_value, on, rowed, side_on, term_on}
use Rattle.pami_lp.proofs.Columns.{IsPlaced, Same, length_names, same_carried, same_changed, stood}
use Rattle.pami_lp.proofs.Gathered.{side_rows}
use Rattle.pami_lp.proofs.Names.{place_apart, place_within, same}
use Rattle.pami_lp.proofs.Parts.{IsCarried, KeptByBounds, KeptByCosts, goal_carried, section_carried, terms_carried}
use Rattle.pami_lp.proofs.Prices.{plus_append}
use Rattle.pami_lp.proofs.Stepped.{ok_same}
use Rattle.pami_lp.proofs.Totals.{AreApart, Grows, entries_of, entries_stored, is_summed, term_grows, total, total_for, total_none, unsummed}

-- ---- the sums of a row's terms

-- the sums of columns are those of their names' coefficients
record AreSums (d : Draft) (sums : List Entry) (ps : List (List ℕ × Fraction)) : Type 0 where
  apart : AreApart sums
  low : (j : ℕ) → length d.columns ≤ j → is_summed sums j ≡ false
  totals : (m : List ℕ) → total_for sums (place_of m (names_of_columns d.columns)) ≡ plus_for m zero ps

stand_sums : (d : Draft) (name : List ℕ) (p : Draft × ℕ) (sums : List Entry) (ps : List (List ℕ × Fraction)) → stand d name ≡ Ok p → AreSums d sums ps
    → AreSums p.0 sums ps
stand_sums d name p sums ps h s =
    let o = stood d name p h in
    record { apart = s.apart; low = λ j le. s.low j (omega (arith, le, o.longer)); totals = λ m. kept m (o.places m) ∙ s.totals m }
  where
    kept : (m : List ℕ) → IsPlaced d.columns p.0.columns m
        → total_for sums (place_of m (names_of_columns p.0.columns)) ≡ total_for sums (place_of m (names_of_columns d.columns))
    kept m (inl e) = ap (λ (o : Option ℕ). total_for sums o) e
    kept m (inr e) =
        ap (λ (o : Option ℕ). total_for sums o) e.1 ∙ unsummed sums (length d.columns) (s.low (length d.columns) (omega arith))
        ∙ ap (λ (o : Option ℕ). total_for sums o) (sym e.0)

-- a coefficient more of a name that stands
added_sums : (d : Draft) (name : List ℕ) (j : ℕ) (v : Fraction) (sums more : List Entry) (ps : List (List ℕ × Fraction))
    → place_of name (names_of_columns d.columns) ≡ Some j
    → Grows sums more j v → AreSums d sums ps → AreSums d more (ps ++ (name, v) ∷ [])
added_sums d name j v sums more ps place g s = record {
  apart = g.apart s.apart;
  low = λ k le. g.others k (behind k le) ∙ s.low k le;
  totals = λ m. by m (bytes_eq m name) refl ∙ sym (plus_append m zero ps ((name, v) ∷ []));
}
  where
    behind : (k : ℕ) → length d.columns ≤ k → nat_eq k j ≡ false
    behind k le = let w = place_within name (names_of_columns d.columns) j place in ne_eqb k j (λ e. absurd (omega (arith, le, w, e, length_names d.columns)))

    away : (m : List ℕ) → bytes_eq m name ≡ false → (o : Option ℕ) → place_of m (names_of_columns d.columns) ≡ o → total_for more o ≡ total_for sums o
    away m e None h = refl
    away m e (Some k) h =
        g.totals k ∙ ap (λ (b : Bool). cond b (total sums j +ᶠ v) (total sums k)) (place_apart m name (names_of_columns d.columns) j k e place h)

    here : total_for more (place_of name (names_of_columns d.columns)) ≡ total_for sums (place_of name (names_of_columns d.columns)) +ᶠ v
    here =
        ap (λ (o : Option ℕ). total_for more o) place ∙ g.totals j ∙ ap (λ (b : Bool). cond b (total sums j +ᶠ v) (total sums j)) (eq-eqb j j refl)
        ∙ ap (λ (o : Option ℕ). total_for sums o +ᶠ v) (sym place)

    by : (m : List ℕ) (b : Bool) → bytes_eq m name ≡ b
        → total_for more (place_of m (names_of_columns d.columns))
        ≡ fold (λ (t : Fraction) (p : List ℕ × Fraction). t +ᶠ p.1) (plus_for m zero ps) (cond b ((name, v) ∷ []) [])
    by m true e =
        ap (λ (n : List ℕ). total_for more (place_of n (names_of_columns d.columns))) (same m name e) ∙ here ∙ ap (λ (t : Fraction). t +ᶠ v) (s.totals name)
        ∙ ap (λ (n : List ℕ). plus_for n zero ps +ᶠ v) (sym (same m name e))
    by m false e = away m e (place_of m (names_of_columns d.columns)) refl ∙ s.totals m

term_sums : (t : Term) (n : Bool) (s u : Opened) (ps : List (List ℕ × Fraction)) → take_term n t s ≡ Ok u → AreSums s.draft s.sums ps
    → AreSums u.draft u.sums (ps ++ (t.name, coefficient_in n t) ∷ [])
term_sums t n s u ps h a =
    let o = term_on t n s u h in
    subst (λ (d : Draft). AreSums d u.sums (ps ++ (t.name, coefficient_in n t) ∷ [])) o.draft
    (subst (λ (k : Option Fraction). AreSums o.stood.0 u.sums (ps ++ (t.name, coefficient_of (negated n t.turns) k) ∷ []))
    (number_value t.number o.number o.spelled)
    (added_sums o.stood.0 t.name o.stood.1 (coefficient_of (negated n t.turns) o.number) s.sums u.sums ps (stood s.draft t.name o.stood o.stands).place
    (term_grows s.sums o.stood.1 (coefficient_of (negated n t.turns) o.number) u.sums o.sums) (stand_sums s.draft t.name o.stood s.sums ps o.stands a)))

further_sums : (fs : List Further) (s u : Opened) (ps : List (List ℕ × Fraction)) → take_further fs s ≡ Ok u → AreSums s.draft s.sums ps
    → AreSums u.draft u.sums (ps ++ map (λ (f : Further). (f.term.name, coefficient_in (is_minus f.turn) f.term)) fs)
further_sums [] s u ps h a =
    subst (λ (o : Opened). AreSums o.draft o.sums (ps ++ [])) (ok_same h)
    (subst (λ (qs : List (List ℕ × Fraction)). AreSums s.draft s.sums qs) (sym (append-nil ps)) a)
further_sums (f ∷ fs) s u ps h a =
    let o = on (take_term (is_minus f.turn) f.term s) (λ s. take_further fs s) u h in
    subst (λ (qs : List (List ℕ × Fraction)). AreSums u.draft u.sums qs)
    (append_assoc ps ((f.term.name, coefficient_in (is_minus f.turn) f.term) ∷ [])
    (map (λ (f : Further). (f.term.name, coefficient_in (is_minus f.turn) f.term)) fs))
    (further_sums fs o.value u (ps ++ (f.term.name, coefficient_in (is_minus f.turn) f.term) ∷ []) o.then
    (term_sums f.term (is_minus f.turn) s o.value ps o.is a))

terms_sums : (ts : Terms) (d : Draft) (u : Opened) → take_terms ts d ≡ Ok u → AreSums u.draft u.sums (named_terms ts)
terms_sums ts d u h =
    let o = on (take_term false ts.first (opened d [])) (λ s. take_further ts.more s) u h in
    further_sums ts.more o.value u ((ts.first.name, coefficient_in false ts.first) ∷ []) o.then
    (term_sums ts.first false (opened d []) o.value [] o.is
    (record { apart = tt; low = λ j le. refl; totals = λ m. total_none (place_of m (names_of_columns d.columns)) }))

-- ---- rows

abbrev Rows : Draft → Draft → List (List ℕ) → Type 0
Rows d e names = e.rows ≡ d.rows

rows : IsCarried Rows
rows = record { none = λ d. refl; both = λ d e g names more a b. b ∙ a; stood = λ d name p h. (stood d name p h).rows }

abbrev entries_in : Column → List Entry
entries_in c = c.entries

abbrev Entries : Draft → Draft → List (List ℕ) → Type 0
Entries = Same entries_in

side_entered : (l : Option (List ℕ)) (s : Side) (d e : Draft) → take_side l s d ≡ Ok e → (m : List ℕ)
    → entries_of e m ≡ entries_of d m ++ entries_at (length d.rows) (plus_for m zero (side_terms s))
side_entered l s d e h m =
    let o = side_on l s d e h in
    let sums = terms_sums (terms_of s) d o.opened o.terms in
    entries_stored o.opened.sums (rowed o.opened.draft (name_by (length o.opened.draft.rows) l) (sides_of s)) e (length o.opened.draft.rows) sums.apart o.ends m
    ∙ ap (λ (es : List Entry). es ++ entries_at (length o.opened.draft.rows) (total_for o.opened.sums (place_of m (names_of_columns o.opened.draft.columns))))
    (terms_carried Entries (same_carried entries_in) (terms_of s) d o.opened o.terms m)
    ∙ ap (λ (t : Fraction). entries_of d m ++ entries_at (length o.opened.draft.rows) t) (sums.totals m)
    ∙ ap (λ (rs : List ModelRow). entries_of d m ++ entries_at (length rs) (plus_for m zero (side_terms s)))
    (terms_carried Rows rows (terms_of s) d o.opened o.terms)

rows_entered : (rs : List Row) (d e : Draft) → take_rows rs d ≡ Ok e → (m : List ℕ) → entries_of e m ≡ entries_of d m ++ entries_from (length d.rows) m rs
rows_entered [] d e h m = ap (λ (x : Draft). entries_of x m) (sym (ok_same h)) ∙ sym (append-nil (entries_of d m))
rows_entered (r ∷ rs) d e h m =
    let a = on (take_side r.label r.side d) (λ d. take_rows rs d) e h in
    let count : length a.value.rows ≡ length d.rows + 1 =
    ap (λ (rs : List ModelRow). length rs) (side_rows r.label r.side d a.value a.is).rows
    ∙ length-append d.rows (new_row (name_by (length d.rows) r.label) (sides_of r.side) ∷ []) in
    rows_entered rs a.value e a.then m
    ∙ ap (λ (k : ℕ). entries_of a.value m ++ entries_from k m rs) count
    ∙ ap (λ (es : List Entry). es ++ entries_from (length d.rows + 1) m rs) (side_entered r.label r.side d a.value a.is m)
    ∙ append_assoc (entries_of d m) (entries_at (length d.rows) (plus_for m zero (side_terms r.side))) (entries_from (length d.rows + 1) m rs)

-- ---- files

bounds_leave : KeptByBounds Entries
bounds_leave d j b = same_changed entries_in d j (column_with_bounds b) d.pairs (λ c. refl) (λ c. refl) []

costs_leave : KeptByCosts Entries
costs_leave = record { cost = λ d j v. same_changed entries_in d j (column_with_cost v) d.pairs (λ c. refl) (λ c. refl) []; constant = λ d v m. refl }

pub entered : (f : File) (d : Draft) → draft_of f ≡ Ok d → IsEntered f d
entered f d h =
    let o = file_on f d h in
    let goal_rows = goal_carried Rows rows (record { cost = λ d j v. refl; constant = λ d v. refl }) f.goal _ o.priced o.goal in
    record {
      entries = λ m.
          section_carried Entries (same_carried entries_in) bounds_leave f.bounds o.rowed d o.section m
          ∙ rows_entered f.rows o.priced o.rowed o.rows m
          ∙ ap (λ (es : List Entry). es ++ entries_from (length o.priced.rows) m f.rows)
          (goal_carried Entries (same_carried entries_in) costs_leave f.goal _ o.priced o.goal m)
          ∙ ap (λ (rs : List ModelRow). entries_from (length rs) m f.rows) goal_rows;
    }
