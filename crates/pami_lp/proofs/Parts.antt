-- What is kept by each step of a part of a file is kept by the part, and by all parts one after another.
use Rattle.std.proofs.Common.{◌≡◌, ℕ, Bool, true, false, cond, List, [], ◌∷◌, ◌++◌, length, map, Option, None, Some, Result, Ok, ap, subst, ◌∙◌, append-nil}
use Rattle.std.specs.List.{flat_map}
use Rattle.pami_algebra.specs.Fraction.{Fraction}
use Rattle.pami_frac.specs.Answers.{then as chain}
use Rattle.pami_frac.specs.declared.list.Bounds.{Bounds}
use Rattle.pami_frac.specs.declared.list.Entry.{Entry}
use Rattle.pami_model.specs.declared.fault.FileKind.{FileKind}
use Rattle.pami_model.specs.Draft.{Draft, changed, column_at, column_with_cost, entry_fault, is_zero}
use Rattle.pami_lp.specs.Gather.{bound_name, goal_names, part_names, section_names, side_names, sides_of, terms_names, terms_of}
use Rattle.pami_lp.specs.Grammar.{Bound, Set, From, Between, Freed, Further, Goal, Nothing, Parts, Later, Part, Named, Alone, Row, Side, Term, Terms, way}
use Rattle.pami_lp.specs.Meaning.{Opened, opened, is_minus, left_side, negated, number_in, right_side, take_bound, take_bound_of, take_bounds, take_further, take_goal, take_later, take_part, take_rows, take_section, take_side, take_term, take_terms}
use Rattle.pami_lp.specs.Rules.{Bounded, add_constant, add_cost, add_entries, add_one, bounded, name_by, set_bound, set_free, stand, unless, with_bounds, with_entry}
use Rattle.pami_lp.specs.Values.{coefficient_of, number_of, signed, sum_of, turned, unbounded}
use Rattle.pami_lp.proofs.Chains.{judged_on, on, rowed, side_on, term_on}
use Rattle.pami_lp.proofs.Stepped.{ok_same}

-- a relation between what stands before parts of a file and behind them, with the names of columns in them
pub record IsCarried (P : Draft → Draft → List (List ℕ) → Type 0) : Type 0 where
  pub none : (d : Draft) → P d d []
  pub both : (d e g : Draft) (names more : List (List ℕ)) → P d e names → P e g more → P d g (names ++ more)
  pub stood : (d : Draft) (name : List ℕ) (p : Draft × ℕ) → stand d name ≡ Ok p → P d p.0 (name ∷ [])

-- it holds of a cost and of the constant
pub record KeptByCosts (P : Draft → Draft → List (List ℕ) → Type 0) : Type 0 where
  pub cost : (d : Draft) (j : ℕ) (v : Fraction) → P d (record d { columns = changed j (column_with_cost v) d.columns }) []
  pub constant : (d : Draft) (v : Fraction) → P d (record d { constant = v }) []

-- it holds of bounds
abbrev pub KeptByBounds : (Draft → Draft → List (List ℕ) → Type 0) → Type 0
KeptByBounds P = (d : Draft) (j : ℕ) (b : Bounds) → P d (with_bounds j b d) []

-- it holds of an entry
abbrev pub KeptByEntries : (Draft → Draft → List (List ℕ) → Type 0) → Type 0
KeptByEntries P = (d : Draft) (row : ℕ) (x : Entry) → P d (with_entry d row x) []

-- it holds of a row without entries
abbrev pub KeptByRows : (Draft → Draft → List (List ℕ) → Type 0) → Type 0
KeptByRows P = (d : Draft) (name : List ℕ) (sides : Bounds) → P d (rowed d name sides) []

module _ (P : Draft → Draft → List (List ℕ) → Type 0) (k : IsCarried P) where
  carried_to : (d e g : Draft) (names : List (List ℕ)) → e ≡ g → P d e names → P d g names
  carried_to d e g names h p = subst (λ (x : Draft). P d x names) h p

  carried_none : (d e : Draft) → d ≡ e → P d e []
  carried_none d e h = carried_to d d e [] h (k.none d)

  -- ---- the terms of a row

  term_carried : (t : Term) (n : Bool) (s u : Opened) → take_term n t s ≡ Ok u → P s.draft u.draft (t.name ∷ [])
  term_carried t n s u h =
      let o = term_on t n s u h in
      carried_to s.draft o.stood.0 u.draft (t.name ∷ []) o.draft (k.stood s.draft t.name o.stood o.stands)

  further_carried : (fs : List Further) (s u : Opened) → take_further fs s ≡ Ok u → P s.draft u.draft (map (λ (f : Further). f.term.name) fs)
  further_carried [] s u h = carried_none s.draft u.draft (ap (λ (o : Opened). o.draft) (ok_same h))
  further_carried (f ∷ fs) s u h =
      let a = on (take_term (is_minus f.turn) f.term s) (λ s. take_further fs s) u h in
      k.both s.draft a.value.draft u.draft (f.term.name ∷ []) _ (term_carried f.term (is_minus f.turn) s a.value a.is) (further_carried fs a.value u a.then)

  pub terms_carried : (ts : Terms) (d : Draft) (u : Opened) → take_terms ts d ≡ Ok u → P d u.draft (terms_names ts)
  terms_carried ts d u h =
      let a = on (take_term false ts.first (opened d [])) (λ s. take_further ts.more s) u h in
      k.both d a.value.draft u.draft (ts.first.name ∷ []) _ (term_carried ts.first false (opened d []) a.value a.is) (further_carried ts.more a.value u a.then)

  -- ---- rows

  pub entries_carried : KeptByEntries P → (xs : List Entry) (d e : Draft) (row : ℕ) → add_entries d row xs ≡ Ok e → P d e []
  entries_carried q [] d e row h = carried_none d e (ok_same h)
  entries_carried q (x ∷ xs) d e row h =
      let a = on (add_one d row x) (λ d. add_entries d row xs) e h in
      k.both d a.value e [] [] (one a.value (is_zero x.value) a.is) (entries_carried q xs a.value e row a.then)
    where
      one : (a : Draft) (b : Bool) → cond b (Ok d) (unless (entry_fault d x.place row x.value) (with_entry d row x)) ≡ Ok a → P d a []
      one a true g = carried_none d a (ok_same g)
      one a false g = carried_to d (with_entry d row x) a [] (judged_on _ (with_entry d row x) a g) (q d row x)

  side_carried : KeptByEntries P → KeptByRows P → (l : Option (List ℕ)) (s : Side) (d e : Draft) → take_side l s d ≡ Ok e → P d e (side_names s)
  side_carried q r l s d e h =
      let o = side_on l s d e h in
      let last : P o.opened.draft e [] =
      k.both o.opened.draft (rowed o.opened.draft (name_by (length o.opened.draft.rows) l) (sides_of s)) e [] []
      (r o.opened.draft (name_by (length o.opened.draft.rows) l) (sides_of s))
      (entries_carried q o.opened.sums (rowed o.opened.draft (name_by (length o.opened.draft.rows) l) (sides_of s)) e (length o.opened.draft.rows) o.ends) in
      subst (λ (ns : List (List ℕ)). P d e ns) (append-nil (side_names s))
      (k.both d o.opened.draft e (side_names s) [] (terms_carried (terms_of s) d o.opened o.terms) last)

  pub rows_carried : KeptByEntries P → KeptByRows P → (rs : List Row) (d e : Draft) → take_rows rs d ≡ Ok e
      → P d e (flat_map (λ (r : Row). side_names r.side) rs)
  rows_carried q r [] d e h = carried_none d e (ok_same h)
  rows_carried q r (x ∷ xs) d e h =
      let a = on (take_side x.label x.side d) (λ d. take_rows xs d) e h in
      k.both d a.value e (side_names x.side) _ (side_carried q r x.label x.side d a.value a.is) (rows_carried q r xs a.value e a.then)

  -- ---- the objective

  part_carried : KeptByCosts P → (p : Part) (n : Bool) (d e : Draft) → take_part n p d ≡ Ok e → P d e (part_names p)
  part_carried q (Named t) n d e h =
      let a = on (number_in t.number) (λ k. chain (stand d t.name) (λ p. add_cost p.0 p.1 (coefficient_of (negated n t.turns) k))) e h in
      let b = on (stand d t.name) (λ p. add_cost p.0 p.1 (coefficient_of (negated n t.turns) a.value)) e a.then in
      let o = on (sum_of (column_at b.value.0.columns b.value.1).cost (coefficient_of (negated n t.turns) a.value))
      (λ t. Ok (record b.value.0 { columns = changed b.value.1 (column_with_cost t) b.value.0.columns })) e b.then in
      k.both d b.value.0 e (t.name ∷ []) [] (k.stood d t.name b.value b.is)
      (carried_to b.value.0 (record b.value.0 { columns = changed b.value.1 (column_with_cost o.value) b.value.0.columns }) e []
      (ok_same {x = record b.value.0 { columns = changed b.value.1 (column_with_cost o.value) b.value.0.columns }} o.then)
      (q.cost b.value.0 b.value.1 o.value))
  part_carried q (Alone ts text) n d e h =
      let a = on (number_of text) (λ v. add_constant d (signed (negated n ts) v)) e h in
      let o = on (sum_of d.constant (signed (negated n ts) a.value)) (λ t. Ok (record d { constant = t })) e a.then in
      carried_to d (record d { constant = o.value }) e [] (ok_same o.then) (q.constant d o.value)

  later_carried : KeptByCosts P → (ls : List Later) (d e : Draft) → take_later ls d ≡ Ok e → P d e (flat_map (λ (l : Later). part_names l.part) ls)
  later_carried q [] d e h = carried_none d e (ok_same h)
  later_carried q (l ∷ ls) d e h =
      let a = on (take_part (is_minus l.turn) l.part d) (λ d. take_later ls d) e h in
      k.both d a.value e (part_names l.part) _ (part_carried q l.part (is_minus l.turn) d a.value a.is) (later_carried q ls a.value e a.then)

  pub goal_carried : KeptByCosts P → (g : Goal) (d e : Draft) → take_goal g d ≡ Ok e → P d e (goal_names g)
  goal_carried q Nothing d e h = carried_none d e (ok_same h)
  goal_carried q (Parts p ls) d e h =
      let a = on (take_part false p d) (λ d. take_later ls d) e h in
      k.both d a.value e (part_names p) _ (part_carried q p false d a.value a.is) (later_carried q ls a.value e a.then)

  -- ---- bounds

  set_carried : KeptByBounds P → (name : List ℕ) (s : Bounded) (p : Draft × ℕ) (b : Bounds) → stand s.draft name ≡ Ok p
      → P s.draft (with_bounds p.1 b p.0) (name ∷ [])
  set_carried q name s p b h = k.both s.draft p.0 (with_bounds p.1 b p.0) (name ∷ []) [] (k.stood s.draft name p h) (q p.0 p.1 b)

  bound_carried : KeptByBounds P → (b : Bound) (s t : Bounded) → take_bound b s ≡ Ok t → P s.draft t.draft (bound_name b ∷ [])
  bound_carried q (Set name r v) s t h =
      let a = on (stand s.draft name) (λ p. chain (right_side r v unbounded) (λ sides. Ok (set_bound r p.1 sides (bounded p.0 s.lowered)))) t h in
      let b = on (right_side r v unbounded) (λ sides. Ok (set_bound r a.value.1 sides (bounded a.value.0 s.lowered))) t a.then in
      subst (λ (x : Bounded). P s.draft x.draft (name ∷ [])) (ok_same b.then) (set_carried q name s a.value _ a.is)
  bound_carried q (From v r name) s t h =
      let a = on (left_side v r unbounded) (λ sides. chain (take_bound_of name (turned r) sides s) (λ p. Ok p.0)) t h in
      let b = on (take_bound_of name (turned r) a.value s) (λ p. Ok p.0) t a.then in
      let c = on (stand s.draft name) (λ p. Ok (set_bound (turned r) p.1 a.value (bounded p.0 s.lowered), p.1)) b.value b.is in
      subst (λ (x : Bounded). P s.draft x.draft (name ∷ [])) (ap (λ (q : Bounded × ℕ). q.0) (ok_same c.then) ∙ ok_same b.then)
      (set_carried q name s c.value _ c.is)
  bound_carried q (Between v w name u) s t h =
      let a = on (left_side v (way w) unbounded) (λ sides. chain (take_bound_of name (turned (way w)) sides s) (λ p. upper p)) t h in
      let b = on (take_bound_of name (turned (way w)) a.value s) (λ p. upper p) t a.then in
      let c = on (stand s.draft name) (λ p. Ok (set_bound (turned (way w)) p.1 a.value (bounded p.0 s.lowered), p.1)) b.value b.is in
      let d = on (right_side (way w) u unbounded) (λ sides. Ok (set_bound (way w) b.value.1 sides b.value.0)) t b.then in
      k.both s.draft b.value.0.draft t.draft (name ∷ []) []
      (subst (λ (x : Bounded). P s.draft x.draft (name ∷ [])) (ap (λ (q : Bounded × ℕ). q.0) (ok_same c.then)) (set_carried q name s c.value _ c.is))
      (subst (λ (x : Bounded). P b.value.0.draft x.draft []) (ok_same d.then) (q b.value.0.draft b.value.1 _))
    where
      upper : Bounded × ℕ → Result Bounded FileKind
      upper p = chain (right_side (way w) u unbounded) (λ sides. Ok (set_bound (way w) p.1 sides p.0))
  bound_carried q (Freed name) s t h =
      let a = on (stand s.draft name) (λ p. Ok (set_free p.1 (bounded p.0 s.lowered))) t h in
      subst (λ (x : Bounded). P s.draft x.draft (name ∷ [])) (ok_same a.then) (set_carried q name s a.value unbounded a.is)

  bounds_carried : KeptByBounds P → (bs : List Bound) (s t : Bounded) → take_bounds bs s ≡ Ok t → P s.draft t.draft (map bound_name bs)
  bounds_carried q [] s t h = carried_none s.draft t.draft (ap (λ (x : Bounded). x.draft) (ok_same h))
  bounds_carried q (b ∷ bs) s t h =
      let a = on (take_bound b s) (λ s. take_bounds bs s) t h in
      k.both s.draft a.value.draft t.draft (bound_name b ∷ []) _ (bound_carried q b s a.value a.is) (bounds_carried q bs a.value t a.then)

  pub section_carried : KeptByBounds P → (bs : Option (List Bound)) (d e : Draft) → take_section bs d ≡ Ok e → P d e (section_names bs)
  section_carried q None d e h = carried_none d e (ok_same h)
  section_carried q (Some bs) d e h =
      let a = on (take_bounds bs (bounded d [])) (λ s. Ok s.draft) e h in
      carried_to d a.value.draft e (map bound_name bs) (ok_same a.then) (bounds_carried q bs (bounded d []) a.value a.is)
