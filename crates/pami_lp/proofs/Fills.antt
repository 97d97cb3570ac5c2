-- Tokens whose classes are the shape of a file are a file of the grammar: the shape, filled with their texts.
use Rattle.std.proofs.Common.{◌≡◌, ℕ, Bool, true, false, true≢false, List, [], ◌∷◌, Option, None, Some, refl, sym, ap, subst, ◌∙◌}
use Rattle.pami_lp_text.specs.declared.kind.Relation.{Relation}
use Rattle.pami_lp_text.specs.declared.kind.Class.{Class}
use Rattle.pami_lp_text.specs.declared.kind.Class.TheVariants as classes
use Rattle.pami_lp_text.specs.Classes.{Symbol}
use Rattle.pami_lp.specs.Grammar.{Item, item, items_of, mark, said, head, Turn, Plus, Minus, turn, signs, number_before, Term, term, Further, further, Terms, terms, Size, Number, Infinity, size, Value, value, label, way, Side, Right, Left, Both, side, Row, rows, Part, Named, Alone, part, Later, later, Goal, Nothing, Parts, goal, rows_word, Bound, Set, From, Between, Freed, bound, bounds, section, File, file, goes_on, IsClosed, AreClosed, IsClosedFile}
use Rattle.pami_lp.proofs.Shape as shape
use Rattle.pami_lp.proofs.Stepped.{classes_of}

-- ---- one token

abbrev is_some_list : List Class → Bool
is_some_list [] = false
is_some_list (c ∷ cs) = true

abbrev first_of : Class → List Class → Class
first_of d [] = d
first_of d (c ∷ cs) = c

abbrev rest_of : List Class → List Class
rest_of [] = []
rest_of (c ∷ cs) = cs

record Taken (ts : List Symbol) (k : Class) (cs : List Class) : Type 0 where
  text : List ℕ
  after : List Symbol
  rest : classes_of after ≡ cs
  is : items_of ts ≡ item k (said k text) ∷ items_of after

taken : (ts : List Symbol) (k : Class) (cs : List Class) → classes_of ts ≡ k ∷ cs → Taken ts k cs
taken [] k cs e = absurd (true≢false (sym (ap is_some_list e)))
taken (t ∷ ts) k cs e = record {
  text = t.text;
  after = ts;
  rest = ap rest_of e;
  is = ap (λ (c : Class). item c (said c t.text) ∷ items_of ts) (ap (first_of k) e);
}

-- what stands behind a part of this spelling
record Behind (spell : List Item → List Item) (ts : List Symbol) (cs : List Class) : Type 0 where
  after : List Symbol
  rest : classes_of after ≡ cs
  is : items_of ts ≡ spell (items_of after)

-- a token in front of a part
abbrev led : (spell : List Item → List Item) (ts : List Symbol) (k : Class) (ds cs : List Class) (a : Taken ts k ds) (x : Item) → item k (said k a.text) ≡ x → Behind spell a.after cs → Behind (λ rest. x ∷ spell rest) ts cs
led spell ts k ds cs a x e b = record {
  after = b.after;
  rest = b.rest;
  is = a.is ∙ ap (λ (i : Item). i ∷ items_of a.after) e ∙ ap (λ (is : List Item). x ∷ is) b.is;
}

-- a part in front of a part
abbrev joined : (f g : List Item → List Item) (ts : List Symbol) (ds cs : List Class) (a : Behind f ts ds) → Behind g a.after cs → Behind (λ rest. f (g rest)) ts cs
joined f g ts ds cs a b = record { after = b.after; rest = b.rest; is = a.is ∙ ap f b.is }

abbrev nothing : (ts : List Symbol) (cs : List Class) → classes_of ts ≡ cs → Behind (λ rest. rest) ts cs
nothing ts cs e = record { after = ts; rest = e; is = refl }

silent_turn : (t : Turn) (text : List ℕ) → said (turn t) text ≡ []
silent_turn Plus text = refl
silent_turn Minus text = refl

-- ---- terms and values

fill_signs : (turns : List Turn) (ts : List Symbol) (cs : List Class) → classes_of ts ≡ shape.signs turns cs → Behind (signs turns) ts cs
fill_signs [] ts cs e = nothing ts cs e
fill_signs (t ∷ turns) ts cs e =
    let a = taken ts (turn t) (shape.signs turns cs) e in
    led (signs turns) ts (turn t) (shape.signs turns cs) cs a (mark (turn t)) (ap (λ (text : List ℕ). item (turn t) text) (silent_turn t a.text)) (fill_signs turns a.after cs a.rest)

fill_number : (n : Bool) (ts : List Symbol) (cs : List Class) → classes_of ts ≡ shape.number_before n cs → (number : Option (List ℕ)) × Behind (number_before number) ts cs
fill_number true ts cs e =
    let a = taken ts classes.Number cs e in
    (Some a.text, led (λ rest. rest) ts classes.Number cs cs a (item classes.Number a.text) refl (nothing a.after cs a.rest))
fill_number false ts cs e = (None, nothing ts cs e)

fill_term : (t : shape.Term) (ts : List Symbol) (cs : List Class) → classes_of ts ≡ shape.term t cs → (x : Term) × Behind (term x) ts cs
fill_term t ts cs e =
    let a = fill_signs t.turns ts _ e in
    let b = fill_number t.number a.after (classes.Name ∷ cs) a.rest in
    let c = taken b.1.after classes.Name cs b.1.rest in
    let named = led (λ rest. rest) b.1.after classes.Name cs cs c (item classes.Name c.text) refl (nothing c.after cs c.rest) in (
      record { turns = t.turns; number = b.0; name = c.text },
      joined (signs t.turns) (λ rest. number_before b.0 (item classes.Name c.text ∷ rest)) ts _ cs a (joined (number_before b.0) (λ rest. item classes.Name c.text ∷ rest) a.after _ cs b.1 named),
    )

fill_further : (fs : List shape.Further) (ts : List Symbol) (cs : List Class) → classes_of ts ≡ shape.further fs cs → (xs : List Further) × Behind (further xs) ts cs
fill_further [] ts cs e = ([], nothing ts cs e)
fill_further (f ∷ fs) ts cs e =
    let a = taken ts (turn f.turn) (shape.term f.term (shape.further fs cs)) e in
    let b = fill_term f.term a.after (shape.further fs cs) a.rest in
    let c = fill_further fs b.1.after cs b.1.rest in (
      record { turn = f.turn; term = b.0 } ∷ c.0,
      led (λ rest. term b.0 (further c.0 rest)) ts (turn f.turn) _ cs a (mark (turn f.turn)) (ap (λ (text : List ℕ). item (turn f.turn) text) (silent_turn f.turn a.text)) (joined (term b.0) (further c.0) a.after _ cs b.1 c.1),
    )

fill_terms : (t : shape.Terms) (ts : List Symbol) (cs : List Class) → classes_of ts ≡ shape.terms t cs → (x : Terms) × Behind (terms x) ts cs
fill_terms t ts cs e =
    let a = fill_term t.first ts (shape.further t.more cs) e in
    let b = fill_further t.more a.1.after cs a.1.rest in
    (record { first = a.0; more = b.0 }, joined (term a.0) (further b.0) ts _ cs a.1 b.1)

fill_size : (n : Bool) (ts : List Symbol) (cs : List Class) → classes_of ts ≡ shape.value_end n ∷ cs → (z : Size) × Behind (λ rest. size z ∷ rest) ts cs
fill_size true ts cs e =
    let a = taken ts classes.Number cs e in
    (Number a.text, led (λ rest. rest) ts classes.Number cs cs a (item classes.Number a.text) refl (nothing a.after cs a.rest))
fill_size false ts cs e =
    let a = taken ts classes.Infinity cs e in
    (Infinity a.text, led (λ rest. rest) ts classes.Infinity cs cs a (item classes.Infinity a.text) refl (nothing a.after cs a.rest))

fill_value : (v : shape.Value) (ts : List Symbol) (cs : List Class) → classes_of ts ≡ shape.value v cs → (x : Value) × Behind (value x) ts cs
fill_value v ts cs e =
    let a = fill_signs v.turns ts _ e in
    let b = fill_size v.number a.after cs a.rest in
    (record { turns = v.turns; size = b.0 }, joined (signs v.turns) (λ rest. size b.0 ∷ rest) ts _ cs a b.1)

-- ---- single tokens

fill_relation : (r : Relation) (ts : List Symbol) (cs : List Class) → classes_of ts ≡ classes.Relation r ∷ cs → Behind (λ rest. mark (classes.Relation r) ∷ rest) ts cs
fill_relation r ts cs e = let a = taken ts (classes.Relation r) cs e in led (λ rest. rest) ts (classes.Relation r) cs cs a (mark (classes.Relation r)) refl (nothing a.after cs a.rest)

fill_name : (ts : List Symbol) (cs : List Class) → classes_of ts ≡ classes.Name ∷ cs → (name : List ℕ) × Behind (λ rest. item classes.Name name ∷ rest) ts cs
fill_name ts cs e = let a = taken ts classes.Name cs e in (a.text, led (λ rest. rest) ts classes.Name cs cs a (item classes.Name a.text) refl (nothing a.after cs a.rest))

fill_label : (l : Bool) (ts : List Symbol) (cs : List Class) → classes_of ts ≡ shape.label l cs → (x : Option (List ℕ)) × Behind (label x) ts cs
fill_label true ts cs e =
    let a = fill_name ts (classes.Colon ∷ cs) e in
    let c = taken a.1.after classes.Colon cs a.1.rest in
    (Some a.0, joined (λ rest. item classes.Name a.0 ∷ rest) (λ rest. mark classes.Colon ∷ rest) ts _ cs a.1 (led (λ rest. rest) a.1.after classes.Colon cs cs c (mark classes.Colon) refl (nothing c.after cs c.rest)))
fill_label false ts cs e = (None, nothing ts cs e)

-- ---- rows

record SideFilled (s : shape.Side) (ts : List Symbol) (cs : List Class) : Type 0 where
  tree : Side
  behind : Behind (side tree) ts cs
  closed : shape.IsClosed s cs → IsClosed tree (items_of behind.after)

items_head : (ts : List Symbol) → head (items_of ts) ≡ shape.head (classes_of ts)
items_head [] = refl
items_head (t ∷ ts) = refl

fill_side : (s : shape.Side) (ts : List Symbol) (cs : List Class) → classes_of ts ≡ shape.side s cs → SideFilled s ts cs
fill_side (shape.Right t r v) ts cs e =
    let a = fill_terms t ts _ e in
    let b = fill_relation r a.1.after _ a.1.rest in
    let c = fill_value v b.after cs b.rest in
    record {
      tree = Right a.0 r c.0;
      behind = joined (terms a.0) (λ rest. mark (classes.Relation r) ∷ value c.0 rest) ts _ cs a.1 (joined (λ rest. mark (classes.Relation r) ∷ rest) (value c.0) a.1.after _ cs b c.1);
      closed = λ h. h;
    }
fill_side (shape.Left v r t) ts cs e =
    let a = fill_value v ts _ e in
    let b = fill_relation r a.1.after _ a.1.rest in
    let c = fill_terms t b.after cs b.rest in
    record {
      tree = Left a.0 r c.0;
      behind = joined (value a.0) (λ rest. mark (classes.Relation r) ∷ terms c.0 rest) ts _ cs a.1 (joined (λ rest. mark (classes.Relation r) ∷ rest) (terms c.0) a.1.after _ cs b c.1);
      closed = λ h. ap (λ (k : Class). goes_on r k) (items_head c.1.after ∙ ap shape.head c.1.rest) ∙ h;
    }
fill_side (shape.Both v w t u) ts cs e =
    let a = fill_value v ts _ e in
    let b = fill_relation (way w) a.1.after _ a.1.rest in
    let c = fill_terms t b.after _ b.rest in
    let d = fill_relation (way w) c.1.after _ c.1.rest in
    let f = fill_value u d.after cs d.rest in
    record {
      tree = Both a.0 w c.0 f.0;
      behind =
          joined (value a.0) (λ rest. mark (classes.Relation (way w)) ∷ terms c.0 (mark (classes.Relation (way w)) ∷ value f.0 rest)) ts _ cs a.1
          (joined (λ rest. mark (classes.Relation (way w)) ∷ rest) (λ rest. terms c.0 (mark (classes.Relation (way w)) ∷ value f.0 rest)) a.1.after _ cs b
          (joined (terms c.0) (λ rest. mark (classes.Relation (way w)) ∷ value f.0 rest) b.after _ cs c.1
          (joined (λ rest. mark (classes.Relation (way w)) ∷ rest) (value f.0) c.1.after _ cs d f.1)));
      closed = λ h. h;
    }

record RowsFilled (rs : List shape.Row) (ts : List Symbol) (cs : List Class) : Type 0 where
  tree : List Row
  behind : Behind (rows tree) ts cs
  closed : shape.AreClosed rs cs → AreClosed tree (items_of behind.after)

fill_rows : (rs : List shape.Row) (ts : List Symbol) (cs : List Class) → classes_of ts ≡ shape.rows rs cs → RowsFilled rs ts cs
fill_rows [] ts cs e = record { tree = []; behind = nothing ts cs e; closed = λ h. h }
fill_rows (r ∷ rs) ts cs e =
    let a = fill_label r.label ts _ e in
    let b = fill_side r.side a.1.after (shape.rows rs cs) a.1.rest in
    let c = fill_rows rs b.behind.after cs b.behind.rest in
    record {
      tree = record { label = a.0; side = b.tree } ∷ c.tree;
      behind = joined (label a.0) (λ rest. side b.tree (rows c.tree rest)) ts _ cs a.1 (joined (side b.tree) (rows c.tree) a.1.after _ cs b.behind c.behind);
      closed = λ h. (subst (λ (is : List Item). IsClosed b.tree is) c.behind.is (b.closed h.0), c.closed h.1);
    }

-- ---- the objective

fill_part : (p : shape.Part) (ts : List Symbol) (cs : List Class) → classes_of ts ≡ shape.part p cs → (x : Part) × Behind (part x) ts cs
fill_part (shape.Named t) ts cs e = let a = fill_term t ts cs e in (Named a.0, a.1)
fill_part (shape.Alone turns) ts cs e =
    let a = fill_signs turns ts (classes.Number ∷ cs) e in
    let b = taken a.after classes.Number cs a.rest in
    (Alone turns b.text, joined (signs turns) (λ rest. item classes.Number b.text ∷ rest) ts _ cs a (led (λ rest. rest) a.after classes.Number cs cs b (item classes.Number b.text) refl (nothing b.after cs b.rest)))

fill_later : (ls : List shape.Later) (ts : List Symbol) (cs : List Class) → classes_of ts ≡ shape.later ls cs → (xs : List Later) × Behind (later xs) ts cs
fill_later [] ts cs e = ([], nothing ts cs e)
fill_later (l ∷ ls) ts cs e =
    let a = taken ts (turn l.turn) (shape.part l.part (shape.later ls cs)) e in
    let b = fill_part l.part a.after (shape.later ls cs) a.rest in
    let c = fill_later ls b.1.after cs b.1.rest in (
      record { turn = l.turn; part = b.0 } ∷ c.0,
      led (λ rest. part b.0 (later c.0 rest)) ts (turn l.turn) _ cs a (mark (turn l.turn)) (ap (λ (text : List ℕ). item (turn l.turn) text) (silent_turn l.turn a.text)) (joined (part b.0) (later c.0) a.after _ cs b.1 c.1),
    )

fill_goal : (g : shape.Goal) (ts : List Symbol) (cs : List Class) → classes_of ts ≡ shape.goal g cs → (x : Goal) × Behind (goal x) ts cs
fill_goal shape.Nothing ts cs e = (Nothing, nothing ts cs e)
fill_goal (shape.Parts p ls) ts cs e =
    let a = fill_part p ts (shape.later ls cs) e in
    let b = fill_later ls a.1.after cs a.1.rest in
    (Parts a.0 b.0, joined (part a.0) (later b.0) ts _ cs a.1 b.1)

fill_word : (w : Bool) (ts : List Symbol) (cs : List Class) → classes_of ts ≡ shape.rows_word w cs → (x : Option (List ℕ)) × Behind (rows_word x) ts cs
fill_word true ts cs e =
    let a = taken ts classes.RowsPair (classes.Name ∷ cs) e in
    let b = fill_name a.after cs a.rest in
    (Some b.0, led (λ rest. item classes.Name b.0 ∷ rest) ts classes.RowsPair _ cs a (mark classes.RowsPair) refl b.1)
fill_word false ts cs e = let a = taken ts classes.Rows cs e in (None, led (λ rest. rest) ts classes.Rows cs cs a (mark classes.Rows) refl (nothing a.after cs a.rest))

-- ---- bounds

fill_bound : (b : shape.Bound) (ts : List Symbol) (cs : List Class) → classes_of ts ≡ shape.bound b cs → (x : Bound) × Behind (bound x) ts cs
fill_bound (shape.Set r v) ts cs e =
    let a = fill_name ts _ e in
    let b = fill_relation r a.1.after _ a.1.rest in
    let c = fill_value v b.after cs b.rest in
    (Set a.0 r c.0, joined (λ rest. item classes.Name a.0 ∷ rest) (λ rest. mark (classes.Relation r) ∷ value c.0 rest) ts _ cs a.1 (joined (λ rest. mark (classes.Relation r) ∷ rest) (value c.0) a.1.after _ cs b c.1))
fill_bound (shape.From v r) ts cs e =
    let a = fill_value v ts _ e in
    let b = fill_relation r a.1.after _ a.1.rest in
    let c = fill_name b.after cs b.rest in
    (From a.0 r c.0, joined (value a.0) (λ rest. mark (classes.Relation r) ∷ item classes.Name c.0 ∷ rest) ts _ cs a.1 (joined (λ rest. mark (classes.Relation r) ∷ rest) (λ rest. item classes.Name c.0 ∷ rest) a.1.after _ cs b c.1))
fill_bound (shape.Between v w u) ts cs e =
    let a = fill_value v ts _ e in
    let b = fill_relation (way w) a.1.after _ a.1.rest in
    let c = fill_name b.after _ b.rest in
    let d = fill_relation (way w) c.1.after _ c.1.rest in
    let f = fill_value u d.after cs d.rest in (
      Between a.0 w c.0 f.0,
      joined (value a.0) (λ rest. mark (classes.Relation (way w)) ∷ item classes.Name c.0 ∷ mark (classes.Relation (way w)) ∷ value f.0 rest) ts _ cs a.1
          (joined (λ rest. mark (classes.Relation (way w)) ∷ rest) (λ rest. item classes.Name c.0 ∷ mark (classes.Relation (way w)) ∷ value f.0 rest) a.1.after _ cs b
          (joined (λ rest. item classes.Name c.0 ∷ rest) (λ rest. mark (classes.Relation (way w)) ∷ value f.0 rest) b.after _ cs c.1
          (joined (λ rest. mark (classes.Relation (way w)) ∷ rest) (value f.0) c.1.after _ cs d f.1))),
    )
fill_bound shape.Freed ts cs e =
    let a = fill_name ts _ e in
    let b = taken a.1.after classes.Free cs a.1.rest in
    (Freed a.0, joined (λ rest. item classes.Name a.0 ∷ rest) (λ rest. mark classes.Free ∷ rest) ts _ cs a.1 (led (λ rest. rest) a.1.after classes.Free cs cs b (mark classes.Free) refl (nothing b.after cs b.rest)))

fill_bounds : (bs : List shape.Bound) (ts : List Symbol) (cs : List Class) → classes_of ts ≡ shape.bounds bs cs → (xs : List Bound) × Behind (bounds xs) ts cs
fill_bounds [] ts cs e = ([], nothing ts cs e)
fill_bounds (b ∷ bs) ts cs e =
    let a = fill_bound b ts (shape.bounds bs cs) e in
    let c = fill_bounds bs a.1.after cs a.1.rest in
    (a.0 ∷ c.0, joined (bound a.0) (bounds c.0) ts _ cs a.1 c.1)

fill_section : (bs : Option (List shape.Bound)) (ts : List Symbol) (cs : List Class) → classes_of ts ≡ shape.section bs cs → (x : Option (List Bound)) × Behind (section x) ts cs
fill_section None ts cs e = (None, nothing ts cs e)
fill_section (Some bs) ts cs e =
    let a = taken ts classes.Bounds (shape.bounds bs cs) e in
    let b = fill_bounds bs a.after cs a.rest in
    (Some b.0, led (bounds b.0) ts classes.Bounds _ cs a (mark classes.Bounds) refl b.1)

-- ---- files

-- the tokens are a file of the grammar and what stands behind it
pub record FileFilled (f : shape.File) (ts : List Symbol) (cs : List Class) : Type 0 where
  pub tree : File
  pub after : List Symbol
  pub rest : classes_of after ≡ cs
  pub is : items_of ts ≡ file tree (items_of after)
  pub closed : IsClosedFile tree (items_of after)

-- a shape's spelling in front of classes
abbrev spelled : shape.File → List Class → List Class
spelled f cs = classes.Goal f.sense ∷ shape.label f.label (shape.goal f.goal (shape.rows_word f.pair (shape.rows f.rows (shape.section f.bounds (classes.End ∷ cs)))))

pub fill : (f : shape.File) (ts : List Symbol) (cs : List Class) → classes_of ts ≡ spelled f cs → shape.AreClosed f.rows (shape.section f.bounds (classes.End ∷ cs)) → FileFilled f ts cs
fill f ts cs e h =
    let a = taken ts (classes.Goal f.sense) _ e in
    let l = fill_label f.label a.after _ a.rest in
    let g = fill_goal f.goal l.1.after _ l.1.rest in
    let w = fill_word f.pair g.1.after _ g.1.rest in
    let r = fill_rows f.rows w.1.after (shape.section f.bounds (classes.End ∷ cs)) w.1.rest in
    let s = fill_section f.bounds r.behind.after (classes.End ∷ cs) r.behind.rest in
    let z = taken s.1.after classes.End cs s.1.rest in
    record {
      tree = record { sense = f.sense; label = l.0; goal = g.0; second = w.0; rows = r.tree; bounds = s.0 };
      after = z.after;
      rest = z.rest;
      is =
          a.is ∙ ap (λ (is : List Item). mark (classes.Goal f.sense) ∷ is) (l.1.is ∙ ap (label l.0) (g.1.is ∙ ap (goal g.0) (w.1.is ∙ ap (rows_word w.0) (r.behind.is ∙ ap (rows r.tree) (s.1.is ∙ ap (section s.0) z.is)))));
      closed = subst (λ (is : List Item). AreClosed r.tree is) (s.1.is ∙ ap (section s.0) z.is) (r.closed h);
    }
