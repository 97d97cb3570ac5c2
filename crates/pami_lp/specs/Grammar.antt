-- The grammar of LP files: its parts, as trees with the texts of their numbers and names, and how each is written in
-- front of what follows it.
use Rattle.std.specs.Prelude.{◌≡◌, ℕ, Bool, true, false, List, [], ◌∷◌, map, Option, None, Some}
use Rattle.pami_model.specs.declared.model.Sense.{Sense}
use Rattle.pami_lp_text.specs.declared.kind.Relation.{Relation}
use Rattle.pami_lp_text.specs.declared.kind.Relation.TheVariants as relations
use Rattle.pami_lp_text.specs.declared.kind.Class.{Class}
use Rattle.pami_lp_text.specs.declared.kind.Class.TheVariants as classes
use Rattle.pami_lp_text.specs.Classes.{Symbol}

-- ---- tokens, as far as the grammar reads them

-- a token's class, with its text where that matters
pub record Item : Type 0 where
  pub class : Class
  pub text : List ℕ

abbrev pub item : Class → List ℕ → Item
item class text = record { class = class; text = text }

-- a token whose class says all
abbrev pub mark : Class → Item
mark class = item class []

-- the texts of numbers, of names and of words for infinity matter
abbrev pub said : Class → List ℕ → List ℕ
said classes.Number text = text
said classes.Name text = text
said classes.Infinity text = text
said c text = []

abbrev pub item_of : Symbol → Item
item_of t = item t.class (said t.class t.text)

abbrev pub items_of : List Symbol → List Item
items_of ts = map item_of ts

-- the class of the first of these; behind the last, that of a byte of no token
abbrev pub head : List Item → Class
head [] = classes.Bad
head (i ∷ is) = i.class

-- ---- terms and values

pub data Turn : Type 0 where
  Plus : Turn
  Minus : Turn

abbrev pub turn : Turn → Class
turn Plus = classes.Plus
turn Minus = classes.Minus

-- sign*
abbrev pub signs : List Turn → List Item → List Item
signs [] rest = rest
signs (t ∷ ts) rest = mark (turn t) ∷ signs ts rest

-- [number]
abbrev pub number_before : Option (List ℕ) → List Item → List Item
number_before (Some text) rest = item classes.Number text ∷ rest
number_before None rest = rest

-- term = sign* [number] name
pub record Term : Type 0 where
  pub turns : List Turn
  pub number : Option (List ℕ)
  pub name : List ℕ

abbrev pub term : Term → List Item → List Item
term t rest = signs t.turns (number_before t.number (item classes.Name t.name ∷ rest))

-- one term more: a sign, and a term
pub record Further : Type 0 where
  pub turn : Turn
  pub term : Term

abbrev pub further : List Further → List Item → List Item
further [] rest = rest
further (f ∷ fs) rest = mark (turn f.turn) ∷ term f.term (further fs rest)

-- terms = term term*, each after the first with at least one sign
pub record Terms : Type 0 where
  pub first : Term
  pub more : List Further

abbrev pub terms : Terms → List Item → List Item
terms t rest = term t.first (further t.more rest)

-- a number, or a word for infinity
pub data Size : Type 0 where
  Number : List ℕ → Size
  Infinity : List ℕ → Size

abbrev pub size : Size → Item
size (Number text) = item classes.Number text
size (Infinity text) = item classes.Infinity text

-- value = sign* (number | inf)
pub record Value : Type 0 where
  pub turns : List Turn
  pub size : Size

abbrev pub value : Value → List Item → List Item
value v rest = signs v.turns (size v.size ∷ rest)

-- ---- rows

-- [name ":"]
abbrev pub label : Option (List ℕ) → List Item → List Item
label (Some name) rest = item classes.Name name ∷ mark classes.Colon ∷ rest
label None rest = rest

-- a relation other than =
pub data Way : Type 0 where
  Below : Way
  Above : Way

abbrev pub way : Way → Relation
way Below = relations.AtMost
way Above = relations.AtLeast

-- row = [name ":"] (terms rel value | value rel terms | value way terms way value), the two ways the same
pub data Side : Type 0 where
  Right : Terms → Relation → Value → Side
  Left : Value → Relation → Terms → Side
  Both : Value → Way → Terms → Value → Side

abbrev pub side : Side → List Item → List Item
side (Right ts r v) rest = terms ts (mark (classes.Relation r) ∷ value v rest)
side (Left v r ts) rest = value v (mark (classes.Relation r) ∷ terms ts rest)
side (Both v w ts u) rest = value v (mark (classes.Relation (way w)) ∷ terms ts (mark (classes.Relation (way w)) ∷ value u rest))

pub record Row : Type 0 where
  pub label : Option (List ℕ)
  pub side : Side

abbrev pub row : Row → List Item → List Item
row r rest = label r.label (side r.side rest)

abbrev pub rows : List Row → List Item → List Item
rows [] rest = rest
rows (r ∷ rs) rest = row r (rows rs rest)

-- ---- the objective

-- a term of the objective: sign* [number] name | sign* number
pub data Part : Type 0 where
  Named : Term → Part
  Alone : List Turn → List ℕ → Part

abbrev pub part : Part → List Item → List Item
part (Named t) rest = term t rest
part (Alone ts text) rest = signs ts (item classes.Number text ∷ rest)

pub record Later : Type 0 where
  pub turn : Turn
  pub part : Part

abbrev pub later : List Later → List Item → List Item
later [] rest = rest
later (l ∷ ls) rest = mark (turn l.turn) ∷ part l.part (later ls rest)

pub data Goal : Type 0 where
  Nothing : Goal
  Parts : Part → List Later → Goal

abbrev pub goal : Goal → List Item → List Item
goal Nothing rest = rest
goal (Parts p ls) rest = part p (later ls rest)

-- "st", or "subject to" and its like with their second word
abbrev pub rows_word : Option (List ℕ) → List Item → List Item
rows_word (Some second) rest = mark classes.RowsPair ∷ item classes.Name second ∷ rest
rows_word None rest = mark classes.Rows ∷ rest

-- ---- bounds

-- bound = name rel value | value rel name | value way name way value | name "free"
pub data Bound : Type 0 where
  Set : List ℕ → Relation → Value → Bound
  From : Value → Relation → List ℕ → Bound
  Between : Value → Way → List ℕ → Value → Bound
  Freed : List ℕ → Bound

abbrev pub bound : Bound → List Item → List Item
bound (Set name r v) rest = item classes.Name name ∷ mark (classes.Relation r) ∷ value v rest
bound (From v r name) rest = value v (mark (classes.Relation r) ∷ item classes.Name name ∷ rest)
bound (Between v w name u) rest = value v (mark (classes.Relation (way w)) ∷ item classes.Name name ∷ mark (classes.Relation (way w)) ∷ value u rest)
bound (Freed name) rest = item classes.Name name ∷ mark classes.Free ∷ rest

abbrev pub bounds : List Bound → List Item → List Item
bounds [] rest = rest
bounds (b ∷ bs) rest = bound b (bounds bs rest)

-- [boundsword bound*]
abbrev pub section : Option (List Bound) → List Item → List Item
section None rest = rest
section (Some bs) rest = mark classes.Bounds ∷ bounds bs rest

-- ---- files

pub record File : Type 0 where
  pub sense : Sense
  pub label : Option (List ℕ)
  pub goal : Goal
  pub second : Option (List ℕ)
  pub rows : List Row
  pub bounds : Option (List Bound)

-- what stands behind the rows
abbrev pub ending : Option (List Bound) → List Item → List Item
ending bs rest = section bs (mark classes.End ∷ rest)

abbrev pub file : File → List Item → List Item
file f rest = mark (classes.Goal f.sense) ∷ label f.label (goal f.goal (rows_word f.second (rows f.rows (ending f.bounds rest))))

-- two relations that point the same way, of which neither is =
abbrev pub agrees : Relation → Class → Bool
agrees relations.AtMost (classes.Relation relations.AtMost) = true
agrees relations.AtLeast (classes.Relation relations.AtLeast) = true
agrees r c = false

-- a row with a left relation takes such a token behind a term
abbrev pub goes_on : Relation → Class → Bool
goes_on r classes.Plus = true
goes_on r classes.Minus = true
goes_on r c = agrees r c

-- a row takes tokens as long as it can: what follows one that ends with its terms can't continue it
abbrev pub IsClosed : Side → List Item → Type 0
IsClosed (Right ts r v) rest = Unit {0}
IsClosed (Left v r ts) rest = goes_on r (head rest) ≡ false
IsClosed (Both v w ts u) rest = Unit {0}

abbrev pub AreClosed : List Row → List Item → Type 0
AreClosed [] rest = Unit {0}
AreClosed (r ∷ rs) rest = IsClosed r.side (rows rs rest) × AreClosed rs rest

-- each row of a file in front of these takes tokens as long as it can
abbrev pub IsClosedFile : File → List Item → Type 0
IsClosedFile f rest = AreClosed f.rows (ending f.bounds rest)
