-- The shapes of LP files: trees of the grammar without the texts of numbers and names, written as lists of classes, and
-- the machine that walks over such lists.
use Rattle.std.specs.Prelude.{◌≡◌, ◌++◌, Bool, true, false, List, [], ◌∷◌, Option, None, Some}
use Rattle.pami_model.specs.declared.model.Sense.{Sense}
use Rattle.pami_lp_text.specs.declared.kind.Relation.{Relation}
use Rattle.pami_lp_text.specs.declared.kind.Class.{Class}
use Rattle.pami_lp_text.specs.declared.kind.Class.TheVariants as classes
use Rattle.pami_lp.specs.declared.kind.Place.{Place}
use Rattle.pami_lp.specs.declared.kind.Place.TheVariants as places
use Rattle.pami_lp.specs.declared.kind.Move.{Move}
use Rattle.pami_lp.specs.Grammar.{Turn, turn, Way, way, goes_on}
use Rattle.pami_lp.specs.Moves.{move_of}

-- sign*
abbrev pub signs : List Turn → List Class → List Class
signs [] rest = rest
signs (t ∷ ts) rest = turn t ∷ signs ts rest

abbrev pub number_before : Bool → List Class → List Class
number_before true rest = classes.Number ∷ rest
number_before false rest = rest

-- term = sign* [number] name
pub record Term : Type 0 where
  pub turns : List Turn
  pub number : Bool

abbrev pub term : Term → List Class → List Class
term t rest = signs t.turns (number_before t.number (classes.Name ∷ rest))

-- one term more: a sign, and a term
pub record Further : Type 0 where
  pub turn : Turn
  pub term : Term

abbrev pub further : List Further → List Class → List Class
further [] rest = rest
further (f ∷ fs) rest = turn f.turn ∷ term f.term (further fs rest)

-- terms = term term*, each after the first with at least one sign
pub record Terms : Type 0 where
  pub first : Term
  pub more : List Further

abbrev pub terms : Terms → List Class → List Class
terms t rest = term t.first (further t.more rest)

-- value = sign* (number | inf)
pub record Value : Type 0 where
  pub turns : List Turn
  pub number : Bool

abbrev pub value_end : Bool → Class
value_end true = classes.Number
value_end false = classes.Infinity

abbrev pub value : Value → List Class → List Class
value v rest = signs v.turns (value_end v.number ∷ rest)

-- [name ":"]
abbrev pub label : Bool → List Class → List Class
label true rest = classes.Name ∷ classes.Colon ∷ rest
label false rest = rest

-- row = [name ":"] (terms rel value | value rel terms | value way terms way value), the two ways the same
pub data Side : Type 0 where
  Right : Terms → Relation → Value → Side
  Left : Value → Relation → Terms → Side
  Both : Value → Way → Terms → Value → Side

abbrev pub side : Side → List Class → List Class
side (Right ts r v) rest = terms ts (classes.Relation r ∷ value v rest)
side (Left v r ts) rest = value v (classes.Relation r ∷ terms ts rest)
side (Both v w ts u) rest = value v (classes.Relation (way w) ∷ terms ts (classes.Relation (way w) ∷ value u rest))

pub record Row : Type 0 where
  pub label : Bool
  pub side : Side

abbrev pub row : Row → List Class → List Class
row r rest = label r.label (side r.side rest)

abbrev pub rows : List Row → List Class → List Class
rows [] rest = rest
rows (r ∷ rs) rest = row r (rows rs rest)

-- a term of the objective: sign* [number] name | sign* number
pub data Part : Type 0 where
  Named : Term → Part
  Alone : List Turn → Part

abbrev pub part : Part → List Class → List Class
part (Named t) rest = term t rest
part (Alone ts) rest = signs ts (classes.Number ∷ rest)

pub record Later : Type 0 where
  pub turn : Turn
  pub part : Part

abbrev pub later : List Later → List Class → List Class
later [] rest = rest
later (l ∷ ls) rest = turn l.turn ∷ part l.part (later ls rest)

pub data Goal : Type 0 where
  Nothing : Goal
  Parts : Part → List Later → Goal

abbrev pub goal : Goal → List Class → List Class
goal Nothing rest = rest
goal (Parts p ls) rest = part p (later ls rest)

-- "st", or "subject to" and its like
abbrev pub rows_word : Bool → List Class → List Class
rows_word true rest = classes.RowsPair ∷ classes.Name ∷ rest
rows_word false rest = classes.Rows ∷ rest

-- bound = name rel value | value rel name | value way name way value | name "free"
pub data Bound : Type 0 where
  Set : Relation → Value → Bound
  From : Value → Relation → Bound
  Between : Value → Way → Value → Bound
  Freed : Bound

abbrev pub bound : Bound → List Class → List Class
bound (Set r v) rest = classes.Name ∷ classes.Relation r ∷ value v rest
bound (From v r) rest = value v (classes.Relation r ∷ classes.Name ∷ rest)
bound (Between v w u) rest = value v (classes.Relation (way w) ∷ classes.Name ∷ classes.Relation (way w) ∷ value u rest)
bound Freed rest = classes.Name ∷ classes.Free ∷ rest

abbrev pub bounds : List Bound → List Class → List Class
bounds [] rest = rest
bounds (b ∷ bs) rest = bound b (bounds bs rest)

-- [boundsword bound*]
abbrev pub section : Option (List Bound) → List Class → List Class
section None rest = rest
section (Some bs) rest = classes.Bounds ∷ bounds bs rest

pub record File : Type 0 where
  pub sense : Sense
  pub label : Bool
  pub goal : Goal
  pub pair : Bool
  pub rows : List Row
  pub bounds : Option (List Bound)

abbrev pub file : File → List Class
file f = classes.Goal f.sense ∷ label f.label (goal f.goal (rows_word f.pair (rows f.rows (section f.bounds (classes.End ∷ [])))))

-- the class of the first of these; behind the last, that of a byte of no token
abbrev pub head : List Class → Class
head [] = classes.Bad
head (c ∷ cs) = c

-- a row takes tokens as long as it can: what follows one that ends with its terms can't continue it
abbrev pub IsClosed : Side → List Class → Type 0
IsClosed (Right ts r v) rest = Unit {0}
IsClosed (Left v r ts) rest = goes_on r (head rest) ≡ false
IsClosed (Both v w ts u) rest = Unit {0}

abbrev pub AreClosed : List Row → List Class → Type 0
AreClosed [] rest = Unit {0}
AreClosed (r ∷ rs) rest = IsClosed r.side (rows rs rest) × AreClosed rs rest

-- the place behind classes, from a place
abbrev pub walk_by : Option Move → (Place → Option Place) → Option Place
walk_by None rest = None
walk_by (Some m) rest = rest m.place

abbrev pub walk : Place → List Class → Option Place
walk p [] = Some p
walk p (c ∷ cs) = walk_by (move_of p c (head cs)) (λ q. walk q cs)

-- each file of the grammar is taken to its end
abbrev pub FilesAreTaken : Type 0
FilesAreTaken = (f : File) → AreClosed f.rows (section f.bounds (classes.End ∷ [])) → walk places.Start (file f) ≡ Some places.End

-- what is taken to the end is a file of the grammar
abbrev pub EndsAreFiles : Type 0
EndsAreFiles = (cs : List Class) → walk places.Start cs ≡ Some places.End → (f : File) × (cs ≡ file f) × AreClosed f.rows (section f.bounds (classes.End ∷ []))

-- the class that stands first, with `next` behind the last
abbrev pub head_or : Class → List Class → Class
head_or next [] = next
head_or next (c ∷ cs) = c

-- the place behind classes that stand before one of the class `next`
abbrev pub walk_to : Place → List Class → Class → Option Place
walk_to p [] next = Some p
walk_to p (c ∷ cs) next = walk_by (move_of p c (head_or next cs)) (λ q. walk_to q cs next)

-- where a token can't be taken, no file of the grammar begins with it and the tokens before it
abbrev pub RefusedIsStuck : Type 0
RefusedIsStuck =
    (front : List Class) (c after : Class) (p : Place) → walk_to places.Start front c ≡ Some p → move_of p c after ≡ None
    → (f : File) → AreClosed f.rows (section f.bounds (classes.End ∷ [])) → (rest : List Class) → file f ≡ front ++ c ∷ rest → ⊥

-- where a token can be taken, some file of the grammar begins with it and the tokens before it
abbrev pub TakenIsViable : Type 0
TakenIsViable =
    (front : List Class) (c after : Class) (p : Place) (m : Move) → walk_to places.Start front c ≡ Some p → move_of p c after ≡ Some m
    → (f : File) × (rest : List Class) × (file f ≡ front ++ c ∷ rest) × AreClosed f.rows (section f.bounds (classes.End ∷ []))
