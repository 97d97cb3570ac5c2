-- Each file of the grammar is taken to its end.
use Rattle.std.proofs.Common.{◌≡◌, Bool, true, false, true≢false, not, ◌&&◌, List, [], ◌∷◌, Option, None, Some, refl, sym, ◌∙◌}
use Rattle.pami_lp_text.specs.declared.kind.Relation.{Relation}
use Rattle.pami_lp_text.specs.declared.kind.Relation.TheVariants as relations
use Rattle.pami_lp_text.specs.declared.kind.Class.{Class}
use Rattle.pami_lp_text.specs.declared.kind.Class.TheVariants as classes
use Rattle.pami_lp.specs.declared.kind.Place.{Place}
use Rattle.pami_lp.specs.declared.kind.Place.TheVariants as places
use Rattle.pami_lp.specs.Moves.{goes_on, agrees, row_name, is_name_class, is_colon_class}
use Rattle.pami_lp.specs.Grammar.{Turn, Plus, Minus, turn, Way, Below, Above, way}
use Rattle.pami_lp.proofs.Shape.{signs, number_before, Term, term, Further, further, terms, Value, value_end, value, label, Side, Right, Left, Both, side, Row, row, rows, Part, Named, Alone, part, Later, later, Goal, Nothing, Parts, goal, rows_word, Bound, Set, From, Between, Freed, bound, bounds, section, head, IsClosed, AreClosed, walk, walk_by, FilesAreTaken}

-- a place where signs change nothing
abbrev Stays : Place → Type 0
Stays p = (t : Turn) (rest : List Class) → walk p (turn t ∷ rest) ≡ walk p rest

signs_stay : (p : Place) → Stays p → (ts : List Turn) (rest : List Class) → walk p (signs ts rest) ≡ walk p rest
signs_stay p stays [] rest = refl
signs_stay p stays (t ∷ ts) rest = stays t (signs ts rest) ∙ signs_stay p stays ts rest

goal_stays : Stays places.GoalSigned
goal_stays Plus rest = refl
goal_stays Minus rest = refl

first_stays : Stays places.RowFirst
first_stays Plus rest = refl
first_stays Minus rest = refl

middle_stays : (l : Option Relation) → Stays (places.RowMiddle l)
middle_stays l Plus rest = refl
middle_stays l Minus rest = refl

right_stays : (r : Relation) → Stays (places.RowValue r)
right_stays r Plus rest = refl
right_stays r Minus rest = refl

bound_stays : Stays places.BoundSigned
bound_stays Plus rest = refl
bound_stays Minus rest = refl

bound_right_stays : (r : Relation) → Stays (places.BoundValue r)
bound_right_stays r Plus rest = refl
bound_right_stays r Minus rest = refl

-- ---- the objective

-- behind a constant no name stands
abbrev Nameless : Class → Type 0
Nameless c = is_name_class c ≡ false

number_goal : (n : Bool) (rest : List Class) → walk places.GoalSigned (number_before n (classes.Name ∷ rest)) ≡ walk places.GoalTerm rest
number_goal true rest = refl
number_goal false rest = refl

alone_goal : (rest : List Class) → Nameless (head rest) → walk places.GoalSigned (classes.Number ∷ rest) ≡ walk places.GoalTerm rest
alone_goal rest n = rw n refl

part_signed : (p : Part) (rest : List Class) → Nameless (head rest) → walk places.GoalSigned (part p rest) ≡ walk places.GoalTerm rest
part_signed (Named t) rest n = signs_stay places.GoalSigned goal_stays t.turns _ ∙ number_goal t.number rest
part_signed (Alone ts) rest n = signs_stay places.GoalSigned goal_stays ts _ ∙ alone_goal rest n

later_nameless : (ls : List Later) (rest : List Class) → Nameless (head rest) → Nameless (head (later ls rest))
later_nameless [] rest n = n
later_nameless (l ∷ ls) rest n = go l.turn
  where
    go : (t : Turn) → Nameless (turn t)
    go Plus = refl
    go Minus = refl

laters : (ls : List Later) (rest : List Class) → Nameless (head rest) → walk places.GoalTerm (later ls rest) ≡ walk places.GoalTerm rest
laters [] rest n = refl
laters (l ∷ ls) rest n = go l.turn ∙ part_signed l.part (later ls rest) (later_nameless ls rest n) ∙ laters ls rest n
  where
    go : (t : Turn) → walk places.GoalTerm (turn t ∷ part l.part (later ls rest)) ≡ walk places.GoalSigned (part l.part (later ls rest))
    go Plus = refl
    go Minus = refl

-- ---- what isn't labelled

abbrev fresh : List Class → Bool
fresh [] = false
fresh (c ∷ cs) = not (is_name_class c && is_colon_class (head cs))

un : (b : Bool) → not b ≡ true → b ≡ false
un true h = absurd (true≢false (sym h))
un false h = refl

goal_unlabelled : (cs : List Class) → fresh cs ≡ true → walk places.GoalHead cs ≡ walk places.GoalFirst cs
goal_unlabelled [] h = absurd (true≢false (sym h))
goal_unlabelled (c ∷ cs) h = rw (un (is_name_class c && is_colon_class (head cs)) h) refl

abbrev Colonless : Class → Type 0
Colonless c = is_colon_class c ≡ false

turn_fresh : (t : Turn) (cs : List Class) → fresh (turn t ∷ cs) ≡ true
turn_fresh Plus cs = refl
turn_fresh Minus cs = refl

name_fresh : (cs : List Class) → Colonless (head cs) → fresh (classes.Name ∷ cs) ≡ true
name_fresh cs h = rw h refl

term_fresh : (ts : List Turn) (n : Bool) (rest : List Class) → Colonless (head rest) → fresh (signs ts (number_before n (classes.Name ∷ rest))) ≡ true
term_fresh (t ∷ ts) n rest h = turn_fresh t (signs ts (number_before n (classes.Name ∷ rest)))
term_fresh [] true rest h = refl
term_fresh [] false rest h = name_fresh rest h

value_fresh : (ts : List Turn) (n : Bool) (rest : List Class) → fresh (signs ts (value_end n ∷ rest)) ≡ true
value_fresh (t ∷ ts) n rest = turn_fresh t (signs ts (value_end n ∷ rest))
value_fresh [] true rest = refl
value_fresh [] false rest = refl

-- ---- the objective's head

part_first : (p : Part) (rest : List Class) → Nameless (head rest) → walk places.GoalFirst (part p rest) ≡ walk places.GoalTerm rest
part_first (Named t) rest n = go t.turns t.number
  where
    go : (ts : List Turn) (b : Bool) → walk places.GoalFirst (signs ts (number_before b (classes.Name ∷ rest))) ≡ walk places.GoalTerm rest
    go [] true = refl
    go [] false = refl
    go (Plus ∷ ts) b = signs_stay places.GoalSigned goal_stays ts _ ∙ number_goal b rest
    go (Minus ∷ ts) b = signs_stay places.GoalSigned goal_stays ts _ ∙ number_goal b rest
part_first (Alone ts) rest n = go ts
  where
    go : (ts : List Turn) → walk places.GoalFirst (signs ts (classes.Number ∷ rest)) ≡ walk places.GoalTerm rest
    go [] = rw n refl
    go (Plus ∷ ts) = signs_stay places.GoalSigned goal_stays ts _ ∙ alone_goal rest n
    go (Minus ∷ ts) = signs_stay places.GoalSigned goal_stays ts _ ∙ alone_goal rest n

word_nameless : (b : Bool) (rest : List Class) → Nameless (head (rows_word b rest))
word_nameless true rest = refl
word_nameless false rest = refl

word_term : (b : Bool) (rest : List Class) → walk places.GoalTerm (rows_word b rest) ≡ walk places.RowHead rest
word_term true rest = refl
word_term false rest = refl

word_first : (b : Bool) (rest : List Class) → walk places.GoalFirst (rows_word b rest) ≡ walk places.RowHead rest
word_first true rest = refl
word_first false rest = refl

goal_first_is : (g : Goal) (b : Bool) (rest : List Class) → walk places.GoalFirst (goal g (rows_word b rest)) ≡ walk places.RowHead rest
goal_first_is Nothing b rest = word_first b rest
goal_first_is (Parts p ls) b rest =
    part_first p (later ls (rows_word b rest)) (later_nameless ls (rows_word b rest) (word_nameless b rest)) ∙ laters ls (rows_word b rest) (word_nameless b rest) ∙ word_term b rest

later_colonless : (ls : List Later) (b : Bool) (rest : List Class) → Colonless (head (later ls (rows_word b rest)))
later_colonless [] true rest = refl
later_colonless [] false rest = refl
later_colonless (l ∷ ls) b rest = go l.turn
  where
    go : (t : Turn) → Colonless (turn t)
    go Plus = refl
    go Minus = refl

goal_fresh : (g : Goal) (b : Bool) (rest : List Class) → fresh (goal g (rows_word b rest)) ≡ true
goal_fresh Nothing true rest = refl
goal_fresh Nothing false rest = refl
goal_fresh (Parts (Named t) ls) b rest = term_fresh t.turns t.number (later ls (rows_word b rest)) (later_colonless ls b rest)
goal_fresh (Parts (Alone ts) ls) b rest = go ts
  where
    go : (ts : List Turn) → fresh (signs ts (classes.Number ∷ later ls (rows_word b rest))) ≡ true
    go [] = refl
    go (t ∷ ts) = turn_fresh t (signs ts (classes.Number ∷ later ls (rows_word b rest)))

objective : (l : Bool) (g : Goal) (b : Bool) (rest : List Class) → walk places.GoalHead (label l (goal g (rows_word b rest))) ≡ walk places.RowHead rest
objective true g b rest = goal_first_is g b rest
objective false g b rest = goal_unlabelled (goal g (rows_word b rest)) (goal_fresh g b rest) ∙ goal_first_is g b rest

-- ---- rows

-- behind the name of a term with this left relation
abbrev behind : Option Relation → List Class → Option Place
behind l rest = walk_by (row_name l (head rest)) (λ q. walk q rest)

term_first : (t : Term) (rest : List Class) → walk places.RowFirst (term t rest) ≡ walk (places.RowTerm None) rest
term_first t rest = signs_stay places.RowFirst first_stays t.turns _ ∙ go t.number
  where
    go : (n : Bool) → walk places.RowFirst (number_before n (classes.Name ∷ rest)) ≡ walk (places.RowTerm None) rest
    go true = refl
    go false = refl

term_middle : (l : Option Relation) (t : Term) (rest : List Class) → walk (places.RowMiddle l) (term t rest) ≡ behind l rest
term_middle l t rest = signs_stay (places.RowMiddle l) (middle_stays l) t.turns _ ∙ go t.number
  where
    go : (n : Bool) → walk (places.RowMiddle l) (number_before n (classes.Name ∷ rest)) ≡ behind l rest
    go true = refl
    go false = refl

further_right : (fs : List Further) (rest : List Class) → walk (places.RowTerm None) (further fs rest) ≡ walk (places.RowTerm None) rest
further_right [] rest = refl
further_right (f ∷ fs) rest = go f.turn ∙ term_middle None f.term (further fs rest) ∙ further_right fs rest
  where
    go : (t : Turn) → walk (places.RowTerm None) (turn t ∷ term f.term (further fs rest)) ≡ walk (places.RowMiddle None) (term f.term (further fs rest))
    go Plus = refl
    go Minus = refl

further_left : (r : Relation) (fs : List Further) (rest : List Class) → behind (Some r) (further fs rest) ≡ behind (Some r) rest
further_left r [] rest = refl
further_left r (f ∷ fs) rest = go f.turn ∙ term_middle (Some r) f.term (further fs rest) ∙ further_left r fs rest
  where
    go : (t : Turn) → behind (Some r) (turn t ∷ term f.term (further fs rest)) ≡ walk (places.RowMiddle (Some r)) (term f.term (further fs rest))
    go Plus = refl
    go Minus = refl

value_right : (r : Relation) (v : Value) (rest : List Class) → walk (places.RowValue r) (value v rest) ≡ walk places.RowHead rest
value_right r v rest = signs_stay (places.RowValue r) (right_stays r) v.turns _ ∙ go v.number
  where
    go : (n : Bool) → walk (places.RowValue r) (value_end n ∷ rest) ≡ walk places.RowHead rest
    go true = refl
    go false = refl

value_left : (v : Value) (r : Relation) (rest : List Class) → walk places.RowFirst (value v (classes.Relation r ∷ rest)) ≡ walk (places.RowMiddle (Some r)) rest
value_left v r rest = signs_stay places.RowFirst first_stays v.turns _ ∙ go v.number
  where
    go : (n : Bool) → walk places.RowFirst (value_end n ∷ classes.Relation r ∷ rest) ≡ walk (places.RowMiddle (Some r)) rest
    go true = refl
    go false = refl

behind_closed : (r : Relation) (rest : List Class) → goes_on r (head rest) ≡ false → behind (Some r) rest ≡ walk places.RowHead rest
behind_closed r rest h = rw h refl

behind_way : (w : Way) (rest : List Class) → behind (Some (way w)) (classes.Relation (way w) ∷ rest) ≡ walk (places.RowValue (way w)) rest
behind_way Below rest = refl
behind_way Above rest = refl

side_first : (s : Side) (rest : List Class) → IsClosed s rest → walk places.RowFirst (side s rest) ≡ walk places.RowHead rest
side_first (Right ts r v) rest h = term_first ts.first _ ∙ further_right ts.more _ ∙ value_right r v rest
side_first (Left v r ts) rest h = value_left v r _ ∙ term_middle (Some r) ts.first _ ∙ further_left r ts.more rest ∙ behind_closed r rest h
side_first (Both v w ts u) rest h = value_left v (way w) _ ∙ term_middle (Some (way w)) ts.first _ ∙ further_left (way w) ts.more _ ∙ behind_way w (value u rest) ∙ value_right (way w) u rest

-- what begins a row begins neither the bounds nor the end
abbrev begins : Class → Bool
begins classes.Plus = true
begins classes.Minus = true
begins classes.Number = true
begins classes.Infinity = true
begins classes.Name = true
begins c = false

row_unlabelled : (cs : List Class) → fresh cs ≡ true → begins (head cs) ≡ true → walk places.RowHead cs ≡ walk places.RowFirst cs
row_unlabelled [] h k = absurd (true≢false (sym h))
row_unlabelled (classes.Plus ∷ cs) h k = refl
row_unlabelled (classes.Minus ∷ cs) h k = refl
row_unlabelled (classes.Number ∷ cs) h k = refl
row_unlabelled (classes.Infinity ∷ cs) h k = refl
row_unlabelled (classes.Name ∷ cs) h k = rw (un (is_colon_class (head cs)) h) refl
row_unlabelled (other ∷ cs) h k = absurd (true≢false (sym k))

term_begins : (ts : List Turn) (n : Bool) (rest : List Class) → begins (head (signs ts (number_before n (classes.Name ∷ rest)))) ≡ true
term_begins (Plus ∷ ts) n rest = refl
term_begins (Minus ∷ ts) n rest = refl
term_begins [] true rest = refl
term_begins [] false rest = refl

value_begins : (ts : List Turn) (n : Bool) (rest : List Class) → begins (head (signs ts (value_end n ∷ rest))) ≡ true
value_begins (Plus ∷ ts) n rest = refl
value_begins (Minus ∷ ts) n rest = refl
value_begins [] true rest = refl
value_begins [] false rest = refl

further_colonless : (fs : List Further) (r : Relation) (rest : List Class) → Colonless (head (further fs (classes.Relation r ∷ rest)))
further_colonless [] r rest = refl
further_colonless (f ∷ fs) r rest = go f.turn
  where
    go : (t : Turn) → Colonless (turn t)
    go Plus = refl
    go Minus = refl

side_head : (s : Side) (rest : List Class) → walk places.RowHead (side s rest) ≡ walk places.RowFirst (side s rest)
side_head (Right ts r v) rest =
    row_unlabelled (side (Right ts r v) rest) (term_fresh ts.first.turns ts.first.number (further ts.more (classes.Relation r ∷ value v rest)) (further_colonless ts.more r (value v rest))) (term_begins ts.first.turns ts.first.number (further ts.more (classes.Relation r ∷ value v rest)))
side_head (Left v r ts) rest = row_unlabelled (side (Left v r ts) rest) (value_fresh v.turns v.number (classes.Relation r ∷ terms ts rest)) (value_begins v.turns v.number (classes.Relation r ∷ terms ts rest))
side_head (Both v w ts u) rest =
    row_unlabelled (side (Both v w ts u) rest) (value_fresh v.turns v.number (classes.Relation (way w) ∷ terms ts (classes.Relation (way w) ∷ value u rest))) (value_begins v.turns v.number (classes.Relation (way w) ∷ terms ts (classes.Relation (way w) ∷ value u rest)))

one_row : (r : Row) (rest : List Class) → IsClosed r.side rest → walk places.RowHead (row r rest) ≡ walk places.RowHead rest
one_row r rest h = go r.label
  where
    go : (l : Bool) → walk places.RowHead (label l (side r.side rest)) ≡ walk places.RowHead rest
    go true = side_first r.side rest h
    go false = side_head r.side rest ∙ side_first r.side rest h

all_rows : (rs : List Row) (rest : List Class) → AreClosed rs rest → walk places.RowHead (rows rs rest) ≡ walk places.RowHead rest
all_rows [] rest h = refl
all_rows (r ∷ rs) rest h = one_row r (rows rs rest) h.0 ∙ all_rows rs rest h.1

-- ---- bounds

bound_value_right : (r : Relation) (v : Value) (rest : List Class) → walk (places.BoundValue r) (value v rest) ≡ walk places.BoundHead rest
bound_value_right r v rest = signs_stay (places.BoundValue r) (bound_right_stays r) v.turns _ ∙ go v.number
  where
    go : (n : Bool) → walk (places.BoundValue r) (value_end n ∷ rest) ≡ walk places.BoundHead rest
    go true = refl
    go false = refl

bound_end : (n : Bool) (r : Relation) (rest : List Class) → walk places.BoundSigned (value_end n ∷ classes.Relation r ∷ rest) ≡ walk (places.BoundName r) rest
bound_end true r rest = refl
bound_end false r rest = refl

bound_value_left : (v : Value) (r : Relation) (rest : List Class) → walk places.BoundHead (value v (classes.Relation r ∷ rest)) ≡ walk (places.BoundName r) rest
bound_value_left v r rest = go v.turns v.number
  where
    go : (ts : List Turn) (n : Bool) → walk places.BoundHead (signs ts (value_end n ∷ classes.Relation r ∷ rest)) ≡ walk (places.BoundName r) rest
    go [] true = refl
    go [] false = refl
    go (Plus ∷ ts) n = signs_stay places.BoundSigned bound_stays ts _ ∙ bound_end n r rest
    go (Minus ∷ ts) n = signs_stay places.BoundSigned bound_stays ts _ ∙ bound_end n r rest

-- the next bound, or the end, begins with no relation
abbrev Alone-at : Relation → Class → Type 0
Alone-at r c = agrees r c ≡ false

abbrev no_relation : Class → Bool
no_relation (classes.Relation r) = false
no_relation c = true

disagree : (r : Relation) (c : Class) → no_relation c ≡ true → Alone-at r c
disagree relations.Equal c h = refl
disagree relations.AtMost (classes.Relation q) h = absurd (true≢false (sym h))
disagree relations.AtMost k h = refl
disagree relations.AtLeast (classes.Relation q) h = absurd (true≢false (sym h))
disagree relations.AtLeast k h = refl

bounds_begin : (bs : List Bound) → no_relation (head (bounds bs (classes.End ∷ []))) ≡ true
bounds_begin [] = refl
bounds_begin (Set r v ∷ bs) = refl
bounds_begin (From v r ∷ bs) = value_no v.turns v.number (classes.Relation r ∷ classes.Name ∷ bounds bs (classes.End ∷ []))
  where
    value_no : (ts : List Turn) (n : Bool) (rest : List Class) → no_relation (head (signs ts (value_end n ∷ rest))) ≡ true
    value_no (Plus ∷ ts) n rest = refl
    value_no (Minus ∷ ts) n rest = refl
    value_no [] true rest = refl
    value_no [] false rest = refl
bounds_begin (Between v w u ∷ bs) = value_no v.turns v.number (classes.Relation (way w) ∷ classes.Name ∷ classes.Relation (way w) ∷ value u (bounds bs (classes.End ∷ [])))
  where
    value_no : (ts : List Turn) (n : Bool) (rest : List Class) → no_relation (head (signs ts (value_end n ∷ rest))) ≡ true
    value_no (Plus ∷ ts) n rest = refl
    value_no (Minus ∷ ts) n rest = refl
    value_no [] true rest = refl
    value_no [] false rest = refl
bounds_begin (Freed ∷ bs) = refl

name_closed : (r : Relation) (rest : List Class) → Alone-at r (head rest) → walk (places.BoundName r) (classes.Name ∷ rest) ≡ walk places.BoundHead rest
name_closed r rest h = rw h refl

name_between : (w : Way) (rest : List Class) → walk (places.BoundName (way w)) (classes.Name ∷ classes.Relation (way w) ∷ rest) ≡ walk (places.BoundValue (way w)) rest
name_between Below rest = refl
name_between Above rest = refl

one_bound : (b : Bound) (rest : List Class) → no_relation (head rest) ≡ true → walk places.BoundHead (bound b rest) ≡ walk places.BoundHead rest
one_bound (Set r v) rest h = bound_value_right r v rest
one_bound (From v r) rest h = bound_value_left v r _ ∙ name_closed r rest (disagree r (head rest) h)
one_bound (Between v w u) rest h = bound_value_left v (way w) _ ∙ name_between w (value u rest) ∙ bound_value_right (way w) u rest
one_bound Freed rest h = refl

all_bounds : (bs : List Bound) → walk places.BoundHead (bounds bs (classes.End ∷ [])) ≡ Some places.End
all_bounds [] = refl
all_bounds (b ∷ bs) = one_bound b (bounds bs (classes.End ∷ [])) (bounds_begin bs) ∙ all_bounds bs

last_part : (b : Option (List Bound)) → walk places.RowHead (section b (classes.End ∷ [])) ≡ Some places.End
last_part None = refl
last_part (Some bs) = all_bounds bs

pub files_taken : FilesAreTaken
files_taken f h = objective f.label f.goal f.pair (rows f.rows (section f.bounds (classes.End ∷ []))) ∙ all_rows f.rows (section f.bounds (classes.End ∷ [])) h ∙ last_part f.bounds
