-- The shape of a file of the grammar: the same tree without texts, written as the classes of its items.
use Rattle.std.proofs.Common.{◌≡◌, ℕ, Bool, true, false, List, [], ◌∷◌, map, Option, None, Some, is_some, refl, sym, ap, ◌∙◌}
use Rattle.pami_lp_text.specs.declared.kind.Class.{Class}
use Rattle.pami_lp_text.specs.declared.kind.Class.TheVariants as classes
use Rattle.pami_lp.specs.Grammar.{Item, head, Turn, turn, signs, number_before, Term, term, Further, further, Terms, terms, Size, Number, Infinity, size, Value, value, label, way, Side, Right, Left, Both, side, Row, rows, Part, Named, Alone, part, Later, later, Goal, Nothing, Parts, goal, rows_word, Bound, Set, From, Between, Freed, bound, bounds, section, ending, File, file, goes_on, IsClosed, AreClosed, IsClosedFile}
use Rattle.pami_lp.proofs.Shape as shape

abbrev pub classes_in : List Item → List Class
classes_in is = map (λ (i : Item). i.class) is

-- ---- shapes

abbrev pub term_shape : Term → shape.Term
term_shape t = record { turns = t.turns; number = is_some t.number }

abbrev pub further_shape : List Further → List shape.Further
further_shape [] = []
further_shape (f ∷ fs) = record { turn = f.turn; term = term_shape f.term } ∷ further_shape fs

abbrev pub terms_shape : Terms → shape.Terms
terms_shape t = record { first = term_shape t.first; more = further_shape t.more }

abbrev pub is_number : Size → Bool
is_number (Number text) = true
is_number (Infinity text) = false

abbrev pub value_shape : Value → shape.Value
value_shape v = record { turns = v.turns; number = is_number v.size }

abbrev pub side_shape : Side → shape.Side
side_shape (Right ts r v) = shape.Right (terms_shape ts) r (value_shape v)
side_shape (Left v r ts) = shape.Left (value_shape v) r (terms_shape ts)
side_shape (Both v w ts u) = shape.Both (value_shape v) w (terms_shape ts) (value_shape u)

abbrev pub rows_shape : List Row → List shape.Row
rows_shape [] = []
rows_shape (r ∷ rs) = record { label = is_some r.label; side = side_shape r.side } ∷ rows_shape rs

abbrev pub part_shape : Part → shape.Part
part_shape (Named t) = shape.Named (term_shape t)
part_shape (Alone ts text) = shape.Alone ts

abbrev pub later_shape : List Later → List shape.Later
later_shape [] = []
later_shape (l ∷ ls) = record { turn = l.turn; part = part_shape l.part } ∷ later_shape ls

abbrev pub goal_shape : Goal → shape.Goal
goal_shape Nothing = shape.Nothing
goal_shape (Parts p ls) = shape.Parts (part_shape p) (later_shape ls)

abbrev pub bound_shape : Bound → shape.Bound
bound_shape (Set name r v) = shape.Set r (value_shape v)
bound_shape (From v r name) = shape.From (value_shape v) r
bound_shape (Between v w name u) = shape.Between (value_shape v) w (value_shape u)
bound_shape (Freed name) = shape.Freed

abbrev pub bounds_shape : List Bound → List shape.Bound
bounds_shape [] = []
bounds_shape (b ∷ bs) = bound_shape b ∷ bounds_shape bs

abbrev pub section_shape : Option (List Bound) → Option (List shape.Bound)
section_shape None = None
section_shape (Some bs) = Some (bounds_shape bs)

abbrev pub file_shape : File → shape.File
file_shape f = record { sense = f.sense; label = is_some f.label; goal = goal_shape f.goal; pair = is_some f.second; rows = rows_shape f.rows; bounds = section_shape f.bounds }

-- ---- the classes of the items are the shape's

on : (c : Class) {cs ds : List Class} → cs ≡ ds → c ∷ cs ≡ c ∷ ds
on c e = ap (λ (xs : List Class). c ∷ xs) e

signs_are : (ts : List Turn) (rest : List Item) (cs : List Class) → classes_in rest ≡ cs → classes_in (signs ts rest) ≡ shape.signs ts cs
signs_are [] rest cs e = e
signs_are (t ∷ ts) rest cs e = on (turn t) (signs_are ts rest cs e)

number_is : (number : Option (List ℕ)) (rest : List Item) (cs : List Class) → classes_in rest ≡ cs → classes_in (number_before number rest) ≡ shape.number_before (is_some number) cs
number_is (Some text) rest cs e = on classes.Number e
number_is None rest cs e = e

term_is : (t : Term) (rest : List Item) (cs : List Class) → classes_in rest ≡ cs → classes_in (term t rest) ≡ shape.term (term_shape t) cs
term_is t rest cs e = signs_are t.turns _ _ (number_is t.number _ _ (on classes.Name e))

further_is : (fs : List Further) (rest : List Item) (cs : List Class) → classes_in rest ≡ cs → classes_in (further fs rest) ≡ shape.further (further_shape fs) cs
further_is [] rest cs e = e
further_is (f ∷ fs) rest cs e = on (turn f.turn) (term_is f.term _ _ (further_is fs rest cs e))

terms_is : (t : Terms) (rest : List Item) (cs : List Class) → classes_in rest ≡ cs → classes_in (terms t rest) ≡ shape.terms (terms_shape t) cs
terms_is t rest cs e = term_is t.first _ _ (further_is t.more rest cs e)

size_is : (z : Size) (rest : List Item) (cs : List Class) → classes_in rest ≡ cs → classes_in (size z ∷ rest) ≡ shape.value_end (is_number z) ∷ cs
size_is (Number text) rest cs e = on classes.Number e
size_is (Infinity text) rest cs e = on classes.Infinity e

value_is : (v : Value) (rest : List Item) (cs : List Class) → classes_in rest ≡ cs → classes_in (value v rest) ≡ shape.value (value_shape v) cs
value_is v rest cs e = signs_are v.turns _ _ (size_is v.size rest cs e)

label_is : (l : Option (List ℕ)) (rest : List Item) (cs : List Class) → classes_in rest ≡ cs → classes_in (label l rest) ≡ shape.label (is_some l) cs
label_is (Some name) rest cs e = on classes.Name (on classes.Colon e)
label_is None rest cs e = e

side_is : (s : Side) (rest : List Item) (cs : List Class) → classes_in rest ≡ cs → classes_in (side s rest) ≡ shape.side (side_shape s) cs
side_is (Right ts r v) rest cs e = terms_is ts _ _ (on (classes.Relation r) (value_is v rest cs e))
side_is (Left v r ts) rest cs e = value_is v _ _ (on (classes.Relation r) (terms_is ts rest cs e))
side_is (Both v w ts u) rest cs e = value_is v _ _ (on (classes.Relation (way w)) (terms_is ts _ _ (on (classes.Relation (way w)) (value_is u rest cs e))))

rows_are : (rs : List Row) (rest : List Item) (cs : List Class) → classes_in rest ≡ cs → classes_in (rows rs rest) ≡ shape.rows (rows_shape rs) cs
rows_are [] rest cs e = e
rows_are (r ∷ rs) rest cs e = label_is r.label _ _ (side_is r.side _ _ (rows_are rs rest cs e))

part_is : (p : Part) (rest : List Item) (cs : List Class) → classes_in rest ≡ cs → classes_in (part p rest) ≡ shape.part (part_shape p) cs
part_is (Named t) rest cs e = term_is t rest cs e
part_is (Alone ts text) rest cs e = signs_are ts _ _ (on classes.Number e)

later_is : (ls : List Later) (rest : List Item) (cs : List Class) → classes_in rest ≡ cs → classes_in (later ls rest) ≡ shape.later (later_shape ls) cs
later_is [] rest cs e = e
later_is (l ∷ ls) rest cs e = on (turn l.turn) (part_is l.part _ _ (later_is ls rest cs e))

goal_is : (g : Goal) (rest : List Item) (cs : List Class) → classes_in rest ≡ cs → classes_in (goal g rest) ≡ shape.goal (goal_shape g) cs
goal_is Nothing rest cs e = e
goal_is (Parts p ls) rest cs e = part_is p _ _ (later_is ls rest cs e)

word_is : (w : Option (List ℕ)) (rest : List Item) (cs : List Class) → classes_in rest ≡ cs → classes_in (rows_word w rest) ≡ shape.rows_word (is_some w) cs
word_is (Some second) rest cs e = on classes.RowsPair (on classes.Name e)
word_is None rest cs e = on classes.Rows e

bound_is : (b : Bound) (rest : List Item) (cs : List Class) → classes_in rest ≡ cs → classes_in (bound b rest) ≡ shape.bound (bound_shape b) cs
bound_is (Set name r v) rest cs e = on classes.Name (on (classes.Relation r) (value_is v rest cs e))
bound_is (From v r name) rest cs e = value_is v _ _ (on (classes.Relation r) (on classes.Name e))
bound_is (Between v w name u) rest cs e = value_is v _ _ (on (classes.Relation (way w)) (on classes.Name (on (classes.Relation (way w)) (value_is u rest cs e))))
bound_is (Freed name) rest cs e = on classes.Name (on classes.Free e)

bounds_are : (bs : List Bound) (rest : List Item) (cs : List Class) → classes_in rest ≡ cs → classes_in (bounds bs rest) ≡ shape.bounds (bounds_shape bs) cs
bounds_are [] rest cs e = e
bounds_are (b ∷ bs) rest cs e = bound_is b _ _ (bounds_are bs rest cs e)

section_is : (bs : Option (List Bound)) (rest : List Item) (cs : List Class) → classes_in rest ≡ cs → classes_in (section bs rest) ≡ shape.section (section_shape bs) cs
section_is None rest cs e = e
section_is (Some bs) rest cs e = on classes.Bounds (bounds_are bs rest cs e)

ending_is : (bs : Option (List Bound)) → classes_in (ending bs []) ≡ shape.section (section_shape bs) (classes.End ∷ [])
ending_is bs = section_is bs _ _ refl

pub file_is : (f : File) → classes_in (file f []) ≡ shape.file (file_shape f)
file_is f = on (classes.Goal f.sense) (label_is f.label _ _ (goal_is f.goal _ _ (word_is f.second _ _ (rows_are f.rows _ _ (ending_is f.bounds)))))

-- ---- rows take tokens as long as they can, in both

pub head_is : (is : List Item) → shape.head (classes_in is) ≡ head is
head_is [] = refl
head_is (i ∷ is) = refl

side_closed : (s : Side) (rest : List Item) (cs : List Class) → classes_in rest ≡ cs → IsClosed s rest → shape.IsClosed (side_shape s) cs
side_closed (Right ts r v) rest cs e h = h
side_closed (Left v r ts) rest cs e h = ap (λ (c : Class). goes_on r c) (ap shape.head (sym e) ∙ head_is rest) ∙ h
side_closed (Both v w ts u) rest cs e h = h

rows_closed : (rs : List Row) (rest : List Item) (cs : List Class) → classes_in rest ≡ cs → AreClosed rs rest → shape.AreClosed (rows_shape rs) cs
rows_closed [] rest cs e h = h
rows_closed (r ∷ rs) rest cs e h = (side_closed r.side (rows rs rest) (shape.rows (rows_shape rs) cs) (rows_are rs rest cs e) h.0, rows_closed rs rest cs e h.1)

pub file_closed : (f : File) → IsClosedFile f [] → shape.AreClosed (file_shape f).rows (shape.section (file_shape f).bounds (classes.End ∷ []))
file_closed f h = rows_closed f.rows (ending f.bounds []) _ (ending_is f.bounds) h
