-- What is left to be written from a place on.
use Rattle.std.proofs.Common.{◌≡◌, Bool, true, false, true≢false, List, [], ◌∷◌, Option, None, Some, refl, sym, ap, subst, ◌∙◌}
use Rattle.pami_model.specs.declared.model.Sense.{Sense}
use Rattle.pami_lp_text.specs.declared.kind.Relation.{Relation}
use Rattle.pami_lp_text.specs.declared.kind.Relation.TheVariants as relations
use Rattle.pami_lp_text.specs.declared.kind.Class.{Class}
use Rattle.pami_lp_text.specs.declared.kind.Class.TheVariants as classes
use Rattle.pami_lp.specs.declared.kind.Place.{Place}
use Rattle.pami_lp.specs.declared.kind.Place.TheVariants as places
use Rattle.pami_lp.specs.Moves.{goes_on, agrees}
use Rattle.pami_lp.specs.Outcome.{is_end}
use Rattle.pami_lp.specs.Grammar.{Turn, turn, Way, Below, Above, way}
use Rattle.pami_lp.proofs.Shape.{number_before, Term, term, Further, further, Value, value_end, value, label, Side, Right, Left, Both, side, Row, rows, Part, Named, Alone, part, Later, later, Goal, Nothing, Parts, goal, rows_word, Bound, Set, From, Between, Freed, bounds, section, File, file, head, IsClosed, AreClosed}

abbrev pub end_of : Option Place → Bool
end_of (Some p) = is_end p
end_of None = false

abbrev pub last : List Class
last = classes.End ∷ []

pub record RowsIs (cs : List Class) : Type 0 where
  pub rs : List Row
  pub bs : Option (List Bound)
  pub is : cs ≡ rows rs (section bs last)
  pub closed : AreClosed rs (section bs last)

pub record Tail (cs : List Class) : Type 0 where
  pub pair : Bool
  pub more : List Class
  pub is : cs ≡ rows_word pair more
  pub rest : RowsIs more

pub record LaterIs (cs : List Class) : Type 0 where
  pub ls : List Later
  pub tail : List Class
  pub is : cs ≡ later ls tail
  pub rest : Tail tail

pub record PartIs (cs : List Class) : Type 0 where
  pub p : Part
  pub ls : List Later
  pub tail : List Class
  pub is : cs ≡ part p (later ls tail)
  pub rest : Tail tail

pub record GoalNameIs (cs : List Class) : Type 0 where
  pub ls : List Later
  pub tail : List Class
  pub is : cs ≡ classes.Name ∷ later ls tail
  pub rest : Tail tail

pub record GoalIs (cs : List Class) : Type 0 where
  pub g : Goal
  pub tail : List Class
  pub is : cs ≡ goal g tail
  pub rest : Tail tail

pub record HeadIs (cs : List Class) : Type 0 where
  pub l : Bool
  pub g : Goal
  pub tail : List Class
  pub is : cs ≡ label l (goal g tail)
  pub rest : Tail tail

pub record GoalColonIs (cs : List Class) : Type 0 where
  pub g : Goal
  pub tail : List Class
  pub is : cs ≡ classes.Colon ∷ goal g tail
  pub rest : Tail tail

pub record SecondIs (cs : List Class) : Type 0 where
  pub more : List Class
  pub is : cs ≡ classes.Name ∷ more
  pub rest : RowsIs more

pub record SideIs (cs : List Class) : Type 0 where
  pub s : Side
  pub after : List Class
  pub is : cs ≡ side s after
  pub closed : IsClosed s after
  pub rest : RowsIs after

pub record RowColonIs (cs : List Class) : Type 0 where
  pub s : Side
  pub after : List Class
  pub is : cs ≡ classes.Colon ∷ side s after
  pub closed : IsClosed s after
  pub rest : RowsIs after

pub record ValueIs (cs : List Class) : Type 0 where
  pub v : Value
  pub after : List Class
  pub is : cs ≡ value v after
  pub rest : RowsIs after

-- what stands behind the terms of a row with this left relation
pub data TailOf (l : Option Relation) (cs : List Class) : Type 0 where
  Righted : (r : Relation) → (v : Value) → (after : List Class) → l ≡ None → cs ≡ classes.Relation r ∷ value v after → RowsIs after → TailOf l cs
  Ended : (r : Relation) → l ≡ Some r → goes_on r (head cs) ≡ false → RowsIs cs → TailOf l cs
  Twice : (w : Way) → (u : Value) → (after : List Class) → l ≡ Some (way w) → cs ≡ classes.Relation (way w) ∷ value u after → RowsIs after → TailOf l cs

pub record TermsIs (l : Option Relation) (cs : List Class) : Type 0 where
  pub t : Term
  pub fs : List Further
  pub tail : List Class
  pub is : cs ≡ term t (further fs tail)
  pub rest : TailOf l tail

pub record NameIs (l : Option Relation) (cs : List Class) : Type 0 where
  pub fs : List Further
  pub tail : List Class
  pub is : cs ≡ classes.Name ∷ further fs tail
  pub rest : TailOf l tail

pub record FurtherIs (l : Option Relation) (cs : List Class) : Type 0 where
  pub fs : List Further
  pub tail : List Class
  pub is : cs ≡ further fs tail
  pub rest : TailOf l tail

pub record LeftIs (cs : List Class) : Type 0 where
  pub r : Relation
  pub t : Term
  pub fs : List Further
  pub tail : List Class
  pub is : cs ≡ classes.Relation r ∷ term t (further fs tail)
  pub rest : TailOf (Some r) tail

pub record BoundsIs (cs : List Class) : Type 0 where
  pub bs : List Bound
  pub is : cs ≡ bounds bs last

pub record BoundValueIs (cs : List Class) : Type 0 where
  pub v : Value
  pub bs : List Bound
  pub is : cs ≡ value v (bounds bs last)

pub data AfterValue (cs : List Class) : Type 0 where
  Once : (r : Relation) → (bs : List Bound) → cs ≡ classes.Relation r ∷ classes.Name ∷ bounds bs last → AfterValue cs
  Two : (w : Way) → (u : Value) → (bs : List Bound) → cs ≡ classes.Relation (way w) ∷ classes.Name ∷ classes.Relation (way w) ∷ value u (bounds bs last) → AfterValue cs

pub record BoundSignedIs (cs : List Class) : Type 0 where
  pub v : Value
  pub after : List Class
  pub is : cs ≡ value v after
  pub rest : AfterValue after

pub data BoundNameIs (r : Relation) (cs : List Class) : Type 0 where
  NamedOnce : (bs : List Bound) → cs ≡ classes.Name ∷ bounds bs last → BoundNameIs r cs
  NamedTwo : (w : Way) → (u : Value) → (bs : List Bound) → r ≡ way w → cs ≡ classes.Name ∷ classes.Relation (way w) ∷ value u (bounds bs last) → BoundNameIs r cs

pub record BoundAgainIs (cs : List Class) : Type 0 where
  pub r : Relation
  pub v : Value
  pub bs : List Bound
  pub is : cs ≡ classes.Relation r ∷ value v (bounds bs last)

pub data BoundColumnIs (cs : List Class) : Type 0 where
  Sets : (r : Relation) → (v : Value) → (bs : List Bound) → cs ≡ classes.Relation r ∷ value v (bounds bs last) → BoundColumnIs cs
  Frees : (bs : List Bound) → cs ≡ classes.Free ∷ bounds bs last → BoundColumnIs cs

pub record FileIs (cs : List Class) : Type 0 where
  pub f : File
  pub is : cs ≡ file f
  pub closed : AreClosed f.rows (section f.bounds last)

-- what is left to be written from a place
abbrev pub Rest : Place → List Class → Type 0
Rest places.Start cs = FileIs cs
Rest places.GoalHead cs = HeadIs cs
Rest places.GoalColon cs = GoalColonIs cs
Rest places.GoalFirst cs = GoalIs cs
Rest places.GoalSigned cs = PartIs cs
Rest places.GoalNumber cs = GoalNameIs cs
Rest places.GoalTerm cs = LaterIs cs
Rest places.RowsSecond cs = SecondIs cs
Rest places.RowHead cs = RowsIs cs
Rest places.RowColon cs = RowColonIs cs
Rest places.RowFirst cs = SideIs cs
Rest places.RowLeft cs = LeftIs cs
Rest (places.RowMiddle l) cs = TermsIs l cs
Rest (places.RowNumber l) cs = NameIs l cs
Rest (places.RowTerm l) cs = FurtherIs l cs
Rest (places.RowValue r) cs = ValueIs cs
Rest places.BoundHead cs = BoundsIs cs
Rest places.BoundSigned cs = BoundSignedIs cs
Rest places.BoundLeft cs = AfterValue cs
Rest (places.BoundName r) cs = BoundNameIs r cs
Rest places.BoundAgain cs = BoundAgainIs cs
Rest places.BoundColumn cs = BoundColumnIs cs
Rest (places.BoundValue r) cs = BoundValueIs cs
Rest places.End cs = cs ≡ []

-- ---- one token in front

pub on : (c : Class) {cs ds : List Class} → cs ≡ ds → c ∷ cs ≡ c ∷ ds
on c e = ap (λ (xs : List Class). c ∷ xs) e

pub part_turn : (t : Turn) (cs : List Class) → PartIs cs → PartIs (turn t ∷ cs)
part_turn t cs i = go i.p i.is
  where
    go : (p : Part) → cs ≡ part p (later i.ls i.tail) → PartIs (turn t ∷ cs)
    go (Named u) e = record { p = Named (record { turns = t ∷ u.turns; number = u.number }); ls = i.ls; tail = i.tail; is = on (turn t) e; rest = i.rest }
    go (Alone ts) e = record { p = Alone (t ∷ ts); ls = i.ls; tail = i.tail; is = on (turn t) e; rest = i.rest }

pub later_turn : (t : Turn) (cs : List Class) → PartIs cs → LaterIs (turn t ∷ cs)
later_turn t cs i = record { ls = record { turn = t; part = i.p } ∷ i.ls; tail = i.tail; is = on (turn t) i.is; rest = i.rest }

pub goal_turn : (t : Turn) (cs : List Class) → PartIs cs → GoalIs (turn t ∷ cs)
goal_turn t cs i = let j = part_turn t cs i in record { g = Parts j.p j.ls; tail = j.tail; is = j.is; rest = j.rest }

pub part_number : (cs : List Class) → GoalNameIs cs → PartIs (classes.Number ∷ cs)
part_number cs i = record { p = Named (record { turns = []; number = true }); ls = i.ls; tail = i.tail; is = on classes.Number i.is; rest = i.rest }

pub part_alone : (cs : List Class) → LaterIs cs → PartIs (classes.Number ∷ cs)
part_alone cs i = record { p = Alone []; ls = i.ls; tail = i.tail; is = on classes.Number i.is; rest = i.rest }

pub part_name : (cs : List Class) → LaterIs cs → PartIs (classes.Name ∷ cs)
part_name cs i = record { p = Named (record { turns = []; number = false }); ls = i.ls; tail = i.tail; is = on classes.Name i.is; rest = i.rest }

pub goal_part : (cs : List Class) → PartIs cs → GoalIs cs
goal_part cs j = record { g = Parts j.p j.ls; tail = j.tail; is = j.is; rest = j.rest }

pub tail_rows : (cs : List Class) → RowsIs cs → Tail (classes.Rows ∷ cs)
tail_rows cs i = record { pair = false; more = cs; is = refl; rest = i }

pub tail_pair : (cs : List Class) → SecondIs cs → Tail (classes.RowsPair ∷ cs)
tail_pair cs i = record { pair = true; more = i.more; is = on classes.RowsPair i.is; rest = i.rest }

pub goal_tail : (cs : List Class) → Tail cs → GoalIs cs
goal_tail cs i = record { g = Nothing; tail = cs; is = refl; rest = i }

pub later_tail : (cs : List Class) → Tail cs → LaterIs cs
later_tail cs i = record { ls = []; tail = cs; is = refl; rest = i }

pub head_goal : (cs : List Class) → GoalIs cs → HeadIs cs
head_goal cs i = record { l = false; g = i.g; tail = i.tail; is = i.is; rest = i.rest }

pub head_label : (cs : List Class) → GoalColonIs cs → HeadIs (classes.Name ∷ cs)
head_label cs i = record { l = true; g = i.g; tail = i.tail; is = on classes.Name i.is; rest = i.rest }

-- rows

pub side_turn : (t : Turn) (cs : List Class) → SideIs cs → SideIs (turn t ∷ cs)
side_turn t cs i = go i.s i.is i.closed
  where
    turned : Term → Term
    turned u = record { turns = t ∷ u.turns; number = u.number }

    valued : Value → Value
    valued v = record { turns = t ∷ v.turns; number = v.number }

    go : (s : Side) → cs ≡ side s i.after → IsClosed s i.after → SideIs (turn t ∷ cs)
    go (Right ts r v) e c = record { s = Right (record { first = record { turns = t ∷ ts.first.turns; number = ts.first.number }; more = ts.more }) r v; after = i.after; is = on (turn t) e; closed = tt; rest = i.rest }
    go (Left v r ts) e c = record { s = Left (record { turns = t ∷ v.turns; number = v.number }) r ts; after = i.after; is = on (turn t) e; closed = c; rest = i.rest }
    go (Both v w ts u) e c = record { s = Both (record { turns = t ∷ v.turns; number = v.number }) w ts u; after = i.after; is = on (turn t) e; closed = tt; rest = i.rest }

abbrev pub is_none : Option Relation → Bool
is_none None = true
is_none (Some r) = false

pub side_right : (n : Bool) (cs : List Class) (fs : List Further) (tail : List Class) → cs ≡ number_before n (classes.Name ∷ further fs tail) → TailOf None tail → SideIs cs
side_right n cs fs tail e (Righted r v after l k rest) = go n e
  where
    go : (n : Bool) → cs ≡ number_before n (classes.Name ∷ further fs tail) → SideIs cs
    go true e = record { s = Right (record { first = record { turns = []; number = true }; more = fs }) r v; after = after; is = e ∙ ap (λ (xs : List Class). classes.Number ∷ classes.Name ∷ further fs xs) k; closed = tt; rest = rest }
    go false e = record { s = Right (record { first = record { turns = []; number = false }; more = fs }) r v; after = after; is = e ∙ ap (λ (xs : List Class). classes.Name ∷ further fs xs) k; closed = tt; rest = rest }
side_right n cs fs tail e (Ended r l g rest) = absurd (true≢false (ap is_none l))
side_right n cs fs tail e (Twice w u after l k rest) = absurd (true≢false (ap is_none l))

abbrev pub relation_in : Relation → Option Relation → Relation
relation_in d None = d
relation_in d (Some r) = r

pub side_left : (n : Bool) (cs : List Class) → LeftIs cs → SideIs (value_end n ∷ cs)
side_left n cs i = go i.rest
  where
    go : TailOf (Some i.r) i.tail → SideIs (value_end n ∷ cs)
    go (Righted r v after l k rest) = absurd (true≢false (sym (ap is_none l)))
    go (Ended r l g rest) = record { s = Left (record { turns = []; number = n }) i.r (record { first = i.t; more = i.fs }); after = i.tail; is = on (value_end n) i.is; closed = ap (λ (q : Relation). goes_on q (head i.tail)) (ap (relation_in i.r) l) ∙ g; rest = rest }
    go (Twice w u after l k rest) = record { s = Both (record { turns = []; number = n }) w (record { first = i.t; more = i.fs }) u; after = after; is = on (value_end n) (i.is ∙ ap (λ (q : Relation). classes.Relation q ∷ term i.t (further i.fs i.tail)) (ap (relation_in i.r) l) ∙ ap (λ (xs : List Class). classes.Relation (way w) ∷ term i.t (further i.fs xs)) k); closed = tt; rest = rest }

pub row_of : (l : Bool) (cs : List Class) (s : Side) (after : List Class) → cs ≡ label l (side s after) → IsClosed s after → RowsIs after → RowsIs cs
row_of l cs s after e c i = record { rs = record { label = l; side = s } ∷ i.rs; bs = i.bs; is = e ∙ ap (λ (xs : List Class). label l (side s xs)) i.is; closed = (subst (IsClosed s) i.is c, i.closed) }

pub rows_side : (cs : List Class) → SideIs cs → RowsIs cs
rows_side cs i = row_of false cs i.s i.after i.is i.closed i.rest

pub rows_label : (cs : List Class) → RowColonIs cs → RowsIs (classes.Name ∷ cs)
rows_label cs i = row_of true (classes.Name ∷ cs) i.s i.after (on classes.Name i.is) i.closed i.rest

pub rows_bounds : (cs : List Class) → BoundsIs cs → RowsIs (classes.Bounds ∷ cs)
rows_bounds cs i = record { rs = []; bs = Some i.bs; is = on classes.Bounds i.is; closed = tt }

pub rows_end : (cs : List Class) → cs ≡ [] → RowsIs (classes.End ∷ cs)
rows_end cs e = record { rs = []; bs = None; is = on classes.End e; closed = tt }

pub value_turn : (t : Turn) (cs : List Class) → ValueIs cs → ValueIs (turn t ∷ cs)
value_turn t cs i = record { v = record { turns = t ∷ i.v.turns; number = i.v.number }; after = i.after; is = on (turn t) i.is; rest = i.rest }

pub value_last : (n : Bool) (cs : List Class) → RowsIs cs → ValueIs (value_end n ∷ cs)
value_last n cs i = record { v = record { turns = []; number = n }; after = cs; is = refl; rest = i }

pub terms_turn : (t : Turn) (l : Option Relation) (cs : List Class) → TermsIs l cs → TermsIs l (turn t ∷ cs)
terms_turn t l cs i = record { t = record { turns = t ∷ i.t.turns; number = i.t.number }; fs = i.fs; tail = i.tail; is = on (turn t) i.is; rest = i.rest }

pub terms_number : (l : Option Relation) (cs : List Class) → NameIs l cs → TermsIs l (classes.Number ∷ cs)
terms_number l cs i = record { t = record { turns = []; number = true }; fs = i.fs; tail = i.tail; is = on classes.Number i.is; rest = i.rest }

pub terms_name : (l : Option Relation) (cs : List Class) → NameIs l cs → TermsIs l cs
terms_name l cs i = record { t = record { turns = []; number = false }; fs = i.fs; tail = i.tail; is = i.is; rest = i.rest }

pub name_further : (l : Option Relation) (cs : List Class) → FurtherIs l cs → NameIs l (classes.Name ∷ cs)
name_further l cs i = record { fs = i.fs; tail = i.tail; is = on classes.Name i.is; rest = i.rest }

pub name_ended : (r : Relation) (cs : List Class) → goes_on r (head cs) ≡ false → RowsIs cs → NameIs (Some r) (classes.Name ∷ cs)
name_ended r cs g i = record { fs = []; tail = cs; is = refl; rest = Ended r refl g i }

pub further_turn : (t : Turn) (l : Option Relation) (cs : List Class) → TermsIs l cs → FurtherIs l (turn t ∷ cs)
further_turn t l cs i = record { fs = record { turn = t; term = i.t } ∷ i.fs; tail = i.tail; is = on (turn t) i.is; rest = i.rest }

pub further_right : (r : Relation) (cs : List Class) → ValueIs cs → FurtherIs None (classes.Relation r ∷ cs)
further_right r cs i = record { fs = []; tail = classes.Relation r ∷ cs; is = refl; rest = Righted r i.v i.after refl (on (classes.Relation r) i.is) i.rest }

pub further_twice : (q r : Relation) (cs : List Class) → agrees q (classes.Relation r) ≡ true → ValueIs cs → FurtherIs (Some q) (classes.Relation r ∷ cs)
further_twice relations.AtMost relations.AtMost cs a i = record { fs = []; tail = classes.Relation relations.AtMost ∷ cs; is = refl; rest = Twice Below i.v i.after refl (on (classes.Relation relations.AtMost) i.is) i.rest }
further_twice relations.AtLeast relations.AtLeast cs a i = record { fs = []; tail = classes.Relation relations.AtLeast ∷ cs; is = refl; rest = Twice Above i.v i.after refl (on (classes.Relation relations.AtLeast) i.is) i.rest }
further_twice relations.AtMost relations.AtLeast cs a i = absurd (true≢false (sym a))
further_twice relations.AtMost relations.Equal cs a i = absurd (true≢false (sym a))
further_twice relations.AtLeast relations.AtMost cs a i = absurd (true≢false (sym a))
further_twice relations.AtLeast relations.Equal cs a i = absurd (true≢false (sym a))
further_twice relations.Equal r cs a i = absurd (true≢false (sym a))

-- bounds

pub bound_value_turn : (t : Turn) (cs : List Class) → BoundValueIs cs → BoundValueIs (turn t ∷ cs)
bound_value_turn t cs i = record { v = record { turns = t ∷ i.v.turns; number = i.v.number }; bs = i.bs; is = on (turn t) i.is }

pub bound_value_last : (n : Bool) (cs : List Class) → BoundsIs cs → BoundValueIs (value_end n ∷ cs)
bound_value_last n cs i = record { v = record { turns = []; number = n }; bs = i.bs; is = on (value_end n) i.is }

pub signed_turn : (t : Turn) (cs : List Class) → BoundSignedIs cs → BoundSignedIs (turn t ∷ cs)
signed_turn t cs i = record { v = record { turns = t ∷ i.v.turns; number = i.v.number }; after = i.after; is = on (turn t) i.is; rest = i.rest }

pub signed_last : (n : Bool) (cs : List Class) → AfterValue cs → BoundSignedIs (value_end n ∷ cs)
signed_last n cs i = record { v = record { turns = []; number = n }; after = cs; is = refl; rest = i }

pub bounds_value : (cs : List Class) → BoundSignedIs cs → BoundsIs cs
bounds_value cs i = go i.rest
  where
    go : AfterValue i.after → BoundsIs cs
    go (Once r bs k) = record { bs = From i.v r ∷ bs; is = i.is ∙ ap (value i.v) k }
    go (Two w u bs k) = record { bs = Between i.v w u ∷ bs; is = i.is ∙ ap (value i.v) k }

pub bounds_column : (cs : List Class) → BoundColumnIs cs → BoundsIs (classes.Name ∷ cs)
bounds_column cs (Sets r v bs k) = record { bs = Set r v ∷ bs; is = on classes.Name k }
bounds_column cs (Frees bs k) = record { bs = Freed ∷ bs; is = on classes.Name k }

pub bounds_end : (cs : List Class) → cs ≡ [] → BoundsIs (classes.End ∷ cs)
bounds_end cs e = record { bs = []; is = on classes.End e }

pub left_name : (r : Relation) (cs : List Class) → BoundNameIs r cs → AfterValue (classes.Relation r ∷ cs)
left_name r cs (NamedOnce bs k) = Once r bs (on (classes.Relation r) k)
left_name r cs (NamedTwo w u bs e k) = Two w u bs (ap (λ (q : Relation). classes.Relation q ∷ cs) e ∙ on (classes.Relation (way w)) k)

pub name_once : (r : Relation) (cs : List Class) → BoundsIs cs → BoundNameIs r (classes.Name ∷ cs)
name_once r cs i = NamedOnce i.bs (on classes.Name i.is)

pub name_two : (q r : Relation) (cs : List Class) → agrees q (classes.Relation r) ≡ true → BoundValueIs cs → BoundNameIs q (classes.Name ∷ classes.Relation r ∷ cs)
name_two relations.AtMost relations.AtMost cs a i = NamedTwo Below i.v i.bs refl (on classes.Name (on (classes.Relation relations.AtMost) i.is))
name_two relations.AtLeast relations.AtLeast cs a i = NamedTwo Above i.v i.bs refl (on classes.Name (on (classes.Relation relations.AtLeast) i.is))
name_two relations.AtMost relations.AtLeast cs a i = absurd (true≢false (sym a))
name_two relations.AtMost relations.Equal cs a i = absurd (true≢false (sym a))
name_two relations.AtLeast relations.AtMost cs a i = absurd (true≢false (sym a))
name_two relations.AtLeast relations.Equal cs a i = absurd (true≢false (sym a))
name_two relations.Equal r cs a i = absurd (true≢false (sym a))

pub name_again : (q : Relation) (cs : List Class) → agrees q (head cs) ≡ true → BoundAgainIs cs → BoundNameIs q (classes.Name ∷ cs)
name_again q cs a i =
    subst (λ (xs : List Class). BoundNameIs q (classes.Name ∷ xs)) (sym i.is)
    (name_two q i.r (value i.v (bounds i.bs last)) (ap (λ (xs : List Class). agrees q (head xs)) (sym i.is) ∙ a) (record { v = i.v; bs = i.bs; is = refl }))

pub file_head : (z : Sense) (cs : List Class) → HeadIs cs → FileIs (classes.Goal z ∷ cs)
file_head z cs i =
    let t = i.rest in let r = t.rest in
    record {
      f = record { sense = z; label = i.l; goal = i.g; pair = t.pair; rows = r.rs; bounds = r.bs };
      is = on (classes.Goal z) (i.is ∙ ap (λ (xs : List Class). label i.l (goal i.g xs)) (t.is ∙ ap (rows_word t.pair) r.is));
      closed = r.closed;
    }

-- a choice of places by a test
