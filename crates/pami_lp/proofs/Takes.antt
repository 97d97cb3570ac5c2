-- Which tokens can be taken at a place, whatever follows.
use Rattle.std.proofs.Common.{◌≡◌, Bool, true, false, cond, Option, None, Some, is_some, refl}
use Rattle.pami_lp_text.specs.declared.kind.Relation.{Relation}
use Rattle.pami_lp_text.specs.declared.kind.Class.{Class}
use Rattle.pami_lp_text.specs.declared.kind.Class.TheVariants as classes
use Rattle.pami_lp.specs.declared.kind.Place.{Place}
use Rattle.pami_lp.specs.declared.kind.Place.TheVariants as places
use Rattle.pami_lp.specs.declared.kind.Move.{Move}
use Rattle.pami_lp.specs.Moves.{move_of, goes_on, agrees, row_name, row_left, bound_left, is_name_class, is_colon_class}

pub both : (b : Bool) (x y : Move) → is_some (cond b (Some x) (Some y)) ≡ true
both true x y = refl
both false x y = refl

pub or_else : (b : Bool) (x : Move) (y : Option Move) → is_some y ≡ true → is_some (cond b (Some x) y) ≡ true
or_else true x y h = refl
or_else false x y h = h

pub left_some : (c : Class) → is_some (row_left c) ≡ true
left_some classes.Number = refl
left_some k = refl

pub bound_some : (c : Class) → is_some (bound_left c) ≡ true
bound_some classes.Number = refl
bound_some k = refl

pub name_some : (l : Option Relation) (c : Class) → is_some (row_name l c) ≡ true
name_some None c = refl
name_some (Some r) c = both (goes_on r c) _ _

-- whether a token can be taken at a place, whatever follows it
abbrev pub takes : Place → Class → Bool
takes places.Start (classes.Goal z) = true
takes places.Start k = false
takes places.GoalHead classes.Number = true
takes places.GoalHead classes.Name = true
takes places.GoalHead classes.Plus = true
takes places.GoalHead classes.Minus = true
takes places.GoalHead classes.Rows = true
takes places.GoalHead classes.RowsPair = true
takes places.GoalHead k = false
takes places.GoalColon classes.Colon = true
takes places.GoalColon k = false
takes places.GoalFirst classes.Number = true
takes places.GoalFirst classes.Name = true
takes places.GoalFirst classes.Plus = true
takes places.GoalFirst classes.Minus = true
takes places.GoalFirst classes.Rows = true
takes places.GoalFirst classes.RowsPair = true
takes places.GoalFirst k = false
takes places.GoalSigned classes.Number = true
takes places.GoalSigned classes.Name = true
takes places.GoalSigned classes.Plus = true
takes places.GoalSigned classes.Minus = true
takes places.GoalSigned k = false
takes places.GoalNumber classes.Name = true
takes places.GoalNumber k = false
takes places.GoalTerm classes.Plus = true
takes places.GoalTerm classes.Minus = true
takes places.GoalTerm classes.Rows = true
takes places.GoalTerm classes.RowsPair = true
takes places.GoalTerm k = false
takes places.RowsSecond classes.Name = true
takes places.RowsSecond k = false
takes places.RowHead classes.Number = true
takes places.RowHead classes.Name = true
takes places.RowHead classes.Infinity = true
takes places.RowHead classes.Plus = true
takes places.RowHead classes.Minus = true
takes places.RowHead classes.Bounds = true
takes places.RowHead classes.End = true
takes places.RowHead k = false
takes places.RowColon classes.Colon = true
takes places.RowColon k = false
takes places.RowFirst classes.Number = true
takes places.RowFirst classes.Name = true
takes places.RowFirst classes.Infinity = true
takes places.RowFirst classes.Plus = true
takes places.RowFirst classes.Minus = true
takes places.RowFirst k = false
takes places.RowLeft (classes.Relation q) = true
takes places.RowLeft k = false
takes (places.RowMiddle l) classes.Number = true
takes (places.RowMiddle l) classes.Name = true
takes (places.RowMiddle l) classes.Plus = true
takes (places.RowMiddle l) classes.Minus = true
takes (places.RowMiddle l) k = false
takes (places.RowNumber l) classes.Name = true
takes (places.RowNumber l) k = false
takes (places.RowTerm None) (classes.Relation q) = true
takes (places.RowTerm None) classes.Plus = true
takes (places.RowTerm None) classes.Minus = true
takes (places.RowTerm None) k = false
takes (places.RowTerm (Some r)) (classes.Relation q) = agrees r (classes.Relation q)
takes (places.RowTerm (Some r)) classes.Plus = true
takes (places.RowTerm (Some r)) classes.Minus = true
takes (places.RowTerm (Some r)) k = false
takes (places.RowValue r) classes.Number = true
takes (places.RowValue r) classes.Infinity = true
takes (places.RowValue r) classes.Plus = true
takes (places.RowValue r) classes.Minus = true
takes (places.RowValue r) k = false
takes places.BoundHead classes.Number = true
takes places.BoundHead classes.Name = true
takes places.BoundHead classes.Infinity = true
takes places.BoundHead classes.Plus = true
takes places.BoundHead classes.Minus = true
takes places.BoundHead classes.End = true
takes places.BoundHead k = false
takes places.BoundSigned classes.Number = true
takes places.BoundSigned classes.Infinity = true
takes places.BoundSigned classes.Plus = true
takes places.BoundSigned classes.Minus = true
takes places.BoundSigned k = false
takes places.BoundLeft (classes.Relation q) = true
takes places.BoundLeft k = false
takes (places.BoundName r) classes.Name = true
takes (places.BoundName r) k = false
takes places.BoundAgain (classes.Relation q) = true
takes places.BoundAgain k = false
takes places.BoundColumn classes.Free = true
takes places.BoundColumn (classes.Relation q) = true
takes places.BoundColumn k = false
takes (places.BoundValue r) classes.Number = true
takes (places.BoundValue r) classes.Infinity = true
takes (places.BoundValue r) classes.Plus = true
takes (places.BoundValue r) classes.Minus = true
takes (places.BoundValue r) k = false
takes places.End classes.Number = false
takes places.End k = false

pub right_some : (m : Move) (b : Bool) → is_some (cond b (Some m) None) ≡ b
right_some m true = refl
right_some m false = refl

pub takes_is : (p : Place) (c a : Class) → is_some (move_of p c a) ≡ takes p c
takes_is places.Start classes.Number a = refl
takes_is places.Start k a = refl
takes_is places.GoalHead classes.Number a = both (is_name_class a) _ _
takes_is places.GoalHead classes.Name a = both (is_colon_class a) _ _
takes_is places.GoalHead k a = refl
takes_is places.GoalColon classes.Number a = refl
takes_is places.GoalColon k a = refl
takes_is places.GoalFirst classes.Number a = both (is_name_class a) _ _
takes_is places.GoalFirst k a = refl
takes_is places.GoalSigned classes.Number a = both (is_name_class a) _ _
takes_is places.GoalSigned k a = refl
takes_is places.GoalNumber classes.Number a = refl
takes_is places.GoalNumber k a = refl
takes_is places.GoalTerm classes.Number a = refl
takes_is places.GoalTerm k a = refl
takes_is places.RowsSecond classes.Number a = refl
takes_is places.RowsSecond k a = refl
takes_is places.RowHead classes.Number a = or_else (is_name_class a) _ (row_left a) (left_some a)
takes_is places.RowHead classes.Name a = both (is_colon_class a) _ _
takes_is places.RowHead classes.Infinity a = left_some a
takes_is places.RowHead k a = refl
takes_is places.RowColon classes.Number a = refl
takes_is places.RowColon k a = refl
takes_is places.RowFirst classes.Number a = or_else (is_name_class a) _ (row_left a) (left_some a)
takes_is places.RowFirst classes.Infinity a = left_some a
takes_is places.RowFirst k a = refl
takes_is places.RowLeft classes.Number a = refl
takes_is places.RowLeft k a = refl
takes_is (places.RowMiddle l) classes.Name a = name_some l a
takes_is (places.RowMiddle l) k a = refl
takes_is (places.RowNumber l) classes.Name a = name_some l a
takes_is (places.RowNumber l) k a = refl
takes_is (places.RowTerm None) classes.Number a = refl
takes_is (places.RowTerm None) k a = refl
takes_is (places.RowTerm (Some r)) (classes.Relation q) a = right_some _ (agrees r (classes.Relation q))
takes_is (places.RowTerm (Some r)) k a = refl
takes_is (places.RowValue r) classes.Number a = refl
takes_is (places.RowValue r) k a = refl
takes_is places.BoundHead classes.Number a = bound_some a
takes_is places.BoundHead classes.Infinity a = bound_some a
takes_is places.BoundHead k a = refl
takes_is places.BoundSigned classes.Number a = bound_some a
takes_is places.BoundSigned classes.Infinity a = bound_some a
takes_is places.BoundSigned k a = refl
takes_is places.BoundLeft classes.Number a = refl
takes_is places.BoundLeft k a = refl
takes_is (places.BoundName r) classes.Name a = both (agrees r a) _ _
takes_is (places.BoundName r) k a = refl
takes_is places.BoundAgain classes.Number a = refl
takes_is places.BoundAgain k a = refl
takes_is places.BoundColumn classes.Number a = refl
takes_is places.BoundColumn k a = refl
takes_is (places.BoundValue r) classes.Number a = refl
takes_is (places.BoundValue r) k a = refl
takes_is places.End classes.Number a = refl
takes_is places.End k a = refl
