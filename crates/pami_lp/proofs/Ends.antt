-- Which tokens end a file, whatever follows.
use Rattle.std.proofs.Common.{◌≡◌, Bool, true, false, cond, Option, None, Some, refl}
use Rattle.pami_lp_text.specs.declared.kind.Relation.{Relation}
use Rattle.pami_lp_text.specs.declared.kind.Class.{Class}
use Rattle.pami_lp_text.specs.declared.kind.Class.TheVariants as classes
use Rattle.pami_lp.specs.declared.kind.Place.{Place}
use Rattle.pami_lp.specs.declared.kind.Place.TheVariants as places
use Rattle.pami_lp.specs.declared.kind.Move.{Move}
use Rattle.pami_lp.specs.Moves.{move_of, goes_on, agrees, row_name, row_left, bound_left, is_name_class, is_colon_class}
use Rattle.pami_lp.specs.Outcome.{is_end}

abbrev pub ends_move : Option Move → Bool
ends_move None = false
ends_move (Some m) = is_end m.place

pub pick : (b : Bool) (x y : Option Move) → ends_move x ≡ false → ends_move y ≡ false → ends_move (cond b x y) ≡ false
pick true x y h k = h
pick false x y h k = k

pub left_on : (c : Class) → ends_move (row_left c) ≡ false
left_on classes.Number = refl
left_on k = refl

pub bound_on : (c : Class) → ends_move (bound_left c) ≡ false
bound_on classes.Number = refl
bound_on k = refl

pub name_on : (l : Option Relation) (c : Class) → ends_move (row_name l c) ≡ false
name_on None c = refl
name_on (Some r) c = pick (goes_on r c) _ _ refl refl

-- which tokens end the file, whatever follows
abbrev pub ends_at : Place → Class → Bool
ends_at places.Start classes.Number = false
ends_at places.Start k = false
ends_at places.GoalHead classes.Number = false
ends_at places.GoalHead k = false
ends_at places.GoalColon classes.Number = false
ends_at places.GoalColon k = false
ends_at places.GoalFirst classes.Number = false
ends_at places.GoalFirst k = false
ends_at places.GoalSigned classes.Number = false
ends_at places.GoalSigned k = false
ends_at places.GoalNumber classes.Number = false
ends_at places.GoalNumber k = false
ends_at places.GoalTerm classes.Number = false
ends_at places.GoalTerm k = false
ends_at places.RowsSecond classes.Number = false
ends_at places.RowsSecond k = false
ends_at places.RowHead classes.End = true
ends_at places.RowHead k = false
ends_at places.RowColon classes.Number = false
ends_at places.RowColon k = false
ends_at places.RowFirst classes.Number = false
ends_at places.RowFirst k = false
ends_at places.RowLeft classes.Number = false
ends_at places.RowLeft k = false
ends_at (places.RowMiddle l) classes.Number = false
ends_at (places.RowMiddle l) k = false
ends_at (places.RowNumber l) classes.Number = false
ends_at (places.RowNumber l) k = false
ends_at (places.RowTerm None) classes.Number = false
ends_at (places.RowTerm None) k = false
ends_at (places.RowTerm (Some r)) classes.Number = false
ends_at (places.RowTerm (Some r)) k = false
ends_at (places.RowValue r) classes.Number = false
ends_at (places.RowValue r) k = false
ends_at places.BoundHead classes.End = true
ends_at places.BoundHead k = false
ends_at places.BoundSigned classes.Number = false
ends_at places.BoundSigned k = false
ends_at places.BoundLeft classes.Number = false
ends_at places.BoundLeft k = false
ends_at (places.BoundName r) classes.Number = false
ends_at (places.BoundName r) k = false
ends_at places.BoundAgain classes.Number = false
ends_at places.BoundAgain k = false
ends_at places.BoundColumn classes.Number = false
ends_at places.BoundColumn k = false
ends_at (places.BoundValue r) classes.Number = false
ends_at (places.BoundValue r) k = false
ends_at places.End classes.Number = false
ends_at places.End k = false

pub ends_is : (p : Place) (c a : Class) → ends_move (move_of p c a) ≡ ends_at p c
ends_is places.Start classes.Number a = refl
ends_is places.Start k a = refl
ends_is places.GoalHead classes.Number a = pick (is_name_class a) _ _ refl refl
ends_is places.GoalHead classes.Name a = pick (is_colon_class a) _ _ refl refl
ends_is places.GoalHead k a = refl
ends_is places.GoalColon classes.Number a = refl
ends_is places.GoalColon k a = refl
ends_is places.GoalFirst classes.Number a = pick (is_name_class a) _ _ refl refl
ends_is places.GoalFirst k a = refl
ends_is places.GoalSigned classes.Number a = pick (is_name_class a) _ _ refl refl
ends_is places.GoalSigned k a = refl
ends_is places.GoalNumber classes.Number a = refl
ends_is places.GoalNumber k a = refl
ends_is places.GoalTerm classes.Number a = refl
ends_is places.GoalTerm k a = refl
ends_is places.RowsSecond classes.Number a = refl
ends_is places.RowsSecond k a = refl
ends_is places.RowHead classes.Number a = pick (is_name_class a) _ (row_left a) refl (left_on a)
ends_is places.RowHead classes.Name a = pick (is_colon_class a) _ _ refl refl
ends_is places.RowHead classes.Infinity a = left_on a
ends_is places.RowHead k a = refl
ends_is places.RowColon classes.Number a = refl
ends_is places.RowColon k a = refl
ends_is places.RowFirst classes.Number a = pick (is_name_class a) _ (row_left a) refl (left_on a)
ends_is places.RowFirst classes.Infinity a = left_on a
ends_is places.RowFirst k a = refl
ends_is places.RowLeft classes.Number a = refl
ends_is places.RowLeft k a = refl
ends_is (places.RowMiddle l) classes.Name a = name_on l a
ends_is (places.RowMiddle l) k a = refl
ends_is (places.RowNumber l) classes.Name a = name_on l a
ends_is (places.RowNumber l) k a = refl
ends_is (places.RowTerm None) classes.Number a = refl
ends_is (places.RowTerm None) k a = refl
ends_is (places.RowTerm (Some r)) (classes.Relation q) a = pick (agrees r (classes.Relation q)) _ _ refl refl
ends_is (places.RowTerm (Some r)) k a = refl
ends_is (places.RowValue r) classes.Number a = refl
ends_is (places.RowValue r) k a = refl
ends_is places.BoundHead classes.Number a = bound_on a
ends_is places.BoundHead classes.Infinity a = bound_on a
ends_is places.BoundHead k a = refl
ends_is places.BoundSigned classes.Number a = bound_on a
ends_is places.BoundSigned classes.Infinity a = bound_on a
ends_is places.BoundSigned k a = refl
ends_is places.BoundLeft classes.Number a = refl
ends_is places.BoundLeft k a = refl
ends_is (places.BoundName r) classes.Name a = pick (agrees r a) _ _ refl refl
ends_is (places.BoundName r) k a = refl
ends_is places.BoundAgain classes.Number a = refl
ends_is places.BoundAgain k a = refl
ends_is places.BoundColumn classes.Number a = refl
ends_is places.BoundColumn k a = refl
ends_is (places.BoundValue r) classes.Number a = refl
ends_is (places.BoundValue r) k a = refl
ends_is places.End classes.Number a = refl
ends_is places.End k a = refl
