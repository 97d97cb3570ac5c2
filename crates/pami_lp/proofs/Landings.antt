-- Where a token leads lies in the section behind it.
use Rattle.std.proofs.Common.{◌≡◌, Bool, true, false, true≢false, cond, ◌||◌, Option, None, Some, refl, sym}
use Rattle.pami_lp_text.specs.declared.kind.Relation.{Relation}
use Rattle.pami_lp_text.specs.declared.kind.Class.{Class}
use Rattle.pami_lp_text.specs.declared.kind.Class.TheVariants as classes
use Rattle.pami_lp.specs.declared.kind.Place.{Place}
use Rattle.pami_lp.specs.declared.kind.Place.TheVariants as places
use Rattle.pami_lp.specs.declared.kind.Move.{Move}
use Rattle.pami_lp.specs.declared.kind.Section.{Section}
use Rattle.pami_lp.specs.declared.kind.Section.TheVariants as sections
use Rattle.pami_lp.specs.Moves.{move_of, section_at, row_left, bound_left, row_name, is_name_class, is_colon_class, agrees, goes_on}
use Rattle.pami_lp.specs.Outcome.{is_end}
use Rattle.pami_lp.specs.Sections.{section_behind}

abbrev same_section : Section → Section → Bool
same_section sections.Start sections.Start = true
same_section sections.Objective sections.Objective = true
same_section sections.Rows sections.Rows = true
same_section sections.Bounds sections.Bounds = true
same_section x y = false

same_is : (x y : Section) → same_section x y ≡ true → x ≡ y
same_is sections.Start sections.Start e = refl
same_is sections.Objective sections.Objective e = refl
same_is sections.Rows sections.Rows e = refl
same_is sections.Bounds sections.Bounds e = refl
same_is x y e = absurd (true≢false (sym e))

-- a move leads to this section, or to the end
abbrev lands : Option Move → Section → Bool
lands None z = true
lands (Some m) z = is_end m.place || same_section (section_at m.place) z

pick : (b : Bool) (x y : Option Move) (z : Section) → lands x z ≡ true → lands y z ≡ true → lands (cond b x y) z ≡ true
pick true x y z h k = h
pick false x y z h k = k

left_lands : (c : Class) → lands (row_left c) sections.Rows ≡ true
left_lands (classes.Relation q) = refl
left_lands k = refl

bound_lands : (c : Class) → lands (bound_left c) sections.Bounds ≡ true
bound_lands (classes.Relation q) = refl
bound_lands k = refl

name_lands : (l : Option Relation) (c : Class) → lands (row_name l c) sections.Rows ≡ true
name_lands None c = refl
name_lands (Some r) c = pick (goes_on r c) _ _ _ refl refl

lands_there : (p : Place) (c a : Class) → lands (move_of p c a) (section_behind (section_at p) c) ≡ true
lands_there places.Start classes.Bad a = refl
lands_there places.Start k a = refl
lands_there places.GoalHead classes.Number a = pick (is_name_class a) _ _ _ refl refl
lands_there places.GoalHead classes.Name a = pick (is_colon_class a) _ _ _ refl refl
lands_there places.GoalHead k a = refl
lands_there places.GoalColon classes.Bad a = refl
lands_there places.GoalColon k a = refl
lands_there places.GoalFirst classes.Number a = pick (is_name_class a) _ _ _ refl refl
lands_there places.GoalFirst k a = refl
lands_there places.GoalSigned classes.Number a = pick (is_name_class a) _ _ _ refl refl
lands_there places.GoalSigned k a = refl
lands_there places.GoalNumber classes.Bad a = refl
lands_there places.GoalNumber k a = refl
lands_there places.GoalTerm classes.Bad a = refl
lands_there places.GoalTerm k a = refl
lands_there places.RowsSecond classes.Bad a = refl
lands_there places.RowsSecond k a = refl
lands_there places.RowHead classes.Number a = pick (is_name_class a) _ _ _ refl (left_lands a)
lands_there places.RowHead classes.Name a = pick (is_colon_class a) _ _ _ refl refl
lands_there places.RowHead classes.Infinity a = left_lands a
lands_there places.RowHead k a = refl
lands_there places.RowColon classes.Bad a = refl
lands_there places.RowColon k a = refl
lands_there places.RowFirst classes.Number a = pick (is_name_class a) _ _ _ refl (left_lands a)
lands_there places.RowFirst classes.Infinity a = left_lands a
lands_there places.RowFirst k a = refl
lands_there places.RowLeft classes.Bad a = refl
lands_there places.RowLeft k a = refl
lands_there (places.RowMiddle l) classes.Name a = name_lands l a
lands_there (places.RowMiddle l) k a = refl
lands_there (places.RowNumber l) classes.Name a = name_lands l a
lands_there (places.RowNumber l) k a = refl
lands_there (places.RowTerm None) classes.Bad a = refl
lands_there (places.RowTerm None) k a = refl
lands_there (places.RowTerm (Some r)) (classes.Relation q) a = pick (agrees r (classes.Relation q)) _ _ _ refl refl
lands_there (places.RowTerm (Some r)) k a = refl
lands_there (places.RowValue r) classes.Bad a = refl
lands_there (places.RowValue r) k a = refl
lands_there places.BoundHead classes.Number a = bound_lands a
lands_there places.BoundHead classes.Infinity a = bound_lands a
lands_there places.BoundHead k a = refl
lands_there places.BoundSigned classes.Number a = bound_lands a
lands_there places.BoundSigned classes.Infinity a = bound_lands a
lands_there places.BoundSigned k a = refl
lands_there places.BoundLeft classes.Bad a = refl
lands_there places.BoundLeft k a = refl
lands_there (places.BoundName r) classes.Name a = pick (agrees r a) _ _ _ refl refl
lands_there (places.BoundName r) k a = refl
lands_there places.BoundAgain classes.Bad a = refl
lands_there places.BoundAgain k a = refl
lands_there places.BoundColumn classes.Bad a = refl
lands_there places.BoundColumn k a = refl
lands_there (places.BoundValue r) classes.Bad a = refl
lands_there (places.BoundValue r) k a = refl
lands_there places.End classes.Bad a = refl
lands_there places.End k a = refl

or_is : (x y : Bool) → (x || y) ≡ true → x ≡ false → y ≡ true
or_is true y h f = absurd (true≢false f)
or_is false y h f = h

-- a token that doesn't end the file leads to the section behind it
pub section_moved : (p : Place) (c a : Class) (m : Move) → move_of p c a ≡ Some m → is_end m.place ≡ false → section_at m.place ≡ section_behind (section_at p) c
section_moved p c a m e f =
    same_is (section_at m.place) (section_behind (section_at p) c)
    (or_is (is_end m.place) (same_section (section_at m.place) (section_behind (section_at p) c)) (Rattle.std.proofs.Common.subst (λ (x : Option Move). lands x (section_behind (section_at p) c) ≡ true) e (lands_there p c a)) f)
