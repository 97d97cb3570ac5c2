-- The grammar token by token: what a token does at a place, and the place behind it.
use Rattle.std.specs.Prelude.{Bool, true, false, ◌&&◌, Option, None, Some, if◌then◌else◌}
use Rattle.pami_lp_text.specs.declared.kind.Relation.{Relation}
use Rattle.pami_lp_text.specs.declared.kind.Class.{Class}
use Rattle.pami_lp_text.specs.declared.kind.Class.TheVariants as classes
use Rattle.pami_lp.specs.declared.kind.Place.{Place}
use Rattle.pami_lp.specs.declared.kind.Place.TheVariants as places
use Rattle.pami_lp.specs.declared.kind.Role.{Role}
use Rattle.pami_lp.specs.declared.kind.Role.TheVariants as roles
use Rattle.pami_lp.specs.declared.kind.Move.{Move}
use Rattle.pami_lp.specs.declared.kind.Section.{Section}
use Rattle.pami_lp.specs.declared.kind.Section.TheVariants as sections
pub use Rattle.pami_lp.specs.Grammar.{agrees, goes_on}

abbrev pub to : Role → Place → Option Move
to role place = Some (record { role = role; place = place })

abbrev pub is_name_class : Class → Bool
is_name_class classes.Name = true
is_name_class c = false

abbrev pub is_colon_class : Class → Bool
is_colon_class classes.Colon = true
is_colon_class c = false

abbrev pub goal_signed : Class → Class → Option Move
goal_signed classes.Plus after = to roles.Plus places.GoalSigned
goal_signed classes.Minus after = to roles.Minus places.GoalSigned
goal_signed classes.Number after = if is_name_class after then to roles.Coefficient places.GoalNumber else to roles.Constant places.GoalTerm
goal_signed classes.Name after = to roles.GoalName places.GoalTerm
goal_signed c after = None

abbrev pub goal_first : Class → Class → Option Move
goal_first classes.Rows after = to roles.Mark places.RowHead
goal_first classes.RowsPair after = to roles.Mark places.RowsSecond
goal_first c after = goal_signed c after

abbrev pub goal_head : Class → Class → Option Move
goal_head c after = if is_name_class c && is_colon_class after then to roles.GoalLabel places.GoalColon else goal_first c after

abbrev pub goal_number : Class → Option Move
goal_number classes.Name = to roles.GoalName places.GoalTerm
goal_number c = None

abbrev pub goal_term : Class → Option Move
goal_term classes.Rows = to roles.Mark places.RowHead
goal_term classes.RowsPair = to roles.Mark places.RowsSecond
goal_term classes.Plus = to roles.Plus places.GoalSigned
goal_term classes.Minus = to roles.Minus places.GoalSigned
goal_term c = None

abbrev pub row_left : Class → Option Move
row_left (classes.Relation r) = to (roles.RowLeft r) places.RowLeft
row_left after = to roles.Stray places.RowLeft

abbrev pub row_first : Class → Class → Option Move
row_first classes.Plus after = to roles.Plus places.RowFirst
row_first classes.Minus after = to roles.Minus places.RowFirst
row_first classes.Number after = if is_name_class after then to roles.Coefficient (places.RowNumber None) else row_left after
row_first classes.Infinity after = row_left after
row_first classes.Name after = to roles.RowName (places.RowTerm None)
row_first c after = None

abbrev pub row_begin : Class → Class → Option Move
row_begin classes.Bounds after = to roles.Mark places.BoundHead
row_begin classes.End after = to roles.End places.End
row_begin c after = row_first c after

abbrev pub row_head : Class → Class → Option Move
row_head c after = if is_name_class c && is_colon_class after then to roles.RowLabel places.RowColon else row_begin c after

abbrev pub row_relation : Class → Option Move
row_relation (classes.Relation r) = to roles.Mark (places.RowMiddle (Some r))
row_relation c = None

abbrev pub row_name : Option Relation → Class → Option Move
row_name None after = to roles.RowName (places.RowTerm None)
row_name (Some r) after = if goes_on r after then to roles.RowName (places.RowTerm (Some r)) else to roles.RowLast places.RowHead

abbrev pub row_number : Option Relation → Class → Class → Option Move
row_number left c after = if is_name_class c then row_name left after else None

abbrev pub row_middle : Option Relation → Class → Class → Option Move
row_middle left classes.Plus after = to roles.Plus (places.RowMiddle left)
row_middle left classes.Minus after = to roles.Minus (places.RowMiddle left)
row_middle left classes.Number after = to roles.Coefficient (places.RowNumber left)
row_middle left c after = row_number left c after

abbrev pub row_right : Option Relation → Relation → Option Move
row_right None r = to roles.Mark (places.RowValue r)
row_right (Some first) r = if agrees first (classes.Relation r) then to roles.Mark (places.RowValue r) else None

abbrev pub row_term : Option Relation → Class → Option Move
row_term left classes.Plus = to roles.Plus (places.RowMiddle left)
row_term left classes.Minus = to roles.Minus (places.RowMiddle left)
row_term left (classes.Relation r) = row_right left r
row_term left c = None

abbrev pub row_value : Relation → Class → Option Move
row_value r classes.Plus = to roles.Plus (places.RowValue r)
row_value r classes.Minus = to roles.Minus (places.RowValue r)
row_value r classes.Number = to (roles.RowRight r) places.RowHead
row_value r classes.Infinity = to (roles.RowRight r) places.RowHead
row_value r c = None

abbrev pub bound_left : Class → Option Move
bound_left (classes.Relation r) = to (roles.BoundLeft r) places.BoundLeft
bound_left after = to roles.Stray places.BoundLeft

abbrev pub bound_signed : Class → Class → Option Move
bound_signed classes.Plus after = to roles.Plus places.BoundSigned
bound_signed classes.Minus after = to roles.Minus places.BoundSigned
bound_signed classes.Number after = bound_left after
bound_signed classes.Infinity after = bound_left after
bound_signed c after = None

abbrev pub bound_head : Class → Class → Option Move
bound_head classes.Name after = to roles.BoundColumn places.BoundColumn
bound_head classes.End after = to roles.End places.End
bound_head c after = bound_signed c after

abbrev pub bound_relation : Class → Option Move
bound_relation (classes.Relation r) = to roles.Mark (places.BoundName r)
bound_relation c = None

abbrev pub bound_name : Relation → Class → Class → Option Move
bound_name left c after =
    if is_name_class c then (if agrees left after then to (roles.BoundName left) places.BoundAgain else to (roles.BoundName left) places.BoundHead) else None

abbrev pub bound_again : Class → Option Move
bound_again (classes.Relation r) = to roles.Mark (places.BoundValue r)
bound_again c = None

abbrev pub bound_column : Class → Option Move
bound_column classes.Free = to roles.BoundFree places.BoundHead
bound_column c = bound_again c

abbrev pub bound_value : Relation → Class → Option Move
bound_value r classes.Plus = to roles.Plus (places.BoundValue r)
bound_value r classes.Minus = to roles.Minus (places.BoundValue r)
bound_value r classes.Number = to (roles.BoundRight r) places.BoundHead
bound_value r classes.Infinity = to (roles.BoundRight r) places.BoundHead
bound_value r c = None

abbrev pub start : Class → Option Move
start (classes.Goal sense) = to (roles.Goal sense) places.GoalHead
start c = None

-- what a token does at a place, before one of the class `after`
abbrev pub move_of : Place → Class → Class → Option Move
move_of places.Start c after = start c
move_of places.GoalHead c after = goal_head c after
move_of places.GoalColon c after = if is_colon_class c then to roles.Mark places.GoalFirst else None
move_of places.GoalFirst c after = goal_first c after
move_of places.GoalSigned c after = goal_signed c after
move_of places.GoalNumber c after = goal_number c
move_of places.GoalTerm c after = goal_term c
move_of places.RowsSecond c after = if is_name_class c then to roles.Mark places.RowHead else None
move_of places.RowHead c after = row_head c after
move_of places.RowColon c after = if is_colon_class c then to roles.Mark places.RowFirst else None
move_of places.RowFirst c after = row_first c after
move_of places.RowLeft c after = row_relation c
move_of (places.RowMiddle left) c after = row_middle left c after
move_of (places.RowNumber left) c after = row_number left c after
move_of (places.RowTerm left) c after = row_term left c
move_of (places.RowValue r) c after = row_value r c
move_of places.BoundHead c after = bound_head c after
move_of places.BoundSigned c after = bound_signed c after
move_of places.BoundLeft c after = bound_relation c
move_of (places.BoundName left) c after = bound_name left c after
move_of places.BoundAgain c after = bound_again c
move_of places.BoundColumn c after = bound_column c
move_of (places.BoundValue r) c after = bound_value r c
move_of places.End c after = None

-- the section of a place
abbrev pub section_at : Place → Section
section_at places.Start = sections.Start
section_at places.GoalHead = sections.Objective
section_at places.GoalColon = sections.Objective
section_at places.GoalFirst = sections.Objective
section_at places.GoalSigned = sections.Objective
section_at places.GoalNumber = sections.Objective
section_at places.GoalTerm = sections.Objective
section_at places.BoundHead = sections.Bounds
section_at places.BoundSigned = sections.Bounds
section_at places.BoundLeft = sections.Bounds
section_at (places.BoundName r) = sections.Bounds
section_at places.BoundAgain = sections.Bounds
section_at places.BoundColumn = sections.Bounds
section_at (places.BoundValue r) = sections.Bounds
section_at places.End = sections.Bounds
section_at p = sections.Rows
