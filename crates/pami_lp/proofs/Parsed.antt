-- What is taken to the end is a file of the grammar.
use Rattle.std.proofs.Common.{◌≡◌, Bool, true, false, true≢false, cond, List, [], ◌∷◌, Option, None, Some, refl, sym, ap, ◌∙◌}
use Rattle.pami_lp_text.specs.declared.kind.Relation.{Relation}
use Rattle.pami_lp_text.specs.declared.kind.Class.{Class}
use Rattle.pami_lp_text.specs.declared.kind.Class.TheVariants as classes
use Rattle.pami_lp.specs.declared.kind.Place.{Place}
use Rattle.pami_lp.specs.declared.kind.Place.TheVariants as places
use Rattle.pami_lp.specs.declared.kind.Role.TheVariants as roles
use Rattle.pami_lp.specs.Moves.{goes_on, agrees, row_name, is_name_class, is_colon_class, row_left, bound_left}
use Rattle.pami_lp.specs.Grammar.{Plus, Minus}
use Rattle.pami_lp.proofs.Shape.{value_end, head, walk, walk_by, EndsAreFiles}
use Rattle.pami_lp.proofs.Rests.{Sets, Frees, AfterValue, BoundAgainIs, BoundNameIs, BoundSignedIs, BoundsIs, FurtherIs, GoalColonIs, GoalNameIs, HeadIs, LaterIs, LeftIs, NameIs, PartIs, Rest, RowColonIs, RowsIs, SideIs, ValueIs, bound_value_last, bound_value_turn, bounds_column, bounds_end, bounds_value, end_of, file_head, further_right, further_turn, further_twice, goal_part, goal_tail, goal_turn, head_goal, head_label, later_tail, later_turn, left_name, name_again, name_ended, name_further, name_once, on, part_alone, part_name, part_number, part_turn, rows_bounds, rows_end, rows_label, rows_side, side_left, side_right, side_turn, signed_last, signed_turn, tail_pair, tail_rows, terms_name, terms_number, terms_turn, value_last, value_turn}

abbrev chosen : Bool → Place → Place → List Class → Option Place
chosen b p q cs = walk (cond b p q) cs

row_left_place : (c : Class) (f : Place → Option Place) → walk_by (row_left c) f ≡ f places.RowLeft
row_left_place classes.Number f = refl
row_left_place k f = refl

bound_left_place : (c : Class) (f : Place → Option Place) → walk_by (bound_left c) f ≡ f places.BoundLeft
bound_left_place classes.Number f = refl
bound_left_place k f = refl

-- where the next token decides, each way with what is left there

number_signed : (cs : List Class) (b : Bool) → is_name_class (head cs) ≡ b → walk_by (cond b (Some (record { role = roles.Coefficient; place = places.GoalNumber })) (Some (record { role = roles.Constant; place = places.GoalTerm }))) (λ q. walk q cs) ≡ Some places.End → (walk places.GoalNumber cs ≡ Some places.End → GoalNameIs cs) → (walk places.GoalTerm cs ≡ Some places.End → LaterIs cs) → PartIs (classes.Number ∷ cs)
number_signed cs true e h f g = part_number cs (f h)
number_signed cs false e h f g = part_alone cs (g h)

number_row : (cs : List Class) (b : Bool) → walk_by (cond b (Some (record { role = roles.Coefficient; place = places.RowNumber None })) (row_left (head cs))) (λ q. walk q cs) ≡ Some places.End → (walk (places.RowNumber None) cs ≡ Some places.End → NameIs None cs) → (walk places.RowLeft cs ≡ Some places.End → LeftIs cs) → SideIs (classes.Number ∷ cs)
number_row cs true h f g = let i = f h in side_right true (classes.Number ∷ cs) i.fs i.tail (on classes.Number i.is) i.rest
number_row cs false h f g = side_left true cs (g (sym (row_left_place (head cs) (λ q. walk q cs)) ∙ h))

name_row : (cs : List Class) (l : Option Relation) → walk_by (row_name l (head cs)) (λ q. walk q cs) ≡ Some places.End → (walk (places.RowTerm l) cs ≡ Some places.End → FurtherIs l cs) → (walk places.RowHead cs ≡ Some places.End → RowsIs cs) → NameIs l (classes.Name ∷ cs)
name_row cs None h f g = name_further None cs (f h)
name_row cs (Some r) h f g = go (goes_on r (head cs)) refl h
  where
    go : (b : Bool) → goes_on r (head cs) ≡ b → walk_by (cond b (Some (record { role = roles.RowName; place = places.RowTerm (Some r) })) (Some (record { role = roles.RowLast; place = places.RowHead }))) (λ q. walk q cs) ≡ Some places.End → NameIs (Some r) (classes.Name ∷ cs)
    go true e h = name_further (Some r) cs (f h)
    go false e h = name_ended r cs e (g h)

right_row : (cs : List Class) (q r : Relation) (b : Bool) → agrees q (classes.Relation r) ≡ b → walk_by (cond b (Some (record { role = roles.Mark; place = places.RowValue r })) None) (λ p. walk p cs) ≡ Some places.End → (walk (places.RowValue r) cs ≡ Some places.End → ValueIs cs) → FurtherIs (Some q) (classes.Relation r ∷ cs)
right_row cs q r true e h f = further_twice q r cs e (f h)
right_row cs q r false e h f = absurd (true≢false (sym (ap end_of h)))

label_goal : (cs : List Class) (b : Bool) → walk_by (cond b (Some (record { role = roles.GoalLabel; place = places.GoalColon })) (Some (record { role = roles.GoalName; place = places.GoalTerm }))) (λ q. walk q cs) ≡ Some places.End → (walk places.GoalColon cs ≡ Some places.End → GoalColonIs cs) → (walk places.GoalTerm cs ≡ Some places.End → LaterIs cs) → HeadIs (classes.Name ∷ cs)
label_goal cs true h f g = head_label cs (f h)
label_goal cs false h f g = head_goal (classes.Name ∷ cs) (goal_part (classes.Name ∷ cs) (part_name cs (g h)))

label_row : (cs : List Class) (b : Bool) → walk_by (cond b (Some (record { role = roles.RowLabel; place = places.RowColon })) (Some (record { role = roles.RowName; place = places.RowTerm None }))) (λ q. walk q cs) ≡ Some places.End → (walk places.RowColon cs ≡ Some places.End → RowColonIs cs) → (walk (places.RowTerm None) cs ≡ Some places.End → FurtherIs None cs) → RowsIs (classes.Name ∷ cs)
label_row cs true h f g = rows_label cs (f h)
label_row cs false h f g = let i = g h in rows_side (classes.Name ∷ cs) (side_right false (classes.Name ∷ cs) i.fs i.tail (on classes.Name i.is) i.rest)

name_bound : (cs : List Class) (r : Relation) (b : Bool) → agrees r (head cs) ≡ b → walk_by (cond b (Some (record { role = roles.BoundName r; place = places.BoundAgain })) (Some (record { role = roles.BoundName r; place = places.BoundHead }))) (λ q. walk q cs) ≡ Some places.End → (walk places.BoundAgain cs ≡ Some places.End → BoundAgainIs cs) → (walk places.BoundHead cs ≡ Some places.End → BoundsIs cs) → BoundNameIs r (classes.Name ∷ cs)
name_bound cs r true e h f g = name_again r cs e (f h)
name_bound cs r false e h f g = name_once r cs (g h)

left_bound : (n : Bool) (cs : List Class) → walk_by (bound_left (head cs)) (λ q. walk q cs) ≡ Some places.End → (walk places.BoundLeft cs ≡ Some places.End → AfterValue cs) → BoundSignedIs (value_end n ∷ cs)
left_bound n cs h f = signed_last n cs (f (sym (bound_left_place (head cs) (λ q. walk q cs)) ∙ h))

left_row : (cs : List Class) → walk_by (row_left (head cs)) (λ q. walk q cs) ≡ Some places.End → (walk places.RowLeft cs ≡ Some places.End → LeftIs cs) → SideIs (classes.Infinity ∷ cs)
left_row cs h f = side_left false cs (f (sym (row_left_place (head cs) (λ q. walk q cs)) ∙ h))

sound : (cs : List Class) (p : Place) → walk p cs ≡ Some places.End → Rest p cs
sound [] places.Start h = absurd (true≢false (sym (ap end_of h)))
sound ((classes.Goal z) ∷ cs) places.Start h = file_head z cs (sound cs places.GoalHead h)
sound (k ∷ cs) places.Start h = absurd (true≢false (sym (ap end_of h)))
sound [] places.GoalHead h = absurd (true≢false (sym (ap end_of h)))
sound (classes.Number ∷ cs) places.GoalHead h = head_goal (classes.Number ∷ cs) (goal_part (classes.Number ∷ cs) (number_signed cs (is_name_class (head cs)) refl h (sound cs places.GoalNumber) (sound cs places.GoalTerm)))
sound (classes.Name ∷ cs) places.GoalHead h = label_goal cs (is_colon_class (head cs)) h (sound cs places.GoalColon) (sound cs places.GoalTerm)
sound (classes.Plus ∷ cs) places.GoalHead h = head_goal (classes.Plus ∷ cs) (goal_turn Plus cs (sound cs places.GoalSigned h))
sound (classes.Minus ∷ cs) places.GoalHead h = head_goal (classes.Minus ∷ cs) (goal_turn Minus cs (sound cs places.GoalSigned h))
sound (classes.Rows ∷ cs) places.GoalHead h = head_goal (classes.Rows ∷ cs) (goal_tail (classes.Rows ∷ cs) (tail_rows cs (sound cs places.RowHead h)))
sound (classes.RowsPair ∷ cs) places.GoalHead h = head_goal (classes.RowsPair ∷ cs) (goal_tail (classes.RowsPair ∷ cs) (tail_pair cs (sound cs places.RowsSecond h)))
sound (k ∷ cs) places.GoalHead h = absurd (true≢false (sym (ap end_of h)))
sound [] places.GoalColon h = absurd (true≢false (sym (ap end_of h)))
sound (classes.Colon ∷ cs) places.GoalColon h = let i = (sound cs places.GoalFirst h) in record { g = i.g; tail = i.tail; is = on classes.Colon i.is; rest = i.rest }
sound (k ∷ cs) places.GoalColon h = absurd (true≢false (sym (ap end_of h)))
sound [] places.GoalFirst h = absurd (true≢false (sym (ap end_of h)))
sound (classes.Number ∷ cs) places.GoalFirst h = goal_part (classes.Number ∷ cs) (number_signed cs (is_name_class (head cs)) refl h (sound cs places.GoalNumber) (sound cs places.GoalTerm))
sound (classes.Name ∷ cs) places.GoalFirst h = goal_part (classes.Name ∷ cs) (part_name cs (sound cs places.GoalTerm h))
sound (classes.Plus ∷ cs) places.GoalFirst h = goal_turn Plus cs (sound cs places.GoalSigned h)
sound (classes.Minus ∷ cs) places.GoalFirst h = goal_turn Minus cs (sound cs places.GoalSigned h)
sound (classes.Rows ∷ cs) places.GoalFirst h = goal_tail (classes.Rows ∷ cs) (tail_rows cs (sound cs places.RowHead h))
sound (classes.RowsPair ∷ cs) places.GoalFirst h = goal_tail (classes.RowsPair ∷ cs) (tail_pair cs (sound cs places.RowsSecond h))
sound (k ∷ cs) places.GoalFirst h = absurd (true≢false (sym (ap end_of h)))
sound [] places.GoalSigned h = absurd (true≢false (sym (ap end_of h)))
sound (classes.Number ∷ cs) places.GoalSigned h = number_signed cs (is_name_class (head cs)) refl h (sound cs places.GoalNumber) (sound cs places.GoalTerm)
sound (classes.Name ∷ cs) places.GoalSigned h = part_name cs (sound cs places.GoalTerm h)
sound (classes.Plus ∷ cs) places.GoalSigned h = part_turn Plus cs (sound cs places.GoalSigned h)
sound (classes.Minus ∷ cs) places.GoalSigned h = part_turn Minus cs (sound cs places.GoalSigned h)
sound (k ∷ cs) places.GoalSigned h = absurd (true≢false (sym (ap end_of h)))
sound [] places.GoalNumber h = absurd (true≢false (sym (ap end_of h)))
sound (classes.Name ∷ cs) places.GoalNumber h = let i = (sound cs places.GoalTerm h) in record { ls = i.ls; tail = i.tail; is = on classes.Name i.is; rest = i.rest }
sound (k ∷ cs) places.GoalNumber h = absurd (true≢false (sym (ap end_of h)))
sound [] places.GoalTerm h = absurd (true≢false (sym (ap end_of h)))
sound (classes.Plus ∷ cs) places.GoalTerm h = later_turn Plus cs (sound cs places.GoalSigned h)
sound (classes.Minus ∷ cs) places.GoalTerm h = later_turn Minus cs (sound cs places.GoalSigned h)
sound (classes.Rows ∷ cs) places.GoalTerm h = later_tail (classes.Rows ∷ cs) (tail_rows cs (sound cs places.RowHead h))
sound (classes.RowsPair ∷ cs) places.GoalTerm h = later_tail (classes.RowsPair ∷ cs) (tail_pair cs (sound cs places.RowsSecond h))
sound (k ∷ cs) places.GoalTerm h = absurd (true≢false (sym (ap end_of h)))
sound [] places.RowsSecond h = absurd (true≢false (sym (ap end_of h)))
sound (classes.Name ∷ cs) places.RowsSecond h = record { more = cs; is = refl; rest = (sound cs places.RowHead h) }
sound (k ∷ cs) places.RowsSecond h = absurd (true≢false (sym (ap end_of h)))
sound [] places.RowHead h = absurd (true≢false (sym (ap end_of h)))
sound (classes.Number ∷ cs) places.RowHead h = rows_side (classes.Number ∷ cs) (number_row cs (is_name_class (head cs)) h (sound cs (places.RowNumber None)) (sound cs places.RowLeft))
sound (classes.Name ∷ cs) places.RowHead h = label_row cs (is_colon_class (head cs)) h (sound cs places.RowColon) (sound cs (places.RowTerm None))
sound (classes.Infinity ∷ cs) places.RowHead h = rows_side (classes.Infinity ∷ cs) (left_row cs h (sound cs places.RowLeft))
sound (classes.Plus ∷ cs) places.RowHead h = rows_side (classes.Plus ∷ cs) (side_turn Plus cs (sound cs places.RowFirst h))
sound (classes.Minus ∷ cs) places.RowHead h = rows_side (classes.Minus ∷ cs) (side_turn Minus cs (sound cs places.RowFirst h))
sound (classes.Bounds ∷ cs) places.RowHead h = rows_bounds cs (sound cs places.BoundHead h)
sound (classes.End ∷ cs) places.RowHead h = rows_end cs (sound cs places.End h)
sound (k ∷ cs) places.RowHead h = absurd (true≢false (sym (ap end_of h)))
sound [] places.RowColon h = absurd (true≢false (sym (ap end_of h)))
sound (classes.Colon ∷ cs) places.RowColon h = let i = (sound cs places.RowFirst h) in record { s = i.s; after = i.after; is = on classes.Colon i.is; closed = i.closed; rest = i.rest }
sound (k ∷ cs) places.RowColon h = absurd (true≢false (sym (ap end_of h)))
sound [] places.RowFirst h = absurd (true≢false (sym (ap end_of h)))
sound (classes.Number ∷ cs) places.RowFirst h = number_row cs (is_name_class (head cs)) h (sound cs (places.RowNumber None)) (sound cs places.RowLeft)
sound (classes.Name ∷ cs) places.RowFirst h = let i = (sound cs (places.RowTerm None) h) in side_right false (classes.Name ∷ cs) i.fs i.tail (on classes.Name i.is) i.rest
sound (classes.Infinity ∷ cs) places.RowFirst h = left_row cs h (sound cs places.RowLeft)
sound (classes.Plus ∷ cs) places.RowFirst h = side_turn Plus cs (sound cs places.RowFirst h)
sound (classes.Minus ∷ cs) places.RowFirst h = side_turn Minus cs (sound cs places.RowFirst h)
sound (k ∷ cs) places.RowFirst h = absurd (true≢false (sym (ap end_of h)))
sound [] places.RowLeft h = absurd (true≢false (sym (ap end_of h)))
sound ((classes.Relation q) ∷ cs) places.RowLeft h = let i = (sound cs (places.RowMiddle (Some q)) h) in record { r = q; t = i.t; fs = i.fs; tail = i.tail; is = on (classes.Relation q) i.is; rest = i.rest }
sound (k ∷ cs) places.RowLeft h = absurd (true≢false (sym (ap end_of h)))
sound [] (places.RowMiddle l) h = absurd (true≢false (sym (ap end_of h)))
sound (classes.Number ∷ cs) (places.RowMiddle l) h = terms_number l cs (sound cs (places.RowNumber l) h)
sound (classes.Name ∷ cs) (places.RowMiddle l) h = terms_name l (classes.Name ∷ cs) (name_row cs l h (sound cs (places.RowTerm l)) (sound cs places.RowHead))
sound (classes.Plus ∷ cs) (places.RowMiddle l) h = terms_turn Plus l cs (sound cs (places.RowMiddle l) h)
sound (classes.Minus ∷ cs) (places.RowMiddle l) h = terms_turn Minus l cs (sound cs (places.RowMiddle l) h)
sound (k ∷ cs) (places.RowMiddle l) h = absurd (true≢false (sym (ap end_of h)))
sound [] (places.RowNumber l) h = absurd (true≢false (sym (ap end_of h)))
sound (classes.Name ∷ cs) (places.RowNumber l) h = name_row cs l h (sound cs (places.RowTerm l)) (sound cs places.RowHead)
sound (k ∷ cs) (places.RowNumber l) h = absurd (true≢false (sym (ap end_of h)))
sound [] (places.RowTerm None) h = absurd (true≢false (sym (ap end_of h)))
sound ((classes.Relation q) ∷ cs) (places.RowTerm None) h = further_right q cs (sound cs (places.RowValue q) h)
sound (classes.Plus ∷ cs) (places.RowTerm None) h = further_turn Plus None cs (sound cs (places.RowMiddle None) h)
sound (classes.Minus ∷ cs) (places.RowTerm None) h = further_turn Minus None cs (sound cs (places.RowMiddle None) h)
sound (k ∷ cs) (places.RowTerm None) h = absurd (true≢false (sym (ap end_of h)))
sound [] (places.RowTerm (Some r)) h = absurd (true≢false (sym (ap end_of h)))
sound ((classes.Relation q) ∷ cs) (places.RowTerm (Some r)) h = right_row cs r q (agrees r (classes.Relation q)) refl h (sound cs (places.RowValue q))
sound (classes.Plus ∷ cs) (places.RowTerm (Some r)) h = further_turn Plus (Some r) cs (sound cs (places.RowMiddle (Some r)) h)
sound (classes.Minus ∷ cs) (places.RowTerm (Some r)) h = further_turn Minus (Some r) cs (sound cs (places.RowMiddle (Some r)) h)
sound (k ∷ cs) (places.RowTerm (Some r)) h = absurd (true≢false (sym (ap end_of h)))
sound [] (places.RowValue r) h = absurd (true≢false (sym (ap end_of h)))
sound (classes.Number ∷ cs) (places.RowValue r) h = value_last true cs (sound cs places.RowHead h)
sound (classes.Infinity ∷ cs) (places.RowValue r) h = value_last false cs (sound cs places.RowHead h)
sound (classes.Plus ∷ cs) (places.RowValue r) h = value_turn Plus cs (sound cs (places.RowValue r) h)
sound (classes.Minus ∷ cs) (places.RowValue r) h = value_turn Minus cs (sound cs (places.RowValue r) h)
sound (k ∷ cs) (places.RowValue r) h = absurd (true≢false (sym (ap end_of h)))
sound [] places.BoundHead h = absurd (true≢false (sym (ap end_of h)))
sound (classes.Number ∷ cs) places.BoundHead h = bounds_value (classes.Number ∷ cs) (left_bound true cs h (sound cs places.BoundLeft))
sound (classes.Name ∷ cs) places.BoundHead h = bounds_column cs (sound cs places.BoundColumn h)
sound (classes.Infinity ∷ cs) places.BoundHead h = bounds_value (classes.Infinity ∷ cs) (left_bound false cs h (sound cs places.BoundLeft))
sound (classes.Plus ∷ cs) places.BoundHead h = bounds_value (classes.Plus ∷ cs) (signed_turn Plus cs (sound cs places.BoundSigned h))
sound (classes.Minus ∷ cs) places.BoundHead h = bounds_value (classes.Minus ∷ cs) (signed_turn Minus cs (sound cs places.BoundSigned h))
sound (classes.End ∷ cs) places.BoundHead h = bounds_end cs (sound cs places.End h)
sound (k ∷ cs) places.BoundHead h = absurd (true≢false (sym (ap end_of h)))
sound [] places.BoundSigned h = absurd (true≢false (sym (ap end_of h)))
sound (classes.Number ∷ cs) places.BoundSigned h = left_bound true cs h (sound cs places.BoundLeft)
sound (classes.Infinity ∷ cs) places.BoundSigned h = left_bound false cs h (sound cs places.BoundLeft)
sound (classes.Plus ∷ cs) places.BoundSigned h = signed_turn Plus cs (sound cs places.BoundSigned h)
sound (classes.Minus ∷ cs) places.BoundSigned h = signed_turn Minus cs (sound cs places.BoundSigned h)
sound (k ∷ cs) places.BoundSigned h = absurd (true≢false (sym (ap end_of h)))
sound [] places.BoundLeft h = absurd (true≢false (sym (ap end_of h)))
sound ((classes.Relation q) ∷ cs) places.BoundLeft h = left_name q cs (sound cs (places.BoundName q) h)
sound (k ∷ cs) places.BoundLeft h = absurd (true≢false (sym (ap end_of h)))
sound [] (places.BoundName r) h = absurd (true≢false (sym (ap end_of h)))
sound (classes.Name ∷ cs) (places.BoundName r) h = name_bound cs r (agrees r (head cs)) refl h (sound cs places.BoundAgain) (sound cs places.BoundHead)
sound (k ∷ cs) (places.BoundName r) h = absurd (true≢false (sym (ap end_of h)))
sound [] places.BoundAgain h = absurd (true≢false (sym (ap end_of h)))
sound ((classes.Relation q) ∷ cs) places.BoundAgain h = let i = (sound cs (places.BoundValue q) h) in record { r = q; v = i.v; bs = i.bs; is = on (classes.Relation q) i.is }
sound (k ∷ cs) places.BoundAgain h = absurd (true≢false (sym (ap end_of h)))
sound [] places.BoundColumn h = absurd (true≢false (sym (ap end_of h)))
sound (classes.Free ∷ cs) places.BoundColumn h = let i = (sound cs places.BoundHead h) in Frees i.bs (on classes.Free i.is)
sound ((classes.Relation q) ∷ cs) places.BoundColumn h = let i = (sound cs (places.BoundValue q) h) in Sets q i.v i.bs (on (classes.Relation q) i.is)
sound (k ∷ cs) places.BoundColumn h = absurd (true≢false (sym (ap end_of h)))
sound [] (places.BoundValue r) h = absurd (true≢false (sym (ap end_of h)))
sound (classes.Number ∷ cs) (places.BoundValue r) h = bound_value_last true cs (sound cs places.BoundHead h)
sound (classes.Infinity ∷ cs) (places.BoundValue r) h = bound_value_last false cs (sound cs places.BoundHead h)
sound (classes.Plus ∷ cs) (places.BoundValue r) h = bound_value_turn Plus cs (sound cs (places.BoundValue r) h)
sound (classes.Minus ∷ cs) (places.BoundValue r) h = bound_value_turn Minus cs (sound cs (places.BoundValue r) h)
sound (k ∷ cs) (places.BoundValue r) h = absurd (true≢false (sym (ap end_of h)))
sound [] places.End h = refl
sound (classes.Number ∷ cs) places.End h = absurd (true≢false (sym (ap end_of h)))
sound (k ∷ cs) places.End h = absurd (true≢false (sym (ap end_of h)))

pub ends_are_files : EndsAreFiles
ends_are_files cs h = let i = sound cs places.Start h in (i.f, i.is, i.closed)
