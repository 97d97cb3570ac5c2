-- Of a token that is no number, no name and no word for infinity the class says all.
use Rattle.std.proofs.Common.{◌≡◌, ℕ, Bool, true, false, true≢false, cond, ◌||◌, List, [], Option, None, Some, refl, sym}
use Rattle.pami_frac.specs.Answers.{then as chain}
use Rattle.pami_model.specs.declared.fault.FileKind.{FileKind}
use Rattle.std.proofs.Common.{Result, Ok, ap}
use Rattle.pami_lp_text.specs.declared.kind.Class.{Class}
use Rattle.pami_lp_text.specs.declared.kind.Class.TheVariants as classes
use Rattle.pami_lp.specs.declared.kind.Place.{Place}
use Rattle.pami_lp.specs.declared.kind.Place.TheVariants as places
use Rattle.pami_lp.specs.declared.kind.Move.{Move}
use Rattle.pami_lp.specs.declared.kind.Role.{Role}
use Rattle.pami_lp.specs.declared.kind.Role.TheVariants as roles
use Rattle.pami_lp.specs.Moves.{move_of, agrees}
use Rattle.pami_lp.specs.Acts.{Seen, act}
use Rattle.pami_lp.specs.Run.{done, step}
use Rattle.pami_lp.specs.Grammar.{said}

abbrev speaks : Class → Bool
speaks classes.Number = true
speaks classes.Name = true
speaks classes.Infinity = true
speaks c = false

abbrev is_silent : Role → Bool
is_silent (roles.Goal sense) = true
is_silent roles.Mark = true
is_silent roles.Plus = true
is_silent roles.Minus = true
is_silent roles.BoundFree = true
is_silent roles.End = true
is_silent r = false

abbrev silent : Option Move → Bool
silent None = true
silent (Some m) = is_silent m.role

pick : (b : Bool) (x y : Option Move) → silent x ≡ true → silent y ≡ true → silent (cond b x y) ≡ true
pick true x y h k = h
pick false x y h k = k

silent_there : (p : Place) (c a : Class) → (speaks c || silent (move_of p c a)) ≡ true
silent_there places.Start classes.Bad a = refl
silent_there places.Start k a = refl
silent_there places.GoalHead classes.Bad a = refl
silent_there places.GoalHead k a = refl
silent_there places.GoalColon classes.Bad a = refl
silent_there places.GoalColon k a = refl
silent_there places.GoalFirst classes.Bad a = refl
silent_there places.GoalFirst k a = refl
silent_there places.GoalSigned classes.Bad a = refl
silent_there places.GoalSigned k a = refl
silent_there places.GoalNumber classes.Bad a = refl
silent_there places.GoalNumber k a = refl
silent_there places.GoalTerm classes.Bad a = refl
silent_there places.GoalTerm k a = refl
silent_there places.RowsSecond classes.Bad a = refl
silent_there places.RowsSecond k a = refl
silent_there places.RowHead classes.Bad a = refl
silent_there places.RowHead k a = refl
silent_there places.RowColon classes.Bad a = refl
silent_there places.RowColon k a = refl
silent_there places.RowFirst classes.Bad a = refl
silent_there places.RowFirst k a = refl
silent_there places.RowLeft classes.Bad a = refl
silent_there places.RowLeft k a = refl
silent_there (places.RowMiddle l) classes.Bad a = refl
silent_there (places.RowMiddle l) k a = refl
silent_there (places.RowNumber l) classes.Bad a = refl
silent_there (places.RowNumber l) k a = refl
silent_there (places.RowTerm None) classes.Bad a = refl
silent_there (places.RowTerm None) k a = refl
silent_there (places.RowTerm (Some r)) (classes.Relation q) a = pick (agrees r (classes.Relation q)) _ _ refl refl
silent_there (places.RowTerm (Some r)) k a = refl
silent_there (places.RowValue r) classes.Bad a = refl
silent_there (places.RowValue r) k a = refl
silent_there places.BoundHead classes.Bad a = refl
silent_there places.BoundHead k a = refl
silent_there places.BoundSigned classes.Bad a = refl
silent_there places.BoundSigned k a = refl
silent_there places.BoundLeft classes.Bad a = refl
silent_there places.BoundLeft k a = refl
silent_there (places.BoundName r) classes.Bad a = refl
silent_there (places.BoundName r) k a = refl
silent_there places.BoundAgain classes.Bad a = refl
silent_there places.BoundAgain k a = refl
silent_there places.BoundColumn classes.Bad a = refl
silent_there places.BoundColumn k a = refl
silent_there (places.BoundValue r) classes.Bad a = refl
silent_there (places.BoundValue r) k a = refl
silent_there places.End classes.Bad a = refl
silent_there places.End k a = refl

act_silent : (s : Seen) (r : Role) (t u : List ℕ) → is_silent r ≡ true → act s r t ≡ act s r u
act_silent s (roles.Goal sense) t u e = refl
act_silent s roles.Mark t u e = refl
act_silent s roles.Plus t u e = refl
act_silent s roles.Minus t u e = refl
act_silent s roles.BoundFree t u e = refl
act_silent s roles.End t u e = refl
act_silent s r t u e = absurd (true≢false (sym e))

done_silent : (m : Option Move) (s : Seen) (c : Class) (t u : List ℕ) → silent m ≡ true → done m s c t ≡ done m s c u
done_silent None s c t u e = refl
done_silent (Some m) s c t u e = ap (λ (r : Result Seen FileKind). chain r (λ s. Ok (record s { place = m.place }))) (act_silent s m.role t u e)

-- a step reads of a token what the grammar reads of it
pub step_said : (s : Seen) (c a : Class) (t : List ℕ) → step s c a t ≡ step s c a (said c t)
step_said s classes.Number a t = refl
step_said s classes.Name a t = refl
step_said s classes.Infinity a t = refl
step_said s classes.Free a t = done_silent (move_of s.place classes.Free a) s classes.Free t [] (silent_there s.place classes.Free a)
step_said s (classes.Relation q) a t = done_silent (move_of s.place (classes.Relation q) a) s (classes.Relation q) t [] (silent_there s.place (classes.Relation q) a)
step_said s classes.Plus a t = done_silent (move_of s.place classes.Plus a) s classes.Plus t [] (silent_there s.place classes.Plus a)
step_said s classes.Minus a t = done_silent (move_of s.place classes.Minus a) s classes.Minus t [] (silent_there s.place classes.Minus a)
step_said s classes.Colon a t = done_silent (move_of s.place classes.Colon a) s classes.Colon t [] (silent_there s.place classes.Colon a)
step_said s (classes.Goal z) a t = done_silent (move_of s.place (classes.Goal z) a) s (classes.Goal z) t [] (silent_there s.place (classes.Goal z) a)
step_said s classes.Rows a t = done_silent (move_of s.place classes.Rows a) s classes.Rows t [] (silent_there s.place classes.Rows a)
step_said s classes.RowsPair a t = done_silent (move_of s.place classes.RowsPair a) s classes.RowsPair t [] (silent_there s.place classes.RowsPair a)
step_said s classes.Bounds a t = done_silent (move_of s.place classes.Bounds a) s classes.Bounds t [] (silent_there s.place classes.Bounds a)
step_said s classes.End a t = done_silent (move_of s.place classes.End a) s classes.End t [] (silent_there s.place classes.End a)
step_said s classes.Whole a t = done_silent (move_of s.place classes.Whole a) s classes.Whole t [] (silent_there s.place classes.Whole a)
step_said s classes.Bad a t = done_silent (move_of s.place classes.Bad a) s classes.Bad t [] (silent_there s.place classes.Bad a)
