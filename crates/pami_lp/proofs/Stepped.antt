-- What a step that is taken says of places, and what known tokens say of the walk over their classes.
use Rattle.std.proofs.Common.{◌≡◌, ℕ, Bool, true, false, true≢false, List, [], ◌∷◌, map, fold, Option, None, Some, is_some, Result, Ok, Err, is_ok, refl, sym, ap, ◌∙◌}
use Rattle.pami_frac.specs.Answers.{then as chain}
use Rattle.pami_model.specs.declared.fault.FileKind.{FileKind}
use Rattle.pami_lp_text.specs.declared.kind.Class.{Class}
use Rattle.pami_lp_text.specs.declared.kind.Class.TheVariants as classes
use Rattle.pami_lp_text.specs.Classes.{Symbol}
use Rattle.pami_lp.specs.declared.kind.Place.{Place}
use Rattle.pami_lp.specs.declared.kind.Place.TheVariants as places
use Rattle.pami_lp.specs.declared.kind.Move.{Move}
use Rattle.pami_lp.specs.declared.kind.Section.{Section}
use Rattle.pami_lp.specs.Acts.{Seen, act}
use Rattle.pami_lp.specs.Lp.{class_or, known}
use Rattle.pami_lp.specs.Moves.{move_of, section_at}
use Rattle.pami_lp.specs.Outcome.{is_end}
use Rattle.pami_lp.specs.Run.{done, step}
use Rattle.pami_lp.specs.Sections.{section_behind}
use Rattle.pami_lp.proofs.Shape.{head_or, walk, walk_by, walk_to}
use Rattle.pami_lp.proofs.Ends.{ends_is, ends_move}
use Rattle.pami_lp.proofs.Landings.{section_moved}

abbrev pub classes_of : List Symbol → List Class
classes_of ts = map (λ (t : Symbol). t.class) ts

pub not_ok : {A B : Type 0} {k : FileKind} {x : A} → ◌≡◌ {A = Result A FileKind} (Err k) (Ok x) → B
not_ok e = absurd (true≢false (sym (ap is_ok e)))

abbrev ok_or : {A : Type 0} → A → Result A FileKind → A
ok_or d (Ok x) = x
ok_or d (Err k) = d

pub ok_same : {A : Type 0} {x y : A} → ◌≡◌ {A = Result A FileKind} (Ok x) (Ok y) → x ≡ y
ok_same {x = x} e = ap (ok_or x) e

-- a step that was taken, by its move
pub record Moved (s y : Seen) (c a : Class) : Type 0 where
  pub move : Move
  pub is : move_of s.place c a ≡ Some move
  pub place : move.place ≡ y.place

acted : (s y : Seen) (c a : Class) (m : Move) (r : Result Seen FileKind) → move_of s.place c a ≡ Some m → chain r (λ x. Ok (record x { place = m.place })) ≡ Ok y → Moved s y c a
acted s y c a m (Ok x) e h = record { move = m; is = e; place = ap (λ (z : Seen). z.place) (ok_same h) }
acted s y c a m (Err k) e h = not_ok h

pub moved : (s y : Seen) (c a : Class) (t : List ℕ) → step s c a t ≡ Ok y → Moved s y c a
moved s y c a t h = by (move_of s.place c a) refl h
  where
    by : (m : Option Move) → move_of s.place c a ≡ m → done m s c t ≡ Ok y → Moved s y c a
    by None e g = not_ok g
    by (Some m) e g = acted s y c a m (act s m.role t) e g

-- behind the end nothing can be taken
end_takes_none : (p : Place) (c a : Class) → is_end p ≡ true → move_of p c a ≡ None
end_takes_none places.End c a e = refl
end_takes_none p c a e = absurd (true≢false (sym e))

-- what can be taken isn't behind the end
pub taken_open : (s y : Seen) (c a : Class) (t : List ℕ) → step s c a t ≡ Ok y → is_end s.place ≡ false
taken_open s y c a t h = by (is_end s.place) refl
  where
    by : (b : Bool) → is_end s.place ≡ b → is_end s.place ≡ false
    by true e = let m = moved s y c a t h in absurd (true≢false (sym (ap is_some (sym (end_takes_none s.place c a e) ∙ m.is))))
    by false e = e

-- ---- known tokens

-- the first of known tokens, and those behind it
pub record Unfolded (s x : Seen) (t : Symbol) (ts : List Symbol) (next : Class) : Type 0 where
  pub then : Seen
  pub first : step s t.class (class_or next ts) t.text ≡ Ok then
  pub rest : known then ts next ≡ Ok x

pub unfolded : (s x : Seen) (t : Symbol) (ts : List Symbol) (next : Class) → known s (t ∷ ts) next ≡ Ok x → Unfolded s x t ts next
unfolded s x t ts next h = by (step s t.class (class_or next ts) t.text) refl h
  where
    by : (r : Result Seen FileKind) → step s t.class (class_or next ts) t.text ≡ r → chain r (λ y. known y ts next) ≡ Ok x → Unfolded s x t ts next
    by (Ok y) e g = record { then = y; first = e; rest = g }
    by (Err k) e g = not_ok g

-- known tokens don't end the file before their last
pub open_before : (ts : List Symbol) (s x : Seen) (next : Class) → known s ts next ≡ Ok x → is_end x.place ≡ false → is_end s.place ≡ false
open_before [] s x next h e = ap (λ (y : Seen). is_end y.place) (ok_same h) ∙ e
open_before (t ∷ ts) s x next h e = let u = unfolded s x t ts next h in taken_open s u.then t.class (class_or next ts) t.text u.first

same_next : (next : Class) (ts : List Symbol) → class_or next ts ≡ head_or next (classes_of ts)
same_next next [] = refl
same_next next (t ∷ ts) = refl

-- known tokens are walked over
pub walked : (ts : List Symbol) (s x : Seen) (next : Class) → known s ts next ≡ Ok x → walk_to s.place (classes_of ts) next ≡ Some x.place
walked [] s x next h = ap (λ (y : Seen). Some y.place) (ok_same h)
walked (t ∷ ts) s x next h =
    let u = unfolded s x t ts next h in
    let m = moved s u.then t.class (class_or next ts) t.text u.first in
    ap (λ (a : Class). walk_by (move_of s.place t.class a) (λ q. walk_to q (classes_of ts) next)) (sym (same_next next ts))
    ∙ ap (λ (o : Option Move). walk_by o (λ q. walk_to q (classes_of ts) next)) m.is
    ∙ ap (λ (q : Place). walk_to q (classes_of ts) next) m.place ∙ walked ts u.then x next u.rest

-- and lead to the section behind them
pub sectioned : (ts : List Symbol) (s x : Seen) (next : Class) → known s ts next ≡ Ok x → is_end x.place ≡ false
    → section_at x.place ≡ fold (λ z (t : Symbol). section_behind z t.class) (section_at s.place) ts
sectioned [] s x next h e = ap (λ (y : Seen). section_at y.place) (sym (ok_same h))
sectioned (t ∷ ts) s x next h e =
    let u = unfolded s x t ts next h in
    let m = moved s u.then t.class (class_or next ts) t.text u.first in
    let unended : is_end u.then.place ≡ false = open_before ts u.then x next u.rest e in
    let there : section_at u.then.place ≡ section_behind (section_at s.place) t.class =
    ap section_at (sym m.place) ∙ section_moved s.place t.class (class_or next ts) m.move m.is (ap is_end m.place ∙ unended) in
    sectioned ts u.then x next u.rest e ∙ ap (λ (z : Section). fold (λ z (t : Symbol). section_behind z t.class) z ts) there

-- ---- walks to the end don't depend on what follows

pub walk_is : (cs : List Class) (p : Place) → walk p cs ≡ walk_to p cs classes.Bad
walk_is [] p = refl
walk_is (c ∷ cs) p =
    ap (λ (a : Class). walk_by (move_of p c a) (λ q. walk q cs)) (by cs) ∙ same (move_of p c (head_or classes.Bad cs)) (λ q. walk_is cs q)
  where
    by : (ds : List Class) → Rattle.pami_lp.proofs.Shape.head ds ≡ head_or classes.Bad ds
    by [] = refl
    by (d ∷ ds) = refl

    same : (m : Option Move) → ((q : Place) → walk q cs ≡ walk_to q cs classes.Bad) → walk_by m (λ q. walk q cs) ≡ walk_by m (λ q. walk_to q cs classes.Bad)
    same None f = refl
    same (Some m) f = f m.place

pub end_is : (p : Place) → is_end p ≡ true → p ≡ places.End
end_is places.End e = refl
end_is p e = absurd (true≢false (sym e))

abbrev is_at_end : Option Place → Bool
is_at_end None = false
is_at_end (Some p) = is_end p

last_ends : (m : Option Move) → walk_by m (λ q. Some q) ≡ Some places.End → ends_move m ≡ true
last_ends None e = absurd (true≢false (sym (ap is_at_end e)))
last_ends (Some m) e = ap is_at_end e

ends_last : (m : Option Move) → ends_move m ≡ true → walk_by m (λ q. Some q) ≡ Some places.End
ends_last None e = absurd (true≢false (sym e))
ends_last (Some m) e = ap (λ (q : Place). Some q) (end_is m.place e)

pub looks : (cs : List Class) (p : Place) (a b : Class) → walk_to p cs a ≡ Some places.End → walk_to p cs b ≡ Some places.End
looks [] p a b h = h
looks (c ∷ []) p a b h = ends_last (move_of p c b) (ends_is p c b ∙ sym (ends_is p c a) ∙ last_ends (move_of p c a) h)
looks (c ∷ d ∷ cs) p a b h = by (move_of p c d) h (λ q. looks (d ∷ cs) q a b)
  where
    by : (m : Option Move) → walk_by m (λ q. walk_to q (d ∷ cs) a) ≡ Some places.End → ((q : Place) → walk_to q (d ∷ cs) a ≡ Some places.End → walk_to q (d ∷ cs) b ≡ Some places.End) → walk_by m (λ q. walk_to q (d ∷ cs) b) ≡ Some places.End
    by None e f = e
    by (Some m) e f = f m.place e
