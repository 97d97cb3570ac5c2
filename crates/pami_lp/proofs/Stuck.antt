-- A token that can't be taken: no file of the grammar begins so.
use Rattle.std.proofs.Common.{◌≡◌, false, true≢false, List, [], ◌∷◌, ◌++◌, Option, None, Some, is_some, refl, sym, ap, ◌∙◌}
use Rattle.pami_lp_text.specs.declared.kind.Class.{Class}
use Rattle.pami_lp.specs.declared.kind.Place.{Place}
use Rattle.pami_lp.specs.declared.kind.Place.TheVariants as places
use Rattle.pami_lp.specs.declared.kind.Move.{Move}
use Rattle.pami_lp.specs.Moves.{move_of}
use Rattle.pami_lp.proofs.Shape.{head, head_or, walk, walk_by, walk_to, RefusedIsStuck}
use Rattle.pami_lp.proofs.Grammars.{files_taken}
use Rattle.pami_lp.proofs.Takes.{takes_is}

none_by : (m : Option Move) → is_some m ≡ false → m ≡ None
none_by None h = refl
none_by (Some x) h = absurd (true≢false h)

refused_any : (p : Place) (c a b : Class) → move_of p c a ≡ None → move_of p c b ≡ None
refused_any p c a b h = none_by (move_of p c b) (takes_is p c b ∙ sym (takes_is p c a) ∙ ap is_some h)

head_front : (front : List Class) (c : Class) (rest : List Class) → head (front ++ c ∷ rest) ≡ head_or c front
head_front [] c rest = refl
head_front (d ∷ front) c rest = refl

abbrev pub bound_to : Option Place → (Place → Option Place) → Option Place
bound_to None f = None
bound_to (Some p) f = f p

pub split : (front : List Class) (p : Place) (c : Class) (rest : List Class) → walk p (front ++ c ∷ rest) ≡ bound_to (walk_to p front c) (λ q. walk q (c ∷ rest))
split [] p c rest = refl
split (d ∷ front) p c rest = ap (λ a. walk_by (move_of p d a) (λ q. walk q (front ++ c ∷ rest))) (head_front front c rest) ∙ go (move_of p d (head_or c front)) (λ q. split front q c rest)
  where
    go : (m : Option Move) → ((q : Place) → walk q (front ++ c ∷ rest) ≡ bound_to (walk_to q front c) (λ x. walk x (c ∷ rest))) → walk_by m (λ q. walk q (front ++ c ∷ rest)) ≡ bound_to (walk_by m (λ q. walk_to q front c)) (λ x. walk x (c ∷ rest))
    go None h = refl
    go (Some m) h = h m.place

no_place : {p : Place} → None ≡ Some p → ⊥
no_place e = true≢false (sym (ap is_some e))

pub refused_is_stuck : RefusedIsStuck
refused_is_stuck front c after p reached refused f closed rest is =
    no_place (
    sym (split front places.Start c rest ∙ ap (λ (x : Option Place). bound_to x (λ q. walk q (c ∷ rest))) reached ∙ ap (λ (m : Option Move). walk_by m (λ q. walk q rest)) (refused_any p c after (head rest) refused))
    ∙ ap (walk places.Start) (sym is) ∙ files_taken f closed)
