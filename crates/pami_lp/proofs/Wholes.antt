-- Tokens that are walked over begin files of the grammar, and those that lead to the end are whole files.
use Rattle.std.proofs.Common.{◌≡◌, Bool, true, false, true≢false, List, [], ◌∷◌, ◌++◌, map, Option, None, Some, Ok, refl, sym, ap, ◌∙◌}
use Rattle.std.proofs.lemmas.List.{map-append}
use Rattle.pami_lp_text.specs.Classes.{Symbol}
use Rattle.pami_lp_text.specs.declared.kind.Class.{Class}
use Rattle.pami_lp_text.specs.declared.kind.Class.TheVariants as classes
use Rattle.pami_lp.specs.declared.kind.Place.{Place}
use Rattle.pami_lp.specs.declared.kind.Place.TheVariants as places
use Rattle.pami_lp.specs.declared.kind.Move.{Move}
use Rattle.pami_lp.specs.Acts.{Seen}
use Rattle.pami_lp.specs.Grammar.{Item, file, item_of, items_of}
use Rattle.pami_lp.specs.Lp.{Begins, IsWhole, known}
use Rattle.pami_lp.specs.Moves.{move_of}
use Rattle.pami_lp.specs.Outcome.{is_end}
use Rattle.pami_lp.specs.Run.{start}
use Rattle.pami_lp.proofs.Shape.{walk, walk_to}
use Rattle.pami_lp.proofs.Shape as shape
use Rattle.pami_lp.proofs.Behinds.{closed_before}
use Rattle.pami_lp.proofs.Fills.{fill}
use Rattle.pami_lp.proofs.Grammars.{files_taken}
use Rattle.pami_lp.proofs.Parsed.{ends_are_files}
use Rattle.pami_lp.proofs.Shapes.{classes_in, file_closed, file_is, file_shape}
use Rattle.pami_lp.proofs.Stepped.{classes_of, end_is, looks, walk_is, walked}
use Rattle.pami_lp.proofs.Stuck.{refused_is_stuck}
use Rattle.pami_lp.proofs.Viable.{taken_is_viable}

classes_items : (ts : List Symbol) → classes_in (items_of ts) ≡ classes_of ts
classes_items [] = refl
classes_items (t ∷ ts) = ap (λ (cs : List Class). t.class ∷ cs) (classes_items ts)

abbrev is_list : {A : Type 0} → List A → Bool
is_list [] = false
is_list (x ∷ xs) = true

no_items : (ts : List Symbol) → classes_of ts ≡ [] → items_of ts ≡ []
no_items [] e = refl
no_items (t ∷ ts) e = absurd (true≢false (ap is_list e))

pub items_append : (xs ys : List Symbol) → items_of (xs ++ ys) ≡ items_of xs ++ items_of ys
items_append [] ys = refl
items_append (x ∷ xs) ys = ap (λ (is : List Item). item_of x ∷ is) (items_append xs ys)

classes_append : (xs ys : List Symbol) → classes_of (xs ++ ys) ≡ classes_of xs ++ classes_of ys
classes_append [] ys = refl
classes_append (x ∷ xs) ys = ap (λ (cs : List Class). x.class ∷ cs) (classes_append xs ys)

-- ---- whole files

pub whole_of : (front : List Symbol) → walk places.Start (classes_of front) ≡ Some places.End → IsWhole (items_of front)
whole_of front h =
    let w = ends_are_files (classes_of front) h in
    let i = fill w.0 front [] w.1 w.2 in
    record { tree = i.tree; is = i.is ∙ ap (file i.tree) (no_items i.after i.rest); closed = closed_before i.tree (items_of i.after) [] i.closed }

whole_walk : (front : List Symbol) → IsWhole (items_of front) → walk places.Start (classes_of front) ≡ Some places.End
whole_walk front w =
    ap (λ (cs : List Class). walk places.Start cs) (sym (classes_items front) ∙ ap classes_in w.is ∙ file_is w.tree) ∙ files_taken (file_shape w.tree) (file_closed w.tree w.closed)

abbrev place_or : Place → Option Place → Place
place_or d None = d
place_or d (Some p) = p

-- known tokens are a whole file exactly where the reader is at its end
pub whole_end : (front : List Symbol) (next : Class) (x : Seen) → known start front next ≡ Ok x → IsWhole (items_of front) → is_end x.place ≡ true
whole_end front next x h w =
    let e : walk_to places.Start (classes_of front) next ≡ Some places.End = looks (classes_of front) places.Start classes.Bad next (sym (walk_is (classes_of front) places.Start) ∙ whole_walk front w) in
    ap (λ (o : Option Place). is_end (place_or places.Start o)) (sym (walked front start x next h) ∙ e)

pub end_whole : (front : List Symbol) (next : Class) (x : Seen) → known start front next ≡ Ok x → is_end x.place ≡ true → IsWhole (items_of front)
end_whole front next x h e =
    whole_of front (walk_is (classes_of front) places.Start ∙ looks (classes_of front) places.Start next classes.Bad (walked front start x next h ∙ ap (λ (p : Place). Some p) (end_is x.place e)))

pub open_of : (front : List Symbol) (next : Class) (x : Seen) → known start front next ≡ Ok x → is_end x.place ≡ false → ¬ IsWhole (items_of front)
open_of front next x h e w = true≢false (sym (whole_end front next x h w) ∙ e)

pub open_is : (front : List Symbol) (next : Class) (x : Seen) → known start front next ≡ Ok x → ¬ IsWhole (items_of front) → is_end x.place ≡ false
open_is front next x h n = by (is_end x.place) refl
  where
    by : (b : Bool) → is_end x.place ≡ b → is_end x.place ≡ false
    by true e = absurd (n (end_whole front next x h e))
    by false e = e

-- ---- beginnings of files

abbrev dummies : List Class → List Symbol
dummies cs = map (λ (c : Class). record { class = c; text = []; line = 0 }) cs

dummies_are : (cs : List Class) → classes_of (dummies cs) ≡ cs
dummies_are [] = refl
dummies_are (c ∷ cs) = ap (λ (ds : List Class). c ∷ ds) (dummies_are cs)

append_one : {A : Type 0} (xs : List A) (y : A) (ys : List A) → (xs ++ y ∷ []) ++ ys ≡ xs ++ y ∷ ys
append_one [] y ys = refl
append_one (x ∷ xs) y ys = ap (λ zs. x ∷ zs) (append_one xs y ys)

module _ (front : List Symbol) (token : Symbol) (x : Seen) (good : known start front token.class ≡ Ok x) (after : Class) where
  -- a token that is taken: some file begins so
  pub taken_begins : (m : Move) → move_of x.place token.class after ≡ Some m → Begins (items_of (front ++ token ∷ []))
  taken_begins m e =
      let v = taken_is_viable (classes_of front) token.class after x.place m (walked front start x token.class good) e in
      let ts : List Symbol = (front ++ token ∷ []) ++ dummies v.1 in
      let cs : classes_of ((front ++ token ∷ []) ++ dummies v.1) ≡ shape.file v.0 =
      classes_append (front ++ token ∷ []) (dummies v.1) ∙ ap (λ (cs : List Class). cs ++ classes_of (dummies v.1)) (classes_append front (token ∷ [])) ∙ append_one (classes_of front) token.class (classes_of (dummies v.1))
      ∙ ap (λ (ds : List Class). classes_of front ++ token.class ∷ ds) (dummies_are v.1) ∙ sym v.2 in
      let i = fill v.0 ((front ++ token ∷ []) ++ dummies v.1) [] cs v.3 in
      record {
        tree = i.tree;
        rest = items_of (dummies v.1);
        is = sym (sym (items_append (front ++ token ∷ []) (dummies v.1)) ∙ i.is ∙ ap (file i.tree) (no_items i.after i.rest));
        closed = closed_before i.tree (items_of i.after) [] i.closed;
      }

  -- a token that is refused: no file begins so
  pub refused_begins : move_of x.place token.class after ≡ None → ¬ Begins (items_of (front ++ token ∷ []))
  refused_begins e b =
      refused_is_stuck (classes_of front) token.class after x.place (walked front start x token.class good) e (file_shape b.tree) (file_closed b.tree b.closed) (classes_in b.rest)
      (sym (file_is b.tree) ∙ ap classes_in b.is ∙ map-append (λ (i : Item). i.class) (items_of (front ++ token ∷ [])) b.rest
      ∙ ap (λ (cs : List Class). cs ++ classes_in b.rest) (classes_items (front ++ token ∷ []) ∙ classes_append front (token ∷ [])) ∙ append_one (classes_of front) token.class (classes_in b.rest))
