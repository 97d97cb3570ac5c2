-- Which of some tasks is refused first.
use Rattle.std.proofs.Common.{◌≡◌, ℕ, ◌+◌, ◌<◌, ◌≤◌, List, [], ◌∷◌, ◌++◌, map, drop, length, get_or, Option, None, Some, refl, ap, ◌∙◌}
use Rattle.std.proofs.lemmas.List.{drop_more, drop_all}
use Rattle.pami_frac.specs.declared.arithmetic.Refused.{Refused}
use Rattle.pami_method.specs.declared.words.Place.{Place}
use Rattle.pami_method.specs.declared.words.Spot.{Spot}
use Rattle.pami_method.specs.Task.{Task}
use Rattle.pami_method.specs.Work.{refused_or, first_refused}

-- ---- tasks behind one another
front_or : (x : Option Refused) (spot : Spot) (u v : Option Place) (at : Place) → refused_or x spot u ≡ Some at → (u ≡ Some at → v ≡ Some at)
    → refused_or x spot v ≡ Some at
front_or None spot u v at e h = h e
front_or (Some r) spot u v at e h = e

-- a refusal of those in front is that of all
pub front_refused : (ts us : List Task) (at : Place) → first_refused ts ≡ Some at → first_refused (ts ++ us) ≡ Some at
front_refused [] us at e = absurd (cc)
front_refused (t ∷ ts) us at e = front_or t.refusal t.spot (first_refused ts) (first_refused (ts ++ us)) at e (front_refused ts us at)

back_or : (x : Option Refused) (spot : Spot) (u v w : Option Place) → refused_or x spot u ≡ None → (u ≡ None → v ≡ w) → refused_or x spot v ≡ w
back_or None spot u v w e h = h e
back_or (Some r) spot u v w e h = absurd (cc)

-- where none in front is refused, what is left decides
pub front_fits : (ts us : List Task) → first_refused ts ≡ None → first_refused (ts ++ us) ≡ first_refused us
front_fits [] us e = refl
front_fits (t ∷ ts) us e = back_or t.refusal t.spot (first_refused ts) (first_refused (ts ++ us)) (first_refused us) e (front_fits ts us)

pub both_fit : (ts us : List Task) → first_refused ts ≡ None → first_refused us ≡ None → first_refused (ts ++ us) ≡ None
both_fit ts us e h = front_fits ts us e ∙ h

-- ---- a task for each member of a list

-- those of the first i members fit: the others decide
pub record RestDecides {A : Type 0} (t : A → Task) (xs : List A) (i : ℕ) : Type 0 where
  pub decides : first_refused (map t xs) ≡ first_refused (map t (drop i xs))

pub rest_begins : {A : Type 0} (t : A → Task) (xs : List A) → RestDecides t xs 0
rest_begins t xs = record { decides = refl }

here_first : {A : Type 0} (t : A → Task) (xs : List A) (i : ℕ) (x : A) → RestDecides t xs i → i < length xs → get_or xs i x ≡ x
    → first_refused (map t xs) ≡ first_refused ((t x ∷ []) ++ map t (drop (i + 1) xs))
here_first t xs i x h l e =
    h.decides ∙ ap (λ ys. first_refused (map t ys)) (drop_more xs i x l) ∙ ap (λ y. first_refused (t y ∷ map t (drop (i + 1) xs))) e

pub rest_goes : {A : Type 0} (t : A → Task) (xs : List A) (i : ℕ) (x : A) → RestDecides t xs i → i < length xs → get_or xs i x ≡ x
    → first_refused (t x ∷ []) ≡ None → RestDecides t xs (i + 1)
rest_goes t xs i x h l e fits =
    record { decides = here_first t xs i x h l e ∙ front_fits (t x ∷ []) (map t (drop (i + 1) xs)) fits }

pub rest_refused : {A : Type 0} (t : A → Task) (xs : List A) (i : ℕ) (x : A) (place : Place) → RestDecides t xs i → i < length xs → get_or xs i x ≡ x
    → first_refused (t x ∷ []) ≡ Some place → first_refused (map t xs) ≡ Some place
rest_refused t xs i x place h l e refused =
    here_first t xs i x h l e ∙ front_refused (t x ∷ []) (map t (drop (i + 1) xs)) place refused

pub rest_ends : {A : Type 0} (t : A → Task) (xs : List A) (i : ℕ) → RestDecides t xs i → length xs ≤ i → first_refused (map t xs) ≡ None
rest_ends t xs i h l = h.decides ∙ ap (λ ys. first_refused (map t ys)) (drop_all i xs l)
