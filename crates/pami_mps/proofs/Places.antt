-- Tests and changes by place, in the words of the lists that code holds.
use Rattle.std.proofs.Common.{◌≡◌, ◌<◌, ℕ, zero, suc, List, [], ◌∷◌, length, get_or, Option, None, Some, is_some, refl, sym, ap, ◌∙◌, arith}
use Rattle.std.proofs.Math.ListN.{set}
use Rattle.std.specs.List.{list_any}
use Rattle.std.specs.Str.{bytes_eq}
use Rattle.pami_model.specs.Draft.{place_of, changed}
use Rattle.pami_mps.proofs.Changed.{changed_step, place_none, place_some}

-- a name stands exactly where it has a place
pub any_is_place : (n : List ℕ) (names : List (List ℕ)) → list_any (bytes_eq n) names ≡ is_some (place_of n names)
any_is_place n names = by (place_of n names) refl
  where
    by : (o : Option ℕ) → place_of n names ≡ o → list_any (bytes_eq n) names ≡ is_some (place_of n names)
    by None e = place_none n names e ∙ sym (ap is_some e)
    by (Some i) e = place_some n names i e ∙ sym (ap is_some e)

pub changed_set : {A : Type 0} (i : ℕ) (f : A → A) (xs : List A) (d : A) → i < length xs → changed i f xs ≡ set xs i (f (get_or xs i d))
changed_set i f [] d lt = absurd (omega arith)
changed_set zero f (x ∷ xs) d lt = refl
changed_set (suc i) f (x ∷ xs) d lt = changed_step i f x xs ∙ ap (λ ys. x ∷ ys) (changed_set i f xs d (omega arith))

-- within the list the member that stands for a missing one says nothing
pub at_any : {A : Type 0} (xs : List A) (i : ℕ) (d e : A) → i < length xs → get_or xs i d ≡ get_or xs i e
at_any [] i d e lt = absurd (omega arith)
at_any (x ∷ xs) zero d e lt = refl
at_any (x ∷ xs) (suc i) d e lt = at_any xs i d e (omega arith)
