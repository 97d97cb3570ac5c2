-- The keys of a set of names, as names.
use Rattle.std.proofs.Common.{◌≡◌, ◌+◌, ◌||◌, ℕ, Bool, false, cond, not, eqb, List, [], ◌∷◌, ◌++◌, map, nat_lt, None, Some, refl, sym, ap, ◌∙◌}
use Rattle.std.specs.Global.{Vec}
use Rattle.std.specs.List.{list_any, position_or_len, position}
use Rattle.std.specs.Str.{bytes_eq}
use Rattle.std.specs.Cmp.Lexicographic.{pointwise}
use Rattle.std.proofs.lemmas.List.{length-map}
use Rattle.indexmap.specs.IndexSet.{insert_key}
use Rattle.pami_model.specs.Draft.{place_of}

abbrev pub key_eq : Vec ℕ → Vec ℕ → Bool
key_eq x y = pointwise eqb x.items y.items

abbrev pub names_in : List (Vec ℕ) → List (List ℕ)
names_in keys = map (λ name. name.items) keys

module _ (q : List ℕ) where
  pub list_any-names : (ks : List (Vec ℕ)) → list_any (bytes_eq q) (names_in ks) ≡ list_any (λ k. pointwise eqb q k.items) ks
  list_any-names [] = refl
  list_any-names (k ∷ ks) = ap (λ (b : Bool). pointwise eqb q k.items || b) (list_any-names ks)

  position_or_len-names : (ks : List (Vec ℕ)) → position_or_len (bytes_eq q) (names_in ks) ≡ position_or_len (λ k. pointwise eqb q k.items) ks
  position_or_len-names [] = refl
  position_or_len-names (k ∷ ks) = ap (λ (n : ℕ). cond (not (pointwise eqb q k.items)) (1 + n) 0) (position_or_len-names ks)

  pub place_of-names : (ks : List (Vec ℕ)) → place_of q (names_in ks) ≡ position (λ k. pointwise eqb q k.items) ks
  place_of-names ks i = let n = position_or_len-names ks i in cond (nat_lt n (length-map ks (λ name. name.items) i)) (Some n) None

-- a new name goes last
pub insert_key-new : (ks : List (Vec ℕ)) (k : Vec ℕ) → list_any (bytes_eq k.items) (names_in ks) ≡ false
    → names_in (insert_key key_eq ks k) ≡ names_in ks ++ k.items ∷ []
insert_key-new ks k new = ap (λ (b : Bool). names_in (cond b ks (ks ++ k ∷ []))) (sym (list_any-names k.items ks) ∙ new) ∙ pushed ks
  where
    pushed : (xs : List (Vec ℕ)) → names_in (xs ++ k ∷ []) ≡ names_in xs ++ k.items ∷ []
    pushed [] = refl
    pushed (x ∷ xs) = ap (λ (ns : List (List ℕ)). x.items ∷ ns) (pushed xs)
