-- Lists with one member changed, and the table behind them.
use Rattle.std.proofs.Common.{◌≡◌, ◌+◌, ◌<◌, ℕ, suc, zero, false, List, [], ◌∷◌, map, length, None, Some, slice_get, get_or, refl, sym, ap, ◌∙◌, subst, arith, sub-one, nat_eq, if◌then◌else◌}
use Rattle.std.proofs.lemmas.Bool.{ne_eqb}
use Rattle.std.specs.Global.{Vec}
use Rattle.std.specs.List.{All, sum_by}
use Rattle.std.specs.Map.{values_of}
use Rattle.std.proofs.lemmas.List.Elements.{All-cons, All-head, All-tail}
use Rattle.std.proofs.lemmas.List.Sums.{sum_by-cons}
use Rattle.indexmap.specs.Layout.{set_value_at}
use Rattle.pami_model.specs.Draft.{changed}
use Rattle.pami_model.specs.Build.{AllPlaces, named}

module _ {A : Type 0} (f : A → A) where
  pub changed-suc : (i : ℕ) (x : A) (xs : List A) → changed (suc i) f (x ∷ xs) ≡ x ∷ changed i f xs
  changed-suc i x xs = let e : nat_eq (suc i) 0 ≡ false = ne_eqb (suc i) 0 (λ h. absurd (omega arith)) in λ j. if e j then f x ∷ xs else x ∷ changed (sub-one (suc i) j) f xs

  -- a change that changes nothing
  pub changed-same : ((x : A) → f x ≡ x) → (i : ℕ) (xs : List A) → changed i f xs ≡ xs
  changed-same same i [] = refl
  changed-same same zero (x ∷ xs) = ap (λ y. y ∷ xs) (same x)
  changed-same same (suc i) (x ∷ xs) = changed-suc i x xs ∙ ap (λ ys. x ∷ ys) (changed-same same i xs)

  pub length-changed : (i : ℕ) (xs : List A) → length (changed i f xs) ≡ length xs
  length-changed i [] = refl
  length-changed zero (x ∷ xs) = refl
  length-changed (suc i) (x ∷ xs) = ap length (changed-suc i x xs) ∙ ap suc (length-changed i xs)

  pub map-changed : {B : Type 0} (g : A → B) → ((x : A) → g (f x) ≡ g x) → (i : ℕ) (xs : List A) → map g (changed i f xs) ≡ map g xs
  map-changed g same i [] = refl
  map-changed g same zero (x ∷ xs) = ap (λ y. y ∷ map g xs) (same x)
  map-changed g same (suc i) (x ∷ xs) = ap (map g) (changed-suc i x xs) ∙ ap (λ ys. g x ∷ ys) (map-changed g same i xs)

  pub All-changed : (P : A → Type 0) → ((x : A) → P x → P (f x)) → (i : ℕ) (xs : List A) → All P xs → All P (changed i f xs)
  All-changed P one i [] h = h
  All-changed P one zero (x ∷ xs) h = All-cons P (f x) xs (one x (All-head P x xs h)) (All-tail P x xs h)
  All-changed P one (suc i) (x ∷ xs) h = subst (All P) (sym (changed-suc i x xs)) (All-cons P x (changed i f xs) (All-head P x xs h) (All-changed P one i xs (All-tail P x xs h)))

  pub AllPlaces-changed : (P Q : ℕ → A → Type 0) (at : ℕ) → ((j : ℕ) (x : A) → P j x → Q j x) → ((x : A) → P at x → Q at (f x)) → (i k : ℕ) (xs : List A) → at ≡ k + i → AllPlaces P k xs → AllPlaces Q k (changed i f xs)
  AllPlaces-changed P Q at weaker one i k [] e h = tt
  AllPlaces-changed P Q at weaker one zero k (x ∷ xs) e h =
      let here : at ≡ k = omega arith in
      (subst (λ n. Q n (f x)) here (one x (subst (λ n. P n x) (sym here) h.0)), all_weaker (suc k) xs h.1)
    where
      all_weaker : (k : ℕ) (xs : List A) → AllPlaces P k xs → AllPlaces Q k xs
      all_weaker k [] h = tt
      all_weaker k (x ∷ xs) h = (weaker k x h.0, all_weaker (suc k) xs h.1)
  AllPlaces-changed P Q at weaker one (suc i) k (x ∷ xs) e h =
      let next : at ≡ suc k + i = omega arith in
      subst (AllPlaces Q k) (sym (changed-suc i x xs)) (weaker k x h.0, AllPlaces-changed P Q at weaker one i (suc k) xs next h.1)

  pub sum_by-changed : (g : A → ℕ) (n : ℕ) → ((x : A) → g (f x) ≡ g x + n) → (i : ℕ) (xs : List A) → i < length xs → sum_by g (changed i f xs) ≡ sum_by g xs + n
  sum_by-changed g n more i [] lt = absurd (omega arith)
  sum_by-changed g n more zero (x ∷ xs) lt = let a = sum_by-cons g (f x) xs in let b = sum_by-cons g x xs in let c = more x in omega arith
  sum_by-changed g n more (suc i) (x ∷ xs) lt =
      let rest = sum_by-changed g n more i xs (omega arith) in
      let a = sum_by-cons g x (changed i f xs) in
      let b = sum_by-cons g x xs in
      ap (sum_by g) (changed-suc i x xs) ∙ omega arith

-- a value written over the one at an index of a table changes the member there
module _ {V R : Type 0} (member : List ℕ × V → R) (f : R → R) (v w : V) (is : (n : List ℕ) → member (n, w) ≡ f (member (n, v))) where
  pub changed-written : (es : List (Vec ℕ × V)) (i : ℕ) → slice_get (values_of es) i ≡ Some v → map member (named (set_value_at es i w)) ≡ changed i f (map member (named es))
  changed-written [] i at = refl
  changed-written (e ∷ es) zero at = let same : e.1 ≡ v = cc in ap (λ y. y ∷ map member (named es)) (is e.0.items ∙ ap (λ u. f (member (e.0.items, u))) (sym same))
  changed-written (e ∷ es) (suc i) at = ap (λ ys. member (e.0.items, e.1) ∷ ys) (changed-written es i at) ∙ sym (changed-suc f i (member (e.0.items, e.1)) (map member (named es)))

-- what a table's member at an index says of the value there
pub said-at : {V R X : Type 0} (member : List ℕ × V → R) (field : R → X) (g : V → X) → ((n : List ℕ) (v : V) → field (member (n, v)) ≡ g v)
    → (es : List (Vec ℕ × V)) (i : ℕ) (v : V) (d : R) → slice_get (values_of es) i ≡ Some v → field (get_or (map member (named es)) i d) ≡ g v
said-at member field g is [] i v d at = absurd (no-member at)
  where
    no-member : {W : Type 0} {w : W} → None ≡ Some w → ⊥
    no-member e = cc
said-at member field g is (e ∷ es) zero v d at = let same : e.1 ≡ v = cc in is e.0.items e.1 ∙ ap g same
said-at member field g is (e ∷ es) (suc i) v d at = said-at member field g is es i v d at
