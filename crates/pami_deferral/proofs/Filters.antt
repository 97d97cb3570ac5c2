-- Filters of a list whose members were made from another one's.
use Rattle.std.proofs.Common.{◌≡◌, inl, inr, Bool, true, false, cond, List, [], ◌∷◌, map, Option, refl, ap, ◌∙◌}
use Rattle.std.specs.List.{filter, filter_map, cons_option}
use Rattle.pami_theory.proofs.Members.{Has}

cond_map : {A B : Type 0} (g : A → B) (x : A) (xs : List A) (b : Bool) → cond b (g x ∷ map g xs) (map g xs) ≡ map g (cond b (x ∷ xs) xs)
cond_map g x xs true = refl
cond_map g x xs false = refl

pub filter-map : {A B : Type 0} (p : B → Bool) (g : A → B) (xs : List A) → filter p (map g xs) ≡ map g (filter (λ x. p (g x)) xs)
filter-map p g [] = refl
filter-map p g (x ∷ xs) = ap (λ ys. cond (p (g x)) (g x ∷ ys) ys) (filter-map p g xs) ∙ cond_map g x (filter (λ x. p (g x)) xs) (p (g x))

pub filter_map-map : {A B C : Type 0} (h : B → Option C) (g : A → B) (xs : List A) → filter_map h (map g xs) ≡ filter_map (λ x. h (g x)) xs
filter_map-map h g [] = refl
filter_map-map h g (x ∷ xs) = ap (cons_option (h (g x))) (filter_map-map h g xs)

pub map-map : {A B C : Type 0} (h : B → C) (g : A → B) (xs : List A) → map h (map g xs) ≡ map (λ x. h (g x)) xs
map-map h g [] = refl
map-map h g (x ∷ xs) = ap (λ ys. h (g x) ∷ ys) (map-map h g xs)

pub map_same : {A B : Type 0} (g h : A → B) (xs : List A) → ((x : A) → Has xs x → g x ≡ h x) → map g xs ≡ map h xs
map_same g h [] e = refl
map_same g h (x ∷ xs) e = ap (λ y. y ∷ map g xs) (e x (inl refl)) ∙ ap (λ ys. h x ∷ ys) (map_same g h xs (λ z k. e z (inr k)))

-- by equal tests
filter_next : {A : Type 0} (b c : Bool) (x : A) (xs ys : List A) → b ≡ c → xs ≡ ys → cond b (x ∷ xs) xs ≡ cond c (x ∷ ys) ys
filter_next b c x xs ys e h = ap (λ d. cond d (x ∷ xs) xs) e ∙ ap (λ zs. cond c (x ∷ zs) zs) h

pub filter_same : {A : Type 0} (p q : A → Bool) → ((x : A) → p x ≡ q x) → (xs : List A) → filter p xs ≡ filter q xs
filter_same p q e [] = refl
filter_same p q e (x ∷ xs) = filter_next (p x) (q x) x (filter p xs) (filter q xs) (e x) (filter_same p q e xs)
