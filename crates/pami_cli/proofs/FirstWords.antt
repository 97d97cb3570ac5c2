-- Lines by their first words: how many lines of a list begin with a word, and what the first of them tells.
use Rattle.std.proofs.Common.{◌≡◌, ℕ, suc, ◌+◌, ◌<◌, ◌≤◌, Bool, true, false, cond, List, [], ◌∷◌, ◌++◌, length, map, drop, get_or, codes, refl, sym, ap, ◌∙◌, arith}
use Rattle.std.specs.List.{flat_map, filter}
use Rattle.std.proofs.lemmas.List.{length-append, at_drop_more, at_drop_all}
use Rattle.std.proofs.lemmas.List.Elements.{filter-append}
use Rattle.pami_cli.specs.Summary.{begins, count_lines, second_word, told_behind}

-- no line begins with the word
abbrev pub Lacks : List ℕ → List (List (List ℕ)) → Type 0
Lacks w [] = Unit {0}
Lacks w (first ∷ lines) = (begins w first ≡ false) × Lacks w lines

pub lacks_more : (w : List ℕ) (xs ys : List (List (List ℕ))) → Lacks w xs → Lacks w ys → Lacks w (xs ++ ys)
lacks_more w [] ys h k = k
lacks_more w (x ∷ xs) ys h k = (h.0, lacks_more w xs ys h.1 k)

pub lacks_map : {A : Type 0} (w : List ℕ) (g : A → List (List ℕ)) → ((a : A) → begins w (g a) ≡ false) → (xs : List A) → Lacks w (map g xs)
lacks_map w g h [] = tt
lacks_map w g h (x ∷ xs) = (h x, lacks_map w g h xs)

pub lacks_flat : {A : Type 0} (w : List ℕ) (g : A → List (List (List ℕ))) → ((a : A) → Lacks w (g a)) → (xs : List A) → Lacks w (flat_map g xs)
lacks_flat w g h [] = tt
lacks_flat w g h (x ∷ xs) = lacks_more w (g x) (flat_map g xs) (h x) (lacks_flat w g h xs)

pub count_more : (w : List ℕ) (xs ys : List (List (List ℕ))) → count_lines w (xs ++ ys) ≡ count_lines w xs + count_lines w ys
count_more w xs ys = ap length (filter-append (begins w) xs ys) ∙ length-append (filter (begins w) xs) (filter (begins w) ys)

pub count_lacking : (w : List ℕ) (xs : List (List (List ℕ))) → Lacks w xs → count_lines w xs ≡ 0
count_lacking w [] h = refl
count_lacking w (x ∷ xs) h = ap (λ (b : Bool). length (cond b (x ∷ filter (begins w) xs) (filter (begins w) xs))) h.0 ∙ count_lacking w xs h.1

pub told_past : (w : List ℕ) (xs ys : List (List (List ℕ))) → Lacks w xs → told_behind w (xs ++ ys) ≡ told_behind w ys
told_past w [] ys h = refl
told_past w (x ∷ xs) ys h = ap (λ (b : Bool). cond b (second_word x) (told_behind w (xs ++ ys))) h.0 ∙ told_past w xs ys h.1

pub told_lacking : (w : List ℕ) (xs : List (List (List ℕ))) → Lacks w xs → told_behind w xs ≡ codes "-"
told_lacking w [] h = refl
told_lacking w (x ∷ xs) h = ap (λ (b : Bool). cond b (second_word x) (told_behind w xs)) h.0 ∙ told_lacking w xs h.1

-- a line in front of others
pub two_counted : (w : List ℕ) (x : List (List ℕ)) (xs : List (List (List ℕ))) (a b : ℕ) → a ≡ count_lines w (x ∷ []) → b ≡ count_lines w xs → a + b ≡ count_lines w (x ∷ xs)
two_counted w x xs a b h k = ap (λ (n : ℕ). n + b) h ∙ ap (λ (n : ℕ). count_lines w (x ∷ []) + n) k ∙ sym (count_more w (x ∷ []) xs)

-- ---- one line after another

-- how many lines an item adds, in a list that is counted from its front
count_here : {A : Type 0} (w : List ℕ) (g : A → List (List ℕ)) (xs : List A) (i : ℕ) (x : A) → i < length xs → x ≡ get_or xs i x
    → count_lines w (map g (drop i xs)) ≡ count_lines w (g x ∷ map g (drop (i + 1) xs))
count_here w g xs i x l e =
    at_drop_more (λ zs. count_lines w (map g zs)) xs i x l ∙ ap (λ z. count_lines w (g z ∷ map g (drop (i + 1) xs))) (sym e)

counted_in : (w : List ℕ) (x : List (List ℕ)) (xs : List (List (List ℕ))) (b : Bool) → begins w x ≡ b → count_lines w (x ∷ xs) ≡ length (cond b (x ∷ filter (begins w) xs) (filter (begins w) xs))
counted_in w x xs b h = ap (λ (t : Bool). length (cond t (x ∷ filter (begins w) xs) (filter (begins w) xs))) h

module _ {A : Type 0} (w : List ℕ) (g : A → List (List ℕ)) (xs : List A) (i : ℕ) (x : A) (count next : ℕ) (l : i < length xs) (e : x ≡ get_or xs i x)
    (so_far : count_lines w (map g xs) ≡ count + count_lines w (map g (drop i xs))) where
  -- one more that begins so, and one that doesn't
  pub counted_more : begins w (g x) ≡ true → next ≡ count + 1 → count_lines w (map g xs) ≡ next + count_lines w (map g (drop (i + 1) xs))
  counted_more h n =
      let here : count_lines w (map g (drop i xs)) ≡ 1 + count_lines w (map g (drop (i + 1) xs)) =
      count_here w g xs i x l e ∙ counted_in w (g x) (map g (drop (i + 1) xs)) true h ∙ one (length (filter (begins w) (map g (drop (i + 1) xs)))) in
      omega (arith, here, so_far, n)
    where
      one : (k : ℕ) → suc k ≡ 1 + k
      one k = omega arith

  pub counted_same : begins w (g x) ≡ false → next ≡ count → count_lines w (map g xs) ≡ next + count_lines w (map g (drop (i + 1) xs))
  counted_same h n =
      let here : count_lines w (map g (drop i xs)) ≡ count_lines w (map g (drop (i + 1) xs)) =
      count_here w g xs i x l e ∙ counted_in w (g x) (map g (drop (i + 1) xs)) false h in
      omega (arith, here, so_far, n)

pub counted_all : {A : Type 0} (w : List ℕ) (g : A → List (List ℕ)) (xs : List A) (i count : ℕ) → length xs ≤ i → count_lines w (map g xs) ≡ count + count_lines w (map g (drop i xs))
    → count ≡ count_lines w (map g xs)
counted_all w g xs i count l h =
    let none : count_lines w (map g (drop i xs)) ≡ 0 = at_drop_all (λ zs. count_lines w (map g zs)) xs i l in
    omega (arith, none, h)

-- the same where an item has several lines
module _ {A : Type 0} (w : List ℕ) (g : A → List (List (List ℕ))) (xs : List A) (i : ℕ) where
  pub counted_each : (x : A) (count n : ℕ) → i < length xs → x ≡ get_or xs i x → n ≡ count_lines w (g x)
      → count_lines w (flat_map g xs) ≡ count + count_lines w (flat_map g (drop i xs)) → count_lines w (flat_map g xs) ≡ count + n + count_lines w (flat_map g (drop (i + 1) xs))
  counted_each x count n l e h so_far =
      let here : count_lines w (flat_map g (drop i xs)) ≡ count_lines w (g x) + count_lines w (flat_map g (drop (i + 1) xs)) =
      at_drop_more (λ zs. count_lines w (flat_map g zs)) xs i x l
      ∙ ap (λ z. count_lines w (g z ++ flat_map g (drop (i + 1) xs))) (sym e)
      ∙ count_more w (g x) (flat_map g (drop (i + 1) xs)) in
      omega (arith, here, so_far, h)

  pub counted_every : (count : ℕ) → length xs ≤ i → count_lines w (flat_map g xs) ≡ count + count_lines w (flat_map g (drop i xs)) → count ≡ count_lines w (flat_map g xs)
  counted_every count l h =
      let none : count_lines w (flat_map g (drop i xs)) ≡ 0 = at_drop_all (λ zs. count_lines w (flat_map g zs)) xs i l in
      omega (arith, none, h)
