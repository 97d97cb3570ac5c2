-- Lists taken apart.
use Rattle.std.proofs.Common.{◌≡◌, ℕ, zero, suc, List, [], ◌∷◌, get_or, drop, ap, arith, ◌⊎◌, inl, inr, Bool, true, false, refl, Decides}
use Rattle.std.specs.List.{All}
use Rattle.std.specs.Str.{bytes_eq}
use Rattle.std.proofs.lemmas.Bool.{false≢true}
use Rattle.std.proofs.lemmas.Slice.Eq.{bytes_eq-Decides}

pub head_same : {A : Type 0} {x y : A} {xs ys : List A} → x ∷ xs ≡ y ∷ ys → x ≡ y
head_same {x = x} e = ap (λ l. get_or l 0 x) e

pub tail_same : {A : Type 0} {x y : A} {xs ys : List A} → x ∷ xs ≡ y ∷ ys → xs ≡ ys
tail_same e = ap (drop 1) e

pub all_nil : {A : Type 0} (P : A → Type 0) → All P []
all_nil P = λ k d l. absurd (omega arith)

pub all_head : {A : Type 0} (P : A → Type 0) (x : A) (xs : List A) → All P (x ∷ xs) → P x
all_head P x xs h = h 0 x (omega arith)

pub all_tail : {A : Type 0} (P : A → Type 0) (x : A) (xs : List A) → All P (x ∷ xs) → All P xs
all_tail P x xs h = λ k d l. h (suc k) d (omega arith)

pub all_more : {A : Type 0} (P : A → Type 0) (x : A) (xs : List A) → P x → All P xs → All P (x ∷ xs)
all_more P x xs p h = go
  where
    go : All P (x ∷ xs)
    go zero d l = p
    go (suc k) d l = h k d (omega arith)

-- lists of bytes are equal or not
pub same_or_not : (xs ys : List ℕ) → (xs ≡ ys) ⊎ (¬ (xs ≡ ys))
same_or_not xs ys = go (bytes_eq xs ys) (bytes_eq-Decides xs ys)
  where
    go : (b : Bool) → Decides b (xs ≡ ys) → (xs ≡ ys) ⊎ (¬ (xs ≡ ys))
    go true d = inl (d.0 refl)
    go false d = inr (λ e. absurd (false≢true (d.1 e)))
