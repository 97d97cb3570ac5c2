-- Solutions that are kept as lists: exactly one of the length of the system.
use Rattle.std.proofs.Common.{◌≡◌, ℕ, ◌<◌, List, length, map, refl, sym, ◌∙◌, subst, arith}
use Rattle.std.specs.List.{range_with_len}
use Rattle.std.proofs.lemmas.List.{ext_get_or}
use Rattle.std.proofs.lemmas.List.FromFn.{length-map-range_with_len, get_or-map-range_with_len}
use lib.IntN.{pos}
use Rattle.pami_algebra.specs.Fraction.{Fraction}
use Rattle.pami_algebra.specs.Operations.{of_int}
use Rattle.pami_linear.specs.Lists.{get}
use Rattle.pami_linear.specs.Systems.{Solves, Combines, IsRegular}
use Rattle.pami_linear.proofs.Systems.{solves_same, combines_same}
use Rattle.pami_linear.proofs.Regular.{solution, one_solution, combination, one_combination}

-- equal lengths and equal members
pub same_list : (xs ys : List Fraction) → length xs ≡ length ys → ((i : ℕ) → i < length xs → get xs i ≡ get ys i) → xs ≡ ys
same_list xs ys e h = ext_get_or (of_int (pos 0)) xs ys e h

same_below : (m : ℕ) (xs ys : List Fraction) → length xs ≡ m → length ys ≡ m → ((i : ℕ) → i < m → get xs i ≡ get ys i) → xs ≡ ys
same_below m xs ys e f h = same_list xs ys (e ∙ sym f) (λ i l. h i (subst (λ n. i < n) e l))

-- the list of the first m values
listed : ℕ → (ℕ → Fraction) → List Fraction
listed m f = map f (range_with_len 0 m)

get_listed : (m i : ℕ) (f : ℕ → Fraction) → i < m → get (listed m f) i ≡ f i
unfolding listed
get_listed m i f l = get_or-map-range_with_len f 0 m i i (of_int (pos 0)) l (omega arith)

length_listed : (m : ℕ) (f : ℕ → Fraction) → length (listed m f) ≡ m
unfolding listed
length_listed m f = length-map-range_with_len f 0 m

pub solution_list : (m : ℕ) (b : ℕ → ℕ → Fraction) (r : ℕ → Fraction) → IsRegular m b → (xs : List Fraction) × (length xs ≡ m) × Solves m b (get xs) r
solution_list m b r g =
    let s = solution m b r g in
    (listed m s.0, length_listed m s.0, solves_same m b b s.0 (get (listed m s.0)) r r (λ k i h l. refl) (λ k l. sym (get_listed m k s.0 l)) (λ i l. refl) s.1)

pub one_solution_list : (m : ℕ) (b : ℕ → ℕ → Fraction) (r : ℕ → Fraction) (xs zs : List Fraction) → IsRegular m b → length xs ≡ m → length zs ≡ m → Solves m b (get xs) r → Solves m b (get zs) r → xs ≡ zs
one_solution_list m b r xs zs g ex ez e f = same_below m xs zs ex ez (one_solution m b (get xs) (get zs) r g e f)

pub combination_list : (m : ℕ) (b : ℕ → ℕ → Fraction) (d : ℕ → Fraction) → IsRegular m b → (ys : List Fraction) × (length ys ≡ m) × Combines m b (get ys) d
combination_list m b d g =
    let s = combination m b d g in
    (listed m s.0, length_listed m s.0, combines_same m b b s.0 (get (listed m s.0)) d d (λ k i h l. refl) (λ i l. sym (get_listed m i s.0 l)) (λ k l. refl) s.1)

pub one_combination_list : (m : ℕ) (b : ℕ → ℕ → Fraction) (d : ℕ → Fraction) (ys zs : List Fraction) → IsRegular m b → length ys ≡ m → length zs ≡ m → Combines m b (get ys) d → Combines m b (get zs) d → ys ≡ zs
one_combination_list m b d ys zs g ey ez e f = same_below m ys zs ey ez (one_combination m b (get ys) (get zs) d g e f)
