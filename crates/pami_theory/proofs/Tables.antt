-- Lists made of a function's values at the numbers below a length.
use Rattle.std.proofs.Common.{◌≡◌, ℕ, ◌<◌, List, length, map, slice_index_or, arith}
use Rattle.std.specs.List.{range_with_len}
use Rattle.std.proofs.lemmas.List.FromFn.{length-map-range_with_len, get_or-map-range_with_len}

abbrev pub tabled : {A : Type 0} → ℕ → (ℕ → A) → List A
tabled n f = map f (range_with_len 0 n)

pub tabled_length : {A : Type 0} (n : ℕ) (f : ℕ → A) → length (tabled n f) ≡ n
tabled_length n f = length-map-range_with_len f 0 n

pub tabled_at : {A : Type 0} (n : ℕ) (f : ℕ → A) (i : ℕ) (d : A) → i < n → slice_index_or (tabled n f) i d ≡ f i
tabled_at n f i d l = get_or-map-range_with_len f 0 n i i d l (omega arith)
