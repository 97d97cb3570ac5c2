-- Where the sums of a row stand, by column.
use Rattle.std.specs.Prelude.{◌≡◌, ℕ, ◌<◌, List, length, map, slice_index_or}
use Rattle.pami_frac.specs.declared.list.Entry.{Entry}

abbrev pub columns_in : List Entry → List ℕ
columns_in entries = map (λ (e : Entry). e.place) entries

-- each entry's place is kept at its column
pub record ArePlaced (entries : List Entry) (places : List ℕ) : Type 0 where
  pub at : (i : ℕ) → i < length entries → slice_index_or places (slice_index_or (columns_in entries) i 0) (length entries) ≡ i
