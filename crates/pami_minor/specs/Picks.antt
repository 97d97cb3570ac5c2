-- Which of the rows that are kept stay, beside how they are now, and which is taken out.
use Rattle.std.specs.Prelude.{◌≡◌, ℕ, ◌+◌, ◌<◌, List, [], ◌∷◌, ◌++◌, length, take, drop, Option, None, Some, cond, slice_index_or}
use Rattle.std.specs.Option.{option_map}
use Rattle.pami_deferral.specs.Inside.{keeps}
use Rattle.pami_minor.specs.declared.row.Remaining.{Remaining}
use Rattle.pami_minor.specs.declared.row.RowNow.{RowNow}
use Rattle.pami_minor.specs.declared.kept.Kept.{Kept}
use Rattle.pami_minor.specs.declared.kept.Picked.{Picked}
use Rattle.pami_minor.specs.Rows.{row_seen}

-- what a pick reads of a row
abbrev pub remaining_of : Kept → Remaining
remaining_of k = record { place = k.at.place; merit = k.merit; bounds = k.bounds; value = k.at.value; weight = k.at.weight }

-- the rows that stay
abbrev pub staying_by : List Kept → List (Option RowNow) → List Kept
staying_by (k ∷ ks) (now ∷ nows) = cond (keeps k.merit (option_map row_seen now)) (k ∷ staying_by ks nows) (staying_by ks nows)
staying_by _ _ = []

-- ---- taking a row out

-- the row of this index, which is at the place
abbrev pub IsRowAt : ℕ → List Kept → ℕ → Kept → Type 0
IsRowAt place ks i k = (i < length ks) × (slice_index_or ks i k ≡ k) × (k.at.place ≡ place)

abbrev pub HasRowAt : ℕ → List Kept → Type 0
HasRowAt place ks = (i : ℕ) × (k : Kept) × IsRowAt place ks i k

-- it is taken out, and the others stay in order
abbrev pub TakesRow : ℕ → List Kept → List Kept → Kept → Type 0
TakesRow place old new k = (i : ℕ) × IsRowAt place old i k × (new ≡ take i old ++ drop (i + 1) old)

-- the best row is taken out, if there is one
abbrev pub TakesBest : Option RowNow → List Kept → List Kept → Option Picked → Type 0
TakesBest None old new None = new ≡ old
TakesBest None old new (Some picked) = ⊥
TakesBest (Some row) old new None = ⊥
TakesBest (Some row) old new (Some picked) =
    (k : Kept) × TakesRow row.place old new k × (picked.at ≡ k.at) × (picked.violation ≡ row.violation)
