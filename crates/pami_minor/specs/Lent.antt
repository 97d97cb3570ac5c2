-- What a Minor lends of the rows that it keeps.
use Rattle.std.specs.Prelude.{◌≡◌, ℕ, ◌<◌, ◌⊎◌, List, length, Option, None, Some, slice_index_or}
use Rattle.pami_minor.specs.declared.kept.Kept.{Kept}
use Rattle.pami_minor.specs.declared.kept.Picked.{Picked}
use Rattle.pami_minor.specs.declared.minor.Minor.{Minor}
use Rattle.pami_minor.specs.Picks.{HasRowAt}
use Rattle.pami_minor.specs.Behind.{IsFirstAt}

-- the first row at the place, or none where no row is there
abbrev pub FindsRow : ℕ → List Kept → Option ℕ → Type 0
FindsRow place rows None = (j : ℕ) (k : Kept) → j < length rows → ¬ ((slice_index_or rows j k).at.place ≡ place)
FindsRow place rows (Some i) = IsFirstAt place rows i

-- a row at the place remains, or was picked last
abbrev pub HasRho : ℕ → Minor → Type 0
HasRho place minor = HasRowAt place minor.rows.items ⊎ ((k : Picked) × (minor.picked ≡ Some k) × (k.at.place ≡ place))
