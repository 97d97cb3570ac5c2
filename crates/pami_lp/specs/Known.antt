-- What a reader keeps: its numbers of columns are those of columns that stand.
use Rattle.std.specs.Prelude.{ℕ, ◌<◌, List, length, All, Option}
use Rattle.std.specs.Option.{ForSome}
use Rattle.pami_frac.specs.declared.list.Entry.{Entry}
use Rattle.pami_model.specs.Draft.{Draft}

-- these sums are of columns below a count
abbrev pub AreBelow : ℕ → List Entry → Type 0
AreBelow count sums = All (λ (e : Entry). e.place < count) sums

pub record IsKnown (d : Draft) (entries : List Entry) (bounded : Option ℕ) : Type 0 where
  pub sums : AreBelow (length d.columns) entries
  pub column : ForSome bounded (λ j. j < length d.columns)
