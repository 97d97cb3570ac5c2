-- Names of models: how they are made of bytes, and lists of them.
use Rattle.std.proofs.Common.{◌≡◌, ◌<◌, ℕ, zero, suc, Bool, true, false, true≢false, List, [], ◌∷◌, ◌++◌, map, ap, refl, arith, All}
use Rattle.std.specs.List.{AllByRecursion}
use Rattle.std.proofs.lemmas.List.Elements.{All-nil, All-from_recursion}
use Rattle.pami_model.specs.declared.list.Column.{Column}
use Rattle.pami_model.specs.Draft.{finished}
use Rattle.pami_model.specs.ModelNames.{IsModelName}
use Rattle.pami_model.specs.Rules.{names_of_columns}

-- a byte above the space
abbrev pub IsAbove : ℕ → Type 0
IsAbove byte = 32 < byte

abbrev pub AreModelNames : List (List ℕ) → Type 0
AreModelNames names = AllByRecursion IsModelName names

above_more : (byte : ℕ) (bytes : List ℕ) → IsAbove byte → All IsAbove bytes → All IsAbove (byte ∷ bytes)
above_more byte bytes first rest zero d lt = first
above_more byte bytes first rest (suc k) d lt = rest k d (omega arith)

abbrev filled : List ℕ → Bool
filled [] = false
filled (byte ∷ bytes) = true

pub name_from : (byte : ℕ) (bytes : List ℕ) → IsAbove byte → All IsAbove bytes → IsModelName (byte ∷ bytes)
name_from byte bytes first rest = record {
  some = λ none. absurd (true≢false (ap filled none));
  above = above_more byte bytes first rest;
}

pub one_byte : (byte : ℕ) → IsAbove byte → IsModelName (byte ∷ [])
one_byte byte first = name_from byte [] first (All-nil IsAbove)

pub one_more : (byte : ℕ) (name : List ℕ) → IsAbove byte → IsModelName name → IsModelName (byte ∷ name)
one_more byte name first is = name_from byte name first is.above

pub names_joined : (names more : List (List ℕ)) → AreModelNames names → AreModelNames more → AreModelNames (names ++ more)
names_joined [] more one two = two
names_joined (n ∷ names) more one two = (one.0, names_joined names more one.1 two)

pub all_names : (names : List (List ℕ)) → AreModelNames names → All IsModelName names
all_names names are = All-from_recursion IsModelName names are

pub finished_names : (columns : List Column) → names_of_columns (map finished columns) ≡ names_of_columns columns
finished_names [] = refl
finished_names (c ∷ columns) = ap (λ (names : List (List ℕ)). c.name ∷ names) (finished_names columns)
