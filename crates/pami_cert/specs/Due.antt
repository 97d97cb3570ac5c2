-- What is due in each line of a certificate, and what is wrong with a line that is something else.
use Rattle.std.specs.Prelude.{◌≡◌, ℕ, List, [], ◌∷◌, ◌++◌, length, map, codes, ◌⊎◌, IsTrue}
use Rattle.std.specs.List.{All}
use Rattle.pami_algebra.specs.Fraction.{Fraction}
use Rattle.pami_frac.specs.Range.{fits}
use Rattle.pami_frac.specs.Printed.{printed}
use Rattle.pami_model.specs.Contents.{Contents}
use Rattle.pami_cert.specs.declared.cert.CertKind.{CertKind}
use Rattle.pami_cert.specs.declared.cert.CertKind.TheVariants as kinds
use Rattle.pami_cert.specs.declared.cert.Claim.{Claim}
use Rattle.pami_cert.specs.declared.cert.Claim.TheVariants as claims
use Rattle.pami_cert.specs.declared.part.Part.{Part}
use Rattle.pami_cert.specs.declared.part.Part.TheVariants.{Columns, Rows}
use Rattle.pami_cert.specs.Part.{tag, names}
use Rattle.pami_cert.specs.CertLines.{end_line}

-- the objective; a variable of a part, by its name, with so many numbers; the last line
pub data Due : Type 0 where
  Objective : Due
  Variable : Part → List ℕ → ℕ → Due
  End : Due

-- the lines of a part, with so many numbers in each
abbrev pub part_due : Contents → Part → ℕ → List Due
part_due c part n = map (λ name. Variable part name n) (names c part)

-- the lines behind the first one
abbrev pub due : Contents → Claim → List Due
due c claims.Optimal = Objective ∷ (part_due c Columns 2 ++ (part_due c Rows 2 ++ End ∷ []))
due c claims.Infeasible = part_due c Rows 1 ++ End ∷ []
due c claims.DualInfeasible = part_due c Columns 1 ++ (part_due c Rows 1 ++ End ∷ [])

-- the word is the printed text of a fraction that fits
abbrev pub IsNumber : List ℕ → Type 0
IsNumber word = (v : Fraction) × (IsTrue (fits v) × (word ≡ printed v))

-- an objective may also be told as too wide
abbrev pub IsObjective : List ℕ → Type 0
IsObjective word = (word ≡ codes "wide") ⊎ IsNumber word

-- the line has this first word, this name and so many words behind them
abbrev pub IsVariable : List ℕ → List ℕ → ℕ → List (List ℕ) → List (List ℕ) → Type 0
IsVariable first name n numbers words = (length numbers ≡ n) × (words ≡ first ∷ name ∷ numbers)

-- the count of the words and the first of them are those that are due
abbrev pub HasShape : Due → List (List ℕ) → Type 0
HasShape Objective words = (word : List ℕ) × (words ≡ codes "objective" ∷ word ∷ [])
HasShape (Variable part name n) words = (other : List ℕ) × ((numbers : List (List ℕ)) × IsVariable (tag part) other n numbers words)
HasShape End words = words ≡ end_line

-- and so is the name, where one is due
abbrev pub HasName : Due → List (List ℕ) → Type 0
HasName Objective words = HasShape Objective words
HasName (Variable part name n) words = (numbers : List (List ℕ)) × IsVariable (tag part) name n numbers words
HasName End words = HasShape End words

-- and the numbers are numbers: the line is what is due
abbrev pub IsDue : Due → List (List ℕ) → Type 0
IsDue Objective words = (word : List ℕ) × ((words ≡ codes "objective" ∷ word ∷ []) × IsObjective word)
IsDue (Variable part name n) words = (numbers : List (List ℕ)) × (IsVariable (tag part) name n numbers words × All IsNumber numbers)
IsDue End words = HasShape End words

-- what is wrong with the line: the first of the three that it hasn't
abbrev pub IsWrong : Due → List (List ℕ) → CertKind → Type 0
IsWrong d words kind =
    ((kind ≡ kinds.Word) × (¬ HasShape d words))
    ⊎ (((kind ≡ kinds.Name) × (HasShape d words × (¬ HasName d words))) ⊎ ((kind ≡ kinds.Number) × (HasName d words × (¬ IsDue d words))))
