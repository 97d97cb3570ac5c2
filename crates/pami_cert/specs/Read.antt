-- What a reader has read of a text, line by line: the lines left, the numbers of a part, a whole certificate's lines.
use Rattle.std.specs.Prelude.{◌≡◌, ℕ, ◌≤◌, ◌<◌, true, false, List, [], ◌∷◌, ◌++◌, length, take, drop, codes, ◌+◌, Option}
use Rattle.std.specs.List.{All}
use Rattle.pami_algebra.specs.Fraction.{Fraction}
use Rattle.pami_frac.specs.Printed.{printed}
use Rattle.pami_lines.specs.Certificate.{objective_word}
use Rattle.pami_model.specs.Contents.{Contents}
use Rattle.pami_cert.specs.declared.cert.Cert.{Cert}
use Rattle.pami_cert.specs.declared.cert.Cert.TheVariants as certs
use Rattle.pami_cert.specs.declared.cert.Claim.{Claim}
use Rattle.pami_cert.specs.declared.cert.Claim.TheVariants as claims
use Rattle.pami_cert.specs.declared.part.Part.{Part}
use Rattle.pami_cert.specs.declared.part.Part.TheVariants.{Columns, Rows}
use Rattle.pami_cert.specs.Part.{tag, names}
use Rattle.pami_cert.specs.Sized.{IsSized}
use Rattle.pami_cert.specs.CertLines.{pair_lines, member_lines, head_line, end_line}
use Rattle.pami_cert.specs.declared.cert.CertFault.{CertFault}
use Rattle.pami_cert.specs.Due.{Due}
use Rattle.pami_cert.specs.FirstFault.{FirstWrong, claim_word}
use Rattle.pami_cert.specs.CertText.{Fit, Fits, is_head, lines_in}

-- a line, as its words
abbrev pub Line : Type 0
Line = List (List ℕ)

-- the lines of a text from this index on
abbrev pub left_at : List ℕ → ℕ → List Line
left_at bytes at = drop at (lines_in bytes)

-- the line at this index
abbrev pub HasLine : List ℕ → ℕ → Line → Type 0
HasLine bytes at words = left_at bytes at ≡ words ∷ left_at bytes (at + 1)

-- the fault of the lines from this index on, in which these are due
abbrev pub IsWrongFrom : List Due → List ℕ → ℕ → CertFault → Type 0
IsWrongFrom ds bytes at fault = FirstWrong ds (at + 1) (left_at bytes at) fault

-- the line at this index isn't what is due there, or the text ends before it
abbrev pub IsWrongAt : Due → List ℕ → ℕ → CertFault → Type 0
IsWrongAt d bytes at fault = IsWrongFrom (d ∷ []) bytes at fault

abbrev pub objective_line : Option Fraction → Line
objective_line o = codes "objective" ∷ objective_word o ∷ []

abbrev pub pair_line : Part → List ℕ → Fraction → Fraction → Line
pair_line part name x d = tag part ∷ name ∷ printed x ∷ printed d ∷ []

abbrev pub member_line : Part → List ℕ → Fraction → Line
member_line part name x = tag part ∷ name ∷ printed x ∷ []

-- one number of each list for each name, all of which fit
pub record ArePairs (count : ℕ) (xs ds : List Fraction) : Type 0 where
  pub firsts : length xs ≡ count
  pub seconds : length ds ≡ count
  pub firsts_fit : All Fit xs
  pub seconds_fit : All Fit ds

-- one number for each name, all of which fit
pub record AreMembers (count : ℕ) (xs : List Fraction) : Type 0 where
  pub numbers : length xs ≡ count
  pub fit : All Fit xs

-- the lines begin with a part that has these numbers, and these are left
pub record IsPairPart (c : Contents) (part : Part) (lines rest : List Line) (xs ds : List Fraction) : Type 0 where
  pub numbers : ArePairs (length (names c part)) xs ds
  pub lines_are : lines ≡ pair_lines c part xs ds ++ rest

pub record IsMemberPart (c : Contents) (part : Part) (lines rest : List Line) (xs : List Fraction) : Type 0 where
  pub numbers : AreMembers (length (names c part)) xs
  pub lines_are : lines ≡ member_lines c part xs ++ rest

-- the part that begins at this index has these numbers; the text goes on behind it
pub record HasPairs (c : Contents) (part : Part) (bytes : List ℕ) (at : ℕ) (xs ds : List Fraction) : Type 0 where
  pub within : at + length (names c part) ≤ length (lines_in bytes)
  pub lines : IsPairPart c part (left_at bytes at) (left_at bytes (at + length (names c part))) xs ds

pub record HasMembers (c : Contents) (part : Part) (bytes : List ℕ) (at : ℕ) (xs : List Fraction) : Type 0 where
  pub within : at + length (names c part) ≤ length (lines_in bytes)
  pub lines : IsMemberPart c part (left_at bytes at) (left_at bytes (at + length (names c part))) xs

abbrev pub claim_of : Cert → Claim
claim_of (certs.Optimal o x d r y) = claims.Optimal
claim_of (certs.Infeasible y) = claims.Infeasible
claim_of (certs.DualInfeasible x r) = claims.DualInfeasible

-- the lines of a certificate behind the first one
abbrev pub body : Contents → Cert → List Line
body c (certs.Optimal o x d r y) =
    objective_line o ∷ (pair_lines c Columns x d ++ (pair_lines c Rows r y ++ end_line ∷ []))
body c (certs.Infeasible y) = member_lines c Rows y ++ end_line ∷ []
body c (certs.DualInfeasible x r) = member_lines c Columns x ++ (member_lines c Rows r ++ end_line ∷ [])

-- the lines begin with those behind the first one of a certificate, and these are left
pub record IsBody (c : Contents) (lines rest : List Line) (cert : Cert) : Type 0 where
  pub sized : IsSized c cert
  pub numbers : Fits cert
  pub lines_are : lines ≡ body c cert ++ rest

-- the lines begin with those behind the first one of a certificate with this claim
abbrev pub HasBody : Contents → Claim → List Line → Cert → Type 0
HasBody c claim lines cert = (claim_of cert ≡ claim) × ((rest : List Line) × IsBody c lines rest cert)

abbrev pub BeginsNone : Line → Type 0
BeginsNone words = is_head words ≡ false

-- these lines stand before the first one that begins a certificate, and the rest behind it
pub record HasHead (lines before : List Line) (words : Line) (rest : List Line) : Type 0 where
  pub lines_are : lines ≡ before ++ words ∷ rest
  pub skipped : All BeginsNone before
  pub head : is_head words ≡ true

-- the first line that begins a certificate stands at this index and makes this claim
abbrev pub HasHeadAt : List ℕ → ℕ → Claim → Type 0
HasHeadAt bytes at claim =
    (at < length (lines_in bytes)) × HasHead (lines_in bytes) (take at (lines_in bytes)) (head_line (claim_word claim)) (left_at bytes (at + 1))
