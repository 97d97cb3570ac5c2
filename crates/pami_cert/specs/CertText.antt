-- The bytes are a text of a certificate.
use Rattle.std.specs.Prelude.{◌≡◌, ℕ, ◌≤◌, Bool, false, List, [], ◌∷◌, ◌++◌, length, map, Option, None, Some, if◌then◌else◌, nat_eq, codes, IsTrue}
use Rattle.std.specs.List.{All}
use Rattle.std.specs.Str.{bytes_eq}
use Rattle.pami_algebra.specs.Fraction.{Fraction}
use Rattle.pami_frac.specs.Range.{fits}
use Rattle.pami_edge.specs.Lines.{hang, lines_of}
use Rattle.pami_model.specs.Contents.{Contents}
use Rattle.pami_model.specs.Rules.{byte_limit}
use Rattle.pami_cert.specs.declared.cert.Cert.{Cert}
use Rattle.pami_cert.specs.declared.cert.Cert.TheVariants as certs
use Rattle.pami_cert.specs.CertLines.{cert_lines}
use Rattle.pami_cert.specs.Sized.{IsSized}

-- the words of a line: cut at each blank, so that two blanks have an empty word between them
abbrev pub words_of : List ℕ → List (List ℕ)
words_of [] = [] ∷ []
words_of (c ∷ cs) = if nat_eq c 32 then [] ∷ words_of cs else hang c (words_of cs)

-- the lines of a text, each as its words
abbrev pub lines_in : List ℕ → List (List (List ℕ))
lines_in bytes = map words_of (lines_of bytes)

-- the line begins a certificate: it begins with `certificate`, a blank, `1` and a blank
abbrev pub is_head : List (List ℕ) → Bool
is_head [] = false
is_head (a ∷ []) = false
is_head (a ∷ b ∷ []) = false
is_head (a ∷ b ∷ c ∷ words) = if bytes_eq a (codes "certificate") then bytes_eq b (codes "1") else false

-- every fraction of a certificate is one that a program can hold
abbrev pub Fit : Fraction → Type 0
Fit v = IsTrue (fits v)

abbrev pub MayFit : Option Fraction → Type 0
MayFit None = Unit {0}
MayFit (Some v) = Fit v

abbrev pub Fits : Cert → Type 0
Fits (certs.Optimal objective x d r y) = MayFit objective × (All Fit x × (All Fit d × (All Fit r × All Fit y)))
Fits (certs.Infeasible y) = All Fit y
Fits (certs.DualInfeasible x r) = All Fit x × All Fit r

-- the bytes are a text of this certificate for a model with these contents: from the first line that begins a certificate
-- on, the words of the lines are those that it has; nothing is said of the lines behind
pub record IsCertText (c : Contents) (bytes : List ℕ) (cert : Cert) : Type 0 where
  pub short : length bytes ≤ byte_limit
  pub before : List (List (List ℕ))
  pub behind : List (List (List ℕ))
  pub lines : lines_in bytes ≡ before ++ (cert_lines c cert ++ behind)
  pub skipped : All (λ words. is_head words ≡ false) before
  pub sized : IsSized c cert
  pub numbers : Fits cert
