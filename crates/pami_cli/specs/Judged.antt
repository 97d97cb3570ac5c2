-- What `check` answers on a model and the bytes of CERT: the verdict on the certificate that they are a text of, or the first
-- fault that they have.
use Rattle.std.specs.Prelude.{◌≡◌, ℕ, ◌⊎◌, List}
use Rattle.pami_model.specs.Contents.{Contents}
use Rattle.pami_cert.specs.declared.cert.Cert.{Cert}
use Rattle.pami_cert.specs.declared.cert.CertFault.{CertFault}
use Rattle.pami_cert.specs.CertText.{IsCertText}
use Rattle.pami_cert.specs.FirstFault.{FirstFault}
use Rattle.pami_check.specs.declared.verdict.Verdict.{Verdict}
use Rattle.pami_check.specs.declared.verdict.Verdict.TheVariants as verdicts
use Rattle.pami_check.specs.Verdict.{verdict}
use Rattle.pami_check.specs.Holds.{Holds}
use Rattle.pami_check.specs.Shows.{Shows}
use Rattle.pami_cli.specs.declared.status.Status.{Status}
use Rattle.pami_cli.specs.declared.status.Status.TheVariants as statuses
use Rattle.pami_cli.specs.Text.{verdict_text, malformed_text}

-- the status that goes with a verdict
abbrev pub verdict_status : Verdict → Status
verdict_status verdicts.Valid = statuses.Good
verdict_status (verdicts.Invalid condition variable) = statuses.Invalid
verdict_status (verdicts.Refused condition variable refused) = statuses.Unchecked

-- the bytes are a text of a certificate for the model, which has this verdict
pub record IsJudged (c : Contents) (bytes : List ℕ) (status : Status) (written : List ℕ) : Type 0 where
  pub cert : Cert
  pub text_of : IsCertText c bytes cert
  pub status_is : status ≡ verdict_status (verdict c cert)
  pub written_is : written ≡ verdict_text c (verdict c cert)

-- the bytes have a first fault, and are no text of a certificate for the model
pub record IsMalformed (c : Contents) (bytes : List ℕ) (status : Status) (written : List ℕ) : Type 0 where
  pub fault : CertFault
  pub first : FirstFault c bytes fault
  pub status_is : status ≡ statuses.Malformed
  pub written_is : written ≡ malformed_text fault

-- a status and a whole text
abbrev pub Judges : Contents → List ℕ → Status → List ℕ → Type 0
Judges c bytes status written = IsJudged c bytes status written ⊎ IsMalformed c bytes status written

-- ---- what a verdict says

-- the bytes are a text of a certificate that holds against the model, and so shows what it is a certificate of
pub record IsShown (c : Contents) (bytes : List ℕ) : Type 0 where
  pub cert : Cert
  pub text_of : IsCertText c bytes cert
  pub holds : Holds c cert
  pub shows : Shows c cert

-- they are a text of one that doesn't hold
pub record IsDisproved (c : Contents) (bytes : List ℕ) : Type 0 where
  pub cert : Cert
  pub text_of : IsCertText c bytes cert
  pub fails : ¬ Holds c cert
