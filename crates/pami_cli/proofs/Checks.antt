-- What `check` answers: one status and one text.
use Rattle.std.proofs.Common.{◌≡◌, ℕ, ◌⊎◌, inl, inr, List, Option, None, Some, refl, sym, ap, ◌∙◌, subst}
use Rattle.pami_edge.specs.Outside.{Files, HasFile, HasLongFile}
use Rattle.pami_model.specs.Contents.{Contents}
use Rattle.pami_model.specs.Rules.{byte_limit}
use Rattle.pami_model_form.specs.ModelForm.{model_form}
use Rattle.pami_form.specs.declared.form.WideBox.{WideBox}
use Rattle.pami_form.specs.Widths.{first_wide}
use Rattle.pami_cert.specs.declared.cert.Cert.{Cert}
use Rattle.pami_cert.specs.declared.cert.CertFault.{CertFault}
use Rattle.pami_cert.specs.declared.cert.CertKind.TheVariants as kinds
use Rattle.pami_cert.specs.FirstFault.{FirstFault}
use Rattle.pami_cert.specs.CertText.{IsCertText}
use Rattle.pami_cert.proofs.Whole.{certificate_or_fault, one_certificate, one_first_fault, not_certificate_and_fault}
use Rattle.pami_check.specs.declared.verdict.Verdict.{Verdict}
use Rattle.pami_check.specs.declared.verdict.Verdict.TheVariants as verdicts
use Rattle.pami_check.specs.Verdict.{verdict}
use Rattle.pami_check.specs.declared.verdict.Condition.{Condition}
use Rattle.pami_check.proofs.Sound.{valid_holds, invalid_fails, holds_shows}
use Rattle.pami_cli.specs.declared.status.Status.{Status}
use Rattle.pami_cli.specs.declared.status.Status.TheVariants as statuses
use Rattle.pami_cli.specs.Text.{wide_text, verdict_text, malformed_text}
use Rattle.pami_cli.specs.Reading.{Format, IsTextOf}
use Rattle.pami_cli.specs.Judged.{verdict_status, Judges, IsShown, IsDisproved}
use Rattle.pami_cli.specs.Run.{Refuses, IsAccepted, IsCertAnswer, Checks, ChecksText}
use Rattle.pami_cli.proofs.Readings.{one_text, text_or_fault, long_bytes}

pub some_same : {A : Type 0} {x y : A} → Some x ≡ Some y → x ≡ y
some_same e = cc

-- ---- CERT

-- a text that is too long has that fault, in no line
abbrev pub long_cert_fault : CertFault
long_cert_fault = record { line = 0; kind = kinds.TooLong }

pub long_cert_file : (c : Contents) (files : Option Files) (name : List ℕ) → HasLongFile files name byte_limit
    → (bytes : List ℕ) × (HasFile files name bytes × FirstFault c bytes long_cert_fault)
long_cert_file c files name h = let long = long_bytes files name byte_limit h in (long.0, (long.1.0, inl (long.1.1, refl)))

-- the bytes of CERT have one answer
one_judgement : (c : Contents) (bytes : List ℕ) (s t : Status) (w v : List ℕ) → Judges c bytes s w → Judges c bytes t v → (s ≡ t) × (w ≡ v)
one_judgement c bytes s t w v (inl a) (inl b) =
    let e : a.cert ≡ b.cert = one_certificate c bytes a.cert b.cert a.text_of b.text_of in (
      a.status_is ∙ ap (λ (k : Cert). verdict_status (verdict c k)) e ∙ sym b.status_is,
      a.written_is ∙ ap (λ (k : Cert). verdict_text c (verdict c k)) e ∙ sym b.written_is,
    )
one_judgement c bytes s t w v (inl a) (inr b) = absurd (not_certificate_and_fault c bytes a.cert b.fault a.text_of b.first)
one_judgement c bytes s t w v (inr a) (inl b) = absurd (not_certificate_and_fault c bytes b.cert a.fault b.text_of a.first)
one_judgement c bytes s t w v (inr a) (inr b) = (
  a.status_is ∙ sym b.status_is,
  a.written_is ∙ ap malformed_text (one_first_fault c bytes a.fault b.fault a.first b.first) ∙ sym b.written_is,
)

-- and there is one
some_judgement : (c : Contents) (bytes : List ℕ) → (s : Status) × (w : List ℕ) × Judges c bytes s w
some_judgement c bytes = by (certificate_or_fault c bytes)
  where
    by : ((cert : Cert) × IsCertText c bytes cert) ⊎ ((fault : CertFault) × FirstFault c bytes fault) → (s : Status) × (w : List ℕ) × Judges c bytes s w
    by (inl (cert, is)) = (verdict_status (verdict c cert), verdict_text c (verdict c cert), inl (record { cert = cert; text_of = is; status_is = refl; written_is = refl }))
    by (inr (fault, first)) = (statuses.Malformed, malformed_text fault, inr (record { fault = fault; first = first; status_is = refl; written_is = refl }))

-- a model that is read is judged against, or has a width that doesn't fit
pub fitting_or_wide : (format : Format) (bytes text : List ℕ) (c : Contents) → IsTextOf format bytes c → (x : Option WideBox) → first_wide (model_form c).bounds ≡ x
    → (s : Status) × (w : List ℕ) × ChecksText format bytes text s w
fitting_or_wide format bytes text c is None fits =
    let j = some_judgement c text in (j.0, j.1, inr (record { model = c; accepted = record { text_of = is; widths = fits }; text = text; stands = refl; judged = j.2 }))
fitting_or_wide format bytes text c is (Some box) first =
    (statuses.File, wide_text c box.variable, inl (refl, inr (c, is, record { box = box; first = first; status_is = refl; written_is = refl })))

-- and never status 3
no_verdict_refuses : (v : Verdict) → statuses.File ≡ verdict_status v → ⊥
no_verdict_refuses verdicts.Valid e = absurd cc
no_verdict_refuses (verdicts.Invalid condition variable) e = absurd cc
no_verdict_refuses (verdicts.Refused condition variable refused) e = absurd cc

judged_is_not_refused : (c : Contents) (bytes : List ℕ) (w : List ℕ) → Judges c bytes statuses.File w → ⊥
judged_is_not_refused c bytes w (inl a) = no_verdict_refuses (verdict c a.cert) a.status_is
judged_is_not_refused c bytes w (inr b) = let e = b.status_is in absurd cc

-- ---- FILE and CERT

-- a width fits or doesn't
some_wide : {x : WideBox} {A : Type 0} → None ≡ Some x → A
some_wide e = absurd cc

-- FILE is accepted or refused
pub refused_or_accepted : (format : Format) (bytes : List ℕ) (c : Contents) (w : List ℕ) → Refuses format bytes w → IsAccepted format bytes c → ⊥
refused_or_accepted format bytes c w (inl r) a = text_or_fault format bytes c r.fault a.text_of r.first
refused_or_accepted format bytes c w (inr (d, text, wide)) a =
    some_wide (sym a.widths ∙ ap (λ (m : Contents). first_wide (model_form m).bounds) (one_text format bytes c d a.text_of text) ∙ wide.first)

module _ (format : Format) (bytes : List ℕ) (under : List ℕ → Type 0) where
  -- where CERT has one text, `check` has one answer
  module _ (one : (x y : List ℕ) → under x → under y → x ≡ y) (refusal : (w v : List ℕ) → Refuses format bytes w → Refuses format bytes v → w ≡ v) where
    cert_again : (t : Status) (v : List ℕ) (c : Contents) (text : List ℕ) → IsAccepted format bytes c → under text → (b : IsCertAnswer format bytes under t v) → Judges c text t v
    cert_again t v c text accepted stands b =
        subst (λ (x : List ℕ). Judges c x t v) (one b.text text b.stands stands)
        (subst (λ (m : Contents). Judges m b.text t v) (one_text format bytes b.model c b.accepted.text_of accepted.text_of) b.judged)

    pub one_check : (s t : Status) (w v : List ℕ) → Checks format bytes under s w → Checks format bytes under t v → (s ≡ t) × (w ≡ v)
    one_check s t w v (inl a) (inl b) = (a.0 ∙ sym b.0, refusal w v a.1 b.1)
    one_check s t w v (inl a) (inr b) = absurd (refused_or_accepted format bytes b.model w a.1 b.accepted)
    one_check s t w v (inr a) (inl b) = absurd (refused_or_accepted format bytes a.model v b.1 a.accepted)
    one_check s t w v (inr a) (inr b) = one_judgement a.model a.text s t w v a.judged (cert_again t v a.model a.text a.accepted a.stands b)

  -- status 3 is for a FILE that is refused
  pub check_refuses : (w : List ℕ) → Checks format bytes under statuses.File w → Refuses format bytes w
  check_refuses w (inl a) = a.1
  check_refuses w (inr a) = absurd (judged_is_not_refused a.model a.text w a.judged)

-- ---- what the verdicts say

good_is_valid : (v : Verdict) → statuses.Good ≡ verdict_status v → v ≡ verdicts.Valid
good_is_valid verdicts.Valid e = refl
good_is_valid (verdicts.Invalid condition variable) e = absurd cc
good_is_valid (verdicts.Refused condition variable refused) e = absurd cc

invalid_is : (v : Verdict) → statuses.Invalid ≡ verdict_status v → (condition : Condition) × ((variable : Option ℕ) × (v ≡ verdicts.Invalid condition variable))
invalid_is verdicts.Valid e = absurd cc
invalid_is (verdicts.Invalid condition variable) e = (condition, (variable, refl))
invalid_is (verdicts.Refused condition variable refused) e = absurd cc

module _ (format : Format) (bytes text w : List ℕ) where
  good_shown : (a : IsCertAnswer format bytes (λ (x : List ℕ). x ≡ text) statuses.Good w) → Judges a.model a.text statuses.Good w → IsShown a.model a.text
  good_shown a (inl j) =
      let holds = valid_holds a.model j.cert (good_is_valid (verdict a.model j.cert) j.status_is) in
      record { cert = j.cert; text_of = j.text_of; holds = holds; shows = holds_shows a.model j.cert holds }
  good_shown a (inr m) = let e = m.status_is in absurd cc

  pub valid_shown : ChecksText format bytes text statuses.Good w → (c : Contents) → IsTextOf format bytes c → IsShown c text
  valid_shown (inl a) c is = let e = a.0 in absurd cc
  valid_shown (inr a) c is =
      subst (λ (m : Contents). IsShown m text) (one_text format bytes a.model c a.accepted.text_of is) (subst (IsShown a.model) a.stands (good_shown a a.judged))

  wrong_disproved : (a : IsCertAnswer format bytes (λ (x : List ℕ). x ≡ text) statuses.Invalid w) → Judges a.model a.text statuses.Invalid w → IsDisproved a.model a.text
  wrong_disproved a (inl j) =
      let found = invalid_is (verdict a.model j.cert) j.status_is in
      record { cert = j.cert; text_of = j.text_of; fails = invalid_fails a.model j.cert found.0 found.1.0 found.1.1 }
  wrong_disproved a (inr m) = let e = m.status_is in absurd cc

  pub invalid_disproved : ChecksText format bytes text statuses.Invalid w → (c : Contents) → IsTextOf format bytes c → IsDisproved c text
  invalid_disproved (inl a) c is = let e = a.0 in absurd cc
  invalid_disproved (inr a) c is =
      subst (λ (m : Contents). IsDisproved m text) (one_text format bytes a.model c a.accepted.text_of is) (subst (IsDisproved a.model) a.stands (wrong_disproved a a.judged))
