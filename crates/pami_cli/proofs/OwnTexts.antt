-- The text that `solve` wrote is a text of its answer's certificate, and `check` doesn't find that invalid.
use Rattle.std.proofs.Common.{◌≡◌, ℕ, ◌≤◌, ◌⊎◌, inl, inr, IfSome, List, [], ◌∷◌, ◌++◌, length, take, drop, codes, Option, None, Some, refl, sym}
use Rattle.std.proofs.Common.{ap, ◌∙◌, subst, append_assoc}
use Rattle.std.proofs.lemmas.List.{append-nil, take-append-drop}
use Rattle.pami_algebra.specs.Fraction.{Fraction}
use Rattle.pami_linear.specs.Lists.{get}
use Rattle.pami_model.specs.Contents.{Contents}
use Rattle.pami_model.specs.Rules.{byte_limit}
use Rattle.pami_theory.specs.Basis.{stand_at}
use Rattle.pami_theory.specs.Fresh.{Fresh}
use Rattle.pami_cli.specs.declared.wish.Wish.{Wish}
use Rattle.pami_method.specs.Phases.{Record, Answer, Optimal, Infeasible, DualInfeasible, Limit, Overflow}
use Rattle.pami_lines.specs.Line.{text}
use Rattle.pami_lines.specs.Head.{head_lines}
use Rattle.pami_lines.specs.Letters.{basis_line}
use Rattle.pami_theory.specs.Certificate.{HoldsDualInfeasible}
use Rattle.pami_model_form.specs.ModelForm.{model_form}
use Rattle.pami_form.specs.Widths.{first_wide}
use Rattle.pami_lines.specs.Certificate.{answer_line, objective_in}
use Rattle.pami_lines.proofs.Texts.{text_append}
use Rattle.pami_text.specs.Record.{phase_lines, answer_lines, run_lines}
use Rattle.pami_model_form.specs.Named.{names_of, counts_of, named_of}
use Rattle.pami_cert.specs.declared.cert.Cert.{Cert}
use Rattle.pami_cert.specs.declared.cert.Cert.TheVariants as certs
use Rattle.pami_cert.specs.CertLines.{cert_lines}
use Rattle.pami_cert.specs.CertText.{Fits, IsCertText}
use Rattle.pami_cert.specs.Sized.{IsSized}
use Rattle.pami_cert.specs.Plain.{HasPlainNames, AreOtherLines}
use Rattle.pami_cert.proofs.PlainLines.{printed_is_text}
use Rattle.pami_cert.proofs.Whole.{one_certificate, not_certificate_and_fault}
use Rattle.pami_check.specs.declared.verdict.Verdict.{Verdict}
use Rattle.pami_check.specs.declared.verdict.Verdict.TheVariants as verdicts
use Rattle.pami_check.specs.Verdict.{verdict}
use Rattle.pami_check.specs.Holds.{Holds, HoldsBest as HoldsWith}
use Rattle.pami_check.proofs.Sound.{invalid_fails}
use Rattle.pami_cli.specs.declared.status.Status.{Status}
use Rattle.pami_cli.specs.declared.status.Status.TheVariants as statuses
use Rattle.pami_cli.specs.CertOf.{best_cert, direction_cert, cert_of}
use Rattle.pami_cli.specs.Text.{ranges_behind, run_text}
use Rattle.pami_cli.specs.Reading.{Format}
use Rattle.pami_cli.specs.Answer.{HasStatus, HoldsBest, HoldsFor, IsSound, AnswersRun, AnswersModel}
use Rattle.pami_cli.specs.Judged.{verdict_status, Judges}
use Rattle.pami_cli.specs.Run.{Answers, SolvesSoundly, ChecksText, HasCertificate}
use Rattle.pami_cli.proofs.PlainNames.{read_names_are_plain}
use Rattle.pami_cli.proofs.Readings.{one_text}
use Rattle.pami_cli.proofs.Certs.{best_lines, direction_lines}
use Rattle.pami_cli.proofs.Checks.{refused_or_accepted}
use Rattle.pami_cli.proofs.PlainWords.{word_plain}
use Rattle.pami_cli.proofs.Earlier.{earlier_more, run_earlier}

some_is : {A : Type 0} {x y : A} → Some x ≡ Some y → x ≡ y
some_is e = cc

none_is : {A : Type 0} {x : A} → None ≡ Some x → ⊥
none_is e = cc

-- statuses without a certificate
no_certificate_at_limit : (s : Status) → s ≡ statuses.Limit → HasCertificate s → ⊥
no_certificate_at_limit s e (inl h) = cc
no_certificate_at_limit s e (inr (inl h)) = cc
no_certificate_at_limit s e (inr (inr h)) = cc

no_certificate_at_overflow : (s : Status) → s ≡ statuses.Overflow → HasCertificate s → ⊥
no_certificate_at_overflow s e (inl h) = cc
no_certificate_at_overflow s e (inr (inl h)) = cc
no_certificate_at_overflow s e (inr (inr h)) = cc

no_certificate_refused : (s : Status) → s ≡ statuses.File → HasCertificate s → ⊥
no_certificate_refused s e (inl h) = cc
no_certificate_refused s e (inr (inl h)) = cc
no_certificate_refused s e (inr (inr h)) = cc

-- ---- the text of a run

-- what a run writes, from the lines of its answer
module _ (c : Contents) (names : HasPlainNames c) (w : Wish) (told : Record) (answer : Answer) where
  abbrev early : List (List (List ℕ))
  early = head_lines (counts_of c) ++ (phase_lines (names_of c) w.options 1 told.phase_one ++ phase_lines (names_of c) w.options 2 told.phase_two)

  abbrev ranges : List (List (List ℕ))
  ranges = ranges_behind c w.ranging answer

  lines_split : (first : List (List ℕ)) (certificate behind : List (List (List ℕ))) → answer_lines (named_of c) answer ≡ first ∷ (certificate ++ behind)
      → run_lines (named_of c) w.options told answer ++ ranges ≡ (early ++ first ∷ []) ++ (certificate ++ (behind ++ ranges))
  lines_split first certificate behind e =
      let heads = head_lines (counts_of c) in
      let one = phase_lines (names_of c) w.options 1 told.phase_one in
      let two = phase_lines (names_of c) w.options 2 told.phase_two in
      let lines : run_lines (named_of c) w.options told answer ≡ (early ++ first ∷ []) ++ (certificate ++ behind) =
      ap (λ (z : List (List (List ℕ))). heads ++ (one ++ (two ++ z))) e
      ∙ ap (λ (z : List (List (List ℕ))). heads ++ z) (sym (append_assoc one two (first ∷ (certificate ++ behind))))
      ∙ sym (append_assoc heads (one ++ two) (first ∷ (certificate ++ behind)))
      ∙ sym (append_assoc (heads ++ (one ++ two)) (first ∷ []) (certificate ++ behind)) in
      ap (λ (z : List (List (List ℕ))). z ++ ranges) lines
      ∙ append_assoc (early ++ first ∷ []) (certificate ++ behind) ranges
      ∙ ap (λ (z : List (List (List ℕ))). (early ++ first ∷ []) ++ z) (append_assoc certificate behind ranges)

  written_around : (cert : Cert) (first : List (List ℕ)) (behind : List (List (List ℕ))) → AreOtherLines (first ∷ []) → IsSized c cert → Fits cert
      → answer_lines (named_of c) answer ≡ first ∷ (cert_lines c cert ++ behind) → length (run_text c w told answer) ≤ byte_limit
      → IsCertText c (run_text c w told answer) cert
  written_around cert first behind h sized fits e l = printed_is_text c (run_text c w told answer) cert (record {
    printable = record { names = names; sized = sized; numbers = fits };
    front = early ++ first ∷ [];
    behind = text (behind ++ ranges);
    begins = earlier_more early (first ∷ []) (run_earlier (names_of c) names.columns names.rows (counts_of c) w.options told) h;
    bytes_are = ap text (lines_split first (cert_lines c cert) behind e)
        ∙ text_append (early ++ first ∷ []) (cert_lines c cert ++ (behind ++ ranges))
        ∙ ap (λ (z : List ℕ). text (early ++ first ∷ []) ++ z) (text_append (cert_lines c cert) (behind ++ ranges));
    short = l;
  })

-- the text of a run is a text of its answer's certificate
pub run_is_text : (c : Contents) (names : HasPlainNames c) (w : Wish) (told : Record) (answer : Answer) (cert : Cert)
    → cert_of c answer ≡ Some cert → IsSized c cert → Fits cert
    → length (run_text c w told answer) ≤ byte_limit → IsCertText c (run_text c w told answer) cert
run_is_text c names w told (Optimal st s) cert e sized fits l =
    let first = answer_line (codes "optimal" ∷ []) in
    let basis = basis_line (counts_of c) (stand_at st.basis) ∷ [] in
    written_around c names w told (Optimal st s) cert first basis
    ((((word_plain (codes "answer") refl), (word_plain (codes "optimal") refl, tt)), refl), tt) sized fits
    (ap (λ (ls : List (List (List ℕ))). first ∷ (ls ++ basis)) (sym (best_lines c s.values s.reduced) ∙ ap (cert_lines c) (some_is e))) l
run_is_text c names w told (Infeasible y) cert e sized fits l =
    let first = answer_line (codes "infeasible" ∷ []) in
    written_around c names w told (Infeasible y) cert first []
    ((((word_plain (codes "answer") refl), (word_plain (codes "infeasible") refl, tt)), refl), tt) sized fits
    (ap (λ (ls : List (List (List ℕ))). first ∷ ls) (ap (cert_lines c) (some_is e) ∙ sym (append-nil (cert_lines c cert)))) l
run_is_text c names w told (DualInfeasible st s) cert e sized fits l =
    let first = answer_line (codes "dual-infeasible" ∷ []) in
    written_around c names w told (DualInfeasible st s) cert first []
    ((((word_plain (codes "answer") refl), (word_plain (codes "dual-infeasible") refl, tt)), refl), tt) sized fits
    (ap (λ (ls : List (List (List ℕ))). first ∷ ls) (sym (direction_lines c s.values) ∙ ap (cert_lines c) (some_is e) ∙ sym (append-nil (cert_lines c cert)))) l
run_is_text c names w told (Limit st) cert e sized fits l = absurd (none_is e)
run_is_text c names w told (Overflow r) cert e sized fits l = absurd (none_is e)

-- ---- what it says holds

best_holds : (c : Contents) (s : Fresh) → HoldsBest c s → Holds c (best_cert c s.values s.reduced)
best_holds c s h =
    let n : ℕ = length c.columns in
    let o = objective_in (named_of c) (get s.values) in
    subst (λ (x : List Fraction). HoldsWith c o (get x) (get (take n s.reduced ++ drop n s.reduced))) (sym (take-append-drop n s.values))
    (subst (λ (d : List Fraction). HoldsWith c o (get s.values) (get d)) (sym (take-append-drop n s.reduced))
    (record { certificate = h.certificate; objective_is = h.objective }))

pub answer_holds : (c : Contents) (answer : Answer) (cert : Cert) → cert_of c answer ≡ Some cert → HoldsFor c answer → Holds c cert
answer_holds c (Optimal st s) cert e h = subst (Holds c) (some_is e) (best_holds c s h)
answer_holds c (Infeasible y) cert e h = subst (Holds c) (some_is e) h
answer_holds c (DualInfeasible st s) cert e h =
    subst (Holds c) (some_is e) (subst (λ (z : List Fraction). HoldsDualInfeasible (model_form c) (get z))
    (sym (take-append-drop (length c.columns) s.values)) h)
answer_holds c (Limit st) cert e h = absurd (none_is e)
answer_holds c (Overflow r) cert e h = absurd (none_is e)

-- ---- the verdict

not_invalid : (c : Contents) (cert : Cert) (s : Status) → Holds c cert → s ≡ verdict_status (verdict c cert) → (s ≡ statuses.Good) ⊎ (s ≡ statuses.Unchecked)
not_invalid c cert s h e = go (verdict c cert) refl e
  where
    go : (v : Verdict) → verdict c cert ≡ v → s ≡ verdict_status v → (s ≡ statuses.Good) ⊎ (s ≡ statuses.Unchecked)
    go verdicts.Valid p q = inl q
    go (verdicts.Invalid condition variable) p q = absurd (invalid_fails c cert condition variable p h)
    go (verdicts.Refused condition variable refused) p q = inr q

-- a text of a certificate that holds is judged so
held_judged : (c : Contents) (bytes : List ℕ) (cert : Cert) (s : Status) (w : List ℕ)
    → IsCertText c bytes cert → Holds c cert → Judges c bytes s w → (s ≡ statuses.Good) ⊎ (s ≡ statuses.Unchecked)
held_judged c bytes cert s w is h (inl j) =
    let same : cert ≡ j.cert = one_certificate c bytes cert j.cert is j.text_of in
    not_invalid c cert s h (j.status_is ∙ ap (λ (k : Cert). verdict_status (verdict c k)) (sym same))
held_judged c bytes cert s w is h (inr m) = absurd (not_certificate_and_fault c bytes cert m.fault is m.first)

-- an answer with one of these statuses has a certificate
has_cert : (c : Contents) (answer : Answer) (status : Status) → HasStatus answer status → HasCertificate status → (cert : Cert) × (cert_of c answer ≡ Some cert)
has_cert c (Optimal st s) status e h = (best_cert c s.values s.reduced, refl)
has_cert c (Infeasible y) status e h = (certs.Infeasible y, refl)
has_cert c (DualInfeasible st s) status e h = (direction_cert c s.values, refl)
has_cert c (Limit st) status e h = absurd (no_certificate_at_limit status e h)
has_cert c (Overflow r) status e h = absurd (no_certificate_at_overflow status e h)

module _ (format : Format) (bytes : List ℕ) (wish : Wish) (status : Status) (written : List ℕ)
    (has : HasCertificate status) (short : length written ≤ byte_limit) where
  run_judged : (c : Contents) → HasPlainNames c → (a : AnswersRun c wish status written) → IsSound c a.answer → (s : Status) (w : List ℕ) → Judges c written s w
      → (s ≡ statuses.Good) ⊎ (s ≡ statuses.Unchecked)
  run_judged c names a sound s w j =
      let found = has_cert c a.answer status a.has_status has in
      let printable = subst (λ (k : Option Cert). IfSome k (λ (cert : Cert). IsSized c cert × Fits cert)) found.1 sound.certified in
      let text_of = run_is_text c names wish a.told a.answer found.0 found.1 printable.0 printable.1
      (subst (λ (z : List ℕ). length z ≤ byte_limit) a.written_is short) in
      held_judged c written found.0 s w (subst (λ (z : List ℕ). IsCertText c z found.0) (sym a.written_is) text_of)
      (answer_holds c a.answer found.0 found.1 sound.holds) j

  pub own_text : Answers format bytes wish status written → SolvesSoundly format bytes wish.options
      → (s : Status) (w : List ℕ) → ChecksText format bytes written s w → (s ≡ statuses.Good) ⊎ (s ≡ statuses.Unchecked)
  own_text (inr refused) soundly s w check = absurd (no_certificate_refused status refused.status_is has)
  own_text (inl a) soundly s w check = by_model a.answer check
    where
      by_check : AnswersRun a.model wish status written → first_wide (model_form a.model).bounds ≡ None → ChecksText format bytes written s w
          → (s ≡ statuses.Good) ⊎ (s ≡ statuses.Unchecked)
      by_check run widths (inl r) = absurd (refused_or_accepted format bytes a.model w r.1 (record { text_of = a.text_of; widths = widths }))
      by_check run widths (inr k) =
          run_judged a.model (read_names_are_plain format bytes a.model a.text_of) run (soundly a.model a.text_of widths run.told run.answer run.run) s w
          (subst (λ (x : List ℕ). Judges a.model x s w) k.stands
          (subst (λ (m : Contents). Judges m k.text s w) (one_text format bytes k.model a.model k.accepted.text_of a.text_of) k.judged))

      by_model : AnswersModel a.model wish status written → ChecksText format bytes written s w → (s ≡ statuses.Good) ⊎ (s ≡ statuses.Unchecked)
      by_model (inl f) k = by_check f.run f.widths k
      by_model (inr wide) k = absurd (no_certificate_refused status wide.status_is has)
