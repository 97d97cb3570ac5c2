-- A line of the right words whose numbers are none.
use Rattle.std.proofs.Common.{◌≡◌, ℕ, List, [], ◌∷◌, length, codes, sym, ap, ◌∙◌, subst, ⊎_elim, inr, Result, Err}
use Rattle.std.specs.Result.{IfErr}
use Rattle.std.specs.List.{All}
use Rattle.pami_frac.specs.declared.fault.Fault.{Fault}
use Rattle.pami_frac.specs.declared.fault.Fault.TheVariants as faults
use Rattle.pami_cert.specs.declared.cert.CertFault.{CertFault}
use Rattle.pami_cert.specs.FirstFault.{IfNamed}
use Rattle.pami_cert.specs.declared.cert.CertKind.{CertKind}
use Rattle.pami_cert.specs.declared.cert.CertKind.TheVariants as kinds
use Rattle.pami_cert.specs.declared.part.Part.{Part}
use Rattle.pami_cert.specs.Part.{tag}
use Rattle.pami_cert.specs.Due.{Objective, Variable, IsNumber, IsObjective, IsWrong}
use Rattle.pami_cert.specs.Read.{Line}
use Rattle.pami_cert.proofs.Lists.{head_same, tail_same}

pub handed_on : {A E : Type 0} (r : Result A E) (y k : E) (P : E → Type 0) → r ≡ Err y → y ≡ k → P k → IfErr r P
handed_on r y k P e f h = subst (λ z. IfErr z P) (sym (e ∙ ap Err f)) h

pub no_objective : (words : Line) (first value : List ℕ) (kind : CertKind) → words ≡ first ∷ value ∷ [] → first ≡ codes "objective" →
    (¬ (value ≡ codes "wide")) →
    (kind ≡ kinds.Number) × (¬ IsNumber value) → IsWrong Objective words kind
no_objective words first value kind e f w n =
    let words_are : words ≡ codes "objective" ∷ value ∷ [] = e ∙ ap (λ z. z ∷ value ∷ []) f in
    inr (inr (n.0, ((value, words_are), λ due. ⊎_elim w n.1 (subst IsObjective (head_same (tail_same (sym due.1.0 ∙ words_are))) due.1.1))))

pub no_numbers : (part : Part) (name : List ℕ) (n : ℕ) (words : Line) (first second : List ℕ) (numbers : Line) (kind : CertKind) →
    words ≡ first ∷ second ∷ numbers → first ≡ tag part → second ≡ name → length numbers ≡ n → kind ≡ kinds.Number → (¬ All IsNumber numbers) →
    IsWrong (Variable part name n) words kind
no_numbers part name n words first second numbers kind e f g l k none =
    let words_are : words ≡ tag part ∷ name ∷ numbers = e ∙ ap (λ z. z ∷ second ∷ numbers) f ∙ ap (λ z. tag part ∷ z ∷ numbers) g in
    inr (inr (k, ((numbers, (l, words_are)), λ due. none (subst (All IsNumber) (tail_same (tail_same (sym due.1.0.1 ∙ words_are))) due.1.1))))

pub named_on : {A : Type 0} (r : Result A (Fault CertFault)) (y : Fault CertFault) (f : CertFault) (P : CertFault → Type 0) → r ≡ Err y → y ≡ faults.Named f →
    P f → IfNamed r P
named_on r y f P e g h = subst (λ z. IfNamed z P) (sym (e ∙ ap Err g)) h
