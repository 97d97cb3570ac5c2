-- What is wrong with a line is wrong where the line stands.
use Rattle.std.proofs.Common.{◌≡◌, ℕ, ◌+◌, ap, Result, Ok, Err, MatchResult}
use Rattle.std.specs.Result.{IfErr}
use Rattle.pami_cert.specs.declared.cert.CertFault.{CertFault}
use Rattle.pami_cert.specs.declared.cert.CertKind.{CertKind}
use Rattle.pami_cert.specs.FirstFault.{fault_at}

abbrev fault_of : {A : Type 0} → CertFault → Result A CertFault → CertFault
fault_of d (Ok x) = d
fault_of d (Err f) = f

-- a fault that a line was given is what is wrong with the line
pub fault_there : {A : Type 0} (at : ℕ) (P : CertKind → Type 0) (judged : Result A CertKind) (f : CertFault) →
    MatchResult judged (λ (x : A). ◌≡◌ {A = Result A CertFault} (Err f) (Ok x))
    (λ kind. ◌≡◌ {A = Result A CertFault} (Err f) (Err (fault_at (at + 1) kind))) → IfErr judged P → (kind : CertKind) × (P kind × (f ≡ fault_at (at + 1) kind))
fault_there at P (Ok x) f e h = cc
fault_there at P (Err kind) f e h = (kind, (h, ap (fault_of f) e))
