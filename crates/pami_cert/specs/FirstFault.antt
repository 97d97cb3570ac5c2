-- The first fault of a text that should be a certificate of a model.
use Rattle.std.specs.Prelude.{◌≡◌, ℕ, ◌≤◌, ◌<◌, suc, List, [], ◌∷◌, length, codes, ◌⊎◌, true, false, Result, Ok, Err}
use Rattle.pami_frac.specs.declared.fault.Fault.{Fault}
use Rattle.pami_frac.specs.declared.fault.Fault.TheVariants as faults
use Rattle.pami_model.specs.Contents.{Contents}
use Rattle.pami_model.specs.Rules.{byte_limit}
use Rattle.pami_cert.specs.declared.cert.Cert.{Cert}
use Rattle.pami_cert.specs.declared.cert.CertFault.{CertFault}
use Rattle.pami_cert.specs.declared.cert.CertKind.{CertKind}
use Rattle.pami_cert.specs.declared.cert.CertKind.TheVariants as kinds
use Rattle.pami_cert.specs.declared.cert.Claim.{Claim}
use Rattle.pami_cert.specs.declared.cert.Claim.TheVariants as claims
use Rattle.pami_cert.specs.CertLines.{head_line}
use Rattle.pami_cert.specs.CertText.{is_head, lines_in}
use Rattle.pami_cert.specs.Due.{Due, due, IsDue, IsWrong}

abbrev pub claim_word : Claim → List ℕ
claim_word claims.Optimal = codes "optimal"
claim_word claims.Infeasible = codes "infeasible"
claim_word claims.DualInfeasible = codes "dual-infeasible"

abbrev pub fault_at : ℕ → CertKind → CertFault
fault_at line kind = record { line = line; kind = kind }

-- the first of these lines, counted from `at` on, that isn't what is due; or the end of the text before the last one
abbrev pub FirstWrong : List Due → ℕ → List (List (List ℕ)) → CertFault → Type 0
FirstWrong [] at lines fault = ⊥
FirstWrong (d ∷ ds) at [] fault = fault ≡ fault_at at kinds.EndMissing
FirstWrong (d ∷ ds) at (words ∷ lines) fault =
    ((fault.line ≡ at) × IsWrong d words fault.kind) ⊎ (IsDue d words × FirstWrong ds (suc at) lines fault)

-- the fault of a certificate that begins with this line, number `at`: an unknown claim, or what is wrong behind a known one
abbrev pub WrongFrom : Contents → ℕ → List (List ℕ) → List (List (List ℕ)) → CertFault → Type 0
WrongFrom c at words lines fault =
    (((claim : Claim) → ¬ (words ≡ head_line (claim_word claim))) × (fault ≡ fault_at at kinds.Word))
    ⊎ ((claim : Claim) × ((words ≡ head_line (claim_word claim)) × FirstWrong (due c claim) (suc at) lines fault))

-- the fault of these lines, counted from `at` on: that of the first that begins a certificate, or that none does
abbrev pub FaultFrom : Contents → ℕ → List (List (List ℕ)) → CertFault → Type 0
FaultFrom c at [] fault = fault ≡ fault_at at kinds.Absent
FaultFrom c at (words ∷ lines) fault =
    ((is_head words ≡ false) × FaultFrom c (suc at) lines fault) ⊎ ((is_head words ≡ true) × WrongFrom c at words lines fault)

-- the first fault of a text: it is too long, or that of its lines, counted from 1
abbrev pub FirstFault : Contents → List ℕ → CertFault → Type 0
FirstFault c bytes fault =
    ((byte_limit < length bytes) × (fault ≡ fault_at 0 kinds.TooLong)) ⊎ ((length bytes ≤ byte_limit) × FaultFrom c 1 (lines_in bytes) fault)

-- a named fault has this property; want of memory is free
abbrev pub IfNamed : {A : Type 0} → Result A (Fault CertFault) → (CertFault → Type 0) → Type 0
IfNamed (Ok x) P = Unit {0}
IfNamed (Err (faults.Named fault)) P = P fault
IfNamed (Err faults.OutOfMemory) P = Unit {0}

-- the certificate is read; want of memory is free
abbrev pub IsReadAs : Cert → Result Cert (Fault CertFault) → Type 0
IsReadAs cert (Ok read) = read ≡ cert
IsReadAs cert (Err (faults.Named fault)) = ⊥
IsReadAs cert (Err faults.OutOfMemory) = Unit {0}

-- the text is refused with this fault; want of memory is free
abbrev pub IsRefusedAs : CertFault → Result Cert (Fault CertFault) → Type 0
IsRefusedAs fault (Ok read) = ⊥
IsRefusedAs fault (Err (faults.Named named)) = named ≡ fault
IsRefusedAs fault (Err faults.OutOfMemory) = Unit {0}
