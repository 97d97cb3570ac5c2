-- What a reader answers of a whole certificate: its parts put together, and a part's fault as the text's.
use Rattle.std.proofs.Common.{◌≡◌, ℕ, suc, ◌+◌, ◌≤◌, List, [], ◌∷◌, ◌++◌, length, take, refl, sym, ap, ◌∙◌, subst, arith, inr, Option, Result, Ok, Err}
use Rattle.std.proofs.lemmas.List.{length-map, length-take-le}
use Rattle.std.specs.Result.{IfOk}
use Rattle.pami_algebra.specs.Fraction.{Fraction}
use Rattle.pami_frac.specs.declared.fault.Fault.{Fault}
use Rattle.pami_frac.specs.declared.fault.Fault.TheVariants as faults
use Rattle.pami_lines.specs.Certificate.{objective_word}
use Rattle.pami_model.specs.Contents.{Contents}
use Rattle.pami_model.specs.Rules.{byte_limit}
use Rattle.pami_cert.specs.declared.cert.Cert.{Cert}
use Rattle.pami_cert.specs.declared.cert.Cert.TheVariants as certs
use Rattle.pami_cert.specs.declared.cert.CertFault.{CertFault}
use Rattle.pami_cert.specs.declared.cert.Claim.{Claim}
use Rattle.pami_cert.specs.declared.cert.Claim.TheVariants as claims
use Rattle.pami_cert.specs.declared.part.Part.{Part}
use Rattle.pami_cert.specs.declared.part.Part.TheVariants.{Columns, Rows}
use Rattle.pami_cert.specs.Part.{tag, names}
use Rattle.pami_cert.specs.CertLines.{head_line, end_line}
use Rattle.pami_cert.specs.CertText.{lines_in, MayFit, IsCertText}
use Rattle.pami_cert.specs.Due.{Due, Objective, Variable, End, part_due, due, IsDue}
use Rattle.pami_cert.specs.FirstFault.{claim_word, FirstWrong, FirstFault, IfNamed, IsReadAs, IsRefusedAs}
use Rattle.pami_cert.specs.Plain.{IsPrinted}
use Rattle.pami_cert.specs.Read.{Line, left_at, HasLine, HasPairs, HasMembers, IsPairPart, IsMemberPart, HasBody, HasHeadAt, IsWrongFrom, IsWrongAt, objective_line}
use Rattle.pami_cert.proofs.Dues.{Passed, wrong_front, wrong_behind}
use Rattle.pami_cert.proofs.Pairs.{IsPairs, pairs_valued, pairs_passed}
use Rattle.pami_cert.proofs.Members.{IsMembers, members_named, members_passed}
use Rattle.pami_cert.proofs.Bodies.{best_body, infeasible_body, direction_body, objective_due}
use Rattle.pami_cert.proofs.Heads.{fault_at_head}
use Rattle.pami_cert.proofs.Whole.{one_certificate, one_first_fault, not_certificate_and_fault}
use Rattle.pami_cert.proofs.PlainLines.{printed_is_text}

-- ---- faults handed on

pub faults_on : {A B : Type 0} (r : Result A (Fault CertFault)) (s : Result B (Fault CertFault)) (y k : Fault CertFault) (P Q : CertFault → Type 0) →
    r ≡ Err y → y ≡ k → s ≡ Err k → ((f : CertFault) → P f → Q f) → IfNamed s P → IfNamed r Q
faults_on r s y (faults.Named f) P Q e g i h w = subst (λ z. IfNamed z Q) (sym (e ∙ ap Err g)) (h f (subst (λ z. IfNamed z P) i w))
faults_on r s y faults.OutOfMemory P Q e g i h w = subst (λ z. IfNamed z Q) (sym (e ∙ ap Err g)) tt

pub named_so : {A : Type 0} (r : Result A (Fault CertFault)) (P Q : CertFault → Type 0) → ((f : CertFault) → P f → Q f) → IfNamed r P → IfNamed r Q
named_so (Ok x) P Q h w = tt
named_so (Err (faults.Named f)) P Q h w = h f w
named_so (Err faults.OutOfMemory) P Q h w = tt

-- ---- a line or a part is passed, and what comes behind it is wrong

line_then : (d : Due) (ds : List Due) (bytes : List ℕ) (at : ℕ) (words : Line) (f : CertFault) → HasLine bytes at words → IsDue d words →
    IsWrongFrom ds bytes (at + 1) f → IsWrongFrom (d ∷ ds) bytes at f
line_then d ds bytes at words f h k w =
    let n : at + 1 + 1 ≡ suc (at + 1) = omega arith in
    subst (λ ls. FirstWrong (d ∷ ds) (at + 1) ls f) (sym h) (inr (k, subst (λ m. FirstWrong ds m (left_at bytes (at + 1)) f) n w))

part_then : (c : Contents) (part : Part) (n : ℕ) (es : List Due) (bytes : List ℕ) (at : ℕ) (f : CertFault) →
    Passed (part_due c part n) (left_at bytes at) (left_at bytes (at + length (names c part))) → IsWrongFrom es bytes (at + length (names c part)) f →
    IsWrongFrom (part_due c part n ++ es) bytes at f
part_then c part n es bytes at f h w =
    let many : length (part_due c part n) ≡ length (names c part) = length-map (names c part) (λ (name : List ℕ). Variable part name n) in
    let number : at + length (names c part) + 1 ≡ at + 1 + length (part_due c part n) = omega (arith, many) in
    wrong_behind (part_due c part n) es (at + 1) (at + length (names c part) + 1) (left_at bytes at) (left_at bytes (at + length (names c part))) f number h w

pairs_by : (c : Contents) (part : Part) (lines rest : List Line) (xs ds : List Fraction) → IsPairPart c part lines rest xs ds →
    IsPairs (tag part) (names c part) lines rest xs ds
pairs_by c part lines rest xs ds h = record {
  numbers = h.numbers;
  lines_are = h.lines_are ∙ ap (λ ls. ls ++ rest) (pairs_valued (tag part) (names c part) xs ds h.numbers.firsts h.numbers.seconds);
}

members_by : (c : Contents) (part : Part) (lines rest : List Line) (xs : List Fraction) → IsMemberPart c part lines rest xs →
    IsMembers (tag part) (names c part) lines rest xs
members_by c part lines rest xs h = record {
  numbers = h.numbers;
  lines_are = h.lines_are ∙ ap (λ ls. ls ++ rest) (members_named (tag part) (names c part) xs h.numbers.numbers);
}

pairs_then : (c : Contents) (part : Part) (es : List Due) (bytes : List ℕ) (at : ℕ) (xs ds : List Fraction) (f : CertFault) → HasPairs c part bytes at xs ds →
    IsWrongFrom es bytes (at + length (names c part)) f → IsWrongFrom (part_due c part 2 ++ es) bytes at f
pairs_then c part es bytes at xs ds f h w =
    let rest = left_at bytes (at + length (names c part)) in
    part_then c part 2 es bytes at f (pairs_passed part (names c part) (left_at bytes at) rest xs ds (pairs_by c part (left_at bytes at) rest xs ds h.lines)) w

members_then : (c : Contents) (part : Part) (es : List Due) (bytes : List ℕ) (at : ℕ) (xs : List Fraction) (f : CertFault) → HasMembers c part bytes at xs →
    IsWrongFrom es bytes (at + length (names c part)) f → IsWrongFrom (part_due c part 1 ++ es) bytes at f
members_then c part es bytes at xs f h w =
    let rest = left_at bytes (at + length (names c part)) in
    part_then c part 1 es bytes at f (members_passed part (names c part) (left_at bytes at) rest xs (members_by c part (left_at bytes at) rest xs h.lines)) w

-- ---- an optimum

abbrev Told : List ℕ → ℕ → Option Fraction → Type 0
Told bytes at o = HasLine bytes at (objective_line o) × MayFit o

objective_then : (c : Contents) (bytes : List ℕ) (at : ℕ) (o : Option Fraction) (f : CertFault) → Told bytes at o →
    IsWrongFrom (part_due c Columns 2 ++ (part_due c Rows 2 ++ End ∷ [])) bytes (at + 1) f → IsWrongFrom (due c claims.Optimal) bytes at f
objective_then c bytes at o f h w =
    line_then Objective (part_due c Columns 2 ++ (part_due c Rows 2 ++ End ∷ [])) bytes at (objective_line o) f h.0
    (objective_word o, (refl, objective_due o h.1)) w

pub best_columns_wrong : (c : Contents) (bytes : List ℕ) (at : ℕ) (o : Option Fraction) (f : CertFault) → Told bytes at o →
    IsWrongFrom (part_due c Columns 2) bytes (at + 1) f → IsWrongFrom (due c claims.Optimal) bytes at f
best_columns_wrong c bytes at o f h w =
    objective_then c bytes at o f h (wrong_front (part_due c Columns 2) (part_due c Rows 2 ++ End ∷ []) (at + 1 + 1) (left_at bytes (at + 1)) f w)

pub best_rows_wrong : (c : Contents) (bytes : List ℕ) (at : ℕ) (o : Option Fraction) (x d : List Fraction) (f : CertFault) → Told bytes at o →
    HasPairs c Columns bytes (at + 1) x d → IsWrongFrom (part_due c Rows 2) bytes (at + 1 + length (names c Columns)) f → IsWrongFrom (due c claims.Optimal)
    bytes at f
best_rows_wrong c bytes at o x d f h k w =
    let rows = at + 1 + length (names c Columns) in
    objective_then c bytes at o f h (pairs_then c Columns (part_due c Rows 2 ++ End ∷ []) bytes (at + 1) x d f k
    (wrong_front (part_due c Rows 2) (End ∷ []) (rows + 1) (left_at bytes rows) f w))

pub best_end_wrong : (c : Contents) (bytes : List ℕ) (at : ℕ) (o : Option Fraction) (x d r y : List Fraction) (f : CertFault) → Told bytes at o →
    HasPairs c Columns bytes (at + 1) x d → HasPairs c Rows bytes (at + 1 + length (names c Columns)) r y →
    IsWrongAt End bytes (at + 1 + length (names c Columns) + length (names c Rows)) f → IsWrongFrom (due c claims.Optimal) bytes at f
best_end_wrong c bytes at o x d r y f h k l w =
    objective_then c bytes at o f h (pairs_then c Columns (part_due c Rows 2 ++ End ∷ []) bytes (at + 1) x d f k
    (pairs_then c Rows (End ∷ []) bytes (at + 1 + length (names c Columns)) r y f l w))

pub best_read : (c : Contents) (bytes : List ℕ) (at : ℕ) (o : Option Fraction) (x d r y : List Fraction) → Told bytes at o →
    HasPairs c Columns bytes (at + 1) x d → HasPairs c Rows bytes (at + 1 + length (names c Columns)) r y →
    HasLine bytes (at + 1 + length (names c Columns) + length (names c Rows)) end_line → HasBody c claims.Optimal (left_at bytes at) (certs.Optimal o x d r y)
best_read c bytes at o x d r y h k l e =
    let rows = at + 1 + length (names c Columns) in
    let last = rows + length (names c Rows) in (
      refl,
      (
        left_at bytes (last + 1),
        best_body c o x d r y (left_at bytes at) (left_at bytes (at + 1)) (left_at bytes rows) (left_at bytes (last + 1)) h.1 h.0
            (pairs_by c Columns (left_at bytes (at + 1)) (left_at bytes rows) x d k.lines)
            (subst (λ ls. IsPairs (tag Rows) (names c Rows) (left_at bytes rows) ls r y) e
            (pairs_by c Rows (left_at bytes rows) (left_at bytes last) r y l.lines)),
      ),
    )

-- ---- rows that can't be met

pub infeasible_rows_wrong : (c : Contents) (bytes : List ℕ) (at : ℕ) (f : CertFault) → IsWrongFrom (part_due c Rows 1) bytes at f →
    IsWrongFrom (due c claims.Infeasible) bytes at f
infeasible_rows_wrong c bytes at f w = wrong_front (part_due c Rows 1) (End ∷ []) (at + 1) (left_at bytes at) f w

pub infeasible_end_wrong : (c : Contents) (bytes : List ℕ) (at : ℕ) (y : List Fraction) (f : CertFault) → HasMembers c Rows bytes at y →
    IsWrongAt End bytes (at + length (names c Rows)) f → IsWrongFrom (due c claims.Infeasible) bytes at f
infeasible_end_wrong c bytes at y f h w = members_then c Rows (End ∷ []) bytes at y f h w

pub infeasible_read : (c : Contents) (bytes : List ℕ) (at : ℕ) (y : List Fraction) → HasMembers c Rows bytes at y →
    HasLine bytes (at + length (names c Rows)) end_line → HasBody c claims.Infeasible (left_at bytes at) (certs.Infeasible y)
infeasible_read c bytes at y h e =
    let last = at + length (names c Rows) in (
      refl,
      (
        left_at bytes (last + 1),
        infeasible_body c y (left_at bytes at) (left_at bytes (last + 1))
            (subst (λ ls. IsMembers (tag Rows) (names c Rows) (left_at bytes at) ls y) e (members_by c Rows (left_at bytes at) (left_at bytes last) y h.lines)),
      ),
    )

-- ---- a direction

pub direction_columns_wrong : (c : Contents) (bytes : List ℕ) (at : ℕ) (f : CertFault) → IsWrongFrom (part_due c Columns 1) bytes at f →
    IsWrongFrom (due c claims.DualInfeasible) bytes at f
direction_columns_wrong c bytes at f w = wrong_front (part_due c Columns 1) (part_due c Rows 1 ++ End ∷ []) (at + 1) (left_at bytes at) f w

pub direction_rows_wrong : (c : Contents) (bytes : List ℕ) (at : ℕ) (x : List Fraction) (f : CertFault) → HasMembers c Columns bytes at x →
    IsWrongFrom (part_due c Rows 1) bytes (at + length (names c Columns)) f → IsWrongFrom (due c claims.DualInfeasible) bytes at f
direction_rows_wrong c bytes at x f h w =
    let rows = at + length (names c Columns) in
    members_then c Columns (part_due c Rows 1 ++ End ∷ []) bytes at x f h (wrong_front (part_due c Rows 1) (End ∷ []) (rows + 1) (left_at bytes rows) f w)

pub direction_end_wrong : (c : Contents) (bytes : List ℕ) (at : ℕ) (x r : List Fraction) (f : CertFault) → HasMembers c Columns bytes at x →
    HasMembers c Rows bytes (at + length (names c Columns)) r → IsWrongAt End bytes (at + length (names c Columns) + length (names c Rows)) f →
    IsWrongFrom (due c claims.DualInfeasible) bytes at f
direction_end_wrong c bytes at x r f h k w =
    members_then c Columns (part_due c Rows 1 ++ End ∷ []) bytes at x f h (members_then c Rows (End ∷ []) bytes (at + length (names c Columns)) r f k w)

pub direction_read : (c : Contents) (bytes : List ℕ) (at : ℕ) (x r : List Fraction) → HasMembers c Columns bytes at x →
    HasMembers c Rows bytes (at + length (names c Columns)) r → HasLine bytes (at + length (names c Columns) + length (names c Rows)) end_line →
    HasBody c claims.DualInfeasible (left_at bytes at) (certs.DualInfeasible x r)
direction_read c bytes at x r h k e =
    let rows = at + length (names c Columns) in
    let last = rows + length (names c Rows) in (
      refl,
      (
        left_at bytes (last + 1),
        direction_body c x r (left_at bytes at) (left_at bytes rows) (left_at bytes (last + 1))
            (members_by c Columns (left_at bytes at) (left_at bytes rows) x h.lines)
            (subst (λ ls. IsMembers (tag Rows) (names c Rows) (left_at bytes rows) ls r) e
            (members_by c Rows (left_at bytes rows) (left_at bytes last) r k.lines)),
      ),
    )

-- ---- whole texts

pub text_wrong : (c : Contents) (bytes : List ℕ) (at : ℕ) (claim : Claim) (f : CertFault) → length bytes ≤ byte_limit → HasHeadAt bytes at claim →
    IsWrongFrom (due c claim) bytes (at + 1) f → FirstFault c bytes f
text_wrong c bytes at claim f l h w =
    let lines = lines_in bytes in
    let within = h.0 in
    let many : length (take at lines) ≡ at = length-take-le at lines (omega (arith, within)) in
    let number : at + 1 + 1 ≡ suc (1 + length (take at lines)) = omega (arith, many) in
    inr (
      l,
      fault_at_head c 1 lines (take at lines) (head_line (claim_word claim)) (left_at bytes (at + 1)) f h.1
          (inr (claim, (refl, subst (λ m. FirstWrong (due c claim) m (left_at bytes (at + 1)) f) number w))),
    )

-- ---- both ways

pub only_certificate : (c : Contents) (bytes : List ℕ) (r : Result Cert (Fault CertFault)) → IfOk r (λ cert. IsCertText c bytes cert) →
    IfNamed r (λ fault. FirstFault c bytes fault) → (cert : Cert) → IsCertText c bytes cert → IsReadAs cert r
only_certificate c bytes (Ok read) h w cert k = one_certificate c bytes read cert h k
only_certificate c bytes (Err (faults.Named f)) h w cert k = not_certificate_and_fault c bytes cert f k w
only_certificate c bytes (Err faults.OutOfMemory) h w cert k = tt

pub only_fault : (c : Contents) (bytes : List ℕ) (r : Result Cert (Fault CertFault)) → IfOk r (λ cert. IsCertText c bytes cert) →
    IfNamed r (λ fault. FirstFault c bytes fault) → (fault : CertFault) → FirstFault c bytes fault → IsRefusedAs fault r
only_fault c bytes (Ok read) h w fault k = not_certificate_and_fault c bytes read fault h k
only_fault c bytes (Err (faults.Named f)) h w fault k = one_first_fault c bytes f fault w k
only_fault c bytes (Err faults.OutOfMemory) h w fault k = tt

pub printed_read : (c : Contents) (bytes : List ℕ) (r : Result Cert (Fault CertFault)) → IfOk r (λ cert. IsCertText c bytes cert) →
    IfNamed r (λ fault. FirstFault c bytes fault) → (cert : Cert) → IsPrinted c bytes cert → IsReadAs cert r
printed_read c bytes r h w cert p = only_certificate c bytes r h w cert (printed_is_text c bytes cert p)
