-- Whole texts: each is a text of one certificate or has one first fault.
use Rattle.std.proofs.Common.{◌≡◌, ℕ, suc, ◌+◌, ◌≤◌, true, List, ◌∷◌, ◌++◌, length, refl, sym, ap, ◌∙◌, subst, arith, ◌⊎◌, inl, inr, ⊎_elim}
use Rattle.std.specs.List.{All}
use Rattle.std.proofs.lemmas.Bool.{cases_lt}
use Rattle.pami_model.specs.Contents.{Contents}
use Rattle.pami_model.specs.Rules.{byte_limit}
use Rattle.pami_cert.specs.declared.cert.Cert.{Cert}
use Rattle.pami_cert.specs.declared.cert.CertFault.{CertFault}
use Rattle.pami_cert.specs.declared.cert.CertKind.TheVariants as kinds
use Rattle.pami_cert.specs.declared.cert.Claim.{Claim}
use Rattle.pami_cert.specs.declared.cert.Claim.TheVariants as claims
use Rattle.pami_cert.specs.CertLines.{head_line}
use Rattle.pami_cert.specs.CertText.{is_head, lines_in, IsCertText}
use Rattle.pami_cert.specs.Due.{due}
use Rattle.pami_cert.specs.FirstFault.{claim_word, fault_at, FirstWrong, WrongFrom, FirstFault}
use Rattle.pami_cert.specs.Read.{Line, claim_of, body, IsBody, BeginsNone, HasHead}
use Rattle.pami_cert.proofs.Lists.{head_same, tail_same}
use Rattle.pami_cert.proofs.Dues.{Passed, passed_or_wrong, passed_not_wrong}
use Rattle.pami_cert.proofs.Bodies.{lines_of_body, body_passed, passed_body, head_of_one, body_of_one}
use Rattle.pami_cert.proofs.Heads.{head_or_none, one_head, fault_at_head, wrong_at_head, absent, one_fault_from, claim_or_not}

claimed : (claim : Claim) → is_head (head_line (claim_word claim)) ≡ true
claimed claims.Optimal = refl
claimed claims.Infeasible = refl
claimed claims.DualInfeasible = refl

text_head : (c : Contents) (bytes : List ℕ) (cert : Cert) → (h : IsCertText c bytes cert) →
    HasHead (lines_in bytes) h.before (head_line (claim_word (claim_of cert))) (body c cert ++ h.behind)
text_head c bytes cert h = record {
  lines_are = h.lines ∙ ap (λ ls. h.before ++ (ls ++ h.behind)) (lines_of_body c cert);
  skipped = h.skipped;
  head = claimed (claim_of cert);
}

text_body : (c : Contents) (bytes : List ℕ) (cert : Cert) → (h : IsCertText c bytes cert) → IsBody c (body c cert ++ h.behind) h.behind cert
text_body c bytes cert h = record { sized = h.sized; numbers = h.numbers; lines_are = refl }

-- a text, from its first line and the lines behind it
pub text_of_parts : (c : Contents) (bytes : List ℕ) (claim : Claim) (cert : Cert) (before rest behind : List Line) → length bytes ≤ byte_limit →
    HasHead (lines_in bytes) before (head_line (claim_word claim)) rest → claim_of cert ≡ claim → IsBody c rest behind cert → IsCertText c bytes cert
text_of_parts c bytes claim cert before rest behind l h e k = record {
  short = l;
  before = before;
  behind = behind;
  lines = h.lines_are ∙ ap (λ z. before ++ (head_line (claim_word z) ∷ rest)) (sym e)
      ∙ ap (λ ls. before ++ (head_line (claim_word (claim_of cert)) ∷ ls)) k.lines_are
      ∙ ap (λ ls. before ++ (ls ++ behind)) (sym (lines_of_body c cert));
  skipped = h.skipped;
  sized = k.sized;
  numbers = k.numbers;
}

pub one_certificate : (c : Contents) (bytes : List ℕ) (a b : Cert) → IsCertText c bytes a → IsCertText c bytes b → a ≡ b
one_certificate c bytes a b h k =
    let same = one_head (lines_in bytes) h.before k.before (head_line (claim_word (claim_of a))) (head_line (claim_word (claim_of b)))
    (body c a ++ h.behind) (body c b ++ k.behind) (text_head c bytes a h) (text_head c bytes b k) in
    let other : IsBody c (body c a ++ h.behind) k.behind b = record { sized = k.sized; numbers = k.numbers; lines_are = tail_same same } in
    body_of_one c a b (body c a ++ h.behind) h.behind k.behind (head_of_one (claim_of a) (claim_of b) (head_same same)) (text_body c bytes a h) other

pub one_first_fault : (c : Contents) (bytes : List ℕ) (f g : CertFault) → FirstFault c bytes f → FirstFault c bytes g → f ≡ g
one_first_fault c bytes f g (inl h) (inl k) = h.1 ∙ sym k.1
one_first_fault c bytes f g (inl h) (inr k) = absurd (omega (arith, h.0, k.0))
one_first_fault c bytes f g (inr h) (inl k) = absurd (omega (arith, h.0, k.0))
one_first_fault c bytes f g (inr h) (inr k) = one_fault_from c 1 (lines_in bytes) f g h.1 k.1

pub not_certificate_and_fault : (c : Contents) (bytes : List ℕ) (cert : Cert) (f : CertFault) → IsCertText c bytes cert → FirstFault c bytes f → ⊥
not_certificate_and_fault c bytes cert f h (inl k) = let l = h.short in omega (arith, l, k.0)
not_certificate_and_fault c bytes cert f h (inr k) =
    go (wrong_at_head c 1 (lines_in bytes) h.before (head_line (claim_word (claim_of cert))) (body c cert ++ h.behind) f (text_head c bytes cert h) k.1)
  where
    go : WrongFrom c (1 + length h.before) (head_line (claim_word (claim_of cert))) (body c cert ++ h.behind) f → ⊥
    go (inl w) = w.0 (claim_of cert) refl
    go (inr w) = let same : claim_of cert ≡ w.0 = head_of_one (claim_of cert) w.0 w.1.0 in
        passed_not_wrong (due c w.0) (suc (1 + length h.before)) (body c cert ++ h.behind) h.behind f
        (subst (λ claim. Passed (due c claim) (body c cert ++ h.behind) h.behind) same
        (body_passed c cert (body c cert ++ h.behind) h.behind (text_body c bytes cert h))) w.1.1

abbrev HasText : Contents → List ℕ → Type 0
HasText c bytes = (cert : Cert) × IsCertText c bytes cert

abbrev HasFault : Contents → List ℕ → Type 0
HasFault c bytes = (f : CertFault) × FirstFault c bytes f

certificate_or_fault_in : (c : Contents) (bytes : List ℕ) → length bytes ≤ byte_limit → HasText c bytes ⊎ HasFault c bytes
certificate_or_fault_in c bytes l = heads (head_or_none (lines_in bytes))
  where
    bodies : (before : List Line) (w : Line) (rest : List Line) → HasHead (lines_in bytes) before w rest → (claim : Claim) → w ≡ head_line (claim_word claim) →
        ((left : List Line) × Passed (due c claim) rest left) ⊎ ((f : CertFault) × FirstWrong (due c claim) (suc (1 + length before)) rest f) → HasText c
        bytes ⊎ HasFault c bytes
    bodies before w rest h claim e (inl p) = let found = passed_body c claim rest p.0 p.1 in
        inl (found.0, text_of_parts c bytes claim found.0 before rest p.0 l (subst (λ v. HasHead (lines_in bytes) before v rest) e h) found.1.0 found.1.1)
    bodies before w rest h claim e (inr p) = inr (p.0, inr (l, fault_at_head c 1 (lines_in bytes) before w rest p.0 h (inr (claim, (e, p.1)))))

    known : (before : List Line) (w : Line) (rest : List Line) → HasHead (lines_in bytes) before w rest →
        ((claim : Claim) × (w ≡ head_line (claim_word claim))) ⊎ ((claim : Claim) → ¬ (w ≡ head_line (claim_word claim))) → HasText c bytes ⊎ HasFault c bytes
    known before w rest h (inl k) = bodies before w rest h k.0 k.1 (passed_or_wrong (due c k.0) (suc (1 + length before)) rest)
    known before w rest h (inr k) = inr (
      fault_at (1 + length before) kinds.Word,
      inr (l, fault_at_head c 1 (lines_in bytes) before w rest (fault_at (1 + length before) kinds.Word) h (inl (k, refl))),
    )

    heads : ((before : List Line) × ((w : Line) × ((rest : List Line) × HasHead (lines_in bytes) before w rest))) ⊎ All BeginsNone (lines_in bytes) →
        HasText c bytes ⊎ HasFault c bytes
    heads (inl h) = known h.0 h.1.0 h.1.1.0 h.1.1.1 (claim_or_not h.1.0)
    heads (inr h) = inr (fault_at (1 + length (lines_in bytes)) kinds.Absent, inr (l, absent c 1 (lines_in bytes) h))

pub certificate_or_fault : (c : Contents) (bytes : List ℕ) → HasText c bytes ⊎ HasFault c bytes
certificate_or_fault c bytes =
    ⊎_elim (λ l. inr (fault_at 0 kinds.TooLong, inl (l, refl))) (λ l. certificate_or_fault_in c bytes l) (cases_lt byte_limit (length bytes))
