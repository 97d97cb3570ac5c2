-- The first line that begins a certificate, and what follows from it.
use Rattle.std.proofs.Common.{◌≡◌, ℕ, suc, ◌+◌, Bool, true, false, List, [], ◌∷◌, ◌++◌, length, codes, refl, sym, ap, ◌∙◌, subst, arith, ◌⊎◌, inl, inr, true≢false, add-zero}
use Rattle.std.specs.List.{All}
use Rattle.pami_model.specs.Contents.{Contents}
use Rattle.pami_cert.specs.declared.cert.CertFault.{CertFault}
use Rattle.pami_cert.specs.declared.cert.CertKind.TheVariants as kinds
use Rattle.pami_cert.specs.declared.cert.Claim.{Claim}
use Rattle.pami_cert.specs.declared.cert.Claim.TheVariants as claims
use Rattle.pami_cert.specs.CertLines.{head_line}
use Rattle.pami_cert.specs.CertText.{is_head}
use Rattle.pami_cert.specs.Due.{due}
use Rattle.pami_cert.specs.FirstFault.{claim_word, fault_at, FirstWrong, WrongFrom, FaultFrom}
use Rattle.pami_cert.specs.Read.{Line, BeginsNone, HasHead}
use Rattle.pami_cert.proofs.Lists.{head_same, tail_same, all_nil, all_head, all_tail, all_more, same_or_not}
use Rattle.pami_cert.proofs.Dues.{one_wrong}
use Rattle.pami_cert.proofs.Bodies.{head_of_one}

-- ---- there is one or none

abbrev Heads : List Line → Type 0
Heads lines = (before : List Line) × ((words : Line) × ((rest : List Line) × HasHead lines before words rest))

pub head_or_none : (lines : List Line) → Heads lines ⊎ All BeginsNone lines
head_or_none [] = inr (all_nil BeginsNone)
head_or_none (w ∷ lines) = go (is_head w) refl (head_or_none lines)
  where
    go : (b : Bool) → is_head w ≡ b → Heads lines ⊎ All BeginsNone lines → Heads (w ∷ lines) ⊎ All BeginsNone (w ∷ lines)
    go true e h = inl ([], (w, (lines, record { lines_are = refl; skipped = all_nil BeginsNone; head = e })))
    go false e (inl h) = let k = h.1.1.1 in
        inl (w ∷ h.0, (h.1.0, (h.1.1.0, record { lines_are = ap (λ ls. w ∷ ls) k.lines_are; skipped = all_more BeginsNone w h.0 e k.skipped; head = k.head })))
    go false e (inr h) = inr (all_more BeginsNone w lines e h)

behind_one : (before other : List Line) (w v : Line) (rest more : List Line) → All BeginsNone before → All BeginsNone other → is_head w ≡ true →
    is_head v ≡ true →
    before ++ w ∷ rest ≡ other ++ v ∷ more → w ∷ rest ≡ v ∷ more
behind_one [] [] w v rest more h k e f g = g
behind_one [] (y ∷ other) w v rest more h k e f g = absurd (true≢false (sym e ∙ ap is_head (head_same g) ∙ all_head BeginsNone y other k))
behind_one (x ∷ before) [] w v rest more h k e f g = absurd (true≢false (sym f ∙ ap is_head (sym (head_same g)) ∙ all_head BeginsNone x before h))
behind_one (x ∷ before) (y ∷ other) w v rest more h k e f g =
    behind_one before other w v rest more (all_tail BeginsNone x before h) (all_tail BeginsNone y other k) e f (tail_same g)

pub one_head : (lines before other : List Line) (w v : Line) (rest more : List Line) → HasHead lines before w rest → HasHead lines other v more →
    w ∷ rest ≡ v ∷ more
one_head lines before other w v rest more h k =
    behind_one before other w v rest more h.skipped k.skipped h.head k.head (sym h.lines_are ∙ k.lines_are)

-- ---- faults before, at and behind it

to_head : (c : Contents) (at : ℕ) (before : List Line) (w : Line) (rest : List Line) (f : CertFault) → All BeginsNone before → is_head w ≡ true →
    FaultFrom c at (before ++ w ∷ rest) f → WrongFrom c (at + length before) w rest f
to_head c at [] w rest f h e (inl k) = absurd (true≢false (sym e ∙ k.0))
to_head c at [] w rest f h e (inr k) = subst (λ n. WrongFrom c n w rest f) (sym (add-zero at)) k.1
to_head c at (x ∷ before) w rest f h e (inl k) = let n : suc at + length before ≡ at + suc (length before) = omega arith in
    subst (λ m. WrongFrom c m w rest f) n (to_head c (suc at) before w rest f (all_tail BeginsNone x before h) e k.1)
to_head c at (x ∷ before) w rest f h e (inr k) = absurd (true≢false (sym k.0 ∙ all_head BeginsNone x before h))

from_head : (c : Contents) (at : ℕ) (before : List Line) (w : Line) (rest : List Line) (f : CertFault) → All BeginsNone before → is_head w ≡ true →
    WrongFrom c (at + length before) w rest f → FaultFrom c at (before ++ w ∷ rest) f
from_head c at [] w rest f h e k = inr (e, subst (λ n. WrongFrom c n w rest f) (add-zero at) k)
from_head c at (x ∷ before) w rest f h e k = let n : at + suc (length before) ≡ suc at + length before = omega arith in
    inl (all_head BeginsNone x before h, from_head c (suc at) before w rest f (all_tail BeginsNone x before h) e (subst (λ m. WrongFrom c m w rest f) n k))

pub fault_at_head : (c : Contents) (at : ℕ) (lines before : List Line) (w : Line) (rest : List Line) (f : CertFault) → HasHead lines before w rest →
    WrongFrom c (at + length before) w rest f → FaultFrom c at lines f
fault_at_head c at lines before w rest f h k = subst (λ ls. FaultFrom c at ls f) (sym h.lines_are) (from_head c at before w rest f h.skipped h.head k)

pub wrong_at_head : (c : Contents) (at : ℕ) (lines before : List Line) (w : Line) (rest : List Line) (f : CertFault) → HasHead lines before w rest →
    FaultFrom c at lines f → WrongFrom c (at + length before) w rest f
wrong_at_head c at lines before w rest f h k = to_head c at before w rest f h.skipped h.head (subst (λ ls. FaultFrom c at ls f) h.lines_are k)

pub absent : (c : Contents) (at : ℕ) (lines : List Line) → All BeginsNone lines → FaultFrom c at lines (fault_at (at + length lines) kinds.Absent)
absent c at [] h = ap (λ n. fault_at n kinds.Absent) (add-zero at)
absent c at (x ∷ lines) h = let n : suc at + length lines ≡ at + suc (length lines) = omega arith in
    inl (
      all_head BeginsNone x lines h,
      subst (λ m. FaultFrom c (suc at) lines (fault_at m kinds.Absent)) n
          (absent c (suc at) lines (all_tail BeginsNone x lines h)),
    )

absent_only : (c : Contents) (at : ℕ) (lines : List Line) (f : CertFault) → All BeginsNone lines → FaultFrom c at lines f →
    f ≡ fault_at (at + length lines) kinds.Absent
absent_only c at [] f h k = k ∙ ap (λ n. fault_at n kinds.Absent) (sym (add-zero at))
absent_only c at (x ∷ lines) f h (inl k) = let n : suc at + length lines ≡ at + suc (length lines) = omega arith in
    absent_only c (suc at) lines f (all_tail BeginsNone x lines h) k.1 ∙ ap (λ m. fault_at m kinds.Absent) n
absent_only c at (x ∷ lines) f h (inr k) = absurd (true≢false (sym k.0 ∙ all_head BeginsNone x lines h))

-- ---- one fault

one_wrong_from : (c : Contents) (at : ℕ) (w : Line) (rest : List Line) (f g : CertFault) → WrongFrom c at w rest f → WrongFrom c at w rest g → f ≡ g
one_wrong_from c at w rest f g (inl h) (inl k) = h.1 ∙ sym k.1
one_wrong_from c at w rest f g (inl h) (inr k) = absurd (h.0 k.0 k.1.0)
one_wrong_from c at w rest f g (inr h) (inl k) = absurd (k.0 h.0 h.1.0)
one_wrong_from c at w rest f g (inr h) (inr k) = let same : h.0 ≡ k.0 = head_of_one h.0 k.0 (sym h.1.0 ∙ k.1.0) in
    one_wrong (due c k.0) (suc at) rest f g (subst (λ claim. FirstWrong (due c claim) (suc at) rest f) same h.1.1) k.1.1

pub one_fault_from : (c : Contents) (at : ℕ) (lines : List Line) (f g : CertFault) → FaultFrom c at lines f → FaultFrom c at lines g → f ≡ g
one_fault_from c at lines f g h k = go (head_or_none lines)
  where
    go : Heads lines ⊎ All BeginsNone lines → f ≡ g
    go (inl p) = let q = p.1.1.1 in
        one_wrong_from c (at + length p.0) p.1.0 p.1.1.0 f g (wrong_at_head c at lines p.0 p.1.0 p.1.1.0 f q h)
        (wrong_at_head c at lines p.0 p.1.0 p.1.1.0 g q k)
    go (inr p) = absent_only c at lines f p h ∙ sym (absent_only c at lines g p k)

-- ---- a known claim or not

line_or_not : (xs ys : Line) → (xs ≡ ys) ⊎ (¬ (xs ≡ ys))
line_or_not [] [] = inl refl
line_or_not [] (y ∷ ys) = inr (λ e. absurd (omega (arith, ap length e)))
line_or_not (x ∷ xs) [] = inr (λ e. absurd (omega (arith, ap length e)))
line_or_not (x ∷ xs) (y ∷ ys) = go (same_or_not x y) (line_or_not xs ys)
  where
    go : (x ≡ y) ⊎ (¬ (x ≡ y)) → (xs ≡ ys) ⊎ (¬ (xs ≡ ys)) → (x ∷ xs ≡ y ∷ ys) ⊎ (¬ (x ∷ xs ≡ y ∷ ys))
    go (inl e) (inl f) = inl (ap (λ z. z ∷ xs) e ∙ ap (λ zs. y ∷ zs) f)
    go (inl e) (inr f) = inr (λ g. f (tail_same g))
    go (inr e) f = inr (λ g. e (head_same g))

pub claim_or_not : (w : Line) → ((claim : Claim) × (w ≡ head_line (claim_word claim))) ⊎ ((claim : Claim) → ¬ (w ≡ head_line (claim_word claim)))
claim_or_not w = go (is claims.Optimal) (is claims.Infeasible) (is claims.DualInfeasible)
  where
    is : (claim : Claim) → (w ≡ head_line (claim_word claim)) ⊎ (¬ (w ≡ head_line (claim_word claim)))
    is claim = line_or_not w (head_line (claim_word claim))

    none : (¬ (w ≡ head_line (codes "optimal"))) → (¬ (w ≡ head_line (codes "infeasible"))) → (¬ (w ≡ head_line (codes "dual-infeasible"))) →
        (claim : Claim) → ¬ (w ≡ head_line (claim_word claim))
    none a b d claims.Optimal = a
    none a b d claims.Infeasible = b
    none a b d claims.DualInfeasible = d

    go : (w ≡ head_line (codes "optimal")) ⊎ (¬ (w ≡ head_line (codes "optimal"))) →
        (w ≡ head_line (codes "infeasible")) ⊎ (¬ (w ≡ head_line (codes "infeasible"))) →
        (w ≡ head_line (codes "dual-infeasible")) ⊎ (¬ (w ≡ head_line (codes "dual-infeasible"))) →
        ((claim : Claim) × (w ≡ head_line (claim_word claim))) ⊎ ((claim : Claim) → ¬ (w ≡ head_line (claim_word claim)))
    go (inl e) b d = inl (claims.Optimal, e)
    go (inr a) (inl e) d = inl (claims.Infeasible, e)
    go (inr a) (inr b) (inl e) = inl (claims.DualInfeasible, e)
    go (inr a) (inr b) (inr d) = inr (none a b d)
