-- The longest lexeme, found byte by byte.
use Rattle.std.proofs.Common.{◌≡◌, ◌<◌, ◌≤◌, ◌+◌, ◌-◌, ℕ, zero, suc, Bool, false, cond, List, [], ◌∷◌, ◌++◌, length, take, get_or, refl, sym, ap, subst, ◌∙◌, arith}
use Rattle.std.proofs.lemmas.List.{take_more}
use Rattle.pami_lp_text.specs.declared.kind.Scan.{Scan}
use Rattle.pami_lp_text.specs.declared.kind.Scan.TheVariants.{Start, Dead}
use Rattle.pami_lp_text.specs.Lexeme.{is_lexeme, greatest, longest}
use Rattle.pami_lp_text.specs.Scanning.{scanned, is_whole, through}
use Rattle.pami_lp_text.proofs.Scans.{lexeme_is}

pub through-append : (s : Scan) (xs ys : List ℕ) → through s (xs ++ ys) ≡ through (through s xs) ys
through-append s [] ys = refl
through-append s (x ∷ xs) ys = through-append (scanned s x) xs ys

pub through_more : (bs : List ℕ) (i d : ℕ) → i < length bs → through Start (take (i + 1) bs) ≡ scanned (through Start (take i bs)) (get_or bs i d)
through_more bs i d lt = ap (through Start) (take_more bs i d lt) ∙ through-append Start (take i bs) (get_or bs i d ∷ [])

dead : (bs : List ℕ) → through Dead bs ≡ Dead
dead [] = refl
dead (b ∷ bs) = dead bs

-- what is no lexeme and can't become one
stays_dead : (s : Scan) (bs : List ℕ) (m n : ℕ) → m ≤ n → through s (take m bs) ≡ Dead → through s (take n bs) ≡ Dead
stays_dead s bs zero n le e = subst (λ (t : Scan). through t (take n bs) ≡ Dead) (sym e) (dead (take n bs))
stays_dead s [] (suc m) zero le e = e
stays_dead s [] (suc m) (suc n) le e = e
stays_dead s (b ∷ bs) (suc m) zero le e = absurd (omega arith)
stays_dead s (b ∷ bs) (suc m) (suc n) le e = stays_dead (scanned s b) bs m n (omega arith) e

greatest_more : (p : ℕ → Bool) (i : ℕ) (b : Bool) → p (i + 1) ≡ b → greatest p (i + 1) ≡ cond b (i + 1) (greatest p i)
greatest_more p i b e = let s : i + 1 ≡ suc i = omega arith in rw s (ap (λ c. cond c (suc i) (greatest p i)) (ap p (sym s) ∙ e))

greatest_rest : (p : ℕ → Bool) (i k : ℕ) → ((n : ℕ) → i < n → p n ≡ false) → greatest p (i + k) ≡ greatest p i
greatest_rest p i zero none = let s : i + 0 ≡ i = omega arith in ap (greatest p) s
greatest_rest p i (suc k) none =
    let s : i + suc k ≡ (i + k) + 1 = omega arith in
    ap (greatest p) s ∙ greatest_more p (i + k) false (none (i + k + 1) (omega arith)) ∙ greatest_rest p i k none

abbrev passes : List ℕ → ℕ → Bool
passes bs n = is_lexeme (take n bs)

-- after i bytes
pub record So (bs : List ℕ) (i : ℕ) (s : Scan) (best : ℕ) : Type 0 where
  pub scan : s ≡ through Start (take i bs)
  pub found : best ≡ greatest (λ n. is_lexeme (take n bs)) i

pub begins : (bs : List ℕ) → So bs 0 Start 0
begins bs = record { scan = refl; found = refl }

passes_now : (bs : List ℕ) (i : ℕ) (s t : Scan) (d best : ℕ) → So bs i s best → i < length bs → t ≡ scanned s (get_or bs i d) → through Start (take (i + 1) bs) ≡ t
passes_now bs i s t d best so lt e = through_more bs i d lt ∙ ap (λ (r : Scan). scanned r (get_or bs i d)) (sym so.scan) ∙ sym e

pub goes : (bs : List ℕ) (i : ℕ) (s t : Scan) (d best : ℕ) (b : Bool) (more : ℕ) → So bs i s best → i < length bs → t ≡ scanned s (get_or bs i d) → is_whole t ≡ b → more ≡ cond b (i + 1) best → So bs (i + 1) t more
goes bs i s t d best b more so lt e w m =
    let now : through Start (take (i + 1) bs) ≡ t = passes_now bs i s t d best so lt e in
    let is : passes bs (i + 1) ≡ b = lexeme_is (take (i + 1) bs) ∙ ap is_whole now ∙ w in
    record { scan = sym now; found = m ∙ ap (λ n. cond b (i + 1) n) so.found ∙ sym (greatest_more (passes bs) i b is) }

pub ends_dead : (bs : List ℕ) (i : ℕ) (s : Scan) (d best : ℕ) → So bs i s best → i < length bs → Dead ≡ scanned s (get_or bs i d) → best ≡ longest bs
ends_dead bs i s d best so lt e =
    let now : through Start (take (i + 1) bs) ≡ Dead = passes_now bs i s Dead d best so lt e in
    let k : i + (length bs - i) ≡ length bs = omega arith in
    so.found ∙ sym (greatest_rest (passes bs) i (length bs - i) (λ n le. lexeme_is (take n bs) ∙ ap is_whole (stays_dead Start bs (i + 1) n (omega arith) now))) ∙ ap (greatest (passes bs)) k

pub ends : (bs : List ℕ) (i : ℕ) (s : Scan) (best : ℕ) → So bs i s best → i ≡ length bs → best ≡ longest bs
ends bs i s best so e = so.found ∙ ap (greatest (passes bs)) e
