-- Scripts over the members of a list, by what each of their steps gives.
use Rattle.std.proofs.Common.{◌≡◌, ℕ, zero, suc, ◌+◌, ◌<◌, List, [], ◌∷◌, length, get_or, refl, sym, ap, ◌∙◌, arith, Result, Ok, Err}
use Rattle.pami_frac.specs.declared.arithmetic.Refused.{Refused}
use Rattle.pami_script.specs.Script.{then, each_member}
use Rattle.pami_script.proofs.Scripts.{then_go, then_stop}

pub shifted_at : {A : Type 0} (g : ℕ → A) (k i : ℕ) → g (k + suc i) ≡ g (suc k + i)
shifted_at g k i = let e : k + suc i ≡ suc k + i = omega arith in ap g e

pub at_start : {A : Type 0} (g : ℕ → A) (k : ℕ) → g (k + 0) ≡ g k
at_start g k = let e : k + 0 ≡ k = omega arith in ap g e

-- ---- each member
pub members_ok : {A B : Type 0} (step : ℕ → A → Result B Refused) (k : ℕ) (xs : List A) (ys : List B) (d : A) (c : B) → length ys ≡ length xs
    → ((i : ℕ) → i < length xs → step (k + i) (get_or xs i d) ≡ Ok (get_or ys i c)) → each_member step k xs ≡ Ok ys
members_ok step k [] [] d c n h = refl
members_ok step k [] (y ∷ ys) d c n h = absurd (omega arith)
members_ok step k (x ∷ xs) [] d c n h = absurd (omega arith)
members_ok step k (x ∷ xs) (y ∷ ys) d c n h =
    then_go (step k x) (λ y. then (each_member step (suc k) xs) (λ zs. Ok (y ∷ zs))) y (sym (at_start (λ j. step j x) k) ∙ h 0 (omega arith))
    ∙ then_go (each_member step (suc k) xs) (λ zs. Ok (y ∷ zs)) ys
    (members_ok step (suc k) xs ys d c (omega arith) (λ i l. sym (shifted_at (λ j. step j (get_or xs i d)) k i) ∙ h (suc i) (omega arith)))

pub members_err : {A B : Type 0} (step : ℕ → A → Result B Refused) (k : ℕ) (xs : List A) (p : ℕ) (r : Refused) (d : A) → p < length xs → step (k + p) (get_or xs p d) ≡ Err r
    → ((i : ℕ) → i < p → (y : B) × (step (k + i) (get_or xs i d) ≡ Ok y)) → each_member step k xs ≡ Err r
members_err step k [] p r d l e h = absurd (omega arith)
members_err step k (x ∷ xs) zero r d l e h = then_stop (step k x) (λ y. then (each_member step (suc k) xs) (λ zs. Ok (y ∷ zs))) r (sym (at_start (λ j. step j x) k) ∙ e)
members_err step k (x ∷ xs) (suc p) r d l e h =
    let first = h 0 (omega arith) in
    then_go (step k x) (λ y. then (each_member step (suc k) xs) (λ zs. Ok (y ∷ zs))) first.0 (sym (at_start (λ j. step j x) k) ∙ first.1)
    ∙ then_stop (each_member step (suc k) xs) (λ zs. Ok (first.0 ∷ zs)) r
    (members_err step (suc k) xs p r d (omega arith) (sym (shifted_at (λ j. step j (get_or xs p d)) k p) ∙ e)
    (λ i m. let y = h (suc i) (omega arith) in (y.0, sym (shifted_at (λ j. step j (get_or xs i d)) k i) ∙ y.1)))
