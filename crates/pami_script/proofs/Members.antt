-- A script over the members of a list gives each member's own result.
use Rattle.std.proofs.Common.{◌≡◌, ℕ, zero, suc, ◌+◌, ◌<◌, List, [], ◌∷◌, length, get_or, sym, ap, ◌∙◌, subst, arith, Result, Ok}
use Rattle.pami_frac.specs.declared.arithmetic.Refused.{Refused}
use Rattle.pami_script.specs.Script.{then, each_member}
use Rattle.pami_script.proofs.Scripts.{then_ok}

-- the parts of a list that a member's step and the rest made
made_of : {A B : Type 0} (step : ℕ → A → Result B Refused) (k : ℕ) (x : A) (xs : List A) (zs : List B) → each_member step k (x ∷ xs) ≡ Ok zs →
    (y : B) × ((ys : List B) × ((step k x ≡ Ok y) × ((each_member step (suc k) xs ≡ Ok ys) × (zs ≡ y ∷ ys))))
made_of step k x xs zs e =
    let h = then_ok (step k x) (λ y. then (each_member step (suc k) xs) (λ ys. Ok (y ∷ ys))) zs e in
    let g = then_ok (each_member step (suc k) xs) (λ ys. Ok (h.0 ∷ ys)) zs h.1.1 in
    let same : h.0 ∷ g.0 ≡ zs = cc (g.1.1) in
    (h.0, (g.0, (h.1.0, (g.1.0, sym same))))

pub length_members : {A B : Type 0} (step : ℕ → A → Result B Refused) (k : ℕ) (xs : List A) (zs : List B) → each_member step k xs ≡ Ok zs → length zs ≡ length xs
length_members step k [] zs e = let h : [] ≡ zs = cc in sym (ap length h)
length_members step k (x ∷ xs) zs e = let m = made_of step k x xs zs e in ap length m.1.1.1.1 ∙ ap suc (length_members step (suc k) xs m.1.0 m.1.1.1.0)

pub member_is : {A B : Type 0} (step : ℕ → A → Result B Refused) (k : ℕ) (xs : List A) (zs : List B) (i : ℕ) (d : A) (c : B) → each_member step k xs ≡ Ok zs → i < length xs → step (k + i) (get_or xs i d) ≡ Ok (get_or zs i c)
member_is step k [] zs i d c e h = absurd (omega arith)
member_is step k (x ∷ xs) zs zero d c e h =
    let m = made_of step k x xs zs e in
    let at : k ≡ k + 0 = omega arith in
    subst (λ j. step j x ≡ Ok (get_or zs 0 c)) at (m.1.1.0 ∙ ap (λ l. Ok (get_or l 0 c)) (sym m.1.1.1.1))
member_is step k (x ∷ xs) zs (suc i) d c e h =
    let m = made_of step k x xs zs e in
    let at : suc k + i ≡ k + suc i = omega arith in
    subst (λ j. step j (get_or xs i d) ≡ Ok (get_or zs (suc i) c)) at
    (member_is step (suc k) xs m.1.0 i d c m.1.1.1.0 (omega arith) ∙ ap (λ l. Ok (get_or l (suc i) c)) (sym m.1.1.1.1))
