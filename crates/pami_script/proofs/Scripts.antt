-- Scripts put behind one another: what they answer and where they stop.
use Rattle.std.proofs.Common.{◌≡◌, ℕ, zero, suc, ◌+◌, ◌<◌, ◌≤◌, refl, ap, ◌∙◌, subst, arith, Result, Ok, Err, ◌⊎◌, inl, inr, ⊎_elim}
use Rattle.pami_frac.specs.declared.arithmetic.Refused.{Refused}
use Rattle.pami_script.specs.Script.{then, each}

-- ---- two scripts behind one another
pub then_unit : {A : Type 0} (r : Result A Refused) → then r (λ x. Ok x) ≡ r
then_unit (Ok x) = refl
then_unit (Err e) = refl

pub then_assoc : {A B C : Type 0} (r : Result A Refused) (f : A → Result B Refused) (g : B → Result C Refused) → then (then r f) g ≡ then r (λ x. then (f x) g)
then_assoc (Ok x) f g = refl
then_assoc (Err e) f g = refl

pub then_same : {A B : Type 0} (r : Result A Refused) (f g : A → Result B Refused) → ((x : A) → f x ≡ g x) → then r f ≡ then r g
then_same (Ok x) f g h = h x
then_same (Err e) f g h = refl

-- a value comes from values of both
pub then_ok : {A B : Type 0} (r : Result A Refused) (f : A → Result B Refused) (y : B) → then r f ≡ Ok y → (x : A) × ((r ≡ Ok x) × (f x ≡ Ok y))
then_ok (Ok x) f y e = (x, (refl, e))
then_ok (Err d) f y e = absurd (cc)

-- a refusal comes from the first, or from the second at the first one's value
pub then_err : {A B : Type 0} (r : Result A Refused) (f : A → Result B Refused) (d : Refused) → then r f ≡ Err d → (r ≡ Err d) ⊎ ((x : A) × ((r ≡ Ok x) × (f x ≡ Err d)))
then_err (Ok x) f d e = inr (x, (refl, e))
then_err (Err c) f d e = let h : c ≡ d = cc in inl (ap Err h)

pub then_go : {A B : Type 0} (r : Result A Refused) (f : A → Result B Refused) (x : A) → r ≡ Ok x → then r f ≡ f x
then_go r f x e = ap (λ r. then r f) e

pub then_stop : {A B : Type 0} (r : Result A Refused) (f : A → Result B Refused) (d : Refused) → r ≡ Err d → then r f ≡ Err d
then_stop r f d e = ap (λ r. then r f) e

pub then_ok_from : {A B : Type 0} (r : Result A Refused) (f : A → Result B Refused) (y : B) → (x : A) × ((r ≡ Ok x) × (f x ≡ Ok y)) → then r f ≡ Ok y
then_ok_from r f y h = then_go r f h.0 h.1.0 ∙ h.1.1

pub then_err_from : {A B : Type 0} (r : Result A Refused) (f : A → Result B Refused) (d : Refused) → (r ≡ Err d) ⊎ ((x : A) × ((r ≡ Ok x) × (f x ≡ Err d))) → then r f ≡ Err d
then_err_from r f d (inl e) = then_stop r f d e
then_err_from r f d (inr (x, h)) = then_go r f x h.0 ∙ h.1

-- ---- one outcome has one value or one refusal
pub same_ok : {A : Type 0} (s : Result A Refused) (v w : A) → s ≡ Ok v → s ≡ Ok w → v ≡ w
same_ok s v w e f = cc

pub same_err : {A : Type 0} (s : Result A Refused) (r d : Refused) → s ≡ Err r → s ≡ Err d → r ≡ d
same_err s r d e f = cc

pub ok_or_err : {A : Type 0} (s : Result A Refused) (v : A) (r : Refused) → s ≡ Ok v → s ≡ Err r → ⊥
ok_or_err s v r e f = cc

-- ---- steps for each place
pub each_same : {A : Type 0} (n k : ℕ) (f g : ℕ → A → Result A Refused) (a : A) → ((p : ℕ) → k ≤ p → p < k + n → (b : A) → f p b ≡ g p b) → each n k f a ≡ each n k g a
each_same zero k f g a h = refl
each_same (suc n) k f g a h =
    ap (λ r. then r (λ b. each n (suc k) f b)) (h k (omega arith) (omega arith) a)
    ∙ then_same (g k a) (λ b. each n (suc k) f b) (λ b. each n (suc k) g b) (λ b. each_same n (suc k) f g b (λ p l m b. h p (omega arith) (omega arith) b))

-- what each step keeps, the script keeps
pub each_keeps : {A : Type 0} (P : ℕ → A → Type 0) (n k : ℕ) (step : ℕ → A → Result A Refused) (a b : A) →
    ((i : ℕ) → k ≤ i → i < k + n → (x y : A) → P i x → step i x ≡ Ok y → P (suc i) y) → P k a → each n k step a ≡ Ok b → P (k + n) b
each_keeps P zero k step a b h p e = let same : a ≡ b = cc in let at : k ≡ k + 0 = omega arith in subst (λ j. P j b) at (subst (P k) same p)
each_keeps P (suc n) k step a b h p e =
    let s = then_ok (step k a) (λ b. each n (suc k) step b) b e in
    let at : suc k + n ≡ k + suc n = omega arith in
    subst (λ j. P j b) at
    (each_keeps P n (suc k) step s.0 b (λ i l m x y. h i (omega arith) (omega arith) x y) (h k (omega arith) (omega arith) a s.0 p s.1.0) s.1.1)

-- a refusal among the steps after the first
later : {A : Type 0} (n k : ℕ) (step : ℕ → A → Result A Refused) (a : A) (d : Refused) (x : A) → step k a ≡ Ok x →
    (i : ℕ) × ((i < n) × ((b : A) × ((each i (suc k) step x ≡ Ok b) × (step (suc k + i) b ≡ Err d)))) →
    (i : ℕ) × ((i < suc n) × ((b : A) × ((each i k step a ≡ Ok b) × (step (k + i) b ≡ Err d))))
later n k step a d x h r =
    let at : suc k + r.0 ≡ k + suc r.0 = omega arith in
    let l : r.0 < n = r.1.0 in
    (suc r.0, (omega arith, (r.1.1.0, (then_go (step k a) (λ b. each r.0 (suc k) step b) x h ∙ r.1.1.1.0, subst (λ j. step j r.1.1.0 ≡ Err d) at r.1.1.1.1))))

-- a refusal is that of one step, after values of all the steps before it
pub each_first : {A : Type 0} (n k : ℕ) (step : ℕ → A → Result A Refused) (a : A) (d : Refused) → each n k step a ≡ Err d →
    (i : ℕ) × ((i < n) × ((b : A) × ((each i k step a ≡ Ok b) × (step (k + i) b ≡ Err d))))
each_first zero k step a d e = absurd (cc)
each_first {A} (suc n) k step a d e = ⊎_elim
    (λ (h : step k a ≡ Err d). let at : k ≡ k + 0 = omega arith in (0, (omega arith, (a, (refl, subst (λ j. step j a ≡ Err d) at h)))))
    (λ (h : (x : A) × ((step k a ≡ Ok x) × (each n (suc k) step x ≡ Err d))). later n k step a d h.0 h.1.0 (each_first n (suc k) step h.0 d h.1.1))
    (then_err (step k a) (λ b. each n (suc k) step b) d e)
