-- Tests put behind one another, and a loop over the tests of columns, rows or variables.
use Rattle.std.proofs.Common.{◌≡◌, ℕ, zero, suc, ◌+◌, ◌-◌, ◌<◌, ◌≤◌, List, [], ◌∷◌, ◌++◌, Option, None, Some, Result, Ok, Err, refl, sym, ap, ◌∙◌, arith, append_assoc}
use Rattle.pami_frac.specs.declared.arithmetic.Refused.{Refused}
use Rattle.pami_check.specs.declared.verdict.Condition.{Condition}
use Rattle.pami_check.specs.declared.verdict.Verdict.{Verdict}
use Rattle.pami_check.specs.Tests.{Test, behind, tested, each_of}

-- what goes on where nothing was found
abbrev pub onto : {A B : Type 0} → Result A Verdict → (A → Result B Verdict) → Result B Verdict
onto (Ok a) f = f a
onto (Err v) f = Err v

behind_onto : {A : Type 0} (c : Condition) (v : Option ℕ) (r : Result (Option A) Refused) (f g : A → Result A Verdict) (h : A → Result A Verdict) →
    ((a : A) → f a ≡ onto (g a) h) → behind c v r f ≡ onto (behind c v r g) h
behind_onto c v (Ok (Some a)) f g h e = e a
behind_onto c v (Ok None) f g h e = refl
behind_onto c v (Err d) f g h e = refl

pub tested_append : {A : Type 0} (ts us : List (Test A)) (a : A) → tested (ts ++ us) a ≡ onto (tested ts a) (tested us)
tested_append [] us a = refl
tested_append (t ∷ ts) us a =
    behind_onto t.condition t.variable (t.outcome a) (λ b. tested (ts ++ us) b) (λ b. tested ts b) (λ b. tested us b) (λ b. tested_append ts us b)

pub tested_goes : {A : Type 0} (ts us : List (Test A)) (a b : A) → tested ts a ≡ Ok b → tested (ts ++ us) a ≡ tested us b
tested_goes ts us a b e = tested_append ts us a ∙ ap (λ r. onto r (tested us)) e

pub tested_stops : {A : Type 0} (ts us : List (Test A)) (a : A) (v : Verdict) → tested ts a ≡ Err v → tested (ts ++ us) a ≡ Err v
tested_stops ts us a v e = tested_append ts us a ∙ ap (λ r. onto r (tested us)) e

-- ---- the tests of numbers
pub each_one : {A : Type 0} (i n : ℕ) (t : ℕ → List (Test A)) → i < n → each_of i (n - i) t ≡ t i ++ each_of (i + 1) (n - (i + 1)) t
each_one i n t h = let e : n - i ≡ suc (n - (i + 1)) = omega arith in ap (λ m. each_of i m t) e

pub each_same : {A : Type 0} (k n : ℕ) (t u : ℕ → List (Test A)) → ((i : ℕ) → k ≤ i → i < k + n → t i ≡ u i) → each_of k n t ≡ each_of k n u
each_same k zero t u h = refl
each_same k (suc n) t u h =
    ap (λ ts. ts ++ each_of (k + 1) n t) (h k (omega arith) (omega arith))
    ∙ ap (λ ts. u k ++ ts) (each_same (k + 1) n t u (λ i l m. h i (omega arith) (omega arith)))

-- the same of the first n numbers
pub first_same : {A : Type 0} (n : ℕ) (t u : ℕ → List (Test A)) → ((i : ℕ) → i < n → t i ≡ u i) → each_of 0 n t ≡ each_of 0 n u
first_same n t u h = each_same 0 n t u (λ i l m. h i (omega (arith, m)))

pub each_append : {A : Type 0} (k m n : ℕ) (t : ℕ → List (Test A)) → each_of k (m + n) t ≡ each_of k m t ++ each_of (k + m) n t
each_append k zero n t =
    let e : 0 + n ≡ n = omega arith in
    let f : k ≡ k + 0 = omega arith in
    ap (λ m. each_of k m t) e ∙ ap (λ j. each_of j n t) f
each_append k (suc m) n t =
    let e : k + 1 + m ≡ k + suc m = omega arith in
    let f : suc m + n ≡ suc (m + n) = omega arith in
    ap (λ j. each_of k j t) f
    ∙ ap (λ ts. t k ++ ts) (each_append (k + 1) m n t ∙ ap (λ j. each_of (k + 1) m t ++ each_of j n t) e)
    ∙ sym (append_assoc (t k) (each_of (k + 1) m t) (each_of (k + suc m) n t))

-- the numbers from another one on
pub each_shift : {A : Type 0} (k l n : ℕ) (t : ℕ → List (Test A)) → each_of (k + l) n t ≡ each_of l n (λ i. t (k + i))
each_shift k l zero t = refl
each_shift k l (suc n) t =
    let e : k + l + 1 ≡ k + (l + 1) = omega arith in
    ap (λ ts. t (k + l) ++ ts) (ap (λ j. each_of j n t) e ∙ each_shift k (l + 1) n t)

-- ---- a loop that has come to i
pub loop_goes : {A : Type 0} (s : Result A Verdict) (i n : ℕ) (t : ℕ → List (Test A)) (a b : A) →
    s ≡ tested (each_of i (n - i) t) a → i < n → tested (t i) a ≡ Ok b → s ≡ tested (each_of (i + 1) (n - (i + 1)) t) b
loop_goes s i n t a b e h f =
    e ∙ ap (λ ts. tested ts a) (each_one i n t h) ∙ tested_goes (t i) (each_of (i + 1) (n - (i + 1)) t) a b f

pub loop_stops : {A : Type 0} (s : Result A Verdict) (i n : ℕ) (t : ℕ → List (Test A)) (a : A) (v : Verdict) →
    s ≡ tested (each_of i (n - i) t) a → i < n → tested (t i) a ≡ Err v → Err v ≡ s
loop_stops s i n t a v e h f =
    sym (e ∙ ap (λ ts. tested ts a) (each_one i n t h) ∙ tested_stops (t i) (each_of (i + 1) (n - (i + 1)) t) a v f)

-- ---- two lists of tests by two calls
pub step_goes : {A : Type 0} (ts us : List (Test A)) (a b : A) (s : Result A Verdict) → Ok b ≡ tested ts a → s ≡ tested us b → s ≡ tested (ts ++ us) a
step_goes ts us a b s h k = k ∙ sym (tested_goes ts us a b (sym h))

pub step_stops : {A : Type 0} (ts us : List (Test A)) (a : A) (v : Verdict) → Err v ≡ tested ts a → Err v ≡ tested (ts ++ us) a
step_stops ts us a v h = sym (tested_stops ts us a v (sym h))
