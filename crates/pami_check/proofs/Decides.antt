-- Tests that decide a statement: where all are passed it holds, and where the first that isn't passed fails it doesn't.
-- Nothing is said where an operation is refused.
use Rattle.std.proofs.Common.{◌≡◌, ◌↔◌, ℕ, zero, suc, ◌+◌, ◌<◌, ◌≤◌, List, [], ◌∷◌, ◌++◌, Bool, true, false, Option, None, Some, Result, Ok, Err, refl, sym, ap, ◌∙◌, subst, arith, append-nil, ⊎_elim, IsTrue, true≢false}
use Rattle.std.proofs.lemmas.Bool.{cases_lt}
use Rattle.pami_algebra.specs.Fraction.{Fraction}
use Rattle.pami_algebra.specs.Operations.{◌+ᶠ◌}
use Rattle.pami_algebra.specs.Ring.{var, t0, ◌⊕◌}
use Rattle.pami_algebra.proofs.Laws.{by_ring_f}
use Rattle.pami_frac.specs.declared.arithmetic.Refused.{Refused}
use Rattle.pami_linear.specs.Sums.{sum_to}
use Rattle.pami_script.specs.Script.{then}
use Rattle.pami_theory.specs.Form.{zero_f}
use Rattle.pami_check.specs.declared.verdict.Condition.{Condition}
use Rattle.pami_check.specs.declared.verdict.Verdict.{Verdict}
use Rattle.pami_check.specs.declared.verdict.Verdict.TheVariants as verdicts
use Rattle.pami_check.specs.Tests.{Test, behind, tested, verdict_by, plain, each_of}
use Rattle.pami_check.proofs.Tested.{onto, tested_append, each_append}

abbrev pub Plain : Type 0
Plain = List (Test (Unit {0}))

abbrev pub Totalled : Type 0
Totalled = List (Test Fraction)

pub record Decides (ts : Plain) (P : Type 0) : Type 0 where
  pub passed : tested ts tt ≡ Ok tt → P
  pub failed : (c : Condition) (v : Option ℕ) → tested ts tt ≡ Err (verdicts.Invalid c v) → ¬ P

pub decides_by : (ts : Plain) (P Q : Type 0) → Decides ts P → (P → Q) → (Q → P) → Decides ts Q
decides_by ts P Q d f g = record { passed = λ e. f (d.passed e); failed = λ c v e q. d.failed c v e (g q) }

pub decides_none : (P : Type 0) → P → Decides [] P
decides_none P p = record { passed = λ e. p; failed = λ c v e. absurd cc }

both_passed : (ts us : Plain) (P Q : Type 0) (r : Result (Unit {0}) Verdict) → Decides ts P → Decides us Q →
    tested ts tt ≡ r → onto r (tested us) ≡ Ok tt → P × Q
both_passed ts us P Q (Ok u) d e h k = (d.passed h, e.passed k)
both_passed ts us P Q (Err v) d e h k = absurd cc

both_failed : (ts us : Plain) (P Q : Type 0) (r : Result (Unit {0}) Verdict) (c : Condition) (v : Option ℕ) → Decides ts P → Decides us Q →
    tested ts tt ≡ r → onto r (tested us) ≡ Err (verdicts.Invalid c v) → ¬ (P × Q)
both_failed ts us P Q (Ok u) c v d e h k = λ p. e.failed c v k p.1
both_failed ts us P Q (Err w) c v d e h k = λ p. d.failed c v (h ∙ k) p.0

pub decides_both : (ts us : Plain) (P Q : Type 0) → Decides ts P → Decides us Q → Decides (ts ++ us) (P × Q)
decides_both ts us P Q d e = record {
  passed = λ h. both_passed ts us P Q (tested ts tt) d e refl (sym (tested_append ts us tt) ∙ h);
  failed = λ c v h. both_failed ts us P Q (tested ts tt) c v d e refl (sym (tested_append ts us tt) ∙ h);
}

-- ---- the tests of numbers
-- those of one number more
pub each_last : {A : Type 0} (n : ℕ) (t : ℕ → List (Test A)) → each_of 0 (suc n) t ≡ each_of 0 n t ++ t n
each_last n t =
    let e : suc n ≡ n + 1 = omega arith in
    let f : 0 + n ≡ n = omega arith in
    ap (λ k. each_of 0 k t) e
    ∙ each_append 0 n 1 t
    ∙ ap (λ ts. each_of 0 n t ++ ts) (ap (λ k. each_of k 1 t) f ∙ append-nil (t n))

abbrev pub Each : ℕ → (ℕ → Type 0) → Type 0
Each n P = (i : ℕ) → i < n → P i

pub each_more : (n : ℕ) (P : ℕ → Type 0) → Each n P × P n → Each (suc n) P
each_more n P h i l = ⊎_elim
    (λ (k : i < n). h.0 i k)
    (λ (k : n ≤ i). let e : n ≡ i = omega arith in subst P e h.1)
    (cases_lt i n)

pub each_less : (n : ℕ) (P : ℕ → Type 0) → Each (suc n) P → Each n P × P n
each_less n P h = (λ i l. h i (omega arith), h n (omega arith))

pub decides_each : (n : ℕ) (t : ℕ → Plain) (P : ℕ → Type 0) → ((i : ℕ) → i < n → Decides (t i) (P i)) → Decides (each_of 0 n t) (Each n P)
decides_each zero t P h = decides_none (Each 0 P) (λ i l. absurd (omega arith))
decides_each (suc n) t P h =
    let before = decides_each n t P (λ i l. h i (omega arith)) in
    let both = decides_both (each_of 0 n t) (t n) (Each n P) (P n) before (h n (omega arith)) in
    subst (λ ts. Decides ts (Each (suc n) P)) (sym (each_last n t))
    (decides_by (each_of 0 n t ++ t n) (Each n P × P n) (Each (suc n) P) both (each_more n P) (each_less n P))

-- ---- single tests
plain_decides : (c : Condition) (v : Option ℕ) (o : Result Bool Refused) (P : Type 0) → (o ≡ Ok true → P) → (o ≡ Ok false → ¬ P) → Decides (plain c v o ∷ []) P
plain_decides c v (Ok true) P f g = record { passed = λ e. f refl; failed = λ d w e. absurd cc }
plain_decides c v (Ok false) P f g = record { passed = λ e. absurd cc; failed = λ d w e. g refl }
plain_decides c v (Err r) P f g = record { passed = λ e. absurd cc; failed = λ d w e. absurd cc }

pub decides_bool : (c : Condition) (v : Option ℕ) (b : Bool) (P : Type 0) → IsTrue b ↔ P → Decides (plain c v (Ok b) ∷ []) P
decides_bool c v true P h = plain_decides c v (Ok true) P (λ e. h.0 refl) (λ e. absurd cc)
decides_bool c v false P h = plain_decides c v (Ok false) P (λ e. absurd cc) (λ e p. true≢false (sym (h.1 p)))

pub decides_script : (c : Condition) (v : Option ℕ) (s : Result Fraction Refused) (test : Fraction → Bool) (P : Type 0) →
    ((t : Fraction) → s ≡ Ok t → IsTrue (test t) ↔ P) → Decides (plain c v ((then) s (λ t. Ok (test t))) ∷ []) P
decides_script c v (Ok t) test P h = decides_bool c v (test t) P (h t refl)
decides_script c v (Err r) test P h = plain_decides c v (Err r) P (λ e. absurd cc) (λ e. absurd cc)

-- ---- tests that add to a total
pub record Adds (ts : Totalled) (P : Type 0) (total : Fraction) : Type 0 where
  pub passed : (s r : Fraction) → tested ts s ≡ Ok r → P × (r ≡ s +ᶠ total)
  pub failed : (s : Fraction) (c : Condition) (v : Option ℕ) → tested ts s ≡ Err (verdicts.Invalid c v) → ¬ P

pub adds_by : (ts : Totalled) (P Q : Type 0) (t u : Fraction) → Adds ts P t → (P → Q) → (Q → P) → t ≡ u → Adds ts Q u
adds_by ts P Q t u d f g e = record {
  passed = λ s r h. (f (d.passed s r h).0, (d.passed s r h).1 ∙ ap (λ z. s +ᶠ z) e);
  failed = λ s c v h q. d.failed s c v h (g q);
}

adds_none : (P : Type 0) → P → Adds [] P zero_f
adds_none P p = record {
  passed = λ s r e. (p, (let h : s ≡ r = cc in sym h ∙ by_ring_f (s ∷ []) (var 0) (var 0 ⊕ t0) refl));
  failed = λ s c v e. absurd cc;
}

adds_passed : (ts us : Totalled) (P Q : Type 0) (t u s r : Fraction) (o : Result Fraction Verdict) → Adds ts P t → Adds us Q u →
    tested ts s ≡ o → onto o (tested us) ≡ Ok r → (P × Q) × (r ≡ s +ᶠ (t +ᶠ u))
adds_passed ts us P Q t u s r (Ok m) d e h k =
    let a = d.passed s m h in
    let b = e.passed m r k in
    ((a.0, b.0), b.1 ∙ ap (λ z. z +ᶠ u) a.1 ∙ by_ring_f (s ∷ t ∷ u ∷ []) (var 0 ⊕ var 1 ⊕ var 2) (var 0 ⊕ (var 1 ⊕ var 2)) refl)
adds_passed ts us P Q t u s r (Err v) d e h k = absurd cc

adds_failed : (ts us : Totalled) (P Q : Type 0) (t u s : Fraction) (o : Result Fraction Verdict) (c : Condition) (v : Option ℕ) → Adds ts P t → Adds us Q u →
    tested ts s ≡ o → onto o (tested us) ≡ Err (verdicts.Invalid c v) → ¬ (P × Q)
adds_failed ts us P Q t u s (Ok m) c v d e h k = λ p. e.failed m c v k p.1
adds_failed ts us P Q t u s (Err w) c v d e h k = λ p. d.failed s c v (h ∙ k) p.0

pub adds_both : (ts us : Totalled) (P Q : Type 0) (t u : Fraction) → Adds ts P t → Adds us Q u → Adds (ts ++ us) (P × Q) (t +ᶠ u)
adds_both ts us P Q t u d e = record {
  passed = λ s r h. adds_passed ts us P Q t u s r (tested ts s) d e refl (sym (tested_append ts us s) ∙ h);
  failed = λ s c v h. adds_failed ts us P Q t u s (tested ts s) c v d e refl (sym (tested_append ts us s) ∙ h);
}

pub adds_each : (n : ℕ) (t : ℕ → Totalled) (P : ℕ → Type 0) (f : ℕ → Fraction) → ((i : ℕ) → i < n → Adds (t i) (P i) (f i)) →
    Adds (each_of 0 n t) (Each n P) (sum_to n f)
adds_each zero t P f h = adds_none (Each 0 P) (λ i l. absurd (omega arith))
adds_each (suc n) t P f h =
    let before = adds_each n t P f (λ i l. h i (omega arith)) in
    let both = adds_both (each_of 0 n t) (t n) (Each n P) (P n) (sum_to n f) (f n) before (h n (omega arith)) in
    subst (λ ts. Adds ts (Each (suc n) P) (sum_to n f +ᶠ f n)) (sym (each_last n t))
    (adds_by (each_of 0 n t ++ t n) (Each n P × P n) (Each (suc n) P) (sum_to n f +ᶠ f n) (sum_to n f +ᶠ f n) both (each_more n P) (each_less n P) refl)

-- ---- verdicts
behind_not_valid : {A : Type 0} (c : Condition) (v : Option ℕ) (r : Result (Option A) Refused) (f : A → Result A Verdict) →
    ((a : A) → f a ≡ Err verdicts.Valid → ⊥) → behind c v r f ≡ Err verdicts.Valid → ⊥
behind_not_valid c v (Ok (Some a)) f h e = h a e
behind_not_valid c v (Ok None) f h e = cc
behind_not_valid c v (Err r) f h e = cc

-- no test fails with the verdict that says there is nothing
never_valid : {A : Type 0} (ts : List (Test A)) (a : A) → tested ts a ≡ Err verdicts.Valid → ⊥
never_valid [] a e = cc
never_valid (t ∷ ts) a e = behind_not_valid t.condition t.variable (t.outcome a) (λ b. tested ts b) (λ b h. never_valid ts b h) e

by_valid : {A : Type 0} (r : Result A Verdict) → (r ≡ Err verdicts.Valid → ⊥) → verdict_by r ≡ verdicts.Valid → (a : A) × (r ≡ Ok a)
by_valid (Ok a) h e = (a, refl)
by_valid (Err v) h e = absurd (h (ap Err e))

pub valid_passed : {A : Type 0} (ts : List (Test A)) (a : A) → verdict_by (tested ts a) ≡ verdicts.Valid → (b : A) × (tested ts a ≡ Ok b)
valid_passed ts a e = by_valid (tested ts a) (never_valid ts a) e

by_invalid : {A : Type 0} (r : Result A Verdict) (c : Condition) (v : Option ℕ) → verdict_by r ≡ verdicts.Invalid c v → r ≡ Err (verdicts.Invalid c v)
by_invalid (Ok a) c v e = absurd cc
by_invalid (Err w) c v e = ap Err e

pub invalid_failed : {A : Type 0} (ts : List (Test A)) (a : A) (c : Condition) (v : Option ℕ) → verdict_by (tested ts a) ≡ verdicts.Invalid c v →
    tested ts a ≡ Err (verdicts.Invalid c v)
invalid_failed ts a c v e = by_invalid (tested ts a) c v e
