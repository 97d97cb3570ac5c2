-- What an answer that follows an outcome tells.
use Rattle.std.proofs.Common.{◌≡◌, sym, subst, Result, Ok, Err}
use Rattle.std.specs.Prelude.{IsErrAnd, IfOk}
use Rattle.pami_frac.specs.declared.fault.Fault.{Fault}
use Rattle.pami_frac.specs.declared.fault.Fault.TheVariants as faults
use Rattle.pami_frac.specs.Answers.{FollowsBy}

-- what holds of the outcome's value holds of the answer's
pub value_so : {A B E : Type 0} (seen : B → A) (outcome : Result A E) (answer : Result B (Fault E)) (P : A → Type 0) → FollowsBy seen outcome answer → ((v : A) → outcome ≡ Ok v → P v)
    → IfOk answer (λ x. P (seen x))
value_so seen outcome (Ok x) P h k = k (seen x) h
value_so seen outcome (Err e) P h k = tt

-- the answer of a question mark at a refusal
pub refused_so : {A B E : Type 0} (outcome : Result A E) (answer : Result B (Fault E)) (e : E) (seen : B → A) → IsErrAnd answer (λ y. y ≡ faults.Named e) → outcome ≡ Err e → FollowsBy seen outcome answer
refused_so outcome (Ok v) e seen h k = absurd h
refused_so {A} {B} {E} outcome (Err y) e seen h k = subst (λ d. FollowsBy {A = A} {B = B} {E = E} seen outcome (Err d)) (sym h) k
