-- Judgements one behind another, and answers that follow them.
use Rattle.std.proofs.Common.{◌≡◌, Bool, true, false, Option, None, Some, Result, Err, refl, sym, ap, subst}
use Rattle.pami_frac.specs.declared.fault.Fault.{Fault}
use Rattle.pami_frac.specs.declared.fault.Fault.TheVariants as outcomes
use Rattle.pami_frac.specs.Answers.{Follows}
use Rattle.pami_model.specs.declared.fault.BuildFault.{BuildFault}
use Rattle.pami_model.specs.Judgement.{first_of, wrong_if}
use Rattle.pami_model.specs.Refusal.{judge_build, widened}

pub some≢none : {A : Type 0} {x : A} → Some x ≡ None → ⊥
some≢none e = cc

pub none≢some : {A : Type 0} {x : A} → None ≡ Some x → ⊥
none≢some e = cc

pub some_same : {A : Type 0} {x y : A} → Some x ≡ Some y → x ≡ y
some_same e = cc

-- nothing is wrong

pub both_none : {E : Type 0} (j k : Option E) → first_of j k ≡ None → (j ≡ None) × (k ≡ None)
both_none None k h = (refl, h)
both_none (Some x) k h = absurd (some≢none h)

pub unset : {E : Type 0} (b : Bool) (fault : E) → wrong_if b fault ≡ None → b ≡ false
unset true fault h = absurd (some≢none h)
unset false fault h = refl

-- one judgement behind another

pub first_of-assoc : {E : Type 0} (i j k : Option E) → first_of i (first_of j k) ≡ first_of (first_of i j) k
first_of-assoc None j k = refl
first_of-assoc (Some x) j k = refl

-- nothing is wrong in front
pub later : {A E : Type 0} (j k : Option E) (r : Result A (Fault E)) → j ≡ None → Follows k r → Follows (first_of j k) r
later {E = E} j k r e h = subst (λ (x : Option E). Follows (first_of x k) r) (sym e) h

-- what is wrong in front comes first
pub sooner : (A : Type 0) {E : Type 0} (j k : Option E) (f : Fault E) → Follows {A = A} j (Err f) → Follows {A = A} (first_of j k) (Err f)
sooner A {E = E} j k (outcomes.Named x) h = ap (λ (y : Option E). first_of y k) h
sooner A j k outcomes.OutOfMemory h = tt

-- equal judgements are followed alike
pub followed : {A E : Type 0} {j k : Option E} (r : Result A (Fault E)) → j ≡ k → Follows k r → Follows j r
followed {E = E} r e h = subst (λ (x : Option E). Follows x r) (sym e) h

-- a builder's refusal is what is wrong
pub refused_by : (A B : Type 0) (j : Option BuildFault) (f : Fault BuildFault) → Follows {A = A} j (Err f)
    → Follows {A = B} (judge_build j) (Err (widened f))
refused_by A B j (outcomes.Named x) h = ap judge_build h
refused_by A B j outcomes.OutOfMemory h = tt
