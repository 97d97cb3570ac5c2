-- Answers that tell the first refusal of their tasks, one behind the other.
use Rattle.std.proofs.Common.{◌≡◌, ℕ, ◌<◌, List, [], ◌∷◌, ◌++◌, map, length, get_or, Option, None, Some, Result, Ok, Err, sym, ap, ◌∙◌, subst}
use Rattle.pami_frac.specs.Answers.{FollowsBy}
use Rattle.pami_frac.specs.declared.arithmetic.Refused.{Refused}
use Rattle.pami_frac.specs.declared.fault.Fault.{Fault}
use Rattle.pami_frac.specs.declared.fault.Fault.TheVariants as faults
use Rattle.pami_method.specs.declared.words.Place.{Place}
use Rattle.pami_method.specs.declared.words.Spot.{Spot}
use Rattle.pami_method.specs.Task.{Task, refusal}
use Rattle.pami_method.specs.Work.{refused_or, first_refused}
use Rattle.pami_batch.specs.Told.{placed, Tells}
use Rattle.pami_batch.proofs.Refusals.{front_refused, front_fits, RestDecides, rest_refused}

-- ---- one script
-- the answer of a script's call
abbrev pub IsAnswered : {A : Type 0} → (A → Type 0) → Option Refused → Result A (Fault Refused) → Type 0
IsAnswered P x (Ok v) = (x ≡ None) × P v
IsAnswered P x (Err (faults.Named d)) = x ≡ Some d
IsAnswered P x (Err faults.OutOfMemory) = Unit {0}

pub one_told : {A : Type 0} (P : A → Type 0) (spot : Spot) (x : Option Refused) (answer : Result A (Fault Refused)) (result : Result A (Fault Place))
    → result ≡ placed spot answer → IsAnswered P x answer → Tells P (record { spot = spot; refusal = x } ∷ []) result
one_told P spot x (Ok v) result e h =
    subst (Tells P (record { spot = spot; refusal = x } ∷ [])) (sym e) (ap (λ r. refused_or r spot None) h.0, h.1)
one_told P spot x (Err (faults.Named d)) result e h =
    subst (Tells P (record { spot = spot; refusal = x } ∷ [])) (sym e) (ap (λ r. refused_or r spot None) h)
one_told P spot x (Err faults.OutOfMemory) result e h = subst (Tells P (record { spot = spot; refusal = x } ∷ [])) (sym e) tt

pub followed : {A B : Type 0} (seen : B → A) (P : B → Type 0) (s : Result A Refused) (answer : Result B (Fault Refused))
    → ((v : B) → s ≡ Ok (seen v) → P v) → FollowsBy seen s answer → IsAnswered P (refusal s) answer
followed seen P s (Ok v) k h = (ap refusal h, k v h)
followed seen P s (Err (faults.Named d)) k h = ap refusal h
followed seen P s (Err faults.OutOfMemory) k h = tt

-- ---- tasks behind one another
pub told_stops : {A B : Type 0} (P : A → Type 0) (Q : B → Type 0) (ts us : List Task) (fault : Fault Place) → Tells P ts (Err fault)
    → Tells Q (ts ++ us) (Err fault)
told_stops P Q ts us (faults.Named place) h = front_refused ts us place h
told_stops P Q ts us faults.OutOfMemory h = tt

pub told_goes : {A : Type 0} (P : A → Type 0) (ts us : List Task) (result : Result A (Fault Place)) → first_refused ts ≡ None → Tells P us result
    → Tells P (ts ++ us) result
told_goes P ts us (Ok x) e h = (front_fits ts us e ∙ h.0, h.1)
told_goes P ts us (Err (faults.Named place)) e h = front_fits ts us e ∙ h
told_goes P ts us (Err faults.OutOfMemory) e h = tt

pub told_of : {A B : Type 0} (P : A → Type 0) (Q : B → Type 0) (ts : List Task) (fault : Fault Place) → Tells P ts (Err fault) → Tells Q ts (Err fault)
told_of P Q ts (faults.Named place) h = h
told_of P Q ts faults.OutOfMemory h = tt

pub told_same : {A : Type 0} (P Q : A → Type 0) (ts : List Task) (result : Result A (Fault Place)) → ((x : A) → P x → Q x) → Tells P ts result
    → Tells Q ts result
told_same P Q ts (Ok x) k h = (h.0, k x h.1)
told_same P Q ts (Err (faults.Named place)) k h = h
told_same P Q ts (Err faults.OutOfMemory) k h = tt

-- ---- a task for each member of a list
pub rest_stops : {A B C : Type 0} (P : B → Type 0) (Q : C → Type 0) (t : A → Task) (xs : List A) (i : ℕ) (x : A) (fault : Fault Place)
    → RestDecides t xs i → i < length xs → get_or xs i x ≡ x → Tells P (t x ∷ []) (Err fault) → Tells Q (map t xs) (Err fault)
rest_stops P Q t xs i x (faults.Named place) h l e k = rest_refused t xs i x place h l e k
rest_stops P Q t xs i x faults.OutOfMemory h l e k = tt
