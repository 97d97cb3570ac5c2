-- How the answer of a call follows a judgement of its arguments, or an outcome, with want of memory free; and how a list
-- that is changed in its place becomes an outcome's value.
use Rattle.std.specs.Prelude.{◌≡◌, Option, None, Some, Result, Ok, Err}
use Rattle.pami_frac.specs.declared.fault.Fault.{Fault}
use Rattle.pami_frac.specs.declared.fault.Fault.TheVariants as faults

-- Ok exactly where nothing is wrong, the named refusal exactly where it is the judgement; want of memory is free
abbrev pub Follows : {A E : Type 0} → Option E → Result A (Fault E) → Type 0
Follows judged (Ok x) = judged ≡ None
Follows judged (Err (faults.Named e)) = judged ≡ Some e
Follows judged (Err faults.OutOfMemory) = Unit {0}

-- Ok exactly with the outcome's value, as `seen` shows it, the named refusal exactly with the outcome's; want of memory is free
abbrev pub FollowsBy : {A B E : Type 0} → (B → A) → Result A E → Result B (Fault E) → Type 0
FollowsBy seen outcome (Ok v) = outcome ≡ Ok (seen v)
FollowsBy seen outcome (Err (faults.Named e)) = outcome ≡ Err e
FollowsBy seen outcome (Err faults.OutOfMemory) = Unit {0}

-- the same for a call without want of memory that changes a list in place: behind Ok the list is the outcome's
abbrev pub BecomesBy : {A B E : Type 0} → Result A E → A → Result B E → Type 0
BecomesBy outcome new (Ok done) = outcome ≡ Ok new
BecomesBy outcome new (Err e) = outcome ≡ Err e

-- goes on with a value, and stops at a refusal
abbrev pub then : {A B E : Type 0} → Result A E → (A → Result B E) → Result B E
then (Ok x) f = f x
then (Err r) f = Err r
