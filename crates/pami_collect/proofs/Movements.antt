-- The values behind a batch, by the parts of their script.
use Rattle.std.proofs.Common.{◌≡◌, ℕ, List, length, sym, subst, ◌∙◌, Result, Ok, Err}
use Rattle.pami_algebra.specs.Fraction.{Fraction}
use Rattle.pami_frac.specs.Arithmetic.{sub_outcome}
use Rattle.pami_frac.specs.Answers.{BecomesBy}
use Rattle.pami_frac.specs.declared.arithmetic.Refused.{Refused}
use Rattle.pami_frac.specs.declared.list.Entry.{Entry}
use Rattle.pami_linear.specs.Lists.{get}
use Rattle.pami_script.specs.Script.{then, each_member}
use Rattle.pami_script.specs.Dense.{at}
use Rattle.pami_script.proofs.Scripts.{then_go, then_stop}
use Rattle.pami_factoring.specs.Solve.{ColumnPivot, transform_script}
use Rattle.pami_vec.specs.Entries.{AreEntriesOf}
use Rattle.pami_vec.specs.Changes.{AreChanged, IsStopped}
use Rattle.pami_vec.specs.declared.change.Change.TheVariants.{Less}
use Rattle.pami_vec.proofs.Changed.{change_ok, change_err}
use Rattle.pami_deferral.specs.Listed.{Exchange, exchanges_script, collect_script}

abbrev flipped_by : List Fraction → List Fraction → Result (List Fraction) Refused
flipped_by values flips = each_member (λ i x. sub_outcome x (get flips i)) 0 values

abbrev behind_flips : List Exchange → List ColumnPivot → List Fraction → Result (List Fraction) Refused
behind_flips xs pivots v = then (exchanges_script xs v) (λ w. transform_script pivots w)

pub flipped_stops : (values flips : List Fraction) (es : List Entry) (xs : List Exchange) (pivots : List ColumnPivot) (p : ℕ) (r : Refused)
    → AreEntriesOf flips es → length flips ≡ length values → IsStopped Less values (at es) p r → collect_script values flips xs pivots ≡ Err r
flipped_stops values flips es xs pivots p r a n h =
    then_stop (flipped_by values flips) (behind_flips xs pivots) r (change_err Less values flips es p r a n h)

flipped_goes : (values flips : List Fraction) (es : List Entry) (xs : List Exchange) (pivots : List ColumnPivot) (v : List Fraction)
    → AreEntriesOf flips es → length flips ≡ length values → AreChanged Less values (at es) v
    → collect_script values flips xs pivots ≡ behind_flips xs pivots v
flipped_goes values flips es xs pivots v a n h =
    then_go (flipped_by values flips) (behind_flips xs pivots) v (change_ok Less values flips es v a n h)

pub exchanged_stops : (values flips : List Fraction) (es : List Entry) (xs : List Exchange) (pivots : List ColumnPivot) (v : List Fraction) (r : Refused)
    → AreEntriesOf flips es → length flips ≡ length values → AreChanged Less values (at es) v → exchanges_script xs v ≡ Err r
    → collect_script values flips xs pivots ≡ Err r
exchanged_stops values flips es xs pivots v r a n h k =
    flipped_goes values flips es xs pivots v a n h ∙ then_stop (exchanges_script xs v) (λ w. transform_script pivots w) r k

pub exchanged_goes : (values flips : List Fraction) (es : List Entry) (xs : List Exchange) (pivots : List ColumnPivot) (v w : List Fraction)
    → AreEntriesOf flips es → length flips ≡ length values → AreChanged Less values (at es) v → exchanges_script xs v ≡ Ok w
    → collect_script values flips xs pivots ≡ transform_script pivots w
exchanged_goes values flips es xs pivots v w a n h k =
    flipped_goes values flips es xs pivots v a n h ∙ then_go (exchanges_script xs v) (λ w. transform_script pivots w) w k

-- a script that goes on as another one
pub becomes_on : {A : Type 0} (s t : Result (List Fraction) Refused) (new : List Fraction) (r : Result A Refused) → s ≡ t → BecomesBy t new r
    → BecomesBy s new r
becomes_on s t new (Ok x) e h = e ∙ h
becomes_on s t new (Err d) e h = e ∙ h

-- a call that answers the script's refusal
pub becomes_err : {B : Type 0} (script : Result (List Fraction) Refused) (new : List Fraction) (result : Result B Refused) (r : Refused)
    → result ≡ Err r → script ≡ Err r → BecomesBy script new result
becomes_err {B} script new result r e h = subst (λ (x : Result B Refused). BecomesBy script new x) (sym e) h
