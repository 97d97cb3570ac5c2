-- The reduced costs of a slice behind a step, over a program's entries: one for each nonbasic variable.
use Rattle.std.specs.Prelude.{List, [], ◌∷◌, Result, Ok, cond, nat_eq}
use Rattle.pami_frac.specs.declared.arithmetic.Refused.{Refused}
use Rattle.pami_frac.specs.declared.list.Entry.{Entry}
use Rattle.pami_script.specs.Script.{then, sub_product}
use Rattle.pami_script.specs.Dense.{at}
use Rattle.pami_theory.specs.Ratio.{toward}
use Rattle.pami_theory.specs.declared.words.Side.{Side}
use Rattle.pami_vec.specs.declared.step.Step.{Step}

-- each but the entering one's falls by the dual step length times the entry, turned to the side
abbrev pub shift_by : List Entry → Step → Side → List Entry → Result (List Entry) Refused
shift_by alpha step side [] = Ok []
shift_by alpha step side (e ∷ es) =
    cond (nat_eq e.place step.entering) (shift_by alpha step side es)
    (then (sub_product e.value step.tau (toward side (at alpha e.place))) (λ cost.
    then (shift_by alpha step side es) (λ costs. Ok (record { place = e.place; value = cost } ∷ costs))))
