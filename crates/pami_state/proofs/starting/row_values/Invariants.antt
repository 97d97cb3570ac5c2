use Rattle.std.proofs.Common.{◌≡◌, ◌++◌, List, drop, Ok}
use Rattle.pami_algebra.specs.Fraction.{Fraction}
use Rattle.pami_script.specs.Script.{then, each_member}
use Rattle.pami_state.specs.Sums.{sums_script}
use Rattle.pami_state.proofs.starting.row_values.Given as goal

abbrev pub invariant-loop-sum : goal.invariant-loop-sum
invariant-loop-sum l = sums_script l.sums ≡ then (each_member (λ i sum. sum) l.sum-index (drop l.sum-index l.sums)) (λ (zs : List Fraction). Ok (l.values.items ++ zs))
