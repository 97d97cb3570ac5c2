use Rattle.std.proofs.Common.{◌≡◌, ◌++◌, drop, Ok, List}
use Rattle.pami_algebra.specs.Fraction.{Fraction}
use Rattle.pami_script.specs.Script.{then}
use Rattle.pami_factoring.specs.Factor.{sub_row}
use Rattle.pami_dense.proofs.reduce.reduce_entries.Given as goal

abbrev pub invariant-loop-g : goal.invariant-loop-g
invariant-loop-g l =
    sub_row l.places l.xs l.l l.ys
    ≡ then (sub_row (drop l.g l.places) (drop l.g l.xs) l.l (drop l.g l.ys)) (λ (zs : List Fraction). Ok (l.out.items ++ zs))
