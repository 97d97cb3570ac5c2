use Rattle.std.proofs.Common.{◌≡◌, List, ◌++◌, drop, Ok}
use Rattle.pami_frac.specs.declared.list.Entry.{Entry}
use Rattle.pami_script.specs.Script.{then}
use Rattle.pami_minor.specs.Shift.{shift_by}
use Rattle.pami_minor.proofs.shift.shift_costs.Given as goal

abbrev pub invariant-loop-cost : goal.invariant-loop-cost
invariant-loop-cost l =
    shift_by l.alpha l.step l.side l.reduced
    ≡ then (shift_by l.alpha l.step l.side (drop l.cost-index l.reduced)) (λ (zs : List Entry). Ok (l.shifted.items ++ zs))
