use Rattle.std.proofs.Common.{◌≡◌, length, map}
use Rattle.pami_deferral.specs.Listed.{total_script}
use Rattle.pami_collect.specs.Exchanges.{flips_of}
use Rattle.pami_collect.proofs.Totals.{flips_left}
use Rattle.pami_collect.proofs.flips.add_flips.Given as goal

abbrev pub invariant-loop-step : goal.invariant-loop-step
invariant-loop-step l =
    (total_script (map flips_of l.steps) l.fn.rows ≡ flips_left l.steps l.step-index l.rows) × (length l.rows ≡ length l.fn.rows)
