use Rattle.std.proofs.Common.{◌≡◌, length}
use Rattle.pami_deferral.specs.Listed.{exchanges_script}
use Rattle.pami_collect.specs.Exchanges.{exchanges_of}
use Rattle.pami_collect.proofs.Exchanges.{exchanges_left}
use Rattle.pami_collect.proofs.values.exchange_all.Given as goal

abbrev pub invariant-loop-k : goal.invariant-loop-k
invariant-loop-k l =
    (exchanges_script (exchanges_of l.steps l.columns) l.fn.values ≡ exchanges_left l.steps l.columns l.k l.values) × (length l.values ≡ length l.fn.values)
