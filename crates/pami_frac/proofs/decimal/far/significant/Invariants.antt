use Rattle.std.proofs.Common.{◌≡◌, take}
use Rattle.pami_frac.specs.Decimal.{number_after}
use Rattle.pami_frac.proofs.decimal.far.significant.Given as goal

-- only zeros so far
abbrev pub invariant-loop-place : goal.invariant-loop-place
invariant-loop-place l = number_after 0 (take l.place l.digits) ≡ 0
