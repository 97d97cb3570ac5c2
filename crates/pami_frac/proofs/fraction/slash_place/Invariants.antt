use Rattle.std.proofs.Common.{◌≡◌, ◌<◌, ℕ, false, get_or}
use Rattle.pami_frac.specs.Printed.{is_slash}
use Rattle.pami_frac.proofs.fraction.slash_place.Given as goal

abbrev pub invariant-loop-place : goal.invariant-loop-place
invariant-loop-place l = (k : ℕ) → k < l.place → is_slash (get_or l.bytes k 0) ≡ false
