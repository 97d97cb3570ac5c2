use Rattle.std.proofs.Common.{◌≡◌, ◌<◌, ℕ, false, get_or}
use Rattle.pami_frac.specs.Decimal.{is_mark}
use Rattle.pami_frac.proofs.decimal.mark_place.Given as goal

abbrev pub invariant-loop-place : goal.invariant-loop-place
invariant-loop-place l = (k : ℕ) → k < l.place → is_mark (get_or l.bytes k 0) ≡ false
