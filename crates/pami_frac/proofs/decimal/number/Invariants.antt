use Rattle.std.proofs.Common.{◌≡◌, ◌<◌, ◌≤◌, ◌^◌, take}
use Rattle.pami_frac.specs.Decimal.{number_after}
use Rattle.pami_frac.proofs.decimal.number.Given as goal

abbrev pub invariant-loop-byte : goal.invariant-loop-byte
invariant-loop-byte l = record {
  near : l.number < 2 ^ 100 → number_after 0 (take l.byte-index l.digits) ≡ l.number;
  far : 2 ^ 100 ≤ l.number → 2 ^ 100 ≤ number_after 0 (take l.byte-index l.digits);
  bound : l.number < 2 ^ 104;
}
