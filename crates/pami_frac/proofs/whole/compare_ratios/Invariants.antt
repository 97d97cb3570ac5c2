use Rattle.std.proofs.Common.{◌≡◌, ◌<◌, ◌*◌, ◌+◌}
use Rattle.pami_frac.proofs.whole.compare_ratios.Given as goal

abbrev pub invariant-loop-a : goal.invariant-loop-a
invariant-loop-a l = record {
  b_pos : 0 < l.b;
  d_pos : 0 < l.d;
  less : l.a * l.d < l.c * l.b → l.fn.a * l.fn.d < l.fn.c * l.fn.b;
  same : l.a * l.d ≡ l.c * l.b → l.fn.a * l.fn.d ≡ l.fn.c * l.fn.b;
  more : l.c * l.b < l.a * l.d → l.fn.c * l.fn.b < l.fn.a * l.fn.d;
}

abbrev pub decreases-loop-a : goal.decreases-loop-a
decreases-loop-a l = l.b + l.d
