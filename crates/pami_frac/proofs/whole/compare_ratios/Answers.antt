use Rattle.std.proofs.Common.{◌*◌, ◌%◌, arith, sym, ap, ◌∙◌}
use Rattle.pami_frac.proofs.Euclid.{whole, rests, zero_less, nothing}
use Rattle.pami_frac.proofs.whole.compare_ratios.Goals as goal

pub returns-then-p-q : goal.returns-then-p-q
returns-then-p-q c = c.loop-a.invariant.less (whole c.loop-a.a c.loop-a.b c.loop-a.c c.loop-a.d c.loop-a.invariant.b_pos c.loop-a.invariant.d_pos c.if-p-q.true)

pub returns-then-q-p : goal.returns-then-q-p
returns-then-q-p c = c.loop-a.invariant.more (whole c.loop-a.c c.loop-a.d c.loop-a.a c.loop-a.b c.loop-a.invariant.d_pos c.loop-a.invariant.b_pos c.if-q-p.true)

pub returns-then-s-eq0 : goal.returns-then-s-eq0
returns-then-s-eq0 c =
    let e = rests c.loop-a.a c.loop-a.b c.loop-a.c c.loop-a.d (omega arith) in
    c.loop-a.invariant.same (e.same (ap (λ n. c.loop-a.d * n) c.if-r-eq0.true ∙ nothing c.loop-a.d c.loop-a.b ∙ sym (ap (λ n. c.loop-a.b * n) c.if-s-eq0.true)))

pub returns-else-s-eq0 : goal.returns-else-s-eq0
returns-else-s-eq0 c =
    let e = rests c.loop-a.a c.loop-a.b c.loop-a.c c.loop-a.d (omega arith) in
    c.loop-a.invariant.less (e.less (zero_less c.loop-a.d (c.loop-a.a % c.loop-a.b) c.loop-a.b (c.loop-a.c % c.loop-a.d) c.if-r-eq0.true c.loop-a.invariant.b_pos (omega arith)))

pub returns-then-s-eq0-2 : goal.returns-then-s-eq0-2
returns-then-s-eq0-2 c =
    let e = rests c.loop-a.a c.loop-a.b c.loop-a.c c.loop-a.d (omega arith) in
    c.loop-a.invariant.more (e.more (zero_less c.loop-a.b (c.loop-a.c % c.loop-a.d) c.loop-a.d (c.loop-a.a % c.loop-a.b) c.if-s-eq0-2.true c.loop-a.invariant.d_pos (omega arith)))

pub loop-a-preserved : goal.loop-a-preserved
loop-a-preserved c =
    let e = rests c.loop-a.a c.loop-a.b c.loop-a.c c.loop-a.d (omega arith) in
    record {
      b_pos = omega arith;
      d_pos = omega arith;
      less = λ h. c.loop-a.invariant.less (e.less h);
      same = λ h. c.loop-a.invariant.same (e.same h);
      more = λ h. c.loop-a.invariant.more (e.more h);
    }
