use Rattle.std.proofs.Common.{◌≡◌, length, sym, ap, ◌∙◌, subst}
use Rattle.std.specs.Prelude.{IfOk}
use Rattle.pami_script.specs.Dense.{dense, Rising}
use Rattle.pami_lu.proofs.Listed.{but_rising, but_dense, but_made}
use Rattle.pami_lu.proofs.vectors.without.Goals as goal

pub from_entries-requires : goal.from_entries-requires
from_entries-requires c =
    let all = c.entries-entry-items.result.now in
    let e = c.deref.ensures.value ∙ but_made c.args.place c.loop-entry.entry-index all c.loop-entry.others.items c.loop-entry-test.false c.loop-entry.invariant in
    subst (λ n. Rising 0 n c.deref.result.now) (sym c.len.ensures) (subst (λ (es : _). Rising 0 (length c.args.vector.now) es) (sym e) (but_rising c.args.place 0 (length c.args.vector.now) all c.entries-entry-items.ensures.rising))

pub returns : goal.returns
returns c =
    let all = c.entries-entry-items.result.now in
    let e = c.deref.ensures.value ∙ but_made c.args.place c.loop-entry.entry-index all c.loop-entry.others.items c.loop-entry-test.false c.loop-entry.invariant in
    subst (λ z. IfOk c.from_entries.result (λ v. v ≡ z)) (ap (λ n. dense n c.deref.result.now) c.len.ensures ∙ ap (dense (length c.args.vector.now)) e ∙ but_dense c.args.vector.now all c.args.place c.entries-entry-items.ensures) c.from_entries.ensures
