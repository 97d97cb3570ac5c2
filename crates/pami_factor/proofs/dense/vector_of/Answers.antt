use Rattle.std.proofs.Common.{◌≡◌, length, sym, ap, ◌∙◌, subst}
use Rattle.std.specs.Prelude.{IfOk}
use Rattle.pami_script.specs.Dense.{dense, Rising}
use Rattle.pami_factor.proofs.Nonzeros.{nonzeros_fit, nonzeros_dense, nonzeros_listed}
use Rattle.pami_factor.proofs.dense.vector_of.Goals as goal

pub from_entries-requires : goal.from_entries-requires
from_entries-requires c =
    subst (Rising 0 (length c.args.members.now)) (sym (c.deref.ensures.value ∙ nonzeros_listed c.args.members.now c.loop-k.k c.loop-k.entries.items c.loop-k-test.false c.loop-k.invariant)) (nonzeros_fit c.args.members.now)

pub returns : goal.returns
returns c =
    subst (λ z. IfOk c.from_entries.result (λ v. v ≡ z))
    (ap (dense (length c.args.members.now)) (c.deref.ensures.value ∙ nonzeros_listed c.args.members.now c.loop-k.k c.loop-k.entries.items c.loop-k-test.false c.loop-k.invariant) ∙ nonzeros_dense c.args.members.now)
    c.from_entries.ensures
