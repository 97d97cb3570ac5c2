use Rattle.std.proofs.Common.{◌≡◌, length, sym, ap, ◌∙◌, subst}
use Rattle.std.specs.Prelude.{IfOk}
use Rattle.pami_script.specs.Dense.{dense, Rising}
use Rattle.pami_vec.proofs.AllEntries.{entries_made, all_entries_dense, all_entries_fit}
use Rattle.pami_vec.proofs.vector.SpVec.from_dense.Goals as goal

pub from_entries-requires : goal.from_entries-requires
from_entries-requires c =
    subst (Rising 0 (length c.args.members.now)) (sym (c.deref.ensures.value ∙ entries_made c.args.members.now c.loop-k.k c.loop-k.entries.items c.loop-k-test.false c.loop-k.invariant)) (all_entries_fit c.args.members.now)

pub returns : goal.returns
returns c =
    subst (λ z. IfOk c.from_entries.result (λ v. v ≡ z))
    (ap (dense (length c.args.members.now)) (c.deref.ensures.value ∙ entries_made c.args.members.now c.loop-k.k c.loop-k.entries.items c.loop-k-test.false c.loop-k.invariant) ∙ all_entries_dense c.args.members.now)
    c.from_entries.ensures
