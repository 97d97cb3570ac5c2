use Rattle.std.proofs.Common.{rules}
use Rattle.std.proofs.lemmas.List.Sorted.{answers_always}
use Rattle.pami_theory.proofs.Orders.{ordered_is}
use Rattle.pami_bfrt.specs.Candidates.{comes_before}
use Rattle.pami_bfrt.proofs.Firsts.{comes_is_order}
use Rattle.pami_bfrt.proofs.sorted.sort.Goals as goal

pub returns : goal.returns
returns c = ordered_is comes_before c.args.candidates.now.items c.sort_unstable_by.new.self.items comes_is_order c.requires c.sort_unstable_by.ensures.permutation
    (c.sort_unstable_by.ensures.sorted comes_before comes_is_order (answers_always _ _ _ (λ f a r q k. search rules)))
