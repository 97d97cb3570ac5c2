use Rattle.std.proofs.Common.{rules, ◌∙◌}
use Rattle.std.proofs.lemmas.List.Sorted.{IsNonDecreasingBy-from_sort_by_key}
use Rattle.pami_frac.specs.declared.list.Entry.{Entry}
use Rattle.pami_model.proofs.Order.{sorted-by_row}
use Rattle.pami_model.proofs.builder.finish_column.Goals as goal

pub returns : goal.returns
returns c =
    let up = IsNonDecreasingBy-from_sort_by_key (λ (e : Entry). e.place) c.sort_unstable_by_key.new.self.items c.sort_unstable_by_key.ensures.sorted (λ a r q k. search rules) in
    let sorted = sorted-by_row c.args.column.entries.items c.sort_unstable_by_key.new.self.items c.requires c.sort_unstable_by_key.ensures.permutation up in
    λ i. record { name = c.from_vec-name.ensures i; cost = c.args.column.cost; bounds = c.args.column.bounds; entries = (c.from_vec-entries.ensures ∙ sorted) i }
