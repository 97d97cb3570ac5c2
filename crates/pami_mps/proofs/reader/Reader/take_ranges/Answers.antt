use Rattle.std.proofs.Common.{refl, sym, ◌∙◌}
use Rattle.pami_mps.specs.After.{with_ranged, after_ranges}
use Rattle.pami_mps.specs.Judge.{judge_ranged, judge_ranges}
use Rattle.pami_mps.specs.Reader.{seen_by_reader}
use Rattle.pami_mps.proofs.Counts.{four}
use Rattle.pami_mps.proofs.ToldLines.{even_between, second_judged, second_after, ranged_even}
use Rattle.pami_mps.proofs.reader.Reader.take_ranges.Goals as goal

pub take_range-requires-in-len4-2 : goal.take_range-requires-in-len4-2
take_range-requires-in-len4-2 c =
    let e = four c.pairs_of.result.now _ c.in-len4.len_at_least c.in-len4.len_below in
    even_between judge_ranged with_ranged judge_ranges after_ranges (λ s r v q w. refl) (λ s r v q w. refl) ranged_even
    (seen_by_reader c.args.self.now) _ _ _ _ _ (sym c.pairs_of.ensures ∙ e) _ c.in_ok-take_range-in-len4.ensures.grown c.requires

pub returns-in_ok-take_range-in-len4-clause-judged : goal.returns-in_ok-take_range-in-len4-clause-judged
returns-in_ok-take_range-in-len4-clause-judged c =
    let e = four c.pairs_of.result.now _ c.in-len4.len_at_least c.in-len4.len_below in
    second_judged judge_ranged with_ranged judge_ranges after_ranges (λ s r v q w. refl) (λ s r v q w. refl) ranged_even
    (seen_by_reader c.args.self.now) _ _ _ _ _ (sym c.pairs_of.ensures ∙ e) _ c.in_ok-take_range-in-len4.ensures.grown
    c.take_range-in-len4-2.result c.in_ok-take_range-in-len4.ensures.judged c.take_range-in-len4-2.ensures.judged

pub returns-in_ok-take_range-in-len4-clause-grown : goal.returns-in_ok-take_range-in-len4-clause-grown
returns-in_ok-take_range-in-len4-clause-grown c =
    let e = four c.pairs_of.result.now _ c.in-len4.len_at_least c.in-len4.len_below in
    second_after judge_ranged with_ranged judge_ranges after_ranges (λ s r v q w. refl) (λ s r v q w. refl) ranged_even
    (seen_by_reader c.args.self.now) _ _ _ _ _ (sym c.pairs_of.ensures ∙ e) _ c.in_ok-take_range-in-len4.ensures.grown
    c.take_range-in-len4-2.result _ c.take_range-in-len4-2.ensures.grown
