use Rattle.std.proofs.Common.{◌≡◌, ℕ, ◌<◌, length, map, Option, Some, Ok, Err, sym, ap, ◌∙◌, arith}
use Rattle.std.proofs.lemmas.List.{get_or_default}
use Rattle.std.specs.Option.{option_map}
use Rattle.pami_theory.specs.Choice.{row_of}
use Rattle.pami_theory.specs.Weights.{weight_at}
use Rattle.pami_theory.specs.declared.words.Violation.{Violation}
use Rattle.pami_chuzr.specs.Choice.{row_by, chosen_row, violation_at, infeasible_by}
use Rattle.pami_chuzr.proofs.Surveyed.{surveyed_feasible, surveyed_infeasible, script_read, row_read, ranked_read, chosen_all, refused_first}
use Rattle.pami_chuzr.proofs.choice.chosen_rows.Goals as goal

pub loop-place-preserved-in-Ok-None : goal.loop-place-preserved-in-Ok-None
loop-place-preserved-in-Ok-None c =
    let bs = c.args.bounds.now in
    let vs = c.args.values.now in
    let ws = c.args.weights.now in
    let i = c.loop-place.place in
    let b = c.index-bounds-place.result in
    let v = c.index-values-place.result in
    let x = c.in-Ok-None.field-0 in
    let lv : i < length vs = c.loop-place-test.true in
    let lb : i < length bs = omega arith in
    let script : violation_at bs vs i ≡ Ok x = script_read bs vs i b v (Ok x) lb c.index-bounds-place.is lv c.index-values-place.is c.in-Ok-None.ensures.script in
    let row : infeasible_by bs vs ws i ≡ option_map (row_of i (weight_at ws i)) x = row_read bs vs ws i b v x lb c.index-bounds-place.is lv c.index-values-place.is c.in-Ok-None.ensures.exact in
    record {
      few = c.loop-place.invariant.few;
      surveyed = surveyed_feasible bs vs ws c.args.most i (map row_by c.loop-place.ranked.items)
          (script ∙ ap (λ (x : Option Violation). Ok x) c.in-Ok-None.field-0-is)
          (row ∙ ap (λ (x : Option Violation). option_map (row_of i (weight_at ws i)) x) c.in-Ok-None.field-0-is)
          c.loop-place.invariant.surveyed;
    }

pub returns-in-Err : goal.returns-in-Err
returns-in-Err c =
    let bs = c.args.bounds.now in
    let vs = c.args.values.now in
    let i = c.loop-place.place in
    let lb : i < length bs = omega arith in
    refused_first bs vs c.args.weights.now c.args.most i (map row_by c.loop-place.ranked.items) c.in-Err.refused c.loop-place-test.true
    (script_read bs vs i c.index-bounds-place.result c.index-values-place.result (Err c.in-Err.refused) lb c.index-bounds-place.is c.loop-place-test.true c.index-values-place.is c.in-Err.ensures.script)
    c.loop-place.invariant.surveyed

pub new-row-requires : goal.new-row-requires
new-row-requires c =
    let ws = c.args.weights.now in
    let i = c.loop-place.place in
    let l : i < length ws = omega arith in
    omega (arith, (c.requires.weights_in_range i l).least, get_or_default ws i 0 1 l)

pub loop-place-preserved : goal.loop-place-preserved
loop-place-preserved c =
    let bs = c.args.bounds.now in
    let vs = c.args.values.now in
    let ws = c.args.weights.now in
    let i = c.loop-place.place in
    let b = c.index-bounds-place.result in
    let v = c.index-values-place.result in
    let x = c.in-Ok-Some.field-0 in
    let found = c.in-Ok-Some.found in
    let lv : i < length vs = c.loop-place-test.true in
    let lb : i < length bs = omega arith in
    let lw : i < length ws = omega arith in
    let script : violation_at bs vs i ≡ Ok x = script_read bs vs i b v (Ok x) lb c.index-bounds-place.is lv c.index-values-place.is c.in-Ok-Some.ensures.script in
    let row : infeasible_by bs vs ws i ≡ option_map (row_of i (weight_at ws i)) x = row_read bs vs ws i b v x lb c.index-bounds-place.is lv c.index-values-place.is c.in-Ok-Some.ensures.exact in
    let made : Some (row_of i (weight_at ws i) found) ≡ Some (row_by c.new-row.result) =
    ap (λ (w : ℕ). Some (row_of i w found)) (sym (get_or_default ws i 0 1 lw)) ∙ ap Some (sym c.new-row.ensures) in
    record {
      few = c.in-Ok.ensures.few;
      surveyed = surveyed_infeasible bs vs ws c.args.most i (map row_by c.loop-place.ranked.items) (map row_by c.rank.new.ranked.items) x (row_by c.new-row.result)
          script
          (row ∙ ap (λ (x : Option Violation). option_map (row_of i (weight_at ws i)) x) c.in-Ok-Some.field-0-is ∙ made)
          (ranked_read c.args.most c.new-row.result c.loop-place.ranked.items c.rank.new.ranked.items c.in-Ok.ensures.rows)
          c.loop-place.invariant.surveyed;
    }

pub returns-in-Ok-told : goal.returns-in-Ok-told
returns-in-Ok-told c =
    chosen_all c.args.bounds.now c.args.values.now c.args.weights.now c.args.most c.loop-place.place (map row_by c.loop-place.ranked.items) (omega arith) c.loop-place.invariant.surveyed
    ∙ ap Ok (sym (c.in-Ok-told.ensures ∙ ap (λ rows. map chosen_row (map row_by rows)) c.as_slice.ensures.value))
