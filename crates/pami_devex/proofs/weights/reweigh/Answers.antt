use Rattle.std.proofs.Common.{◌≡◌, ◌<◌, length, slice_index_or, refl, ap, ◌∙◌, arith}
use Rattle.std.proofs.lemmas.List.{get_or_default, length-set}
use Rattle.pami_script.specs.Dense.{at}
use Rattle.pami_script.proofs.Loops.{place_below}
use Rattle.pami_theory.specs.Weights.{weight_at}
use Rattle.pami_devex.specs.Weights.{weight_beside}
use Rattle.pami_devex.proofs.Reweighed.{reweighed, reweighed_is, place_within, pivot_weight, other_weight, entry_taken, all_taken, all_in_range, weight_by}
use Rattle.pami_devex.proofs.weights.reweigh.Goals as goal
use Rattle.pami_devex.proofs.weights.reweigh.Goals.{then-entry-place, else-entry-place}

pub bounds-weights-place : goal.bounds-weights-place
bounds-weights-place c = place_within c.args.alpha.now 0 (length c.args.weights.now) c.args.place c.requires.rising c.requires.pivot

pub loop-entry-init : goal.loop-entry-init
loop-entry-init c = record { same_length = refl; rest = refl }

pub bounds-weights-i : goal.bounds-weights-i
bounds-weights-i c =
    omega (arith, c.loop-entry.invariant.same_length, place_below c.args.alpha.now 0 (length c.args.weights.now) c.loop-entry.entry-index c.entry-item.result c.requires.rising c.loop-entry-test.true c.entry-item.is)

pub bounds-weights-i-in-loop-entry : goal.bounds-weights-i-in-loop-entry
bounds-weights-i-in-loop-entry c =
    omega (arith, c.loop-entry.invariant.same_length, place_below c.args.alpha.now 0 (length c.args.weights.now) c.loop-entry.entry-index c.entry-item.result c.requires.rising c.loop-entry-test.true c.entry-item.is)

pub loop-entry-preserved : goal.loop-entry-preserved
loop-entry-preserved c =
    let es = c.args.alpha.now in
    let ws = c.loop-entry.weights in
    let e = c.entry-item.result in
    let p = c.args.place in
    let a = c.entry_at-alpha_p.result in
    let wp = slice_index_or c.args.weights.now p 0 in
    let v = c.if-entry-place.weights in
    let inside : e.place < length ws = omega (arith, c.loop-entry.invariant.same_length, place_below es 0 (length c.args.weights.now) c.loop-entry.entry-index e c.requires.rising c.loop-entry-test.true c.entry-item.is) in
    let same : slice_index_or ws e.place 0 ≡ weight_at ws e.place = get_or_default ws e.place 0 1 inside in
    let value : v ≡ weight_by p a wp e.place e.value (weight_at ws e.place) = elim c.if-entry-place.branch [
      | then-entry-place w ↦ pivot_weight p a wp e.place e.value (weight_at ws e.place) v w.if-entry-place.true (w.weights-is ∙ w.reweigh_pivot.ensures.value)
      | else-entry-place w ↦ other_weight p a wp e.place e.value (weight_at ws e.place) v w.if-entry-place.false (w.weights-is ∙ w.reweigh_one.ensures.value ∙ ap (λ x. weight_beside x e.value a wp) same)
    ] in
    record {
      same_length = length-set ws e.place v ∙ c.loop-entry.invariant.same_length;
      rest = entry_taken p a wp es ws c.args.weights.now c.loop-entry.entry-index e v c.loop-entry-test.true c.entry-item.is value c.loop-entry.invariant.rest;
    }

pub returns-clause-value : goal.returns-clause-value
returns-clause-value c =
    let es = c.args.alpha.now in
    let ws = c.args.weights.now in
    let p = c.args.place in
    let a = c.entry_at-alpha_p.result in
    all_taken p a (slice_index_or ws p 0) es c.loop-entry.weights ws c.loop-entry.entry-index c.loop-entry-test.false c.loop-entry.invariant.rest
    ∙ ap (λ x. reweighed p x (slice_index_or ws p 0) es ws) c.entry_at-alpha_p.ensures
    ∙ ap (λ x. reweighed p (at es p) x es ws) (get_or_default ws p 0 1 (place_within es 0 (length ws) p c.requires.rising c.requires.pivot))
    ∙ reweighed_is p es ws c.requires.rising c.requires.pivot

pub returns-clause-range : goal.returns-clause-range
returns-clause-range c =
    let es = c.args.alpha.now in
    let ws = c.args.weights.now in
    let p = c.args.place in
    let a = c.entry_at-alpha_p.result in
    all_in_range p es ws c.loop-entry.weights c.requires.rising c.requires.pivot
    (all_taken p a (slice_index_or ws p 0) es c.loop-entry.weights ws c.loop-entry.entry-index c.loop-entry-test.false c.loop-entry.invariant.rest
    ∙ ap (λ x. reweighed p x (slice_index_or ws p 0) es ws) c.entry_at-alpha_p.ensures
    ∙ ap (λ x. reweighed p (at es p) x es ws) (get_or_default ws p 0 1 (place_within es 0 (length ws) p c.requires.rising c.requires.pivot)))
