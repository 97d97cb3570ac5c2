use Rattle.std.proofs.Common.{◌∙◌, sym, ap, subst, Err, ℕ, List, Vec, Global, Bor}
use Rattle.std.proofs.lemmas.Result.{err_from_is_err_and}
use Rattle.pami_frac.specs.Answers.{FollowsBy}
use Rattle.pami_words.specs.declared.item.Item.{Item}
use Rattle.pami_words.specs.Items.{or_bad, items_of}
use Rattle.pami_words.specs.Fronts.{behind}
use Rattle.pami_words.proofs.Steps.{stops_too, or_bad_some, item_stops, item_goes}
use Rattle.pami_words.proofs.read.read_items.Goals as goal

pub returns-in_err-item : goal.returns-in_err-item
returns-in_err-item c =
    let p = err_from_is_err_and c.from_residual.result c.from_residual.ensures.1 in
    subst (FollowsBy (λ (all : Vec Item Global). all.items) (or_bad (items_of c.args.options.now c.args.words.now))) (sym (p.1 ∙ ap Err p.2))
    (stops_too (λ (r : Item × Bor (List (List ℕ))). (r.0, r.1.now)) (λ (all : Vec Item Global). all.items) _ _ c.in_err-item.field-0.0
    (item_stops c.args.options.now c.args.words.now c.loop-rest.rest.now c.word-item.result c.loop-rest.items.items c.loop-rest.invariant
    c.in-len1-up.len_at_least c.word-item.is (sym c.is.ensures ∙ c.if-is.false))
    c.in_err-item.ensures.item)

pub loop-rest-preserved : goal.loop-rest-preserved
loop-rest-preserved c =
    item_goes c.args.options.now c.args.words.now c.loop-rest.rest.now c.word-item.result c.loop-rest.items.items c.loop-rest.invariant
    c.in-len1-up.len_at_least c.word-item.is (sym c.is.ensures ∙ c.if-is.false)
    c.in_ok-item.item c.in_ok-item.behind.now (or_bad_some _ _ c.in_ok-item.ensures.item)
    ∙ ap (λ items. behind items (items_of c.args.options.now c.in_ok-item.behind.now)) (sym c.in_ok-push.ensures.items)
