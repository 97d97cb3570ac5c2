use Rattle.std.proofs.Common.{◌≡◌, ◌∙◌, sym, ap, subst, Ok, Some, List, Bor}
use Rattle.pami_edge.specs.declared.word.Word.{Word}
use Rattle.pami_frac.specs.Answers.{FollowsBy}
use Rattle.pami_words.specs.declared.item.Item.{Item}
use Rattle.pami_words.specs.declared.item.Reading.TheVariants.{Alone, Opens}
use Rattle.pami_words.specs.Items.{or_bad, reading_of}
use Rattle.pami_words.specs.Fronts.{front}
use Rattle.pami_words.proofs.Steps.{or_bad_some}
use Rattle.pami_words.proofs.read.front_item.Goals as goal

pub returns-in-Alone-clause-item : goal.returns-in-Alone-clause-item
returns-in-Alone-clause-item c =
    let alone : reading_of c.args.options.now c.args.word.now ≡ Some (Alone c.in-Alone.item) =
    or_bad_some (reading_of c.args.options.now c.args.word.now) (Alone c.in-Alone.item) (c.in_ok-item.ensures ∙ ap Ok c.in-Alone.is) in
    ap (λ r. or_bad (front r c.args.later.now)) alone

pub returns-in-Opens-clause-item : goal.returns-in-Opens-clause-item
returns-in-Opens-clause-item c =
    let opens : reading_of c.args.options.now c.args.word.now ≡ Some (Opens c.in-Opens.option c.in-Opens.takes) =
    or_bad_some (reading_of c.args.options.now c.args.word.now) (Opens c.in-Opens.option c.in-Opens.takes) (c.in_ok-item.ensures ∙ ap Ok c.in-Opens.is) in
    subst (λ r. FollowsBy (λ (r : Item × Bor (List Word)). (r.0, r.1.now)) (or_bad (front r c.args.later.now)) c.opened.result) (sym opens) c.opened.ensures.item
