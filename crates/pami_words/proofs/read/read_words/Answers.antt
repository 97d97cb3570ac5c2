use Rattle.std.proofs.Common.{◌≡◌, ◌∙◌, Some, rules, sym, ap, subst, length, take, drop, ◌-◌, Err, Vec, Global}
use Rattle.std.proofs.lemmas.Result.{err_from_is_err_and}
use Rattle.pami_frac.specs.Answers.{FollowsBy}
use Rattle.pami_words.specs.declared.command.Command.{Command}
use Rattle.pami_words.specs.declared.item.Item.{Item}
use Rattle.pami_words.specs.Table.{commands, command_named}
use Rattle.pami_words.specs.Items.{or_bad, items_of}
use Rattle.pami_words.specs.Words.{command_by, read_outcome}
use Rattle.pami_words.proofs.Steps.{stops_too, or_bad_some, command_in, command_stops, command_goes}
use Rattle.pami_words.proofs.Ranges.{answer_in_range}
use Rattle.pami_words.proofs.read.read_words.Goals as goal

pub returns-in_err-items-clause-command : goal.returns-in_err-items-clause-command
returns-in_err-items-clause-command c =
    let p = err_from_is_err_and c.from_residual-in_err-items.result c.from_residual-in_err-items.ensures.1 in
    let named : command_named commands c.as_slice.result.now ≡ Some c.in_ok-name.name = search rules in
    let later = take (length c.args.words.now - 1) (drop 1 c.args.words.now) in
    subst (FollowsBy (λ (command : Command). command) (read_outcome c.args.words.now)) (sym (p.1 ∙ ap Err p.2))
    (subst (λ o. FollowsBy (λ (command : Command). command) o (Err c.in_err-items.field-0.0))
    (sym (command_in c.args.words.now c.first-item.result c.in_ok-name.name c.in-len1-up.len_at_least c.first-item.is
    (ap (command_named commands) (sym c.as_slice.ensures) ∙ named)))
    (stops_too (λ (all : Vec Item Global). all.items) (λ (command : Command). command) _ _ c.in_err-items.field-0.0
    (λ e. command_stops later c.in_ok-name.name (ap (λ options. items_of options later) (sym c.options.ensures) ∙ e)) c.in_err-items.ensures))

pub returns-clause-command : goal.returns-clause-command
returns-clause-command c =
    let named : command_named commands c.as_slice.result.now ≡ Some c.in_ok-name.name = search rules in
    let later = take (length c.args.words.now - 1) (drop 1 c.args.words.now) in
    subst (λ o. FollowsBy (λ (command : Command). command) o c.command_by.result)
    (sym (command_in c.args.words.now c.first-item.result c.in_ok-name.name c.in-len1-up.len_at_least c.first-item.is
    (ap (command_named commands) (sym c.as_slice.ensures) ∙ named)
    ∙ ap or_bad (command_goes later c.in_ok-name.name c.in_ok-items.items.items
    (ap (λ options. items_of options later) (sym c.options.ensures) ∙ or_bad_some _ _ c.in_ok-items.ensures)
    ∙ ap (command_by c.in_ok-name.name) (sym c.as_slice-2.ensures.value))))
    c.command_by.ensures

pub returns-clause-in_range : goal.returns-clause-in_range
returns-clause-in_range c = answer_in_range c.args.words.now c.command_by.result (returns-clause-command c)
