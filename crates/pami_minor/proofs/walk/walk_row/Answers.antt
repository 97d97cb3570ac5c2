use Rattle.std.proofs.Common.{◌<◌, ℕ, List, length, Ok, sym, ap, ◌∙◌, subst}
use Rattle.std.specs.List.{All}
use Rattle.pami_frac.proofs.Outcomes.{not_zero_by_test}
use Rattle.pami_bfrt.specs.Walks.{found_by}
use Rattle.pami_bfrt.specs.declared.walk.Walk.{Walk}
use Rattle.pami_bfrt.proofs.Entrants.{walk_sound}
use Rattle.pami_minor.proofs.walk.walk_row.Goals as goal
use Rattle.pami_frac.specs.Signs.{is_zero}

pub move_row-requires-clause-nonzero : goal.move_row-requires-clause-nonzero
move_row-requires-clause-nonzero c =
    let sound = walk_sound _ _ c.args.alpha.now c.args.row.now.violation _ c.requires.rising
    (c.in_ok-walk.ensures.script ∙ ap (λ (w : Walk). Ok (found_by w)) c.in-Entering.is) in
    ap is_zero c.entry_at-pivot.ensures ∙ not_zero_by_test _ sound.nonzero

pub move_row-requires-clause-known : goal.move_row-requires-clause-known
move_row-requires-clause-known c =
    let sound = walk_sound _ _ c.args.alpha.now c.args.row.now.violation _ c.requires.rising
    (c.in_ok-walk.ensures.script ∙ ap (λ (w : Walk). Ok (found_by w)) c.in-Entering.is) in
    subst (λ (vs : List ℕ). All (λ v. v < length c.args.form.now.columns) vs) (sym c.as_slice-in-Entering.ensures) sound.flips

pub standing_value-requires-clause-variable : goal.standing_value-requires-clause-variable
standing_value-requires-clause-variable c =
    let sound = walk_sound _ _ c.args.alpha.now c.args.row.now.violation _ c.requires.rising
    (c.in_ok-walk.ensures.script ∙ ap (λ (w : Walk). Ok (found_by w)) c.in-Entering.is) in
    sound.within
