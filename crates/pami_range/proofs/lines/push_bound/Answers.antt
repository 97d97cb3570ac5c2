use Rattle.std.proofs.Common.{◌++◌, [], ◌∷◌, sym, ap, ◌∙◌}
use Rattle.pami_model.specs.Contents.{contents}
use Rattle.pami_model_form.specs.Named.{names_of}
use Rattle.pami_lines.specs.Line.{text}
use Rattle.pami_lines.specs.Names.{variable_word}
use Rattle.pami_theory.specs.declared.words.Side.TheVariants.{Above, Below}
use Rattle.pami_range.specs.RangeLines.{end_word, bound_line}
use Rattle.pami_range.proofs.BoundLines.{bound_joined}
use Rattle.pami_range.proofs.lines.push_bound.Goals as goal

pub returns-in_ok-push_ends : goal.returns-in_ok-push_ends
returns-in_ok-push_ends c =
    let n = names_of (contents c.args.model.now) in
    let o = c.args.out.now.items in
    bound_joined o c.extend_from_slice.new.self.items c.push_variable.new.out.items c.push_ends.new.out.items (variable_word n c.args.variable)
    (end_word Below c.in-Some.span.low) (end_word Above c.in-Some.span.high ∷ [])
    c.in_ok-extend_from_slice.ensures.items c.in_ok-push_variable.ensures c.in_ok-push_ends.ensures
    ∙ ap (λ s. o ++ text (bound_line n c.args.variable s)) (sym c.in-Some.is)
