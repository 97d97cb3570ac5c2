use Rattle.std.proofs.Common.{ℕ, List, ◌++◌, ◌∷◌, [], codes, ap, ◌∙◌}
use Rattle.pami_model.specs.Contents.{contents}
use Rattle.pami_model_form.specs.ModelForm.{model_form}
use Rattle.pami_model_form.specs.Named.{named_of}
use Rattle.pami_lines.specs.Line.{line}
use Rattle.pami_text.specs.Record.{answer_lines}
use Rattle.pami_cli.specs.Summary.{told_behind}
use Rattle.pami_cli.proofs.Summed.{outcome_joined}
use Rattle.pami_cli.proofs.summary.push_outcome.Goals as goal

pub returns : goal.returns
returns c = λ a l.
    let m = contents c.args.model.now in
    let objective = told_behind (codes "objective") (answer_lines (named_of m) a) in
    outcome_joined c.args.out.now.items _ _ _ _ c.push.new.self.items c.answer_word.result.now objective
    c.in_ok-extend_from_slice.ensures.items c.in_ok-push_word.ensures c.in_ok-push_word-2.ensures (c.in_ok-push_objective.ensures a l) c.in_ok-push.ensures.items
    ∙ ap (λ (w : List ℕ). c.args.out.now.items ++ line (codes "answer" ∷ w ∷ codes "objective" ∷ objective ∷ [])) (c.answer_word.ensures m (model_form m) a l)
