use Rattle.std.proofs.Common.{refl, ap, ◌∙◌, ◌++◌, decimal}
use Rattle.std.proofs.lemmas.Result.{on_ok_weaker}
use Rattle.pami_model.specs.Contents.{contents}
use Rattle.pami_theory.specs.Basis.{stand_at}
use Rattle.pami_state.specs.State.{basis_of}
use Rattle.pami_lines.specs.Letters.{basis_line}
use Rattle.pami_model_form.specs.Named.{counts_of}
use Rattle.pami_cli.proofs.Lines.{limit_joined, basis_printed}
use Rattle.pami_cli.proofs.print.push_limit.Goals as goal

pub returns : goal.returns
returns c =
    let m = contents c.args.model.now in
    let b = basis_of c.args.state.now in
    on_ok_weaker c.push_basis.result
    (λ p. limit_joined c.args.out.now.items _ _ _ c.push_basis.new.out.items (decimal c.args.state.now.pivots) (basis_line (counts_of m) (stand_at b))
    c.in_ok-extend_from_slice.ensures.items c.in_ok-push_count.ensures c.in_ok-push.ensures.items
    (p ∙ ap (λ z. c.push.new.self.items ++ z) (basis_printed m b c.args.state.now.stands c.as_slice-2.result.now c.as_slice.result.now refl c.requires c.as_slice-2.ensures c.as_slice.ensures)))
    c.push_basis.ensures
