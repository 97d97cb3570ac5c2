use Rattle.std.proofs.Common.{◌++◌, ap, sym, ◌∙◌}
use Rattle.pami_model.specs.Contents.{contents}
use Rattle.pami_lines.specs.Line.{text}
use Rattle.pami_lines.specs.Certificate.{objective_word}
use Rattle.pami_cert.specs.CertLines.{pair_lines, member_lines, cert_lines}
use Rattle.pami_cert.specs.declared.part.Part.TheVariants.{Columns, Rows}
use Rattle.pami_cert.proofs.Joined.{optimal_joined, infeasible_joined, dual_infeasible_joined}
use Rattle.pami_cert.proofs.print.push_cert.Goals as goal

pub returns-in_ok-extend_from_slice-in-Optimal-2 : goal.returns-in_ok-extend_from_slice-in-Optimal-2
returns-in_ok-extend_from_slice-in-Optimal-2 c =
    let m = contents c.args.model.now in
    let o = c.args.out.now.items in
    optimal_joined o _ _ _ _ _ _ (objective_word c.in-Optimal.objective)
    (pair_lines m Columns c.in-Optimal.x c.in-Optimal.d) (pair_lines m Rows c.in-Optimal.r c.in-Optimal.y)
    c.in_ok-extend_from_slice-in-Optimal.ensures.items c.in_ok-push_objective-in-Optimal.ensures c.in_ok-push-in-Optimal.ensures.items
    (rw (c.as_slice.ensures, c.as_slice-in-Optimal.ensures) at c.in_ok-push_pairs-in-Optimal.ensures)
    (rw (c.as_slice-in-Optimal-2.ensures, c.as_slice-in-Optimal-3.ensures) at c.in_ok-push_pairs-in-Optimal-2.ensures)
    c.in_ok-extend_from_slice-in-Optimal-2.ensures.items
    ∙ ap (λ z. o ++ text (cert_lines m z)) (sym c.in-Optimal.is)

pub returns-in_ok-extend_from_slice-in-Infeasible-2 : goal.returns-in_ok-extend_from_slice-in-Infeasible-2
returns-in_ok-extend_from_slice-in-Infeasible-2 c =
    let m = contents c.args.model.now in
    let o = c.args.out.now.items in
    infeasible_joined o _ _ _ (member_lines m Rows c.in-Infeasible.y)
    c.in_ok-extend_from_slice-in-Infeasible.ensures.items
    (rw c.as_slice-in-Infeasible.ensures at c.in_ok-push_members-in-Infeasible.ensures)
    c.in_ok-extend_from_slice-in-Infeasible-2.ensures.items
    ∙ ap (λ z. o ++ text (cert_lines m z)) (sym c.in-Infeasible.is)

pub returns-in_ok-extend_from_slice-in-DualInfeasible-2 : goal.returns-in_ok-extend_from_slice-in-DualInfeasible-2
returns-in_ok-extend_from_slice-in-DualInfeasible-2 c =
    let m = contents c.args.model.now in
    let o = c.args.out.now.items in
    dual_infeasible_joined o _ _ _ _ (member_lines m Columns c.in-DualInfeasible.x) (member_lines m Rows c.in-DualInfeasible.r)
    c.in_ok-extend_from_slice-in-DualInfeasible.ensures.items
    (rw c.as_slice-in-DualInfeasible.ensures at c.in_ok-push_members-in-DualInfeasible.ensures)
    (rw c.as_slice-in-DualInfeasible-2.ensures at c.in_ok-push_members-in-DualInfeasible-2.ensures)
    c.in_ok-extend_from_slice-in-DualInfeasible-2.ensures.items
    ∙ ap (λ z. o ++ text (cert_lines m z)) (sym c.in-DualInfeasible.is)
