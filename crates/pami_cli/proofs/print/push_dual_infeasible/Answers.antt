use Rattle.std.proofs.Common.{sym, ap, ◌∙◌, ◌++◌, codes, subst}
use Rattle.std.proofs.lemmas.Result.{on_ok_weaker}
use Rattle.pami_model.specs.Contents.{contents}
use Rattle.pami_model_form.specs.Named.{named_of}
use Rattle.pami_lines.specs.Line.{text}
use Rattle.pami_lines.specs.Certificate.{dual_infeasible_lines}
use Rattle.pami_cert.specs.Sized.{IsSized}
use Rattle.pami_cert.specs.CertLines.{cert_lines}
use Rattle.pami_cert.specs.CertText.{Fits}
use Rattle.pami_cli.proofs.Lines.{answer_joined}
use Rattle.pami_cli.proofs.Certs.{cut_sized, direction_lines}
use Rattle.pami_cli.proofs.print.push_dual_infeasible.Goals as goal

pub push_cert-requires : goal.push_cert-requires
push_cert-requires c =
    let m = contents c.args.model.now in
    subst (IsSized m) (sym c.in_ok-cert.ensures.made) (cut_sized m c.args.z.now c.requires)

pub returns-clause-printed : goal.returns-clause-printed
returns-clause-printed c =
    let m = contents c.args.model.now in
    on_ok_weaker c.push_cert.result
    (λ p. answer_joined c.args.out.now.items _ c.push_cert.new.out.items (codes "dual-infeasible") (dual_infeasible_lines (named_of m) c.args.z.now)
    c.in_ok-extend_from_slice.ensures.items
    (p ∙ ap (λ k. c.extend_from_slice.new.self.items ++ text (cert_lines m k)) c.in_ok-cert.ensures.made
    ∙ ap (λ ls. c.extend_from_slice.new.self.items ++ text ls) (direction_lines m c.args.z.now)))
    c.push_cert.ensures

pub returns-clause-fits : goal.returns-clause-fits
returns-clause-fits c = on_ok_weaker c.push_cert.result (λ p. subst Fits c.in_ok-cert.ensures.made c.in_ok-cert.ensures.fits) c.push_cert.ensures
