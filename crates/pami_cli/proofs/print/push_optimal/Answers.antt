use Rattle.std.proofs.Common.{refl, ap, sym, ◌∙◌, ◌++◌, subst}
use Rattle.std.proofs.lemmas.Result.{on_ok_weaker}
use Rattle.pami_linear.specs.Lists.{get}
use Rattle.pami_model.specs.Contents.{contents}
use Rattle.pami_theory.specs.Basis.{stand_at}
use Rattle.pami_state.specs.State.{basis_of}
use Rattle.pami_lines.specs.Line.{text}
use Rattle.pami_lines.specs.Letters.{basis_line}
use Rattle.pami_lines.specs.Certificate.{optimal_lines, certificate_of}
use Rattle.pami_model_form.specs.Named.{counts_of, named_of}
use Rattle.pami_cert.specs.Sized.{IsSized}
use Rattle.pami_cert.specs.CertLines.{cert_lines}
use Rattle.pami_cert.specs.CertText.{Fits}
use Rattle.pami_cli.specs.CertOf.{best_cert}
use Rattle.pami_cli.proofs.Lines.{optimal_joined, basis_printed}
use Rattle.pami_cli.proofs.Certs.{best_sized, best_lines}
use Rattle.pami_cli.proofs.print.push_optimal.Goals as goal

pub push_cert-requires : goal.push_cert-requires
push_cert-requires c =
    let m = contents c.args.model.now in
    subst (IsSized m) (sym (c.in_ok-cert.ensures.made ∙ ap (best_cert m c.args.values.now) c.as_slice.ensures))
    (best_sized m c.args.values.now c.args.state.now.reduced c.requires.values c.requires.reduced)

pub returns-clause-printed : goal.returns-clause-printed
returns-clause-printed c =
    let m = contents c.args.model.now in
    let b = basis_of c.args.state.now in
    let cert = c.in_ok-cert.ensures.made ∙ ap (best_cert m c.args.values.now) c.as_slice.ensures in
    on_ok_weaker c.push_basis.result
    (λ p. optimal_joined c.args.out.now.items _ _ c.push_basis.new.out.items (optimal_lines (certificate_of (named_of m) (get c.args.values.now) (get c.args.state.now.reduced))) (basis_line (counts_of m) (stand_at b))
    c.in_ok-extend_from_slice.ensures.items
    (c.in_ok-push_cert.ensures ∙ ap (λ k. c.extend_from_slice.new.self.items ++ text (cert_lines m k)) cert
    ∙ ap (λ ls. c.extend_from_slice.new.self.items ++ text ls) (best_lines m c.args.values.now c.args.state.now.reduced))
    (p ∙ ap (λ z. c.push_cert.new.out.items ++ z) (basis_printed m b c.args.state.now.stands c.as_slice-3.result.now c.as_slice-2.result.now refl (c.requires.values ∙ sym c.requires.stands) c.as_slice-3.ensures c.as_slice-2.ensures)))
    c.push_basis.ensures

pub returns-clause-fits : goal.returns-clause-fits
returns-clause-fits c =
    let m = contents c.args.model.now in
    on_ok_weaker c.push_basis.result
    (λ p. subst Fits (c.in_ok-cert.ensures.made ∙ ap (best_cert m c.args.values.now) c.as_slice.ensures) c.in_ok-cert.ensures.fits)
    c.push_basis.ensures
