use Rattle.std.proofs.Common.{◌∙◌, sym, ap, length, arith, subst}
use Rattle.pami_algebra.specs.Fraction.{Fraction}
use Rattle.pami_linear.specs.Lists.{get}
use Rattle.pami_model.specs.declared.list.Column.{Column}
use Rattle.pami_script.specs.Script.{add_product}
use Rattle.pami_script.proofs.Loops.{get_is}
use Rattle.pami_theory.specs.Form.{zero_f}
use Rattle.pami_lines.specs.Certificate.{kept_or_none}
use Rattle.pami_cert.specs.CertText.{MayFit}
use Rattle.pami_model_form.specs.ModelForm.{member}
use Rattle.pami_model_form.proofs.Members.{member_read}
use Rattle.pami_cli.proofs.Objectives.{sum_stops, sum_goes}
use Rattle.pami_cli.proofs.certificate.told_objective.Goals as goal

pub returns-in_err-total-clause-sum : goal.returns-in_err-total-clause-sum
returns-in_err-total-clause-sum c =
    let columns = c.args.columns.now in
    let values = c.args.values.now in
    let k = member_read (λ (column : Column). column.cost) zero_f columns c.loop-j.j c.index-columns-j.result c.loop-j-test.true c.index-columns-j.is in
    let x = get_is values c.loop-j.j c.index-values-j.result (let l = c.loop-j-test.true in let m = c.requires in omega (arith, l, m)) c.index-values-j.is in
    c.from_residual.ensures
    ∙ sum_stops _ (length columns) c.loop-j.j (λ j (t : Fraction). add_product t (member (λ (column : Column). column.cost) zero_f columns j) (get values j)) c.loop-j.total c.loop-j.invariant.0 c.loop-j-test.true
    (sym c.in_err-total.was ∙ c.with_product.ensures.sum ∙ ap (λ z. kept_or_none (add_product c.loop-j.total z c.index-values-j.result)) k ∙ ap (λ z. kept_or_none (add_product c.loop-j.total (member (λ (column : Column). column.cost) zero_f columns c.loop-j.j) z)) x)

pub loop-j-preserved : goal.loop-j-preserved
loop-j-preserved c =
    let columns = c.args.columns.now in
    let values = c.args.values.now in
    let k = member_read (λ (column : Column). column.cost) zero_f columns c.loop-j.j c.index-columns-j.result c.loop-j-test.true c.index-columns-j.is in
    let x = get_is values c.loop-j.j c.index-values-j.result (let l = c.loop-j-test.true in let m = c.requires in omega (arith, l, m)) c.index-values-j.is in (
      sum_goes _ (length columns) c.loop-j.j (λ j (t : Fraction). add_product t (member (λ (column : Column). column.cost) zero_f columns j) (get values j)) c.loop-j.total c.in_ok-total.total c.loop-j.invariant.0 c.loop-j-test.true
          (sym c.in_ok-total.was ∙ c.with_product.ensures.sum ∙ ap (λ z. kept_or_none (add_product c.loop-j.total z c.index-values-j.result)) k ∙ ap (λ z. kept_or_none (add_product c.loop-j.total (member (λ (column : Column). column.cost) zero_f columns c.loop-j.j) z)) x),
      subst MayFit (c.in_ok-total.was) c.with_product.ensures.fits,
    )
