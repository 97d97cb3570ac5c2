use Rattle.std.proofs.Common.{◌∙◌}
use Rattle.pami_model.specs.Contents.{contents}
use Rattle.pami_cli.proofs.Certs.{best_made}
use Rattle.pami_cli.proofs.certificate.best_cert.Goals as goal

pub returns-clause-made : goal.returns-clause-made
returns-clause-made c =
    best_made (contents c.args.model.now) c.args.values.now c.args.reduced.now c.as_slice-columns.result.now c.told_objective.result _ _ _ _
    c.as_slice-columns.ensures c.told_objective.ensures.sum
    (c.in_ok-copied.ensures.same ∙ c.split_at.ensures.front) (c.in_ok-copied-2.ensures.same ∙ c.split_at-2.ensures.front)
    (c.in_ok-copied-3.ensures.same ∙ c.split_at.ensures.back) (c.in_ok-copied-4.ensures.same ∙ c.split_at-2.ensures.back)
