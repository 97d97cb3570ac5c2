use Rattle.pami_cert.proofs.Placed.{few_lines}
use Rattle.pami_cert.proofs.text.Text.new.Goals as goal

pub invariant_of-result-clause-few : goal.invariant_of-result-clause-few
invariant_of-result-clause-few c = few_lines c.in_ok-lines.lines.items c.args.bytes.now c.in_ok-lines.ensures.pieces c.requires
