use Rattle.pami_model.specs.Contents.{contents}
use Rattle.pami_mps.specs.Reader.{seen_by_reader}
use Rattle.pami_mps.proofs.Whole.{crossed_fault, accepted}
use Rattle.pami_mps.proofs.read.read_mps.Goals as goal

pub returns-in-Ok-clause-accepted : goal.returns-in-Ok-clause-accepted
returns-in-Ok-clause-accepted c =
    let sense = c.in-Ok.ensures.sense in
    let constant = c.in-Ok.ensures.constant in
    let rows = c.in-Ok.ensures.rows in
    let columns = c.in-Ok.ensures.columns in
    accepted c.args.bytes.now (seen_by_reader c.in_ok-reader.field-0.reader) c.in_ok-reader.field-0.line c.in_ok-reader.ensures.read
    (contents c.in-Ok.model) c.in-Ok.ensures.judged
    (λ i. record { sense = sense i; constant = constant i; rows = rows i; columns = columns i })

pub returns-in-Err-Named-clause-refused : goal.returns-in-Err-Named-clause-refused
returns-in-Err-Named-clause-refused c =
    crossed_fault c.args.bytes.now (seen_by_reader c.in_ok-reader.field-0.reader) c.in_ok-reader.field-0.line c.in_ok-reader.ensures.read c.in-Err-Named.field-0-0 (rw c.in-Err-Named.field-0-is at c.in-Err-Named.ensures.judged)
