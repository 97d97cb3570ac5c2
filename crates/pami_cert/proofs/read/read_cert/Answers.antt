use Rattle.pami_model.specs.Contents.{contents}
use Rattle.pami_cert.proofs.Answering.{only_certificate, only_fault, printed_read}
use Rattle.pami_cert.proofs.read.read_cert.Goals as goal

pub returns-clause-only_certificate : goal.returns-clause-only_certificate
returns-clause-only_certificate c =
    only_certificate (contents c.args.model.now) c.args.bytes.now c.read_text.result c.read_text.ensures.accepted c.read_text.ensures.refused

pub returns-clause-only_fault : goal.returns-clause-only_fault
returns-clause-only_fault c =
    only_fault (contents c.args.model.now) c.args.bytes.now c.read_text.result c.read_text.ensures.accepted c.read_text.ensures.refused

pub returns-clause-printed : goal.returns-clause-printed
returns-clause-printed c =
    printed_read (contents c.args.model.now) c.args.bytes.now c.read_text.result c.read_text.ensures.accepted c.read_text.ensures.refused
