use Rattle.pami_cert.proofs.PlainLines.{printed_is_text}
use Rattle.pami_cert.proofs.laws.printed_texts_are_certificates.Goals as goal

pub returns : goal.returns
returns c = printed_is_text
