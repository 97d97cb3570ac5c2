use Rattle.pami_model.specs.Contents.{contents}
use Rattle.pami_cert.proofs.Reading.{PairsSoFar}
use Rattle.pami_cert.proofs.read.read_pairs.Given as goal

abbrev pub invariant-loop-i : goal.invariant-loop-i
invariant-loop-i l = PairsSoFar (contents l.model) l.part l.text.bytes.now l.at l.i l.values.items l.others.items
