use Rattle.pami_cert.proofs.Placed.{line_there}
use Rattle.pami_cert.proofs.text.Text.line.Goals as goal

pub returns-in-Some-clause-there : goal.returns-in-Some-clause-there
returns-in-Some-clause-there c =
    let found = c.in-Some.ensures.lookup in
    let items = c.as_slice.result.now in
    line_there c.args.self.now.lines.items c.args.self.now.bytes.now c.args.at c.in-Some.line.now c.of.result.now c.args.self.now.pieces
    (rw c.as_slice.ensures.value at found.3.0) (rw c.as_slice.ensures.value at found.1) c.of.ensures
