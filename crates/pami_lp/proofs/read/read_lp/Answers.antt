use Rattle.pami_lp.proofs.Answering as answering
use Rattle.pami_lp.proofs.read.read_lp.Goals as goal

pub returns-clause-accepted : goal.returns-clause-accepted
returns-clause-accepted c = answering.accepted c.args.bytes.now c.read_text.result c.read_text.ensures

pub returns-clause-refused : goal.returns-clause-refused
returns-clause-refused c = answering.refused c.args.bytes.now c.read_text.result c.read_text.ensures

pub returns-clause-only_model : goal.returns-clause-only_model
returns-clause-only_model c = answering.only_model c.args.bytes.now c.read_text.result c.read_text.ensures

pub returns-clause-only_fault : goal.returns-clause-only_fault
returns-clause-only_fault c = answering.only_fault c.args.bytes.now c.read_text.result c.read_text.ensures
