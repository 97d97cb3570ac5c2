use Rattle.pami_bfrt.proofs.Ended.{walk_is, walk_found, walk_refused}
use Rattle.pami_bfrt.proofs.walk_laws.walks_follow_the_method.Goals as goal

pub returns-clause-script : goal.returns-clause-script
returns-clause-script c = walk_is

pub returns-clause-found : goal.returns-clause-found
returns-clause-found c = walk_found

pub returns-clause-refused : goal.returns-clause-refused
returns-clause-refused c = walk_refused
