use Rattle.pami_examples.proofs.RefusingRun.{refusing_read, refusing_formed, refusing_run, refusing_written}
use Rattle.pami_examples.proofs.refusing.refusing_is_solved.Goals as goal

pub returns : goal.returns
returns c = record { read = refusing_read; formed = refusing_formed; run = refusing_run; written = refusing_written }
