use Rattle.pami_examples.proofs.DroppingRun.{dropping_read, dropping_formed, dropping_run, dropping_written}
use Rattle.pami_examples.proofs.dropping.dropping_is_solved.Goals as goal

pub returns : goal.returns
returns c = record { read = dropping_read; formed = dropping_formed; run = dropping_run; written = dropping_written }
