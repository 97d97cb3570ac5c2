use Rattle.pami_words.specs.Words.{read_outcome}
use Rattle.pami_cli.proofs.Runs.{ends_trial}
use Rattle.pami_cli.proofs.CheckRuns.{asked_command, asked_solve, asked_nothing}
use Rattle.pami_cli.proofs.run.run_words.Goals as goal

pub returns-in-Ok-Solve-clause-file_first : goal.returns-in-Ok-Solve-clause-file_first
returns-in-Ok-Solve-clause-file_first g c = λ files command file bytes written told asks reads stands refuses.
    asked_solve (read_outcome c.args.words.now) command file c.in-Ok-Solve.file c.in-Ok-Solve.lp c.in-Ok-Solve.options c.in-Ok-Solve.ranging
    (g.S.Shelf.asked c.solve_file.new.shelf) (rw c.in-Ok-Solve.field-0-is at c.in-Ok-Solve.ensures.command) asks reads c.solve_file.ensures.asked

pub returns-in-Ok-Check-clause-file_first : goal.returns-in-Ok-Check-clause-file_first
returns-in-Ok-Check-clause-file_first g c = λ files command file bytes written told asks reads stands refuses.
    asked_command (read_outcome c.args.words.now) command file c.in-Ok-Check.file c.in-Ok-Check.cert c.in-Ok-Check.lp files bytes written
    (g.S.Shelf.asked c.check_file.new.shelf) (rw c.in-Ok-Check.field-0-is at c.in-Ok-Check.ensures.command) asks reads stands refuses
    (λ s r. c.check_file.ensures.file_first files bytes written told s r)

pub returns-in-Ok-Trial-clause-ends : goal.returns-in-Ok-Trial-clause-ends
returns-in-Ok-Trial-clause-ends g c =
    ends_trial _ c.solve_trial.result c.in-Ok-Trial.seed c.in-Ok-Trial.sources c.in-Ok-Trial.sinks
    (rw c.in-Ok-Trial.field-0-is at c.in-Ok-Trial.ensures.command) c.solve_trial.ensures.ends

pub returns-in-Ok-Trial-clause-file_first : goal.returns-in-Ok-Trial-clause-file_first
returns-in-Ok-Trial-clause-file_first g c = λ files command file bytes written told asks reads stands refuses.
    asked_nothing (g.S.Shelf.asked c.args.shelf.now) file.name c.requires

pub returns-in-Err-Named-clause-file_first : goal.returns-in-Err-Named-clause-file_first
returns-in-Err-Named-clause-file_first g c = λ files command file bytes written told asks reads stands refuses.
    asked_nothing (g.S.Shelf.asked c.args.shelf.now) file.name c.requires

pub returns-in-Err-OutOfMemory-clause-file_first : goal.returns-in-Err-OutOfMemory-clause-file_first
returns-in-Err-OutOfMemory-clause-file_first g c = λ files command file bytes written told asks reads stands refuses.
    asked_nothing (g.S.Shelf.asked c.args.shelf.now) file.name c.requires
